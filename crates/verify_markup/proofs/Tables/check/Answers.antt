-- `Tables::check` meets its contract, table by table.
-- Assumes nothing.
use mathlib.Core.Path.{refl}
use native.Mathlib.Omega.{arith}
use Rattle.std.proofs.lemmas.Result.{err_from_is_err_and}
use Rattle.basics.proofs.Laws.{the_one}
use Rattle.verify_markup.specs.Check.{tables_refusal}
use Rattle.verify_markup.proofs.CheckLaws.{go_on}
use Rattle.verify_markup.proofs.Tables.check.Goals as goal

pub returns-in_err-check : goal.returns-in_err-check
unfolding tables_refusal
returns-in_err-check c =
    let p = err_from_is_err_and c.from_residual.result c.from_residual.ensures.1 in
    rw (p.1, p.2) (the_one _ _ c.in_err-check.ensures)

pub returns-in_err-check-2 : goal.returns-in_err-check-2
unfolding tables_refusal
returns-in_err-check-2 c =
    let p = err_from_is_err_and c.from_residual-in_err-check-2.result c.from_residual-in_err-check-2.ensures.1 in
    rw (p.1, p.2) (go_on c.in_ok-check.ensures (the_one _ _ c.in_err-check-2.ensures))

pub returns-in-Lent : goal.returns-in-Lent
unfolding tables_refusal
returns-in-Lent c = rw c.in-Lent.is (go_on c.in_ok-check.ensures (go_on c.in_ok-check-2.ensures c.check-in-Lent.ensures))

pub returns-in-NotLent : goal.returns-in-NotLent
unfolding tables_refusal
returns-in-NotLent c = rw c.in-NotLent.is (go_on c.in_ok-check.ensures (go_on c.in_ok-check-2.ensures refl))

pub returns-in-NoTagLookup : goal.returns-in-NoTagLookup
unfolding tables_refusal
returns-in-NoTagLookup c = rw c.in-NoTagLookup.is (go_on c.in_ok-check.ensures (go_on c.in_ok-check-2.ensures (grind (arith, c.in_ok-check.ensures))))
