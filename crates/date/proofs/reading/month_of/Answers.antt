-- `month_of` meets its contract: the place of the name is the month before.
-- Assumes nothing.
use mathlib.Core.Path.{◌≡◌, ap, sym, ◌∙◌}
use native.Mathlib.Omega.{arith}
use Prim.Native.Nat.{◌+◌}
use Rattle.std.specs.Prelude.{Some}
use Rattle.std.specs.Option.{option_map}
use Rattle.date.specs.Months.{month_of}
use Rattle.date.proofs.MonthLaws.{month_place, month_most}
use Rattle.date.proofs.reading.month_of.Goals as goal
use Rattle.date.proofs.reading.month_of.Goals.{In_ok-before}

pub returns-in_err-before : goal.returns-in_err-before
returns-in_err-before c =
    c.from_residual.ensures ∙ ap (option_map (λ before. before + 1)) (sym c.in_err-before.was ∙ c.months_before.ensures) ∙ month_place c.args.a c.args.b c.args.c

-- the month, where the name has a place
named : (c : In_ok-before) → ◌≡◌ (Some (c.in_ok-before.before + 1)) (month_of c.args.a c.args.b c.args.c)
named c = ap (option_map (λ before. before + 1)) (sym c.in_ok-before.was ∙ c.months_before.ensures) ∙ month_place c.args.a c.args.b c.args.c

pub overflow_cast-result : goal.overflow_cast-result
overflow_cast-result c = omega (arith, month_most _ _ _ _ (sym (named (goal.at.overflow_cast-result c).In_ok-before)))

pub overflow_add-result : goal.overflow_add-result
overflow_add-result c = omega (arith, month_most _ _ _ _ (sym (named (goal.at.overflow_add-result c).In_ok-before)))

pub returns : goal.returns
returns c = named (goal.at.returns c).In_ok-before
