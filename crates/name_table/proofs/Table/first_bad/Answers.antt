-- `Table::first_bad` meets its contract. The loop's invariant: the check from entry i on is the check of the table.
-- Assumes nothing.
use mathlib.Core.Path.{sym, ◌∙◌}
use native.Mathlib.Omega.{arith}
use Rattle.name_table.proofs.TableLaws.{check_starts, check_stops, check_goes, check_ends, check_gap}
use Rattle.name_table.proofs.Table.first_bad.Goals as goal

pub loop-i-init : goal.loop-i-init
loop-i-init c = check_starts _ _

pub returns-then-bad_at : goal.returns-then-bad_at
returns-then-bad_at c =
    sym (check_stops _ _ _ _ c.loop-i-test.true (sym c.bad_at.ensures ∙ c.if-bad_at.true)) ∙ c.loop-i.invariant

pub loop-i-preserved : goal.loop-i-preserved
loop-i-preserved c =
    sym (check_goes _ _ _ _ c.loop-i-test.true (sym c.bad_at.ensures ∙ c.if-bad_at.false)) ∙ c.loop-i.invariant

pub returns-then-start_of-self : goal.returns-then-start_of-self
returns-then-start_of-self c =
    sym (check_ends _ _ _ _ (omega arith) (sym c.start_of.ensures ∙ c.if-start_of-self.true)) ∙ c.loop-i.invariant

pub returns-else-start_of-self : goal.returns-else-start_of-self
returns-else-start_of-self c =
    sym (check_gap _ _ _ _ (omega arith) (λ e. c.if-start_of-self.false (c.start_of.ensures ∙ e))) ∙ c.loop-i.invariant
