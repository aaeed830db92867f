-- A blank is stepped over, and where none stands the loop has come to the end.
use Rattle.std.proofs.Common.{arith, sym, ◌∙◌}
use Rattle.look.proofs.Laws.{blank_within}
use Rattle.scans.proofs.EndLaws.{blanks_on, blanks_over}
use Rattle.scans.proofs.blanks_end.Goals as goal

pub overflow_add-i : goal.overflow_add-i
overflow_add-i c = omega (arith, blank_within c.args.text.now c.loop-i.i (sym c.blank_at.ensures ∙ c.loop-i-test.true), c.well_formed)

pub loop-i-smaller : goal.loop-i-smaller
loop-i-smaller c = omega (arith, blank_within c.args.text.now c.loop-i.i (sym c.blank_at.ensures ∙ c.loop-i-test.true))

pub loop-i-preserved : goal.loop-i-preserved
loop-i-preserved c = c.loop-i.invariant ∙ blanks_on c.args.text.now c.loop-i.i (sym c.blank_at.ensures ∙ c.loop-i-test.true)

pub returns : goal.returns
returns c = c.min.ensures ∙ sym (c.loop-i.invariant ∙ blanks_over c.args.text.now c.loop-i.i (sym c.blank_at.ensures ∙ c.loop-i-test.false))
