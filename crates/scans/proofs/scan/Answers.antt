-- `scans::scan` meets its contract: the scan from here stops where the scan from the start does.
-- Assumes nothing.
use mathlib.Core.Path.{sym, ◌∙◌}
use Rattle.scans.proofs.Laws.{scan_end, scan_one, scan_two, scan_stop}
use Rattle.scans.proofs.scan.Goals as goal

pub loop-i-preserved-in-One : goal.loop-i-preserved-in-One
loop-i-preserved-in-One g c = λ step says. c.loop-i.invariant step says ∙ scan_one step _ _ c.loop-i-test.true (sym (says _ _ c.rule.ensures) ∙ c.in-One.is)

pub loop-i-preserved : goal.loop-i-preserved
loop-i-preserved g c = λ step says. c.loop-i.invariant step says ∙ scan_two step _ _ c.loop-i-test.true (sym (says _ _ c.rule.ensures) ∙ c.in-Two.is)

pub returns-in-Stop : goal.returns-in-Stop
returns-in-Stop g c = λ step says. sym (c.loop-i.invariant step says ∙ scan_stop step _ _ c.loop-i-test.true (sym (says _ _ c.rule.ensures) ∙ c.in-Stop.is))

pub returns : goal.returns
returns g c = λ step says. sym (c.loop-i.invariant step says ∙ scan_end step _ _ c.loop-i-test.false)
