-- `plain_end` meets its contract. The invariant of the loop: the scan from here ends where the scan from the start does.
-- Assumes nothing.
use mathlib.Core.Path.{◌∙◌}
use Rattle.scans.proofs.PlainLaws.{over_8}
use Rattle.scans.proofs.plain.plain_end.Goals as goal

pub loop-i-preserved : goal.loop-i-preserved
loop-i-preserved c = c.loop-i.invariant ∙ over_8 _ _ (c.plain_8.ensures c.loop-i-test.true)
