-- `matching::next_opening` meets its contract: no byte that it steps over opens anything.
-- Assumes nothing.
use Prim.Native.Nat.{◌-◌}
use lib.ListN.{length}
use Rattle.parentheticals.specs.Inner.{Passed}
use Rattle.parentheticals.proofs.matching.next_opening.Given as goal

abbrev pub invariant-loop-i : goal.invariant-loop-i
invariant-loop-i l = Passed l.text l.from l.i

abbrev pub decreases-loop-i : goal.decreases-loop-i
decreases-loop-i l = length l.text - l.i
