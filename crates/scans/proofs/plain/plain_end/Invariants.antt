-- `plain_end` meets its contract. The invariant of the loop: the scan from here ends where the scan from the start does.
-- Assumes nothing.
use Prim.Native.Nat.{◌-◌}
use mathlib.Core.Path.{◌≡◌}
use lib.ListN.{length}
use Rattle.scans.specs.Plain.{plain_end}
use Rattle.scans.proofs.plain.plain_end.Given as goal

abbrev pub invariant-loop-i : goal.invariant-loop-i
invariant-loop-i l = plain_end l.text l.from ≡ plain_end l.text l.i

abbrev pub decreases-loop-i : goal.decreases-loop-i
decreases-loop-i l = length l.text - l.i
