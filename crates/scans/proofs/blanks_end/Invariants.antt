-- The blanks from here on end where those from the start do.
use Rattle.std.proofs.Common.{◌-◌, ◌≡◌, length}
use Rattle.scans.specs.Ends.{blanks_end}
use Rattle.scans.proofs.blanks_end.Given as goal

abbrev pub invariant-loop-i : goal.invariant-loop-i
invariant-loop-i l = blanks_end l.text l.from ≡ blanks_end l.text l.i

abbrev pub decreases-loop-i : goal.decreases-loop-i
decreases-loop-i l = length l.text - l.i
