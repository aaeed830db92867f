-- `Line::go_to` meets its contract: a line before is found by counting back, and one behind by going from line to line.
-- Assumes nothing.
use Prim.Native.Nat.{◌-◌, ◌≤◌}
use lib.ListN.{length}
use Rattle.lines.specs.Cursor.{IsLine}
use Rattle.lines.proofs.cursor.Line.go_to.Given as goal

abbrev pub invariant-loop-here : goal.invariant-loop-here
invariant-loop-here l = IsLine l.buf l.here × (l.here.from ≤ l.to)

abbrev pub decreases-loop-here : goal.decreases-loop-here
decreases-loop-here l = length l.buf - l.here.to
