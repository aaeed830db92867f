-- `line_end` meets its contract: no LF stands from `from` to where the search has come.
-- Assumes nothing.
use Prim.Native.Nat.{◌-◌}
use lib.ListN.{length}
use Rattle.lines.specs.Cursor.{Clear}
use Rattle.lines.proofs.cursor.line_end.Given as goal

abbrev pub invariant-loop-far : goal.invariant-loop-far
invariant-loop-far l = Clear l.buf l.from l.far

abbrev pub decreases-loop-far : goal.decreases-loop-far
decreases-loop-far l = length l.buf - l.far
