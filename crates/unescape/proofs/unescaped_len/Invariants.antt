-- `unescape::unescaped_len` meets its contract: what is counted and what is to come make up the whole.
-- Assumes nothing.
use Prim.Native.Nat.{◌+◌, ◌-◌}
use mathlib.Core.Path.{◌≡◌}
use lib.ListN.{length, drop}
use Rattle.unescape.specs.Unescape.{is_escape, unescaped}
use Rattle.unescape.proofs.unescaped_len.Given as goal

abbrev pub invariant-loop-i : goal.invariant-loop-i
invariant-loop-i l = l.n + length (unescaped (is_escape l.kind) (drop l.i l.text)) ≡ length (unescaped (is_escape l.kind) l.text)

abbrev pub decreases-loop-i : goal.decreases-loop-i
decreases-loop-i l = length l.text - l.i
