-- `after_lf` meets its contract. The invariant: what is found from here back is what is found from the LF back.
-- Assumes nothing.
use Prim.Native.Nat.{◌-◌, ◌≤◌}
use mathlib.Core.Path.{◌≡◌}
use Rattle.comment_parser.specs.Rules.{after_lf}
use Rattle.comment_parser.proofs.rules.Here.after_lf.Given as goal

abbrev pub invariant-loop-i : goal.invariant-loop-i
invariant-loop-i l = (l.from ≤ l.i) × (after_lf l.text (l.p - l.from) l.p ≡ after_lf l.text (l.i - l.from) l.i)

abbrev pub decreases-loop-i : goal.decreases-loop-i
decreases-loop-i l = l.i
