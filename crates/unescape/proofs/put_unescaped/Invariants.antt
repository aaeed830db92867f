-- `unescape::put_unescaped` meets its contract: what is to come of the unescaped text is the rest of the text, unescaped.
-- Assumes nothing.
use Prim.Native.Nat.{ℕ, ◌-◌}
use mathlib.Core.List.{List}
use lib.ListN.{length, drop}
use Rattle.unescape.specs.Unescape.{is_escape, unescaped}
use Rattle.unescape.specs.declared.Escape.{Escape}
use Rattle.unescape.proofs.Writing.{Writing}
use Rattle.unescape.proofs.put_unescaped.Given as goal

-- the text in the room: all but the rest from i on is written
abbrev pub Wrote : Escape → List ℕ → ℕ → List ℕ → List ℕ → ℕ → Type 0
Wrote kind text i out₀ out n = Writing (unescaped (is_escape kind) text) (unescaped (is_escape kind) (drop i text)) out₀ out n

abbrev pub invariant-loop-from : goal.invariant-loop-from
invariant-loop-from l = Wrote l.kind l.text l.from l.initial.out l.out l.at

abbrev pub decreases-loop-from : goal.decreases-loop-from
decreases-loop-from l = length l.text - l.from
