-- `fields::space_end` meets its contract: the spaces from here on end where those from the start do.
-- Assumes nothing.
use mathlib.Core.Path.{◌≡◌}
use Prim.Native.Nat.{◌-◌}
use lib.ListN.{length}
use Rattle.parentheticals.specs.Fields.{space_end}
use Rattle.parentheticals.proofs.fields.space_end.Given as goal

abbrev pub invariant-loop-i : goal.invariant-loop-i
invariant-loop-i l = space_end l.text l.i ≡ space_end l.text l.at

abbrev pub decreases-loop-i : goal.decreases-loop-i
decreases-loop-i l = length l.text - l.i
