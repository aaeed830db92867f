-- `fields::picture_at` meets its contract: the picture's rest, from here on, is the picture from the start.
-- Assumes nothing.
use mathlib.Core.Path.{◌≡◌}
use lib.ListN.{drop}
use Rattle.parentheticals.specs.Fields.{picture_at}
use Rattle.parentheticals.proofs.fields.picture_at.Given as goal

abbrev pub invariant-loop-p : goal.invariant-loop-p
invariant-loop-p l = picture_at (drop l.p-index l.picture) l.text l.i ≡ picture_at l.picture l.text l.at
