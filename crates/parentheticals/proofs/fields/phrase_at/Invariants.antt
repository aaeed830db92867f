-- `fields::phrase_at` meets its contract: the phrase's rest, from here on, is the phrase from the start.
-- Assumes nothing.
use mathlib.Core.Path.{◌≡◌}
use lib.ListN.{drop}
use Rattle.parentheticals.specs.Fields.{phrase_at}
use Rattle.parentheticals.proofs.fields.phrase_at.Given as goal

abbrev pub invariant-loop-b : goal.invariant-loop-b
invariant-loop-b l = phrase_at (drop l.b-index l.phrase) l.text l.i ≡ phrase_at l.phrase l.text l.at
