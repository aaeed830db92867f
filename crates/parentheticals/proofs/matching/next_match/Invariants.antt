-- `matching::next_match` meets its contract. Of the candidates: the search from here on is the search from the start, and the field that
-- was left is barren. Of the field: one that starts on its way, behind a space, ends like it. Each way out by the label owes that the
-- candidate matched nothing.
-- The field's loop leaves the place where the search goes on as it is: it is said, so that an edit that moves it there is refused only
-- by the candidate's own fact.
-- Assumes nothing.
use mathlib.Core.Path.{◌≡◌}
use Prim.Native.Nat.{◌+◌, ◌-◌, ◌≤◌}
use lib.ListN.{length}
use Rattle.byte_rules.specs.Reading.{named}
use Rattle.parentheticals.specs.Matching.{next_from}
use Rattle.parentheticals.proofs.Authors.{Way}
use Rattle.parentheticals.proofs.Candidates.{LeftBarren}
use Rattle.parentheticals.proofs.matching.next_match.Given as goal

abbrev pub invariant-field : goal.invariant-field
invariant-field l = (l.start ≤ l.i) × Way (named l.reading).bars_author l.text l.start l.i × (l.at ≡ l.opening + 1)

abbrev pub decreases-field : goal.decreases-field
decreases-field l = length l.text - l.i

abbrev pub invariant-candidates : goal.invariant-candidates
invariant-candidates l = (next_from (named l.reading).bars_author l.text l.at ≡ next_from (named l.reading).bars_author l.text l.from) × LeftBarren (named l.reading).bars_author l.text l.left

abbrev pub decreases-candidates : goal.decreases-candidates
decreases-candidates l = length l.text - l.at
