-- What two of the code's own functions promise or ask. Document 01 speaks of none of it.
use Rattle.std.specs.Prelude.{ℕ, ◌<◌, ◌≤◌, Bool, List, length, get_or, ◌≡◌, Option, Some, None}
use Rattle.records.specs.Answer.{longest}
use Rattle.scans.specs.Marks.{lparen}
use Rattle.parentheticals.specs.Matching.{next_from}
use Rattle.parentheticals.specs.Records.{author_of, date_of}
use Rattle.parentheticals.specs.declared.Found.{Found}

-- a search that is at i may go on at r, whatever bytes a reading bars
pub record Passed (s : List ℕ) (i r : ℕ) : Type 0 where
  pub same : (bars : ℕ → Bool) → next_from bars s i ≡ next_from bars s r
  pub onward : i ≤ r

-- it may go on at the `(` at r
pub record OpensAt (s : List ℕ) (i r : ℕ) : Type 0 where
  pub passed : Passed s i r
  pub inside : r < length s
  pub opened : get_or s r 0 ≡ lparen

-- what the search for the next `(` answers: its place, or that nothing is found any more
abbrev pub Opens : List ℕ → ℕ → Option ℕ → Type 0
Opens s i (Some r) = OpensAt s i r
Opens s i None = (bars : ℕ → Bool) → next_from bars s i ≡ None

-- the places of a parenthetical fit a record's words
pub record InWords (f : Found) : Type 0 where
  pub whole : (f.whole.start ≤ longest) × (f.whole.end ≤ longest)
  pub author : ((author_of f.item).start ≤ longest) × ((author_of f.item).end ≤ longest)
  pub date : ((date_of f.item).start ≤ longest) × ((date_of f.item).end ≤ longest)
