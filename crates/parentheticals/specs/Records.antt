-- The records of a span's parentheticals, and the list call (document 01, "Credits and dates" and "Answer numbers").
use Rattle.std.specs.Prelude.{ℕ, List, [], ◌∷◌, map, length, take}
use Rattle.basics.specs.declared.Span.{Span}
use Rattle.byte_rules.specs.Reading.{Reading}
use Rattle.records.specs.Answer.{Answer, span_refusal}
use Rattle.records.specs.Records.{list_answer, list_left}
use Rattle.parentheticals.specs.Matching.{span, matches_from}
use Rattle.parentheticals.specs.declared.Parenthetical.{Parenthetical}
use Rattle.parentheticals.specs.declared.Parenthetical.TheVariants.{ContributedBy, RevisedBy, ProofShortenedBy}
use Rattle.parentheticals.specs.declared.Parenthetical.TheVariants.{ProofModificationDiscouraged, NewUsageDiscouraged}
use Rattle.parentheticals.specs.declared.Found.{Found}

-- kinds 1 to 5 in the enum's order
abbrev pub kind_of : Parenthetical → ℕ
kind_of (ContributedBy author date) = 1
kind_of (RevisedBy author date) = 2
kind_of (ProofShortenedBy author date) = 3
kind_of ProofModificationDiscouraged = 4
kind_of NewUsageDiscouraged = 5

-- the author and the date; zeros for a notice
abbrev pub author_of : Parenthetical → Span
author_of (ContributedBy author date) = author
author_of (RevisedBy author date) = author
author_of (ProofShortenedBy author date) = author
author_of ProofModificationDiscouraged = span 0 0
author_of NewUsageDiscouraged = span 0 0

abbrev pub date_of : Parenthetical → Span
date_of (ContributedBy author date) = date
date_of (RevisedBy author date) = date
date_of (ProofShortenedBy author date) = date
date_of ProofModificationDiscouraged = span 0 0
date_of NewUsageDiscouraged = span 0 0

-- kind, then start and end of the whole, the author and the date
abbrev pub record_words : ℕ → Span → Span → Span → List ℕ
record_words k whole author date = k ∷ whole.start ∷ whole.end ∷ author.start ∷ author.end ∷ date.start ∷ date.end ∷ []

abbrev pub record_of : Found → List ℕ
record_of f = record_words (kind_of f.item) f.whole (author_of f.item) (date_of f.item)

abbrev pub record_width : ℕ
record_width = 7

-- the parentheticals of a span: what is matched sees the buffer up to the span's end, from its start on
abbrev pub parentheticals_of : Reading → List ℕ → ℕ → ℕ → List Found
parentheticals_of r buf start end = matches_from r.bars_author (take end buf) start

abbrev pub records_of : Reading → List ℕ → ℕ → ℕ → List (List ℕ)
records_of r buf start end = map record_of (parentheticals_of r buf start end)

abbrev pub parentheticals_answer : Reading → List ℕ → ℕ → ℕ → ℕ → Answer
parentheticals_answer r buf start end room = list_answer (span_refusal (length buf) start end) record_width (records_of r buf start end) room

abbrev pub parentheticals_left : Reading → List ℕ → ℕ → ℕ → List ℕ → List ℕ
parentheticals_left r buf start end room = list_left (span_refusal (length buf) start end) record_width (records_of r buf start end) room
