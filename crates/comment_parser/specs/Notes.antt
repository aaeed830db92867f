-- What the functions that go by a note about tags answer, if the note holds: what the definitions without a note say, and a note that holds.
use Rattle.std.specs.Prelude.{ℕ, ◌≤◌, ◌≡◌, Result, Ok, Err, List, length, take}
use Rattle.std.proofs.Math.Option.{some}
use Rattle.records.specs.Answer.{Answer, state_refusal}
use Rattle.records.specs.declared.Refusal.{Refusal}
use Rattle.byte_rules.specs.Reading.{Reading, named}
use Rattle.scans.specs.Scan.{scan}
use Rattle.scans.specs.Notes.{Holds}
use Rattle.scans.specs.declared.Note.{Note}
use Rattle.comment_parser.specs.Pass.{pass_step}
use Rattle.comment_parser.specs.Next.{Outcome, step_answer, refused_as, next_of}
use Rattle.comment_parser.specs.declared.ParserState.{ParserState}
use Rattle.comment_parser.specs.declared.Next.{Next}
use Rattle.scans.specs.declared.Noted.{Noted}

-- an answer of `next_noted`: that of `next`, and the note to go on with. A refusal leaves the note as given
abbrev pub answer_of : ParserState → Result (Noted Next) Refusal → Outcome
answer_of st (Ok r) = step_answer st (Ok r.value)
answer_of st (Err r) = step_answer st (Err r)

abbrev pub note_of : Note → Result (Noted Next) Refusal → Note
note_of note (Ok r) = r.note
note_of note (Err r) = note

pub record Answers (s : List ℕ) (st : ParserState) (note : Note) (a : Outcome) (r : Result (Noted Next) Refusal) : Type 0 where
  pub is : answer_of st r ≡ a
  pub holds : Holds s (note_of note r)

-- a refusal, and the note as given
pub record Refuses (st : ParserState) (note : Note) (a : Answer) (r : Result (Noted Next) Refusal) : Type 0 where
  pub is : answer_of st r ≡ refused_as st a
  pub same : note_of note r ≡ note

-- what `next_noted` answers: a state is refused whatever the note is, and else read, in the reading that it names, by a note that holds
pub record NextBy (buf : List ℕ) (st : ParserState) (note : Note) (r : Result (Noted Next) Refusal) : Type 0 where
  pub refuses : (a : Answer) → state_refusal (length buf) st.pos st.end ≡ some a → Refuses st note a r
  pub reads : Holds (take st.end buf) note → Answers (take st.end buf) st note (next_of (named st.reading) buf st) r

-- a run that is at p may go on at r, in any reading
pub record Skipped (s : List ℕ) (st : ParserState) (p r : ℕ) : Type 0 where
  pub over : (rd : Reading) (from : ℕ) → scan (pass_step rd s st from) (length s) p ≡ scan (pass_step rd s st from) (length s) r
  pub onward : (k : ℕ) → k ≤ p → k ≤ length s → k ≤ r
