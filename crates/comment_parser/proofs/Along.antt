-- A loop over the events that hands the note on from call to call: what holds along the way, and what each answer tells.
-- Assumes nothing.
use Prim.Native.Nat.{ℕ}
use mathlib.Core.Path.{◌≡◌, refl, ap, sym, ◌∙◌}
use mathlib.Core.List.{List}
use mathlib.Core.Option.{none, some}
use native.Mathlib.Omega.{arith}
use lib.ListN.{length, take}
use Rattle.std.specs.Prelude.{Option as Maybe, Some, None, Ok, Err}
use Rattle.basics.proofs.Laws.{differ}
use Rattle.records.specs.Answer.{longest}
use Rattle.records.specs.declared.Refusal.{Refusal}
use Rattle.records.proofs.Answers.{state_good}
use Rattle.byte_rules.specs.Reading.{Reading, named}
use Rattle.byte_rules.specs.declared.reading.Reading.{Reading as Name}
use Rattle.scans.specs.Notes.{Holds, IsNoted}
use Rattle.scans.specs.declared.Note.{Note}
use Rattle.scans.proofs.TagLaws.{holds_nothing}
use Rattle.comment_parser.specs.Item.{placed_of}
use Rattle.comment_parser.specs.Bounds.{Within}
use Rattle.comment_parser.specs.State.{Accepted, fresh}
use Rattle.comment_parser.specs.Next.{given_as, answered}
use Rattle.comment_parser.specs.Events.{paired, seen}
use Rattle.comment_parser.specs.Notes.{NextBy}
use Rattle.comment_parser.specs.declared.CommentItem.{CommentItem}
use Rattle.comment_parser.specs.declared.Next.{Next}
use Rattle.scans.specs.declared.Noted.{Noted}
use Rattle.comment_parser.specs.declared.ParserState.{ParserState}
use Rattle.comment_parser.proofs.Turns.{GoesOn}
use Rattle.comment_parser.proofs.Events.{next_is, seen_on, stays_accepted}
use Rattle.comment_parser.proofs.Reached.{Reached, Lies, fresh_reached, seen_lies}

-- what the answer to a state that is not refused tells, though it was not checked
pub within_says : {buf : List ℕ} {st : ParserState} {note : Note} {r : Noted Next} → Accepted buf st
    → (Holds (take st.end buf) note → IsNoted (take st.end buf) (answered (named st.reading) buf st) r) → NextBy buf st note (Ok r)
within_says {buf} {st} {note} {r} k says =
    record {
      refuses = λ a e. let good = state_good (length buf) st.pos st.end k.short k.inside k.fits in absurd (differ cc);
      reads = λ h. let given = says h in record { is = ap given_as given.is ∙ sym (next_is _ buf st k); holds = given.holds };
    }

-- what `next_noted` promises of its answer, by a note that holds
module _ {buf : List ℕ} {st : ParserState} {note : Note} {r : Noted Next} (holds : Holds (take st.end buf) note) (says : NextBy buf st note (Ok r)) where
  pub told_seen : (o : Maybe CommentItem) → r.value.item ≡ o → seen (named st.reading) buf st ≡ paired o r.value.state
  unfolding seen
  told_seen o e = rw (← (says.reads holds).is, e)

  -- an event: less is to come, and the state and the note after it are good to go on with
  module _ {i : CommentItem} (e : r.value.item ≡ Some i) where
    pub told_less : GoesOn st r.value.state
    told_less = seen_on (named st.reading) buf st (i, r.value.state) (told_seen (Some i) e)

    pub told_accepted : Accepted buf r.value.state
    told_accepted = stays_accepted (named st.reading) buf st (i, r.value.state) (told_seen (Some i) e)

    pub told_noted : Holds (take r.value.state.end buf) r.note
    told_noted = rw told_less.same_end (says.reads holds).holds

-- a state on the way, in the reading that it names, with the note to go on with
pub record Along (rd : Reading) (buf : List ℕ) (st : ParserState) (note : Note) : Type 0 where
  pub reads : named st.reading ≡ rd
  pub reached : Reached st
  pub noted : Holds (take st.end buf) note

pub along_starts : (name : Name) (buf : List ℕ) (start end : ℕ) (note : Note) → note.to ≡ 0 → Along (named name) buf (fresh name start end) note
along_starts name buf start end note z = record { reads = refl; reached = fresh_reached name start end; noted = holds_nothing (take end buf) note z }

-- where none is given, as where a `let .. else` takes the else
none_given : (o : Maybe CommentItem) (t : ParserState) → ((i : CommentItem) → o ≡ Some i → ⊥) → paired o t ≡ none
none_given (Some i) t h = absurd (h i refl)
none_given None t h = refl

-- where a state is refused none is seen
pub along_refused : {rd : Reading} {buf : List ℕ} {st : ParserState} {note : Note} {why : Refusal} → Along rd buf st note → NextBy buf st note (Err why) → seen rd buf st ≡ none
unfolding seen
along_refused a says = rw (← a.reads, ← (says.reads a.noted).is) refl

-- the same along the way
module _ {rd : Reading} {buf : List ℕ} {st : ParserState} {note : Note} {r : Noted Next} (a : Along rd buf st note) (says : NextBy buf st note (Ok r)) where
  along_seen : (o : Maybe CommentItem) → r.value.item ≡ o → seen rd buf st ≡ paired o r.value.state
  along_seen o e = rw (← a.reads) (told_seen a.noted says o e)

  pub along_end : ((i : CommentItem) → r.value.item ≡ Some i → ⊥) → seen rd buf st ≡ none
  along_end k = along_seen r.value.item refl ∙ none_given r.value.item r.value.state k

  -- an event: it is seen, less is to come, its numbers fit a word, it lies in the buffer, and the way goes on from the state after it
  module _ {i : CommentItem} (e : r.value.item ≡ Some i) where
    pub along_event : seen rd buf st ≡ some (i, r.value.state)
    along_event = along_seen (Some i) e

    pub along_less : GoesOn st r.value.state
    along_less = told_less a.noted says e

    lies : Lies i r.value.state
    lies = seen_lies rd buf st (i, r.value.state) along_event a.reached

    pub along_accepted : Accepted buf r.value.state
    along_accepted = told_accepted a.noted says e

    pub along_within : Within 0 longest (placed_of i)
    along_within =
        let k = along_accepted in
        record { above = omega arith; placed = lies.within.placed; ordered = lies.within.ordered; below = omega (arith, lies.within.below, k) }

    pub along_inside : Within 0 (length buf) (placed_of i)
    along_inside =
        let k = along_accepted in
        record { above = omega arith; placed = lies.within.placed; ordered = lies.within.ordered; below = omega (arith, lies.within.below, k.inside, k.fits) }

    pub along_on : Along rd buf r.value.state r.note
    along_on = record { reads = ap named along_less.same_reading ∙ a.reads; reached = lies.reached; noted = told_noted a.noted says e }
