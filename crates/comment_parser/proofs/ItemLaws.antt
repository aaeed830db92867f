-- Along the events of a span: the first state is accepted, and what a step gives is the first of what was left.
-- Assumes nothing.
use Prim.Native.Nat.{ℕ}
use mathlib.Core.Path.{◌≡◌, sym, ap}
use mathlib.Core.List.{List, [], ◌∷◌}
use mathlib.Core.Option.{none}
use lib.ListN.{length, take}
use Rattle.std.specs.Prelude.{Some, None, Ok}
use Rattle.records.specs.Answer.{span_refusal}
use Rattle.records.proofs.Answers.{span_accepted}
use Rattle.byte_rules.specs.Reading.{named}
use Rattle.byte_rules.specs.declared.reading.Reading.{Reading as Name}
use Rattle.scans.specs.declared.Note.{Note}
use Rattle.comment_parser.specs.State.{Accepted, fresh}
use Rattle.comment_parser.specs.Next.{answered}
use Rattle.comment_parser.specs.Events.{events_from}
use Rattle.comment_parser.specs.Notes.{NextBy}
use Rattle.scans.specs.Notes.{Holds, IsNoted}
use Rattle.comment_parser.specs.declared.CommentItem.{CommentItem}
use Rattle.comment_parser.specs.declared.Next.{Next}
use Rattle.scans.specs.declared.Noted.{Noted}
use Rattle.comment_parser.specs.declared.ParserState.{ParserState}
use Rattle.comment_parser.proofs.Events.{events_on, events_end}
use Rattle.comment_parser.proofs.Along.{within_says, told_seen, told_less, told_accepted, told_noted}

-- the fresh state of a span that is not refused
pub fresh_accepted : (name : Name) (buf : List ℕ) (start end : ℕ) → none ≡ span_refusal (length buf) start end → Accepted buf (fresh name start end)
fresh_accepted name buf start end good = let a = span_accepted (length buf) start end (sym good) in record { short = a.0; inside = a.1; fits = a.2 }

module _ (buf : List ℕ) (st : ParserState) (note : Note) (r : Noted Next) (ok : Accepted buf st) (holds : Holds (take st.end buf) note)
    (read : Holds (take st.end buf) note → IsNoted (take st.end buf) (answered (named st.reading) buf st) r) where
  says : NextBy buf st note (Ok r)
  says = within_says ok read

  -- an event: it is the first of what was left, and the state and the note after it are good to go on with
  module _ (i : CommentItem) (e : r.value.item ≡ Some i) where
    pub item_first : events_from (named st.reading) buf st ≡ i ∷ events_from (named r.value.state.reading) buf r.value.state
    item_first = rw (ap named (told_less holds says e).same_reading) (events_on (named st.reading) buf st i r.value.state (told_seen holds says (Some i) e))

    pub item_accepted : Accepted buf r.value.state
    item_accepted = told_accepted holds says e

    pub item_noted : Holds (take r.value.state.end buf) r.note
    item_noted = told_noted holds says e

  -- none: nothing was left
  pub no_item : r.value.item ≡ None → events_from (named st.reading) buf st ≡ []
  no_item e = events_end (named st.reading) buf st (told_seen holds says None e)
