-- A loop over the events that lays what each of them gives, at most one record: what holds at its head, a turn, and the end.
-- Assumes nothing.
use Prim.Native.Nat.{ℕ, ◌+◌, ◌*◌, ◌≤◌}
use mathlib.Core.Path.{◌≡◌, ap}
use mathlib.Core.List.{List, [], ◌++◌}
use mathlib.Core.Option.{none, some}
use Rattle.std.specs.Prelude.{Some, Ok}
use native.Mathlib.Omega.{arith}
use lib.ListN.{length}
use Rattle.byte_rules.specs.Reading.{Reading, named}
use Rattle.byte_rules.specs.declared.reading.Reading.{Reading as Name}
use Rattle.scans.specs.declared.Note.{Note}
use Rattle.records.specs.Answer.{longest}
use Rattle.records.specs.Records.{laid, wrote_of}
use Rattle.records.specs.declared.Wrote.{Wrote}
use Rattle.records.proofs.Laws.{Wide}
use Rattle.records.proofs.Laying.{Laying, tail, back, laying_starts, laying_wrote}
use Rattle.comment_parser.specs.State.{Accepted, fresh}
use Rattle.comment_parser.specs.Events.{left, seen, events_from}
use Rattle.comment_parser.specs.Notes.{NextBy}
use Rattle.comment_parser.specs.declared.CommentItem.{CommentItem}
use Rattle.comment_parser.specs.declared.Next.{Next}
use Rattle.scans.specs.declared.Noted.{Noted}
use Rattle.comment_parser.specs.declared.ParserState.{ParserState}
use Rattle.comment_parser.proofs.Events.{events_on, events_end}
use Rattle.comment_parser.proofs.ItemsLaid.{Gives}
use Rattle.comment_parser.proofs.Along.{Along, along_starts, along_event, along_less, along_accepted, along_on}

-- what an event gives, at most one record of k words, and the records from a state on
pub record Giving (rd : Reading) (k : ℕ) (buf : List ℕ) (give : CommentItem → List (List ℕ)) (rest : ParserState → List (List ℕ)) : Type 0 where
  pub wide : (i : CommentItem) → Wide k (give i)
  pub one : (i : CommentItem) → length (give i) ≤ 1
  pub on : (st : ParserState) (i : CommentItem) (t : ParserState) → seen rd buf st ≡ some (i, t) → rest st ≡ give i ++ rest t
  pub over : (st : ParserState) → seen rd buf st ≡ none → rest st ≡ []

-- what gives the records of a list of events, as a loop over the iterator lays them, gives those from a state on
pub gives_along : (rd : Reading) {k : ℕ} (buf : List ℕ) {give : CommentItem → List (List ℕ)} {records : List CommentItem → List (List ℕ)} → Gives k give records
    → Giving rd k buf give (λ (st : ParserState). records (events_from rd buf st))
gives_along rd buf gives = record {
  wide = gives.wide;
  one = gives.one;
  on = λ st i t h. rw (events_on rd buf st i t h) (gives.on i (events_from rd buf t));
  over = λ st h. rw (events_end rd buf st h) gives.over;
}

-- at the loop's head: the records from here on are to be laid behind those before, and the count fits
pub record Going (rd : Reading) (k : ℕ) (buf : List ℕ) (rest : ParserState → List (List ℕ)) (all : List (List ℕ)) (out₀ out : List ℕ) (st : ParserState) (note : Note) (at n : ℕ) : Type 0 where
  pub along : Along rd buf st note
  pub accepted : Accepted buf st
  pub few : n + left st ≤ 2 * longest
  pub laying : Laying k all (rest st) out₀ out at n

pub going_starts : (name : Name) (k : ℕ) (buf : List ℕ) (rest : ParserState → List (List ℕ)) (start end : ℕ) (out : List ℕ) (note : Note) → note.to ≡ 0 → Accepted buf (fresh name start end)
    → Going (named name) k buf rest (rest (fresh name start end)) out out (fresh name start end) note 0 0
going_starts name k buf rest start end out note z h =
    record { along = along_starts name buf start end note z; accepted = h; few = omega (arith, h.short, h.fits); laying = laying_starts k (rest (fresh name start end)) out }

module _ {rd : Reading} {k : ℕ} {buf : List ℕ} {give : CommentItem → List (List ℕ)} {rest : ParserState → List (List ℕ)} (giving : Giving rd k buf give rest)
    {all : List (List ℕ)} {out₀ out : List ℕ} {st : ParserState} {note : Note} {at n : ℕ} (g : Going rd k buf rest all out₀ out st note at n) where
  -- a turn: what an event gives was laid in the tail, and `last` is the tail since
  pub going_on :
      {r : Noted Next} → NextBy buf st note (Ok r)
      → {i : CommentItem} → r.value.item ≡ Some i
      → {w : Wrote} → w ≡ wrote_of k (give i) (length (tail at out))
      → {last : List ℕ} → last ≡ laid k (give i) (tail at out)
      → (at + w.words ≤ length out) × Going rd k buf rest all out₀ (back at out last) r.value.state r.note (at + w.words) (n + w.count)
  going_on {r} says {i} e {w} wrote {last} is =
      let less = (along_less g.along says e).less in
      let one = giving.one i in
      let count = ap (λ (x : Wrote). x.count) wrote in
      let to_come_lem = rw (giving.on st i r.value.state (along_event g.along says e)) at g.laying in
      let lies = laying_wrote (give i) (rest r.value.state) last to_come_lem (giving.wide i) is w wrote in
      (lies.0, record { along = along_on g.along says e; accepted = along_accepted g.along says e; few = omega (arith, g.few); laying = lies.1 })

  -- the end: nothing is to come
  pub going_ends : seen rd buf st ≡ none → Laying k all [] out₀ out at n
  going_ends h = rw (giving.over st h) at g.laying
