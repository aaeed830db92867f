-- The event records, an event at a time: each event gives its record. With their lines, which fit a word, they are the records of the span.
-- Assumes nothing.
use Prim.Native.Nat.{ℕ, ◌≤◌}
use mathlib.Core.Path.{◌≡◌, refl, sym, ap, subst, ◌∙◌}
use mathlib.Core.List.Memᴰ
use mathlib.Core.List.{List, [], ◌∷◌, map}
use mathlib.Core.Option.{none}
use native.Mathlib.Omega.{arith}
use lib.ListN.{length, take, get_or, length-take}
use lib.Seq.{get_or-take}
use Rattle.basics.specs.Member.{In}
use Rattle.byte_rules.specs.Reading.{Reading, named}
use Rattle.byte_rules.specs.declared.reading.Reading.{Reading as Name}
use Rattle.look.proofs.Laws.{byte_within, byte_is}
use Rattle.scans.specs.Marks.{under}
use Rattle.records.specs.Answer.{longest, span_refusal}
use Rattle.records.specs.Records.{laid}
use Rattle.records.proofs.Laws.{Wide}
use Rattle.records.proofs.Answers.{span_accepted}
use Rattle.lines.specs.Lines.{filled}
use Rattle.lines.proofs.Laws.{Fits, fits_inside, fits_behind}
use Rattle.lines.proofs.Filling.{AllFit, lined_counted, lined_laid}
use Rattle.comment_parser.specs.Item.{placed_of}
use Rattle.comment_parser.specs.State.{fresh}
use Rattle.comment_parser.specs.Events.{events_of}
use Rattle.comment_parser.specs.Places.{PlaceOf, at_byte, at_end_case}
use Rattle.comment_parser.specs.declared.CommentItem.{CommentItem}
use Rattle.comment_parser.proofs.Events.{events_start}
use Rattle.comment_parser.proofs.Giving.{Giving, gives_along}
use Rattle.comment_parser.proofs.ItemsLaid.{Gives}
use Rattle.comment_parser.proofs.Places.{every_place}
use Rattle.events.specs.Events.{event_width, placed_record, placed_from, placed_records, event_records}

-- each event gives its record
pub records_give : Gives event_width (λ (i : CommentItem). placed_record i ∷ []) (map placed_record)
records_give = record { wide = λ i. (refl, tt); one = λ i. omega arith; on = λ i is. refl; over = refl }

-- the records of a span are those of its events, one of each
records_are : (rd : Reading) (buf : List ℕ) (start end : ℕ) → map placed_record (events_of rd buf start end) ≡ placed_records rd buf start end
records_are rd buf start end = refl

-- the same of the events from a state on, and the records of a span are those from a fresh start on
pub records_given : (rd : Reading) (buf : List ℕ) → Giving rd event_width buf (λ (i : CommentItem). placed_record i ∷ []) (placed_from rd buf)
records_given rd buf = gives_along rd buf records_give

pub records_start : (name : Name) (buf : List ℕ) (start end : ℕ) → placed_from (named name) buf (fresh name start end) ≡ placed_records (named name) buf start end
records_start name buf start end = ap (map placed_record) (events_start name buf start end) ∙ records_are (named name) buf start end

records_wide : (is : List CommentItem) → Wide event_width (map placed_record is)
records_wide [] = tt
records_wide (i ∷ is) = (refl, records_wide is)

-- ---- lines

module _ (rd : Reading) (buf : List ℕ) (short : length buf ≤ longest) (start end : ℕ) where
  place_fits : (p : ℕ) → PlaceOf (take end buf) p → Fits buf p
  place_fits p (at_byte h) = fits_inside buf p (omega (arith, length-take end buf)) short
  place_fits p (at_end_case e b) =
      let k = b.mark in
      let within = byte_within (take end buf) k under b.is in
      let same : get_or buf k 0 ≡ under = sym (get_or-take end buf k 0 (omega (arith, length-take end buf))) ∙ byte_is (take end buf) k under b.is in
      fits_behind buf k p b.before (omega (arith, length-take end buf)) short (λ z. omega (arith, same, z))

  -- the line of each event's place fits a word
  pub event_fits : (i : CommentItem) → In i (events_of rd buf start end) → Fits buf (placed_of i).place
  event_fits i m = place_fits (placed_of i).place (every_place rd buf start end i m)

  all_fit : (is : List CommentItem) → ((i : CommentItem) → In i is → Fits buf (placed_of i).place) → AllFit buf (map placed_record is)
  all_fit [] f = tt
  all_fit (i ∷ is) f = (f i (Memᴰ.head refl), all_fit is (λ j m. f j (Memᴰ.tail m)))

-- a span that is not refused: its records were laid and counted, and then their lines filled in
module _ (rd : Reading) (buf : List ℕ) (start end : ℕ) (room : List ℕ) (good : none ≡ span_refusal (length buf) start end) {n : ℕ} {out : List ℕ}
    (counted : n ≡ length (placed_records rd buf start end)) (is : out ≡ laid event_width (placed_records rd buf start end) room) where
  fit : AllFit buf (placed_records rd buf start end)
  fit =
      let accepted = span_accepted (length buf) start end (sym good) in
      let short : length buf ≤ longest = omega arith in
      subst (AllFit buf) (records_are rd buf start end) (all_fit rd buf short start end (events_of rd buf start end) (event_fits rd buf short start end))

  wide : Wide event_width (placed_records rd buf start end)
  wide = subst (Wide event_width) (records_are rd buf start end) (records_wide (events_of rd buf start end))

  pub events_counted : n ≡ length (event_records rd buf start end)
  events_counted = lined_counted buf (placed_records rd buf start end) room wide fit counted is

  pub events_laid : filled buf n out ≡ laid event_width (event_records rd buf start end) room
  events_laid = lined_laid buf (placed_records rd buf start end) room wide fit counted is
