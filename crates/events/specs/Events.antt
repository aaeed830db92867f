-- The event records of a span: one for each event of the list that demand 3 speaks of.
use Rattle.std.specs.Prelude.{ℕ, List, [], ◌∷◌, map, length}
use Rattle.records.specs.Answer.{Answer, span_refusal}
use Rattle.records.specs.Records.{list_answer, list_left}
use Rattle.lines.specs.Lines.{lined}
use Rattle.byte_rules.specs.Reading.{Reading}
use Rattle.comment_parser.specs.Item.{placed_of}
use Rattle.comment_parser.specs.Events.{events_from, events_of}
use Rattle.comment_parser.specs.declared.Placed.{Placed}
use Rattle.comment_parser.specs.declared.CommentItem.{CommentItem}
use Rattle.comment_parser.specs.declared.ParserState.{ParserState}

-- how many words a record has
abbrev pub event_width : ℕ
event_width = 5

-- kind, place, start, end, and 0 where the line will stand
abbrev pub placed_words : Placed → List ℕ
placed_words p = p.kind ∷ p.place ∷ p.start ∷ p.end ∷ 0 ∷ []

-- the record of an event, but for its line
abbrev pub placed_record : CommentItem → List ℕ
placed_record i = placed_words (placed_of i)

module _ (rd : Reading) (buf : List ℕ) where
  -- those of the events from a state on, and of a span's events
  abbrev pub placed_from : ParserState → List (List ℕ)
  placed_from st = map placed_record (events_from rd buf st)

  abbrev pub placed_records : ℕ → ℕ → List (List ℕ)
  placed_records start end = map placed_record (events_of rd buf start end)

  -- the records of a span's events, with their lines
  abbrev pub event_records : ℕ → ℕ → List (List ℕ)
  event_records start end = lined buf (placed_records start end)

  -- what a call that lists a span's events answers, and what it leaves in the room
  abbrev pub events_answer : ℕ → ℕ → ℕ → Answer
  events_answer start end room = list_answer (span_refusal (length buf) start end) event_width (event_records start end) room

  abbrev pub events_left : ℕ → ℕ → List ℕ → List ℕ
  events_left start end room = list_left (span_refusal (length buf) start end) event_width (event_records start end) room
