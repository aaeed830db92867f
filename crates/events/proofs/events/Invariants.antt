-- The invariant of the loop: the records of the events that are left, laid in the tail, are the records of the span, laid in the room as it was.
-- Assumes nothing.
use mathlib.Core.List.{map}
use Rattle.byte_rules.specs.Reading.{named}
use Rattle.comment_parser.specs.Items.{items_left}
use Rattle.comment_parser.proofs.ItemsLaid.{Going}
use Rattle.events.specs.Events.{event_width, placed_record, placed_records}
use Rattle.events.proofs.events.Given as goal

abbrev pub invariant-loop-item : goal.invariant-loop-item
invariant-loop-item l =
    Going event_width l.buf (map placed_record) (placed_records (named l.fn.reading) l.buf l.start l.end) l.initial.out l.out (items_left l.item-iterator) l.done.words l.done.count
