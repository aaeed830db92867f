-- The invariant of `lay_by_view`: the view holds the buffer and reads as asked, and the records of the events that are left, laid in the tail, are the
-- records of the span, laid in the room as it was. Each event leaves less to come.
-- Assumes nothing.
use mathlib.Core.Path.{◌≡◌}
use mathlib.Core.List.{map}
use Rattle.byte_rules.specs.Reading.{named}
use Rattle.comment_parser.specs.Events.{left, events_from}
use Rattle.comment_parser.proofs.ItemsLaid.{Going}
use Rattle.events.specs.Events.{event_width, placed_record, placed_records}
use Rattle.comment_view.proofs.listed.lay_by_view.Given as goal

abbrev pub invariant-loop-item : goal.invariant-loop-item
invariant-loop-item l =
    let rd = named l.fn.reading in
    (l.view.buf.now ≡ l.buf) × (named l.view.state.reading ≡ rd)
    × Going event_width l.buf (map placed_record) (placed_records rd l.buf l.start l.end) l.initial.out l.out (events_from (named l.view.state.reading) l.buf l.view.state) l.done.words l.done.count

abbrev pub decreases-loop-item : goal.decreases-loop-item
decreases-loop-item l = left l.view.state
