-- To gather the lines of the events that are left is to gather those of all from the start, and the number of the line is carried along.
use Rattle.byte_rules.specs.Reading.{named}
use Rattle.comment_parser.specs.Items.{items_left}
use Rattle.programs.proofs.Gathering.{Gathering}
use Rattle.listing.specs.Listing.{lines_of, event_lines}
use Rattle.listing.proofs.Lines.{Going}
use Rattle.listing.proofs.put_events.Given as goal

abbrev pub invariant-loop-item : goal.invariant-loop-item
invariant-loop-item l =
    Going l.comment (items_left l.item-iterator) l.place l.line
    × Gathering (lines_of l.comment (items_left l.item-iterator)) (event_lines (named l.fn.reading) l.comment) l.initial.output l.output
