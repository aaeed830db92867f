-- The invariant of the loop: the links of the events that are left, laid in the tail, are the links of the span, laid in the room as it was.
-- Assumes nothing.
use Rattle.byte_rules.specs.Reading.{named}
use Rattle.comment_parser.specs.Items.{items_left}
use Rattle.comment_parser.proofs.ItemsLaid.{Going}
use Rattle.links.specs.Links.{link_width, links_from, links_of}
use Rattle.links.proofs.links.Given as goal

abbrev pub invariant-loop-item : goal.invariant-loop-item
invariant-loop-item l =
    let bytes = l.labels.bytes.now in
    let ends = l.labels.ends.now in
    Going link_width l.buf (links_from l.buf bytes ends) (links_of (named l.fn.reading) l.buf bytes ends l.start l.end) l.initial.out l.out (items_left l.item-iterator) l.done.words l.done.count
