-- The invariant of the loop: the diagnostics of the events that are left, laid in the tail, are those of all, laid in the room as it was.
-- Assumes nothing.
use Rattle.comment_parser.specs.Items.{items_left}
use Rattle.verify_markup.specs.List.{closed, diags_from}
use Rattle.verify_markup.specs.Lent.{lent_names}
use Rattle.verify_markup.proofs.ListLaws.{Going}
use Rattle.verify_markup.proofs.driver.lay_all.Given as goal

abbrev pub invariant-loop-item : goal.invariant-loop-item
invariant-loop-item l =
    let names = lent_names l.tables in
    let buf = l.part.buf.now in
    let end = l.part.span.end in
    Going names buf end (diags_from buf end names closed (items_left l.initial.item-iterator)) l.initial.out l.out (items_left l.item-iterator) l.modes l.wrote
