-- A turn gathers the line of the next event, and then those of the events behind it.
use Rattle.std.proofs.Common.{arith, sym, ap, ◌∙◌, ◌+◌}
use Rattle.byte_rules.specs.Reading.{named}
use Rattle.comment_parser.specs.Items.{items_left}
use Rattle.comment_parser.specs.declared.Placed.{Placed}
use Rattle.programs.proofs.Gathering.{gathering_starts, gathering_on, gathering_end}
use Rattle.listing.specs.Listing.{event_line, lines_of, event_lines}
use Rattle.listing.proofs.Lines.{lines_refused, going_starts, turn_small, turn_on, turn_lines, lines_over}
use Rattle.listing.proofs.put_events.Goals as goal

pub returns-in_default : goal.returns-in_default
returns-in_default c good =
    let a = c.args in
    gathering_end (sym (lines_refused (named a.reading) a.comment.now c.in_default.ensures)) (gathering_starts (event_lines (named a.reading) a.comment.now) a.output.now)

pub loop-item-init : goal.loop-item-init
loop-item-init c =
    let a = c.args in
    let begun = ap items_left c.into_iter-item-iterator.ensures.into_iter_gives ∙ c.in-Ok.ensures.1 in
    (going_starts (named a.reading) a.comment.now begun, rw begun (gathering_starts (event_lines (named a.reading) a.comment.now) a.output.now))

pub overflow_add-line : goal.overflow_add-line
overflow_add-line c =
    let at = ap (λ (p : Placed). p.place) c.placed-to.ensures in
    omega (arith, turn_small c.loop-item.invariant.0 c.in-Some.ensures.steps at c.lines_between-line.ensures)

pub loop-item-preserved : goal.loop-item-preserved
loop-item-preserved c =
    let l = c.loop-item in
    let comment = c.args.comment.now in
    let at = ap (λ (p : Placed). p.place) c.placed-to.ensures in
    let between = c.lines_between-line in (
      turn_on l.invariant.0 c.in-Some.ensures.steps at between.ensures,
      gathering_on (event_line c.in-Some.item (l.line + between.result)) (lines_of comment (items_left c.next.new.self)) (turn_lines l.invariant.0 c.in-Some.ensures.steps at between.ensures) c.put_line.ensures
          l.invariant.1,
    )

pub returns : goal.returns
returns c good =
    let l = c.loop-item in
    gathering_end (lines_over c.args.comment.now c.in-None.ensures.steps.0) l.invariant.1
