-- `driver::lay_all` meets its contract: an event a turn, and behind the loop what is open at the end.
-- Assumes nothing.
use Rattle.std.proofs.Common.{◌+◌, ◌≤◌, length, sym, arith}
use Rattle.records.specs.Records.{sum}
use Rattle.records.proofs.Both.{sum_fits}
use Rattle.records.proofs.Laying.{back}
use Rattle.comment_parser.specs.Items.{items_left}
use Rattle.verify_markup.specs.List.{closed, diags_from, modes_after}
use Rattle.verify_markup.specs.Lent.{lent_names}
use Rattle.verify_markup.proofs.DiagLaws.{writes_few}
use Rattle.verify_markup.proofs.ListLaws.{Going, few_last, going_starts, going_on, going_ends, next_within, last_writes}
use Rattle.verify_markup.proofs.LineLaws.{wide_diags}
use Rattle.verify_markup.proofs.driver.lay_all.Goals as goal
use Rattle.verify_markup.proofs.driver.lay_all.Goals.{After-lay_item-one}

pub loop-item-init : goal.loop-item-init
loop-item-init c =
    let p = c.args.part in
    rw c.into_iter-item-iterator.ensures.into_iter_gives
    (going_starts (lent_names c.args.tables) p.buf.now p.span c.args.out.now (items_left c.args.items) (omega (arith, p.in_buf)) c.requires)

pub lay_item-one-requires : goal.lay_item-one-requires
lay_item-one-requires c =
    let fits = c.args.part.in_buf in
    (fits.short, next_within fits.short fits.inside c.loop-item.invariant c.in-Some.ensures.steps)

-- a turn, seen from the place behind the event's records
turned : (c : After-lay_item-one)
    → let l = c.loop-item in
    let p = c.args.part in
    let v = c.lay_item-one.result in
    let names = lent_names c.args.tables in
    (l.wrote.words + v.words ≤ length l.out)
    × Going names p.buf.now p.span.end (diags_from p.buf.now p.span.end names closed (items_left c.into_iter-item-iterator.result)) c.args.out.now
    (back l.wrote.words l.out c.lay_item-one.new.room) (items_left c.next.new.self) (modes_after l.modes c.in-Some.item) (sum l.wrote v)
turned c =
    let fits = c.args.part.in_buf in
    going_on fits.short fits.inside c.loop-item.invariant c.in-Some.ensures.steps c.in_html-html.result c.in_html-html.ensures c.lay_item-one.ensures

pub loop-item-preserved : goal.loop-item-preserved
loop-item-preserved c =
    let t = turned (goal.at.loop-item-preserved c).After-lay_item-one in
    rw (c.after-modes.ensures, sum_fits _ _ c.then-wrote.ensures (omega (arith, t.0, c.well_formed), omega (arith, t.1.few))) t.1

pub returns : goal.returns
returns c =
    let p = c.args.part in
    let g = c.loop-item.invariant in
    let few = few_last p.span.end c.loop-item.modes in
    rw (sym c.into_iter-item-iterator.ensures.into_iter_gives)
    (last_writes (wide_diags p.buf.now p.span.end (lent_names c.args.tables) closed (items_left c.into_iter-item-iterator.result))
    (going_ends p.in_buf.short p.in_buf.inside g c.in-None.ensures.steps.0) few c.lay_last-last.ensures
    (sum_fits _ _ c.then.ensures (omega (arith, c.lay_last-last.ensures.inside, c.lay_last-last.ensures.long, g.laying.inside, c.well_formed), omega (arith, g.few, writes_few few c.lay_last-last.ensures))))
