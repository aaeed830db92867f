-- `links` meets its contract: an event a turn. Behind the two checks the span and the table are good.
-- Assumes nothing.
use Prim.Native.Nat.{◌≤◌, ◌+◌}
use mathlib.Core.Path.{◌≡◌, sym, ap, ◌∙◌}
use mathlib.Core.Option.{none}
use lib.ListN.{length}
use native.Mathlib.Omega.{arith}
use Rattle.std.proofs.lemmas.Result.{err_from_is_err_and}
use Rattle.basics.proofs.Laws.{the_one, the_other}
use Rattle.records.specs.Answer.{checked_answer, span_refusal}
use Rattle.records.proofs.Both.{sum_fits}
use Rattle.records.proofs.Laying.{back, given_refused, given_fits}
use Rattle.name_table.specs.Table.{table_refusal}
use Rattle.byte_rules.specs.Reading.{named}
use Rattle.comment_parser.specs.Items.{items_left}
use Rattle.comment_parser.proofs.ItemsLaid.{Going, going_starts, going_on, going_ends, next_within}
use Rattle.links.specs.Links.{link_width, links_from, links_of, links_refusal}
use Rattle.links.proofs.Laws.{links_give}
use Rattle.links.proofs.links.Goals as goal
use Rattle.links.proofs.links.Goals.{After-lay_item-wrote, In_ok-check, In_ok-items}

pub returns-in_err-items : goal.returns-in_err-items
unfolding links_refusal
returns-in_err-items c =
    let p = err_from_is_err_and c.from_residual.result c.from_residual.ensures.1 in
    let both = given_refused _ _ link_width _ c.args.out.now (the_one _ _ c.in_err-items.ensures) in
    record { answer = rw (p.1, p.2) both.0; left = both.1 }

-- the span is not refused
span_good : (c : In_ok-items) → none ≡ span_refusal (length c.args.buf.now) c.args.start c.args.end
span_good c = c.in_ok-items.ensures.0

pub returns-in_err-check : goal.returns-in_err-check
unfolding links_refusal
returns-in_err-check c =
    let p = err_from_is_err_and c.from_residual-in_err-check.result c.from_residual-in_err-check.ensures.1 in
    let both = given_refused _ _ link_width _ c.args.out.now (c.in_err-check.ensures ∙ the_other _ (span_good (goal.at.returns-in_err-check c).In_ok-items)) in
    record { answer = rw (p.1, p.2) both.0; left = both.1 }

-- nor is the table
table_good : (c : In_ok-check) → none ≡ table_refusal 1 c.args.labels.bytes.now c.args.labels.ends.now
table_good c = sym (ap checked_answer c.in_ok-check.was) ∙ c.check.ensures

good : (c : In_ok-check) → let a = c.args in none ≡ links_refusal a.buf.now a.labels.bytes.now a.labels.ends.now a.start a.end
unfolding links_refusal
good c = table_good c ∙ the_other _ (span_good (goal.at.In_ok-check c).In_ok-items)

pub loop-item-init : goal.loop-item-init
unfolding links_of
loop-item-init c =
    let a = c.args in
    let begun = (goal.at.loop-item-init c).In_ok-items in
    going_starts (named a.reading) link_width a.buf.now (links_from a.buf.now a.labels.bytes.now a.labels.ends.now) a.start a.end a.out.now (items_left c.into_iter-item-iterator.result) (span_good begun)
    (ap items_left c.into_iter-item-iterator.ensures.into_iter_gives ∙ begun.in_ok-items.ensures.1)

pub lay_item-wrote-requires-clause-inside : goal.lay_item-wrote-requires-clause-inside
lay_item-wrote-requires-clause-inside c = next_within (links_give _ _ _) c.loop-item.invariant c.in-Some.ensures.steps

-- a turn, seen from the place behind what the event gave
turned : (c : After-lay_item-wrote)
    → let a = c.args in
    let l = c.loop-item in
    let w = c.lay_item-wrote.result in
    let bytes = a.labels.bytes.now in
    let ends = a.labels.ends.now in
    (l.done.words + w.words ≤ length l.out)
    × Going link_width a.buf.now (links_from a.buf.now bytes ends) (links_of (named a.reading) a.buf.now bytes ends a.start a.end) a.out.now (back l.done.words l.out c.lay_item-wrote.new.room) (items_left c.next.new.self) (l.done.words + w.words) (l.done.count + w.count)
turned c = going_on (links_give _ _ _) c.loop-item.invariant c.in-Some.ensures.steps c.lay_item-wrote.ensures.wrote c.lay_item-wrote.ensures.left

pub loop-item-preserved : goal.loop-item-preserved
loop-item-preserved c =
    let t = turned (goal.at.loop-item-preserved c).After-lay_item-wrote in
    rw (sum_fits _ _ c.then-done.ensures (omega (arith, t.0, c.loop-item.invariant.laying.long, c.well_formed), omega (arith, t.1.few))) t.1

-- the end: no link is to come
pub returns : goal.returns
returns c =
    let none_to_come = going_ends (links_give _ _ _) c.loop-item.invariant c.in-None.ensures.steps.0 in
    let both = given_fits none_to_come (omega arith) _ (good (goal.at.returns c).In_ok-check) c.fits.result c.fits.ensures in
    record { answer = both.0; left = both.1 }
