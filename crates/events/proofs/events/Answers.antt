-- `events` meets its contract: an event a turn, and behind the loop the lines are filled in.
-- Assumes nothing.
use Prim.Native.Nat.{ℕ, ◌≤◌, ◌+◌}
use mathlib.Core.Path.{◌≡◌, refl, ◌∙◌}
use mathlib.Core.Bool.{cond}
use mathlib.Core.List.{map}
use mathlib.Core.Option.{none, some}
use lib.Dec.{leb}
use lib.ListN.{length}
use native.Mathlib.Omega.{arith}
use Rattle.std.specs.Prelude.{◌/◌, Result, Ok, Err}
use Rattle.std.proofs.lemmas.Result.{err_from_is_err_and}
use Rattle.records.specs.Answer.{filled_answer, refusal_answer, span_refusal}
use Rattle.records.specs.declared.FillError.{FillError}
use Rattle.records.specs.declared.FillError.TheVariants.{Short}
use Rattle.records.proofs.Both.{sum_fits}
use Rattle.records.proofs.Laying.{Given, back, given_refused, all_counted, all_laid, listed_fits}
use Rattle.byte_rules.specs.Reading.{named}
use Rattle.comment_parser.specs.Events.{events_of}
use Rattle.comment_parser.specs.Items.{items_left}
use Rattle.comment_parser.proofs.ItemsLaid.{Going, going_starts, going_on, going_ends, next_fits}
use Rattle.events.specs.Events.{event_width, placed_record, placed_records, event_records, events_answer}
use Rattle.events.proofs.Laws.{records_give, events_counted, events_laid}
use Rattle.events.proofs.events.Goals as goal
use Rattle.events.proofs.events.Goals.{After-lay_event-wrote, In-Some, In_ok-item-items}

-- for each clause of its own, since a refusal answers and leaves the same whatever the records are
pub returns-in_err-item-items-clause-answer : goal.returns-in_err-item-items-clause-answer
unfolding span_refusal
returns-in_err-item-items-clause-answer c =
    let p = err_from_is_err_and c.from_residual.result c.from_residual.ensures.1 in
    let why : some (refusal_answer c.in_err-item-items.field-0.0) ≡ span_refusal (length c.args.buf.now) c.args.start c.args.end = grind arith in
    rw (p.1, p.2) (given_refused _ _ event_width _ c.args.out.now why).0

pub returns-in_err-item-items-clause-left : goal.returns-in_err-item-items-clause-left
unfolding span_refusal
returns-in_err-item-items-clause-left c =
    let why : some (refusal_answer c.in_err-item-items.field-0.0) ≡ span_refusal (length c.args.buf.now) c.args.start c.args.end = grind arith in
    (given_refused _ _ event_width _ c.args.out.now why).1

pub loop-item-init : goal.loop-item-init
loop-item-init c =
    let a = c.args in
    let begun = (goal.at.loop-item-init c).In_ok-item-items in
    let all : items_left c.into_iter-item-iterator.result ≡ events_of (named a.reading) a.buf.now a.start a.end = grind (arith, begun) in
    let good : none ≡ span_refusal (length a.buf.now) a.start a.end = grind (arith, begun) in
    going_starts (named a.reading) event_width a.buf.now (map placed_record) a.start a.end a.out.now (items_left c.into_iter-item-iterator.result) good all

pub offset_bounds-out-done : goal.offset_bounds-out-done
offset_bounds-out-done c = omega (arith, c.loop-item.invariant.laying.inside, c.loop-item.invariant.laying.long, c.well_formed)

pub slice_bounds-lay_event-count : goal.slice_bounds-lay_event-count
slice_bounds-lay_event-count c = c.loop-item.invariant.laying.inside

pub lay_event-wrote-requires : goal.lay_event-wrote-requires
lay_event-wrote-requires c = next_fits records_give c.loop-item.invariant c.in-Some.ensures.steps

-- a turn, seen from the place behind the record
turned : (c : After-lay_event-wrote)
    → let a = c.args in
    let l = c.loop-item in
    let w = c.lay_event-wrote.result in
    (l.done.words + w.words ≤ length l.out)
    × Going event_width a.buf.now (map placed_record) (placed_records (named a.reading) a.buf.now a.start a.end) a.out.now (back l.done.words l.out c.lay_event-wrote.new.room) (items_left c.next.new.self) (l.done.words + w.words) (l.done.count + w.count)
turned c = going_on records_give c.loop-item.invariant c.in-Some.ensures.steps c.lay_event-wrote.ensures.wrote c.lay_event-wrote.ensures.left

pub loop-item-preserved : goal.loop-item-preserved
loop-item-preserved c =
    let laid = (goal.at.loop-item-preserved c).After-lay_event-wrote in
    let t = turned laid in
    rw (sum_fits _ _ c.then-done.ensures (omega (arith, t.0, c.loop-item.invariant.laying.long, c.well_formed), omega (arith, t.1.few))) t.1

-- the lines are filled in, and whether the records fit decides the answer
pub returns : goal.returns
returns c =
    let a = c.args in
    let begun = (goal.at.returns c).In_ok-item-items in
    let accepted : none ≡ span_refusal (length a.buf.now) a.start a.end = grind (arith, begun) in
    let l = going_ends records_give c.loop-item.invariant c.in-None.ensures.steps.0 in
    let counted = events_counted (named a.reading) a.buf.now a.start a.end a.out.now accepted (all_counted l) (all_laid l) in
    let lined = c.fill_lines.ensures ∙ events_laid (named a.reading) a.buf.now a.start a.end a.out.now accepted (all_counted l) (all_laid l) in
    let n = c.loop-item.done.count in
    let given : (x : Result ℕ FillError) → x ≡ cond (leb n (length a.out.now / event_width)) (Ok n) (Err (Short n))
    → Given (filled_answer x) c.fill_lines.new.room (span_refusal (length a.buf.now) a.start a.end) event_width (event_records (named a.reading) a.buf.now a.start a.end) a.out.now =
    listed_fits event_width (event_records (named a.reading) a.buf.now a.start a.end) a.out.now counted lined _ accepted (omega arith) in
    let answered : (x : Result ℕ FillError) → x ≡ cond (leb n (length a.out.now / event_width)) (Ok n) (Err (Short n)) → filled_answer x ≡ events_answer (named a.reading) a.buf.now a.start a.end (length a.out.now) =
    λ x is. (given x is).0 in
    let long : length c.fill_lines.new.room ≡ length a.out.now = c.fill_lines.auto.room ∙ l.long in
    record { answer = answered _ (grind arith); left = (given _ refl).1 }
