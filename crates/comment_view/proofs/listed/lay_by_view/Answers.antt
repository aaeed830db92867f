-- `lay_by_view` meets its contract: each event's record is laid behind those before, and at the end none is to come.
-- Assumes nothing.
use Prim.Native.Nat.{ℕ, ◌≤◌, ◌+◌}
use mathlib.Core.Path.{◌≡◌, sym, ap, ◌∙◌}
use mathlib.Core.List.{List, ◌∷◌, map}
use mathlib.Core.Option.{none, some}
use lib.ListN.{length}
use native.Mathlib.Omega.{arith}
use Rattle.std.specs.Borrow.{Bor}
use Rattle.std.specs.Prelude.{Option as Maybe, Some, None, Result, Ok}
use Rattle.byte_rules.specs.Reading.{Reading, named}
use Rattle.records.specs.Records.{laid}
use Rattle.records.specs.declared.Refusal.{Refusal}
use Rattle.records.proofs.Both.{sum_fits}
use Rattle.records.proofs.Laying.{back, all_counted, all_laid}
use Rattle.comment_parser.specs.State.{fresh}
use Rattle.comment_parser.specs.Next.{next_of}
use Rattle.comment_parser.specs.Events.{seen, events_from}
use Rattle.comment_parser.specs.declared.CommentItem.{CommentItem}
use Rattle.comment_parser.specs.declared.ParserState.{ParserState}
use Rattle.comment_parser.proofs.Turns.{GoesOn}
use Rattle.comment_parser.proofs.Events.{seen_on, events_on, events_end, events_start}
use Rattle.comment_parser.proofs.ItemsLaid.{Going, going_starts, going_on, going_ends, next_fits}
use Rattle.events.specs.Events.{event_width, placed_record, placed_records}
use Rattle.events.proofs.Laws.{records_give}
use Rattle.comment_view.specs.View.{gives}
use Rattle.comment_view.specs.declared.View.{View}
use Rattle.comment_view.proofs.Turns.{sees, sees_none}
use borrow.Author.Rules.{rules}
use Rattle.comment_view.proofs.listed.lay_by_view.Goals as goal
use Rattle.comment_view.proofs.listed.lay_by_view.Goals.{After-lay_event-wrote, After-next_item, In-Ok-Some}

pub loop-item-init : goal.loop-item-init
loop-item-init c =
    let a = c.args in
    let opened = c.open.ensures.1 in
    let starts = going_starts (named a.reading) event_width a.buf.now (map placed_record) a.start a.end a.out.now (events_from (named a.reading) a.buf.now (fresh a.reading a.start a.end)) c.requires (events_start a.reading a.buf.now a.start a.end) in
    (ap (λ (v : View). v.buf.now) opened, ap (λ (v : View). named v.state.reading) opened, rw (ap (λ (v : View). v.state) opened) starts)

abbrev Step : Type 0
Step = Result (Maybe CommentItem) Refusal

-- what the step says, of the buffer that was lent
step_is : (c : After-next_item) → let st = c.loop-item.view.state in gives c.next_item.result c.next_item.new.self.state ≡ next_of (named st.reading) c.args.buf.now st
step_is c =
    let st = c.loop-item.view.state in
    c.next_item.ensures.0 ∙ ap (λ (buf : List ℕ). next_of (named st.reading) buf st) c.loop-item.invariant.0

-- an event: it is the first of those that are left
module _ (c : In-Ok-Some) where
  abbrev step : After-next_item
  step = (goal.at.In-Ok-Some c).After-next_item

  abbrev st : ParserState
  st = c.loop-item.view.state

  abbrev t : ParserState
  t = c.next_item.new.self.state

  said : seen (named st.reading) c.args.buf.now st ≡ some (c.in-Ok-Some.item, t)
  said = sees c.args.buf.now st t (Some c.in-Ok-Some.item) (ap (λ (s : Step). gives s t) (sym (c.in-Ok-Some.is ∙ ap (λ (o : Maybe CommentItem). Ok o) c.in-Ok-Some.field-0-is)) ∙ step_is step)

  on : GoesOn st t
  on = seen_on (named st.reading) c.args.buf.now st (c.in-Ok-Some.item, t) said

  first : events_from (named st.reading) c.args.buf.now st ≡ c.in-Ok-Some.item ∷ events_from (named t.reading) c.args.buf.now t
  first = events_on (named st.reading) c.args.buf.now st c.in-Ok-Some.item t said ∙ ap (λ (rd : Reading). c.in-Ok-Some.item ∷ events_from rd c.args.buf.now t) (sym (ap named on.same_reading))

pub lay_event-wrote-requires : goal.lay_event-wrote-requires
lay_event-wrote-requires c = next_fits records_give c.loop-item.invariant.2 (first (goal.at.lay_event-wrote-requires c).In-Ok-Some)

-- a turn, seen from the place behind the record
module _ (c : After-lay_event-wrote) where
  abbrev event : In-Ok-Some
  event = (goal.at.After-lay_event-wrote c).In-Ok-Some

  turned :
      let a = c.args in
      let l = c.loop-item in
      let w = c.lay_event-wrote.result in
      (l.done.words + w.words ≤ length l.out)
      × Going event_width a.buf.now (map placed_record) (placed_records (named a.reading) a.buf.now a.start a.end) a.out.now (back l.done.words l.out c.lay_event-wrote.new.room) (events_from (named (t event).reading) a.buf.now (t event)) (l.done.words + w.words) (l.done.count + w.count)
  turned = going_on records_give c.loop-item.invariant.2 (first event) c.lay_event-wrote.ensures.wrote c.lay_event-wrote.ensures.left

pub loop-item-smaller : goal.loop-item-smaller
loop-item-smaller c = (on (goal.at.loop-item-smaller c).In-Ok-Some).less

pub loop-item-preserved : goal.loop-item-preserved
loop-item-preserved c =
    let laid = (goal.at.loop-item-preserved c).After-lay_event-wrote in
    let x = turned laid in
    let inv = c.loop-item.invariant in
    let kept = ap (λ (b : Bor (List ℕ)). b.now) c.next_item.ensures.1 ∙ inv.0 in
    let fits = sum_fits _ _ c.then-done.ensures (omega (arith, x.0, inv.2.laying.long, c.well_formed), omega (arith, x.1.few)) in
    (kept, ap named (on (event laid)).same_reading ∙ inv.1, rw fits x.1)

-- nothing is to come, so all is laid and counted
module _ (c : After-next_item) where
  all_done :
      let rd = named c.args.reading in
      let a = c.args in
      let st = c.loop-item.view.state in
      seen (named st.reading) a.buf.now st ≡ none
      → (c.loop-item.done.count ≡ length (placed_records rd a.buf.now a.start a.end)) × (c.loop-item.out ≡ laid event_width (placed_records rd a.buf.now a.start a.end) a.out.now)
  all_done h =
      let st = c.loop-item.view.state in
      let l = going_ends records_give c.loop-item.invariant.2 (events_end (named st.reading) c.args.buf.now st h) in
      (all_counted l, all_laid l)

-- the end
pub returns-in_default : goal.returns-in_default
returns-in_default c =
    let step = (goal.at.returns-in_default c).After-next_item in
    let is_none : c.in_default.field-0 ≡ None = search (rules, c) in
    let told = ap (λ (s : Step). gives s c.next_item.new.self.state) (sym (c.in_default.is ∙ ap (λ (o : Maybe CommentItem). Ok o) is_none)) ∙ step_is step in
    all_done step (sees _ _ _ None told)

-- a refusal, which does not come
pub returns-in_default-2 : goal.returns-in_default-2
returns-in_default-2 c =
    let step = (goal.at.returns-in_default-2 c).After-next_item in
    let told = ap (λ (s : Step). gives s c.next_item.new.self.state) (sym c.in_default.is) ∙ step_is step in
    all_done step (sees_none _ _ _ _ told)
