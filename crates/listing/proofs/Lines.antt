-- The lines of a comment's events, one after the other: the places of the events never fall (ascending_of), and so the number of the line is carried along
-- them (turn_on, turn_lines), or along the parser's states (carried_on). A comment that is too long has no events (lines_refused).
-- Assumes nothing.
use Prim.Native.Nat.{ℕ, zero, suc, ◌+◌, ◌-◌, ◌≤◌, ◌<◌}
use mathlib.Core.Path.{◌≡◌, refl, sym}
use mathlib.Core.List.{List, [], ◌∷◌, ◌++◌}
use mathlib.Core.Option.{Option, none, some}
use native.Mathlib.Omega.{arith}
use lib.ListN.{length}
use Rattle.basics.proofs.Laws.{differ}
use Rattle.records.specs.Answer.{Answer, span_refusal}
use Rattle.records.proofs.Answers.{span_good}
use Rattle.byte_rules.specs.Reading.{Reading}
use Rattle.byte_rules.specs.declared.reading.Reading.{Reading as Name}
use Rattle.lines.specs.Lines.{line_of}
use Rattle.lines.proofs.Laws.{line_start, line_grows, line_most}
use Rattle.comment_parser.specs.Item.{placed_of}
use Rattle.comment_parser.specs.Bounds.{Within}
use Rattle.comment_parser.specs.State.{fresh}
use Rattle.comment_parser.specs.Events.{left, seen, events_from, events_of}
use Rattle.comment_parser.specs.declared.CommentItem.{CommentItem}
use Rattle.comment_parser.specs.declared.ParserState.{ParserState}
use Rattle.comment_parser.proofs.Events.{seen_on, seen_accepted, stays_accepted, events_on, events_end}
use Rattle.comment_parser.proofs.Reached.{Reached, seen_lies, fresh_reached}
use Rattle.comment_parser.proofs.InOrder.{given, given_le, seen_in_order}
use Rattle.listing.specs.Listing.{event_line, lines_of, event_lines}

-- events whose places never fall, from `low` on, and are places of so many bytes
abbrev pub Ascending : ℕ → ℕ → List CommentItem → Type 0
Ascending low high [] = Unit
Ascending low high (i ∷ is) = (low ≤ (placed_of i).place) × (((placed_of i).place ≤ high) × Ascending (placed_of i).place high is)

lower : (low less high : ℕ) (is : List CommentItem) → less ≤ low → Ascending low high is → Ascending less high is
lower low less high [] h a = tt
lower low less high (i ∷ is) h a = (omega arith, a.1)

module _ (rd : Reading) (comment : List ℕ) where
  ascending_from : (n : ℕ) (st : ParserState) → left st < n → Reached st → Ascending (given st) (length comment) (events_from rd comment st)
  ascending_from zero st h r = absurd (omega arith)
  ascending_from (suc n) st h r = go (ascending_from n) (seen rd comment st) refl
    where
      go : ((t : ParserState) → left t < n → Reached t → Ascending (given t) (length comment) (events_from rd comment t)) → (o : Option (CommentItem × ParserState)) → seen rd comment st ≡ o
          → Ascending (given st) (length comment) (events_from rd comment st)
      go later none e = rw (events_end rd comment st e) tt
      go later (some p) e =
          let w = seen_in_order rd comment st p e r in
          let k = seen_lies rd comment st p e r in
          let a = stays_accepted rd comment st p e in
          let less = (seen_on rd comment st p e).less in
          let g = given_le p.1 k.reached in
          rw (events_on rd comment st p.0 p.1 e)
          (omega arith, (omega (arith, a.inside, a.fits), lower (given p.1) (placed_of p.0).place (length comment) (events_from rd comment p.1) (omega arith) (later p.1 (omega arith) k.reached)))

  ascending_of : (end : ℕ) → Ascending 0 (length comment) (events_of rd comment 0 end)
  unfolding events_of
  ascending_of end = ascending_from (left (fresh rd.name 0 end) + 1) (fresh rd.name 0 end) (omega arith) (fresh_reached rd.name 0 end)

  pub lines_refused : {a : Answer} → some a ≡ span_refusal (length comment) 0 (length comment) → [] ≡ event_lines rd comment
  unfolding lines_of events_of
  lines_refused {a} refused = go (seen rd comment (fresh rd.name 0 (length comment))) refl
    where
      go : (o : Option (CommentItem × ParserState)) → seen rd comment (fresh rd.name 0 (length comment)) ≡ o → [] ≡ event_lines rd comment
      go none e = rw (events_end rd comment (fresh rd.name 0 (length comment)) e)
      go (some p) e =
          let k = seen_accepted rd comment (fresh rd.name 0 (length comment)) p e in
          let good = span_good (length comment) 0 (length comment) k.short (omega arith) (omega arith) in
          absurd (differ cc)

-- the events that are left, and the line of the place that none of them stands before
pub record Going (comment : List ℕ) (is : List CommentItem) (place line : ℕ) : Type 0 where
  pub ahead : Ascending place (length comment) is
  pub carried : line ≡ line_of comment place

pub going_starts : (rd : Reading) (comment : List ℕ) {is : List CommentItem} → is ≡ events_of rd comment 0 (length comment) → Going comment is 0 1
going_starts rd comment e = rw e (record { ahead = ascending_of rd comment (length comment); carried = sym (line_start comment) })

-- a turn: the line is carried to the next event's place
module _ {comment : List ℕ} {is : List CommentItem} {place line : ℕ} (g : Going comment is place line) {i : CommentItem} {more : List CommentItem} (e : is ≡ i ∷ more)
    {to : ℕ} (at : to ≡ (placed_of i).place) {between : ℕ} (counted : between ≡ line_of comment to - line_of comment place) where
  next : Ascending place (length comment) (i ∷ more)
  next = rw e at g.ahead

  is_line : line + between ≡ line_of comment to
  is_line = omega (arith, g.carried, line_grows comment place to (omega (arith, next.0)))

  pub turn_small : line + between ≤ length comment + 1
  turn_small = omega (arith, is_line, line_most comment to, next.1.0)

  pub turn_on : Going comment more to (line + between)
  turn_on = record { ahead = rw (at) next.1.1; carried = is_line }

  pub turn_lines : lines_of comment is ≡ event_line i (line + between) ++ lines_of comment more
  unfolding lines_of
  turn_lines = rw (e, is_line, at)

pub lines_over : (comment : List ℕ) {is : List CommentItem} → is ≡ [] → lines_of comment is ≡ []
unfolding lines_of
lines_over comment e = rw e

-- the same along the parser's states: the line of a place that no event to come stands before
pub record Carried (comment : List ℕ) (st : ParserState) (place line : ℕ) : Type 0 where
  pub is : line ≡ line_of comment place
  pub before : place ≤ given st

pub carried_starts : (name : Name) (comment : List ℕ) (end : ℕ) → Carried comment (fresh name 0 end) 0 1
carried_starts name comment end = record { is = sym (line_start comment); before = omega arith }

module _ (rd : Reading) (comment : List ℕ) (st : ParserState) (place line : ℕ) (c : Carried comment st place line) (reached : Reached st) (i : CommentItem) (t : ParserState) (e : seen rd comment st ≡ some (i, t))
    (to : ℕ) (is_place : to ≡ (placed_of i).place) (more : ℕ) (between : more ≡ line_of comment to - line_of comment place) where
  in_order : Within (given st) (given t) (placed_of i)
  in_order = seen_in_order rd comment st (i, t) e reached

  pub carried_number : line + more ≡ line_of comment to
  carried_number = omega (arith, c.is, line_grows comment place to (omega (arith, c.before, in_order.above)))

  pub carried_on : Carried comment t to (line + more)
  carried_on = record { is = carried_number; before = omega (arith, in_order.placed, in_order.ordered, in_order.below) }
