-- From a fresh start, what waits and what is given lies within the text read so far, and every event of a span in the buffer, in any reading.
-- Assumes nothing.
use Prim.Native.Nat.{ℕ, ◌≤◌}
use mathlib.Core.Path.{◌≡◌, subst}
use mathlib.Core.List.{List}
use mathlib.Core.Option.{some}
use Rattle.std.specs.Prelude.{Option as Maybe, Some, None}
use native.Mathlib.Omega.{arith}
use lib.ListN.{length}
use Rattle.basics.specs.Member.{In}
use Rattle.basics.proofs.Laws.{by_test}
use Rattle.byte_rules.specs.Reading.{Reading}
use Rattle.byte_rules.specs.declared.reading.Reading.{Reading as Name}
use Rattle.comment_parser.specs.Item.{placed_of}
use Rattle.comment_parser.specs.Bounds.{Within}
use Rattle.comment_parser.specs.State.{fresh}
use Rattle.comment_parser.specs.Pass.{run_start, run_item}
use Rattle.comment_parser.specs.Events.{seen, events_of}
use Rattle.comment_parser.specs.declared.CommentItem.{CommentItem}
use Rattle.comment_parser.specs.declared.Next.{Next}
use Rattle.comment_parser.specs.declared.ParserState.{ParserState}
use Rattle.comment_parser.proofs.Progress.{Waits}
use Rattle.comment_parser.proofs.Turns.{Turn, waited, ran, ended, over, turn, Passing, passing, run_read}
use Rattle.comment_parser.proofs.Events.{seen_accepted, seen_answered, stays_accepted, every_event}

-- what waits lies within the text read so far
abbrev pub Reached : ParserState → Type 0
Reached st = Waits 0 st.pos st.waiting

-- an event and the state after it: it lies within the text read so far, and so does what waits then
pub record Lies (i : CommentItem) (t : ParserState) : Type 0 where
  pub within : Within 0 t.pos (placed_of i)
  pub reached : Reached t

abbrev LiesIf : Next → Type 0
LiesIf n = elim n.item [ Some i ↦ Lies i n.state | None ↦ Unit ]

pub from_zero : (low high : ℕ) (w : Maybe CommentItem) → Waits low high w → Waits 0 high w
from_zero low high (Some i) h = omega arith
from_zero low high None h = tt

-- a run lies where its bytes do
pub run_in_order : (st : ParserState) (low a b high : ℕ) → low ≤ a → a ≤ b → b ≤ high → Within low high (placed_of (run_item st a b))
unfolding run_item
run_in_order st low a b high h k l = by_test (λ (i : CommentItem). Within low high (placed_of i)) st.math (λ _. omega arith) (λ _. omega arith)

lies : {rd : Reading} {s : List ℕ} {st : ParserState} {x : Next} → Passing rd s st → Reached st → Turn rd s st x → LiesIf x
lies {st = st} p r (waited w) = record { within = subst (Waits 0 st.pos) w r; reached = tt }
lies {rd} {s} {st} p r (ran n l) =
    let run = run_read rd s st in
    let a = p.after in
    record { within = run_in_order st 0 (run_start s st) run.end run.after.pos (omega arith) (omega arith) a.past_run; reached = from_zero run.end run.after.pos run.after.waiting a.waits }
lies {rd} {s} {st} p r (ended n l w) =
    let run = run_read rd s st in
    record { within = subst (Waits 0 run.after.pos) w (from_zero run.end run.after.pos run.after.waiting p.after.waits); reached = tt }
lies p r (over n l w) = tt

pub seen_lies : (rd : Reading) (buf : List ℕ) (st : ParserState) (p : CommentItem × ParserState) → seen rd buf st ≡ some p → Reached st → Lies p.0 p.1
seen_lies rd buf st p h r = subst LiesIf (seen_answered rd buf st p h) (lies (passing rd buf st (seen_accepted rd buf st p h)) r (turn rd buf st))

pub fresh_reached : (name : Name) (a b : ℕ) → Reached (fresh name a b)
fresh_reached name a b = tt

pub every_within : (rd : Reading) (buf : List ℕ) (start end : ℕ) (i : CommentItem) → In i (events_of rd buf start end) → Within 0 (length buf) (placed_of i)
unfolding events_of
every_within rd buf start end = every_event rd buf Reached (λ (i : CommentItem). Within 0 (length buf) (placed_of i)) on (fresh rd.name start end) (fresh_reached rd.name start end)
  where
    on : (st : ParserState) (p : CommentItem × ParserState) → seen rd buf st ≡ some p → Reached st → Within 0 (length buf) (placed_of p.0) × Reached p.1
    on st p h r =
        let l = seen_lies rd buf st p h r in
        let k = stays_accepted rd buf st p h in
        (record { above = omega arith; placed = l.within.placed; ordered = l.within.ordered; below = omega (arith, l.within.below, k.inside, k.fits) }, l.reached)
