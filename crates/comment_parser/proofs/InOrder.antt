-- Events come in order, in any reading: each lies between the place up to which all is given and the place up to which all is given after it.
-- Assumes nothing.
use Prim.Native.Nat.{ℕ, ◌≤◌}
use mathlib.Core.Path.{◌≡◌, subst}
use mathlib.Core.List.{List}
use mathlib.Core.Option.{some}
use Rattle.std.specs.Prelude.{Option as Maybe, Some, None}
use native.Mathlib.Nat.{le_refl}
use native.Mathlib.Omega.{arith}
use Rattle.byte_rules.specs.Reading.{Reading}
use Rattle.comment_parser.specs.Item.{placed_of}
use Rattle.comment_parser.specs.Bounds.{Within}
use Rattle.comment_parser.specs.Events.{seen}
use Rattle.comment_parser.specs.declared.CommentItem.{CommentItem}
use Rattle.comment_parser.specs.declared.Next.{Next}
use Rattle.comment_parser.specs.declared.ParserState.{ParserState}
use Rattle.comment_parser.proofs.Progress.{Waits}
use Rattle.comment_parser.proofs.Turns.{Turn, waited, ran, ended, over, turn, Passing, passing, run_read}
use Rattle.comment_parser.proofs.Events.{seen_accepted, seen_answered}
use Rattle.comment_parser.proofs.Reached.{Reached, run_in_order}

-- up to where all is given: what waits is not
abbrev given_to : ℕ → Maybe CommentItem → ℕ
given_to pos (Some i) = (placed_of i).place
given_to pos None = pos

abbrev pub given : ParserState → ℕ
given st = given_to st.pos st.waiting

abbrev InOrder : ℕ → Next → Type 0
InOrder low n = elim n.item [ Some i ↦ Within low (given n.state) (placed_of i) | None ↦ Unit ]

given_ge : (low high : ℕ) (w : Maybe CommentItem) → low ≤ high → Waits low high w → low ≤ given_to high w
given_ge low high (Some i) h k = k.above
given_ge low high None h k = h

given_item : (high : ℕ) (w : Maybe CommentItem) (i : CommentItem) → w ≡ Some i → given_to high w ≡ (placed_of i).place
given_item high w i e = rw e

given_all : (high : ℕ) (w : Maybe CommentItem) → w ≡ None → given_to high w ≡ high
given_all high w e = rw e

in_order : {rd : Reading} {s : List ℕ} {st : ParserState} {x : Next} → Passing rd s st → Reached st → Turn rd s st x → InOrder (given st) x
in_order {st = st} p r (waited {i = i} w) =
    let k : Within 0 st.pos (placed_of i) = subst (Waits 0 st.pos) w r in
    let z = given_item st.pos st.waiting i w in
    omega arith
in_order {rd} {s} {st} p r (ran n l) =
    let t = (run_read rd s st).after in
    let a = p.after in
    let z = given_all st.pos st.waiting n in
    run_in_order st _ _ _ (given t) (omega arith) (omega arith) (given_ge _ t.pos t.waiting a.past_run a.waits)
in_order {rd} {s} {st} p r (ended {i = i} n l w) =
    let t = (run_read rd s st).after in
    let a = p.after in
    let k : Within (run_read rd s st).end t.pos (placed_of i) = subst (Waits (run_read rd s st).end t.pos) w a.waits in
    let z = given_all st.pos st.waiting n in
    omega arith
in_order p r (over n l w) = tt

-- an event lies past what was given before it, and before what is to be given after it
pub seen_in_order : (rd : Reading) (buf : List ℕ) (st : ParserState) (p : CommentItem × ParserState) → seen rd buf st ≡ some p → Reached st → Within (given st) (given p.1) (placed_of p.0)
seen_in_order rd buf st p h r = subst (InOrder (given st)) (seen_answered rd buf st p h) (in_order (passing rd buf st (seen_accepted rd buf st p h)) r (turn rd buf st))

-- what is given reaches no further than the position
pub given_le : (st : ParserState) → Reached st → given st ≤ st.pos
given_le st = go st.waiting
  where
    go : (w : Maybe CommentItem) → Waits 0 st.pos w → given_to st.pos w ≤ st.pos
    go (Some i) h = omega arith
    go None h = le_refl st.pos
