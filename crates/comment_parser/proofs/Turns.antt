-- A turn, in any reading: what a state is answered, by what waits and by its pass. An event brings the parser on: the state after it is one that `next`
-- takes, and has less to come.
-- Assumes nothing.
use Prim.Native.Nat.{ℕ, ◌≤◌, ◌<◌}
use mathlib.Core.Path.{◌≡◌, refl, ap, sym, subst, ◌∙◌}
use mathlib.Core.Logic.{⊎_elim}
use mathlib.Core.List.{List}
use borrow.Author.Tests.{ltb-true, ltb-false}
use native.Mathlib.Nat.{le_refl}
use native.Mathlib.Omega.{arith}
use lib.Dec.{ltb}
use Rattle.std.specs.Prelude.{Option as Maybe, Some, None}
use lib.ListN.{length, take}
use lib.Seq.{length-take-le}
use Rattle.basics.proofs.Laws.{differ, by_test}
use Rattle.byte_rules.specs.Reading.{Reading}
use Rattle.scans.proofs.Laws.{scan_ge}
use Rattle.comment_parser.specs.State.{Accepted, moved}
use Rattle.comment_parser.specs.Pass.{run_start, pass, run_item}
use Rattle.comment_parser.specs.Next.{some_event, no_event, give, read_on, answered}
use Rattle.comment_parser.specs.Events.{waits, left}
use Rattle.comment_parser.specs.declared.CommentItem.{CommentItem}
use Rattle.comment_parser.specs.declared.Next.{Next}
use Rattle.comment_parser.specs.declared.ParserState.{ParserState}
use Rattle.comment_parser.specs.declared.Run.{Run}
use Rattle.comment_parser.proofs.Laws.{run_start_le, run_start_clean}
use Rattle.comment_parser.proofs.Progress.{After, pass_after}

-- ---- the answer to a state

module _ (t : ParserState) where
  pub give_item : (c : CommentItem) → t.waiting ≡ Some c → give t ≡ some_event (moved t t.pos None) c
  unfolding give
  give_item c w = rw w

  pub give_end : t.waiting ≡ None → give t ≡ no_event t
  unfolding give
  give_end w = ap (λ (o : Maybe CommentItem). record { state = moved t t.pos None; item = o }) w ∙ ap no_event (sym (ap (moved t t.pos) w))

module _ (rd : Reading) (buf : List ℕ) (st : ParserState) where
  item_first : (w : Maybe CommentItem) (c : CommentItem) (x y : Next) → w ≡ Some c → elim w [ Some i ↦ x | None ↦ y ] ≡ x
  item_first w c x y e = rw e

  -- what waits is given
  pub gives : (c : CommentItem) → st.waiting ≡ Some c → answered rd buf st ≡ some_event (moved st st.pos None) c
  unfolding answered
  gives c w = item_first st.waiting c (give st) _ w ∙ give_item st c w

  none_first : (w : Maybe CommentItem) (e b : ℕ) → w ≡ None → e ≡ b → elim w [ Some i ↦ give st | None ↦ read_on rd (take e buf) st ] ≡ read_on rd (take b buf) st
  none_first w e b n z = rw (n, z)

  -- with nothing waiting the reader reads on
  pub reads_on : (b : ℕ) → st.waiting ≡ None → st.end ≡ b → answered rd buf st ≡ read_on rd (take b buf) st
  unfolding answered
  reads_on b w z = none_first st.waiting st.end b w z

module _ (rd : Reading) (s : List ℕ) (st : ParserState) where
  -- the run that it reads
  abbrev pub run_read : Run
  run_read = pass rd s st (run_start s st)

  -- What waits is given. Else a pass is read: its run is given if it is not empty, else what ended it, or the end.
  pub data Turn : Next → Type 0 where
    waited : {i : CommentItem} → st.waiting ≡ Some i → Turn (some_event (moved st st.pos None) i)
    ran : st.waiting ≡ None → run_start s st < run_read.end → Turn (some_event run_read.after (run_item st (run_start s st) run_read.end))
    ended : {i : CommentItem} → st.waiting ≡ None → run_read.end ≤ run_start s st → run_read.after.waiting ≡ Some i → Turn (some_event (moved run_read.after run_read.after.pos None) i)
    over : st.waiting ≡ None → run_read.end ≤ run_start s st → run_read.after.waiting ≡ None → Turn (no_event run_read.after)

  empty : st.waiting ≡ None → run_read.end ≤ run_start s st → (w : Maybe CommentItem) → run_read.after.waiting ≡ w → Turn (give run_read.after)
  empty n l (Some i) e = rw (give_item run_read.after i e) (ended n l e)
  empty n l None e = rw (give_end run_read.after e) (over n l e)

  read : st.waiting ≡ None → Turn (read_on rd s st)
  unfolding read_on
  read n = by_test Turn (ltb (run_start s st) run_read.end) (λ b. ran n (ltb-true _ _ b)) (λ b. empty n (ltb-false _ _ b) run_read.after.waiting refl)

pub turn : (rd : Reading) (buf : List ℕ) (st : ParserState) → Turn rd (take st.end buf) st (answered rd buf st)
turn rd buf st = go st.waiting refl
  where
    go : (w : Maybe CommentItem) → st.waiting ≡ w → Turn rd (take st.end buf) st (answered rd buf st)
    go (Some i) e = rw (gives rd buf st i e) (waited e)
    go None e = rw (reads_on rd buf st st.end e refl) (read rd (take st.end buf) st e)

-- ---- the answer to a state that `next` takes

-- where its run begins, and what its pass leaves, in the text up to its end
pub record Passing (rd : Reading) (s : List ℕ) (st : ParserState) : Type 0 where
  pub long : length s ≡ st.end
  pub onward : st.pos ≤ run_start s st
  pub after : After s st (run_start s st) (run_read rd s st).end (run_read rd s st).after

pub run_start_ge : (s : List ℕ) (st : ParserState) → st.pos ≤ length s → st.pos ≤ run_start s st
unfolding run_start
run_start_ge s st h = by_test (λ (n : ℕ). st.pos ≤ n) st.math (λ _. scan_ge _ _ _ _ (le_refl st.pos) h) (λ _. le_refl st.pos)

pub passing : (rd : Reading) (buf : List ℕ) (st : ParserState) → Accepted buf st → Passing rd (take st.end buf) st
passing rd buf st a =
    let s = take st.end buf in
    let z : length s ≡ st.end = length-take-le st.end buf a.fits in
    let h : st.pos ≤ length s = omega (arith, a.inside) in
    record { long = z; onward = run_start_ge s st h; after = pass_after rd s st (run_start s st) (run_start_le s st h) (run_start_clean s st) }

-- with an event waiting the reader stands further on than where its run began
pub past_waiting : {s : List ℕ} {st t : ParserState} {from q : ℕ} {i : CommentItem} → After s st from q t → t.waiting ≡ Some i → from < t.pos
past_waiting {t = t} {from = from} a w = ⊎_elim (λ (l : from < t.pos). l) (λ (n : t.waiting ≡ None). absurd (differ cc)) a.on

-- with none waiting, and an empty run, its run began at the end of the text
pub begun_at_end : {s : List ℕ} {st t : ParserState} {from q : ℕ} → After s st from q t → t.waiting ≡ None → q ≤ from → from ≡ length s
begun_at_end {s} {from = from} {q} a w l = ⊎_elim (λ (f : from < q). absurd (omega arith)) (λ (z : q ≡ length s). omega (arith, a.starts)) (a.full w)

pub record GoesOn (st t : ParserState) : Type 0 where
  pub same_reading : t.reading ≡ st.reading
  pub same_end : t.end ≡ st.end
  pub within : t.pos ≤ t.end
  pub less : left t < left st

abbrev GoesIf : ParserState → Next → Type 0
GoesIf st n = elim n.item [ Some i ↦ GoesOn st n.state | None ↦ Unit ]

waits_le : (w : Maybe CommentItem) → waits w ≤ 1
waits_le (Some i) = omega arith
waits_le None = omega arith

goes : {rd : Reading} {s : List ℕ} {st : ParserState} {x : Next} → st.pos ≤ st.end → Passing rd s st → Turn rd s st x → GoesIf st x
goes h p (waited w) = record { same_reading = refl; same_end = refl; within = h; less = omega (arith, ap waits w) }
goes {rd} {s} {st} h p (ran n l) =
    let t = (run_read rd s st).after in
    let a = p.after in
    record { same_reading = a.same_reading; same_end = a.same_end; within = omega arith; less = omega (arith, waits_le t.waiting) }
goes {rd} {s} {st} h p (ended n l w) =
    let a = p.after in
    let k = past_waiting a w in
    record { same_reading = a.same_reading; same_end = a.same_end; within = omega arith; less = omega arith }
goes h p (over n l w) = tt

-- an event keeps the reading and the end, moves on, and leaves less to come
pub answered_on : (rd : Reading) (buf : List ℕ) (st : ParserState) → Accepted buf st → (i : CommentItem) (t : ParserState) → answered rd buf st ≡ some_event t i → GoesOn st t
answered_on rd buf st a i t e = subst (GoesIf st) e (goes a.inside (passing rd buf st a) (turn rd buf st))
