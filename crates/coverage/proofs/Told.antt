-- The events of a span are read to the end, and account for it: `read_to_end` and `accounts`, of every reading. The turns that are enough are
-- comment_parser's matter: here the list is known by its step laws alone.
-- Assumes nothing.
use Prim.Native.Nat.{ℕ, zero, suc, ◌≤◌, ◌<◌}
use mathlib.Core.Bool.{Bool, true, false}
use mathlib.Core.List.{List}
use mathlib.Core.Logic.{inl, inr}
use mathlib.Core.Path.{◌≡◌, refl, sym, subst, ◌∙◌}
use native.Mathlib.Omega.{arith}
use Rattle.std.specs.Prelude.{None}
use lib.ListN.{length, take}
use lib.Seq.{length-take-le, get_or-take}
use Rattle.basics.proofs.Laws.{by_test}
use Rattle.records.specs.Answer.{longest}
use Rattle.byte_rules.specs.Reading.{Reading}
use Rattle.comment_parser.specs.Item.{span}
use Rattle.comment_parser.specs.State.{Accepted, fresh, moved}
use Rattle.comment_parser.specs.Pass.{run_start, run_item}
use Rattle.comment_parser.specs.Next.{some_event, answered}
use Rattle.comment_parser.specs.Events.{left, events_from, events_of}
use Rattle.comment_parser.specs.declared.CommentItem.{CommentItem}
use Rattle.comment_parser.specs.declared.CommentItem.TheVariants.{Text, MathToken}
use Rattle.comment_parser.specs.declared.Next.{Next}
use Rattle.comment_parser.specs.declared.ParserState.{ParserState}
use Rattle.comment_parser.proofs.Progress.{After, pass_after}
use Rattle.comment_parser.proofs.Laws.{run_start_le, run_start_clean}
use Rattle.comment_parser.proofs.Turns.{Turn, waited, ran, ended, over, turn, past_waiting, begun_at_end}
use Rattle.comment_parser.proofs.Events.{answers, seen_event, seen_end, seen_on, stays_accepted, events_on, events_end}
use Rattle.comment_parser.proofs.Telling as telling
use Rattle.coverage.specs.Demand3.{ReadToEnd, at_end_case, event}
use Rattle.coverage.proofs.Account.{run_of, Gap, math_gap, no_gap, Account, end, run, ending, run_ending}
use Rattle.coverage.proofs.Bytes.{Cut, blanks_there}
use Rattle.coverage.proofs.Passes.{Passed, pass_passed}

-- ---- read to the end

module _ (rd : Reading) (buf : List ℕ) where
  abbrev Reads : ℕ → Type 0
  Reads n = (st : ParserState) → Accepted buf st → left st < n → ReadToEnd rd buf st (events_from rd buf st)

  module _ (n : ℕ) (rest : Reads n) (st : ParserState) (a : Accepted buf st) (small : left st < suc n) where
    by_event : (t : ParserState) (c : CommentItem) → answered rd buf st ≡ some_event t c → ReadToEnd rd buf st (events_from rd buf st)
    by_event t c e =
        let see = seen_event rd buf st c t a e in
        let k = rest t (stays_accepted rd buf st (c, t) see) (omega (arith, (seen_on rd buf st (c, t) see).less)) in
        rw (events_on rd buf st c t see) (event (answers rd buf st a e) k)

    by_turn : {x : Next} → answered rd buf st ≡ x → Turn rd (take st.end buf) st x → ReadToEnd rd buf st (events_from rd buf st)
    by_turn e (waited w) = by_event _ _ e
    by_turn e (ran n l) = by_event _ _ e
    by_turn e (ended n l w) = by_event _ _ e
    by_turn e (over n l w) = rw (events_end rd buf st (seen_end rd buf st _ a e)) (at_end_case (answers rd buf st a e))

  reads : (n : ℕ) → Reads n
  reads zero st a l = absurd (omega arith)
  reads (suc n) st a l = by_turn n (reads n) st a l refl (turn rd buf st)

  pub read_to_end : (a b : ℕ) → length buf ≤ longest → a ≤ b → b ≤ length buf → ReadToEnd rd buf (fresh rd.name a b) (events_of rd buf a b)
  unfolding events_of
  read_to_end a b short h l = reads (suc (left (fresh rd.name a b))) (fresh rd.name a b) (record { short = short; inside = h; fits = l }) (omega arith)

-- ---- accounted for

-- what is dropped before the run
begun : {s buf : List ℕ} {b : ℕ} → Cut s buf b → (st : ParserState) → st.pos ≤ length s → Gap buf st.math st.pos (run_start s st)
unfolding run_start
begun {buf = buf} cut st h = by_test (Gap buf st.math st.pos) st.math (λ m. rw m (math_gap (blanks_there cut st.pos h))) (λ _. no_gap)

run_of_lem : (m : Bool) (r q : ℕ) → elim m [ true ↦ MathToken (span r q) | false ↦ Text (span r q) ] ≡ run_of m r q
run_of_lem true r q = refl
run_of_lem false r q = refl

run_item_lem : (st : ParserState) (r q : ℕ) → run_item st r q ≡ run_of st.math r q
unfolding run_item
run_item_lem st r q = run_of_lem st.math r q

module _ (buf : List ℕ) (b : ℕ) where
  -- a state stands where it is, and the events from there on account for the bytes
  abbrev Is : ParserState → ParserState → Type 0
  Is m st = m ≡ st

  abbrev Accounts : ParserState → List CommentItem → Type 0
  Accounts st es = Account buf b st.math st.pos es

  accounted :
      {s : List ℕ} {st : ParserState} {r q : ℕ} (t : ParserState) → length s ≡ b → After s st r q t → Gap buf st.math st.pos r → Passed buf b st r q t →
      telling.Passed Is Accounts st st r q t
  accounted {st = st} {r} {q} t long o g (inl k) =
      let w : t.waiting ≡ None = rw k in
      rw k
      (telling.none_waits refl
      (λ l. let a : r ≡ b = begun_at_end o w l ∙ long in end (rw a at g))
      (λ l. record { to = moved st q None; stands = refl; tells = λ es a. rw (run_item_lem st r q) (run g l a) }))
  accounted {st = st} {r} {q} t long o g (inr k) =
      telling.one_waits k.waits
      (λ l. let z : q ≡ r = omega (arith, o.starts) in record { to = moved t t.pos None; stands = refl; tells = λ es a. ending g (past_waiting o k.waits) (rw z at k.ending) a })
      (λ l. record { to = moved t t.pos None; stands = refl; tells = λ es a. rw (run_item_lem st r q) (run_ending g l o.past_run k.ending a) })

  module _ (rd : Reading) (fits : b ≤ length buf) where
    passes : (m st : ParserState) → telling.Ready buf b st → m ≡ st → telling.Passes Is Accounts rd buf b m st
    passes m st k e =
        let s = take b buf in
        let z : length s ≡ b = length-take-le b buf fits in
        let cut : Cut s buf b = record { long = z; same = λ i u. get_or-take b buf i 0 (omega arith) } in
        let h : st.pos ≤ length s = omega (arith, k.accepted.inside, k.same_end) in
        subst (λ (u : ParserState). telling.Passes Is Accounts rd buf b u st) (sym e)
        (accounted _ z (pass_after rd s st (run_start s st) (run_start_le s st h) (run_start_clean s st)) (begun cut st h) (pass_passed cut rd st (run_start s st)))

    pub accounts : (a : ℕ) → length buf ≤ longest → a ≤ b → Account buf b false a (events_of rd buf a b)
    accounts a short h = telling.told Is Accounts rd buf b passes (fresh rd.name a b) a short h fits refl
