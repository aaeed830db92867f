-- What is told of the events of a span, in any reading, pass by pass. The list is known by its step laws alone.
-- Assumes nothing.
use Prim.Native.Nat.{ℕ, zero, suc, ◌≤◌, ◌<◌}
use mathlib.Core.Path.{◌≡◌, refl, ◌∙◌}
use mathlib.Core.List.{List, [], ◌∷◌}
use native.Mathlib.Omega.{arith}
use borrow.Author.Tests.{ltb-true, ltb-false}
use lib.Dec.{ltb}
use Rattle.std.specs.Prelude.{Some, None}
use lib.ListN.{length, take}
use Rattle.basics.proofs.Laws.{by_test}
use Rattle.records.specs.Answer.{longest}
use Rattle.byte_rules.specs.Reading.{Reading}
use Rattle.comment_parser.specs.State.{Accepted, fresh, moved}
use Rattle.comment_parser.specs.Pass.{run_start, run_item}
use Rattle.comment_parser.specs.Next.{some_event, no_event, give, read_on, answered}
use Rattle.comment_parser.specs.Events.{left, events_from, events_of}
use Rattle.comment_parser.specs.declared.CommentItem.{CommentItem}
use Rattle.comment_parser.specs.declared.Next.{Next}
use Rattle.comment_parser.specs.declared.ParserState.{ParserState}
use Rattle.comment_parser.proofs.Turns.{run_read, give_item, give_end, gives, reads_on}
use Rattle.comment_parser.proofs.Events.{seen_event, seen_end, seen_on, stays_accepted, events_on, events_end}

-- a state that reads on up to b
pub record Ready (buf : List ℕ) (b : ℕ) (st : ParserState) : Type 0 where
  pub idle : st.waiting ≡ None
  pub accepted : Accepted buf st
  pub same_end : st.end ≡ b

-- `Stands m st` says that the state st stands at m, and `Told m es` that the events es may follow from m on
module _ {M : Type 0} (Stands : M → ParserState → Type 0) (Told : M → List CommentItem → Type 0) where
  -- where t stands, and that what may follow from there, may follow from m behind the events in front
  pub record Follows (m : M) (t : ParserState) (front : List CommentItem → List CommentItem) : Type 0 where
    pub to : M
    pub stands : Stands to t
    pub tells : (es : List CommentItem) → Told to es → Told m (front es)

  -- what is to be shown of a pass of the state st, which stands at m: its run from `from` ends at q and leaves the state t
  pub data Passed (m : M) (st : ParserState) (from q : ℕ) (t : ParserState) : Type 0 where
    none_waits : t.waiting ≡ None → (q ≤ from → Told m []) → (from < q → Follows m t (λ es. run_item st from q ∷ es)) → Passed m st from q t
    one_waits :
        {c : CommentItem} → t.waiting ≡ Some c → (q ≤ from → Follows m (moved t t.pos None) (λ es. c ∷ es)) →
        (from < q → Follows m (moved t t.pos None) (λ es. run_item st from q ∷ c ∷ es)) → Passed m st from q t

  -- what a turn answers: the end; an event; or an event behind which another waits
  data Turned (m : M) : Next → Type 0 where
    over : {t : ParserState} → Told m [] → Turned m (no_event t)
    one : {t : ParserState} {c : CommentItem} → t.waiting ≡ None → Follows m t (λ es. c ∷ es) → Turned m (some_event t c)
    two : {t : ParserState} {d c : CommentItem} → t.waiting ≡ Some c → Follows m (moved t t.pos None) (λ es. d ∷ c ∷ es) → Turned m (some_event t d)

  full : {m : M} {st : ParserState} {from q : ℕ} {t : ParserState} → from < q → Passed m st from q t → Turned m (some_event t (run_item st from q))
  full l (none_waits w e f) = one w (f l)
  full l (one_waits w e f) = two w (f l)

  empty : {m : M} {st : ParserState} {from q : ℕ} (t : ParserState) → q ≤ from → Passed m st from q t → Turned m (give t)
  empty t l (none_waits w e f) = rw (give_end t w) (over (e l))
  empty t l (one_waits {c = c} w e f) = rw (give_item t c w) (one refl (e l))

  module _ (rd : Reading) (buf : List ℕ) (b : ℕ) where
    -- the same of the pass that it makes, in the text up to b
    abbrev pub Passes : M → ParserState → Type 0
    Passes m st = Passed m st (run_start (take b buf) st) (run_read rd (take b buf) st).end (run_read rd (take b buf) st).after

    turned : {m : M} {st : ParserState} → Passes m st → Turned m (read_on rd (take b buf) st)
    unfolding read_on
    turned {m} {st} k =
        let s = take b buf in
        by_test (Turned m) (ltb (run_start s st) (run_read rd s st).end) (λ t. full (ltb-true _ _ t) k) (λ t. empty (run_read rd s st).after (ltb-false _ _ t) k)

    module _ (passes : (m : M) (st : ParserState) → Ready buf b st → Stands m st → Passes m st) where
      abbrev Tells : ℕ → Type 0
      Tells n = (m : M) (st : ParserState) → Ready buf b st → Stands m st → left st < n → Told m (events_from rd buf st)

      module _ (n : ℕ) (rest : Tells n) (m : M) (st : ParserState) (k : Ready buf b st) (small : left st < suc n) where
        by_turn : {x : Next} → answered rd buf st ≡ x → Turned m x → Told m (events_from rd buf st)
        by_turn e (over {t = t} f) = rw (events_end rd buf st (seen_end rd buf st t k.accepted e)) f
        by_turn e (one {t = t} {c = c} w f) =
            let see = seen_event rd buf st c t k.accepted e in
            let on = seen_on rd buf st (c, t) see in
            let a = rest f.to t (record { idle = w; accepted = stays_accepted rd buf st (c, t) see; same_end = on.same_end ∙ k.same_end }) f.stands (omega (arith, on.less)) in
            rw (events_on rd buf st c t see) (f.tells _ a)
        by_turn e (two {t = t} {d = d} {c = c} w f) =
            let u = moved t t.pos None in
            let see = seen_event rd buf st d t k.accepted e in
            let on = seen_on rd buf st (d, t) see in
            let acc = stays_accepted rd buf st (d, t) see in
            let see' = seen_event rd buf t c u acc (gives rd buf t c w) in
            let on' = seen_on rd buf t (c, u) see' in
            let a = rest f.to u (record { idle = refl; accepted = stays_accepted rd buf t (c, u) see'; same_end = on.same_end ∙ k.same_end }) f.stands (omega (arith, on.less, on'.less)) in
            rw (events_on rd buf st d t see, events_on rd buf t c u see') (f.tells _ a)

      tells : (n : ℕ) → Tells n
      tells zero m st k i l = absurd (omega arith)
      tells (suc n) m st k i l = by_turn n (tells n) m st k l (reads_on rd buf st b k.idle k.same_end) (turned (passes m st k i))

      -- the events of a span, read from a fresh start
      pub told : (m : M) (a : ℕ) → length buf ≤ longest → a ≤ b → b ≤ length buf → Stands m (fresh rd.name a b) → Told m (events_of rd buf a b)
      unfolding events_of
      told m a short h l i = tells (suc (left (fresh rd.name a b))) m (fresh rd.name a b) (record { idle = refl; accepted = record { short = short; inside = h; fits = l }; same_end = refl }) i (omega arith)
