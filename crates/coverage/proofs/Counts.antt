-- Order and number of the events of an account: places never fall; at most two events for each byte, and two at a place.
-- Assumes nothing.
use Prim.Native.Nat.{ℕ, suc, ◌-◌, ◌≤◌, ◌<◌}
use mathlib.Core.Bool.{Bool, true, false}
use mathlib.Core.List.{List, [], ◌∷◌}
use mathlib.Core.Logic.{◌⊎◌, inl, inr, ⊎_elim}
use mathlib.Core.Path.{◌≡◌, refl}
use native.Mathlib.Omega.{arith}
use borrow.Author.Tests.{eqb-true, eqb-false}
use lib.Dec.{eqb}
use Rattle.comment_parser.specs.Item.{placed_of}
use Rattle.comment_parser.specs.declared.CommentItem.{CommentItem}
use Rattle.coverage.specs.Demand3.{Rising, Few, events_at}
use Rattle.coverage.proofs.Account.{run_of, Ending, Account, end, run, ending, run_ending, open_math, close_math, label, url, open_html_case, close_html_case, open_subscript, open_italic, close_italic, tag, line_break, close_subscript, gap_up, before_up, after_up}

rising_from : (b : ℕ) {j k : ℕ} (es : List CommentItem) → j ≤ k → Rising b k es → Rising b j es
rising_from b [] h r = omega arith
rising_from b (c ∷ es) h r = (omega arith, r.1)

run_place : (m : Bool) (r q : ℕ) → (placed_of (run_of m r q)).place ≡ r
run_place true r q = refl
run_place false r q = refl

-- an event's place stands in its own bytes, before the place after it; or it owns none, and both are the run's end
abbrev Placing : ℕ → ℕ → ℕ → Type 0
Placing q x n = (q ≤ x) × ((x < n) ⊎ ((x ≡ n) × (n ≡ q)))

place_up : (q x n : ℕ) → Placing q x n → x ≤ n
place_up q x n k = ⊎_elim (λ l. omega arith) (λ l. omega arith) k.1

module _ {buf : List ℕ} {b : ℕ} where
  ending_place : {r q n : ℕ} {m m' : Bool} {c : CommentItem} → Ending buf b r m q c m' n → Placing q (placed_of c).place n
  ending_place (open_math f t) = (before_up f, inl (omega arith))
  ending_place (close_math t a) = (omega arith, inl (omega (arith, after_up a)))
  ending_place (label f t k l a) = (before_up f, inl (omega (arith, k.up, after_up a)))
  ending_place (url f t k l a) = (before_up f, inl (omega (arith, k.up, after_up a)))
  ending_place (open_html_case t) = (omega arith, inl (omega arith))
  ending_place (close_html_case t) = (omega arith, inl (omega arith))
  ending_place (open_subscript t) = (omega arith, inl (omega arith))
  ending_place (open_italic t) = (omega arith, inl (omega arith))
  ending_place (close_italic t) = (omega arith, inl (omega arith))
  ending_place (tag t l u) = (omega arith, inl (omega arith))
  ending_place line_break = (omega arith, inr (refl, refl))
  ending_place close_subscript = (omega arith, inr (refl, refl))

  account_in : {m : Bool} {i : ℕ} {es : List CommentItem} → Account buf b m i es → i ≤ b
  account_in (end g) = gap_up g
  account_in (run g u a) = omega (arith, gap_up g, account_in a)
  account_in (ending g u k a) = omega (arith, gap_up g, account_in a)
  account_in (run_ending g u v k a) = omega (arith, gap_up g, account_in a)

  pub rises : {m : Bool} {i : ℕ} {es : List CommentItem} → Account buf b m i es → Rising b i es
  rises (end g) = gap_up g
  rises (run {m = m} {r = r} {q = q} {es = es} g u a) =
      let z = run_place m r q in (omega (arith, gap_up g), rising_from b es (omega arith) (rises a))
  rises (ending {es = es} g u k a) = let z = ending_place k in (omega (arith, gap_up g), rising_from b es (place_up _ _ _ z) (rises a))
  rises (run_ending {m = m} {r = r} {q = q} {es = es} g u v k a) =
      let y = run_place m r q in
      let z = ending_place k in
      (omega (arith, gap_up g), (omega arith, rising_from b es (place_up _ _ _ z) (rises a)))

  -- a run that is not empty, or the event that ends an empty one, brings the reader a byte on, and a pass gives two events at most
  pub few : {m : Bool} {i : ℕ} {es : List CommentItem} → Account buf b m i es → Few (b - i) es
  few (end g) = omega arith
  few (run g u a) = omega (arith, gap_up g, few a, account_in a)
  few (ending g u k a) = omega (arith, gap_up g, few a, account_in a)
  few (run_ending g u v k a) = omega (arith, gap_up g, few a, account_in a)

-- how many events stand at a place, with one more in front
at_cases : (P : ℕ → Type 0) (p : ℕ) (c : CommentItem) (es : List CommentItem) → ((placed_of c).place ≡ p → P (suc (events_at p es))) →
    (((placed_of c).place ≡ p → ⊥) → P (events_at p es)) → P (events_at p (c ∷ es))
at_cases P p c es f g = go (eqb (placed_of c).place p) refl
  where
    go : (t : Bool) → eqb (placed_of c).place p ≡ t → P (elim t [ true ↦ suc (events_at p es) | false ↦ events_at p es ])
    go true e = f (eqb-true (placed_of c).place p e)
    go false e = g (eqb-false (placed_of c).place p e)

-- from n on: none before it, two at each place
record Sparse (n : ℕ) (es : List CommentItem) : Type 0 where
  pub below : (p : ℕ) → p < n → events_at p es ≡ 0
  pub two : (p : ℕ) → events_at p es ≤ 2

-- and one at n itself
record Fresh (n : ℕ) (es : List CommentItem) : Type 0 where
  pub sparse : Sparse n es
  pub one : events_at n es ≤ 1

-- an event whose place stands in its own bytes
owner : {i n : ℕ} (c : CommentItem) {es : List CommentItem} → i ≤ (placed_of c).place → (placed_of c).place < n → Sparse n es → Fresh i (c ∷ es)
owner {i} c {es} h l s =
    record {
      sparse = record {
        below = λ p u. at_cases (λ k. k ≡ 0) p c es (λ z. absurd (omega arith)) (λ z. s.below p (omega arith));
        two = λ p. at_cases (λ k. k ≤ 2) p c es (λ z. omega (arith, s.below p (omega arith))) (λ z. s.two p);
      };
      one = at_cases (λ k. k ≤ 1) i c es (λ z. omega (arith, s.below i (omega arith))) (λ z. omega (arith, s.below i (omega arith)));
    }

-- an event that owns no byte, at n
point : {n : ℕ} (c : CommentItem) {es : List CommentItem} → (placed_of c).place ≡ n → Fresh n es → Sparse n (c ∷ es)
point {n} c {es} e s =
    record {
      below = λ p u. at_cases (λ k. k ≡ 0) p c es (λ z. absurd (omega arith)) (λ z. s.sparse.below p u);
      two = λ p. at_cases (λ k. k ≤ 2) p c es (λ z. let y : p ≡ n = omega arith in rw y (omega (arith, s.one))) (λ z. s.sparse.two p);
    }

spread : {buf : List ℕ} {b : ℕ} {m : Bool} {i : ℕ} {es : List CommentItem} → Account buf b m i es → Fresh i es
spread (end g) = record { sparse = record { below = λ p u. refl; two = λ p. omega arith }; one = omega arith }
spread (run {m = m} {r = r} {q = q} g u a) =
    let z = run_place m r q in owner (run_of m r q) (omega (arith, gap_up g)) (omega arith) (spread a).sparse
spread (ending {c = c} g u k a) =
    let z = ending_place k in
    ⊎_elim (λ l. owner c (omega (arith, gap_up g)) l (spread a).sparse) (λ l. absurd (omega arith)) z.1
spread (run_ending {m = m} {r = r} {q = q} {n = n} {c = c} {es = es} g u v k a) =
    let y = run_place m r q in
    let z = ending_place k in
    let s : Sparse q (c ∷ es) =
    ⊎_elim
    (λ l. (owner c z.0 l (spread a).sparse).sparse)
    (λ l. let p = point c l.0 (spread a) in record { below = λ x v. p.below x (omega arith); two = p.two })
    z.1
    in
    owner (run_of m r q) (omega (arith, gap_up g)) (omega arith) s

pub two_at : {buf : List ℕ} {b : ℕ} {m : Bool} {i : ℕ} {es : List CommentItem} → Account buf b m i es → (p : ℕ) → events_at p es ≤ 2
two_at a = (spread a).sparse.two
