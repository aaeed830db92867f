-- The laws of the months' names.
-- Assumes nothing.
use Prim.Native.Nat.{ℕ, zero, suc, ◌+◌, ◌-◌, ◌<◌, ◌≤◌}
use mathlib.Core.Path.{◌≡◌, refl, ap, sym, ◌∙◌}
use mathlib.Core.Bool.{Bool, true, false, cond, ◌&&◌, false≢true}
use mathlib.Core.Logic.{⊎_elim}
use native.Mathlib.Omega.{arith}
use native.Mathlib.Nat.{eq-or-lt_of_le}
use lib.Dec.{eqb}
use lib.ListN.{length, get_or}
use lib.Pointwise.{pointwise}
use mathlib.Core.List.{List, [], ◌∷◌}
use Rattle.std.specs.Bool.{◌==◌}
use Rattle.std.specs.List.{position, position_from}
use Rattle.std.specs.Option.{option_map}
use Rattle.std.proofs.Math.Bool.{and-true, and_assoc}
use Rattle.std.proofs.lemmas.Iterator.Adapters.{position_from-zero}
use borrow.Author.Tests.{eqb-true}
use Rattle.basics.proofs.Laws.{both, differ}
use Rattle.date.specs.Months.{names, letter_of, is_month_name, month_in, month_of}
use Rattle.std.specs.Prelude.{Option, Some, None}

-- a month that is named is at most 12
in_most : (k m a b c r : ℕ) → month_in k m a b c ≡ Some r → r < m + k
unfolding month_in
in_most zero m a b c r e = absurd (differ cc)
in_most (suc k) m a b c r e = go (is_month_name m a b c) refl (in_most k (m + 1) a b c r)
  where
    go : (t : Bool) → is_month_name m a b c ≡ t → (month_in k (m + 1) a b c ≡ Some r → r < m + 1 + k) → r < m + suc k
    go true t ih = let f : Some m ≡ Some r = rw t at e in let same : m ≡ r = cc in omega arith
    go false t ih = omega (arith, ih (rw t at e))

pub month_most : (a b c r : ℕ) → month_of a b c ≡ Some r → r ≤ 12
unfolding month_of
month_most a b c r e = omega (arith, in_most 12 1 a b c r e)

-- a test computed over all numbers below n, and carried to each
below : (ℕ → Bool) → ℕ → Bool
below p zero = true
below p (suc n) = p n && below p n

each : (p : ℕ → Bool) (n k : ℕ) → below p n ≡ true → k < n → p k ≡ true
unfolding below
each p zero k e h = absurd (omega arith)
each p (suc n) k e h =
    ⊎_elim (λ same. rw same (both (p n) _ e).0) (each p n k (both (p n) _ e).1) (eq-or-lt_of_le (le k n h))
  where
    le : (k n : ℕ) → k < suc n → k ≤ n
    le k n h = omega arith

-- the place of three letters in the list of names is the month before: from place i on, where `test` tells the names
module _ (a b c : ℕ) (test : List ℕ → Bool) where
  named_from : (k i : ℕ) (xs : List (List ℕ)) → length xs ≡ k
      → ((j : ℕ) → j < k → test (get_or xs j []) ≡ is_month_name (i + j + 1) a b c)
      → option_map (λ before. before + 1) (position_from test i xs) ≡ month_in k (i + 1) a b c
  unfolding month_in
  named_from zero i [] l t = refl
  named_from zero i (x ∷ xs) l t = absurd (omega arith)
  named_from (suc k) i [] l t = absurd (omega arith)
  named_from (suc k) i (x ∷ xs) l t =
      let here : test x ≡ is_month_name (i + 1) a b c = rw (test_here i) at (t 0 (omega arith)) in
      go (is_month_name (i + 1) a b c) here
      (named_from k (i + 1) xs (omega arith) (λ j h. let e : i + 1 + j + 1 ≡ i + suc j + 1 = omega arith in rw e (t (suc j) (omega arith))))
    where
      test_here : (i : ℕ) → i + 0 + 1 ≡ i + 1
      test_here i = omega arith

      go : (s : Bool) → test x ≡ s → option_map (λ before. before + 1) (position_from test (i + 1) xs) ≡ month_in k (i + 1 + 1) a b c
          → option_map (λ before. before + 1) (cond (test x) (Some i) (position_from test (i + 1) xs)) ≡ cond s (Some (i + 1)) (month_in k (i + 1 + 1) a b c)
      go true e ih = rw e
      go false e ih = rw e ih

is_three : ℕ → Bool
is_three j = eqb (length (get_or names j [])) 3

module _ (a b c : ℕ) where
  -- a name is a, b, c if its letters are
  same_letters : (month : List ℕ) → length month ≡ 3
      → pointwise ◌==◌ month (a ∷ b ∷ c ∷ []) ≡ (eqb (get_or month 0 0) a && eqb (get_or month 1 0) b && eqb (get_or month 2 0) c)
  same_letters [] p = absurd (omega arith)
  same_letters (x ∷ []) p = absurd (omega arith)
  same_letters (x ∷ y ∷ []) p = absurd (omega arith)
  same_letters (x ∷ y ∷ z ∷ []) p = simp (and-true, and_assoc)
  same_letters (x ∷ y ∷ z ∷ w ∷ month) p = absurd (omega arith)

  -- the place of a, b, c among the names is the month before
  pub month_place : option_map (λ before. before + 1) (position (λ month. pointwise ◌==◌ month (a ∷ b ∷ c ∷ [])) names) ≡ month_of a b c
  unfolding month_of is_month_name letter_of is_three below names
  month_place =
      ap (option_map (λ before. before + 1)) (position_from-zero (λ month. pointwise ◌==◌ month (a ∷ b ∷ c ∷ [])) names)
      ∙ named_from a b c (λ month. pointwise ◌==◌ month (a ∷ b ∷ c ∷ [])) 12 0 names refl
      (λ j h. let e : 0 + j + 1 - 1 ≡ j = omega arith in rw e (same_letters (get_or names j []) (eqb-true _ 3 (each is_three 12 j refl h))))

-- each name names its month
is_number : ℕ → Option ℕ → Bool
is_number m (Some r) = eqb r m
is_number m None = false

is_number_lem : (m : ℕ) (r : Option ℕ) → is_number m r ≡ true → r ≡ Some m
unfolding is_number
is_number_lem m (Some r) e = ap Some (eqb-true r m e)
is_number_lem m None e = absurd (false≢true e)

is_own : ℕ → Bool
is_own m = is_number m (month_of (letter_of m 0) (letter_of m 1) (letter_of m 2))

is_next : ℕ → Bool
is_next k = is_own (k + 1)

pub month_back : (m : ℕ) → 1 ≤ m → m ≤ 12 → month_of (letter_of m 0) (letter_of m 1) (letter_of m 2) ≡ Some m
unfolding is_own is_next below is_number month_of month_in is_month_name letter_of names
month_back m low high =
    let same : m - 1 + 1 ≡ m = omega arith in
    is_number_lem m _ (ap is_own (sym same) ∙ each is_next 12 (m - 1) refl (omega arith))
