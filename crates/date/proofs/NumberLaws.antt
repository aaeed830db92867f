-- The laws of a date's numbers, as they are read.
-- Assumes nothing.
use Prim.Native.Nat.{ℕ, suc, ◌+◌, ◌-◌, ◌*◌, ◌^◌, ◌<◌, ◌≤◌}
use mathlib.Core.Path.{◌≡◌, refl}
use mathlib.Core.List.{List, [], ◌∷◌}
use mathlib.Core.Bool.{Bool, true, false}
use native.Mathlib.Omega.{arith}
use native.Mathlib.Numerals.{add-one}
use native.Mathlib.Nat.{pow-suc, pow-le-pow_right, lt_of_lt_of_le, add-zero, zero-add}
use lib.Dec.{eqb, lit<}
use lib.ListN.{length, get_or, take, drop, drop_of_length-le}
use lib.Seq.{drop-cons, take_all}
use borrow.Author.Tests.{eq-eqb, ne_eqb}
use Rattle.basics.proofs.Laws.{differ}
use Rattle.byte_rules.specs.Classes.{is_digit}
use Rattle.byte_rules.proofs.Laws.{digit_is}
use Rattle.date.specs.Numbers.{digits_on, digits, number}
use Rattle.std.specs.Prelude.{Some, None}

-- digits from place i of s on: the end, a digit, another byte
module _ (s : List ℕ) (i n : ℕ) where
  pub on_end : length s ≤ i → digits_on n (drop i s) ≡ Some n
  unfolding digits_on
  on_end h = rw (drop_of_length-le s h)

  pub on_digit : i < length s → is_digit (get_or s i 0) ≡ true → digits_on n (drop i s) ≡ digits_on (n * 10 + (get_or s i 0 - 48)) (drop (i + 1) s)
  unfolding digits_on
  on_digit h e = rw (add-one, drop-cons s i 0 h, e)

  pub on_other : i < length s → is_digit (get_or s i 0) ≡ false → digits_on n (drop i s) ≡ None
  unfolding digits_on
  on_other h e = rw (drop-cons s i 0 h, e)

-- at least one digit
pub digits_none : (s : List ℕ) → length s ≡ 0 → None ≡ digits s
unfolding digits
digits_none [] h = refl
digits_none (b ∷ s) h = absurd (omega arith)

pub digits_some : (s : List ℕ) → (length s ≡ 0 → ⊥) → digits_on 0 s ≡ digits s
unfolding digits
digits_some [] h = absurd (h refl)
digits_some (b ∷ s) h = refl

-- a leading plus
pub number_empty : (s : List ℕ) → length s < 1 → number s ≡ digits s
unfolding number digits
number_empty [] h = refl
number_empty (b ∷ s) h = absurd (omega arith)

pub number_plus : (s : List ℕ) → 1 ≤ length s → get_or s 0 0 ≡ 43 → number s ≡ digits (take (length s - 1) (drop 1 s))
unfolding number
number_plus [] h e = absurd (omega arith)
number_plus (b ∷ s) h e = let all : take (suc (length s) - 1) s ≡ s = take_all _ s (omega arith) in rw (eq-eqb b 43 e, all)

pub number_plain : (s : List ℕ) → (get_or s 0 0 ≡ 43 → ⊥) → number s ≡ digits s
unfolding number digits
number_plain [] e = refl
number_plain (b ∷ s) e = rw (ne_eqb b 43 e)

-- one digit more is ten times as much
pub ten_more : (i n d : ℕ) → n < 10 ^ i → d ≤ 9 → n * 10 + d < 10 ^ (i + 1)
ten_more i n d h k = rw (add-one, pow-suc) (omega arith)

-- below 10 ^ i, with i at most k, is below 10 ^ k
pub ten_below : (k i n : ℕ) → n < 10 ^ i → i ≤ k → n < 10 ^ k
ten_below k i n h le = lt_of_lt_of_le h (pow-le-pow_right (lit< tt) le)

-- the number that s is has at most as many digits as s
on_below : (s : List ℕ) (i n m : ℕ) → n < 10 ^ i → digits_on n s ≡ Some m → m < 10 ^ (i + length s)
unfolding digits_on
on_below [] i n m h e = let same : n ≡ m = cc in rw (add-zero, ← same) h
on_below (b ∷ s) i n m h e = go (is_digit b) refl (on_below s (i + 1) (n * 10 + (b - 48)) m)
  where
    go : (t : Bool) → is_digit b ≡ t
        → (n * 10 + (b - 48) < 10 ^ (i + 1) → digits_on (n * 10 + (b - 48)) s ≡ Some m → m < 10 ^ (i + 1 + length s))
        → m < 10 ^ (i + suc (length s))
    go true t ih =
        let r : i + suc (length s) ≡ i + 1 + length s = omega arith in
        rw r (ih (ten_more i n (b - 48) h (omega (arith, digit_is b t))) (rw t at e))
    go false t ih = let f : None ≡ Some m = rw t at e in absurd (differ cc)

digits_below : (s : List ℕ) (m : ℕ) → digits s ≡ Some m → m < 10 ^ length s
unfolding digits
digits_below [] m e = absurd (differ cc)
digits_below (b ∷ s) m e = rw zero-add at (on_below (b ∷ s) 0 0 m (lit< tt) e)

pub number_below : (s : List ℕ) (m : ℕ) → number s ≡ Some m → m < 10 ^ length s
unfolding number
number_below [] m e = absurd (differ cc)
number_below (b ∷ s) m e = go (eqb b 43) refl
  where
    go : (t : Bool) → eqb b 43 ≡ t → m < 10 ^ suc (length s)
    go true t = ten_below (suc (length s)) (length s) m (digits_below s m (rw t at e)) (omega arith)
    go false t = digits_below (b ∷ s) m (rw t at e)
