-- The laws of `decimal`:
--     decimal_small    a number below ten is its own digit
--     decimal_more     any other: the digits of the number divided by ten, then the last digit
--     length_small, length_more    the same of how many digits there are
--     length_between   the same of a number between two powers of ten
--     length_some      there is a digit
--     length_below     a number below 10 ^ k has at most k digits, for k from 1
-- Assumes nothing.
use Prim.Native.Nat.{ℕ, zero, suc, ◌+◌, ◌*◌, ◌/◌, ◌%◌, ◌^◌, ◌<◌, ◌≤◌}
use mathlib.Core.Path.{◌≡◌, refl, ap, ◌∙◌}
use mathlib.Core.List.{[], ◌∷◌, ◌++◌}
use mathlib.Core.Bool.{Bool, true, false}
use native.Mathlib.Omega.{arith}
use native.Mathlib.Nat.{pow-suc}
use lib.Dec.{ltb}
use lib.ListN.{length, length-append}
use borrow.Author.Tests.{lt-ltb, le-ltb, ltb-true, ltb-false}
use Rattle.decimal.specs.Decimal.{decimal, digits_in}

-- fuel above the number does not count
same : (j k n : ℕ) → n < j → n < k → digits_in j n ≡ digits_in k n
unfolding digits_in
same zero k n p q = absurd (omega arith)
same (suc j) zero n p q = absurd (omega arith)
same (suc j) (suc k) n p q = go (ltb n 10) refl (λ h. same j k (n / 10) (omega arith) (omega arith))
  where
    go : (b : Bool) → ltb n 10 ≡ b → (10 ≤ n → digits_in j (n / 10) ≡ digits_in k (n / 10)) → digits_in (suc j) n ≡ digits_in (suc k) n
    go true e ih = rw e
    go false e ih = rw (e, ih (ltb-false n 10 e))

pub decimal_small : (n : ℕ) → n < 10 → decimal n ≡ (48 + n) ∷ []
unfolding decimal digits_in
decimal_small n h = rw (lt-ltb n 10 h)

pub decimal_more : (n : ℕ) → 10 ≤ n → decimal n ≡ decimal (n / 10) ++ ((48 + n % 10) ∷ [])
unfolding decimal digits_in
decimal_more n h = rw (le-ltb n 10 h, same n (suc (n / 10)) (n / 10) (omega arith) (omega arith))

pub length_small : (n : ℕ) → n < 10 → length (decimal n) ≡ 1
length_small n h = ap length (decimal_small n h)

pub length_more : (n : ℕ) → 10 ≤ n → length (decimal n) ≡ length (decimal (n / 10)) + 1
length_more n h = ap length (decimal_more n h) ∙ simp length-append

ten_some : (k : ℕ) → 1 ≤ 10 ^ k
ten_some zero = omega arith
ten_some (suc k) = omega (arith, pow-suc 10 k, ten_some k)

-- between two powers of ten
pub length_between : (k n : ℕ) → 10 ^ k ≤ n → n < 10 * 10 ^ k → length (decimal n) ≡ k + 1
length_between zero n h l = length_small n (omega (arith, l)) ∙ omega arith
length_between (suc k) n h l =
    let p = pow-suc 10 k in
    let ih = length_between k (n / 10) (omega (arith, h, l, p)) (omega (arith, h, l, p)) in
    length_more n (omega (arith, h, p, ten_some k)) ∙ omega (arith, ih)

pub length_some : (n : ℕ) → 1 ≤ length (decimal n)
length_some n = go (ltb n 10) refl
  where
    go : (b : Bool) → ltb n 10 ≡ b → 1 ≤ length (decimal n)
    go true e = omega (arith, length_small n (ltb-true n 10 e))
    go false e = omega (arith, length_more n (ltb-false n 10 e))

pub length_below : (k n : ℕ) → n < 10 ^ suc k → length (decimal n) ≤ suc k
length_below zero n h = omega (arith, length_small n h)
length_below (suc k) n h = go (ltb n 10) refl (length_below k (n / 10) (omega (arith, pow-suc 10 (suc k))))
  where
    go : (b : Bool) → ltb n 10 ≡ b → length (decimal (n / 10)) ≤ suc k → length (decimal n) ≤ suc (suc k)
    go true e ih = omega (arith, length_small n (ltb-true n 10 e))
    go false e ih = omega (arith, length_more n (ltb-false n 10 e))
