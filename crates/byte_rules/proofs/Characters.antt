-- What the crates above use of characters: one lies inside the text, one that holds an ASCII byte is that byte alone,
-- and it needs nothing of the text before it.
-- Assumes nothing.
use Prim.Native.Nat.{ℕ, zero, suc, ◌+◌, ◌-◌, ◌≤◌, ◌<◌}
use mathlib.Core.Path.{◌≡◌, refl, ap, sym, ◌∙◌}
use mathlib.Core.Bool.{Bool, true, false, cond}
use mathlib.Core.List.{List}
use native.Mathlib.Nat.{add-zero}
use native.Mathlib.Omega.{arith}
use lib.Dec.{leb, eqb}
use lib.ListN.{length, drop, get_or, get_or-eq_default}
use borrow.Author.Tests.{le-leb, leb-true, leb-false}
use Rattle.basics.proofs.Laws.{both, either}
use Rattle.byte_rules.specs.Utf8.{byte_or, within, is_tail, is_one, is_two, is_three, is_four, char_len}
use Rattle.byte_rules.proofs.CharLaws.{byte_in, char_from}

-- a number in a range
within_is : (low high c : ℕ) → within low high c ≡ true → (low ≤ c) × (c ≤ high)
unfolding within
within_is low high c e = (leb-true low c (both _ _ e).0, leb-true c high (both (leb low c) _ e).1)

tail_is : (c : ℕ) → is_tail c ≡ true → (0x80 ≤ c) × (c ≤ 0xBF)
unfolding is_tail
tail_is c e = within_is 0x80 0xBF c e

-- the bytes behind the first of a character
two_is : (a b : ℕ) → is_two a b ≡ true → (0x80 ≤ b) × (b ≤ 0xBF)
unfolding is_two
two_is a b e = tail_is b (both (within 0xC2 0xDF a) (is_tail b) e).1

three_is : (a b c : ℕ) → is_three a b c ≡ true → (0x80 ≤ b) × ((0x80 ≤ c) × (c ≤ 0xBF))
unfolding is_three
three_is a b c e =
    let front = both _ (is_tail c) e in
    let low : 0x80 ≤ b =
    either _ _ front.0
    (λ f. either _ _ f
    (λ g. either _ _ g
    (λ h. omega (arith, within_is 0xA0 0xBF b (both (eqb a 0xE0) _ h).1))
    (λ h. (tail_is b (both (within 0xE1 0xEC a) _ h).1).0))
    (λ g. omega (arith, within_is 0x80 0x9F b (both (eqb a 0xED) _ g).1)))
    (λ f. (tail_is b (both (within 0xEE 0xEF a) _ f).1).0) in
    (low, tail_is c front.1)

four_is : (a b c d : ℕ) → is_four a b c d ≡ true → (0x80 ≤ b) × ((0x80 ≤ c) × ((0x80 ≤ d) × (d ≤ 0xBF)))
unfolding is_four
four_is a b c d e =
    let front = both _ (is_tail d) e in
    let start = both _ (is_tail c) front.0 in
    let low : 0x80 ≤ b =
    either _ _ start.0
    (λ f. either _ _ f
    (λ g. omega (arith, within_is 0x90 0xBF b (both (eqb a 0xF0) _ g).1))
    (λ g. (tail_is b (both (within 0xF1 0xF3 a) _ g).1).0))
    (λ f. omega (arith, within_is 0x80 0x8F b (both (eqb a 0xF4) _ f).1)) in
    (low, ((tail_is c start.1).0, tail_is d front.1))

module _ (s : List ℕ) (i : ℕ) where
  -- a byte below 256 stands in the text
  inside : (j : ℕ) → byte_or s j < 256 → j < length s
  unfolding byte_or
  inside j h = go (leb (length s) j) refl
    where
      go : (t : Bool) → leb (length s) j ≡ t → j < length s
      go true t = absurd (omega (arith, get_or-eq_default s 256 (leb-true (length s) j t)))
      go false t = leb-false (length s) j t

  -- n bytes from i on that are no ASCII, given one by one
  high : (n : ℕ) → n ≤ 4 → (0 < n → 0x80 ≤ byte_or s i) → (1 < n → 0x80 ≤ byte_or s (i + 1)) → (2 < n → 0x80 ≤ byte_or s (i + 2))
      → (3 < n → 0x80 ≤ byte_or s (i + 3)) → (d : ℕ) → d < n → 0x80 ≤ byte_or s (i + d)
  high n most a b c d zero h = rw add-zero (a h)
  high n most a b c d (suc zero) h = b h
  high n most a b c d (suc (suc zero)) h = c h
  high n most a b c d (suc (suc (suc zero))) h = d h
  high n most a b c d (suc (suc (suc (suc k)))) h = absurd (omega arith)

  -- what is known of a character of n bytes at i
  abbrev Known : ℕ → Type 0
  Known n = (n ≤ length s - i) × (1 < n → (d : ℕ) → d < n → 0x80 ≤ byte_or s (i + d))

  known : Known (char_len s i)
  unfolding char_len is_one
  known =
      go (leb (byte_or s i) 0x7F) (is_two (byte_or s i) (byte_or s (i + 1))) (is_three (byte_or s i) (byte_or s (i + 1)) (byte_or s (i + 2)))
      (is_four (byte_or s i) (byte_or s (i + 1)) (byte_or s (i + 2)) (byte_or s (i + 3))) refl refl refl refl
    where
      go : (p q r t : Bool) → leb (byte_or s i) 0x7F ≡ p → is_two (byte_or s i) (byte_or s (i + 1)) ≡ q
          → is_three (byte_or s i) (byte_or s (i + 1)) (byte_or s (i + 2)) ≡ r → is_four (byte_or s i) (byte_or s (i + 1)) (byte_or s (i + 2)) (byte_or s (i + 3)) ≡ t
          → Known (cond p 1 (cond q 2 (cond r 3 (cond t 4 0))))
      go true q r t e f g h = (omega (arith, inside i (omega (arith, leb-true (byte_or s i) 0x7F e))), λ w. absurd (omega arith))
      go false true r t e f g h =
          let one : 0x7F < byte_or s i = leb-false _ _ e in
          let two = two_is _ _ f in
          (omega (arith, inside (i + 1) (omega arith)), λ w. high 2 (omega arith) (λ l. one) (λ l. two.0) (λ l. absurd (omega arith)) (λ l. absurd (omega arith)))
      go false false true t e f g h =
          let one : 0x7F < byte_or s i = leb-false _ _ e in
          let three = three_is _ _ _ g in
          (omega (arith, inside (i + 2) (omega arith)), λ w. high 3 (omega arith) (λ l. one) (λ l. three.0) (λ l. three.1.0) (λ l. absurd (omega arith)))
      go false false false true e f g h =
          let one : 0x7F < byte_or s i = leb-false _ _ e in
          let four = four_is _ _ _ _ h in
          (omega (arith, inside (i + 3) (omega arith)), λ w. high 4 (omega arith) (λ l. one) (λ l. four.0) (λ l. four.1.0) (λ l. four.1.1.0))
      go false false false false e f g h = (omega arith, λ w. absurd (omega arith))

  pub char_fits : char_len s i ≤ length s - i
  char_fits = known.0

  -- an ASCII byte is a character
  pub char_one : i < length s → get_or s i 0 < 0x80 → char_len s i ≡ 1
  unfolding char_len is_one
  char_one h low = rw (le-leb (byte_or s i) 0x7F (omega (arith, low, byte_in s i h)))

  -- no byte of a longer character is ASCII
  pub char_high : 1 < char_len s i → (k : ℕ) → i ≤ k → k < i + char_len s i → 0x80 ≤ get_or s k 0
  char_high w k low high' =
      let z : i + (k - i) ≡ k = omega arith in
      let b : 0x80 ≤ byte_or s k = rw z at (known.1 w (k - i) (omega arith)) in
      rw (byte_in s k (omega (arith, known.0))) b

-- two texts that agree from i on have the same character there
pub char_same : (s t : List ℕ) (i : ℕ) → drop i s ≡ drop i t → char_len s i ≡ char_len t i
char_same s t i e = sym (char_from s i) ∙ ap (λ (l : List ℕ). char_len l 0) e ∙ char_from t i
