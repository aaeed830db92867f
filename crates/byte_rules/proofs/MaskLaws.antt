-- The laws of the masks: those of all bytes as one list, carried to each byte; what each bit of a mask says; and the bytes whose class one
-- comparison tells.
-- Assumes nothing.
use Prim.Native.Nat.{ℕ, zero, suc, ◌+◌, ◌<◌, ◌≤◌}
use mathlib.Core.Path.{◌≡◌, refl, ap, ◌∙◌}
use mathlib.Core.Bool.{Bool, true, false, not, ◌&&◌}
use mathlib.Core.List.{List, [], ◌∷◌}
use native.Mathlib.Omega.{arith}
use borrow.Author.Tests.{leb-true, le-leb, lt-leb, ne_eqb}
use lib.Bits.{bit_and}
use lib.Dec.{leb, eqb}
use lib.ListN.{get_or}
use Rattle.basics.proofs.Laws.{both}
use Rattle.byte_rules.specs.Classes.{is_blank, is_closer, is_italic_opener, is_digit, is_capital, is_small, is_alphanumeric}
use Rattle.byte_rules.specs.Masks.{bits, mask_of}

-- the masks of n bytes from i on
unfoldable pub masks_from : ℕ → ℕ → List ℕ
masks_from zero i = []
masks_from (suc n) i = mask_of i ∷ masks_from n (suc i)

-- what the list has at a place is the mask of that byte
from_at : (n i k : ℕ) → k < n → get_or (masks_from n i) k 0 ≡ mask_of (i + k)
unfolding masks_from
from_at zero i k h = absurd (omega arith)
from_at (suc n) i zero h = let same : i ≡ i + 0 = omega arith in ap mask_of same
from_at (suc n) i (suc k) h = let same : suc i + k ≡ i + suc k = omega arith in from_at n (suc i) k (omega arith) ∙ ap mask_of same

pub mask_at : (n k : ℕ) → k < n → get_or (masks_from n 0) k 0 ≡ mask_of k
mask_at n k h = let same : 0 + k ≡ k = omega arith in from_at n 0 k h ∙ ap mask_of same

-- whether a mask has a bit, as the code asks
abbrev pub has : ℕ → ℕ → Bool
has mask bit = not (eqb (bit_and mask bit) 0)

-- each bit of a sum of bits is the one that was put in
bits_are : (b c i a : Bool)
    → (has (bits b c i a) 1 ≡ b) × ((has (bits b c i a) 2 ≡ c) × ((has (bits b c i a) 4 ≡ i) × (has (bits b c i a) 8 ≡ a)))
unfolding bits
bits_are true true true true = (refl, (refl, (refl, refl)))
bits_are true true true false = (refl, (refl, (refl, refl)))
bits_are true true false true = (refl, (refl, (refl, refl)))
bits_are true true false false = (refl, (refl, (refl, refl)))
bits_are true false true true = (refl, (refl, (refl, refl)))
bits_are true false true false = (refl, (refl, (refl, refl)))
bits_are true false false true = (refl, (refl, (refl, refl)))
bits_are true false false false = (refl, (refl, (refl, refl)))
bits_are false true true true = (refl, (refl, (refl, refl)))
bits_are false true true false = (refl, (refl, (refl, refl)))
bits_are false true false true = (refl, (refl, (refl, refl)))
bits_are false true false false = (refl, (refl, (refl, refl)))
bits_are false false true true = (refl, (refl, (refl, refl)))
bits_are false false true false = (refl, (refl, (refl, refl)))
bits_are false false false true = (refl, (refl, (refl, refl)))
bits_are false false false false = (refl, (refl, (refl, refl)))

-- so each bit of a byte's mask says whether the byte is in that class
module _ (c : ℕ) where
  pub blank_bit : has (mask_of c) 1 ≡ is_blank c
  unfolding mask_of
  blank_bit = (bits_are (is_blank c) (is_closer c) (is_italic_opener c) (is_alphanumeric c)).0

  pub closer_bit : has (mask_of c) 2 ≡ is_closer c
  unfolding mask_of
  closer_bit = (bits_are (is_blank c) (is_closer c) (is_italic_opener c) (is_alphanumeric c)).1.0

  pub opener_bit : has (mask_of c) 4 ≡ is_italic_opener c
  unfolding mask_of
  opener_bit = (bits_are (is_blank c) (is_closer c) (is_italic_opener c) (is_alphanumeric c)).1.1.0

  pub alphanumeric_bit : has (mask_of c) 8 ≡ is_alphanumeric c
  unfolding mask_of
  alphanumeric_bit = (bits_are (is_blank c) (is_closer c) (is_italic_opener c) (is_alphanumeric c)).1.1.1

-- no closer stands before `!` or behind `_`
no_closer : (c : ℕ) → ((k : ℕ) → (leb 33 k && leb k 95) ≡ true → eqb c k ≡ false) → is_closer c ≡ false
unfolding is_closer
no_closer c apart = rw (apart 46 refl, apart 44 refl, apart 59 refl, apart 41 refl, apart 63 refl, apart 33 refl, apart 58 refl, apart 93 refl, apart 39 refl, apart 34 refl, apart 95 refl, apart 45 refl)

pub no_closer_before : (c : ℕ) → c < 33 → is_closer c ≡ false
no_closer_before c h = no_closer c (λ k r. ne_eqb c k (λ e. omega (arith, h, leb-true 33 k (both (leb 33 k) (leb k 95) r).0)))

pub no_closer_behind : (c : ℕ) → 95 < c → is_closer c ≡ false
no_closer_behind c h = no_closer c (λ k r. ne_eqb c k (λ e. omega (arith, h, leb-true k 95 (both (leb 33 k) (leb k 95) r).1)))

-- from `a` on the alphanumeric bytes are those up to `z`
pub letters_from_a : (c : ℕ) → 97 ≤ c → is_alphanumeric c ≡ leb c 122
unfolding is_alphanumeric is_digit is_capital is_small
letters_from_a c h = rw (lt-leb c 57 (omega arith), lt-leb c 90 (omega arith), le-leb 97 c h, le-leb 48 c (omega arith), le-leb 65 c (omega arith))
