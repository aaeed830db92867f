-- The character at a place, as the code finds it: past the end there is none, and at `i` it is the front of the text from i on.
-- Assumes nothing.
use Prim.Native.Nat.{ℕ, zero, suc, ◌≤◌, ◌<◌}
use mathlib.Core.Path.{◌≡◌, refl, sym}
use borrow.Author.Tests.{le-leb}
use mathlib.Core.Bool.{false}
use Rattle.std.proofs.Math.Bool.{and-false}
use mathlib.Core.List.{List, [], ◌∷◌}
use native.Mathlib.Nat.{add-zero}
use native.Mathlib.Omega.{arith}
use lib.ListN.{length, drop, get_or, get_or-eq_default}
use lib.Seq.{get_or-drop}
use Rattle.byte_rules.specs.Utf8.{byte_or, within, is_tail, is_one, is_two, is_three, is_four, char_len}

-- a byte that stands in the text
pub byte_in : (s : List ℕ) (i : ℕ) → i < length s → get_or s i 0 ≡ byte_or s i
unfolding byte_or
byte_in [] i h = absurd (omega arith)
byte_in (c ∷ s) zero h = refl
byte_in (c ∷ s) (suc i) h = byte_in s i (omega arith)

-- past the end
pub byte_past : (s : List ℕ) (i : ℕ) → length s ≤ i → byte_or s i ≡ 256
unfolding byte_or
byte_past s i h = get_or-eq_default s 256 h

-- so no character ends there
pub two_past : (s : List ℕ) → length s ≤ 1 → is_two (byte_or s 0) (byte_or s 1) ≡ false
unfolding is_two is_tail within
two_past s h = rw (byte_past s 1 h) (simp and-false)

pub three_past : (s : List ℕ) → length s ≤ 2 → is_three (byte_or s 0) (byte_or s 1) (byte_or s 2) ≡ false
unfolding is_three is_tail within
three_past s h = rw (byte_past s 2 h) (simp and-false)

pub four_past : (s : List ℕ) → length s ≤ 3 → is_four (byte_or s 0) (byte_or s 1) (byte_or s 2) (byte_or s 3) ≡ false
unfolding is_four is_tail within
four_past s h = rw (byte_past s 3 h) (simp and-false)

module _ (s : List ℕ) (i : ℕ) where
  pub char_from : char_len (drop i s) 0 ≡ char_len s i
  unfolding char_len byte_or
  char_from = rw (get_or-drop i s 0 256, get_or-drop i s 1 256, get_or-drop i s 2 256, get_or-drop i s 3 256, add-zero)

  pub char_ascii : i < length s → get_or s i 0 ≤ 127 → char_len s i ≡ 1
  unfolding char_len is_one
  char_ascii h low = rw (sym (byte_in s i h), le-leb (get_or s i 0) 127 low)

  pub char_past : length s ≤ i → 0 ≡ char_len s i
  unfolding char_len byte_or is_one is_two is_three is_four within
  char_past h = rw (get_or-eq_default s 256 h)
