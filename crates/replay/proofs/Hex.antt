-- Bytes in hex: the first of those that are left (hex_at), bytes behind others (hex_append), and a loop that writes two digits for each byte: a turn
-- (hex_on) and the end (hex_end).
-- Assumes nothing.
use Prim.Native.Nat.{ℕ, suc, ◌+◌, ◌*◌, ◌/◌, ◌%◌, ◌<◌, ◌≤◌}
use mathlib.Core.Path.{◌≡◌, refl, ap}
use mathlib.Core.List.{List, [], ◌∷◌, ◌++◌, append_assoc, append-nil}
use native.Mathlib.Omega.{arith}
use native.Mathlib.Numerals.{add-one}
use lib.ListN.{length, get_or, take, drop, set, length-set}
use lib.Seq.{drop-cons, take-suc-set}
use Rattle.std.proofs.Math.ListN.{drop_of_length-le}
use Rattle.replay.specs.Hex.{digit_of, hex_of}

pub hex_at : (bs : List ℕ) (i : ℕ) → i < length bs
    → hex_of (drop i bs) ≡ ((digit_of (get_or bs i 0 / 16) ∷ []) ++ (digit_of (get_or bs i 0 % 16) ∷ [])) ++ hex_of (drop (i + 1) bs)
unfolding hex_of
hex_at bs i h = rw (drop-cons bs i 0 h, add-one i)

pub hex_append : (a b : List ℕ) → hex_of (a ++ b) ≡ hex_of a ++ hex_of b
unfolding hex_of
hex_append [] b = refl
hex_append (x ∷ a) b = ap (λ (t : List ℕ). digit_of (x / 16) ∷ digit_of (x % 16) ∷ t) (hex_append a b)

-- the digits of i bytes are written, and those of the others make them whole
module _ (bs : List ℕ) where
  abbrev pub Written : ℕ → List ℕ → Type 0
  Written i digits = take (2 * i) digits ++ hex_of (drop i bs) ≡ hex_of bs

  pub hex_on : (digits : List ℕ) (i : ℕ) → i < length bs → 2 * length bs ≤ length digits → Written i digits
      → Written (i + 1) (set (set digits (2 * i) (digit_of (get_or bs i 0 / 16))) (2 * i + 1) (digit_of (get_or bs i 0 % 16)))
  hex_on digits i h room is =
      let high = digit_of (get_or bs i 0 / 16) in
      let low = digit_of (get_or bs i 0 % 16) in
      let rest = hex_of (drop (i + 1) bs) in
      let one : take (2 * i + 1) (set digits (2 * i) high) ≡ take (2 * i) digits ++ (high ∷ []) = rw (add-one (2 * i), take-suc-set digits (2 * i) high (omega arith)) in
      let end : 2 * (i + 1) ≡ suc (2 * i + 1) = omega arith in
      let two : take (2 * (i + 1)) (set (set digits (2 * i) high) (2 * i + 1) low) ≡ (take (2 * i) digits ++ (high ∷ [])) ++ (low ∷ []) =
      rw (end, take-suc-set (set digits (2 * i) high) (2 * i + 1) low (omega (arith, length-set digits (2 * i) high)), one) in
      rw (two, append_assoc (take (2 * i) digits ++ (high ∷ [])) (low ∷ []) rest, append_assoc (take (2 * i) digits) (high ∷ []) ((low ∷ []) ++ rest), ← hex_at bs i h) is

  pub hex_end : (digits : List ℕ) (i : ℕ) → i ≡ length bs → Written i digits → take (2 * length bs) digits ≡ hex_of bs
  unfolding hex_of
  hex_end digits i end is = rw (drop_of_length-le bs {i = i} (omega (arith, end)), end, append-nil (take (2 * length bs) digits)) at is
