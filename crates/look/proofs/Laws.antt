-- What holds of the tests by place: past the end none holds; a place has one byte; a word is read a byte at a time.
-- Assumes nothing.
use Prim.Native.Nat.{ℕ, zero, suc, ◌+◌, ◌-◌, ◌≤◌, ◌<◌}
use mathlib.Core.Bool.{Bool, true, false}
use mathlib.Core.Path.{◌≡◌, refl, sym, ◌∙◌}
use mathlib.Core.List.{List, [], ◌∷◌}
use native.Mathlib.Omega.{arith}
use borrow.Author.Tests.{le-ltb, lt-ltb, ltb-true, ltb-false, eq-eqb, eqb-true, eqb-false, ne_eqb}
use Rattle.std.specs.List.{starts_with}
use lib.Dec.{ltb, eqb}
use lib.ListN.{length, drop, get_or, length-drop}
use lib.Seq.{get_or-drop}
use Rattle.basics.proofs.Laws.{differ, both}
use Rattle.byte_rules.specs.Classes.{is_blank, is_closer}
use Rattle.look.specs.Look.{holds_at, is_byte, byte_at, blank_at, alphanumeric_at, closer_at, doubled_at, word_at}

-- any test, of which the tests by place are instances
module _ (test : ℕ → Bool) (s : List ℕ) (i : ℕ) where
  pub holds_in : i < length s → holds_at test s i ≡ test (get_or s i 0)
  unfolding holds_at
  holds_in h = rw (lt-ltb i (length s) h)

  pub holds_past : length s ≤ i → holds_at test s i ≡ false
  unfolding holds_at
  holds_past h = rw (le-ltb i (length s) h)

  pub holds_within : holds_at test s i ≡ true → i < length s
  unfolding holds_at
  holds_within h = ltb-true i (length s) (both (ltb i (length s)) _ h).0

  pub holds_is : holds_at test s i ≡ true → test (get_or s i 0) ≡ true
  unfolding holds_at
  holds_is h = (both (ltb i (length s)) _ h).1

module _ (s : List ℕ) (i : ℕ) where
  pub byte_past : (b : ℕ) → length s ≤ i → byte_at s i b ≡ false
  unfolding byte_at
  byte_past b = holds_past (is_byte b) s i

  pub byte_within : (b : ℕ) → byte_at s i b ≡ true → i < length s
  unfolding byte_at
  byte_within b = holds_within (is_byte b) s i

  pub byte_is : (b : ℕ) → byte_at s i b ≡ true → get_or s i 0 ≡ b
  unfolding byte_at is_byte
  byte_is b h = eqb-true (get_or s i 0) b (holds_is (is_byte b) s i h)

  pub byte_test : (b : ℕ) → i < length s → byte_at s i b ≡ eqb (get_or s i 0) b
  unfolding byte_at is_byte
  byte_test b h = holds_in (is_byte b) s i h

  -- a place has one byte
  pub byte_other : (a b : ℕ) → byte_at s i a ≡ true → (a ≡ b → ⊥) → byte_at s i b ≡ false
  byte_other a b h n = byte_test b (byte_within a h) ∙ rw (byte_is a h, ne_eqb a b n)

  -- so none that passes a test stands where the test does not hold, and none that does not where it holds
  module _ (test : ℕ → Bool) (b : ℕ) where
    held : (x : Bool) → test b ≡ x → byte_at s i b ≡ true → holds_at test s i ≡ x
    held x t h = holds_in test s i (byte_within b h) ∙ rw (byte_is b h) t

    pub not_byte : test b ≡ true → holds_at test s i ≡ false → byte_at s i b ≡ false
    not_byte t n = go (byte_at s i b) refl
      where
        go : (x : Bool) → byte_at s i b ≡ x → byte_at s i b ≡ false
        go true e = let y = held true t e in absurd (differ cc)
        go false e = e

    pub other_byte : test b ≡ false → holds_at test s i ≡ true → byte_at s i b ≡ false
    other_byte t n = go (byte_at s i b) refl
      where
        go : (x : Bool) → byte_at s i b ≡ x → byte_at s i b ≡ false
        go true e = let y = held false t e in absurd (differ cc)
        go false e = e

  pub blank_within : blank_at s i ≡ true → i < length s
  unfolding blank_at
  blank_within = holds_within is_blank s i

  pub blank_is : blank_at s i ≡ true → is_blank (get_or s i 0) ≡ true
  unfolding blank_at
  blank_is = holds_is is_blank s i

  pub blank_test : i < length s → blank_at s i ≡ is_blank (get_or s i 0)
  unfolding blank_at
  blank_test = holds_in is_blank s i

  pub blank_past : length s ≤ i → blank_at s i ≡ false
  unfolding blank_at
  blank_past = holds_past is_blank s i

  pub blank_other : (a : ℕ) → byte_at s i a ≡ true → is_blank a ≡ false → blank_at s i ≡ false
  blank_other a h n = blank_test (byte_within a h) ∙ rw (byte_is a h, n)

  pub alphanumeric_within : alphanumeric_at s i ≡ true → i < length s
  unfolding alphanumeric_at
  alphanumeric_within = holds_within _ s i

  pub closer_within : closer_at s i ≡ true → i < length s
  unfolding closer_at
  closer_within = holds_within _ s i

  pub closer_is : closer_at s i ≡ true → is_closer (get_or s i 0) ≡ true
  unfolding closer_at
  closer_is = holds_is is_closer s i

  pub doubled_first : (b : ℕ) → doubled_at s i b ≡ true → byte_at s i b ≡ true
  unfolding doubled_at
  doubled_first b h = (both (byte_at s i b) _ h).0

  pub doubled_second : (b : ℕ) → doubled_at s i b ≡ true → byte_at s (i + 1) b ≡ true
  unfolding doubled_at
  doubled_second b h = (both (byte_at s i b) _ h).1

  pub doubled_not : (b : ℕ) → byte_at s i b ≡ false → doubled_at s i b ≡ false
  unfolding doubled_at
  doubled_not b h = rw h

pub doubled_within : (s : List ℕ) (i b : ℕ) → doubled_at s i b ≡ true → i + 2 ≤ length s
doubled_within s i b h = omega (arith, byte_within s (i + 1) b (doubled_second s i b h))

-- a word at p is a word at the start of the text from p on
module _ (s : List ℕ) (p : ℕ) where
  byte_from : (i b : ℕ) → byte_at (drop p s) i b ≡ byte_at s (p + i) b
  byte_from i b = go (ltb (p + i) (length s)) refl
    where
      d : length (drop p s) ≡ length s - p
      d = length-drop p s

      go : (t : Bool) → ltb (p + i) (length s) ≡ t → byte_at (drop p s) i b ≡ byte_at s (p + i) b
      go true t =
          let h : p + i < length s = ltb-true _ _ t in
          byte_test (drop p s) i b (omega (arith, d)) ∙ rw (get_or-drop p s i 0) (sym (byte_test s (p + i) b h))
      go false t =
          let h : length s ≤ p + i = ltb-false _ _ t in
          byte_past (drop p s) i b (omega (arith, d)) ∙ sym (byte_past s (p + i) b h)

  word_from : (w : List ℕ) (i : ℕ) → word_at (drop p s) i w ≡ word_at s (p + i) w
  unfolding word_at
  word_from [] i = refl
  word_from (b ∷ bs) i = let z : p + (i + 1) ≡ p + i + 1 = omega arith in rw (byte_from i b, word_from bs (i + 1), z)

  pub word_here : (w : List ℕ) → word_at (drop p s) 0 w ≡ word_at s p w
  word_here w = let z : p + 0 ≡ p = omega arith in rw z at (word_from w 0)

-- a word begins a text, as the library tests it, just where it stands at its start
same_test : (a b : ℕ) → eqb a b ≡ eqb b a
same_test a b = go (eqb b a) refl
  where
    go : (t : Bool) → eqb b a ≡ t → eqb a b ≡ t
    go true t = eq-eqb a b (sym (eqb-true b a t))
    go false t = ne_eqb a b (λ e. eqb-false b a t (sym e))

pub starts_word : (s w : List ℕ) → starts_with eqb s w ≡ word_at s 0 w
unfolding word_at
starts_word s [] = refl
starts_word [] (b ∷ bs) = rw (byte_past [] 0 b (omega arith))
starts_word (x ∷ xs) (b ∷ bs) = rw (same_test b x, starts_word xs bs, word_here (x ∷ xs) 1 bs, byte_test (x ∷ xs) 0 b (omega arith))

module _ (s : List ℕ) where
  -- a word that stands at i ends within the text
  pub word_within : (w : List ℕ) (i : ℕ) → i ≤ length s → word_at s i w ≡ true → i + length w ≤ length s
  unfolding word_at
  word_within [] i h t = omega arith
  word_within (b ∷ bs) i h t =
      let a : i < length s = byte_within s i b (both (byte_at s i b) (word_at s (i + 1) bs) t).0 in
      omega (arith, word_within bs (i + 1) (omega arith) (both (byte_at s i b) (word_at s (i + 1) bs) t).1)

  -- so one that would end past it does not stand there
  pub word_short : (w : List ℕ) (i : ℕ) → i ≤ length s → length s < i + length w → word_at s i w ≡ false
  word_short w i h l = go (word_at s i w) refl
    where
      go : (t : Bool) → word_at s i w ≡ t → word_at s i w ≡ false
      go true e = let x : i + length w ≤ length s = word_within w i h e in absurd (omega arith)
      go false e = e

  -- each byte of a word that stands at i
  pub word_byte : (w : List ℕ) (i k : ℕ) → word_at s i w ≡ true → k < length w → byte_at s (i + k) (get_or w k 0) ≡ true
  unfolding word_at
  word_byte [] i k h l = absurd (omega arith)
  word_byte (b ∷ bs) i zero h l = let z : i + 0 ≡ i = omega arith in rw z (both (byte_at s i b) _ h).0
  word_byte (b ∷ bs) i (suc k) h l =
      let z : i + suc k ≡ i + 1 + k = omega arith in
      rw z (word_byte bs (i + 1) k (both (byte_at s i b) _ h).1 (omega arith))

  -- a word whose first byte does not stand at i
  pub word_not : (i b : ℕ) (bs : List ℕ) → byte_at s i b ≡ false → word_at s i (b ∷ bs) ≡ false
  unfolding word_at
  word_not i b bs h = rw h

  -- nor a word whose first byte, read from it, does not
  pub word_first : (w : List ℕ) (i : ℕ) → 0 < length w → byte_at s i (get_or w 0 0) ≡ false → word_at s i w ≡ false
  word_first [] i h n = absurd (omega arith)
  word_first (b ∷ bs) i h n = word_not i b bs n

  -- past the end stands the empty word alone
  pub word_past : (w : List ℕ) (i : ℕ) → length s ≤ i → eqb (length w) 0 ≡ word_at s i w
  unfolding word_at
  word_past [] i h = refl
  word_past (b ∷ bs) i h = ne_eqb (length (b ∷ bs)) 0 (λ e. omega arith) ∙ sym (word_not i b bs (byte_past s i b h))
