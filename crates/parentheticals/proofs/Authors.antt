-- The laws of an author's field: one for each way that the code goes, and that fields on one way end alike.
-- Assumes nothing.
use Prim.Native.Nat.{ℕ, zero, suc, ◌+◌, ◌-◌, ◌<◌, ◌≤◌}
use mathlib.Core.Path.{◌≡◌, refl, ap, sym, ◌∙◌}
use mathlib.Core.List.{List}
use mathlib.Core.Bool.{Bool, true, false, cond}
use Rattle.std.specs.Prelude.{None, Some}
use native.Mathlib.Omega.{arith}
use lib.Dec.{leb, eqb}
use lib.ListN.{length, get_or}
use borrow.Author.Tests.{eq-eqb, ne_eqb, eqb-true, eqb-false, leb-true, leb-false}
use Rattle.byte_rules.specs.Classes.{is_credit_space}
use Rattle.byte_rules.specs.Utf8.{char_len}
use Rattle.byte_rules.proofs.Laws.{credit_space_low}
use Rattle.byte_rules.proofs.Characters.{char_fits, char_high}
use Rattle.look.specs.Look.{holds_at, byte_at}
use Rattle.look.proofs.Laws.{byte_past}
use Rattle.parentheticals.specs.Fields.{comma, author_byte, author_len, author_within, author_end}
use Rattle.parentheticals.proofs.FieldLaws.{len_past}
use Rattle.parentheticals.proofs.Inside.{never}

module _ (bars : ℕ → Bool) (s : List ℕ) where
  -- ---- a character of an author is one of the text

  len_is : (i : ℕ) → (author_len bars s i ≡ 0 → ⊥) → author_len bars s i ≡ char_len s i
  unfolding author_len
  len_is i n = go (holds_at (author_byte bars) s i) n
    where
      go : (t : Bool) → (cond t (char_len s i) 0 ≡ 0 → ⊥) → cond t (char_len s i) 0 ≡ char_len s i
      go true n = refl
      go false n = absurd (n refl)

  pub len_fits : (i : ℕ) → author_len bars s i ≤ length s - i
  unfolding author_len
  len_fits i = go (holds_at (author_byte bars) s i)
    where
      go : (t : Bool) → cond t (char_len s i) 0 ≤ length s - i
      go true = char_fits s i
      go false = omega arith

  -- ---- as many characters as bytes are enough

  past : (k i : ℕ) → length s ≤ i → author_within bars k s i ≡ None
  unfolding author_within
  past zero i h = refl
  past (suc k) i h = rw (byte_past s i comma h, ← len_past bars s i h)

  same : (j k i : ℕ) → length s ≤ i + j → length s ≤ i + k → author_within bars j s i ≡ author_within bars k s i
  unfolding author_within
  same zero k i p q = sym (past k i (omega arith))
  same (suc j) zero i p q = past (suc j) i (omega arith)
  same (suc j) (suc k) i p q = go (eqb (author_len bars s i) 0) refl (λ n. same j k (i + author_len bars s i) (omega arith) (omega arith))
    where
      go : (t : Bool) → eqb (author_len bars s i) 0 ≡ t
          → ((author_len bars s i ≡ 0 → ⊥) → author_within bars j s (i + author_len bars s i) ≡ author_within bars k s (i + author_len bars s i))
          → author_within bars (suc j) s i ≡ author_within bars (suc k) s i
      go true e ih = rw e
      go false e ih = rw (ih (eqb-false (author_len bars s i) 0 e))

  -- ---- the ways from i

  module _ (i : ℕ) where
    pub author_comma : byte_at s i comma ≡ true → author_end bars s i ≡ Some i
    unfolding author_end author_within
    author_comma e = rw e

    module _ (e : byte_at s i comma ≡ false) where
      pub author_stop : author_len bars s i ≡ 0 → author_end bars s i ≡ None
      unfolding author_end author_within
      author_stop z = rw (e, eq-eqb _ 0 z)

      step : (n : ℕ) → n ≡ author_len bars s i → (n ≡ 0 → ⊥) → author_within bars (suc (length s)) s i ≡ author_within bars (length s) s (i + n)
      unfolding author_within
      step n is more = rw (is, e, ne_eqb (author_len bars s i) 0 (λ z. more (is ∙ z)))

      pub author_next : (n : ℕ) → n ≡ author_len bars s i → (n ≡ 0 → ⊥) → author_end bars s i ≡ author_end bars s (i + n)
      unfolding author_end
      author_next n is more = step n is more ∙ same (length s) (suc (length s)) (i + n) (omega arith) (omega arith)

  -- ---- the end is a `,`, from the start on

  within_ends : (k i j : ℕ) → author_within bars k s i ≡ Some j → (i ≤ j) × (byte_at s j comma ≡ true)
  unfolding author_within
  within_ends zero i j e = never e
  within_ends (suc k) i j e = go (byte_at s i comma) (eqb (author_len bars s i) 0) refl refl (within_ends k (i + author_len bars s i) j)
    where
      go : (t u : Bool) → byte_at s i comma ≡ t → eqb (author_len bars s i) 0 ≡ u
          → (author_within bars k s (i + author_len bars s i) ≡ Some j → (i + author_len bars s i ≤ j) × (byte_at s j comma ≡ true))
          → (i ≤ j) × (byte_at s j comma ≡ true)
      go true u t v ih =
          let is : Some i ≡ Some j = rw t at e in
          let n : i ≡ j = cc in
          (omega arith, rw n at t)
      go false true t v ih = never (rw (t, v) at e)
      go false false t v ih = let r = ih (rw (t, v) at e) in (omega arith, r.1)

  pub author_ends : (i j : ℕ) → author_end bars s i ≡ Some j → (i ≤ j) × (byte_at s j comma ≡ true)
  unfolding author_end
  author_ends i j e = within_ends (suc (length s)) i j e

  -- ---- fields on one way: one that starts behind a space, between a field's start and a place that it came to, ends like it

  abbrev pub Way : ℕ → ℕ → Type 0
  Way start i = (j : ℕ) → start ≤ j → j ≤ i → is_credit_space (get_or s (j - 1) 0) ≡ true → author_end bars s j ≡ author_end bars s i

  at_place : (i j : ℕ) → i ≡ j → author_end bars s i ≡ author_end bars s j
  at_place i j e = ap (λ (k : ℕ). author_end bars s k) e

  pub way_on : (start i n : ℕ) → byte_at s i comma ≡ false → n ≡ author_len bars s i → (n ≡ 0 → ⊥) → Way start i → Way start (i + n)
  way_on start i n e is more way j low high spaced = before (leb j i) refl
    where
      -- no place inside a character is behind a space
      inside : i < j → j < i + n → ⊥
      inside a b =
          let long : n ≡ char_len s i = is ∙ len_is i (λ z. more (is ∙ z)) in
          let c = char_high s i (omega arith) (j - 1) (omega arith) (omega arith) in
          omega (arith, credit_space_low (get_or s (j - 1) 0) spaced)

      at_end_case : i < j → (t : Bool) → eqb j (i + n) ≡ t → author_end bars s j ≡ author_end bars s (i + n)
      at_end_case a true t = at_place j (i + n) (eqb-true j (i + n) t)
      at_end_case a false t = let f : j ≡ i + n → ⊥ = eqb-false j (i + n) t in absurd (inside a (omega arith))

      before : (t : Bool) → leb j i ≡ t → author_end bars s j ≡ author_end bars s (i + n)
      before true t = way j low (leb-true j i t) spaced ∙ author_next i e n is more
      before false t = at_end_case (leb-false j i t) (eqb j (i + n)) refl
