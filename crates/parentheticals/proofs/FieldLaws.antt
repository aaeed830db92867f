-- The laws of the fields' matchers: one for each way that the code goes.
-- Assumes nothing.
use Prim.Native.Nat.{ℕ, suc, ◌+◌, ◌<◌, ◌≤◌}
use mathlib.Core.Path.{◌≡◌, refl, sym, ◌∙◌}
use mathlib.Core.List.{List}
use mathlib.Core.Bool.{Bool, true, false, ◌&&◌, not}
use Rattle.std.specs.Prelude.{None, Some}
use native.Mathlib.Numerals.{add-one}
use native.Mathlib.Omega.{arith}
use lib.Dec.{ltb}
use lib.ListN.{length, get_or, drop, drop_of_length-le}
use borrow.Author.Tests.{ltb-true, ltb-false}
use lib.Seq.{drop-cons}
use Rattle.byte_rules.specs.Classes.{is_credit_space, is_author_byte}
use Rattle.byte_rules.specs.Reading.{named}
use Rattle.byte_rules.specs.Utf8.{char_len}
use Rattle.byte_rules.specs.declared.reading.Reading.{Reading as Name}
use Rattle.byte_rules.proofs.Laws.{author_takes, author_unbarred}
use Rattle.byte_rules.proofs.Characters.{char_one}
use Rattle.look.specs.Look.{holds_at}
use Rattle.look.proofs.Laws.{holds_in, holds_past, holds_within, holds_is}
use Rattle.parentheticals.specs.Fields.{space_run, sign_at, phrase_at, fits, picture_at}
use Rattle.parentheticals.specs.Fields.{author_byte, author_len}

-- ---- spaces

module _ (s : List ℕ) (i : ℕ) where
  pub run_past : length s ≤ i → space_run (drop i s) ≡ 0
  unfolding space_run
  run_past h = rw (drop_of_length-le s h)

  module _ (h : i < length s) where
    pub run_stop : is_credit_space (get_or s i 0) ≡ false → space_run (drop i s) ≡ 0
    unfolding space_run
    run_stop e = rw (drop-cons s i 0 h, e)

    pub run_more : is_credit_space (get_or s i 0) ≡ true → space_run (drop i s) ≡ suc (space_run (drop (i + 1) s))
    unfolding space_run
    run_more e = rw (add-one, drop-cons s i 0 h, e)

  -- by the byte at i, which may be past the end

  pub run_none : holds_at is_credit_space s i ≡ false → space_run (drop i s) ≡ 0
  run_none e = go (ltb i (length s)) refl
    where
      go : (t : Bool) → ltb i (length s) ≡ t → space_run (drop i s) ≡ 0
      go true t = let h = ltb-true i (length s) t in run_stop h (sym (holds_in is_credit_space s i h) ∙ e)
      go false t = run_past (ltb-false i (length s) t)

  pub run_on : holds_at is_credit_space s i ≡ true → space_run (drop i s) ≡ suc (space_run (drop (i + 1) s))
  run_on e = run_more (holds_within is_credit_space s i e) (holds_is is_credit_space s i e)

-- ---- phrases

module _ (w s : List ℕ) (k i : ℕ) where
  pub phrase_end : length w ≤ k → phrase_at (drop k w) s i ≡ Some i
  unfolding phrase_at
  phrase_end h = rw (drop_of_length-le w h)

  module _ (h : k < length w) where
    pub phrase_next : (j : ℕ) → sign_at (get_or w k 0) s i ≡ Some j → phrase_at (drop k w) s i ≡ phrase_at (drop (k + 1) w) s j
    unfolding phrase_at
    phrase_next j e = rw (add-one, drop-cons w k 0 h, e)

    pub phrase_stop : sign_at (get_or w k 0) s i ≡ None → phrase_at (drop k w) s i ≡ None
    unfolding phrase_at
    phrase_stop e = rw (drop-cons w k 0 h, e)

-- ---- pictures

module _ (w s : List ℕ) (k i : ℕ) where
  pub picture_end : length w ≤ k → picture_at (drop k w) s i ≡ Some i
  unfolding picture_at
  picture_end h = rw (drop_of_length-le w h)

  module _ (h : k < length w) where
    pub picture_past : length s ≤ i → picture_at (drop k w) s i ≡ None
    unfolding picture_at
    picture_past g = rw (drop-cons w k 0 h, holds_past (fits (get_or w k 0)) s i g)

    module _ (g : i < length s) where
      pub picture_next : fits (get_or w k 0) (get_or s i 0) ≡ true → picture_at (drop k w) s i ≡ picture_at (drop (k + 1) w) s (i + 1)
      unfolding picture_at
      picture_next e = rw (add-one k, drop-cons w k 0 h, holds_in (fits (get_or w k 0)) s i g, e)

      pub picture_stop : fits (get_or w k 0) (get_or s i 0) ≡ false → picture_at (drop k w) s i ≡ None
      unfolding picture_at
      picture_stop e = rw (drop-cons w k 0 h, holds_in (fits (get_or w k 0)) s i g, e)

-- ---- authors

module _ (bars : ℕ → Bool) (s : List ℕ) (i : ℕ) where
  pub len_past : length s ≤ i → 0 ≡ author_len bars s i
  unfolding author_len
  len_past h = rw (holds_past (author_byte bars) s i h)

  module _ (h : i < length s) where
    pub len_char : (is_author_byte (get_or s i 0) && not (bars (get_or s i 0))) ≡ true → char_len s i ≡ author_len bars s i
    unfolding author_len author_byte
    len_char e = rw (holds_in (author_byte bars) s i h, e)

    pub len_other : (is_author_byte (get_or s i 0) && not (bars (get_or s i 0))) ≡ false → 0 ≡ author_len bars s i
    unfolding author_len author_byte
    len_other e = rw (holds_in (author_byte bars) s i h, e)

-- a byte behind the `,` is an author's in either reading, and takes as many bytes as its character
pub len_high : (n : Name) (s : List ℕ) (i : ℕ) → i < length s → 44 < get_or s i 0 → char_len s i ≡ author_len (named n).bars_author s i
len_high n s i h above = len_char (named n).bars_author s i h (rw (author_takes (get_or s i 0) above, author_unbarred n (get_or s i 0) above))

-- an ASCII byte behind the `,` is a character of an author in either reading
pub len_one : (n : Name) (s : List ℕ) (i : ℕ) → i < length s → 44 < get_or s i 0 → get_or s i 0 < 128 → 1 ≡ author_len (named n).bars_author s i
len_one n s i h above low = sym (char_one s i h low) ∙ len_high n s i h above

-- one up to the `,` is, where the author takes it
pub len_low : (bars : ℕ → Bool) (s : List ℕ) (i : ℕ) → i < length s → get_or s i 0 ≤ 44 → (is_author_byte (get_or s i 0) && not (bars (get_or s i 0))) ≡ true → 1 ≡ author_len bars s i
len_low bars s i h low e = sym (char_one s i h (omega arith)) ∙ len_char bars s i h e
