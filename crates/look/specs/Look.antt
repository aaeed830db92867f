-- What stands at a place of a text: past its end no test holds.
use Rattle.std.specs.Prelude.{ℕ, ◌+◌, Bool, true, ◌&&◌, List, [], ◌∷◌, get_or, length, ltb, eqb}
use Rattle.byte_rules.specs.Classes.{is_blank, is_alphanumeric, is_closer, is_italic_opener}

-- a place inside the text, whose byte passes a test
unfoldable pub holds_at : (ℕ → Bool) → List ℕ → ℕ → Bool
holds_at test s i = ltb i (length s) && test (get_or s i 0)

unfoldable pub is_byte : ℕ → ℕ → Bool
is_byte b c = eqb c b

module _ (s : List ℕ) where
  unfoldable pub byte_at : ℕ → ℕ → Bool
  byte_at i b = holds_at (is_byte b) s i

  unfoldable pub blank_at : ℕ → Bool
  blank_at i = holds_at is_blank s i

  unfoldable pub alphanumeric_at : ℕ → Bool
  alphanumeric_at i = holds_at is_alphanumeric s i

  unfoldable pub closer_at : ℕ → Bool
  closer_at i = holds_at is_closer s i

  unfoldable pub italic_opener_at : ℕ → Bool
  italic_opener_at i = holds_at is_italic_opener s i

  -- a byte and the same byte again
  unfoldable pub doubled_at : ℕ → ℕ → Bool
  doubled_at i b = byte_at i b && byte_at (i + 1) b

  -- the bytes of a word, one after the other from i
  unfoldable pub word_at : ℕ → List ℕ → Bool
  word_at i [] = true
  word_at i (b ∷ bs) = byte_at i b && word_at (i + 1) bs
