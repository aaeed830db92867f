-- The fields of a parenthetical (document 01, "Credits and dates"): each matcher takes the text and a place,
-- and gives the place past what it matched, if it matches there.
use Rattle.std.specs.Prelude.{ℕ, zero, suc, ◌+◌, ◌-◌, List, [], ◌∷◌, Bool, cond, ◌&&◌, not, length, drop, ltb, eqb, Option, Some, None}
use Rattle.std.specs.Option.{option_or}
use Rattle.byte_rules.specs.Text.{bytes}
use Rattle.byte_rules.specs.Classes.{is_credit_space, is_digit, is_capital, is_small, is_author_byte}
use Rattle.byte_rules.specs.Utf8.{char_len}
use Rattle.look.specs.Look.{holds_at, byte_at}

-- the byte that ends an author
abbrev pub comma : ℕ
comma = 44

-- one field after the other
infixl 20 ◌>>=◌
abbrev pub ◌>>=◌ : {A B : Type 0} → Option A → (A → Option B) → Option B
◌>>=◌ None f = None
◌>>=◌ (Some a) f = f a

-- ---- spaces: space, CR, LF, one or more

-- how many spaces a text begins with
unfoldable pub space_run : List ℕ → ℕ
space_run [] = 0
space_run (b ∷ s) = cond (is_credit_space b) (suc (space_run s)) 0

-- the end of the spaces at i
abbrev pub space_end : List ℕ → ℕ → ℕ
space_end s i = i + space_run (drop i s)

unfoldable pub spaces_at : List ℕ → ℕ → Option ℕ
spaces_at s i = cond (ltb i (space_end s i)) (Some (space_end s i)) None

-- ---- phrases: a space stands for spaces, any other byte for itself

unfoldable pub sign_at : ℕ → List ℕ → ℕ → Option ℕ
sign_at b s i = cond (eqb b 32) (spaces_at s i) (cond (byte_at s i b) (Some (i + 1)) None)

unfoldable pub phrase_at : List ℕ → List ℕ → ℕ → Option ℕ
phrase_at [] s i = Some i
phrase_at (b ∷ w) s i = sign_at b s i >>= (λ j. phrase_at w s j)

-- ---- pictures: `0` stands for a digit, `A` for a capital, `a` for a small letter, any other byte for itself

unfoldable pub fits : ℕ → ℕ → Bool
fits p b = cond (eqb p 48) (is_digit b) (cond (eqb p 65) (is_capital b) (cond (eqb p 97) (is_small b) (eqb b p)))

unfoldable pub picture_at : List ℕ → List ℕ → ℕ → Option ℕ
picture_at [] s i = Some i
picture_at (p ∷ w) s i = cond (holds_at (fits p) s i) (picture_at w s (i + 1)) None

-- a date, its day of one digit or of two
unfoldable pub date_at : List ℕ → ℕ → Option ℕ
date_at s i = option_or (picture_at (bytes "0-Aaa-0000") s i) (picture_at (bytes "00-Aaa-0000") s i)

-- ---- authors: characters of UTF-8, without `,` and `)`

-- where an author starts: the spaces before take all they can while the author keeps one byte, so before a `,` they leave it the last of them
unfoldable pub author_start : List ℕ → ℕ → Option ℕ
author_start s i = spaces_at s i >>= (λ e. cond (byte_at s e comma) (cond (ltb (i + 1) e) (Some (e - 1)) None) (Some e))

-- by the bytes that the reading bars from an author's field
module _ (bars : ℕ → Bool) where
  unfoldable pub author_byte : ℕ → Bool
  author_byte c = is_author_byte c && not (bars c)

  -- how many bytes the author's character at i has; 0 if none stands there
  unfoldable pub author_len : List ℕ → ℕ → ℕ
  author_len s i = cond (holds_at author_byte s i) (char_len s i) 0

  -- the `,` that ends an author's field of fewer than k characters, from i on
  unfoldable pub author_within : ℕ → List ℕ → ℕ → Option ℕ
  author_within zero s i = None
  author_within (suc k) s i =
      let rest = author_within k s (i + author_len s i) in
      cond (byte_at s i comma) (Some i) (cond (eqb (author_len s i) 0) None rest)

  unfoldable pub author_end : List ℕ → ℕ → Option ℕ
  author_end s i = author_within (suc (length s)) s i
