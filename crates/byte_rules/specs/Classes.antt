-- The classes of bytes (document 01, "Reading rules" and "Credits and dates").
use Rattle.std.specs.Prelude.{ℕ, Bool, true, false, ◌&&◌, ◌||◌, not, leb, eqb}

-- tab, LF, form feed, CR, space
unfoldable pub is_blank : ℕ → Bool
is_blank c = eqb c 9 || eqb c 10 || eqb c 12 || eqb c 13 || eqb c 32

-- . , ; ) ? ! : ] ' " _ -
unfoldable pub is_closer : ℕ → Bool
is_closer c =
    eqb c 46 || eqb c 44 || eqb c 59 || eqb c 41 || eqb c 63 || eqb c 33 || eqb c 58 || eqb c 93 || eqb c 39 || eqb c 34 || eqb c 95 || eqb c 45

-- ( [ ' "
unfoldable pub is_italic_opener : ℕ → Bool
is_italic_opener c = eqb c 40 || eqb c 91 || eqb c 39 || eqb c 34

-- 0 to 9
unfoldable pub is_digit : ℕ → Bool
is_digit c = leb 48 c && leb c 57

-- A to Z
unfoldable pub is_capital : ℕ → Bool
is_capital c = leb 65 c && leb c 90

-- a to z
unfoldable pub is_small : ℕ → Bool
is_small c = leb 97 c && leb c 122

unfoldable pub is_alphanumeric : ℕ → Bool
is_alphanumeric c = is_digit c || is_capital c || is_small c

-- space, CR, LF: the spaces of a credit
unfoldable pub is_credit_space : ℕ → Bool
is_credit_space c = eqb c 32 || eqb c 13 || eqb c 10

-- neither , nor )
unfoldable pub is_author_byte : ℕ → Bool
is_author_byte c = not (eqb c 44) && not (eqb c 41)

-- the escapes of a label: ` [ ~
unfoldable pub is_label_escape : ℕ → Bool
is_label_escape c = eqb c 96 || eqb c 91 || eqb c 126

-- those of a Text, in HTML and outside it: the same, and outside HTML _
unfoldable pub is_text_escape : Bool → ℕ → Bool
is_text_escape true c = is_label_escape c
is_text_escape false c = is_label_escape c || eqb c 95

-- that of math: `
unfoldable pub is_math_escape : ℕ → Bool
is_math_escape c = eqb c 96
