-- The classes of a byte as one number, its mask: the sum of a bit for each of four classes that it is in.
use Rattle.std.specs.Prelude.{ℕ, ◌+◌, Bool, cond}
use Rattle.byte_rules.specs.Classes.{is_blank, is_closer, is_italic_opener, is_alphanumeric}

-- 1 blank, 2 closer, 4 italic opener, 8 alphanumeric
unfoldable pub bits : Bool → Bool → Bool → Bool → ℕ
bits blank closer opener alphanumeric = cond blank 1 0 + cond closer 2 0 + cond opener 4 0 + cond alphanumeric 8 0

unfoldable pub mask_of : ℕ → ℕ
mask_of c = bits (is_blank c) (is_closer c) (is_italic_opener c) (is_alphanumeric c)
