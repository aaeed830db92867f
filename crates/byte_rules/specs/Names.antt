-- Valid labels and reserved names (document 01, "Taken and left").
use Rattle.std.specs.Prelude.{ℕ, ◌-◌, Bool, true, false, cond, ◌&&◌, ◌||◌, List, [], ◌∷◌, leb, eqb}
use Rattle.byte_rules.specs.Text.{bytes}
use Rattle.byte_rules.specs.Classes.{is_alphanumeric, is_small}

-- . - _ and the alphanumeric bytes
unfoldable pub is_label_byte : ℕ → Bool
is_label_byte c = eqb c 46 || eqb c 45 || eqb c 95 || is_alphanumeric c

-- an empty label is valid
unfoldable pub is_valid_label : List ℕ → Bool
is_valid_label [] = true
is_valid_label (c ∷ cs) = is_label_byte c && is_valid_label cs

-- ASCII case ignored: the capital of a small letter
unfoldable pub upper : ℕ → ℕ
upper c = cond (is_small c) (c - 32) c

-- 1 stands for each of the digits 1 to 9, any other byte for itself
unfoldable pub fits_sign : ℕ → ℕ → Bool
fits_sign p c = cond (eqb p 49) (leb 49 c && leb c 57) (eqb (upper c) p)

-- the whole name, byte by byte
unfoldable pub is_name : List ℕ → List ℕ → Bool
is_name [] [] = true
is_name [] (c ∷ cs) = false
is_name (p ∷ ps) [] = false
is_name (p ∷ ps) (c ∷ cs) = fits_sign p c && is_name ps cs

-- CON, PRN, AUX, NUL, COM1 to COM9, LPT1 to LPT9
unfoldable pub is_reserved_name : List ℕ → Bool
is_reserved_name name =
    is_name (bytes "CON") name || is_name (bytes "PRN") name || is_name (bytes "AUX") name || is_name (bytes "NUL") name
    || is_name (bytes "COM1") name || is_name (bytes "LPT1") name
