-- The code's tests by `all` say what the definitions say by recursion.
-- Assumes nothing.
use Prim.Native.Nat.{ℕ, suc}
use mathlib.Core.Path.{◌≡◌, refl, ap}
use mathlib.Core.Bool.{Bool, true, false, ◌&&◌}
use mathlib.Core.List.{List, [], ◌∷◌}
use lib.ListN.{length}
use Rattle.std.specs.List.{list_all, zip}
use Rattle.byte_rules.specs.Names.{is_label_byte, is_valid_label, fits_sign, is_name}

pub valid_all : (l : List ℕ) → list_all is_label_byte l ≡ is_valid_label l
unfolding is_valid_label
valid_all [] = refl
valid_all (c ∷ cs) = rw (valid_all cs)

pub name_all : (s l : List ℕ) → length s ≡ length l → list_all (λ (p : ℕ × ℕ). fits_sign p.0 p.1) (zip s l) ≡ is_name s l
unfolding is_name
name_all [] [] h = refl
name_all [] (c ∷ cs) h = absurd (cc)
name_all (p ∷ ps) [] h = absurd (cc)
name_all (p ∷ ps) (c ∷ cs) h = rw (name_all ps cs (cc))

-- a name of another length is another name
pub name_other : (s l : List ℕ) → (length s ≡ length l → ⊥) → is_name s l ≡ false
unfolding is_name
name_other [] [] h = absurd (h refl)
name_other [] (c ∷ cs) h = refl
name_other (p ∷ ps) [] h = refl
name_other (p ∷ ps) (c ∷ cs) h = go (fits_sign p c) (name_other ps cs (λ e. h (ap suc e)))
  where
    go : (b : Bool) → is_name ps cs ≡ false → (b && is_name ps cs) ≡ false
    go true e = e
    go false e = refl
