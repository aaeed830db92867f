-- The laws of writing a date.
-- Assumes nothing.
use Prim.Native.Nat.{ℕ, zero, suc, ◌+◌, ◌-◌, ◌≤◌}
use mathlib.Core.Path.{◌≡◌, refl}
use mathlib.Core.List.{[], ◌∷◌, ◌++◌}
use native.Mathlib.Omega.{arith}
use lib.ListN.{length, take, replicate, length-append, length-replicate}
use Rattle.decimal.specs.Decimal.{decimal}
use Rattle.date.specs.Writing.{month_text, year_text, date_text}
use Rattle.date.specs.declared.Date.{Date}

-- the parts of a date, and how long they are
pub year_is : (y k : ℕ) → k ≡ 4 - length (decimal y) → replicate k 48 ++ decimal y ≡ year_text y
unfolding year_text
year_is y k e = rw e

pub length_year : (y : ℕ) → length (year_text y) ≡ (4 - length (decimal y)) + length (decimal y)
unfolding year_text
length_year y = simp (length-append, length-replicate)

pub length_month : (m : ℕ) → length (month_text m) ≡ 5
unfolding month_text
length_month m = refl

pub length_date : (d : Date) → length (date_text d) ≡ length (decimal d.day) + 5 + length (year_text d.year)
unfolding date_text month_text
length_date d = simp length-append (omega arith)

-- the zeros before the year's digits
pub zeros_are : (k : ℕ) → k ≤ 4 → take {A = ℕ} k (48 ∷ 48 ∷ 48 ∷ 48 ∷ []) ≡ replicate k 48
zeros_are zero h = refl
zeros_are (suc zero) h = refl
zeros_are (suc (suc zero)) h = refl
zeros_are (suc (suc (suc zero))) h = refl
zeros_are (suc (suc (suc (suc zero)))) h = refl
zeros_are (suc (suc (suc (suc (suc k))))) h = absurd (omega arith)
