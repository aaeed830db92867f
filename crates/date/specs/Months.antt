-- The names of the months.
use Rattle.std.specs.Prelude.{ℕ, zero, suc, ◌+◌, ◌-◌, List, [], ◌∷◌, Bool, cond, ◌&&◌, get_or, eqb, Option, Some, None}
use Rattle.byte_rules.specs.Text.{bytes}

-- the twelve names, three letters each
unfoldable pub names : List (List ℕ)
names =
    bytes "Jan" ∷ bytes "Feb" ∷ bytes "Mar" ∷ bytes "Apr" ∷ bytes "May" ∷ bytes "Jun"
    ∷ bytes "Jul" ∷ bytes "Aug" ∷ bytes "Sep" ∷ bytes "Oct" ∷ bytes "Nov" ∷ bytes "Dec" ∷ []

-- letter i of the name of month m: months count from 1, letters from 0
unfoldable pub letter_of : ℕ → ℕ → ℕ
letter_of m i = get_or (get_or names (m - 1) []) i 0

-- the name of month m is a, b, c
unfoldable pub is_month_name : ℕ → ℕ → ℕ → ℕ → Bool
is_month_name m a b c = eqb (letter_of m 0) a && eqb (letter_of m 1) b && eqb (letter_of m 2) c

-- the first of the k months from m on whose name is a, b, c
unfoldable pub month_in : ℕ → ℕ → ℕ → ℕ → ℕ → Option ℕ
month_in zero m a b c = None
month_in (suc k) m a b c = cond (is_month_name m a b c) (Some m) (month_in k (m + 1) a b c)

-- the month that a, b, c name
unfoldable pub month_of : ℕ → ℕ → ℕ → Option ℕ
month_of a b c = month_in 12 1 a b c
