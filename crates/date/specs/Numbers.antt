-- The numbers of a date, as their bytes are read (document 01, "Credits and dates").
use Rattle.std.specs.Prelude.{ℕ, ◌+◌, ◌-◌, ◌*◌, List, [], ◌∷◌, cond, eqb, Option, Some, None}
use Rattle.byte_rules.specs.Classes.{is_digit}

-- the number that digits continue, of which n is read so far
unfoldable pub digits_on : ℕ → List ℕ → Option ℕ
digits_on n [] = Some n
digits_on n (b ∷ s) = cond (is_digit b) (digits_on (n * 10 + (b - 48)) s) None

-- digits, at least one
unfoldable pub digits : List ℕ → Option ℕ
digits [] = None
digits (b ∷ s) = digits_on 0 (b ∷ s)

-- digits, one leading `+` (43) allowed if a digit follows
unfoldable pub number : List ℕ → Option ℕ
number [] = None
number (b ∷ s) = cond (eqb b 43) (digits s) (digits (b ∷ s))
