-- Lines of words and numbers, parted by tabs (9) and ended by LF (10).
use Rattle.std.specs.Prelude.{ℕ, ◌+◌, cond, List, [], ◌∷◌, ◌++◌, eqb}
use Rattle.byte_rules.specs.Text.{bytes}
use Rattle.decimal.specs.Decimal.{decimal}
use Rattle.records.specs.Answer.{refusal_answer}
use Rattle.records.specs.declared.Refusal.{Refusal}

-- a tab and a number
unfoldable pub field : ℕ → List ℕ
field n = 9 ∷ decimal n

unfoldable pub fields : List ℕ → List ℕ
fields [] = []
fields (n ∷ ns) = field n ++ fields ns

-- a word, and numbers behind it
unfoldable pub line : List ℕ → List ℕ → List ℕ
line word ns = word ++ fields ns ++ (10 ∷ [])

-- words in lines of `width` numbers each; the line that is begun has `column` of them already
unfoldable pub rows : ℕ → ℕ → List ℕ → List ℕ
rows width column [] = []
rows width column (w ∷ ws) =
    let ends = eqb (column + 1) width in
    decimal w ++ (cond ends 10 9 ∷ rows width (cond ends 0 (column + 1)) ws)

-- document 01's number of a refusal
abbrev pub refusal_number : Refusal → ℕ
refusal_number why = (refusal_answer why).number

-- the one line of a program that refuses its input
unfoldable pub refused_line : Refusal → List ℕ
refused_line why = line (bytes "refused") (refusal_number why ∷ [])
