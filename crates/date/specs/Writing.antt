-- How a date is written (document 01, "Credits and dates").
use Rattle.std.specs.Prelude.{ℕ, ◌-◌, List, [], ◌∷◌, ◌++◌, cond, ◌||◌, length, replicate, eqb, ltb}
use Rattle.std.proofs.Math.Option.{Option, none, some}
use Rattle.records.specs.Answer.{Answer, bad_month}
use Rattle.decimal.specs.Decimal.{decimal}
use Rattle.date.specs.Months.{letter_of}
use Rattle.date.specs.declared.Date.{Date}

-- the name between its separators, `-` (45)
unfoldable pub month_text : ℕ → List ℕ
month_text m = 45 ∷ letter_of m 0 ∷ letter_of m 1 ∷ letter_of m 2 ∷ 45 ∷ []

-- at least four digits, the first ones 0 (48)
unfoldable pub year_text : ℕ → List ℕ
year_text y = replicate (4 - length (decimal y)) 48 ++ decimal y

-- day unpadded, month, year
unfoldable pub date_text : Date → List ℕ
date_text d = decimal d.day ++ month_text d.month ++ year_text d.year

-- 6: month 0 or above 12
unfoldable pub write_refusal : Date → Option Answer
write_refusal d = cond (eqb d.month 0 || ltb 12 d.month) (some bad_month) none
