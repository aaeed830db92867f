-- The order of dates: by year, then month, then day.
use Rattle.std.specs.Prelude.{ℕ, cond, ltb}
use Rattle.records.specs.Answer.{Answer, done}
use Rattle.date.specs.declared.Date.{Date}
use Rattle.std.specs.declared.cmp.Ordering.{Ordering}
use Rattle.std.specs.declared.cmp.Ordering.TheVariants.{Less, Equal, Greater}

abbrev pub order_number : Ordering → ℕ
order_number Less = 1
order_number Equal = 2
order_number Greater = 3

-- document 01's answer: 0, with the number
abbrev pub order_answer : Ordering → Answer
order_answer o = done (order_number o)

-- by two numbers, and where they are equal by the rest
unfoldable pub first_of : ℕ → ℕ → ℕ → ℕ
first_of a b rest = cond (ltb a b) 1 (cond (ltb b a) 3 rest)

-- 1: a is the earlier, 2: they are equal, 3: a is the later
unfoldable pub order : Date → Date → ℕ
order a b = first_of a.year b.year (first_of a.month b.month (first_of a.day b.day 2))

-- what the comparison of two dates answers
abbrev pub compare_answer : Date → Date → Answer
compare_answer a b = done (order a b)
