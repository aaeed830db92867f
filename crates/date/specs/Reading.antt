-- What bytes read as a date are, and the answer (document 01, "Credits and dates" and "Answer numbers").
use Rattle.std.specs.Prelude.{ℕ, ◌+◌, List, [], ◌∷◌, cond, length, get_or, take, drop, eqb, Option, Some, None, Result, Ok, Err}
use Rattle.std.specs.Option.{ok_or}
use Rattle.records.specs.Answer.{Answer, refusal_answer}
use Rattle.date.specs.Numbers.{number}
use Rattle.date.specs.Months.{month_of}
use Rattle.date.specs.declared.Date.{Date}
use Rattle.records.specs.declared.Refusal.{Refusal}
use Rattle.records.specs.declared.Refusal.TheVariants.{NoDate}

-- the date of a day, a month and a year, each of which must be one
abbrev pub date_of : Option ℕ → Option ℕ → Option ℕ → Option Date
date_of (Some d) (Some m) (Some y) = Some (record { year = y; month = m; day = d })
date_of (Some d) (Some m) None = None
date_of (Some d) None y = None
date_of None m y = None

-- k bytes of day, separator, month name of three letters, separator, the rest the year; separators are unchecked
unfoldable pub fields : ℕ → List ℕ → Option Date
fields k s = date_of (number (take k s)) (month_of (get_or s (k + 1) 0) (get_or s (k + 2) 0) (get_or s (k + 3) 0)) (number (drop (k + 5) s))

-- 10 bytes, with one of day, or 11, with two
unfoldable pub read_date : List ℕ → Result Date Refusal
read_date s = ok_or (cond (eqb (length s) 10) (fields 1 s) (cond (eqb (length s) 11) (fields 2 s) None)) NoDate

-- 0 with year, month and day; or what refuses: 5, no date
abbrev pub date_answer : Result Date Refusal → Answer
date_answer (Ok d) = record { number = 0; values = d.year ∷ d.month ∷ d.day ∷ [] }
date_answer (Err why) = refusal_answer why

abbrev pub read_answer : List ℕ → Answer
read_answer s = date_answer (read_date s)
