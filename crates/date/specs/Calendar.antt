-- The calendar check (document 01, "Credits and dates"): month 1 to 12 and day from 1 to the month's length, by the
-- Gregorian calendar. It is run backward, as ISO 8601 does, to year 0, and forward without an end.
use Rattle.std.specs.Prelude.{ℕ, ◌%◌, Bool, cond, not, ◌&&◌, ◌||◌, leb, eqb}
use Rattle.date.specs.declared.Date.{Date}

-- a year divisible by four has the extra day, unless it is divisible by 100 and not by 400
unfoldable pub is_leap : ℕ → Bool
is_leap y = eqb (y % 4) 0 && not (eqb (y % 100) 0 && not (eqb (y % 400) 0))

-- February has 28 days, or 29 with the extra day; April, June, September and November have 30
unfoldable pub month_days : ℕ → ℕ → ℕ
month_days y m = cond (eqb m 2) (cond (is_leap y) 29 28) (cond (eqb m 4 || eqb m 6 || eqb m 9 || eqb m 11) 30 31)

unfoldable pub is_calendar : Date → Bool
is_calendar d = leb 1 d.month && leb d.month 12 && leb 1 d.day && leb d.day (month_days d.year d.month)
