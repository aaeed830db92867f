-- `read_fields` meets its contract: it reads the three fields as the definition does.
-- Assumes nothing.
use Prim.Native.Nat.{◌+◌}
use mathlib.Core.Path.{sym, ap, ◌∙◌}
use native.Mathlib.Omega.{arith}
use lib.ListN.{take}
use lib.Seq.{length-take-le}
use Rattle.records.proofs.Laying.{tail_is}
use Rattle.date.specs.Numbers.{number}
use Rattle.date.specs.Reading.{fields}
use Rattle.date.proofs.NumberLaws.{number_below, ten_below}
use Rattle.date.proofs.reading.read_fields.Goals as goal

pub returns-in_err-day : goal.returns-in_err-day
unfolding fields
returns-in_err-day c = rw (← c.read_number.ensures, c.in_err-day.was) c.from_residual.ensures

pub returns-in_err-month : goal.returns-in_err-month
unfolding fields
returns-in_err-month c = rw (← c.read_number.ensures, c.in_ok-day.was, ← c.month_of.ensures, c.in_err-month.was) c.from_residual-in_err-month.ensures

pub returns-in_err-year : goal.returns-in_err-year
unfolding fields
returns-in_err-year c =
    let year = c.read_number-2.ensures ∙ ap number (tail_is (c.args.k + 5) c.args.s.now) in
    rw (← c.read_number.ensures, c.in_ok-day.was, ← c.month_of.ensures, c.in_ok-month.was, ← year, c.in_err-year.was) c.from_residual-in_err-year.ensures

pub overflow_cast-result : goal.overflow_cast-result
overflow_cast-result c =
    let a = c.args in
    let long = length-take-le a.k a.s.now (omega arith) in
    omega (arith, ten_below 2 _ c.in_ok-day.day (number_below (take a.k a.s.now) c.in_ok-day.day (sym c.read_number.ensures ∙ c.in_ok-day.was)) (rw long (omega arith)))

pub returns : goal.returns
unfolding fields
returns c =
    let year = c.read_number-2.ensures ∙ ap number (tail_is (c.args.k + 5) c.args.s.now) in
    rw (← c.read_number.ensures, c.in_ok-day.was, ← c.month_of.ensures, c.in_ok-month.was, ← year, c.in_ok-year.was)
