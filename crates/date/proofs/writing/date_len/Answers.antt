-- `date_len` meets its contract.
-- Assumes nothing.
use native.Mathlib.Omega.{arith}
use Rattle.decimal.proofs.Laws.{length_below}
use Rattle.date.proofs.WritingLaws.{length_year, length_date}
use Rattle.date.proofs.writing.date_len.Goals as goal

pub overflow_add-result : goal.overflow_add-result
overflow_add-result c = let day = rw c.from.ensures at c.decimal_len.ensures in omega (arith, day, length_below 2 c.args.date.day (omega arith))

pub overflow_add-result-2 : goal.overflow_add-result-2
overflow_add-result-2 c =
    let d = c.args.date in
    let day = rw c.from.ensures at c.decimal_len.ensures in
    omega (arith, day, length_below 2 d.day (omega arith), length_below 4 d.year (omega arith), length_year d.year, c.year_len.ensures)

pub returns : goal.returns
returns c =
    let day = rw c.from.ensures at c.decimal_len.ensures in
    omega (arith, day, c.year_len.ensures, length_date c.args.date)
