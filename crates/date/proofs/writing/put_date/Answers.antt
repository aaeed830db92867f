-- `put_date` meets its contract: the day, the month and the year, each in the tail that the one before leaves.
-- Assumes nothing.
use Prim.Native.Nat.{◌+◌, ◌-◌, ◌≤◌}
use mathlib.Core.Path.{◌≡◌, ◌∙◌}
use mathlib.Core.List.{◌++◌}
use native.Mathlib.Omega.{arith}
use lib.ListN.{length, length-append, length-drop}
use borrow.Rule.Slice.PartMut.{put_mid}
use Rattle.decimal.specs.Decimal.{decimal}
use Rattle.records.proofs.Over.{over_left, over_then}
use Rattle.records.proofs.Laying.{tail_is}
use Rattle.date.specs.Writing.{month_text, year_text, date_text}
use Rattle.date.proofs.WritingLaws.{length_month, length_date}
use Rattle.date.proofs.writing.put_date.Goals as goal
use Rattle.date.proofs.writing.put_date.Goals.{After-slice_known-2-1}

-- behind the day there is room for the month and the year
rest_fits : (c : After-slice_known-2-1) → c.decimal_len-at.result + 5 + length (year_text c.args.date.year) ≤ length c.put_decimal.new.out
rest_fits c =
    omega (arith, c.out-1.given, rw c.from.ensures at c.decimal_len-at.ensures, length_date c.args.date, c.requires.1.1)

pub slice_bounds-put_month-count : goal.slice_bounds-put_month-count
slice_bounds-put_month-count c = omega (arith, rest_fits (goal.at.slice_bounds-put_month-count c).After-slice_known-2-1)

pub slice_bounds-put_month-start : goal.slice_bounds-put_month-start
slice_bounds-put_month-start c = omega (arith, rest_fits (goal.at.slice_bounds-put_month-start c).After-slice_known-2-1)

pub put_month-requires : goal.put_month-requires
put_month-requires c =
    let day = (goal.at.put_month-requires c).After-slice_known-2-1 in
    let at = day.decimal_len-at.result in
    let out = day.put_decimal.new.out in
    (c.requires.0, (c.requires.1.0, rw tail_is (omega (arith, length-drop at out, rest_fits day))))

pub overflow_add-end : goal.overflow_add-end
overflow_add-end c = omega (arith, rest_fits (goal.at.overflow_add-end c).After-slice_known-2-1)

pub slice_bounds-put_year-count : goal.slice_bounds-put_year-count
slice_bounds-put_year-count c = omega (arith, rest_fits (goal.at.slice_bounds-put_year-count c).After-slice_known-2-1)

pub slice_bounds-put_year-start : goal.slice_bounds-put_year-start
slice_bounds-put_year-start c = omega (arith, rest_fits (goal.at.slice_bounds-put_year-start c).After-slice_known-2-1)

pub put_year-requires : goal.put_year-requires
put_year-requires c =
    let day = (goal.at.put_year-requires c).After-slice_known-2-1 in
    let at = day.decimal_len-at.result in
    let out = day.put_decimal.new.out in
    let out2 = put_mid at (length out - at) out c.put_month.new.out in
    rw tail_is (omega (arith, length-drop (at + 5) out2, rest_fits day))

pub returns : goal.returns
unfolding date_text
returns c =
    let d = c.args.date in
    let room = c.args.out.now in
    let at = c.decimal_len-at in
    let day = rw c.from.ensures at at.ensures in
    let out = c.put_decimal in
    let out2 = c.put_month in
    let out3 = c.put_year in
    let front = decimal d.day ++ month_text d.month in
    let end : at.result + 5 ≡ length front = omega (arith, day, length-append (decimal d.day) (month_text d.month), length_month d.month) in
    let day_is = rw c.from-2.ensures at out.ensures.left ∙ over_left (decimal d.day) room (omega (arith, length_date d, c.requires.1.1)) in
    let month_is = over_then (decimal d.day) (month_text d.month) room out.new.out out2.new.out at.result day day_is out2.ensures in
    over_then front (year_text d.year) room (put_mid at.result (length out.new.out - at.result) out.new.out out2.new.out)
    out3.new.out (at.result + 5) end month_is out3.ensures
