-- `put_year` meets its contract: so many zeros, then the digits in the tail that is left.
-- Assumes nothing.
use Prim.Native.Nat.{ℕ, ◌+◌, ◌-◌, ◌≤◌}
use mathlib.Core.Path.{◌≡◌, ap, sym, ◌∙◌}
use mathlib.Core.List.{List, ◌++◌}
use native.Mathlib.Omega.{arith}
use lib.ListN.{length, drop, replicate, length-replicate, length-drop}
use lib.Seq.{length-take-le}
use borrow.Rule.Slice.PartMut.{mid_of}
use Rattle.decimal.specs.Decimal.{decimal}
use Rattle.records.specs.Over.{over}
use Rattle.records.proofs.Over.{over_left, over_long, over_then}
use Rattle.records.proofs.Laying.{tail_is}
use Rattle.date.proofs.WritingLaws.{year_is, length_year, zeros_are}
use Rattle.date.proofs.writing.put_year.Goals as goal
use Rattle.date.proofs.writing.put_year.Goals.{After-saturating_sub-zeros, After-copy_from_slice}

-- the zeros and the digits fit
room : (c : After-saturating_sub-zeros) → (c.saturating_sub-zeros.result ≤ 4) × (c.saturating_sub-zeros.result + length (decimal c.args.year) ≤ length c.args.out.now)
room c =
    let digits = rw c.from.ensures at c.decimal_len.ensures in
    (omega (arith, c.saturating_sub-zeros.ensures), omega (arith, digits, c.saturating_sub-zeros.ensures, length_year c.args.year))

pub slice_bounds-copy_from_slice-end : goal.slice_bounds-copy_from_slice-end
slice_bounds-copy_from_slice-end c = omega (arith, room (goal.at.slice_bounds-copy_from_slice-end c).After-saturating_sub-zeros)

pub slice_bounds-copy_from_slice-end-2 : goal.slice_bounds-copy_from_slice-end-2
slice_bounds-copy_from_slice-end-2 c = let h = room (goal.at.slice_bounds-copy_from_slice-end-2 c).After-saturating_sub-zeros in sym (length-take-le _ _ (omega arith))

pub copy_from_slice-requires : goal.copy_from_slice-requires
copy_from_slice-requires c =
    let h = room (goal.at.copy_from_slice-requires c).After-saturating_sub-zeros in
    length-take-le _ _ (omega arith) ∙ sym (length-take-le _ _ h.0)

-- the zeros are written
zeros : (c : After-copy_from_slice) → c.copy_from_slice.new.self ++ drop c.saturating_sub-zeros.result c.args.out.now ≡ over (replicate c.saturating_sub-zeros.result 48) c.args.out.now
unfolding over
zeros c =
    let h = room (goal.at.After-copy_from_slice c).After-saturating_sub-zeros in
    rw (c.copy_from_slice.ensures.after, zeros_are c.saturating_sub-zeros.result h.0, length-replicate)

pub returns : goal.returns
returns c =
    let y = c.args.year in
    let at = c.saturating_sub-zeros.result in
    let room₀ = c.args.out.now in
    let out = c.copy_from_slice.new.self ++ drop at room₀ in
    let h = room (goal.at.returns c).After-saturating_sub-zeros in
    let is = zeros (goal.at.returns c).After-copy_from_slice in
    let digits = rw c.from.ensures at c.decimal_len.ensures in
    let long : length out ≡ length room₀ = over_long (replicate at 48) room₀ out (rw length-replicate (omega arith)) is in
    let lent = mid_of at (length out - at) out in
    let fits : length (decimal y) ≤ length lent = rw tail_is (omega (arith, length-drop at out)) in
    let put = rw c.from-2.ensures at c.put_decimal.ensures.left in
    over_then (replicate at 48) (decimal y) room₀ out c.put_decimal.new.out at (sym (length-replicate at 48)) is (put ∙ over_left (decimal y) lent fits)
    ∙ ap (λ (text : List ℕ). over text room₀) (year_is y at (omega (arith, digits, c.saturating_sub-zeros.ensures)))
