-- `lines_between` meets its contract: the line of `from`, what is counted, and what is to come add up to the line of `to`.
-- Assumes nothing.
use Rattle.std.proofs.Common.{rules, ◌≡◌, ◌+◌, ◌≤◌, ◌-◌, ◌<◌, ◌++◌}
use Prim.Native.Nat.{min}
use mathlib.Core.Path.{ap, ◌∙◌}
use native.Mathlib.Omega.{arith}
use lib.ListN.{length, take, drop}
use Rattle.std.specs.Slice.Iter.{chunks_rest}
use Rattle.lines.specs.Lines.{lf_in}
use Rattle.lines.proofs.Laws.{in_append, lf_nothing, line_to, line_within, line_cut, line_grows}
use Rattle.lines.proofs.count.lines_between.Goals as goal
use Rattle.lines.proofs.count.lines_between.Goals.{After-from-n}

pub loop-part-init : goal.loop-part-init
loop-part-init c =
    let a = c.args in
    let w : a.from ≤ min a.to (length a.buf.now) = search rules in
    let e : chunks_rest c.into_iter-part-iterator.result ≡ take (min a.to (length a.buf.now) - a.from) (drop a.from a.buf.now) = search rules in
    (search rules, tt, search rules, omega (arith, line_to a.buf.now a.from a.to _ w e))

-- what is to come is this part and what is to come behind it
module _ (c : After-from-n) where
  both : lf_in (chunks_rest c.loop-part.part-iterator) ≡ lf_in c.in-Some-part.part.now + lf_in (chunks_rest c.next.new.self)
  both =
      let e : chunks_rest c.loop-part.part-iterator ≡ c.in-Some-part.part.now ++ chunks_rest c.next.new.self = search rules in
      ap lf_in e ∙ in_append c.in-Some-part.part.now (chunks_rest c.next.new.self)

pub overflow_add-n : goal.overflow_add-n
overflow_add-n c = let a = c.args in omega (arith, both c, c.loop-part.invariant.3, line_within a.buf.now a.to)

pub loop-part-preserved : goal.loop-part-preserved
loop-part-preserved c = (search rules, tt, search rules, omega (arith, both c, c.loop-part.invariant.3))

pub returns-in-None : goal.returns-in-None
returns-in-None c =
    let z : length (chunks_rest c.loop-part.part-iterator) ≡ 0 = search rules in
    omega (arith, c.loop-part.invariant.3, lf_nothing (chunks_rest c.loop-part.part-iterator) z)

pub returns-in_default : goal.returns-in_default
returns-in_default c =
    let a = c.args in
    let w : min a.to (length a.buf.now) < a.from = search rules in
    omega (arith, line_cut a.buf.now a.to, line_grows a.buf.now (min a.to (length a.buf.now)) a.from (omega arith))
