-- `put_digits` meets its contract.
-- Assumes nothing.
use Prim.Native.Nat.{◌+◌, ◌/◌, ◌%◌}
use mathlib.Core.Path.{refl}
use mathlib.Core.List.{[]}
use native.Mathlib.Omega.{arith}
use Rattle.records.proofs.Over.{over_more}
use Rattle.records.specs.Over.{over}
use Rattle.decimal.specs.Decimal.{decimal}
use Rattle.decimal.proofs.Laws.{decimal_small, decimal_more, length_small, length_more}
use Rattle.decimal.proofs.+put_digits.Goals as goal

pub returns-then-n-lt10-clause-left : goal.returns-then-n-lt10-clause-left
unfolding over
returns-then-n-lt10-clause-left t c =
    let a = c.args in
    rw (decimal_small a.n c.if-n-lt10.true) (over_more [] a.out.now (48 + a.n) 0 refl (omega (arith, length_small a.n c.if-n-lt10.true)))

pub returns-clause-left : goal.returns-clause-left
returns-clause-left t c =
    let a = c.args in
    let r = c.put_digits-end in
    rw (r.ensures.left, decimal_more a.n c.if-n-lt10.false)
    (over_more (decimal (a.n / 10)) a.out.now (48 + a.n % 10) r.result r.ensures.count (omega (arith, length_more a.n c.if-n-lt10.false)))
