-- The digits stand at the front of their room.
use Rattle.std.proofs.Common.{arith, sym}
use Rattle.std.proofs.Math.Seq.{length-take-le}
use Rattle.programs.proofs.Digits.{digits_fit, digits_are}
use Rattle.programs.proofs.writing.Writer.number.Goals as goal

pub slice_bounds-digits-end : goal.slice_bounds-digits-end
slice_bounds-digits-end c = digits_fit c.args.n _ _ _ (omega arith) (omega arith) c.put_number-len.ensures.count c.put_number-len.ensures.left

pub slice_bounds-text-end : goal.slice_bounds-text-end
slice_bounds-text-end c = sym (length-take-le _ _ (digits_fit c.args.n _ _ _ (omega arith) (omega arith) c.put_number-len.ensures.count c.put_number-len.ensures.left))

pub returns : goal.returns
returns c = rw (digits_are c.args.n _ _ _ (omega arith) (omega arith) c.put_number-len.ensures.count c.put_number-len.ensures.left) at c.text.ensures
