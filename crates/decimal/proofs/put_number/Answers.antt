-- `put_number` meets its contract: no number has more than 20 digits.
-- Assumes nothing.
use native.Mathlib.Omega.{arith}
use Rattle.decimal.proofs.Laws.{length_below}
use Rattle.decimal.proofs.put_number.Goals as goal

pub put_digits-requires : goal.put_digits-requires
put_digits-requires c = omega (arith, length_below 19 c.args.n (omega arith))
