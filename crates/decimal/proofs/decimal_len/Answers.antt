-- `decimal_len` meets its contract: between two powers of ten all numbers have as many digits, and 0 has one.
-- Assumes nothing.
use mathlib.Core.Path.{sym}
use native.Mathlib.Omega.{arith}
use Rattle.decimal.proofs.Laws.{length_small, length_between}
use Rattle.decimal.proofs.decimal_len.Goals as goal

pub returns-in-Some : goal.returns-in-Some
returns-in-Some c = sym (length_between c.in-Some.k c.args.n c.in-Some.ensures.power_le c.in-Some.ensures.next_power_gt)

pub returns-in-None : goal.returns-in-None
returns-in-None c = sym (length_small c.args.n (omega (arith, c.in-None.ensures.none)))
