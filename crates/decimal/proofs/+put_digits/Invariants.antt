-- The measure of `put_digits` is the number itself, which the call divides by ten.
-- Assumes nothing.
use Rattle.decimal.proofs.+put_digits.Given as goal

abbrev pub decreases-put_digits : goal.decreases-put_digits
decreases-put_digits l = l.n
