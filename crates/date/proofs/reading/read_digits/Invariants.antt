-- `read_digits` meets its contract. The invariant: the digits from here on continue to what those from the start give, and n has as many digits as were read.
-- Assumes nothing.
use mathlib.Core.Path.{◌≡◌}
use Prim.Native.Nat.{◌<◌, ◌^◌}
use lib.ListN.{drop}
use Rattle.date.specs.Numbers.{digits_on, digits}
use Rattle.date.proofs.reading.read_digits.Given as goal

abbrev pub invariant-loop-b : goal.invariant-loop-b
invariant-loop-b l = record { few : l.n < 10 ^ l.b-index; same : digits_on l.n (drop l.b-index l.s) ≡ digits l.s }
