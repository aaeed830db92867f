-- A number's digits at the front of a room that has 20 bytes: they fit, and they are what stands there.
-- Assumes nothing.
use Prim.Native.Nat.{ℕ, ◌^◌, ◌≤◌, ◌<◌}
use mathlib.Core.Path.{◌≡◌, sym, ap, ◌∙◌}
use mathlib.Core.List.{List}
use native.Mathlib.Omega.{arith}
use lib.ListN.{length, take, drop}
use lib.Seq.{take_at}
use Rattle.decimal.specs.Decimal.{decimal}
use Rattle.decimal.proofs.Laws.{length_below}
use Rattle.records.specs.Over.{over}
use Rattle.records.proofs.Over.{over_long}

module _ (n len : ℕ) (room out : List ℕ) (small : n < 10 ^ 20) (fits : 20 ≤ length room) (counted : len ≡ length (decimal n)) (is : out ≡ over (decimal n) room) where
  pub digits_fit : len ≤ length out
  digits_fit = omega (arith, length_below 19 n small, over_long (decimal n) room out (omega (arith, length_below 19 n small)) is)

  pub digits_are : take len out ≡ decimal n
  unfolding over
  digits_are = ap (take len) is ∙ take_at (decimal n) (drop (length (decimal n)) room) len (sym counted)
