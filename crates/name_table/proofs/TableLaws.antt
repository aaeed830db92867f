-- Laws of a table's entries and of its check, entry by entry.
-- Assumes nothing.
use Prim.Native.Nat.{ℕ, zero, suc, ◌+◌, ◌-◌, ◌<◌}
use mathlib.Core.Path.{◌≡◌, refl}
use mathlib.Core.Bool.{true, false, not}
use mathlib.Core.List.{List}
use native.Mathlib.Numerals.{add-one}
use native.Mathlib.Omega.{arith}
use lib.ListN.{length}
use borrow.Author.Tests.{eq-eqb, ne_eqb}
use Rattle.std.specs.Cmp.Lexicographic.{slice_cmp}
use Rattle.std.specs.Ordering.{is_lt, is_ge, nat_cmp}
use Rattle.name_table.specs.Order.{order_of}
use Rattle.name_table.specs.Table.{end_of, start_of, name_at, not_greater, bad_at, bad_from, first_bad}
use Rattle.std.specs.declared.cmp.Ordering.{Ordering}
use Rattle.std.specs.declared.cmp.Ordering.TheVariants.{Less, Equal, Greater}
use Rattle.std.specs.Prelude.{Some, None}
use Rattle.name_table.proofs.OrderLaws.{order_is}

-- the first name starts at 0, and a later one at the end of the one before
pub start_none : (ends : List ℕ) (i : ℕ) → i ≡ 0 → 0 ≡ start_of ends i
unfolding start_of
start_none ends i e = rw e

pub start_before : (ends : List ℕ) (i : ℕ) → (i ≡ 0 → ⊥) → end_of ends (i - 1) ≡ start_of ends i
unfolding start_of
start_before ends zero h = absurd (h refl)
start_before ends (suc i) h = let e : suc i - 1 ≡ i = omega arith in rw e

-- not less is greater or the same
ge_is : (o : Ordering) → is_ge o ≡ not (is_lt o)
ge_is Less = refl
ge_is Equal = refl
ge_is Greater = refl

module _ (bytes ends : List ℕ) (i : ℕ) where
  -- the first name has none before it
  pub greater_first : i ≡ 0 → false ≡ not_greater bytes ends i
  unfolding not_greater
  greater_first e = rw e

  -- a later one is compared with it
  pub greater_by : 0 < i → (a b : List ℕ) → a ≡ name_at bytes ends (i - 1) → b ≡ name_at bytes ends i → (o : Ordering) → o ≡ slice_cmp nat_cmp a b → is_ge o ≡ not_greater bytes ends i
  unfolding not_greater
  greater_by h a b ea eb o e = rw (e, order_is a b, ea, eb, ge_is _) (go i h)
    where
      go : (j : ℕ) → 0 < j → not (is_lt (order_of (name_at bytes ends (j - 1)) (name_at bytes ends j))) ≡ not_greater bytes ends j
      go zero k = absurd (omega arith)
      go (suc j) k = let e : suc j - 1 ≡ j = omega arith in rw e

  -- the check of the n entries, at i
  module _ (n : ℕ) where
    module _ (more : i < n) where
      some_left : n - i ≡ suc (n - (i + 1))
      some_left = omega arith

      pub check_stops : bad_at bytes ends i ≡ true → bad_from bytes ends (n - i) i ≡ Some i
      unfolding bad_from
      check_stops b = rw (some_left, bad_from, b)

      pub check_goes : bad_at bytes ends i ≡ false → bad_from bytes ends (n - i) i ≡ bad_from bytes ends (n - (i + 1)) (i + 1)
      unfolding bad_from
      check_goes b = rw (some_left, add-one, bad_from, b)

    module _ (over : i ≡ n) where
      none_left : n - n ≡ 0
      none_left = omega arith

      pub check_ends : start_of ends n ≡ length bytes → bad_from bytes ends (n - i) i ≡ None
      unfolding bad_from
      check_ends e = rw (over, none_left, bad_from, eq-eqb _ _ e)

      pub check_gap : (start_of ends n ≡ length bytes → ⊥) → bad_from bytes ends (n - i) i ≡ Some n
      unfolding bad_from
      check_gap e = rw (over, none_left, bad_from, ne_eqb _ _ e)

pub check_starts : (bytes ends : List ℕ) → bad_from bytes ends (length ends - 0) 0 ≡ first_bad bytes ends
unfolding first_bad
check_starts bytes ends = let e : length ends - 0 ≡ length ends = omega arith in rw e
