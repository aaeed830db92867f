-- A lent name table, and its first bad entry (document 01, "Answer numbers", last paragraph).
use Rattle.std.specs.Prelude.{ℕ, zero, suc, Bool, false, cond, not, ◌||◌, List, length, get_or, ltb, eqb, Option as Maybe, Some, None}
use Rattle.std.specs.Ordering.{is_lt}
use Rattle.std.proofs.Math.Option.{Option, none, some}
use Rattle.records.specs.Answer.{Answer, bad_table}
use Rattle.unescape.specs.Unescape.{part}
use Rattle.name_table.specs.Order.{order_of}

-- entry i's name ends at its end, and starts at the end of the one before
abbrev pub end_of : List ℕ → ℕ → ℕ
end_of ends i = get_or ends i 0

unfoldable pub start_of : List ℕ → ℕ → ℕ
start_of ends zero = 0
start_of ends (suc i) = end_of ends i

module _ (bytes ends : List ℕ) where
  abbrev pub name_at : ℕ → List ℕ
  name_at i = part bytes (start_of ends i) (end_of ends i)

  -- its name isn't greater, bytewise, than the one before
  unfoldable pub not_greater : ℕ → Bool
  not_greater zero = false
  not_greater (suc i) = not (is_lt (order_of (name_at i) (name_at (suc i))))

  -- its end is below the one before or past the bytes, or its name isn't greater
  unfoldable pub bad_at : ℕ → Bool
  bad_at i = ltb (end_of ends i) (start_of ends i) || ltb (length bytes) (end_of ends i) || not_greater i

  -- the first bad one of the `left` entries from i on; after the last, which the bytes must end with, i is the count
  unfoldable pub bad_from : ℕ → ℕ → Maybe ℕ
  bad_from zero i = cond (eqb (start_of ends i) (length bytes)) None (Some i)
  bad_from (suc left) i = cond (bad_at i) (Some i) (bad_from left (suc i))

  unfoldable pub first_bad : Maybe ℕ
  first_bad = bad_from (length ends) 0

-- 4, with the table's number and its first bad entry
abbrev pub refused_at : ℕ → Maybe ℕ → Option Answer
refused_at table (Some entry) = some (bad_table table entry)
refused_at table None = none

abbrev pub table_refusal : ℕ → List ℕ → List ℕ → Option Answer
table_refusal table bytes ends = refused_at table (first_bad bytes ends)
