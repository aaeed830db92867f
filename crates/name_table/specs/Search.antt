-- The entry of a name: a plain walk over the table, and the search by halving.
use Rattle.std.specs.Prelude.{ℕ, zero, suc, ◌+◌, ◌-◌, ◌/◌, Bool, true, false, cond, List, length, ltb, Option, Some, None}
use Rattle.std.specs.Ordering.{is_eq}
use Rattle.std.specs.declared.cmp.Ordering.{Ordering}
use Rattle.std.specs.declared.cmp.Ordering.TheVariants.{Less, Equal, Greater}
use Rattle.name_table.specs.Order.{order_of}
use Rattle.name_table.specs.Table.{name_at}

-- a way to look names up: a name's entry, or none
abbrev pub Lookup : Type 0
Lookup = List ℕ → Option ℕ

-- no entry has the name
abbrev pub is_missing : Option ℕ → Bool
is_missing (Some i) = false
is_missing None = true

-- where to look next: after a lesser name, here, or before a greater one
abbrev pub turned : {A : Type 0} → Ordering → A → A → A → A
turned Less after here before = after
turned Equal after here before = here
turned Greater after here before = before

-- the entry in the middle of those from lo up to hi
abbrev pub middle : ℕ → ℕ → ℕ
middle lo hi = lo + (hi - lo) / 2

module _ (bytes ends name : List ℕ) where
  -- the first of the `left` entries from i on that has the name
  unfoldable pub entry_from : ℕ → ℕ → Option ℕ
  entry_from zero i = None
  entry_from (suc left) i = cond (is_eq (order_of (name_at bytes ends i) name)) (Some i) (entry_from left (suc i))

  -- a plain walk over the table
  unfoldable pub entry_of : Option ℕ
  entry_of = entry_from (length ends) 0

  -- the entry that halving finds from lo up to hi, in at most so many turns
  unfoldable pub halved : ℕ → ℕ → ℕ → Option ℕ
  halved zero lo hi = None
  halved (suc turns) lo hi =
      let after = halved turns (middle lo hi + 1) hi in
      let before = halved turns lo (middle lo hi) in
      cond (ltb lo hi) (turned (order_of (name_at bytes ends (middle lo hi)) name) after (Some (middle lo hi)) before) None

  unfoldable pub searched : Option ℕ
  searched = halved (length ends) 0 (length ends)
