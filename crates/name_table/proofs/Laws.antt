-- What the crates above use of tables:
--     entry_found, entry_missing    the walk gives an entry that has the name, or else none has it
--     searched_good     over a table that is not refused the search gives what the walk gives
--     entry_is          there the entry that has the name is what the walk gives
--     entry_end         there the end of an entry is not below its number
--     searched_end      so an entry that the search gives fits a word, as its end does
--     empty_good, empty_missing     a table of no name is not refused, and no name is found in it
--     known_one         two outcomes of a lookup that its contract permits coincide
-- Assumes nothing.
use Prim.Native.Nat.{ℕ, zero, suc, ◌-◌, ◌≤◌, ◌<◌}
use mathlib.Core.Path.{◌≡◌, refl, sym, ◌∙◌}
use mathlib.Core.List.{List, [], ◌∷◌}
use mathlib.Core.Option.{none}
use Rattle.std.specs.Prelude.{Option, Some, None, Result, Ok, Err}
use native.Mathlib.Decide.{dec_lt}
use native.Mathlib.Omega.{arith}
use lib.ListN.{length}
use Rattle.basics.proofs.Laws.{differ}
use Rattle.records.specs.Answer.{Answer}
use Rattle.records.proofs.Answers.{coincide, read_back, refused_back}
use Rattle.name_table.specs.Order.{order_of}
use Rattle.name_table.specs.Table.{end_of, start_of, name_at, bad_from, first_bad, refused_at, table_refusal}
use Rattle.name_table.specs.Search.{entry_from, entry_of, searched}
use Rattle.name_table.specs.Lookup.{known_answer}
use Rattle.std.specs.declared.cmp.Ordering.TheVariants.{Less}
use Rattle.records.specs.declared.Refusal.{Refusal}
use Rattle.name_table.proofs.OrderLaws.{order_refl, nothing_less}
use Rattle.name_table.proofs.SearchLaws.{Sorted, sorted, walked, walked_past, just_here, searched_walked}

module _ (bytes ends name : List ℕ) where
  pub entry_found : (i : ℕ) → entry_of bytes ends name ≡ Some i → (i < length ends) × (name_at bytes ends i ≡ name)
  unfolding entry_of
  entry_found i e = let w = walked bytes ends name (length ends) 0 i e in (omega arith, w.1)

  pub entry_missing : entry_of bytes ends name ≡ None → (i : ℕ) → i < length ends → name_at bytes ends i ≡ name → ⊥
  unfolding entry_of
  entry_missing e i h = walked_past bytes ends name (length ends) 0 e i (omega arith) (omega arith)

-- a table that is not refused has no bad entry
not_refused : (table : ℕ) (e : Option ℕ) → none ≡ refused_at table e → e ≡ None
not_refused table None h = refl
not_refused table (Some i) h = absurd (differ cc)

-- a table of no name
pub empty_good : (table : ℕ) → none ≡ table_refusal table [] []
unfolding first_bad bad_from start_of
empty_good table = refl

pub empty_missing : (name : List ℕ) → entry_of [] [] name ≡ None
unfolding entry_of entry_from
empty_missing name = refl

module _ (bytes ends : List ℕ) (table : ℕ) (good : none ≡ table_refusal table bytes ends) where
  -- its names go up
  up : Sorted bytes ends
  up = sorted bytes ends (not_refused table (first_bad bytes ends) good)

  -- each name but the first is greater than one before it, so it has a byte
  pub entry_end : (i : ℕ) → i < length ends → i ≤ end_of ends i
  unfolding start_of
  entry_end zero h = omega arith
  entry_end (suc i) h = go (entry_end i (omega arith)) (up i (suc i) (omega arith) h) (dec_lt (end_of ends i) (end_of ends (suc i)))
    where
      go : i ≤ end_of ends i → order_of (name_at bytes ends i) (name_at bytes ends (suc i)) ≡ Less → Dec (end_of ends i < end_of ends (suc i)) → suc i ≤ end_of ends (suc i)
      go ih less (yes l) = omega arith
      go ih less (no l) =
          let z : end_of ends (suc i) - end_of ends i ≡ 0 = omega arith in
          absurd (nothing_less (name_at bytes ends i) (rw z at less))

  module _ (name : List ℕ) where
    pub searched_good : searched bytes ends name ≡ entry_of bytes ends name
    searched_good = searched_walked bytes ends name up

    pub entry_is : (i : ℕ) → i < length ends → name_at bytes ends i ≡ name → entry_of bytes ends name ≡ Some i
    entry_is i h e = just_here bytes ends name up i h (rw e (order_refl name))

    pub searched_end : (i : ℕ) → searched bytes ends name ≡ Some i → i ≤ end_of ends i
    searched_end i e = entry_end i (entry_found bytes ends name i (sym searched_good ∙ e)).0

known_back : List ℕ → Result (Option ℕ) Refusal
known_back [] = Ok None
known_back (i ∷ rest) = Ok (Some i)

known_back_lem : (r : Result (Option ℕ) Refusal) → read_back known_back (λ why. Err why) (known_answer r) ≡ r
unfolding known_back
known_back_lem (Ok None) = refl
known_back_lem (Ok (Some i)) = refl
known_back_lem (Err why) = refused_back known_back (λ why. Err why) why

pub known_one : (a : Answer) (x y : Result (Option ℕ) Refusal) → known_answer x ≡ a → known_answer y ≡ a → x ≡ y
known_one = coincide known_answer (read_back known_back (λ why. Err why)) known_back_lem
