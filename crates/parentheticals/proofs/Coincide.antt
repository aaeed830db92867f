-- Each answer is told by its number and values: two outcomes that a contract permits coincide.
-- Assumes nothing.
use Prim.Native.Nat.{ℕ}
use mathlib.Core.Path.{◌≡◌, refl, sym, ◌∙◌}
use mathlib.Core.Bool.{Bool, true, false, cond}
use mathlib.Core.List.{List, [], ◌∷◌}
use lib.Dec.{eqb}
use lib.ListN.{get_or}
use Rattle.std.specs.Prelude.{Option, Some, None, Result, Ok, Err}
use Rattle.basics.specs.declared.Span.{Span}
use Rattle.byte_rules.specs.declared.reading.Reading.TheVariants.{Rust}
use Rattle.records.specs.Answer.{Answer}
use Rattle.records.specs.declared.Refusal.{Refusal}
use Rattle.records.proofs.Answers.{coincide, read_back, refused_back}
use Rattle.parentheticals.specs.Matching.{span}
use Rattle.parentheticals.specs.Answers.{fresh, started_answer, started_state, found_answer, step_answer, stepped_state, flagged_answer}
use Rattle.parentheticals.specs.declared.Parenthetical.{Parenthetical}
use Rattle.parentheticals.specs.declared.Parenthetical.TheVariants.{ContributedBy, RevisedBy, ProofShortenedBy}
use Rattle.parentheticals.specs.declared.Parenthetical.TheVariants.{ProofModificationDiscouraged, NewUsageDiscouraged}
use Rattle.parentheticals.specs.declared.Found.{Found}
use Rattle.parentheticals.specs.declared.ParentheticalState.{ParentheticalState}
use Rattle.parentheticals.specs.declared.Stepped.{Stepped}
use Rattle.parentheticals.specs.declared.Discouragements.{Discouragements}

-- what a call answers: a value, or a refusal
abbrev Answered : Type 0 → Type 0
Answered A = Result A Refusal

-- ---- the fresh state

-- a refusal is told by its number and values, and a state is the state
started_back : Option ParentheticalState → List ℕ → Answered ParentheticalState
started_back None values = Ok (fresh Rust 0 0)
started_back (Some st) values = Ok st

started_back_lem : (r : Answered ParentheticalState) → read_back (started_back (started_state r)) Err (started_answer r) ≡ r
unfolding started_back
started_back_lem (Ok st) = refl
started_back_lem (Err r) = refused_back (started_back None) Err r

pub started_one : (a : Answer) (s : Option ParentheticalState) (x y : Answered ParentheticalState)
    → (started_answer x ≡ a) × (started_state x ≡ s) → (started_answer y ≡ a) × (started_state y ≡ s) → x ≡ y
started_one a s x y p q = sym (started_back_lem x) ∙ rw (p.0, p.1, ← q.0, ← q.1) (started_back_lem y)

-- ---- a step

item_back : ℕ → Span → Span → Parenthetical
item_back k author date =
    cond (eqb k 1) (ContributedBy author date)
    (cond (eqb k 2) (RevisedBy author date)
    (cond (eqb k 3) (ProofShortenedBy author date)
    (cond (eqb k 4) ProofModificationDiscouraged NewUsageDiscouraged)))

found_back : List ℕ → Option Found
found_back [] = None
found_back (k ∷ w) =
    Some
    (record {
      whole = span (get_or w 0 0) (get_or w 1 0);
      item = item_back k (span (get_or w 2 0) (get_or w 3 0)) (span (get_or w 4 0) (get_or w 5 0));
    })

found_back_lem : (f : Option Found) → found_back (found_answer f).values ≡ f
unfolding found_back item_back
found_back_lem None = refl
found_back_lem (Some f) = go f.whole f.item
  where
    go : (whole : Span) (item : Parenthetical)
        → found_back (found_answer (Some (record { whole = whole; item = item }))).values ≡ Some (record { whole = whole; item = item })
    go whole (ContributedBy author date) = refl
    go whole (RevisedBy author date) = refl
    go whole (ProofShortenedBy author date) = refl
    go whole ProofModificationDiscouraged = refl
    go whole NewUsageDiscouraged = refl

-- what is found is told by its words, and the state after it is the state
step_back : ParentheticalState → List ℕ → Answered Stepped
step_back st values = Ok (record { found = found_back values; state = st })

step_back_lem : (st : ParentheticalState) (r : Answered Stepped) → read_back (step_back (stepped_state st r)) Err (step_answer r) ≡ r
unfolding step_back found_back
step_back_lem st (Ok s) = go s.found
  where
    go : (f : Option Found) → read_back (step_back s.state) Err (found_answer f) ≡ Ok (record { found = f; state = s.state })
    go None = refl
    go (Some f) = rw (found_back_lem (Some f))
step_back_lem st (Err r) = refused_back (step_back st) Err r

pub step_one : (st : ParentheticalState) (a : Answer) (s : ParentheticalState) (x y : Answered Stepped)
    → (step_answer x ≡ a) × (stepped_state st x ≡ s) → (step_answer y ≡ a) × (stepped_state st y ≡ s) → x ≡ y
step_one st a s x y p q = sym (step_back_lem st x) ∙ rw (p.0, p.1, ← q.0, ← q.1) (step_back_lem st y)

-- ---- the flags

flagged_back : List ℕ → Answered Discouragements
flagged_back values =
    Ok (record { modification_discouraged = eqb (get_or values 0 0) 1; usage_discouraged = eqb (get_or values 1 0) 1 })

flagged_back_lem : (r : Answered Discouragements) → read_back flagged_back Err (flagged_answer r) ≡ r
unfolding flagged_back
flagged_back_lem (Ok d) = go d.modification_discouraged d.usage_discouraged
  where
    go : (m u : Bool)
        → read_back flagged_back Err (flagged_answer (Ok (record { modification_discouraged = m; usage_discouraged = u })))
        ≡ Ok (record { modification_discouraged = m; usage_discouraged = u })
    go true true = refl
    go true false = refl
    go false true = refl
    go false false = refl
flagged_back_lem (Err r) = refused_back flagged_back Err r

pub flagged_one : (a : Answer) (x y : Answered Discouragements) → flagged_answer x ≡ a → flagged_answer y ≡ a → x ≡ y
flagged_one = coincide flagged_answer (read_back flagged_back Err) flagged_back_lem
