-- Each answer is told by its number and values: two outcomes that a contract permits coincide.
-- Assumes nothing.
use Prim.Native.Nat.{ℕ, ◌≤◌, ◌<◌}
use mathlib.Core.Path.{◌≡◌, refl, sym, ap, ◌∙◌}
use mathlib.Core.Bool.{Bool, true, false, cond, ◌||◌}
use mathlib.Core.List.{List}
use mathlib.Core.Option.{Option, none, some}
use lib.Dec.{ltb, eqb}
use lib.ListN.{get_or}
use borrow.Author.Tests.{le-ltb, lt-ltb, ltb-false}
use Rattle.basics.proofs.Laws.{differ}
use Rattle.records.specs.Answer.{Answer, refusal_answer, filled_answer, checked_answer, too_long, bad_span, bad_state, input_too_long, longest, input_limit, length_refusal, span_refusal, state_refusal, input_refusal}
use Rattle.records.specs.declared.Refusal.{Refusal}
use Rattle.records.specs.declared.Refusal.TheVariants.{TooLong, BadSpan, BadState, BadTable, NoDate, BadMonth, InputTooLong}
use Rattle.records.specs.declared.FillError.{FillError}
use Rattle.records.specs.declared.FillError.TheVariants.{Short, Refused}
use Rattle.std.specs.Prelude.{Result, Ok, Err}

-- two outcomes with one answer are one, where the outcome can be read back from its answer
pub coincide : {A B : Type 0} (answer : A → B) (back : B → A) → ((x : A) → back (answer x) ≡ x) → (b : B) (x y : A) → answer x ≡ b → answer y ≡ b → x ≡ y
coincide answer back same b x y p q = sym (same x) ∙ ap back (p ∙ sym q) ∙ same y

pub refusal_back : Answer → Refusal
refusal_back a =
    cond (eqb a.number 1) TooLong
    (cond (eqb a.number 2) BadSpan
    (cond (eqb a.number 3) BadState
    (cond (eqb a.number 4) (BadTable (get_or a.values 0 0) (get_or a.values 1 0))
    (cond (eqb a.number 5) NoDate
    (cond (eqb a.number 6) BadMonth InputTooLong)))))

pub refusal_back_lem : (r : Refusal) → refusal_back (refusal_answer r) ≡ r
unfolding refusal_back
refusal_back_lem TooLong = refl
refusal_back_lem BadSpan = refl
refusal_back_lem BadState = refl
refusal_back_lem (BadTable table entry) = refl
refusal_back_lem NoDate = refl
refusal_back_lem BadMonth = refl
refusal_back_lem InputTooLong = refl

-- no refusal has the number 0 or 7: these tell what was done
pub refusal_number_lem : (r : Refusal) → (eqb (refusal_answer r).number 0 ≡ false) × (eqb (refusal_answer r).number 7 ≡ false)
refusal_number_lem TooLong = (refl, refl)
refusal_number_lem BadSpan = (refl, refl)
refusal_number_lem BadState = (refl, refl)
refusal_number_lem (BadTable table entry) = (refl, refl)
refusal_number_lem NoDate = (refl, refl)
refusal_number_lem BadMonth = (refl, refl)
refusal_number_lem InputTooLong = (refl, refl)

-- an outcome read back from its answer: from the values where it is done, else a refusal
abbrev pub read_back : {A : Type 0} → (List ℕ → A) → (Refusal → A) → Answer → A
read_back done refused a = cond (eqb a.number 0) (done a.values) (refused (refusal_back a))

-- a refusal comes back, whatever the outcome is otherwise
pub refused_back : {A : Type 0} (done : List ℕ → A) (refused : Refusal → A) (r : Refusal) → read_back done refused (refusal_answer r) ≡ refused r
refused_back done refused r = rw (refusal_number_lem r).0 (ap refused (refusal_back_lem r))

filled_back : Answer → Result ℕ FillError
filled_back a = cond (eqb a.number 7) (Err (Short (get_or a.values 0 0))) (read_back (λ values. Ok (get_or values 0 0)) (λ r. Err (Refused r)) a)

filled_back_lem : (r : Result ℕ FillError) → filled_back (filled_answer r) ≡ r
unfolding filled_back
filled_back_lem (Ok n) = refl
filled_back_lem (Err (Short n)) = refl
filled_back_lem (Err (Refused r)) = rw (refusal_number_lem r).1 (refused_back (λ values. Ok (get_or values 0 0)) (λ r. Err (Refused r)) r)

checked_back : Option Answer → Result Unit Refusal
checked_back none = Ok tt
checked_back (some a) = Err (refusal_back a)

checked_back_lem : (r : Result Unit Refusal) → checked_back (checked_answer r) ≡ r
unfolding checked_back
checked_back_lem (Ok u) = refl
checked_back_lem (Err r) = ap (λ (x : Refusal). Err x) (refusal_back_lem r)

-- two outcomes of a call that the same contract permits
pub filled_one : (a : Answer) (x y : Result ℕ FillError) → filled_answer x ≡ a → filled_answer y ≡ a → x ≡ y
filled_one = coincide filled_answer filled_back filled_back_lem

pub checked_one : (a : Option Answer) (x y : Result Unit Refusal) → checked_answer x ≡ a → checked_answer y ≡ a → x ≡ y
checked_one = coincide checked_answer checked_back checked_back_lem

-- none of the tests of a refusal held
none_held : (x y : Answer) (a b c : Bool) → cond a (some x) (cond (b || c) (some y) none) ≡ none → (a ≡ false) × (b ≡ false) × (c ≡ false)
none_held x y true b c h = absurd (differ cc)
none_held x y false true c h = absurd (differ cc)
none_held x y false false true h = absurd (differ cc)
none_held x y false false false h = (refl, refl, refl)

-- when a span is refused, and that it is accepted exactly else
module _ (len start end : ℕ) where
  pub span_long : longest < len → some too_long ≡ span_refusal len start end
  unfolding span_refusal
  span_long h = simp (lt-ltb _ _ h)

  module _ (fits : len ≤ longest) where
    pub span_order : end < start → some bad_span ≡ span_refusal len start end
    unfolding span_refusal
    span_order h = simp (le-ltb _ _ fits, lt-ltb _ _ h)

    module _ (order : start ≤ end) where
      pub span_past : len < end → some bad_span ≡ span_refusal len start end
      unfolding span_refusal
      span_past h = simp (le-ltb _ _ fits, le-ltb _ _ order, lt-ltb _ _ h)

      pub span_good : end ≤ len → none ≡ span_refusal len start end
      unfolding span_refusal
      span_good h = simp (le-ltb _ _ fits, le-ltb _ _ order, le-ltb _ _ h)

-- the same for a buffer by its length alone, and for a program's input
module _ (len : ℕ) where
  pub length_long : longest < len → some too_long ≡ length_refusal len
  unfolding length_refusal
  length_long h = simp (lt-ltb _ _ h)

  pub length_fits : len ≤ longest → none ≡ length_refusal len
  unfolding length_refusal
  length_fits h = simp (le-ltb _ _ h)

  pub input_long : input_limit < len → some input_too_long ≡ input_refusal len
  unfolding input_refusal
  input_long h = simp (lt-ltb _ _ h)

  pub input_fits : len ≤ input_limit → none ≡ input_refusal len
  unfolding input_refusal
  input_fits h = simp (le-ltb _ _ h)

  -- an input that is not refused
  pub input_accepted : none ≡ input_refusal len → len ≤ input_limit
  unfolding input_refusal
  input_accepted h = go (ltb input_limit len) refl h
    where
      go : (t : Bool) → ltb input_limit len ≡ t → none ≡ cond t (some input_too_long) none → len ≤ input_limit
      go true t e = absurd (differ cc)
      go false t e = ltb-false _ _ t

-- the same for a state
module _ (len pos end : ℕ) where
  pub state_long : longest < len → some too_long ≡ state_refusal len pos end
  unfolding state_refusal
  state_long h = simp (lt-ltb _ _ h)

  module _ (fits : len ≤ longest) where
    pub state_order : end < pos → some bad_state ≡ state_refusal len pos end
    unfolding state_refusal
    state_order h = simp (le-ltb _ _ fits, lt-ltb _ _ h)

    module _ (order : pos ≤ end) where
      pub state_past : len < end → some bad_state ≡ state_refusal len pos end
      unfolding state_refusal
      state_past h = simp (le-ltb _ _ fits, le-ltb _ _ order, lt-ltb _ _ h)

      pub state_good : end ≤ len → none ≡ state_refusal len pos end
      unfolding state_refusal
      state_good h = simp (le-ltb _ _ fits, le-ltb _ _ order, le-ltb _ _ h)

-- what is not refused
module _ (len start end : ℕ) where
  pub span_accepted : span_refusal len start end ≡ none → (len ≤ longest) × (start ≤ end) × (end ≤ len)
  unfolding span_refusal
  span_accepted h = let n = none_held too_long bad_span (ltb longest len) (ltb end start) (ltb len end) h in (ltb-false _ _ n.0, ltb-false _ _ n.1, ltb-false _ _ n.2)

  pub state_accepted : state_refusal len start end ≡ none → (len ≤ longest) × (start ≤ end) × (end ≤ len)
  unfolding state_refusal
  state_accepted h = let n = none_held too_long bad_state (ltb longest len) (ltb end start) (ltb len end) h in (ltb-false _ _ n.0, ltb-false _ _ n.1, ltb-false _ _ n.2)
