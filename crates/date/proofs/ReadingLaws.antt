-- The laws of reading a date:
--     read_ten, read_eleven    the bytes of a day are told by the length
--     read_other, answer_other    bytes of any other length are no date: answer 5
--     date_one      two outcomes that the contract permits coincide
-- Assumes nothing.
use Prim.Native.Nat.{ℕ}
use mathlib.Core.Path.{◌≡◌, refl, ap, sym}
use mathlib.Core.List.{List}
use lib.ListN.{length, get_or}
use borrow.Author.Tests.{eq-eqb, ne_eqb}
use Rattle.std.specs.Prelude.{Result, Ok, Err}
use Rattle.std.specs.Option.{ok_or}
use Rattle.records.specs.Answer.{Answer, no_date}
use Rattle.records.specs.declared.Refusal.{Refusal}
use Rattle.records.specs.declared.Refusal.TheVariants.{NoDate}
use Rattle.records.proofs.Answers.{coincide, read_back, refused_back}
use Rattle.date.specs.Reading.{fields, read_date, date_answer, read_answer}
use Rattle.date.specs.declared.Date.{Date}

module _ (s : List ℕ) where
  pub read_ten : length s ≡ 10 → ok_or (fields 1 s) NoDate ≡ read_date s
  unfolding read_date
  read_ten h = rw (eq-eqb _ _ h)

  pub read_eleven : length s ≡ 11 → ok_or (fields 2 s) NoDate ≡ read_date s
  unfolding read_date
  read_eleven h = rw h

  pub read_other : (length s ≡ 10 → ⊥) → (length s ≡ 11 → ⊥) → Err NoDate ≡ read_date s
  unfolding read_date
  read_other h k = rw (ne_eqb _ _ h, ne_eqb _ _ k)

  pub answer_other : (length s ≡ 10 → ⊥) → (length s ≡ 11 → ⊥) → read_answer s ≡ no_date
  answer_other h k = ap date_answer (sym (read_other h k))

-- the outcome that has an answer
date_of_values : List ℕ → Result Date Refusal
date_of_values values = Ok (record { year = get_or values 0 0; month = get_or values 1 0; day = get_or values 2 0 })

date_back : Answer → Result Date Refusal
date_back = read_back date_of_values Err

date_back_lem : (r : Result Date Refusal) → date_back (date_answer r) ≡ r
unfolding date_back date_of_values
date_back_lem (Ok d) = refl
date_back_lem (Err why) = refused_back date_of_values Err why

pub date_one : (a : Answer) (x y : Result Date Refusal) → date_answer x ≡ a → date_answer y ≡ a → x ≡ y
date_one = coincide date_answer date_back date_back_lem
