-- Reading what is written gives the same date, for a day up to 99, a year up to 9999 and a month from 1 to 12.
-- Assumes nothing.
use Prim.Native.Nat.{ℕ, zero, suc, ◌+◌, ◌-◌, ◌*◌, ◌/◌, ◌%◌, ◌<◌, ◌≤◌}
use mathlib.Core.Path.{◌≡◌, refl, ap, sym, ◌∙◌}
use mathlib.Core.List.{List, [], ◌∷◌, ◌++◌, append_assoc}
use mathlib.Core.Bool.{Bool, true, false}
use native.Mathlib.Omega.{arith}
use native.Mathlib.Nat.{zero-add}
use lib.Dec.{ltb, eqb}
use lib.ListN.{length, get_or, take, drop, replicate, length-append}
use lib.Seq.{take_at, drop-append-add, get_or-append-add}
use borrow.Author.Tests.{ltb-true, ltb-false, eqb-true}
use Rattle.basics.proofs.Laws.{differ}
use Rattle.byte_rules.specs.Classes.{is_digit}
use Rattle.byte_rules.proofs.Laws.{digit_is, digit_holds}
use Rattle.decimal.specs.Decimal.{decimal}
use Rattle.decimal.proofs.Laws.{decimal_small, decimal_more, length_small, length_more, length_some, length_below}
use Rattle.date.specs.Numbers.{digits_on, digits, number}
use Rattle.date.specs.Months.{month_of}
use Rattle.date.specs.Reading.{fields, read_date}
use Rattle.date.specs.Writing.{month_text, year_text, date_text}
use Rattle.std.specs.Prelude.{Some, None}
use Rattle.date.specs.declared.Date.{Date}
use Rattle.std.specs.Prelude.{Option, Ok}
use Rattle.std.specs.Option.{ok_or}
use Rattle.records.specs.declared.Refusal.TheVariants.{NoDate}
use Rattle.date.proofs.MonthLaws.{month_back}
use Rattle.date.proofs.ReadingLaws.{read_ten, read_eleven}
use Rattle.date.proofs.WritingLaws.{length_year, length_date}

-- one more digit at the end
on_snoc : (s : List ℕ) (a n x : ℕ) → x ≤ 9 → digits_on a s ≡ Some n → digits_on a (s ++ ((48 + x) ∷ [])) ≡ Some (n * 10 + x)
unfolding digits_on
on_snoc [] a n x h e =
    let same : a ≡ n = cc in
    let digit : 48 + x - 48 ≡ x = omega arith in
    rw (digit_holds (48 + x) (omega arith) (omega arith), digit, same)
on_snoc (b ∷ s) a n x h e = go (is_digit b) refl (on_snoc s (a * 10 + (b - 48)) n x h)
  where
    go : (t : Bool) → is_digit b ≡ t
        → (digits_on (a * 10 + (b - 48)) s ≡ Some n → digits_on (a * 10 + (b - 48)) (s ++ ((48 + x) ∷ [])) ≡ Some (n * 10 + x))
        → digits_on a (b ∷ s ++ ((48 + x) ∷ [])) ≡ Some (n * 10 + x)
    go true t ih = rw t (ih (rw t at e))
    go false t ih = let f : None ≡ Some n = rw t at e in absurd (differ cc)

on_one : (n : ℕ) → n ≤ 9 → digits_on 0 ((48 + n) ∷ []) ≡ Some n
unfolding digits_on
on_one n h = on_snoc [] 0 0 n h refl ∙ ap Some (zero-add n)

-- n is read back from its digits; k bounds how deep the division goes
on_decimal : (k n : ℕ) → n < k → digits_on 0 (decimal n) ≡ Some n
on_decimal zero n h = absurd (omega arith)
on_decimal (suc k) n h = go (ltb n 10) refl (λ g. on_decimal k (n / 10) (omega arith))
  where
    go : (t : Bool) → ltb n 10 ≡ t → (10 ≤ n → digits_on 0 (decimal (n / 10)) ≡ Some (n / 10)) → digits_on 0 (decimal n) ≡ Some n
    go true t ih = let small : n < 10 = ltb-true n 10 t in rw (decimal_small n small) (on_one n (omega arith))
    go false t ih =
        let large : 10 ≤ n = ltb-false n 10 t in
        let whole : n / 10 * 10 + n % 10 ≡ n = omega arith in
        rw (decimal_more n large) (on_snoc (decimal (n / 10)) 0 (n / 10) (n % 10) (omega arith) (ih large) ∙ ap Some whole)

-- zeros before it change nothing
on_zeros : (k : ℕ) (s : List ℕ) → digits_on 0 (replicate k 48 ++ s) ≡ digits_on 0 s
unfolding digits_on
on_zeros zero s = refl
on_zeros (suc k) s = rw (digit_holds 48 (omega arith) (omega arith)) (on_zeros k s)

-- where digits stand, no `+` does
on_number : (s : List ℕ) (n : ℕ) → 1 ≤ length s → digits_on 0 s ≡ Some n → number s ≡ Some n
unfolding number digits digits_on
on_number [] n h e = absurd (omega arith)
on_number (b ∷ s) n h e = go (eqb b 43) (is_digit b) refl refl
  where
    go : (plus digit : Bool) → eqb b 43 ≡ plus → is_digit b ≡ digit → number (b ∷ s) ≡ Some n
    go false digit p d = rw p e
    go true true p d = absurd (omega (arith, eqb-true b 43 p, digit_is b d))
    go true false p d = let f : None ≡ Some n = rw d at e in absurd (differ cc)

number_decimal : (n : ℕ) → number (decimal n) ≡ Some n
number_decimal n = on_number (decimal n) n (length_some n) (on_decimal (suc n) n (omega arith))

number_year : (y : ℕ) → number (year_text y) ≡ Some y
unfolding year_text
number_year y =
    let zeros = 4 - length (decimal y) in
    on_number (replicate zeros 48 ++ decimal y) y (simp length-append (omega (arith, length_some y)))
    (on_zeros zeros (decimal y) ∙ on_decimal (suc y) y (omega arith))

-- the date of three fields
fields_are : (k : ℕ) (s : List ℕ) (d : Date) → number (take k s) ≡ Some d.day
    → month_of (get_or s (k + 1) 0) (get_or s (k + 2) 0) (get_or s (k + 3) 0) ≡ Some d.month → number (drop (k + 5) s) ≡ Some d.year → fields k s ≡ Some d
unfolding fields
fields_are k s d day month year = rw (day, month, year)

module _ (d : Date) (day : d.day ≤ 99) (year : d.year ≤ 9999) (low : 1 ≤ d.month) (high : d.month ≤ 12) where
  in_fields : (k : ℕ) → length (decimal d.day) ≡ k → fields k (date_text d) ≡ Some d
  unfolding date_text month_text
  in_fields k e =
      let D : List ℕ = decimal d.day in
      let R : List ℕ = month_text d.month ++ year_text d.year in
      rw (← e, append_assoc)
      (fields_are (length D) (D ++ R) d (ap number (take_at D R (length D) refl) ∙ number_decimal d.day)
      (rw (get_or-append-add D R 1 0, get_or-append-add D R 2 0, get_or-append-add D R 3 0) (month_back d.month low high))
      (ap number (drop-append-add D R 5) ∙ number_year d.year))

  text_length : length (date_text d) ≡ length (decimal d.day) + 9
  text_length = omega (arith, length_date d, length_year d.year, length_below 3 d.year (omega arith))

  pub round_trip : read_date (date_text d) ≡ Ok d
  round_trip = go (ltb d.day 10) refl
    where
      go : (t : Bool) → ltb d.day 10 ≡ t → read_date (date_text d) ≡ Ok d
      go true t =
          let one : length (decimal d.day) ≡ 1 = length_small d.day (ltb-true d.day 10 t) in
          sym (read_ten (date_text d) (omega (arith, text_length))) ∙ ap (λ (d : Option Date). ok_or d NoDate) (in_fields 1 one)
      go false t =
          let large : 10 ≤ d.day = ltb-false d.day 10 t in
          let two : length (decimal d.day) ≡ 2 = omega (arith, length_more d.day large, length_small (d.day / 10) (omega arith)) in
          sym (read_eleven (date_text d) (omega (arith, text_length))) ∙ ap (λ (d : Option Date). ok_or d NoDate) (in_fields 2 two)
