-- The laws of the order of dates:
--     order_one      two outcomes that the contract permits coincide
--     order_swap     the other way round, earlier is later
--     order_same     a date is equal to itself
--     order_equal    and to no other
--     order_is       the derived order of dates is this one
--     order_after    a date earlier than one that is earlier than a third is earlier than the third
-- Assumes nothing.
use Prim.Native.Nat.{ℕ, ◌-◌, ◌<◌}
use mathlib.Core.Path.{◌≡◌, refl, ap, ◌∙◌}
use mathlib.Core.Bool.{Bool, true, false, cond}
use mathlib.Core.Logic.{◌⊎◌, inl, inr, ⊎_elim}
use native.Mathlib.Omega.{arith}
use lib.Dec.{ltb, eqb}
use lib.ListN.{get_or}
use borrow.Author.Tests.{lt-ltb, le-ltb, ltb-true, ltb-false}
use Rattle.records.specs.Answer.{Answer, done}
use Rattle.records.proofs.Answers.{coincide}
use Rattle.std.specs.Ordering.{nat_cmp, ordering_then}
use Rattle.std.proofs.lemmas.Bool.Decides.{nat_tests}
use Rattle.date.specs.Ordering.{order_number, order_answer, first_of, order, compare_answer}
use Rattle.date.specs.declared.Date.{Date}
use Rattle.std.specs.declared.cmp.Ordering.{Ordering}
use Rattle.std.specs.declared.cmp.Ordering.TheVariants.{Less, Equal, Greater}

order_back : Answer → Ordering
order_back a = let n = get_or a.values 0 0 in cond (eqb n 1) Less (cond (eqb n 2) Equal Greater)

order_back_lem : (r : Ordering) → order_back (order_answer r) ≡ r
unfolding order_back
order_back_lem Less = refl
order_back_lem Equal = refl
order_back_lem Greater = refl

pub order_one : (a : Answer) (x y : Ordering) → order_answer x ≡ a → order_answer y ≡ a → x ≡ y
order_one = coincide order_answer order_back order_back_lem

-- by one number, before the rest: smaller, equal, and what an answer tells
first_less : (a b rest : ℕ) → a < b → first_of a b rest ≡ 1
unfolding first_of
first_less a b rest h = rw (lt-ltb a b h)

first_same : (a rest : ℕ) → first_of a a rest ≡ rest
unfolding first_of
first_same a rest = rw (le-ltb a a (omega arith))

first_one : (a b rest : ℕ) → first_of a b rest ≡ 1 → (a < b) ⊎ ((a ≡ b) × (rest ≡ 1))
unfolding first_of
first_one a b rest e = go (ltb a b) (ltb b a) refl refl
  where
    go : (l m : Bool) → ltb a b ≡ l → ltb b a ≡ m → (a < b) ⊎ ((a ≡ b) × (rest ≡ 1))
    go true m p q = inl (ltb-true a b p)
    go false true p q = let z : ◌≡◌ {A = ℕ} 3 1 = rw (p, q) at e in absurd (omega arith)
    go false false p q = inr (omega (arith, ltb-false a b p, ltb-false b a q), rw (p, q) at e)

first_two : (a b rest : ℕ) → first_of a b rest ≡ 2 → (a ≡ b) × (rest ≡ 2)
unfolding first_of
first_two a b rest e = go (ltb a b) (ltb b a) refl refl
  where
    go : (l m : Bool) → ltb a b ≡ l → ltb b a ≡ m → (a ≡ b) × (rest ≡ 2)
    go true m p q = let z : ◌≡◌ {A = ℕ} 1 2 = rw p at e in absurd (omega arith)
    go false true p q = let z : ◌≡◌ {A = ℕ} 3 2 = rw (p, q) at e in absurd (omega arith)
    go false false p q = (omega (arith, ltb-false a b p, ltb-false b a q), rw (p, q) at e)

first_swap : (a b rest back : ℕ) → back ≡ 4 - rest → first_of b a back ≡ 4 - first_of a b rest
unfolding first_of
first_swap a b rest back e = go (ltb a b) (ltb b a) refl refl
  where
    go : (l m : Bool) → ltb a b ≡ l → ltb b a ≡ m → first_of b a back ≡ 4 - first_of a b rest
    go true true p q = absurd (omega (arith, ltb-true a b p, ltb-true b a q))
    go true false p q = rw (p, q)
    go false true p q = rw (p, q)
    go false false p q = rw (p, q) e

first_after : (a b c r s t : ℕ) → (r ≡ 1 → s ≡ 1 → t ≡ 1) → first_of a b r ≡ 1 → first_of b c s ≡ 1 → first_of a c t ≡ 1
first_after a b c r s t rest p q =
    ⊎_elim (λ ab. ⊎_elim (λ bc. first_less a c t (omega arith)) (λ bc. first_less a c t (omega arith)) (first_one b c s q))
    (λ ab. ⊎_elim (λ bc. first_less a c t (omega arith)) (λ bc. rw (ab.0, bc.0, first_same) (rest ab.1 bc.1)) (first_one b c s q))
    (first_one a b r p)

-- two numbers compared, and then the rest
first_is : (a b : ℕ) (rest : Ordering) → order_number (ordering_then (nat_cmp a b) rest) ≡ first_of a b (order_number rest)
unfolding first_of
first_is a b rest = grind (arith, nat_tests)

last_is : (a b : ℕ) → order_number (nat_cmp a b) ≡ first_of a b 2
unfolding first_of
last_is a b = grind (arith, nat_tests)

-- the derived order of dates is this one
pub order_is : (a b : Date) → order_answer (ordering_then (nat_cmp a.year b.year) (ordering_then (nat_cmp a.month b.month) (nat_cmp a.day b.day))) ≡ compare_answer a b
unfolding order
order_is a b =
    ap done (first_is a.year b.year _ ∙ ap (first_of a.year b.year) (first_is a.month b.month _ ∙ ap (first_of a.month b.month) (last_is a.day b.day)))

pub order_same : (a : Date) → order a a ≡ 2
unfolding order
order_same a = rw (first_same, first_same, first_same)

pub order_equal : (a b : Date) → order a b ≡ 2 → a ≡ b
unfolding order
order_equal a b e =
    let year = first_two a.year b.year _ e in
    let month = first_two a.month b.month _ year.1 in
    let day = first_two a.day b.day _ month.1 in
    λ i. record { year = year.0 i; month = month.0 i; day = day.0 i }

pub order_swap : (a b : Date) → order b a ≡ 4 - order a b
unfolding order
order_swap a b = first_swap a.year b.year _ _ (first_swap a.month b.month _ _ (first_swap a.day b.day 2 2 refl))

pub order_after : (a b c : Date) → order a b ≡ 1 → order b c ≡ 1 → order a c ≡ 1
unfolding order
order_after a b c =
    first_after a.year b.year c.year _ _ _
    (first_after a.month b.month c.month _ _ _ (first_after a.day b.day c.day 2 2 2 (λ p q. absurd (omega arith))))
