-- Laws about no byte and no rule: what cannot be, a choice by its arms, the first of two that is there, and the part of a text from a place on.
-- Assumes nothing.
use Prim.Native.Nat.{ℕ, ◌-◌}
use mathlib.Core.Path.{◌≡◌, refl}
use mathlib.Core.Bool.{Bool, true, false, ◌&&◌, ◌||◌}
use mathlib.Core.List.{List}
use mathlib.Core.Option.{Option, none, some}
use native.Mathlib.Nat.{le_refl}
use native.Mathlib.Omega.{arith}
use lib.ListN.{length, take, drop, length-drop}
use lib.Seq.{take_all}
use Rattle.basics.specs.Choice.{or_else}
use Rattle.std.specs.Prelude.{Option as Maybe, Some, None}

-- where the facts at hand would make 0 and 1 equal (`cc` finds it), nothing is left to show: `absurd (differ cc)`
pub differ : ◌≡◌ {A = ℕ} 0 1 → ⊥
differ z = omega arith

-- both tests hold where their conjunction does
pub both : (a b : Bool) → (a && b) ≡ true → (a ≡ true) × (b ≡ true)
both true true h = (refl, refl)
both true false h = (refl, h)
both false true h = (h, refl)
both false false h = (h, h)

-- what follows from each of two follows where one of them holds; neither holds where their disjunction does not
pub either : {A : Type 0} (a b : Bool) → (a || b) ≡ true → (a ≡ true → A) → (b ≡ true → A) → A
either true b h f g = f refl
either false b h f g = g h

pub neither : (a b : Bool) → (a || b) ≡ false → (a ≡ false) × (b ≡ false)
neither true b h = absurd (differ cc)
neither false b h = (refl, h)

pub or_false : (a : Bool) → (a || false) ≡ a
or_false true = refl
or_false false = refl

-- what holds of both arms, each under its outcome of the test, holds of the choice
pub by_test : {A : Type 0} (P : A → Type 0) (t : Bool) {x y : A} → (t ≡ true → P x) → (t ≡ false → P y) → P (elim t [ true ↦ x | false ↦ y ])
by_test P true f g = f refl
by_test P false f g = g refl

-- the same of a choice by a place that may be missing
pub by_place : {A : Type 0} (P : A → Type 0) (c : Maybe ℕ) {x : ℕ → A} {y : A} → ((q : ℕ) → c ≡ Some q → P (x q)) → (c ≡ None → P y) → P (elim c [ Some q ↦ x q | None ↦ y ])
by_place P (Some q) f g = f q refl
by_place P None f g = g refl

-- the first of two that is there: the one, or, where that is missing, the other
pub the_one : {A : Type 0} {x : Option A} (y : Option A) (a : A) → some a ≡ x → some a ≡ or_else x y
the_one y a e = rw (← e)

pub the_other : {A : Type 0} {x : Option A} (y : Option A) → none ≡ x → y ≡ or_else x y
the_other y e = rw (← e)

-- where it is missing, both are
pub both_none : {A : Type 0} (a b : Option A) → none ≡ or_else a b → (none ≡ a) × (none ≡ b)
both_none none b h = (refl, h)
both_none (some a) b h = absurd (differ cc)

-- the part of a text from i on, as the code makes it
pub rest_is : {A : Type 0} (s : List A) (i : ℕ) → take (length s - i) (drop i s) ≡ drop i s
rest_is s i = take_all (length s - i) (drop i s) (rw (length-drop i s) (le_refl (length s - i)))
