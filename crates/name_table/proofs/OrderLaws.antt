-- Laws of the order of names: it is the library's order of bytes, so it is a total order, in which only equal names stand the same.
-- Assumes nothing.
use mathlib.Core.Path.{◌≡◌, refl, sym, ap, ◌∙◌}
use mathlib.Core.Bool.{cond}
use mathlib.Core.List.{List, [], ◌∷◌}
use Prim.Native.Nat.{ℕ, ◌<◌}
use native.Mathlib.Omega.{arith}
use lib.Dec.{ltb}
use borrow.Author.Tests.{lt-ltb, le-ltb}
use Rattle.std.specs.Cmp.Lexicographic.{slice_cmp}
use Rattle.std.specs.Ordering.{MatchOrdering, nat_cmp, ordering_then, ordering_reverse}
use Rattle.std.specs.Cmp.{ranks, tied_itself}
use Rattle.std.specs.declared.cmp.Ordering.{Ordering}
use Rattle.std.specs.declared.cmp.Ordering.TheVariants.{Less, Equal, Greater}
use Rattle.std.proofs.lemmas.Cmp.{nat_list_cmp_total}
use Rattle.std.proofs.lemmas.Map.Lookups.{exact_bytes}
use Rattle.basics.proofs.Laws.{differ}
use Rattle.name_table.specs.Order.{order_of}

-- the library's order of two lists of bytes is the order of the names
first_is : (x y : ℕ) (o p : Ordering) → MatchOrdering o (x < y) (x ≡ y) (y < x) → ordering_then o p ≡ cond (ltb x y) Less (cond (ltb y x) Greater p)
first_is x y Less p h = rw (lt-ltb x y h)
first_is x y Equal p h = rw (le-ltb x y (omega arith), le-ltb y x (omega arith))
first_is x y Greater p h = rw (le-ltb x y (omega arith), lt-ltb y x h)

pub order_is : (a b : List ℕ) → slice_cmp nat_cmp a b ≡ order_of a b
unfolding order_of
order_is [] [] = refl
order_is [] (y ∷ ys) = refl
order_is (x ∷ xs) [] = refl
order_is (x ∷ xs) (y ∷ ys) = first_is x y _ _ (ranks x y) ∙ ap (λ p. cond (ltb x y) Less (cond (ltb y x) Greater p)) (order_is xs ys)

-- by the first bytes, and where they are equal by the rest
pub order_first : (x y : ℕ) (xs ys : List ℕ) → order_of (x ∷ xs) (y ∷ ys) ≡ ordering_then (nat_cmp x y) (order_of xs ys)
order_first x y xs ys = sym (order_is (x ∷ xs) (y ∷ ys)) ∙ ap (ordering_then (nat_cmp x y)) (order_is xs ys)

-- no name is less than the empty one
pub nothing_less : (a : List ℕ) → order_of a [] ≡ Less → ⊥
unfolding order_of
nothing_less [] e = differ cc
nothing_less (x ∷ xs) e = differ cc

-- the order seen from the other side
pub order_flip : (a b : List ℕ) → order_of b a ≡ ordering_reverse (order_of a b)
order_flip a b = rw (← order_is a b, ← order_is b a) (nat_list_cmp_total.antisymm b a)

-- names are the same exactly if they are equal
pub order_refl : (a : List ℕ) → order_of a a ≡ Equal
order_refl a = sym (order_is a a) ∙ tied_itself nat_list_cmp_total a

pub order_same : (a b : List ℕ) → order_of a b ≡ Equal → a ≡ b
order_same a b e = exact_bytes a b (order_is a b ∙ e)

pub order_trans : (a b c : List ℕ) → order_of a b ≡ Less → order_of b c ≡ Less → order_of a c ≡ Less
order_trans a b c p q = sym (order_is a c) ∙ nat_list_cmp_total.trans a b c (order_is a b ∙ p) (order_is b c ∙ q)
