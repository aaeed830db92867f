-- Pieces that stand end to end: each place between the ends lies in exactly one of them, and none reaches out.
-- Assumes nothing.
use Prim.Native.Nat.{ℕ, ◌≤◌, ◌<◌}
use mathlib.Core.List.{List, [], ◌∷◌, ◌++◌}
use mathlib.Core.Path.{◌≡◌}
use native.Mathlib.Omega.{arith}
use Rattle.scans.proofs.Laws.{by_less}
use Rattle.coverage.specs.Demand3.{All, ExactlyOne, here, there, Piece, Holds, Inside}

pub all_append : {A : Type 0} (P : A → Type 0) (xs ys : List A) → All P xs → All P ys → All P (xs ++ ys)
all_append P [] ys h k = k
all_append P (x ∷ xs) ys h k = (h.0, all_append P xs ys h.1 k)

-- the first begins at i, each next one where the one before ends, and the last ends at j
abbrev pub Tiled : ℕ → ℕ → List Piece → Type 0
Tiled i j [] = i ≡ j
Tiled i j (x ∷ xs) = (x.lo ≡ i) × (i ≤ x.hi) × Tiled x.hi j xs

pub tiled_append : (i j k : ℕ) (xs ys : List Piece) → Tiled i j xs → Tiled j k ys → Tiled i k (xs ++ ys)
tiled_append i j k [] ys h t = rw h t
tiled_append i j k (x ∷ xs) ys h t = (h.0, h.1, tiled_append x.hi j k xs ys h.2 t)

tiled_up : (i j : ℕ) (xs : List Piece) → Tiled i j xs → i ≤ j
tiled_up i j [] t = omega arith
tiled_up i j (x ∷ xs) t = omega (arith, tiled_up x.hi j xs t.2)

pub tiled_in : (a i j : ℕ) (xs : List Piece) → a ≤ i → Tiled i j xs → All (Inside a j) xs
tiled_in a i j [] h t = tt
tiled_in a i j (x ∷ xs) h t = ((omega arith, omega arith, tiled_up x.hi j xs t.2), tiled_in a x.hi j xs (omega arith) t.2)

-- below its start a tiling holds nothing
none_below : (p i j : ℕ) (xs : List Piece) → Tiled i j xs → p < i → All (λ y. Holds p y → ⊥) xs
none_below p i j [] t h = tt
none_below p i j (x ∷ xs) t h = (λ k. omega arith, none_below p x.hi j xs t.2 (omega arith))

pub exactly_one : (p i j : ℕ) (xs : List Piece) → Tiled i j xs → i ≤ p → p < j → ExactlyOne (Holds p) xs
exactly_one p i j [] t h l = absurd (omega arith)
exactly_one p i j (x ∷ xs) t h l =
    by_less p x.hi
    (λ u. here {x = x} (omega arith, u) (none_below p x.hi j xs t.2 u))
    (λ u. there (λ (k : Holds p x). omega arith) (exactly_one p x.hi j xs t.2 u l))
