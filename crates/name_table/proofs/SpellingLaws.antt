-- Laws of a name that a text spells, for either spelling, of a text that spells itself, and of the comparison with a name, byte by byte.
-- Assumes nothing.
use Prim.Native.Nat.{ℕ, zero, suc, ◌+◌, ◌≤◌, ◌<◌, min}
use mathlib.Core.Path.{◌≡◌, refl, sym, ap, ◌∙◌}
use mathlib.Core.Logic.{◌⊎◌, inl, inr}
use mathlib.Core.List.{List, [], ◌∷◌, ◌++◌, append_assoc, append-nil}
use native.Mathlib.Nat.{eq-or-lt_of_le}
use native.Mathlib.Decide.{dec_lt}
use native.Mathlib.Numerals.{add-one}
use native.Mathlib.Omega.{arith}
use lib.ListN.{length, take, drop, get_or, drop_of_length-le}
use lib.Seq.{drop-cons, take_all, take-suc}
use Rattle.std.specs.Cmp.{nat_cmp_is}
use Rattle.std.specs.Ordering.{nat_cmp, ordering_then}
use Rattle.unescape.specs.Unescape.{is_escape}
use Rattle.unescape.proofs.Laws as unescape
use Rattle.name_table.specs.Order.{order_of}
use Rattle.name_table.specs.Spelling.{spelled, step_of}
use Rattle.std.specs.declared.cmp.Ordering.{Ordering}
use Rattle.std.specs.declared.cmp.Ordering.TheVariants.{Less, Equal, Greater}
use Rattle.name_table.specs.declared.Spelling.{Spelling}
use Rattle.name_table.specs.declared.Spelling.TheVariants.{Plain, Escaped}
use Rattle.name_table.proofs.OrderLaws.{order_first}

-- the name from place i of the text on
pub spelled_step : (how : Spelling) (s : List ℕ) (i : ℕ) → i < length s → spelled how (drop i s) ≡ get_or s i 0 ∷ spelled how (drop (i + step_of how s i) s)
unfolding spelled step_of
spelled_step Plain s i h = rw (add-one, drop-cons s i 0)
spelled_step (Escaped kind) s i h = unescape.unescaped_step (is_escape kind) s i h

pub spelled_end : (how : Spelling) (s : List ℕ) (i : ℕ) → length s ≤ i → spelled how (drop i s) ≡ []
unfolding spelled
spelled_end Plain s i h = drop_of_length-le s h
spelled_end (Escaped kind) s i h = unescape.unescaped_end (is_escape kind) s i h

pub step_some : (how : Spelling) (s : List ℕ) (i : ℕ) → 1 ≤ step_of how s i
unfolding step_of
step_some Plain s i = omega arith
step_some (Escaped kind) s i = unescape.step_some (is_escape kind) s i

-- up to place i the text spells itself
abbrev pub PlainTo : Spelling → List ℕ → ℕ → Type 0
PlainTo how s i = take i s ++ spelled how (drop i s) ≡ spelled how s

pub plain_on : (how : Spelling) (s : List ℕ) (i : ℕ) → i < length s → step_of how s i ≤ 1 → PlainTo how s i → PlainTo how s (i + 1)
plain_on how s i h few p =
    let one : step_of how s i ≡ 1 = omega (arith, step_some how s i) in
    let next = spelled_step how s i h ∙ ap (λ (n : ℕ). get_or s i 0 ∷ spelled how (drop (i + n) s)) one in
    let front : take (i + 1) s ≡ take i s ++ (get_or s i 0 ∷ []) = rw add-one (take-suc s i 0 h) in
    let behind = ap (λ (l : List ℕ). take i s ++ l) (sym next) ∙ p in
    rw (front, append_assoc) behind

pub plain_ends : (how : Spelling) (s : List ℕ) (i : ℕ) → length s ≤ i → PlainTo how s i → spelled Plain s ≡ spelled how s
unfolding spelled
plain_ends how s i h p = rw (take_all i s h, spelled_end how s i h, append-nil) at p

-- so where no step is of two bytes
pub plain_all : (how : Spelling) (s : List ℕ) → ((i : ℕ) → i < length s → step_of how s i ≤ 1) → spelled Plain s ≡ spelled how s
plain_all how s few = plain_ends how s (length s) (omega arith) (go (length s) (omega arith))
  where
    go : (n : ℕ) → n ≤ length s → PlainTo how s n
    go zero h = refl
    go (suc n) h = rw (← add-one n) (plain_on how s n (omega arith) (few n (omega arith)) (go n (omega arith)))

-- an order that decides is not asked further
then_stays : (o p : Ordering) → (o ≡ Equal → ⊥) → ordering_then o p ≡ o
then_stays Less p n = refl
then_stays Equal p n = absurd (n refl)
then_stays Greater p n = refl

-- a name from place k on, and the spelled one from place i on
module _ (name : List ℕ) (how : Spelling) (text : List ℕ) (k i : ℕ) where
  module _ (here : k < length name) where
    module _ (more : i < length text) where
      compare_step : order_of (drop k name) (spelled how (drop i text))
          ≡ ordering_then (nat_cmp (get_or name k 0) (get_or text i 0)) (order_of (drop (k + 1) name) (spelled how (drop (i + step_of how text i) text)))
      compare_step = rw (drop-cons name k 0 here, add-one, spelled_step how text i more) (order_first _ _ _ _)

      pub compare_unequal : (o : Ordering) → o ≡ nat_cmp (get_or name k 0) (get_or text i 0) → (o ≡ Equal → ⊥) → order_of (drop k name) (spelled how (drop i text)) ≡ o
      compare_unequal o e n = compare_step ∙ rw (← e) (then_stays o _ n)

      pub compare_equal : Equal ≡ nat_cmp (get_or name k 0) (get_or text i 0)
          → order_of (drop k name) (spelled how (drop i text)) ≡ order_of (drop (k + 1) name) (spelled how (drop (i + step_of how text i) text))
      compare_equal e = compare_step ∙ rw (← e)

    pub compare_longer : length text ≤ i → order_of (drop k name) (spelled how (drop i text)) ≡ Greater
    unfolding order_of
    compare_longer none = rw (spelled_end how text i none, drop-cons name k 0 here)

  pub compare_over : length name ≤ k → i ≤ length text → order_of (drop k name) (spelled how (drop i text)) ≡ nat_cmp i (length text)
  unfolding order_of
  compare_over over within = go (eq-or-lt_of_le within)
    where
      go : (i ≡ length text) ⊎ (i < length text) → order_of (drop k name) (spelled how (drop i text)) ≡ nat_cmp i (length text)
      go (inl h) = rw (spelled_end how text i (omega arith), drop_of_length-le name over) (nat_cmp_is _ _ Equal h)
      go (inr h) = rw (spelled_step how text i h, drop_of_length-le name over) (nat_cmp_is _ _ Less h)

-- where one of two names ends
pub compare_ends : (name other : List ℕ) (k : ℕ) → k ≡ min (length name) (length other) → order_of (drop k name) (drop k other) ≡ nat_cmp (length name) (length other)
unfolding spelled
compare_ends name other k e = go (dec_lt k (length name))
  where
    go : Dec (k < length name) → order_of (drop k name) (drop k other) ≡ nat_cmp (length name) (length other)
    go (yes h) = compare_longer name Plain other k k h (omega arith) ∙ nat_cmp_is (length name) (length other) Greater (omega arith)
    go (no h) = let is : k ≡ length name = omega arith in compare_over name Plain other k k (omega arith) (omega arith) ∙ ap (λ n. nat_cmp n (length other)) is
