-- Laws of the search: a good table is sorted, halving narrows the bracket, and over a good table it finds what the walk finds.
-- Assumes nothing.
use mathlib.Core.Path.{◌≡◌, refl, sym, ap, ◌∙◌}
use mathlib.Core.Bool.{Bool, true, false, cond, not, ◌||◌}
use mathlib.Core.Logic.{◌⊎◌, inl, inr}
use mathlib.Core.List.{List}
use Prim.Native.Nat.{ℕ, zero, suc, ◌+◌, ◌-◌, ◌≤◌, ◌<◌}
use native.Mathlib.Nat.{eq-or-lt_of_le, not-suc-le-zero}
use native.Mathlib.Decide.{dec_lt}
use native.Mathlib.Omega.{arith}
use lib.Dec.{ltb}
use lib.ListN.{length}
use borrow.Author.Tests.{lt-ltb, le-ltb}
use Rattle.basics.proofs.Laws.{differ}
use Rattle.std.specs.Ordering.{is_lt, is_eq, ordering_reverse}
use Rattle.name_table.specs.Order.{order_of}
use Rattle.name_table.specs.Table.{end_of, start_of, name_at, not_greater, bad_at, bad_from, first_bad}
use Rattle.name_table.specs.Search.{turned, entry_from, entry_of, middle, halved, searched}
use Rattle.std.specs.declared.cmp.Ordering.{Ordering}
use Rattle.std.specs.declared.cmp.Ordering.TheVariants.{Less, Equal, Greater}
use Rattle.std.specs.Prelude.{Some, None}
use Rattle.name_table.proofs.OrderLaws.{order_flip, order_same, order_refl, order_trans}

-- ---- a good table

-- its names go up
abbrev pub Sorted : List ℕ → List ℕ → Type 0
Sorted bytes ends = (j k : ℕ) → j < k → k < length ends → order_of (name_at bytes ends j) (name_at bytes ends k) ≡ Less

last_false : (a b c : Bool) → (a || b || c) ≡ false → c ≡ false
last_false true b c e = absurd (differ cc)
last_false false true c e = absurd (differ cc)
last_false false false c e = e

less_is : (o : Ordering) → not (is_lt o) ≡ false → o ≡ Less
less_is Less e = refl
less_is Equal e = absurd (differ cc)
less_is Greater e = absurd (differ cc)

module _ (bytes ends : List ℕ) where
  -- where the check finds nothing, no entry is bad
  none_bad : (left i : ℕ) → bad_from bytes ends left i ≡ None → (k : ℕ) → i ≤ k → k < i + left → bad_at bytes ends k ≡ false
  unfolding bad_from
  none_bad zero i e k p q = absurd (omega arith)
  none_bad (suc left) i e k p q = go (bad_at bytes ends i) refl e (eq-or-lt_of_le p) (none_bad left (suc i))
    where
      go : (b : Bool) → bad_at bytes ends i ≡ b → cond b (Some i) (bad_from bytes ends left (suc i)) ≡ None → (i ≡ k) ⊎ (i < k)
          → (bad_from bytes ends left (suc i) ≡ None → (m : ℕ) → suc i ≤ m → m < suc i + left → bad_at bytes ends m ≡ false) → bad_at bytes ends k ≡ false
      go true g e' o ih = absurd (differ cc)
      go false g e' (inl h) ih = rw h at g
      go false g e' (inr h) ih = ih e' k h (omega arith)

  module _ (good : first_bad bytes ends ≡ None) where
    neighbours : (k : ℕ) → suc k < length ends → order_of (name_at bytes ends k) (name_at bytes ends (suc k)) ≡ Less
    unfolding first_bad bad_at not_greater
    neighbours k h =
        less_is _
        (last_false (ltb (end_of ends (suc k)) (start_of ends (suc k))) (ltb (length bytes) (end_of ends (suc k))) _ (none_bad (length ends) 0 good (suc k) (omega arith) (omega arith)))

    pub sorted : Sorted bytes ends
    sorted j zero p q = absurd (not-suc-le-zero p)
    sorted j (suc k) p q = go (eq-or-lt_of_le p) (λ l. sorted j k l (omega arith))
      where
        go : (suc j ≡ suc k) ⊎ (suc j < suc k) → (j < k → order_of (name_at bytes ends j) (name_at bytes ends k) ≡ Less) → order_of (name_at bytes ends j) (name_at bytes ends (suc k)) ≡ Less
        go (inl e) ih = let same : j ≡ k = omega arith in rw same (neighbours k q)
        go (inr l) ih = order_trans _ _ _ (ih (omega arith)) (neighbours k q)

module _ (bytes ends name : List ℕ) where
  -- how entry k's name stands to the one sought
  abbrev Stands : ℕ → Ordering → Type 0
  Stands k o = order_of (name_at bytes ends k) name ≡ o

  -- ---- the walk

  walk_none : (left i : ℕ) → ((k : ℕ) → i ≤ k → k < i + left → is_eq (order_of (name_at bytes ends k) name) ≡ false) → entry_from bytes ends name left i ≡ None
  unfolding entry_from
  walk_none zero i h = refl
  walk_none (suc left) i h = rw (entry_from, h i (omega arith) (omega arith)) (walk_none left (suc i) (λ k p q. h k (omega arith) (omega arith)))

  walk_at : (left i m : ℕ) → i ≤ m → m < i + left → Stands m Equal → ((k : ℕ) → i ≤ k → k < m → is_eq (order_of (name_at bytes ends k) name) ≡ false)
      → entry_from bytes ends name left i ≡ Some m
  unfolding entry_from
  walk_at zero i m p q e h = absurd (omega arith)
  walk_at (suc left) i m p q e h = go (eq-or-lt_of_le p) (λ l. walk_at left (suc i) m l (omega arith) e (λ k s t. h k (omega arith) t))
    where
      go : (i ≡ m) ⊎ (i < m) → (i < m → entry_from bytes ends name left (suc i) ≡ Some m)
          → cond (is_eq (order_of (name_at bytes ends i) name)) (Some i) (entry_from bytes ends name left (suc i)) ≡ Some m
      go (inl s) ih = rw (s, e)
      go (inr l) ih = rw (h i (omega arith) l) (ih l)

  -- an entry that the walk gives has the name; where it gives none, none has it
  pub walked : (left i m : ℕ) → entry_from bytes ends name left i ≡ Some m → (m < i + left) × (name_at bytes ends m ≡ name)
  unfolding entry_from
  walked zero i m e = absurd (differ cc)
  walked (suc left) i m e = go (order_of (name_at bytes ends i) name) refl e (walked left (suc i) m)
    where
      go : (o : Ordering) → Stands i o → cond (is_eq o) (Some i) (entry_from bytes ends name left (suc i)) ≡ Some m
          → (entry_from bytes ends name left (suc i) ≡ Some m → (m < suc i + left) × (name_at bytes ends m ≡ name)) → (m < i + suc left) × (name_at bytes ends m ≡ name)
      go Equal s e' ih = let same : i ≡ m = cc in (omega arith, rw same at (order_same _ _ s))
      go Less s e' ih = let r = ih e' in (omega arith, r.1)
      go Greater s e' ih = let r = ih e' in (omega arith, r.1)

  pub walked_past : (left i : ℕ) → entry_from bytes ends name left i ≡ None → (k : ℕ) → i ≤ k → k < i + left → name_at bytes ends k ≡ name → ⊥
  unfolding entry_from
  walked_past zero i e k p q n = omega arith
  walked_past (suc left) i e k p q n = go (order_of (name_at bytes ends i) name) refl e (eq-or-lt_of_le p) (walked_past left (suc i))
    where
      go : (o : Ordering) → Stands i o → cond (is_eq o) (Some i) (entry_from bytes ends name left (suc i)) ≡ None → (i ≡ k) ⊎ (i < k)
          → (entry_from bytes ends name left (suc i) ≡ None → (m : ℕ) → suc i ≤ m → m < suc i + left → name_at bytes ends m ≡ name → ⊥) → ⊥
      go Equal s e' o ih = differ cc
      go Less s e' (inl h) ih = let r = order_refl name in differ cc
      go Greater s e' (inl h) ih = let r = order_refl name in differ cc
      go Less s e' (inr h) ih = ih e' k h (omega arith) n
      go Greater s e' (inr h) ih = ih e' k h (omega arith) n

  -- ---- halving

  -- a turn
  module _ (turns lo hi : ℕ) where
    halved_over : hi ≤ lo → halved bytes ends name turns lo hi ≡ None
    unfolding halved
    halved_over h = go turns
      where
        go : (n : ℕ) → halved bytes ends name n lo hi ≡ None
        go zero = refl
        go (suc n) = rw (halved, le-ltb lo hi h)

    halved_is : lo < hi → (o : Ordering) → Stands (middle lo hi) o
        → halved bytes ends name (suc turns) lo hi ≡ turned o (halved bytes ends name turns (middle lo hi + 1) hi) (Some (middle lo hi)) (halved bytes ends name turns lo (middle lo hi))
    unfolding halved
    halved_is h o s = rw (halved, lt-ltb lo hi h, s)

  -- turns enough find the same
  halved_same : (m n lo hi : ℕ) → hi - lo ≤ m → hi - lo ≤ n → halved bytes ends name m lo hi ≡ halved bytes ends name n lo hi
  halved_same zero n lo hi p q = halved_over zero lo hi (omega arith) ∙ sym (halved_over n lo hi (omega arith))
  halved_same (suc m) zero lo hi p q = halved_over (suc m) lo hi (omega arith) ∙ sym (halved_over zero lo hi (omega arith))
  halved_same (suc m) (suc n) lo hi p q = go (dec_lt lo hi) (halved_same m n)
    where
      go : Dec (lo < hi) → ((l h : ℕ) → h - l ≤ m → h - l ≤ n → halved bytes ends name m l h ≡ halved bytes ends name n l h)
          → halved bytes ends name (suc m) lo hi ≡ halved bytes ends name (suc n) lo hi
      go (no h) ih = halved_over (suc m) lo hi (omega arith) ∙ sym (halved_over (suc n) lo hi (omega arith))
      go (yes h) ih =
          halved_is m lo hi h _ refl
          ∙ rw (ih (middle lo hi + 1) hi (omega arith) (omega arith), ih lo (middle lo hi) (omega arith) (omega arith)) (sym (halved_is n lo hi h _ refl))

  -- what is found from lo up to hi, by the name in the middle
  module _ (lo hi : ℕ) (h : lo < hi) where
    turn : (o : Ordering) → Stands (middle lo hi) o
        → halved bytes ends name (hi - lo) lo hi
        ≡ turned o (halved bytes ends name (hi - lo - 1) (middle lo hi + 1) hi) (Some (middle lo hi)) (halved bytes ends name (hi - lo - 1) lo (middle lo hi))
    turn o s =
        let some : hi - lo ≡ suc (hi - lo - 1) = omega arith in
        ap (λ (n : ℕ). halved bytes ends name n lo hi) some ∙ halved_is (hi - lo - 1) lo hi h o s

    pub search_up : Stands (middle lo hi) Less → halved bytes ends name (hi - lo) lo hi ≡ halved bytes ends name (hi - (middle lo hi + 1)) (middle lo hi + 1) hi
    search_up s = turn Less s ∙ halved_same (hi - lo - 1) (hi - (middle lo hi + 1)) (middle lo hi + 1) hi (omega arith) (omega arith)

    pub search_down : Stands (middle lo hi) Greater → halved bytes ends name (hi - lo) lo hi ≡ halved bytes ends name (middle lo hi - lo) lo (middle lo hi)
    search_down s = turn Greater s ∙ halved_same (hi - lo - 1) (middle lo hi - lo) lo (middle lo hi) (omega arith) (omega arith)

    pub search_here : Stands (middle lo hi) Equal → halved bytes ends name (hi - lo) lo hi ≡ Some (middle lo hi)
    search_here s = turn Equal s

  pub search_over : (lo hi : ℕ) → hi ≤ lo → halved bytes ends name (hi - lo) lo hi ≡ None
  search_over lo hi h = halved_over (hi - lo) lo hi h

  pub search_starts : halved bytes ends name (length ends - 0) 0 (length ends) ≡ searched bytes ends name
  unfolding searched
  search_starts = let e : length ends - 0 ≡ length ends = omega arith in rw e

  -- ---- over a good table

  -- each name before lo is less than the one sought, and each from hi on is greater
  record Bracket (lo hi : ℕ) : Type 0 where
    lo_le : lo ≤ hi
    hi_le : hi ≤ length ends
    below : (k : ℕ) → k < lo → Stands k Less
    above : (k : ℕ) → hi ≤ k → k < length ends → Stands k Greater

  module _ (up : Sorted bytes ends) where
    module _ {lo hi : ℕ} (b : Bracket lo hi) (mid : ℕ) (p : lo ≤ mid) (q : mid < hi) where
      bracket_up : Stands mid Less → Bracket (mid + 1) hi
      bracket_up e = record { lo_le = omega arith; hi_le = b.hi_le; below = λ k h. go k (eq-or-lt_of_le h); above = b.above }
        where
          go : (k : ℕ) → (suc k ≡ mid + 1) ⊎ (suc k < mid + 1) → Stands k Less
          go k (inl h) = let same : k ≡ mid = omega arith in rw same e
          go k (inr h) = order_trans _ _ _ (up k mid (omega arith) (omega (arith, b.hi_le))) e

      bracket_down : Stands mid Greater → Bracket lo mid
      bracket_down e = record { lo_le = p; hi_le = omega (arith, b.hi_le); below = b.below; above = λ k h l. go k l (eq-or-lt_of_le h) }
        where
          go : (k : ℕ) → k < length ends → (mid ≡ k) ⊎ (mid < k) → Stands k Greater
          go k l (inl h) = rw h at e
          go k l (inr h) =
              order_flip name (name_at bytes ends k)
              ∙ ap ordering_reverse (order_trans _ _ _ (order_flip (name_at bytes ends mid) name ∙ ap ordering_reverse e) (up mid k h l))

    -- an empty bracket: no name is the one sought
    nowhere : (lo hi : ℕ) → Bracket lo hi → hi ≤ lo → entry_of bytes ends name ≡ None
    unfolding entry_of
    nowhere lo hi b h = walk_none (length ends) 0 (λ k p q. go k (omega arith) (dec_lt k lo))
      where
        go : (k : ℕ) → k < length ends → Dec (k < lo) → is_eq (order_of (name_at bytes ends k) name) ≡ false
        go k l (yes s) = ap is_eq (b.below k s)
        go k l (no s) = ap is_eq (b.above k (omega arith) l)

    -- the middle name is the one sought, and no name before it is
    pub just_here : (mid : ℕ) → mid < length ends → Stands mid Equal → entry_of bytes ends name ≡ Some mid
    unfolding entry_of
    just_here mid h e =
        let is : name_at bytes ends mid ≡ name = order_same _ _ e in
        walk_at (length ends) 0 mid (omega arith) (omega arith) e (λ k p q. ap is_eq (ap (order_of (name_at bytes ends k)) (sym is) ∙ up k mid q h))

    halved_finds : (turns lo hi : ℕ) → hi - lo ≤ turns → Bracket lo hi → halved bytes ends name turns lo hi ≡ entry_of bytes ends name
    halved_finds zero lo hi p b = halved_over zero lo hi (omega arith) ∙ sym (nowhere lo hi b (omega arith))
    halved_finds (suc turns) lo hi p b = go (dec_lt lo hi) (halved_finds turns)
      where
        go : Dec (lo < hi) → ((l h : ℕ) → h - l ≤ turns → Bracket l h → halved bytes ends name turns l h ≡ entry_of bytes ends name)
            → halved bytes ends name (suc turns) lo hi ≡ entry_of bytes ends name
        go (no h) ih = halved_over (suc turns) lo hi (omega arith) ∙ sym (nowhere lo hi b (omega arith))
        go (yes h) ih = by (order_of (name_at bytes ends (middle lo hi)) name) refl
          where
            by : (o : Ordering) → Stands (middle lo hi) o → halved bytes ends name (suc turns) lo hi ≡ entry_of bytes ends name
            by Less s = halved_is turns lo hi h Less s ∙ ih (middle lo hi + 1) hi (omega arith) (bracket_up b (middle lo hi) (omega arith) (omega arith) s)
            by Equal s = halved_is turns lo hi h Equal s ∙ sym (just_here (middle lo hi) (omega (arith, b.hi_le)) s)
            by Greater s = halved_is turns lo hi h Greater s ∙ ih lo (middle lo hi) (omega arith) (bracket_down b (middle lo hi) (omega arith) (omega arith) s)

    pub searched_walked : searched bytes ends name ≡ entry_of bytes ends name
    unfolding searched
    searched_walked = halved_finds (length ends) 0 (length ends) (omega arith) (record { lo_le = omega arith; hi_le = omega arith; below = λ k h. absurd (omega arith); above = λ k h l. absurd (omega arith) })
