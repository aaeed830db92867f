-- Texts that agree at a place. A look has one outcome in two texts that agree at the places it sees; the law of each look names them.
-- Assumes nothing.
use Prim.Native.Nat.{ℕ, ◌+◌, ◌-◌, ◌≤◌, ◌<◌}
use mathlib.Core.Bool.{Bool, true, false}
use mathlib.Core.List.{List, [], ◌∷◌}
use mathlib.Core.Path.{◌≡◌, refl, ap, sym, ◌∙◌}
use native.Mathlib.Nat.{le_refl}
use native.Mathlib.Omega.{arith}
use borrow.Author.Tests.{lt-ltb, le-ltb, ltb-true, ltb-false}
use lib.Dec.{ltb}
use lib.ListN.{length, get_or, take, drop, length-take, length-drop, get_or-eq_default}
use lib.Seq.{length-take-le, get_or-take, get_or-drop, ext_get_or}
use Rattle.look.specs.Look.{holds_at, byte_at, blank_at, alphanumeric_at, closer_at, italic_opener_at, doubled_at, word_at}

-- at the place i both texts have the same byte, or both have none
pub record SameAt (s t : List ℕ) (i : ℕ) : Type 0 where
  pub inside : ltb i (length s) ≡ ltb i (length t)
  pub byte : get_or s i 0 ≡ get_or t i 0

-- a place inside both, and one past both
module _ {s t : List ℕ} {i : ℕ} where
  pub same_inside : i < length s → i < length t → get_or s i 0 ≡ get_or t i 0 → SameAt s t i
  same_inside h k e = record { inside = lt-ltb i (length s) h ∙ sym (lt-ltb i (length t) k); byte = e }

  pub same_past : length s ≤ i → length t ≤ i → SameAt s t i
  same_past h k =
      record {
        inside = le-ltb i (length s) h ∙ sym (le-ltb i (length t) k);
        byte = get_or-eq_default s 0 h ∙ sym (get_or-eq_default t 0 k);
      }

-- the texts agree at each place from x on and before y
abbrev pub SameIn : List ℕ → List ℕ → ℕ → ℕ → Type 0
SameIn s t x y = (i : ℕ) → x ≤ i → i < y → SameAt s t i

-- ---- the law of each look

module _ {s t : List ℕ} {i : ℕ} (here : SameAt s t i) where
  pub holds_same : (test : ℕ → Bool) → holds_at test s i ≡ holds_at test t i
  unfolding holds_at
  holds_same test = rw (here.inside, here.byte)

  pub byte_same : (b : ℕ) → byte_at s i b ≡ byte_at t i b
  unfolding byte_at
  byte_same b = holds_same _

  pub blank_same : blank_at s i ≡ blank_at t i
  unfolding blank_at
  blank_same = holds_same _

  pub alphanumeric_same : alphanumeric_at s i ≡ alphanumeric_at t i
  unfolding alphanumeric_at
  alphanumeric_same = holds_same _

  pub closer_same : closer_at s i ≡ closer_at t i
  unfolding closer_at
  closer_same = holds_same _

  pub opener_same : italic_opener_at s i ≡ italic_opener_at t i
  unfolding italic_opener_at
  opener_same = holds_same _

pub doubled_same : {s t : List ℕ} {i : ℕ} → SameAt s t i → SameAt s t (i + 1) → (b : ℕ) → doubled_at s i b ≡ doubled_at t i b
unfolding doubled_at
doubled_same here next b = rw (byte_same here b, byte_same next b)

pub word_same : {s t : List ℕ} (w : List ℕ) (i : ℕ) → SameIn s t i (i + length w) → word_at s i w ≡ word_at t i w
unfolding word_at
word_same [] i same = refl
word_same (b ∷ bs) i same =
    rw (byte_same (same i (omega arith) (omega arith)) b, word_same bs (i + 1) (λ j h k. same j (omega arith) (omega arith)))

-- ---- parts of two texts: they are equal just where the texts agree at their places

module _ (s t : List ℕ) (x y : ℕ) (in_s : y ≤ length s) (in_t : y ≤ length t) where
  pub part_same : SameIn s t x y → take (y - x) (drop x s) ≡ take (y - x) (drop x t)
  part_same same =
      let l : length (take (y - x) (drop x s)) ≡ y - x = simp (length-take, length-drop) (omega arith) in
      let m : length (take (y - x) (drop x t)) ≡ y - x = simp (length-take, length-drop) (omega arith) in
      ext_get_or 0 _ _ (l ∙ sym m)
      (λ i u.
      let v : i < y - x = omega arith in
      rw (get_or-take (y - x) (drop x s) i 0 v, get_or-take (y - x) (drop x t) i 0 v, get_or-drop x s i 0, get_or-drop x t i 0)
      (same (x + i) (omega arith) (omega arith)).byte)

  pub same_part : take (y - x) (drop x s) ≡ take (y - x) (drop x t) → SameIn s t x y
  same_part e i h k =
      let u : i - x < y - x = omega arith in
      let z : x + (i - x) ≡ i = omega arith in
      same_inside (omega arith) (omega arith)
      (rw (get_or-take (y - x) (drop x s) (i - x) 0 u, get_or-take (y - x) (drop x t) (i - x) 0 u, get_or-drop x s (i - x) 0, get_or-drop x t (i - x) 0, z)
      at (ap (λ (l : List ℕ). get_or l (i - x) 0) e))

-- ---- texts of one length that agree from a place of them on

pub record Alike (s t : List ℕ) (a : ℕ) : Type 0 where
  pub fits : a ≤ length s
  pub long : length s ≡ length t
  pub same : (i : ℕ) → a ≤ i → get_or s i 0 ≡ get_or t i 0

module _ {s t : List ℕ} {a : ℕ} (g : Alike s t a) where
  pub alike_at : (i : ℕ) → a ≤ i → SameAt s t i
  alike_at i h = record { inside = rw g.long; byte = g.same i h }

  pub alike_here : SameAt s t a
  alike_here = alike_at a (le_refl a)

  pub alike_on : (i : ℕ) → a ≤ i → i ≤ length s → Alike s t i
  alike_on i h k = record { fits = k; long = g.long; same = λ j l. g.same j (omega arith) }

  pub drop_same : drop a s ≡ drop a t
  drop_same =
      let l : length (drop a s) ≡ length (drop a t) = simp length-drop (rw g.long) in
      ext_get_or 0 _ _ l (λ i u. rw (get_or-drop a s i 0, get_or-drop a t i 0) (g.same (a + i) (omega arith)))

-- the texts up to y, where they agree from x up to y
pub cut_alike : (s t : List ℕ) (x y : ℕ) → x ≤ y → y ≤ length s → y ≤ length t → SameIn s t x y → Alike (take y s) (take y t) x
cut_alike s t x y order in_s in_t same =
    let l = length-take-le y s in_s in
    let m = length-take-le y t in_t in
    record { fits = omega arith; long = l ∙ sym m; same = λ i h. go i h (ltb i y) refl }
  where
    go : (i : ℕ) → x ≤ i → (b : Bool) → ltb i y ≡ b → get_or (take y s) i 0 ≡ get_or (take y t) i 0
    go i h true b =
        let u : i < y = ltb-true i y b in
        get_or-take y s i 0 u ∙ (same i h u).byte ∙ sym (get_or-take y t i 0 u)
    go i h false b =
        let u : y ≤ i = ltb-false i y b in
        get_or-eq_default (take y s) 0 (omega (arith, length-take-le y s in_s))
        ∙ sym (get_or-eq_default (take y t) 0 (omega (arith, length-take-le y t in_t)))
