-- Laws of `line_of`: it never falls, it grows by one exactly behind an LF, it adds up between two places, and where it fits a word.
-- Assumes nothing.
use mathlib.Core.Path.{◌≡◌, refl, sym, ap, ◌∙◌}
use mathlib.Core.Bool.{Bool, true, false, not, ◌&&◌}
use Prim.Native.Nat.{ℕ, zero, suc, ◌+◌, ◌-◌, ◌≤◌, ◌<◌, min}
use native.Mathlib.Omega.{arith}
use native.Mathlib.Numerals.{add-one}
use mathlib.Core.List.{List, [], ◌∷◌, ◌++◌}
use lib.Dec.{eqb, ltb}
use Rattle.basics.proofs.Laws.{differ}
use Rattle.std.specs.Prelude.{sum, map, cond, Option, Some, None, unwrap_or}
use Rattle.std.specs.List.{sum_by, position_or_len}
use Rattle.std.proofs.lemmas.List.Sums.{sum-map, sum_by-cons, prefix_len-le-length, prefix_len_stops}
use lib.ListN.{length, take, drop, get_or, length-take}
use lib.Seq.{take-suc, take-add, take_all, take-length, take-nil}
use borrow.Author.Tests.{eqb-true, eqb-false, eq-eqb, ne_eqb, ltb-false, not-true, not-false}
use Rattle.scans.specs.Marks.{lf}
use Rattle.records.specs.Answer.{longest}
use Rattle.lines.specs.Lines.{lf_in, line_of, line_word}

-- ---- a byte

module _ (c : ℕ) where
  pub bit_is : c ≡ lf → lf_in (c ∷ []) ≡ 1
  unfolding lf_in
  bit_is e = simp (eq-eqb _ _ e)

  pub bit_not : (c ≡ lf → ⊥) → lf_in (c ∷ []) ≡ 0
  unfolding lf_in
  bit_not e = simp (ne_eqb _ _ e)

  bit_one : lf_in (c ∷ []) ≡ 1 → c ≡ lf
  unfolding lf_in
  bit_one = go (eqb c lf) refl
    where
      go : (b : Bool) → eqb c lf ≡ b → lf_in (c ∷ []) ≡ 1 → c ≡ lf
      go true b e = eqb-true _ _ b
      go false b e = let z : ◌≡◌ {A = ℕ} 0 1 = rw b at e in absurd (omega arith)

  bit_small : lf_in (c ∷ []) ≤ 1
  unfolding lf_in
  bit_small = go (eqb c lf) refl
    where
      go : (b : Bool) → eqb c lf ≡ b → lf_in (c ∷ []) ≤ 1
      go true b = rw b (omega arith)
      go false b = rw b (omega arith)

-- ---- a text

-- as the code counts them
by_sum : (s : List ℕ) → sum_by (λ c. cond (eqb c lf) 1 0) s ≡ lf_in s
unfolding lf_in
by_sum [] = refl
by_sum (c ∷ s) = sum_by-cons _ c s ∙ rw (by_sum s)

pub lf_sum : (s : List ℕ) (n : ℕ) → n ≡ sum (map (λ c. cond (eqb c lf) 1 0) s) → n ≡ lf_in s
lf_sum s n e = e ∙ sum-map _ s ∙ by_sum s

pub in_append : (s t : List ℕ) → lf_in (s ++ t) ≡ lf_in s + lf_in t
unfolding lf_in
in_append [] t = omega arith
in_append (c ∷ s) t = omega (arith, in_append s t)

pub in_few : (s : List ℕ) → lf_in s ≤ length s
unfolding lf_in
in_few [] = omega arith
in_few (c ∷ s) = omega (arith, bit_small c, in_few s)

pub lf_nothing : (s : List ℕ) → length s ≡ 0 → lf_in s ≡ 0
lf_nothing s z = omega (arith, in_few s)

-- one byte more, as the code finds that there is no LF
pub none_more : (s : List ℕ) (c : ℕ) (clear more : Bool) → (clear ≡ true → lf_in s ≡ 0) → more ≡ (clear && not (eqb c lf)) → more ≡ true → lf_in (s ++ c ∷ []) ≡ 0
none_more s c true more f e t = omega (arith, in_append s (c ∷ []), f refl, bit_not c (eqb-false c lf (not-true (eqb c lf) (sym e ∙ t))))
none_more s c false more f e t = absurd (differ cc)

-- the first LF, as the code finds it
abbrev pub first_lf : List ℕ → ℕ
first_lf s = position_or_len (λ c. eqb c lf) s

pub first_clear : (s : List ℕ) → lf_in (take (first_lf s) s) ≡ 0
unfolding lf_in
first_clear [] = refl
first_clear (c ∷ s) = go (eqb c lf) refl (first_clear s)
  where
    go : (b : Bool) → eqb c lf ≡ b → lf_in (take (first_lf s) s) ≡ 0 → lf_in (take (cond (not b) (1 + first_lf s) 0) (c ∷ s)) ≡ 0
    go true b z = refl
    go false b z = let e : 1 + first_lf s ≡ suc (first_lf s) = omega arith in rw (e, b) (omega (arith, z))

pub first_inside : (s : List ℕ) → first_lf s ≤ length s
first_inside s = prefix_len-le-length _ s

pub first_ends : (s : List ℕ) → first_lf s < length s → get_or s (first_lf s) 0 ≡ lf
first_ends s h = eqb-true _ _ (not-false (eqb (get_or s (first_lf s) 0) lf) (prefix_len_stops _ s 0 h))

pub first_is : (s : List ℕ) (r : Option ℕ) (n : ℕ) → r ≡ cond (ltb (first_lf s) (length s)) (Some (first_lf s)) None → n ≡ unwrap_or r (length s) → n ≡ first_lf s
first_is s r n e f = go (ltb (first_lf s) (length s)) refl
  where
    go : (b : Bool) → ltb (first_lf s) (length s) ≡ b → n ≡ first_lf s
    go true b = f ∙ rw (e, b)
    go false b = f ∙ rw (e, b) (omega (arith, ltb-false _ _ b, first_inside s))

-- ---- the line of a place

module _ (buf : List ℕ) where
  pub line_start : line_of buf 0 ≡ 1
  unfolding line_of lf_in
  line_start = refl

  -- the LF bytes between two places are the difference of their lines
  pub line_between : (a n : ℕ) → line_of buf (a + n) ≡ line_of buf a + lf_in (take n (drop a buf))
  unfolding line_of
  line_between a n = rw take-add (omega (arith, in_append (take a buf) (take n (drop a buf))))

  -- it never falls, and grows by at most the distance
  pub line_grows : (a b : ℕ) → a ≤ b → (line_of buf a ≤ line_of buf b) × (line_of buf b ≤ line_of buf a + (b - a))
  line_grows a b h =
      let n = b - a in
      let e : a + n ≡ b = omega arith in
      let f : line_of buf b ≡ line_of buf a + lf_in (take n (drop a buf)) = ap (line_of buf) (sym e) ∙ line_between a n in
      let few : lf_in (take n (drop a buf)) ≤ min n (length (drop a buf)) = rw length-take at (in_few (take n (drop a buf))) in
      (omega arith, omega arith)

  -- one byte on
  pub line_step : (i : ℕ) → i < length buf → line_of buf (i + 1) ≡ line_of buf i + lf_in (get_or buf i 0 ∷ [])
  unfolding line_of
  line_step i h = rw (add-one, take-suc buf i 0 h) (omega (arith, in_append (take i buf) (get_or buf i 0 ∷ [])))

  -- it grows by one behind an LF, and only there
  pub line_behind : (i : ℕ) → i < length buf → get_or buf i 0 ≡ lf → line_of buf (i + 1) ≡ line_of buf i + 1
  line_behind i h e = omega (arith, line_step i h, bit_is (get_or buf i 0) e)

  pub line_same : (i : ℕ) → i < length buf → (get_or buf i 0 ≡ lf → ⊥) → line_of buf (i + 1) ≡ line_of buf i
  line_same i h e = omega (arith, line_step i h, bit_not (get_or buf i 0) e)

  pub line_only : (i : ℕ) → i < length buf → line_of buf (i + 1) ≡ line_of buf i + 1 → get_or buf i 0 ≡ lf
  line_only i h e = bit_one (get_or buf i 0) (omega (arith, line_step i h))

  -- past the buffer it is the line of its end, so a place cut to the buffer keeps its line
  pub line_past : (p : ℕ) → length buf ≤ p → line_of buf p ≡ line_of buf (length buf)
  unfolding line_of
  line_past p h = rw (take_all p buf h, take-length)

  pub line_cut : (p : ℕ) → line_of buf (min p (length buf)) ≡ line_of buf p
  unfolding line_of
  line_cut p = rw (← length-take p buf) (ap (λ (s : List ℕ). 1 + lf_in s) (cut buf p))
    where
      cut : (s : List ℕ) (n : ℕ) → take (length (take n s)) s ≡ take n s
      cut [] n = take-nil (length (take n [])) ∙ sym (take-nil n)
      cut (c ∷ s) zero = refl
      cut (c ∷ s) (suc n) = ap (λ (t : List ℕ). c ∷ t) (cut s n)

  -- the LF bytes from one place on to another, cut to the buffer
  pub line_to : (a p : ℕ) (s : List ℕ) → a ≤ min p (length buf) → s ≡ take (min p (length buf) - a) (drop a buf) → line_of buf a + lf_in s ≡ line_of buf p
  line_to a p s h e =
      let end = min p (length buf) in
      let z : a + (end - a) ≡ end = omega arith in
      rw e (sym (line_between a (end - a)) ∙ ap (line_of buf) z ∙ line_cut p)

  -- the line of no place is past that of the end
  pub line_within : (p : ℕ) → line_of buf p ≤ length buf + 1
  unfolding line_of
  line_within p = omega (arith, in_few (take p buf), length-take p buf)

  -- ---- where it fits a word

  -- at most p + 1
  pub line_most : (p : ℕ) → line_of buf p ≤ p + 1
  line_most p = omega (arith, line_grows 0 p (omega arith), line_start)

  -- the line of a place fits a word
  abbrev pub Fits : ℕ → Type 0
  Fits p = line_of buf p ≤ longest

  -- a byte of the buffer stands there
  pub fits_inside : (p : ℕ) → p < length buf → length buf ≤ longest → Fits p
  fits_inside p h l = omega (arith, line_most p)

  -- or a byte that is no LF stands before it
  pub fits_behind : (k p : ℕ) → k < p → p ≤ length buf → length buf ≤ longest → (get_or buf k 0 ≡ lf → ⊥) → Fits p
  fits_behind k p h g l e = omega (arith, line_most k, line_same k (omega arith) e, line_grows (k + 1) p (omega arith))

  pub word_is : (p : ℕ) → Fits p → line_word buf p ≡ line_of buf p
  unfolding line_word
  word_is p h = omega arith
