-- The laws of a candidate and of the search for one: one for each way that the code goes.
-- Assumes nothing.
use Prim.Native.Nat.{ℕ, zero, suc, ◌+◌, ◌-◌, ◌<◌, ◌≤◌}
use mathlib.Core.Path.{◌≡◌, refl, sym, ◌∙◌}
use mathlib.Core.List.{List}
use mathlib.Core.Bool.{Bool, true, false, not, ◌||◌, false≢true}
use Rattle.std.specs.Prelude.{Option, None, Some, is_some}
use Rattle.std.specs.Option.{option_or}
use native.Mathlib.Omega.{arith}
use lib.Dec.{ltb, eqb}
use lib.ListN.{length, get_or, drop, length-drop}
use lib.Seq.{get_or-drop}
use Rattle.std.proofs.lemmas.List.{take_all}
use borrow.Author.Tests.{eq-eqb, ne_eqb, eqb-true, ltb-false}
use Rattle.std.specs.List.{position, position_or_len, list_any, range_with_len, slice_range}
use Rattle.std.proofs.lemmas.List.Quantifiers.{position-Some}
use Rattle.std.proofs.lemmas.List.Sums.{prefix_len_passes}
use Rattle.basics.specs.declared.Span.{Span}
use Rattle.byte_rules.specs.Classes.{is_credit_space}
use Rattle.look.proofs.Laws.{byte_test}
use Rattle.scans.specs.Plain.{Lacks, Lacking}
use Rattle.scans.proofs.Laws.{clash}
use Rattle.scans.specs.Marks.{lparen}
use Rattle.parentheticals.specs.Fields.{phrase_at, author_end}
use Rattle.parentheticals.specs.Matching.{head_at, notice_at, tail_at, credited, noticed, rest_at, credit_at, match_at, first_of, next_from, stands_in}
use Rattle.parentheticals.specs.Inner.{Passed, OpensAt}
use Rattle.parentheticals.specs.declared.Found.{Found}
use Rattle.parentheticals.specs.declared.Parenthetical.{Parenthetical}
use Rattle.parentheticals.specs.declared.matching.Credit.{Credit}
use Rattle.parentheticals.specs.declared.matching.Closing.{Closing}
use Rattle.parentheticals.proofs.Inside.{never}
use Rattle.parentheticals.proofs.Authors.{Way}

module _ (bars : ℕ → Bool) (s : List ℕ) where
  -- ---- from an author's start on

  module _ (a : ℕ) where
    pub rest_open : author_end bars s a ≡ None → rest_at bars s a ≡ None
    unfolding rest_at
    rest_open e = rw e

    pub rest_tail : (b : ℕ) (t : Option Closing) → author_end bars s a ≡ Some b → tail_at s b ≡ t → rest_at bars s a ≡ t
    unfolding rest_at
    rest_tail b t e f = rw (e, f)

  -- no field that starts behind a space from `start` to i makes a credit
  abbrev pub Barren : ℕ → ℕ → Type 0
  Barren start i = (j : ℕ) → start ≤ j → j ≤ i → is_credit_space (get_or s (j - 1) 0) ≡ true → rest_at bars s j ≡ None

  -- the last field, if one was left
  abbrev pub LeftBarren : Option Span → Type 0
  LeftBarren None = Unit
  LeftBarren (Some field) = Barren field.start field.end

  pub barren_way : (start i : ℕ) → Way bars s start i → rest_at bars s i ≡ None → Barren start i
  unfolding rest_at
  barren_way start i way e j low high spaced = rw (way j low high spaced) e

  -- ---- the candidate at i

  module _ (i : ℕ) (h : i < length s) where
    pub no_opening : (get_or s i 0 ≡ lparen → ⊥) → match_at bars s i ≡ None
    unfolding match_at
    no_opening n = rw (byte_test s i lparen h, ne_eqb (get_or s i 0) lparen n)

    module _ (p : get_or s i 0 ≡ lparen) where
      pub is_notice : (k : Parenthetical) (e : ℕ) → notice_at s (i + 1) ≡ Some (k, e) → match_at bars s i ≡ Some (noticed i k e)
      unfolding match_at
      is_notice k e n = rw (byte_test s i lparen h, eq-eqb (get_or s i 0) lparen p, n)

      module _ (n : notice_at s (i + 1) ≡ None) where
        pub no_head : head_at s (i + 1) ≡ None → match_at bars s i ≡ None
        unfolding match_at credit_at
        no_head d = rw (byte_test s i lparen h, eq-eqb (get_or s i 0) lparen p, n, d)

        module _ (k : Credit) (a : ℕ) (d : head_at s (i + 1) ≡ Some (k, a)) where
          pub no_rest : rest_at bars s a ≡ None → match_at bars s i ≡ None
          unfolding match_at credit_at
          no_rest e = rw (byte_test s i lparen h, eq-eqb (get_or s i 0) lparen p, n, d, e)

          pub is_credit : (t : Closing) → rest_at bars s a ≡ Some t → match_at bars s i ≡ Some (credited i k a t)
          unfolding match_at credit_at
          is_credit t e = rw (byte_test s i lparen h, eq-eqb (get_or s i 0) lparen p, n, d, e)

-- ---- the search for the first

module _ {A : Type 0} (at : ℕ → Option A) (n i : ℕ) where
  pub first_none : n ≤ i → first_of at (n - i) i ≡ None
  unfolding first_of
  first_none h = let e : n - i ≡ 0 = omega arith in rw e

  left : i < n → n - i ≡ suc (n - (i + 1))
  left h = omega arith

  pub first_miss : i < n → at i ≡ None → first_of at (n - i) i ≡ first_of at (n - (i + 1)) (i + 1)
  unfolding first_of
  first_miss h e = rw (left h, e)

  pub first_hit : i < n → (a : A) → at i ≡ Some a → first_of at (n - i) i ≡ Some a
  unfolding first_of
  first_hit h a e = rw (left h, e)

module _ (bars : ℕ → Bool) (s : List ℕ) (i : ℕ) where
  pub next_none : length s ≤ i → next_from bars s i ≡ None
  unfolding next_from
  next_none h = first_none (match_at bars s) (length s) i h

  pub next_miss : i < length s → match_at bars s i ≡ None → next_from bars s i ≡ next_from bars s (i + 1)
  unfolding next_from
  next_miss h e = first_miss (match_at bars s) (length s) i h e

  pub next_hit : i < length s → (f : Found) → match_at bars s i ≡ Some f → next_from bars s i ≡ Some f
  unfolding next_from
  next_hit h f e = first_hit (match_at bars s) (length s) i h f e

-- ---- bytes that open nothing are stepped over

module _ (s : List ℕ) where
  pub passed_one : {i r : ℕ} → Passed s i r → r < length s → (get_or s r 0 ≡ lparen → ⊥) → Passed s i (r + 1)
  passed_one {i} {r} p h n = record { same = λ bars. p.same bars ∙ next_miss bars s r h (no_opening bars s r h n); onward = omega (arith, p.onward) }

  passed_some : (k : ℕ) {i r : ℕ} → Passed s i r → r + k ≤ length s → Lacks s r k lparen → Passed s i (r + k)
  passed_some zero {i} {r} p h l = let z : r + 0 ≡ r = omega arith in rw z p
  passed_some (suc k) {i} {r} p h l =
      let z : r + k + 1 ≡ r + suc k = omega arith in
      let before = passed_some k p (omega arith) (λ j a. l j (omega arith)) in
      rw z at (passed_one before (omega arith) (λ e. clash (l k (omega arith)) (eq-eqb (get_or s (r + k) 0) lparen e)))

  pub passed_eight : {i r : ℕ} → Passed s i r → Lacking s r lparen → Passed s i (r + 8)
  passed_eight p l = passed_some 8 p l.within l.none

-- the search may go on where it is
pub passed_none : (s : List ℕ) (i : ℕ) → Passed s i i
passed_none s i = record { same = λ bars. refl; onward = omega arith }

-- where the next `(` is looked for from r on, in the rest of the text
module _ (s : List ℕ) (i r : ℕ) (p : Passed s i r) where
  passed_run : (k : ℕ) → r + k ≤ length s → ((j : ℕ) → j < k → eqb (get_or (drop r s) j 0) lparen ≡ false) → Passed s i (r + k)
  passed_run k h l = passed_some s k p h (λ j a. rw (get_or-drop r s j 0) at (l j a))

  rest_lem : slice_range s r (length s) ≡ drop r s
  rest_lem = take_all (length s - r) (drop r s) (omega (arith, length-drop r s))

  pub opens_at : (rest : List ℕ) → rest ≡ slice_range s r (length s) → (k : ℕ) → Some k ≡ position (λ b. eqb b lparen) rest → OpensAt s i (r + k)
  opens_at rest is k e =
      let d = length-drop r s in
      let here = is ∙ rest_lem in
      let q = position-Some (λ b. eqb b lparen) (drop r s) k 0 (sym (rw here at e)) in
      record {
        passed = passed_run k (omega (arith, q.0, d)) q.2;
        inside = omega (arith, q.0, d);
        opened = eqb-true _ _ (rw (get_or-drop r s k 0) at q.1);
      }

  pub opens_past : length s ≤ r → (bars : ℕ → Bool) → next_from bars s i ≡ None
  opens_past h bars = p.same bars ∙ next_none bars s r h

  -- how many bytes stand before the next `(`
  abbrev first : ℕ
  first = position_or_len (λ b. eqb b lparen) (drop r s)

  none_first : (t : Bool) → ltb first (length (drop r s)) ≡ t → position (λ b. eqb b lparen) (drop r s) ≡ None → length (drop r s) ≤ first
  none_first true t e = never {b = first} (sym e ∙ rw t)
  none_first false t e = ltb-false _ _ t

  not_lem : (t : Bool) → not t ≡ true → t ≡ false
  not_lem true q = absurd (false≢true q)
  not_lem false q = refl

  pub opens_none : r ≤ length s → (rest : List ℕ) → rest ≡ slice_range s r (length s) → None ≡ position (λ b. eqb b lparen) rest → (bars : ℕ → Bool) → next_from bars s i ≡ None
  opens_none h rest is e bars =
      let d = length-drop r s in
      let here = is ∙ rest_lem in
      let n = none_first (ltb first (length (drop r s))) refl (sym (rw here at e)) in
      let none = λ (j : ℕ) (a : j < length s - r). not_lem _ (prefix_len_passes (λ b. not (eqb b lparen)) (drop r s) j 0 (omega arith)) in
      (passed_run (length s - r) (omega arith) none).same bars ∙ next_none bars s (r + (length s - r)) (omega arith)

-- the candidate at an opening: from `at` on no parenthetical begins before it
module _ (bars : ℕ → Bool) (s : List ℕ) (from : ℕ) {at opening : ℕ} (o : OpensAt s at opening) (searched : next_from bars s at ≡ next_from bars s from) where
  -- nothing matches there: the search goes on behind it
  pub candidate_left : match_at bars s opening ≡ None → next_from bars s (opening + 1) ≡ next_from bars s from
  candidate_left e = sym (next_miss bars s opening o.inside e) ∙ sym (o.passed.same bars) ∙ searched

  pub candidate_found : (f : Found) → match_at bars s opening ≡ Some f → Some f ≡ next_from bars s from
  candidate_found f e = sym (next_hit bars s opening o.inside f e) ∙ sym (o.passed.same bars) ∙ searched

-- ---- a phrase anywhere

module _ (w s : List ℕ) (i : ℕ) where
  pub stands_miss : i < length s → phrase_at w s i ≡ None → stands_in w s i ≡ stands_in w s (i + 1)
  unfolding stands_in
  stands_miss h e = rw (first_miss (phrase_at w s) (length s) i h e)

  pub stands_hit : i < length s → (j : ℕ) → phrase_at w s i ≡ Some j → stands_in w s i ≡ true
  unfolding stands_in
  stands_hit h j e = rw (first_hit (phrase_at w s) (length s) i h j e)

-- whether any of k places from i on has one is whether there is a first
module _ {A : Type 0} (at : ℕ → Option A) where
  pub any_is : (k i : ℕ) → list_any (λ j. is_some (at j)) (range_with_len i k) ≡ is_some (first_of at k i)
  unfolding first_of
  any_is zero i = refl
  any_is (suc k) i = go (at i) (any_is k (i + 1))
    where
      go : (o : Option A) → list_any (λ j. is_some (at j)) (range_with_len (i + 1) k) ≡ is_some (first_of at k (i + 1))
          → (is_some o || list_any (λ j. is_some (at j)) (range_with_len (i + 1) k)) ≡ is_some (option_or o (first_of at k (i + 1)))
      go (Some a) e = refl
      go None e = e
