-- A room that is filled with its pattern: a turn (pattern_step), what stands before it (pattern_back), and the end (pattern_all).
-- Assumes nothing.
use Rattle.std.proofs.Common.{◌≡◌, ℕ, zero, suc, ◌+◌, ◌-◌, ◌<◌, List, length, [], ◌∷◌, take, arith, refl, sym, ap, ◌∙◌}
use native.Mathlib.Numerals.{add-one}
use lib.ListN.{set, get_or, get_or-append, length-append}
use lib.Seq.{take-suc-set, take_all, get_or-append_seam}
use Rattle.std.proofs.lemmas.List.{get_or-take}
use Rattle.replay.specs.Pattern.{pattern_to}

module _ {A : Type 0} (at : ℕ → A) where
  length_pattern : (n : ℕ) → length (pattern_to at n) ≡ n
  unfolding pattern_to
  length_pattern zero = refl
  length_pattern (suc n) = omega (arith, length-append (pattern_to at n) (at n ∷ []), length_pattern n)

  -- the one at j, where k others stand behind it
  pattern_at : (k j i : ℕ) (d : A) → i ≡ suc (k + j) → get_or (pattern_to at i) j d ≡ at j
  unfolding pattern_to
  pattern_at zero j i d e =
      let last : i ≡ suc j = omega arith in
      rw last (ap (λ (n : ℕ). get_or (pattern_to at (suc j)) n d) (sym (length_pattern j)) ∙ get_or-append_seam (pattern_to at j) (at j) [] d)
  pattern_at (suc k) j i d e =
      let n = suc (k + j) in
      let more : i ≡ suc n = omega arith in
      rw more (get_or-append (pattern_to at n) (at n ∷ []) d j (omega (arith, length_pattern n)) ∙ pattern_at k j n d refl)

  module _ (room : List A) (i : ℕ) (is : take i room ≡ pattern_to at i) where
    pub pattern_step : (b : A) → i < length room → b ≡ at i → take (i + 1) (set room i b) ≡ pattern_to at (i + 1)
    unfolding pattern_to
    pattern_step b h e = rw (add-one i, take-suc-set room i b h, is, e)

    pub pattern_back : (j : ℕ) (d : A) → j < i → get_or room j d ≡ at j
    pattern_back j d h =
        sym (get_or-take i room j d h) ∙ ap (λ (l : List A). get_or l j d) is ∙ pattern_at (i - suc j) j i d (omega arith)

    pub pattern_all : (n : ℕ) → i ≡ n → length room ≡ n → room ≡ pattern_to at n
    pattern_all n e h = rw (← e) (sym (take_all i room (omega arith)) ∙ is)
