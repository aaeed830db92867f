-- The parentheticals of a span need the span's bytes alone: texts that agree from a place on have the same matches from there on.
-- Assumes nothing.
use Prim.Native.Nat.{ℕ, zero, suc, ◌+◌, ◌-◌, ◌≤◌}
use mathlib.Core.Path.{◌≡◌, refl, ap, sym, ◌∙◌}
use mathlib.Core.List.{List, [], ◌∷◌}
use mathlib.Core.Bool.{Bool, true, false}
use Rattle.std.specs.Prelude.{Option, None, Some}
use native.Mathlib.Omega.{arith}
use native.Mathlib.Nat.{le_refl}
use lib.ListN.{length, take, drop}
use Rattle.byte_rules.specs.Text.{bytes}
use Rattle.byte_rules.specs.Reading.{Reading}
use Rattle.byte_rules.proofs.Characters.{char_same}
use Rattle.look.specs.Look.{holds_at, byte_at}
use Rattle.look.proofs.Laws.{holds_within, byte_within}
use Rattle.look.proofs.Alike.{holds_same, byte_same, same_part, Alike, alike_at, alike_here, alike_on, drop_same, cut_alike}
use Rattle.scans.specs.Marks.{lparen}
use Rattle.parentheticals.specs.Fields.{comma, ◌>>=◌, spaces_at, sign_at, phrase_at, fits, picture_at, date_at}
use Rattle.parentheticals.specs.Fields.{author_start, author_byte, author_len, author_within, author_end}
use Rattle.parentheticals.specs.Matching.{contributed_by, revised_by, proof_shortened_by, proof_modification, new_usage}
use Rattle.parentheticals.specs.Matching.{author_after, head_at, notice_at, tail_at, rest_at, credit_at, match_at, first_of, next_from, matches_from}
use Rattle.parentheticals.specs.Records.{parentheticals_of}
use Rattle.parentheticals.specs.declared.Found.{Found}
use Rattle.parentheticals.proofs.Inside.{sign_inside, phrase_inside, spaces_inside, date_inside}
use Rattle.parentheticals.proofs.Authors.{len_fits, author_ends}
use Rattle.parentheticals.proofs.Lies.{head_begins, next_lies}
use Rattle.parentheticals.proofs.Listing.{matches_end, matches_more}

-- one field after the other, the second where the first ends
bind_same : {A B : Type 0} (p q : Option A) (f h : A → Option B) → p ≡ q → ((a : A) → p ≡ Some a → f a ≡ h a) → (p >>= f) ≡ (q >>= h)
bind_same None q f h e g = rw (sym e)
bind_same (Some a) q f h e g = rw (sym e) (g a refl)

-- ---- fields

spaces_same : {s t : List ℕ} {i : ℕ} → Alike s t i → spaces_at s i ≡ spaces_at t i
unfolding spaces_at
spaces_same g = rw (drop_same g)

sign_same : (b : ℕ) {s t : List ℕ} {i : ℕ} → Alike s t i → sign_at b s i ≡ sign_at b t i
unfolding sign_at
sign_same b g = rw (spaces_same g, byte_same (alike_here g) b)

phrase_same : (w : List ℕ) {s t : List ℕ} {i : ℕ} → Alike s t i → phrase_at w s i ≡ phrase_at w t i
unfolding phrase_at
phrase_same [] g = refl
phrase_same (b ∷ w) {s} {t} {i} g =
    bind_same _ _ _ _ (sign_same b g) (λ j e. let r = sign_inside b s i j g.fits e in phrase_same w (alike_on g j (omega arith) r.1))

picture_same : (w : List ℕ) {s t : List ℕ} {i : ℕ} → Alike s t i → picture_at w s i ≡ picture_at w t i
unfolding picture_at
picture_same [] g = refl
picture_same (p ∷ w) {s} {t} {i} g = go (holds_at (fits p) s i) refl (λ h. picture_same w (alike_on g (i + 1) (omega arith) h))
  where
    go : (u : Bool) → holds_at (fits p) s i ≡ u → (i + 1 ≤ length s → picture_at w s (i + 1) ≡ picture_at w t (i + 1))
        → picture_at (p ∷ w) s i ≡ picture_at (p ∷ w) t i
    go true u ih = rw (← holds_same (alike_here g) (fits p), u) (ih (omega (arith, holds_within (fits p) s i u)))
    go false u ih = rw (← holds_same (alike_here g) (fits p), u)

date_same : {s t : List ℕ} {i : ℕ} → Alike s t i → date_at s i ≡ date_at t i
unfolding date_at
date_same g = rw (picture_same (bytes "0-Aaa-0000") g, picture_same (bytes "00-Aaa-0000") g)

start_same : {s t : List ℕ} {i : ℕ} → Alike s t i → author_start s i ≡ author_start t i
unfolding author_start
start_same {s} {t} {i} g =
    bind_same _ _ _ _ (spaces_same g)
    (λ e q. let r = spaces_inside s i e g.fits q in rw (byte_same (alike_at g e (omega arith)) comma))

module _ (bars : ℕ → Bool) where
  len_same : {s t : List ℕ} {i : ℕ} → Alike s t i → author_len bars s i ≡ author_len bars t i
  unfolding author_len
  len_same {s} {t} {i} g = rw (holds_same (alike_here g) (author_byte bars), char_same s t i (drop_same g))

  within_same : (k : ℕ) {s t : List ℕ} {i : ℕ} → Alike s t i → author_within bars k s i ≡ author_within bars k t i
  unfolding author_within
  within_same zero g = refl
  within_same (suc k) {s} {t} {i} g =
      let rest = within_same k (alike_on g (i + author_len bars s i) (omega arith) (omega (arith, len_fits bars s i, g.fits))) in
      rw (← byte_same (alike_here g) comma, ← len_same g, ← rest)

  end_same : {s t : List ℕ} {i : ℕ} → Alike s t i → author_end bars s i ≡ author_end bars t i
  unfolding author_end
  end_same {s} {t} {i} g = within_same (suc (length s)) g ∙ ap (λ (n : ℕ). author_within bars (suc n) t i) g.long

-- ---- a parenthetical

after_same : (w : List ℕ) {s t : List ℕ} {i : ℕ} → Alike s t i → author_after w s i ≡ author_after w t i
unfolding author_after
after_same w {s} {t} {i} g =
    bind_same _ _ _ _ (phrase_same w g) (λ j e. let r = phrase_inside w s i j g.fits e in start_same (alike_on g j (omega arith) r.1))

head_same : {s t : List ℕ} {i : ℕ} → Alike s t i → head_at s i ≡ head_at t i
unfolding head_at
head_same g = rw (after_same contributed_by g, after_same revised_by g, after_same proof_shortened_by g)

notice_same : {s t : List ℕ} {i : ℕ} → Alike s t i → notice_at s i ≡ notice_at t i
unfolding notice_at
notice_same g = rw (phrase_same proof_modification g, phrase_same new_usage g)

tail_same : {s t : List ℕ} {b : ℕ} → Alike s t b → tail_at s b ≡ tail_at t b
unfolding tail_at
tail_same {s} {t} {b} g =
    bind_same _ _ _ _ (phrase_same (bytes ", ") g)
    (λ d q. let x = phrase_inside (bytes ", ") s b d g.fits q in
    let gd = alike_on g d (omega arith) x.1 in
    bind_same _ _ _ _ (date_same gd)
    (λ e f. let y = date_inside s d e x.1 f in
    rw (phrase_same (bytes ".)") (alike_on gd e (omega arith) y.1))))

module _ (bars : ℕ → Bool) {s t : List ℕ} where
  rest_same : {a : ℕ} → Alike s t a → rest_at bars s a ≡ rest_at bars t a
  unfolding rest_at
  rest_same {a} g =
      bind_same _ _ _ _ (end_same bars g)
      (λ b e. let r = author_ends bars s a b e in tail_same (alike_on g b r.0 (omega (arith, byte_within s b comma r.1))))

  credit_same : (i : ℕ) → Alike s t (i + 1) → credit_at bars s i ≡ credit_at bars t i
  unfolding credit_at
  credit_same i g =
      bind_same _ _ _ _ (head_same g)
      (λ h e. let r = head_begins s (i + 1) g.fits h.0 h.1 e in
      rw (rest_same (alike_on g h.1 (omega (arith, r.after)) r.inside)))

  match_same : (i : ℕ) → Alike s t i → match_at bars s i ≡ match_at bars t i
  unfolding match_at
  match_same i g = go (byte_at s i lparen) refl
    where
      go : (u : Bool) → byte_at s i lparen ≡ u → match_at bars s i ≡ match_at bars t i
      go true u =
          let g' = alike_on g (i + 1) (omega arith) (omega (arith, byte_within s i lparen u)) in
          rw (← byte_same (alike_here g) lparen, u, notice_same g', credit_same i g')
      go false u = rw (← byte_same (alike_here g) lparen, u)

  first_same : (k i : ℕ) → i + k ≤ length s → Alike s t i → first_of (match_at bars s) k i ≡ first_of (match_at bars t) k i
  unfolding first_of
  first_same zero i h g = refl
  first_same (suc k) i h g =
      let rest = first_same k (i + 1) (omega arith) (alike_on g (i + 1) (omega arith) (omega arith)) in
      rw (match_same i g, rest)

  next_same : (i : ℕ) → Alike s t i → next_from bars s i ≡ next_from bars t i
  unfolding next_from
  next_same i g = first_same (length s - i) i (omega (arith, g.fits)) g ∙ ap (λ (n : ℕ). first_of (match_at bars t) (n - i) i) g.long

  -- ---- all of them

  matches_same : (n i : ℕ) → length s - i ≤ n → Alike s t i → matches_from bars s i ≡ matches_from bars t i
  matches_same zero i h g = go (next_from bars s i) refl
    where
      go : (o : Option Found) → next_from bars s i ≡ o → matches_from bars s i ≡ matches_from bars t i
      go None e = matches_end bars s i e ∙ sym (matches_end bars t i (sym (next_same i g) ∙ e))
      go (Some f) e = let r = next_lies bars s i f e in absurd (omega (arith, r.behind, r.onward, r.inside))
  matches_same (suc n) i h g = go (next_from bars s i) refl (matches_same n)
    where
      go : (o : Option Found) → next_from bars s i ≡ o → ((j : ℕ) → length s - j ≤ n → Alike s t j → matches_from bars s j ≡ matches_from bars t j)
          → matches_from bars s i ≡ matches_from bars t i
      go None e ih = matches_end bars s i e ∙ sym (matches_end bars t i (sym (next_same i g) ∙ e))
      go (Some f) e ih =
          let r = next_lies bars s i f e in
          let g' = alike_on g f.whole.end (omega (arith, r.behind, r.onward)) r.inside in
          let rest = ih f.whole.end (omega (arith, r.behind, r.onward, r.inside)) g' in
          matches_more bars s i f e ∙ ap (λ (l : List Found). f ∷ l) rest ∙ sym (matches_more bars t i f (sym (next_same i g) ∙ e))

-- ---- a span of two buffers

module _ (r : Reading) (start end : ℕ) (b c : List ℕ) (order : start ≤ end) (in_b : end ≤ length b) (in_c : end ≤ length c) where
  -- equal bytes in the span, equal parentheticals
  pub span_alone : take (end - start) (drop start b) ≡ take (end - start) (drop start c) → parentheticals_of r b start end ≡ parentheticals_of r c start end
  span_alone e =
      matches_same r.bars_author (length (take end b) - start) start (le_refl _)
      (cut_alike b c start end order in_b in_c (same_part b c start end in_b in_c e))
