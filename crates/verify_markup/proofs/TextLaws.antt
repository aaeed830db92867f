-- Laws of what a text's or a label's span gives: lone escapes and HTML marks, place by place.
-- Assumes nothing.
use Prim.Native.Nat.{ℕ, zero, suc, ◌+◌, ◌-◌, ◌≤◌, ◌<◌}
use mathlib.Core.Path.{◌≡◌, refl, sym, ap, ◌∙◌}
use Rattle.std.specs.Prelude.{Option, Some, None, MatchOption, IsSomeAnd}
use Rattle.records.specs.Answer.{longest}
use Rattle.verify_markup.specs.Words.{FitsIf}
use Rattle.verify_markup.specs.declared.diagnostic.Diagnostic.{Diagnostic}
use Rattle.verify_markup.specs.declared.diagnostic.Diagnostic.TheVariants.{UninterpretedHtml}
use mathlib.Core.Bool.{Bool, true, false, cond, ◌&&◌}
use mathlib.Core.List.{List, [], ◌∷◌, ◌++◌}
use native.Mathlib.Decide.{dec_lt}
use native.Mathlib.Numerals.{add-one}
use native.Mathlib.Omega.{arith}
use lib.Dec.{eqb}
use Rattle.std.specs.List.{list_all, zip}
use lib.ListN.{length, get_or, take, drop, length-drop}
use lib.Seq.{drop-cons}
use borrow.Author.Tests.{lt-ltb, le-ltb}
use Rattle.basics.proofs.Laws.{both}
use Rattle.byte_rules.specs.Names.{upper}
use Rattle.look.specs.Look.{holds_at}
use Rattle.look.proofs.Laws.{holds_in, holds_within}
use Rattle.scans.specs.Marks.{open_html, close_html}
use Rattle.unescape.specs.Unescape.{is_escape, step_at}
use Rattle.unescape.specs.declared.Escape.{Escape}
use Rattle.unescape.proofs.Laws.{step_some}
use Rattle.comment_parser.specs.Item.{span}
use Rattle.basics.specs.declared.Span.{Span}
use Rattle.verify_markup.specs.Diag.{when, uninterpreted_escape, uninterpreted_html}
use Rattle.verify_markup.specs.Texts.{is_letter, folded_at, html_len, mark_or, html_from, lone_at, lone_from, html_in, written}
use Rattle.verify_markup.proofs.DiagLaws.{Few, few_append, few_none, few_more, few_when, few_of_some}

-- ---- lone escapes

module _ (buf : List ℕ) (kind : Escape) where
  module _ (e : ℕ) where
    abbrev step : ℕ → ℕ
    step i = i + step_at (is_escape kind) buf i

    lone_over : (turns i : ℕ) → e ≤ i → lone_from buf kind e turns i ≡ []
    unfolding lone_from
    lone_over zero i h = refl
    lone_over (suc turns) i h = rw (lone_from, le-ltb i e h)

    lone_step : (turns i : ℕ) → i < e → lone_from buf kind e (suc turns) i ≡ when (lone_at buf kind i) (uninterpreted_escape i) ++ lone_from buf kind e turns (step i)
    unfolding lone_from
    lone_step turns i h = rw (lone_from, lt-ltb i e h)

    -- turns enough give the same
    lone_same : (m n i : ℕ) → e - i ≤ m → e - i ≤ n → lone_from buf kind e m i ≡ lone_from buf kind e n i
    lone_same zero n i p q = lone_over zero i (omega arith) ∙ sym (lone_over n i (omega arith))
    lone_same (suc m) zero i p q = lone_over (suc m) i (omega arith) ∙ sym (lone_over zero i (omega arith))
    lone_same (suc m) (suc n) i p q = go (dec_lt i e) (lone_same m n (step i))
      where
        go : Dec (i < e) → (e - step i ≤ m → e - step i ≤ n → lone_from buf kind e m (step i) ≡ lone_from buf kind e n (step i)) → lone_from buf kind e (suc m) i ≡ lone_from buf kind e (suc n) i
        go (no h) ih = lone_over (suc m) i (omega arith) ∙ sym (lone_over (suc n) i (omega arith))
        go (yes h) ih =
            let s = step_some (is_escape kind) buf i in
            lone_step m i h ∙ ap (λ (l : List (List ℕ)). when (lone_at buf kind i) (uninterpreted_escape i) ++ l) (ih (omega arith) (omega arith)) ∙ sym (lone_step n i h)

    pub lone_on : (i : ℕ) → i < e → lone_from buf kind e (e - i) i ≡ when (lone_at buf kind i) (uninterpreted_escape i) ++ lone_from buf kind e (e - step i) (step i)
    lone_on i h =
        let some : e - i ≡ suc (e - i - 1) = omega arith in
        let s = step_some (is_escape kind) buf i in
        ap (λ (n : ℕ). lone_from buf kind e n i) some ∙ lone_step (e - i - 1) i h
        ∙ ap (λ (l : List (List ℕ)). when (lone_at buf kind i) (uninterpreted_escape i) ++ l) (lone_same (e - i - 1) (e - step i) (step i) (omega arith) (omega arith))

    pub lone_ends : (i : ℕ) → e ≤ i → lone_from buf kind e (e - i) i ≡ []
    lone_ends i h = lone_over (e - i) i h

    pub few_lone : (turns i : ℕ) → Few (e - i) (lone_from buf kind e turns i)
    unfolding lone_from
    few_lone zero i = few_none (e - i)
    few_lone (suc turns) i = go (dec_lt i e) (few_lone turns (step i))
      where
        go : Dec (i < e) → Few (e - step i) (lone_from buf kind e turns (step i)) → Few (e - i) (lone_from buf kind e (suc turns) i)
        go (no h) ih = rw (lone_over (suc turns) i (omega arith)) (few_none (e - i))
        go (yes h) ih =
            let s = step_some (is_escape kind) buf i in
            rw (lone_step turns i h) (few_more (omega arith) (few_append (few_when (lone_at buf kind i) _ refl) ih))

-- ---- words in any case

-- a byte of the text and a byte of the word
abbrev pub is_same : ℕ × ℕ → Bool
is_same p = eqb (upper p.0) p.1

module _ (s : List ℕ) where
  -- a word that stands at i ends within the text
  folded_within : (w : List ℕ) (i : ℕ) → i ≤ length s → folded_at s i w ≡ true → i + length w ≤ length s
  unfolding folded_at
  folded_within [] i h t = omega arith
  folded_within (b ∷ bs) i h t =
      let x = both (holds_at (is_letter b) s i) (folded_at s (i + 1) bs) t in
      let a : i < length s = holds_within (is_letter b) s i x.0 in
      omega (arith, folded_within bs (i + 1) (omega arith) x.1)

  -- so it does not stand where fewer bytes are left
  pub folded_short : (w : List ℕ) (i : ℕ) → i ≤ length s → length (drop i s) < length w → false ≡ folded_at s i w
  folded_short w i h short = go (folded_at s i w) refl
    where
      go : (t : Bool) → folded_at s i w ≡ t → false ≡ t
      go false e = refl
      go true e = absurd (omega (arith, folded_within w i h e, length-drop i s, short))

  -- where enough are left it is told by comparing in turn
  pub folded_zip : (w : List ℕ) (i : ℕ) → length w ≤ length (drop i s) → list_all is_same (zip (drop i s) w) ≡ folded_at s i w
  unfolding folded_at is_letter
  folded_zip [] i h = go (drop i s)
    where
      go : (l : List ℕ) → list_all is_same (zip l []) ≡ true
      go [] = refl
      go (c ∷ cs) = refl
  folded_zip (b ∷ bs) i h =
      let inside : i < length s = omega (arith, length-drop i s) in
      let split : drop i s ≡ get_or s i 0 ∷ drop (i + 1) s = drop-cons s i 0 inside ∙ ap (λ (n : ℕ). get_or s i 0 ∷ drop n s) (sym (add-one i)) in
      let first : holds_at (is_letter b) s i ≡ eqb (upper (get_or s i 0)) b = holds_in (is_letter b) s i inside in
      rw (split, first) (ap (λ (t : Bool). eqb (upper (get_or s i 0)) b && t) (folded_zip bs (i + 1) (omega (arith, ap length split, h))))

  -- ---- HTML marks

  -- a mark at i, if there is one, ends within the text
  abbrev pub EndsWithin : ℕ → Option ℕ → Type 0
  EndsWithin i (Some n) = i + n ≤ length s
  EndsWithin i None = Unit

  pub len_within : (i : ℕ) → i ≤ length s → EndsWithin i (html_len s i)
  unfolding html_len
  len_within i h = go (folded_at s i open_html) (folded_at s i close_html) refl refl
    where
      go : (a b : Bool) → folded_at s i open_html ≡ a → folded_at s i close_html ≡ b → EndsWithin i (cond a (Some (length open_html)) (cond b (Some (length close_html)) None))
      go true b p q = folded_within open_html i h p
      go false true p q = folded_within close_html i h q
      go false false p q = tt

  module _ (i : ℕ) (h : i < length s) where
    html_step : (n : Option ℕ) → n ≡ html_len s i → html_from s (length s - i) i ≡ mark_or (html_from s (length s - (i + 1)) (i + 1)) i n
    unfolding html_from
    html_step n e = let some : length s - i ≡ suc (length s - (i + 1)) = omega arith in rw (some, html_from, ← e)

    pub html_here : (n : ℕ) → Some n ≡ html_len s i → Some (span i (i + n)) ≡ html_from s (length s - i) i
    html_here n e = sym (html_step (Some n) e)

    pub html_on : None ≡ html_len s i → html_from s (length s - i) i ≡ html_from s (length s - (i + 1)) (i + 1)
    html_on e = html_step None e

  pub html_over : (i : ℕ) → length s ≤ i → None ≡ html_from s (length s - i) i
  unfolding html_from
  html_over i h = let none : length s - i ≡ 0 = omega arith in rw none

  -- a mark that is found from i on lies in the text
  abbrev pub MarkWithin : Option Span → Type 0
  MarkWithin (Some m) = (m.start < length s) × (m.end ≤ length s)
  MarkWithin None = Unit

  pub html_within : (left i : ℕ) → i + left ≤ length s → MarkWithin (html_from s left i)
  unfolding html_from
  html_within zero i h = tt
  html_within (suc left) i h = go (html_len s i) (html_within left (i + 1) (omega arith)) (len_within i (omega arith))
    where
      go : (n : Option ℕ) → MarkWithin (html_from s left (i + 1)) → EndsWithin i n → MarkWithin (mark_or (html_from s left (i + 1)) i n)
      go (Some n) ih e = (omega arith, e)
      go None ih e = ih

-- the code's diagnostic of a mark, if there is one, fits
pub fits_html : {R : Span → Diagnostic → Type 0} (s : List ℕ) (m : Option Span) (d : Option Diagnostic) → MatchOption m (d ≡ None) (λ x. IsSomeAnd d (R x))
    → ((x : Span) (y : Diagnostic) → R x y → y ≡ UninterpretedHtml x) → MarkWithin s m → length s ≤ longest → FitsIf d
fits_html s (Some x) (Some y) h f w short = rw (f x y h) (omega (arith, w, short), omega (arith, w, short))
fits_html s (Some x) None h f w short = absurd h
fits_html s None d h f w short = rw h tt

module _ (buf : List ℕ) (a e : ℕ) where
  pub few_html : Few 1 (html_in buf a e)
  unfolding html_in
  few_html = few_of_some (λ m. uninterpreted_html m.start m.end) (λ m. refl) (html_from (take e buf) (e - a) a)

  pub few_written : (kind : Escape) → Few (e - a + 1) (written buf kind a e)
  unfolding written
  few_written kind = few_append (few_lone buf kind e (e - a) a) few_html
