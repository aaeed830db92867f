-- What a pass leaves, in any reading, shown rule by rule: the state's reading and end stay, the run ends where it began or later, the state after it stands in the text behind the run, what
-- waits lies between them, and where nothing waits the run is not empty or the text has ended.
-- Assumes nothing.
use Prim.Native.Nat.{ℕ, zero, suc, ◌+◌, ◌-◌, ◌≤◌, ◌<◌}
use mathlib.Core.Bool.{Bool, true, false, ◌&&◌}
use mathlib.Core.Path.{◌≡◌, refl}
use mathlib.Core.Logic.{◌⊎◌, inl, inr, ⊎_elim}
use mathlib.Core.List.{List}
use borrow.Author.Tests.{leb-true}
use native.Mathlib.Nat.{le_refl}
use native.Mathlib.Omega.{arith}
use lib.ListN.{length, take, drop}
use lib.Dec.{leb, eqb}
use Rattle.std.specs.Prelude.{Option as Maybe, Some, None}
use Rattle.basics.proofs.Laws.{differ, by_test, by_place}
use Rattle.look.specs.Look.{byte_at, blank_at, doubled_at, word_at}
use Rattle.look.proofs.Laws.{byte_within, doubled_within, word_within}
use Rattle.byte_rules.specs.Reading.{Reading}
use Rattle.scans.specs.Marks.{tick, tilde, lbracket, under, less, lf, space, open_html, close_html}
use Rattle.scans.specs.Ends.{blanks_step, blanks_end, tag_end, label_step, label_end, subscript_end, italic_end, is_url}
use Rattle.scans.proofs.Laws.{scan_le, scan_ge, by_less, clash}
use Rattle.scans.proofs.TagLaws.{tag_in}
use Rattle.comment_parser.proofs.Laws.{Clean}
use Rattle.comment_parser.proofs.Passes.{Good, Noted, pass_by, act_by}
use Rattle.comment_parser.specs.Item.{placed_of}
use Rattle.comment_parser.specs.Bounds.{Within}
use Rattle.comment_parser.specs.Rules.{opens_ahead, after_lf, before_open, after_close, label_item, tick_rule, tilde_rule, math_rule, html_rule, bracket_rule, newline_rule}
use Rattle.comment_parser.specs.Rules.{opens_italic, open_under, under_rule, plain_rule, text_rule, first_rule, pass_act}
use Rattle.comment_parser.specs.Pass.{pass}
use Rattle.comment_parser.specs.declared.ParserState.{ParserState}
use Rattle.comment_parser.specs.declared.CommentItem.{CommentItem}
use Rattle.comment_parser.specs.declared.Run.{Run}
use Rattle.comment_parser.specs.declared.Act.{Act}
use Rattle.comment_parser.specs.declared.Act.TheVariants.{Ends}

-- what waits lies between two places
abbrev pub Waits : ℕ → ℕ → Maybe CommentItem → Type 0
Waits low high None = Unit
Waits low high (Some i) = Within low high (placed_of i)

-- the state after a run that began at `from` and ended at q: with an event waiting it has moved on; with none the run is not empty, or has come to the end
pub record After (s : List ℕ) (st : ParserState) (from q : ℕ) (t : ParserState) : Type 0 where
  pub same_reading : t.reading ≡ st.reading
  pub same_end : t.end ≡ st.end
  pub starts : from ≤ q
  pub past_run : q ≤ t.pos
  pub within : t.pos ≤ length s
  pub on : (from < t.pos) ⊎ (t.waiting ≡ None)
  pub full : t.waiting ≡ None → (from < q) ⊎ (q ≡ length s)
  pub waits : Waits q t.pos t.waiting

module _ (s : List ℕ) (st : ParserState) (from : ℕ) where
  -- a run from `from` that has come to p, and one that has ended
  abbrev Comes : ℕ → Type 0
  Comes p = (from ≤ p) × (p ≤ length s)

  abbrev Ended : Run → Type 0
  Ended r = After s st from r.end r.after

before_open_in : (s : List ℕ) (from p : ℕ) → from ≤ p → (from ≤ before_open s from p) × (before_open s from p ≤ p)
unfolding before_open
before_open_in s from p h = go (leb (from + 2) p) (byte_at s (p - 1) space) (opens_ahead s (p - 2)) refl
  where
    go : (a b c : Bool) → leb (from + 2) p ≡ a → (from ≤ elim (a && b && c) [ true ↦ p - 1 | false ↦ p ]) × (elim (a && b && c) [ true ↦ p - 1 | false ↦ p ] ≤ p)
    go true true true e = omega (arith, leb-true (from + 2) p e)
    go true true false e = omega arith
    go true false c e = omega arith
    go false b c e = omega arith

after_cases : (a b : Bool) (p n : ℕ) → p ≤ n → (a ≡ true → p < n) → (p ≤ elim (a && b) [ true ↦ p + 1 | false ↦ p ]) × (elim (a && b) [ true ↦ p + 1 | false ↦ p ] ≤ n)
after_cases true true p n h f = let g : p < n = f refl in omega arith
after_cases true false p n h f = omega arith
after_cases false b p n h f = omega arith

after_close_in : (s : List ℕ) (p : ℕ) → p ≤ length s → (p ≤ after_close s p) × (after_close s p ≤ length s)
unfolding after_close
after_close_in s p h = after_cases (byte_at s p space) _ p (length s) h (byte_within s p space)

-- a label's event lies where its tilde and its text do
label_within : (s : List ℕ) (low high p a b : ℕ) → low ≤ p → p ≤ a → a ≤ b → b ≤ high → Within low high (placed_of (label_item s p a b))
unfolding label_item
label_within s low high p a b h k l m = by_test (λ (i : CommentItem). Within low high (placed_of i)) (is_url (take (b - a) (drop a s))) (λ _. omega arith) (λ _. omega arith)

lf_past : (s : List ℕ) (n i : ℕ) → after_lf s n i ≡ true → 0 < n
unfolding after_lf
lf_past s zero i h = absurd (differ cc)
lf_past s (suc n) i h = omega arith

-- a blank stands past a start that is none
past_start : (s : List ℕ) (from p : ℕ) → from ≤ p → blank_at s from ≡ false → blank_at s p ≡ true → from < p
past_start s from p h n t = by_less from p (λ l. l) (λ l. let z : p ≡ from = omega arith in clash n (rw z at t))

module _ (s : List ℕ) (st : ParserState) (from p : ℕ) (h : from ≤ p) (i : p < length s) where
  -- what a rule at p may say
  abbrev Sound : Act → Type 0
  Sound a = Good (Comes s st from) (Ended s st from) p a

  -- the run ends at q with an event, and the next starts at x, past p
  ends_at :
      (q x : ℕ) (t : ParserState) {c : CommentItem} → t.reading ≡ st.reading → t.end ≡ st.end → t.pos ≡ x → t.waiting ≡ Some c → from ≤ q → q ≤ p → p < x → x ≤ length s →
      Waits q t.pos t.waiting → Sound (Ends q t)
  ends_at q x t r e f g a b c d w =
      record { same_reading = r; same_end = e; starts = a; past_run = omega arith; within = omega arith; on = inl (omega arith); full = λ n. absurd (differ cc); waits = w }

  tick_sound : Sound (tick_rule s st from p)
  unfolding tick_rule
  tick_sound =
      by_test Sound (doubled_at s p tick) (λ t. omega (arith, doubled_within s p tick t)) (λ _.
      by_test Sound st.math
      (λ _. let c = after_close_in s (p + 1) (omega arith) in ends_at p (after_close s (p + 1)) _ refl refl refl refl h (le_refl p) (omega arith) (omega arith) (omega arith))
      (λ _. let o = before_open_in s from p h in ends_at (before_open s from p) (p + 1) _ refl refl refl refl o.0 o.1 (omega arith) (omega arith) (omega arith)))

  tilde_sound : Sound (tilde_rule s st from p)
  unfolding tilde_rule
  tilde_sound =
      by_test Sound (doubled_at s p tilde) (λ t. omega (arith, doubled_within s p tilde t)) (λ _.
      let x = blanks_end s (p + 1) in
      let y = label_end s x in
      let a = scan_ge (blanks_step s) (length s) (p + 1) (p + 1) (le_refl (p + 1)) (omega arith) in
      let l = scan_ge (label_step s) (length s) x x (le_refl x) (scan_le (blanks_step s) (length s) (p + 1)) in
      let c = after_close_in s y (scan_le (label_step s) (length s) x) in
      let o = before_open_in s from p h in
      ends_at (before_open s from p) (after_close s y) _ refl refl refl refl o.0 o.1 (omega arith) c.1
      (label_within s (before_open s from p) (after_close s y) p x y o.1 (omega arith) l c.0))

  -- a token that begins with no blank is not empty where a blank ends it
  math_sound : blank_at s from ≡ false → Sound (math_rule s st p)
  unfolding math_rule
  math_sound n =
      by_test Sound (blank_at s p)
      (λ t. record { same_reading = refl; same_end = refl; starts = h; past_run = le_refl p; within = omega arith; on = inr refl; full = λ _. inl (past_start s from p h n t); waits = tt })
      (λ _. omega arith)

  html_sound : Sound (html_rule s st p)
  unfolding html_rule
  html_sound =
      by_test Sound st.html
      (λ _.
      by_test Sound (word_at s p close_html)
      (λ t. let w = word_within s close_html p (omega arith) t in ends_at p (p + 7) _ refl refl refl refl h (le_refl p) (omega arith) w (omega arith))
      (λ _. omega arith))
      (λ _.
      by_test Sound (word_at s p open_html)
      (λ t. let w = word_within s open_html p (omega arith) t in ends_at p (p + 6) _ refl refl refl refl h (le_refl p) (omega arith) w (omega arith))
      (λ _. omega arith))

  bracket_sound : Sound (bracket_rule s st p)
  unfolding bracket_rule
  bracket_sound =
      by_test Sound (doubled_at s p lbracket) (λ t. omega (arith, doubled_within s p lbracket t)) (λ _.
      by_place Sound (tag_end s (p + 1))
      (λ q t. let w = tag_in s (p + 1) q (omega arith) t in ends_at p (q + 1) _ refl refl refl refl h (le_refl p) (omega arith) (omega arith) (omega arith))
      (λ _. omega arith))

  newline_sound : Sound (newline_rule s st from p)
  unfolding newline_rule
  newline_sound =
      by_test Sound (after_lf s (p - from) p)
      (λ t. let k = lf_past s (p - from) p t in record { same_reading = refl; same_end = refl; starts = h; past_run = omega arith; within = omega arith; on = inl (omega arith); full = λ n. absurd (differ cc); waits = omega arith })
      (λ _. omega arith)

  -- a step that comes to the noted subscript end
  noted_sound : (q : ℕ) → p < q → q ≤ length s → Noted st p Sound q
  noted_sound q j k _ = record { same_reading = refl; same_end = refl; starts = omega arith; past_run = le_refl q; within = k; on = inl (omega arith); full = λ n. absurd (differ cc); waits = omega arith }

  module _ (rd : Reading) where
    under_sound : Sound (under_rule rd s st p)
    unfolding under_rule open_under
    under_sound =
        by_test Sound (doubled_at s p under) (λ t. omega (arith, doubled_within s p under t)) (λ _.
        by_test Sound (eqb p st.end_italic) (λ _. ends_at p (p + 1) _ refl refl refl refl h (le_refl p) (omega arith) (omega arith) (omega arith)) (λ _.
        by_test Sound (opens_italic s st p)
        (λ _. by_place Sound (italic_end rd s (p + 1)) (λ q t. ends_at p (p + 1) _ refl refl refl refl h (le_refl p) (omega arith) (omega arith) (omega arith)) (λ _. omega arith))
        (λ _. by_place Sound (subscript_end rd s (p + 1)) (λ q t. ends_at p (p + 1) _ refl refl refl refl h (le_refl p) (omega arith) (omega arith) (omega arith)) (λ _. omega arith))))

    plain_sound : Sound (plain_rule rd s st from p)
    unfolding plain_rule
    plain_sound =
        by_test Sound (byte_at s p lf) (λ _. newline_sound) (λ _.
        by_test Sound (byte_at s p under) (λ _. under_sound) (λ _. omega arith))

    text_sound : Sound (text_rule rd s st from p)
    unfolding text_rule
    text_sound =
        by_test Sound (byte_at s p less) (λ _. html_sound) (λ _.
        by_test Sound (byte_at s p tilde) (λ _. tilde_sound) (λ _.
        by_test Sound (byte_at s p lbracket) (λ _. bracket_sound) (λ _.
        by_test Sound st.html (λ _. omega arith) (λ _. plain_sound))))

    first_sound : Clean s st from → Sound (first_rule rd s st from p)
    unfolding first_rule
    first_sound n =
        by_test Sound (byte_at s p tick) (λ _. tick_sound) (λ _.
        by_test Sound st.math (λ m. math_sound (n m)) (λ _. text_sound))

    act_sound : Clean s st from → Sound (pass_act rd s st from p)
    act_sound n = act_by st p Sound rd s from (λ k. noted_sound (p + 1) (omega arith) k.1) (λ k. noted_sound (p + 2) (omega arith) k.1) (first_sound n)

    -- a rule that leaves nothing waiting ends a run that is not empty
    pub act_full : Clean s st from → (q : ℕ) (t : ParserState) → pass_act rd s st from p ≡ Ends q t → t.waiting ≡ None → from < q
    act_full n q t e w = let a : After s st from q t = rw e at (act_sound n) in ⊎_elim (λ (l : from < q). l) (λ (z : q ≡ length s). omega arith) (a.full w)

-- a pass from within the text, in math from where no blank stands
pub pass_after :
    (rd : Reading) (s : List ℕ) (st : ParserState) (from : ℕ) → from ≤ length s → Clean s st from →
    After s st from (pass rd s st from).end (pass rd s st from).after
pass_after rd s st from h n =
    pass_by rd s st from (Comes s st from) (Ended s st from) (λ p k l. act_sound s st from p k.0 l rd n)
    (λ p k l. record { same_reading = refl; same_end = refl; starts = h; past_run = le_refl (length s); within = le_refl (length s); on = inr refl; full = λ _. inr refl; waits = tt })
    (le_refl from, h)
