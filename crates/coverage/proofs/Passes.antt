-- Each reading rule ends a run as the account says: shown rule by rule, then of the pass.
-- Assumes nothing.
use Prim.Native.Nat.{ℕ, ◌+◌, ◌-◌, ◌≤◌, ◌<◌}
use mathlib.Core.Bool.{true, false}
use mathlib.Core.List.{List}
use mathlib.Core.Logic.{◌⊎◌, inl, inr}
use mathlib.Core.Path.{◌≡◌, refl}
use native.Mathlib.Nat.{le_refl}
use native.Mathlib.Omega.{arith}
use Rattle.std.specs.Prelude.{Some, None}
use lib.Dec.{eqb}
use lib.ListN.{get_or, length, take, drop}
use Rattle.basics.proofs.Laws.{by_test, by_place}
use Rattle.byte_rules.specs.Reading.{Reading}
use Rattle.look.specs.Look.{byte_at, blank_at, doubled_at, word_at}
use Rattle.scans.specs.Marks.{tick, tilde, lbracket, under, less, lf, open_html, close_html}
use Rattle.scans.specs.Ends.{blanks_step, blanks_end, tag_end, label_step, label_end, subscript_end, italic_end, is_url}
use Rattle.scans.proofs.Laws.{scan_ge, scan_le}
use Rattle.scans.proofs.TagLaws.{tag_in}
use Rattle.scans.proofs.EndLaws.{tag_closed}
use Rattle.comment_parser.specs.State.{moved}
use Rattle.comment_parser.specs.Rules.{after_lf, label_item, tick_rule, tilde_rule, math_rule, html_rule, bracket_rule, newline_rule}
use Rattle.comment_parser.specs.Rules.{opens_italic, open_under, under_rule, plain_rule, text_rule, first_rule, pass_act}
use Rattle.comment_parser.specs.Pass.{pass}
use Rattle.comment_parser.specs.declared.CommentItem.{CommentItem}
use Rattle.comment_parser.specs.declared.ParserState.{ParserState}
use Rattle.comment_parser.specs.declared.Act.{Act}
use Rattle.comment_parser.specs.declared.Run.{Run}
use Rattle.comment_parser.proofs.Passes.{Good, pass_by, act_by}
use Rattle.coverage.proofs.Account.{BlankTo, Before, After, Ending, open_math, close_math, label, url, open_html_case, close_html_case, open_subscript, open_italic, close_italic, tag, line_break, close_subscript}
use Rattle.coverage.proofs.Bytes.{Cut, byte_there, word_there, blanks_there, before_there, after_there}

labelled :
    (s : List ℕ) {buf : List ℕ} {b r q p x y n : ℕ} → Before buf r q p → get_or buf p 0 ≡ 126 → BlankTo buf (p + 1) x → x ≤ y → After buf b y n →
    Ending buf b r false q (label_item s p x y) false n
unfolding label_item
labelled s {buf} {b} {r} {q} {p} {x} {y} {n} f g h k l =
    by_test (λ c. Ending buf b r false q c false n) (is_url (take (y - x) (drop x s))) (λ t. url f g h k l) (λ t. label f g h k l)

-- a pass from the state st, whose run begins at `from`, ends its run at q and leaves the state t
module _ (buf : List ℕ) (b : ℕ) (st : ParserState) (from q : ℕ) (t : ParserState) where
  -- and no event follows: in math at a blank, or at the end
  abbrev Plain : Type 0
  Plain = t ≡ moved st q None

  -- or by an event, which waits
  pub record Ended : Type 0 where
    pub item : CommentItem
    pub ending : Ending buf b from st.math q item t.math t.pos
    pub waits : t.waiting ≡ Some item

  abbrev pub Passed : Type 0
  Passed = Plain ⊎ Ended

-- a run that has ended so
abbrev pub RunPassed : List ℕ → ℕ → ParserState → ℕ → Run → Type 0
RunPassed buf b st from r = Passed buf b st from r.end r.after

module _ {s buf : List ℕ} {b : ℕ} (cut : Cut s buf b) (st : ParserState) (from p : ℕ) (h : from ≤ p) (l : p < length s) where
  -- what a rule at p may say
  abbrev Fine : Act → Type 0
  Fine a = Good (λ i. from ≤ i) (RunPassed buf b st from) p a

  by_ending : (q : ℕ) (t : ParserState) (c : CommentItem) → Ending buf b from st.math q c t.math t.pos → t.waiting ≡ Some c → Passed buf b st from q t
  by_ending q t c m w = inr (record { item = c; ending = m; waits = w })

  tick_fine : byte_at s p tick ≡ true → Fine (tick_rule s st from p)
  unfolding tick_rule
  tick_fine t =
      by_test Fine (doubled_at s p tick) (λ _. omega arith) (λ _.
      by_test Fine st.math
      (λ m. by_ending _ _ _ (rw m (close_math (byte_there cut p tick t) (after_there cut (p + 1)))) refl)
      (λ m. by_ending _ _ _ (rw m (open_math (before_there cut from p h) (byte_there cut p tick t))) refl))

  math_fine : Fine (math_rule s st p)
  unfolding math_rule
  math_fine = by_test Fine (blank_at s p) (λ _. inl refl) (λ _. omega arith)

  html_fine : st.math ≡ false → Fine (html_rule s st p)
  unfolding html_rule
  html_fine m =
      by_test Fine st.html
      (λ _. by_test Fine (word_at s p close_html) (λ t. by_ending _ _ _ (rw m (close_html_case (word_there cut close_html p (p + 7) refl t))) refl) (λ _. omega arith))
      (λ _. by_test Fine (word_at s p open_html) (λ t. by_ending _ _ _ (rw m (open_html_case (word_there cut open_html p (p + 6) refl t))) refl) (λ _. omega arith))

  tilde_fine : st.math ≡ false → byte_at s p tilde ≡ true → Fine (tilde_rule s st from p)
  unfolding tilde_rule
  tilde_fine m t =
      by_test Fine (doubled_at s p tilde) (λ _. omega arith) (λ _.
      let x = blanks_end s (p + 1) in
      let y = label_end s x in
      let u : x ≤ y = scan_ge (label_step s) (length s) x x (le_refl x) (scan_le (blanks_step s) (length s) (p + 1)) in
      by_ending _ _ _ (rw m (labelled s (before_there cut from p h) (byte_there cut p tilde t) (blanks_there cut (p + 1) (omega arith)) u (after_there cut y))) refl)

  bracket_fine : st.math ≡ false → byte_at s p lbracket ≡ true → Fine (bracket_rule s st p)
  unfolding bracket_rule
  bracket_fine m t =
      by_test Fine (doubled_at s p lbracket) (λ _. omega arith) (λ _.
      by_place Fine (tag_end s (p + 1))
      (λ q e.
      let w = tag_in s (p + 1) q (omega arith) e in
      by_ending _ _ _ (rw m (tag (byte_there cut p lbracket t) w.0 (byte_there cut q 93 (tag_closed s (p + 1) q e)))) refl)
      (λ _. omega arith))

  newline_fine : st.math ≡ false → Fine (newline_rule s st from p)
  unfolding newline_rule
  newline_fine m =
      by_test Fine (after_lf s (p - from) p)
      (λ _. by_ending _ _ _ (rw m line_break) refl)
      (λ _. omega arith)

  module _ (rd : Reading) where
    under_fine : st.math ≡ false → byte_at s p under ≡ true → Fine (under_rule rd s st p)
    unfolding under_rule open_under
    under_fine m t =
        by_test Fine (doubled_at s p under) (λ _. omega arith) (λ _.
        by_test Fine (eqb p st.end_italic) (λ _. by_ending _ _ _ (rw m (close_italic (byte_there cut p under t))) refl) (λ _.
        by_test Fine (opens_italic s st p)
        (λ _. by_place Fine (italic_end rd s (p + 1)) (λ q e. by_ending _ _ _ (rw m (open_italic (byte_there cut p under t))) refl) (λ _. omega arith))
        (λ _. by_place Fine (subscript_end rd s (p + 1)) (λ q e. by_ending _ _ _ (rw m (open_subscript (byte_there cut p under t))) refl) (λ _. omega arith))))

    plain_fine : st.math ≡ false → Fine (plain_rule rd s st from p)
    unfolding plain_rule
    plain_fine m =
        by_test Fine (byte_at s p lf) (λ _. newline_fine m) (λ _.
        by_test Fine (byte_at s p under) (λ t. under_fine m t) (λ _. omega arith))

    text_fine : st.math ≡ false → Fine (text_rule rd s st from p)
    unfolding text_rule
    text_fine m =
        by_test Fine (byte_at s p less) (λ _. html_fine m) (λ _.
        by_test Fine (byte_at s p tilde) (λ t. tilde_fine m t) (λ _.
        by_test Fine (byte_at s p lbracket) (λ t. bracket_fine m t) (λ _.
        by_test Fine st.html (λ _. omega arith) (λ _. plain_fine m))))

    first_fine : Fine (first_rule rd s st from p)
    unfolding first_rule
    first_fine =
        by_test Fine (byte_at s p tick) (λ t. tick_fine t) (λ _.
        by_test Fine st.math (λ _. math_fine) (λ m. text_fine m))

    act_fine : Fine (pass_act rd s st from p)
    act_fine = act_by st p Fine rd s from (λ _ _. by_ending _ _ _ close_subscript refl) (λ _ _. by_ending _ _ _ close_subscript refl) first_fine

pub pass_passed : {s buf : List ℕ} {b : ℕ} → Cut s buf b → (rd : Reading) (st : ParserState) (from : ℕ) → RunPassed buf b st from (pass rd s st from)
pass_passed {s} {buf} {b} cut rd st from =
    pass_by rd s st from (λ i. from ≤ i) (RunPassed buf b st from) (λ p h l. act_fine cut st from p h l rd) (λ p h l. inl refl) (le_refl from)
