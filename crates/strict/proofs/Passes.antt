-- What a pass in the strict reading ends in, from each place of the grammar: shown rule by rule, then of the pass.
-- Assumes nothing.
use Prim.Native.Nat.{ℕ, ◌+◌, ◌-◌, ◌≤◌, ◌<◌}
use mathlib.Core.Bool.{true, false}
use mathlib.Core.List.{List}
use mathlib.Core.Path.{◌≡◌, refl, ◌∙◌}
use native.Mathlib.Nat.{le_refl}
use native.Mathlib.Omega.{arith}
use lib.Dec.{eqb}
use lib.ListN.{length, take, drop}
use Rattle.std.specs.Prelude.{Some, None}
use Rattle.basics.proofs.Laws.{by_test, by_place}
use Rattle.byte_rules.specs.Reading.{strict}
use Rattle.look.specs.Look.{byte_at, blank_at, doubled_at, word_at}
use Rattle.look.proofs.Laws.{byte_other}
use Rattle.scans.specs.Marks.{tick, tilde, lbracket, under, less, lf, open_html, close_html}
use Rattle.scans.specs.Ends.{blanks_end, tag_end, label_end, subscript_end, italic_end, is_url}
use Rattle.scans.proofs.Laws.{clash}
use Rattle.comment_parser.specs.Item.{span}
use Rattle.comment_parser.specs.State.{moved}
use Rattle.comment_parser.specs.Rules.{after_lf, label_item, tick_rule, tilde_rule, math_rule, html_rule, bracket_rule, newline_rule, opens_italic, open_under, under_rule, plain_rule, text_rule, first_rule, pass_act}
use Rattle.comment_parser.specs.Pass.{pass, run_item}
use Rattle.comment_parser.specs.declared.CommentItem.{CommentItem}
use Rattle.comment_parser.specs.declared.CommentItem.TheVariants.{Text, MathToken}
use Rattle.comment_parser.specs.declared.ParserState.{ParserState}
use Rattle.comment_parser.specs.declared.Act.{Act}
use Rattle.comment_parser.specs.declared.Run.{Run}
use Rattle.comment_parser.proofs.Passes.{Good, pass_by, act_by}
use Rattle.strict.specs.Strict.{Alone}
use Rattle.strict.proofs.Grammar.{Mode, outside, in_math_case, Goes, alone, start_subscript, start_italic, start_math, token, end_math, Final, final_outside, final_math}
use Rattle.strict.proofs.Texts as texts
use Rattle.strict.proofs.Texts.{Barless, under_barless, SubscriptByte, ItalicText, ItalicPlace, italic_place, italic_text}
use Rattle.strict.proofs.States.{Outside, InMath, Stands, later}

-- THE RULES, where the noted subscript end is not ahead

module _ (s : List ℕ) (st : ParserState) (from p : ℕ) (P : Act → Type 0) where
  -- a step comes to no noted subscript end
  pub steps_on : st.end_subscript ≤ p → P (first_rule strict s st from p) → P (pass_act strict s st from p)
  steps_on h = act_by st p P strict s from (λ _ e. absurd (let y : ⊥ = omega arith in y)) (λ _ e. absurd (let y : ⊥ = omega arith in y))

  -- where none of the four bytes stands, outside math and HTML
  pub to_plain : st.math ≡ false → st.html ≡ false → Barless s p → P (plain_rule strict s st from p) → P (first_rule strict s st from p)
  unfolding first_rule text_rule
  to_plain m h f x =
      by_test P (byte_at s p tick) (λ t. clash f.no_tick t) (λ _.
      by_test P st.math (λ t. clash m t) (λ _.
      by_test P (byte_at s p less) (λ t. clash f.no_less t) (λ _.
      by_test P (byte_at s p tilde) (λ t. clash f.no_tilde t) (λ _.
      by_test P (byte_at s p lbracket) (λ t. clash f.no_bracket t) (λ _.
      by_test P st.html (λ t. clash h t) (λ _. x))))))

  -- where a `_` stands
  pub to_under : byte_at s p under ≡ true → P (under_rule strict s st p) → P (plain_rule strict s st from p)
  unfolding plain_rule
  to_under t x =
      by_test P (byte_at s p lf) (λ u. clash (byte_other s p under lf t (λ z. omega arith)) u) (λ _.
      by_test P (byte_at s p under) (λ _. x) (λ n. clash n t))

-- WHAT A PASS ENDS IN

-- two events, one behind the other
pub data Both (m : Mode) (d c : CommentItem) (n : Mode) : Type 0 where
  both : {k : Mode} → Goes m d k → Goes k c n → Both m d c n

-- a pass from the state st, which stands at m, whose run begins at `from`, ends its run at q and leaves the state t
module _ (s : List ℕ) (m : Mode) (st : ParserState) (from q : ℕ) (t : ParserState) where
  pub data Passed : Type 0 where
    unmarked : t.waiting ≡ None → (from < q → Goes m (run_item st from q) m) → Stands s m t → Final m → Passed
    marked : {c : CommentItem} {n : Mode} → t.waiting ≡ Some c → (from < t.pos → Stands s n t) → (q ≤ from → Goes m c n) → (from < q → Both m (run_item st from q) c n) → Passed

abbrev pub RunPassed : List ℕ → Mode → ParserState → ℕ → Run → Type 0
RunPassed s m st from r = Passed s m st from r.end r.after

-- a run is a Text outside math, a MathToken in math
module _ (st : ParserState) (from q : ℕ) where
  pub text_run : st.math ≡ false → run_item st from q ≡ Text (span from q)
  unfolding run_item
  text_run m = by_test (λ c. c ≡ Text (span from q)) st.math (λ t. clash m t) (λ _. refl)

  token_run : st.math ≡ true → run_item st from q ≡ MathToken (span from q)
  unfolding run_item
  token_run m = by_test (λ c. c ≡ MathToken (span from q)) st.math (λ _. refl) (λ t. clash t m)

-- OUTSIDE

module _ (s : List ℕ) (st : ParserState) (from : ℕ) (o : Outside s st) (below : st.pos ≤ from) where
  abbrev OutR : Run → Type 0
  OutR = RunPassed s outside st from

  abbrev OutQ : ℕ → Type 0
  OutQ p = from ≤ p

  out_run : (q : ℕ) → Goes outside (run_item st from q) outside
  out_run q = rw (text_run st from q o.math_off) (alone Alone.text)

  by_mark : (q : ℕ) (t : ParserState) {c : CommentItem} {n : Mode} → Goes outside c n → t.waiting ≡ Some c → (from < t.pos → Stands s n t) → Passed s outside st from q t
  by_mark q t g w i = marked w i (λ _. g) (λ _. both (out_run q) g)

  -- an event alone
  by_alone : (q : ℕ) (t : ParserState) {c : CommentItem} → Alone c → t.waiting ≡ Some c → t.math ≡ st.math → t.end_subscript ≡ st.end_subscript → t.end_italic ≡ st.end_italic → Passed s outside st from q t
  by_alone q t a w m e f = by_mark q t (alone a) w (λ l. record { math_off = m ∙ o.math_off; loose = later s o.loose t e f (omega arith) })

  module _ (p : ℕ) (h : from ≤ p) (l : p < length s) where
    abbrev OutGood : Act → Type 0
    OutGood = Good OutQ OutR p

    out_tick : OutGood (tick_rule s st from p)
    unfolding tick_rule
    out_tick =
        by_test OutGood (doubled_at s p tick) (λ _. omega arith) (λ _.
        by_test OutGood st.math (λ t. clash o.math_off t)
        (λ _. by_mark _ _ start_math refl (λ _. record { math_on = refl; loose = later s o.loose _ refl refl (omega arith) })))

    out_html : OutGood (html_rule s st p)
    unfolding html_rule
    out_html =
        by_test OutGood st.html
        (λ _. by_test OutGood (word_at s p close_html) (λ _. by_alone _ _ Alone.end_html refl refl refl refl) (λ _. omega arith))
        (λ _. by_test OutGood (word_at s p open_html) (λ _. by_alone _ _ Alone.start_html refl refl refl refl) (λ _. omega arith))

    label_alone : (x y : ℕ) → Alone (label_item s p x y)
    unfolding label_item
    label_alone x y = by_test Alone (is_url (take (y - x) (drop x s))) (λ _. Alone.url) (λ _. Alone.label)

    out_tilde : OutGood (tilde_rule s st from p)
    unfolding tilde_rule
    out_tilde =
        by_test OutGood (doubled_at s p tilde) (λ _. omega arith)
        (λ _. by_alone _ _ (label_alone (blanks_end s (p + 1)) (label_end s (blanks_end s (p + 1)))) refl refl refl refl)

    out_bracket : OutGood (bracket_rule s st p)
    unfolding bracket_rule
    out_bracket =
        by_test OutGood (doubled_at s p lbracket) (λ _. omega arith)
        (λ _. by_place OutGood (tag_end s (p + 1)) (λ q _. by_alone _ _ Alone.tag refl refl refl refl) (λ _. omega arith))

    out_newline : OutGood (newline_rule s st from p)
    unfolding newline_rule
    out_newline = by_test OutGood (after_lf s (p - from) p) (λ _. by_alone _ _ Alone.line_break refl refl refl refl) (λ _. omega arith)

    out_under : st.html ≡ false → OutGood (under_rule strict s st p)
    unfolding under_rule open_under
    out_under html =
        by_test OutGood (doubled_at s p under) (λ _. omega arith) (λ _.
        by_test OutGood (eqb p st.end_italic) (λ t. clash (o.loose.no_italic_case p (omega arith) l) t) (λ _.
        by_test OutGood (opens_italic s st p)
        (λ _.
        by_place OutGood (italic_end strict s (p + 1))
        (λ q e. by_mark _ _ start_italic refl (λ _. record { math_off = o.math_off; html_off = html; past_subscript = omega (arith, o.loose.past_subscript); text = italic_text s (p + 1) q e }))
        (λ _. omega arith))
        (λ _.
        by_place OutGood (subscript_end strict s (p + 1))
        (λ q e.
        by_mark _ _ start_subscript refl
        (λ _. record { math_off = o.math_off; html_off = html; here = refl; text = texts.subscript_text s (p + 1) q e; no_italic_case = λ k a u. o.loose.no_italic_case k (omega arith) u }))
        (λ _. omega arith))))

    out_plain : st.html ≡ false → OutGood (plain_rule strict s st from p)
    unfolding plain_rule
    out_plain html =
        by_test OutGood (byte_at s p lf) (λ _. out_newline) (λ _.
        by_test OutGood (byte_at s p under) (λ _. out_under html) (λ _. omega arith))

    out_text : OutGood (text_rule strict s st from p)
    unfolding text_rule
    out_text =
        by_test OutGood (byte_at s p less) (λ _. out_html) (λ _.
        by_test OutGood (byte_at s p tilde) (λ _. out_tilde) (λ _.
        by_test OutGood (byte_at s p lbracket) (λ _. out_bracket) (λ _.
        by_test OutGood st.html (λ _. omega arith) out_plain)))

    out_first : OutGood (first_rule strict s st from p)
    unfolding first_rule
    out_first =
        by_test OutGood (byte_at s p tick) (λ _. out_tick) (λ _.
        by_test OutGood st.math (λ t. clash o.math_off t) (λ _. out_text))

    out_act : OutGood (pass_act strict s st from p)
    out_act = steps_on s st from p OutGood (omega (arith, o.loose.past_subscript)) out_first

  pub out_pass : from ≤ length s → OutR (pass strict s st from)
  out_pass h =
      pass_by strict s st from OutQ OutR out_act
      (λ p k l. unmarked refl (λ _. out_run (length s)) (record { math_off = o.math_off; loose = later s o.loose _ refl refl (omega arith) }) final_outside)
      (le_refl from)

-- IN MATH

module _ (s : List ℕ) (st : ParserState) (from : ℕ) (o : InMath s st) (below : st.pos ≤ from) where
  abbrev MathR : Run → Type 0
  MathR = RunPassed s in_math_case st from

  abbrev MathQ : ℕ → Type 0
  MathQ p = from ≤ p

  math_run : (q : ℕ) → Goes in_math_case (run_item st from q) in_math_case
  math_run q = rw (token_run st from q o.math_on) token

  -- the run ends, and no event follows
  math_unmarked : (q p : ℕ) → from ≤ p → Passed s in_math_case st from q (moved st p None)
  math_unmarked q p h = unmarked refl (λ _. math_run q) (record { math_on = o.math_on; loose = later s o.loose _ refl refl (omega arith) }) final_math

  module _ (p : ℕ) (h : from ≤ p) (l : p < length s) where
    abbrev MathGood : Act → Type 0
    MathGood = Good MathQ MathR p

    math_tick : MathGood (tick_rule s st from p)
    unfolding tick_rule
    math_tick =
        by_test MathGood (doubled_at s p tick) (λ _. omega arith) (λ _.
        by_test MathGood st.math
        (λ _. marked refl (λ u. record { math_off = refl; loose = later s o.loose _ refl refl (omega arith) }) (λ _. end_math) (λ _. both (math_run p) end_math))
        (λ t. clash t o.math_on))

    math_blank : MathGood (math_rule s st p)
    unfolding math_rule
    math_blank = by_test MathGood (blank_at s p) (λ _. math_unmarked p p h) (λ _. omega arith)

    math_first : MathGood (first_rule strict s st from p)
    unfolding first_rule
    math_first =
        by_test MathGood (byte_at s p tick) (λ _. math_tick) (λ _.
        by_test MathGood st.math (λ _. math_blank) (λ t. clash t o.math_on))

    math_act : MathGood (pass_act strict s st from p)
    math_act = steps_on s st from p MathGood (omega (arith, o.loose.past_subscript)) math_first

  pub math_pass : from ≤ length s → MathR (pass strict s st from)
  math_pass h = pass_by strict s st from MathQ MathR math_act (λ p k l. math_unmarked (length s) (length s) h) (le_refl from)
