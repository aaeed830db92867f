-- What a pass ends in within an italic and within a subscript, whose texts hold no mark.
-- Assumes nothing.
use Prim.Native.Nat.{ℕ, ◌+◌, ◌-◌, ◌≤◌, ◌<◌}
use mathlib.Core.Bool.{true, false}
use mathlib.Core.List.{List}
use mathlib.Core.Path.{◌≡◌, refl, sym, ◌∙◌}
use native.Mathlib.Nat.{le_refl}
use native.Mathlib.Omega.{arith}
use borrow.Author.Tests.{eqb-true, eqb-false, ne_eqb}
use lib.Dec.{eqb}
use lib.ListN.{length}
use Rattle.basics.proofs.Laws.{by_test}
use Rattle.byte_rules.specs.Reading.{strict}
use Rattle.look.specs.Look.{byte_at, doubled_at}
use Rattle.look.proofs.Laws.{byte_within, doubled_first, doubled_within}
use Rattle.scans.specs.Marks.{under, lf}
use Rattle.scans.specs.Ends.{italic_step, italic_stop}
use Rattle.scans.proofs.Laws.{scan_ge, clash}
use Rattle.comment_parser.specs.Rules.{after_lf, newline_rule, under_rule, plain_rule, first_rule, step_to, pass_act}
use Rattle.comment_parser.specs.Pass.{pass, run_item}
use Rattle.comment_parser.specs.declared.ParserState.{ParserState}
use Rattle.comment_parser.specs.declared.Act.{Act}
use Rattle.comment_parser.specs.declared.Act.TheVariants.{One, Two, Ends}
use Rattle.comment_parser.specs.declared.Run.{Run}
use Rattle.comment_parser.proofs.Passes.{Good, pass_by}
use Rattle.strict.specs.Strict.{Inside}
use Rattle.strict.proofs.Grammar.{in_italic, behind_start, behind_text, Goes, subscript_text, end_subscript, inside, end_italic}
use Rattle.strict.proofs.Texts as texts
use Rattle.strict.proofs.Texts.{Barless, under_barless, SubscriptByte, ItalicText, ItalicPlace, italic_place, italic_text}
use Rattle.strict.proofs.Passes.{both, marked, RunPassed, text_run, steps_on, to_plain, to_under}
use Rattle.strict.proofs.States.{InSubscript, InItalic}

-- IN AN ITALIC

module _ (s : List ℕ) (st : ParserState) (o : InItalic s st) where
  abbrev ItalicR : Run → Type 0
  ItalicR = RunPassed s in_italic st st.pos

  -- on its way the pass stays in the italic's text
  pub record ItalicQ (p : ℕ) : Type 0 where
    pub on : st.pos ≤ p
    pub text : ItalicText s p st.end_italic

  italic_run : (q : ℕ) → Goes in_italic (run_item st st.pos q) in_italic
  italic_run q = rw (text_run st st.pos q o.math_off) (inside Inside.text)

  module _ (p : ℕ) (k : ItalicQ p) (l : p < length s) where
    abbrev ItalicGood : Act → Type 0
    ItalicGood = Good ItalicQ ItalicR p

    -- a step to q, from where the italic ends at the same place
    on_to : (q : ℕ) → p ≤ q → q ≤ length s → italic_stop strict s p ≡ italic_stop strict s q → ItalicQ q
    on_to q h u z =
        let e : italic_stop strict s q ≡ st.end_italic = sym z ∙ k.text.ends in
        let g : q ≤ italic_stop strict s q = scan_ge (italic_step strict s) (length s) q q (le_refl q) u in
        record { on = omega (arith, k.on); text = record { ends = e; up = omega arith; closed = k.text.closed } }

    italic_newline : ItalicQ (p + 1) → ItalicGood (newline_rule s st st.pos p)
    unfolding newline_rule
    italic_newline f =
        by_test ItalicGood (after_lf s (p - st.pos) p)
        (λ _.
        marked refl (λ _. record { math_off = o.math_off; html_off = o.html_off; past_subscript = omega (arith, o.past_subscript, k.on); text = k.text })
        (λ _. inside Inside.line_break) (λ _. both (italic_run p) (inside Inside.line_break)))
        (λ _. f)

    italic_one : byte_at s p under ≡ false → ItalicQ (p + 1) → ItalicGood (plain_rule strict s st st.pos p)
    unfolding plain_rule
    italic_one n f =
        by_test ItalicGood (byte_at s p lf) (λ _. italic_newline f) (λ _.
        by_test ItalicGood (byte_at s p under) (λ t. clash n t) (λ _. f))

    italic_two : doubled_at s p under ≡ true → ItalicQ (p + 2) → ItalicGood (under_rule strict s st p)
    unfolding under_rule
    italic_two d f = by_test ItalicGood (doubled_at s p under) (λ _. f) (λ n. clash n d)

    italic_last : doubled_at s p under ≡ false → p ≡ st.end_italic → ItalicGood (under_rule strict s st p)
    unfolding under_rule
    italic_last d z =
        by_test ItalicGood (doubled_at s p under) (λ t. clash d t) (λ _.
        by_test ItalicGood (eqb p st.end_italic)
        (λ _.
        marked refl
        (λ _. record { math_off = o.math_off; loose = record { past_subscript = omega (arith, o.past_subscript, k.on); no_italic_case = λ i a u. ne_eqb i st.end_italic (λ e. omega arith) } })
        (λ _. end_italic) (λ _. both (italic_run p) end_italic))
        (λ n. absurd (eqb-false p st.end_italic n z)))

    by_italic_place : ItalicPlace s p → ItalicGood (first_rule strict s st st.pos p)
    by_italic_place (texts.two d z) =
        let t = doubled_first s p under d in
        to_plain s st st.pos p ItalicGood o.math_off o.html_off (under_barless s p t)
        (to_under s st st.pos p ItalicGood t (italic_two d (on_to (p + 2) (omega arith) (doubled_within s p under d) z)))
    by_italic_place (texts.one f n z) =
        to_plain s st st.pos p ItalicGood o.math_off o.html_off f (italic_one n (on_to (p + 1) (omega arith) (omega arith) z))
    by_italic_place (texts.last d z) =
        let e : p ≡ st.end_italic = sym z ∙ k.text.ends in
        let t : byte_at s p under ≡ true = rw e k.text.closed in
        to_plain s st st.pos p ItalicGood o.math_off o.html_off (under_barless s p t) (to_under s st st.pos p ItalicGood t (italic_last d e))

    italic_act : ItalicGood (pass_act strict s st st.pos p)
    italic_act = steps_on s st st.pos p ItalicGood (omega (arith, o.past_subscript, k.on)) (by_italic_place (italic_place s p l))

  pub italic_pass : ItalicR (pass strict s st st.pos)
  italic_pass =
      pass_by strict s st st.pos ItalicQ ItalicR italic_act
      (λ p k h. absurd (let y : ⊥ = omega (arith, byte_within s st.end_italic under k.text.closed, k.text.up) in y))
      (record { on = le_refl st.pos; text = o.text })

-- BEHIND THE MARK THAT STARTS A SUBSCRIPT

module _ (s : List ℕ) (n : ℕ) (st : ParserState) (o : InSubscript s n st) where
  abbrev SubR : Run → Type 0
  SubR = RunPassed s (behind_start n) st st.pos

  pub record SubQ (p : ℕ) : Type 0 where
    pub on : st.pos ≤ p
    pub before : p < st.end_subscript

  sub_run : (q : ℕ) → Goes (behind_start n) (run_item st st.pos q) (behind_text q)
  sub_run q = rw (text_run st st.pos q o.math_off, o.here) subscript_text

  module _ (p : ℕ) (k : SubQ p) (l : p < length s) where
    abbrev SubGood : Act → Type 0
    SubGood = Good SubQ SubR p

    byte : SubscriptByte s p
    byte = o.text.bytes p (omega (arith, o.here, k.on)) k.before

    sub_step : SubGood (step_to st (p + 1) One)
    unfolding step_to
    sub_step =
        by_test SubGood (eqb (p + 1) st.end_subscript)
        (λ t.
        let e = eqb-true (p + 1) st.end_subscript t in
        marked refl
        (λ _. record { math_off = o.math_off; loose = record { past_subscript = omega arith; no_italic_case = λ i a u. o.no_italic_case i (omega (arith, k.on)) u } })
        (λ u. absurd (let y : ⊥ = omega (arith, k.on) in y)) (λ _. both (sub_run (p + 1)) end_subscript))
        (λ t. record { on = omega (arith, k.on); before = let z = eqb-false (p + 1) st.end_subscript t in omega (arith, k.before) })

    -- what a step comes to
    abbrev SubActs : Act → Type 0
    SubActs a = SubGood (elim a [ One ↦ step_to st (p + 1) One | Two ↦ step_to st (p + 2) Two | Ends q t ↦ Ends q t ])

    sub_plain : SubActs (plain_rule strict s st st.pos p)
    unfolding plain_rule
    sub_plain =
        by_test SubActs (byte_at s p lf) (λ t. clash byte.no_lf t) (λ _.
        by_test SubActs (byte_at s p under) (λ t. clash byte.no_under t) (λ _. sub_step))

    sub_act : SubGood (pass_act strict s st st.pos p)
    unfolding pass_act
    sub_act = to_plain s st st.pos p SubActs o.math_off o.html_off byte.free sub_plain

  pub sub_pass : SubR (pass strict s st st.pos)
  sub_pass =
      pass_by strict s st st.pos SubQ SubR sub_act
      (λ p k h. absurd (let y : ⊥ = omega (arith, o.text.inside, k.before) in y))
      (record { on = le_refl st.pos; before = omega (arith, o.here, o.text.up) })
