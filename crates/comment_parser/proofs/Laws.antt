-- What a pass comes to, from what the loop of the code knows.
-- Assumes nothing.
use Prim.Native.Nat.{ℕ, suc, ◌+◌, ◌-◌, ◌≤◌, ◌<◌}
use mathlib.Core.Bool.{Bool, true, false, ◌&&◌, ◌||◌}
use mathlib.Core.Path.{◌≡◌, refl, ap, sym, ◌∙◌}
use mathlib.Core.List.{List}
use lib.ListN.{length}
use Rattle.std.specs.Prelude.{None}
use native.Mathlib.Omega.{arith}
use borrow.Author.Tests.{lt-ltb, le-ltb, ne_eqb}
use Rattle.byte_rules.specs.Reading.{Reading}
use Rattle.look.specs.Look.{byte_at, blank_at}
use Rattle.scans.specs.Marks.{lf}
use Rattle.scans.specs.Plain.{active_at, plain_step, plain_end}
use Rattle.scans.specs.Scan.{scan}
use Rattle.scans.specs.declared.Step.TheVariants.{One as StepOne}
use Rattle.scans.proofs.Laws.{by_less, scan_over, scan_le, scan_end}
use Rattle.scans.proofs.EndLaws.{blanks_stopped}
use Rattle.scans.proofs.PlainLaws.{active_free, plain_passed}
use Rattle.comment_parser.specs.State.{moved}
use Rattle.comment_parser.specs.Rules.{after_lf, plain_rule, text_rule, first_rule, step_to, pass_act}
use Rattle.comment_parser.specs.Pass.{step_of, run_to, pass_step, ended_at, pass, run_start}
use Rattle.comment_parser.specs.Notes.{Skipped}
use Rattle.comment_parser.specs.declared.ParserState.{ParserState}
use Rattle.comment_parser.specs.declared.Act.{Act}
use Rattle.comment_parser.specs.declared.Act.TheVariants.{One, Ends}

-- looking back for an LF: nothing before the run's start, and one byte further
pub lf_none : (s : List ℕ) (from i : ℕ) → i ≤ from → after_lf s (i - from) i ≡ false
unfolding after_lf
lf_none s from i h = let n : i - from ≡ 0 = omega arith in rw n

module _ (s : List ℕ) (from i : ℕ) (h : from < i) where
  lf_step : after_lf s (i - from) i ≡ (byte_at s (i - 1) lf || (blank_at s (i - 1) && after_lf s (i - 1 - from) (i - 1)))
  unfolding after_lf
  lf_step = let n : i - from ≡ suc (i - 1 - from) = omega arith in rw n

  pub lf_found : byte_at s (i - 1) lf ≡ true → after_lf s (i - from) i ≡ true
  lf_found t = lf_step ∙ rw t

  pub lf_back : byte_at s (i - 1) lf ≡ false → blank_at s (i - 1) ≡ true → after_lf s (i - from) i ≡ after_lf s (i - 1 - from) (i - 1)
  lf_back t b = lf_step ∙ rw (t, b)

  pub lf_not : byte_at s (i - 1) lf ≡ false → blank_at s (i - 1) ≡ false → after_lf s (i - from) i ≡ false
  lf_not t b = lf_step ∙ rw (t, b)

module _ (rd : Reading) (s : List ℕ) (st : ParserState) (from p : ℕ) where
  -- what the rule says at p
  pub step_is : (a : Act) → a ≡ pass_act rd s st from p → pass_step rd s st from p ≡ step_of a
  unfolding pass_step
  step_is a r = ap step_of (sym r)

  -- a rule ends the run that comes to p
  module _ (h : p < length s) where
    ends_here : (q : ℕ) (t : ParserState) → pass_act rd s st from p ≡ Ends q t → ended_at rd s st from p ≡ run_to q t
    unfolding ended_at
    ends_here q t r = rw (ended_at, lt-ltb p (length s) h, r)

    module _ (comes : scan (pass_step rd s st from) (length s) from ≡ p) where
      pub ended : (q : ℕ) (t : ParserState) → Ends q t ≡ pass_act rd s st from p → pass rd s st from ≡ run_to q t
      unfolding pass
      ended q t r = rw (pass, comes) (ends_here q t (sym r))

module _ (rd : Reading) (s : List ℕ) (st : ParserState) (from : ℕ) where
  pub ran_out : scan (pass_step rd s st from) (length s) from ≡ length s → pass rd s st from ≡ run_to (length s) (moved st (length s) None)
  unfolding pass ended_at
  ran_out i = rw (pass, i, ended_at, le-ltb (length s) (length s) (omega arith))

start_le : (b : Bool) (x y e : ℕ) → x ≤ e → y ≤ e → elim b [ true ↦ x | false ↦ y ] ≤ e
start_le true x y e p q = p
start_le false x y e p q = q

pub run_start_le : (s : List ℕ) (st : ParserState) → st.pos ≤ length s → run_start s st ≤ length s
unfolding run_start
run_start_le s st h = start_le st.math _ _ _ (scan_le _ _ _) h

-- in math no blank stands at a place
abbrev pub Clean : List ℕ → ParserState → ℕ → Type 0
Clean s st p = st.math ≡ true → blank_at s p ≡ false

-- blanks are skipped before the run, so it starts at such a place
pub run_start_clean : (s : List ℕ) (st : ParserState) → Clean s st (run_start s st)
unfolding run_start
run_start_clean s st m = rw (run_start, m) (blanks_stopped s st.pos)

-- a plain byte is stepped over

html_cases : (b : Bool) (x : Act) → x ≡ One → elim b [ true ↦ One | false ↦ x ] ≡ One
html_cases true x e = refl
html_cases false x e = e

module _ (rd : Reading) (s : List ℕ) (st : ParserState) (from k : ℕ) (h : k < length s) (m : active_at s k ≡ false) (o : st.math ≡ false) (n : k + 1 ≡ st.end_subscript → ⊥) where
  plain_is : plain_rule rd s st from k ≡ One
  unfolding plain_rule
  plain_is = let f = active_free s k h m in rw (plain_rule, f.not_5, f.not_6)

  text_is : text_rule rd s st from k ≡ One
  unfolding text_rule
  text_is = let f = active_free s k h m in rw (text_rule, f.not_2, f.not_3, f.not_4) (html_cases st.html (plain_rule rd s st from k) plain_is)

  first_is : first_rule rd s st from k ≡ One
  unfolding first_rule
  first_is = let f = active_free s k h m in rw (first_rule, f.not_1, o) text_is

  act_one : pass_act rd s st from k ≡ One
  unfolding pass_act step_to
  act_one = rw (pass_act, first_is, step_to, ne_eqb (k + 1) st.end_subscript n)

  pass_one : pass_step rd s st from k ≡ StepOne
  pass_one = step_is rd s st from k One (sym act_one)

-- a run goes on past plain bytes, in any reading, up to the step that reaches the noted subscript end
pub skip_to : (s : List ℕ) (st : ParserState) (p r : ℕ) → st.math ≡ false → r ≤ plain_end s p → (length s ≤ p → r ≡ length s) → (p ≤ length s → p ≤ r) → ((k : ℕ) → p ≤ k → k < r → k + 1 ≡ st.end_subscript → ⊥) → Skipped s st p r
skip_to s st p r o a b c d =
    let w : plain_end s p ≤ length s = scan_le (plain_step s) (length s) p in
    by_less (length s) p
    (λ l.
    let e : r ≡ length s = b (omega arith) in
    record {
      over = λ rd from. scan_end (pass_step rd s st from) (length s) p (omega arith) ∙ sym (scan_end (pass_step rd s st from) (length s) r (omega arith));
      onward = λ k x y. omega arith;
    })
    (λ l.
    let e : p ≤ r = c l in
    record {
      over = λ rd from. scan_over (pass_step rd s st from) (length s) p r e (omega arith) (λ k x y. pass_one rd s st from k (omega arith) (plain_passed s p k x (omega arith)) o (d k x y));
      onward = λ k x y. omega arith;
    })

-- a skip that stays before the end goes no way back
pub skip_less : (s : List ℕ) (st : ParserState) (p r : ℕ) → Skipped s st p r → r < length s → p ≤ r
skip_less s st p r k h =
    by_less (length s) p
    (λ l. absurd (let y : ⊥ = omega (arith, k.onward (length s) (omega arith) (omega arith)) in y))
    (λ l. k.onward p (omega arith) l)
