-- Each answer of `next` is told by its number and values: two outcomes that its contract permits coincide. And what the parser's own unescape calls
-- refuse beyond what the plain ones do.
-- Assumes nothing.
use Prim.Native.Nat.{ℕ}
use mathlib.Core.Path.{◌≡◌, refl, ◌∙◌}
use mathlib.Core.Bool.{Bool, true, false, cond, ◌||◌}
use mathlib.Core.Option.{Option, none, some}
use lib.Dec.{ltb}
use Rattle.std.specs.Prelude.{None, Result, Ok, Err}
use borrow.Author.Tests.{ltb-false}
use Rattle.basics.proofs.Laws.{differ}
use Rattle.records.specs.Answer.{Answer, longest, too_long, bad_span, span_refusal}
use Rattle.records.proofs.Answers.{coincide, read_back, refused_back, span_good}
use Rattle.comment_parser.specs.Next.{Outcome, step_answer}
use Rattle.comment_parser.specs.Own.{own_refusal}
use Rattle.comment_parser.specs.declared.ParserState.{ParserState}
use Rattle.comment_parser.specs.declared.Next.{Next}
use Rattle.records.specs.declared.Refusal.{Refusal}

-- an outcome read back from its answer
step_back : Outcome → Result Next Refusal
step_back s = read_back (λ values. Ok (record { state = s.state; item = s.event })) Err s.answer

step_back_lem : (st : ParserState) (r : Result Next Refusal) → step_back (step_answer st r) ≡ r
unfolding step_back
step_back_lem st (Ok n) = refl
step_back_lem st (Err r) = refused_back (λ values. Ok (record { state = st; item = None })) Err r

pub next_one : (st : ParserState) (s : Outcome) (x y : Result Next Refusal) → step_answer st x ≡ s → step_answer st y ≡ s → x ≡ y
next_one st = coincide (step_answer st) step_back (step_back_lem st)

-- none of the tests held
none_held : (x y : Answer) (a b c d : Bool) (r : Option Answer) → cond a (some x) (cond (b || c || d) (some y) r) ≡ none → (a ≡ false) × (b ≡ false) × (c ≡ false)
none_held x y true b c d r h = absurd (differ cc)
none_held x y false true c d r h = absurd (differ cc)
none_held x y false false true d r h = absurd (differ cc)
none_held x y false false false d r h = (refl, refl, refl)

-- a span that the parser's own calls take is one that the plain calls take
pub own_good : (len : ℕ) (st : ParserState) (start end : ℕ) → own_refusal len st start end ≡ none → own_refusal len st start end ≡ span_refusal len start end
unfolding own_refusal
own_good len st start end h =
    let n = none_held too_long bad_span (ltb longest len) (ltb end start) (ltb len end) (ltb st.end end) _ h in
    h ∙ span_good len start end (ltb-false _ _ n.0) (ltb-false _ _ n.1) (ltb-false _ _ n.2)
