-- The refusal of the parser's own unescape call, check by check: the span's, the state's end, the state's.
-- Assumes nothing.
use Prim.Native.Nat.{ℕ, ◌≤◌, ◌<◌}
use mathlib.Core.Path.{◌≡◌, refl}
use mathlib.Core.Bool.{Bool, true, false, cond, ◌||◌}
use mathlib.Core.Option.{Option, none, some}
use lib.Dec.{ltb}
use borrow.Author.Tests.{le-ltb, lt-ltb}
use Rattle.basics.proofs.Laws.{differ}
use Rattle.records.specs.Answer.{Answer, longest, too_long, bad_span, span_refusal, state_refusal}
use Rattle.comment_parser.specs.Own.{own_refusal}
use Rattle.comment_parser.specs.declared.ParserState.{ParserState}

-- by the tests alone: too long, the span's two, the state's end; `rest` is what the state gives
module _ (rest : Option Answer) where
  abbrev Span : Bool → Bool → Bool → Option Answer
  Span t x y = cond t (some too_long) (cond (x || y) (some bad_span) none)

  abbrev Own : Bool → Bool → Bool → Bool → Option Answer
  Own t x y z = cond t (some too_long) (cond (x || y || z) (some bad_span) rest)

  span_first : (t x y z : Bool) (a : Answer) → some a ≡ Span t x y → some a ≡ Own t x y z
  span_first true x y z a e = e
  span_first false true y z a e = e
  span_first false false true z a e = e
  span_first false false false z a e = absurd (differ cc)

  end_next : (t x y z : Bool) → none ≡ Span t x y → z ≡ true → some bad_span ≡ Own t x y z
  end_next true x y z e h = absurd (differ cc)
  end_next false true y z e h = absurd (differ cc)
  end_next false false true z e h = absurd (differ cc)
  end_next false false false true e h = refl
  end_next false false false false e h = absurd (differ cc)

  state_last : (t x y z : Bool) → none ≡ Span t x y → z ≡ false → cond t (some too_long) rest ≡ Own t x y z
  state_last true x y z e h = absurd (differ cc)
  state_last false true y z e h = absurd (differ cc)
  state_last false false true z e h = absurd (differ cc)
  state_last false false false true e h = absurd (differ cc)
  state_last false false false false e h = refl

module _ (len : ℕ) (st : ParserState) (start end : ℕ) where
  pub own_span : (a : Answer) → some a ≡ span_refusal len start end → some a ≡ own_refusal len st start end
  unfolding span_refusal own_refusal
  own_span a e = span_first _ (ltb longest len) (ltb end start) (ltb len end) (ltb st.end end) a e

  pub own_end : none ≡ span_refusal len start end → st.end < end → some bad_span ≡ own_refusal len st start end
  unfolding span_refusal own_refusal
  own_end e h = end_next _ (ltb longest len) (ltb end start) (ltb len end) (ltb st.end end) e (lt-ltb _ _ h)

  pub own_state : none ≡ span_refusal len start end → end ≤ st.end → state_refusal len st.pos st.end ≡ own_refusal len st start end
  unfolding span_refusal own_refusal state_refusal
  own_state e h = state_last _ (ltb longest len) (ltb end start) (ltb len end) (ltb st.end end) e (le-ltb _ _ h)
