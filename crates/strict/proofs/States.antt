-- What holds of the parser's state in each place of the grammar. A noted end that was passed is never met again: outside and in math the noted
-- subscript end is not ahead, and no italic end is; in a subscript and in an italic the noted end is that of the text that is being read.
-- Assumes nothing.
use Prim.Native.Nat.{ℕ, ◌+◌, ◌≤◌, ◌<◌}
use mathlib.Core.Bool.{true, false}
use mathlib.Core.List.{List}
use mathlib.Core.Path.{◌≡◌, refl}
use native.Mathlib.Omega.{arith}
use borrow.Author.Tests.{ne_eqb}
use lib.Dec.{eqb}
use lib.ListN.{length}
use Rattle.std.specs.Prelude.{None}
use Rattle.byte_rules.specs.declared.reading.Reading.{Reading as Name}
use Rattle.records.specs.Answer.{longest}
use Rattle.comment_parser.specs.State.{fresh, moved, no_italic}
use Rattle.comment_parser.specs.declared.ParserState.{ParserState}
use Rattle.strict.proofs.Grammar.{Mode, outside, in_italic, in_math_case, behind_start, behind_text}
use Rattle.strict.proofs.Texts.{SubscriptText, ItalicText}

module _ (s : List ℕ) where
  -- no italic's noted end is ahead
  abbrev pub NoItalic : ParserState → Type 0
  NoItalic st = (p : ℕ) → st.pos ≤ p → p < length s → eqb p st.end_italic ≡ false

  pub record Loose (st : ParserState) : Type 0 where
    pub past_subscript : st.end_subscript ≤ st.pos
    pub no_italic_case : NoItalic st

  pub record Outside (st : ParserState) : Type 0 where
    pub math_off : st.math ≡ false
    pub loose : Loose st

  pub record InMath (st : ParserState) : Type 0 where
    pub math_on : st.math ≡ true
    pub loose : Loose st

  -- behind the StartSubscript at p
  pub record InSubscript (p : ℕ) (st : ParserState) : Type 0 where
    pub math_off : st.math ≡ false
    pub html_off : st.html ≡ false
    pub here : st.pos ≡ p + 1
    pub text : SubscriptText s (p + 1) st.end_subscript
    pub no_italic_case : NoItalic st

  pub record InItalic (st : ParserState) : Type 0 where
    pub math_off : st.math ≡ false
    pub html_off : st.html ≡ false
    pub past_subscript : st.end_subscript ≤ st.pos
    pub text : ItalicText s st.pos st.end_italic

  -- no pass begins between a subscript's text and its end
  abbrev pub Stands : Mode → ParserState → Type 0
  Stands outside st = Outside st
  Stands in_math_case st = InMath st
  Stands in_italic st = InItalic st
  Stands (behind_start p) st = InSubscript p st
  Stands (behind_text q) st = ⊥

  -- further on, with the same noted ends
  pub later : {st : ParserState} → Loose st → (t : ParserState) → t.end_subscript ≡ st.end_subscript → t.end_italic ≡ st.end_italic → st.pos ≤ t.pos → Loose t
  later o t e f h = record { past_subscript = omega (arith, o.past_subscript); no_italic_case = λ p a l. rw f (o.no_italic_case p (omega arith) l) }

  -- what waits does not matter
  pub idle : (m : Mode) (t : ParserState) → Stands m t → Stands m (moved t t.pos None)
  idle outside t i = record { math_off = i.math_off; loose = record { past_subscript = i.loose.past_subscript; no_italic_case = i.loose.no_italic_case } }
  idle in_math_case t i = record { math_on = i.math_on; loose = record { past_subscript = i.loose.past_subscript; no_italic_case = i.loose.no_italic_case } }
  idle in_italic t i = record { math_off = i.math_off; html_off = i.html_off; past_subscript = i.past_subscript; text = i.text }
  idle (behind_start p) t i = record { math_off = i.math_off; html_off = i.html_off; here = i.here; text = i.text; no_italic_case = i.no_italic_case }
  idle (behind_text q) t i = i

  -- a fresh start
  pub fresh_stands : (name : Name) (a b : ℕ) → length s ≤ longest → Stands outside (fresh name a b)
  fresh_stands name a b h =
      record { math_off = refl; loose = record { past_subscript = omega arith; no_italic_case = λ p i l. ne_eqb p no_italic (λ e. omega arith) } }
