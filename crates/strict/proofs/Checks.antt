-- The Rust's reading does not pair its marks: each of the three sentences fails on a comment, computed.
-- Assumes nothing.
use Prim.Native.Nat.{ℕ}
use mathlib.Core.List.{List, [], ◌∷◌}
use mathlib.Core.Path.{◌≡◌, refl}
use Rattle.basics.specs.declared.Span.{Span}
use Rattle.basics.proofs.Laws.{differ}
use Rattle.byte_rules.specs.Text.{bytes}
use Rattle.byte_rules.specs.Classes.{is_blank, is_closer, is_italic_opener, is_digit, is_capital, is_small, is_alphanumeric}
use Rattle.byte_rules.specs.Reading.{rust, bars_nothing}
use Rattle.look.specs.Look.{holds_at, is_byte, byte_at, blank_at, alphanumeric_at, closer_at, italic_opener_at, doubled_at, word_at}
use Rattle.scans.specs.Scan.{walk, scan}
use Rattle.scans.specs.Ends.{blanks_step, subscript_step, italic_step, closes_italic, subscript_end, italic_end}
use Rattle.records.specs.Answer.{state_refusal}
use Rattle.records.specs.Produced.{turns, produced}
use Rattle.comment_parser.specs.Item.{span}
use Rattle.comment_parser.specs.Rules.{blank_before, opens_ahead, before_open, after_close, tick_rule, math_rule, opens_italic, step_to, open_under, under_rule, plain_rule, text_rule, first_rule, pass_act}
use Rattle.comment_parser.specs.Pass.{run_start, pass_step, ended_at, pass, run_item}
use Rattle.comment_parser.specs.Next.{give, read_on, answered, next_of}
use Rattle.comment_parser.specs.Events.{seen, events_from, events_of}
use Rattle.comment_parser.specs.declared.CommentItem.{CommentItem}
use Rattle.comment_parser.specs.declared.CommentItem.TheVariants.{Text, StartMathMode, EndMathMode, MathToken, StartSubscript, EndSubscript, StartItalic}
use Rattle.strict.specs.Strict.{Inside, OneTextAndEnd, one_text_and_end, UntilEndItalic, UntilEndMath, RustDoesNot}

-- math starts within the subscript, and the subscript ends within math
crossed : events_of rust (bytes "x_0`b.c`") 0 8 ≡ Text (span 0 1) ∷ StartSubscript 1 ∷ Text (span 2 3) ∷ StartMathMode 3 ∷ MathToken (span 4 5) ∷ EndSubscript 5 ∷ MathToken (span 5 7) ∷ EndMathMode 7 ∷ []
unfolding is_blank is_closer is_italic_opener is_digit is_capital is_small is_alphanumeric bars_nothing holds_at is_byte byte_at blank_at alphanumeric_at closer_at italic_opener_at doubled_at word_at walk scan blanks_step subscript_step italic_step closes_italic subscript_end italic_end state_refusal turns produced blank_before opens_ahead before_open after_close tick_rule math_rule opens_italic step_to open_under under_rule plain_rule text_rule first_rule pass_act run_start pass_step ended_at pass run_item give read_on answered next_of seen events_from events_of
crossed = refl

-- the italic's end is taken by a token
lost : events_of rust (bytes "_a`a_") 0 5 ≡ StartItalic 0 ∷ Text (span 1 2) ∷ StartMathMode 2 ∷ MathToken (span 3 5) ∷ []
unfolding is_blank is_closer is_italic_opener is_digit is_capital is_small is_alphanumeric bars_nothing holds_at is_byte byte_at blank_at alphanumeric_at closer_at italic_opener_at doubled_at word_at walk scan blanks_step subscript_step italic_step closes_italic subscript_end italic_end state_refusal turns produced blank_before opens_ahead before_open after_close tick_rule math_rule opens_italic step_to open_under under_rule plain_rule text_rule first_rule pass_act run_start pass_step ended_at pass run_item give read_on answered next_of seen events_from events_of
lost = refl

-- (1)
no_math : {p : ℕ} {es : List CommentItem} → OneTextAndEnd p es → (x : Span) (q : ℕ) (fs : List CommentItem) → es ≡ Text x ∷ StartMathMode q ∷ fs → ⊥
no_math one_text_and_end x q fs e = differ cc

-- (2)
not_inside : {c : CommentItem} → Inside c → (q : ℕ) → c ≡ StartMathMode q → ⊥
not_inside Inside.text q e = differ cc
not_inside Inside.line_break q e = differ cc

no_mark : {es : List CommentItem} → UntilEndItalic es → (q : ℕ) (fs : List CommentItem) → es ≡ StartMathMode q ∷ fs → ⊥
no_mark (UntilEndItalic.only_inside {c = c} a u) q fs e = let x : c ≡ StartMathMode q = cc in not_inside a q x
no_mark UntilEndItalic.until_end_italic q fs e = differ cc

no_math_behind : {es : List CommentItem} → UntilEndItalic es → (x : Span) (q : ℕ) (fs : List CommentItem) → es ≡ Text x ∷ StartMathMode q ∷ fs → ⊥
no_math_behind (UntilEndItalic.only_inside {es = es} a u) x q fs e = let y : es ≡ StartMathMode q ∷ fs = cc in no_mark u q fs y
no_math_behind UntilEndItalic.until_end_italic x q fs e = differ cc

-- (3)
no_end : {es : List CommentItem} → UntilEndMath es → (q : ℕ) (fs : List CommentItem) → es ≡ EndSubscript q ∷ fs → ⊥
no_end (UntilEndMath.only_token u) q fs e = differ cc
no_end UntilEndMath.until_end_math q fs e = differ cc
no_end UntilEndMath.until_the_end q fs e = differ cc

no_end_behind : {es : List CommentItem} → UntilEndMath es → (x : Span) (q : ℕ) (fs : List CommentItem) → es ≡ MathToken x ∷ EndSubscript q ∷ fs → ⊥
no_end_behind (UntilEndMath.only_token {es = es} u) x q fs e = let y : es ≡ EndSubscript q ∷ fs = cc in no_end u q fs y
no_end_behind UntilEndMath.until_end_math x q fs e = differ cc
no_end_behind UntilEndMath.until_the_end x q fs e = differ cc

pub rust_does_not : RustDoesNot
rust_does_not = record {
  subscripts = λ k. no_math (k (Text (span 0 1) ∷ []) _ 1 crossed) _ _ _ refl;
  italics = λ k. no_math_behind (k [] _ 0 lost) _ _ _ refl;
  tokens = λ k. no_end_behind (k (Text (span 0 1) ∷ StartSubscript 1 ∷ Text (span 2 3) ∷ []) _ 3 crossed) _ _ _ refl;
}
