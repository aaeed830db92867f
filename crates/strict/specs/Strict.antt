-- THE MARKS OF THE STRICT READING PAIR, the statement. Words in double quotes are those of request P8. It stands on the events of a span in any reading
-- (comment_parser, demand 2) and cites no reading rule. The theorem at the end is proved in proofs/Theorem.antt; that each of its three sentences fails
-- in the Rust's reading, in proofs/Checks.antt.
use Rattle.std.specs.Prelude.{ℕ, ◌+◌, List, [], ◌∷◌, ◌++◌, ◌≡◌}
use Rattle.byte_rules.specs.Text.{bytes}
use Rattle.byte_rules.specs.Reading.{rust, strict}
use Rattle.comment_parser.specs.Item.{span}
use Rattle.comment_parser.specs.Events.{events_of}
use Rattle.basics.specs.declared.Span.{Span}
use Rattle.comment_parser.specs.declared.CommentItem.{CommentItem}
use Rattle.comment_parser.specs.declared.CommentItem.TheVariants.{Text, LineBreak, StartMathMode, EndMathMode, MathToken, Label, Url, StartHtml, EndHtml, StartSubscript, EndSubscript, StartItalic, EndItalic, BibTag}

-- THE GRAMMAR of an event list.

-- the events that stand alone
pub data Alone : CommentItem → Type 0 where
  text : {x : Span} → Alone (Text x)
  line_break : {p : ℕ} → Alone (LineBreak p)
  label : {p : ℕ} {x : Span} → Alone (Label p x)
  url : {p : ℕ} {x : Span} → Alone (Url p x)
  start_html : {p : ℕ} → Alone (StartHtml p)
  end_html : {p : ℕ} → Alone (EndHtml p)
  tag : {x : Span} → Alone (BibTag x)

-- the events that may stand in an italic
pub data Inside : CommentItem → Type 0 where
  text : {x : Span} → Inside (Text x)
  line_break : {p : ℕ} → Inside (LineBreak p)

pub data Where : Type 0 where
  outside in_italic in_math_case : Where

-- A list of events, read from outside, from within an italic or from within math: an event alone; a whole subscript; an italic up to its end; math up
-- to its end or to the end of the list.
pub data WellFormed : Where → List CommentItem → Type 0 where
  the_end : WellFormed outside []
  alone : {c : CommentItem} {es : List CommentItem} → Alone c → WellFormed outside es → WellFormed outside (c ∷ es)
  subscript : {p q : ℕ} {es : List CommentItem} → WellFormed outside es → WellFormed outside (StartSubscript p ∷ Text (span (p + 1) q) ∷ EndSubscript q ∷ es)
  start_italic : {p : ℕ} {es : List CommentItem} → WellFormed in_italic es → WellFormed outside (StartItalic p ∷ es)
  inside : {c : CommentItem} {es : List CommentItem} → Inside c → WellFormed in_italic es → WellFormed in_italic (c ∷ es)
  end_italic : {p : ℕ} {es : List CommentItem} → WellFormed outside es → WellFormed in_italic (EndItalic p ∷ es)
  start_math : {p : ℕ} {es : List CommentItem} → WellFormed in_math_case es → WellFormed outside (StartMathMode p ∷ es)
  token : {x : Span} {es : List CommentItem} → WellFormed in_math_case es → WellFormed in_math_case (MathToken x ∷ es)
  end_math : {p : ℕ} {es : List CommentItem} → WellFormed outside es → WellFormed in_math_case (EndMathMode p ∷ es)
  ends_in_math : WellFormed in_math_case []

-- WHAT FOLLOWS an event.

-- "exactly one Text and EndSubscript": the text from behind the mark at p up to the end
pub data OneTextAndEnd (p : ℕ) : List CommentItem → Type 0 where
  one_text_and_end : {q : ℕ} {es : List CommentItem} → OneTextAndEnd p (Text (span (p + 1) q) ∷ EndSubscript q ∷ es)

-- "only Text and LineBreak until its EndItalic"
pub data UntilEndItalic : List CommentItem → Type 0 where
  only_inside : {c : CommentItem} {es : List CommentItem} → Inside c → UntilEndItalic es → UntilEndItalic (c ∷ es)
  until_end_italic : {q : ℕ} {es : List CommentItem} → UntilEndItalic (EndItalic q ∷ es)

-- "only MathTokens", up to the mark that ends math or to the end of the list
pub data UntilEndMath : List CommentItem → Type 0 where
  only_token : {x : Span} {es : List CommentItem} → UntilEndMath es → UntilEndMath (MathToken x ∷ es)
  until_end_math : {q : ℕ} {es : List CommentItem} → UntilEndMath (EndMathMode q ∷ es)
  until_the_end : UntilEndMath []

-- WHAT PRECEDES an event: the same the other way round.

pub data StartAndOneText (q : ℕ) : List CommentItem → Type 0 where
  start_and_one_text : (es : List CommentItem) (p : ℕ) → StartAndOneText q (es ++ StartSubscript p ∷ Text (span (p + 1) q) ∷ [])

pub data SinceStartItalic : List CommentItem → Type 0 where
  since_start_italic : (es : List CommentItem) (p : ℕ) → SinceStartItalic (es ++ StartItalic p ∷ [])
  only_inside : (es : List CommentItem) (c : CommentItem) → Inside c → SinceStartItalic es → SinceStartItalic (es ++ c ∷ [])

pub data SinceStartMath : List CommentItem → Type 0 where
  since_start_math : (es : List CommentItem) (p : ℕ) → SinceStartMath (es ++ StartMathMode p ∷ [])
  only_token : (es : List CommentItem) (x : Span) → SinceStartMath es → SinceStartMath (es ++ MathToken x ∷ [])

-- THE THREE SENTENCES, of a list of events. `before` and `after` are the events before and after one of them.

-- (1) "StartSubscript is followed by exactly one Text and EndSubscript"
abbrev pub SubscriptsEnd : List CommentItem → Type 0
SubscriptsEnd es = (before after : List CommentItem) (p : ℕ) → es ≡ before ++ StartSubscript p ∷ after → OneTextAndEnd p after

-- (2) "StartItalic is followed by only Text and LineBreak until its EndItalic"
abbrev pub ItalicsEnd : List CommentItem → Type 0
ItalicsEnd es = (before after : List CommentItem) (p : ℕ) → es ≡ before ++ StartItalic p ∷ after → UntilEndItalic after

-- (3) "in math stand only MathTokens"
abbrev pub OnlyTokens : List CommentItem → Type 0
OnlyTokens es = (before after : List CommentItem) (p : ℕ) → es ≡ before ++ StartMathMode p ∷ after → UntilEndMath after

-- THE THEOREM, of a list of events: the grammar, the three sentences, and the other way round: an end, or a token, stands nowhere else
pub record MarksPair (es : List CommentItem) : Type 0 where
  pub well_formed : WellFormed outside es
  pub subscript_starts : SubscriptsEnd es
  pub subscript_ends : (before after : List CommentItem) (q : ℕ) → es ≡ before ++ EndSubscript q ∷ after → StartAndOneText q before
  pub italic_starts : ItalicsEnd es
  pub italic_ends : (before after : List CommentItem) (q : ℕ) → es ≡ before ++ EndItalic q ∷ after → SinceStartItalic before
  pub math_starts : OnlyTokens es
  pub math_tokens : (before after : List CommentItem) (x : Span) → es ≡ before ++ MathToken x ∷ after → SinceStartMath before
  pub math_ends : (before after : List CommentItem) (q : ℕ) → es ≡ before ++ EndMathMode q ∷ after → SinceStartMath before

-- of every span of every buffer: one that is refused has no events
abbrev pub StrictMarksPair : Type 0
StrictMarksPair = (buf : List ℕ) (a b : ℕ) → MarksPair (events_of strict buf a b)

-- IN THE RUST'S READING each of the three sentences fails.
pub record RustDoesNot : Type 0 where
  pub subscripts : SubscriptsEnd (events_of rust (bytes "x_0`b.c`") 0 8) → ⊥
  pub italics : ItalicsEnd (events_of rust (bytes "_a`a_") 0 5) → ⊥
  pub tokens : OnlyTokens (events_of rust (bytes "x_0`b.c`") 0 8) → ⊥
