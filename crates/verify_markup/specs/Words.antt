-- What private functions of this crate speak of: a diagnostic as the code has it, its record, and writers of such records.
-- No contract of a public call speaks of them.
use Rattle.std.specs.Prelude.{ℕ, ◌≡◌, ◌≤◌, List, length, Option, Some, None}
use Rattle.basics.specs.declared.Span.{Span}
use Rattle.records.specs.Answer.{longest}
use Rattle.records.specs.Records.{laid, wrote_of}
use Rattle.records.specs.declared.Wrote.{Wrote}
use Rattle.verify_markup.specs.Diag.{diag_width, of_some, markup_needs_whitespace, uninterpreted_escape, uninterpreted_html, undefined_token, empty_label, unknown_label, bib_escape, undefined_bib_tag, unclosed_math_markup, unclosed_html}
use Rattle.verify_markup.specs.declared.diagnostic.Diagnostic.{Diagnostic}
use Rattle.verify_markup.specs.declared.diagnostic.Diagnostic.TheVariants.{MarkupNeedsWhitespace, UninterpretedEscape, UninterpretedHtml, UndefinedToken, EmptyLabel, UnknownLabel, BibEscape, UndefinedBibTag, UnclosedMathMarkup, UnclosedHtml}

-- a diagnostic's record, but for its line
abbrev pub words_of : Diagnostic → List ℕ
words_of (MarkupNeedsWhitespace mark) = markup_needs_whitespace mark
words_of (UninterpretedEscape byte) = uninterpreted_escape byte
words_of (UninterpretedHtml s) = uninterpreted_html s.start s.end
words_of (UndefinedToken s) = undefined_token s.start s.end
words_of (EmptyLabel tilde) = empty_label tilde
words_of (UnknownLabel s) = unknown_label s.start s.end
words_of (BibEscape byte s) = bib_escape byte s.start s.end
words_of (UndefinedBibTag s) = undefined_bib_tag s.start s.end
words_of (UnclosedMathMarkup opening end) = unclosed_math_markup opening end
words_of (UnclosedHtml opening end) = unclosed_html opening end

-- the places of a span fit a word of 32 bits
abbrev pub SpanFits : Span → Type 0
SpanFits s = (s.start ≤ longest) × (s.end ≤ longest)

-- all places of a diagnostic do
abbrev pub FitsWords : Diagnostic → Type 0
FitsWords (MarkupNeedsWhitespace mark) = mark ≤ longest
FitsWords (UninterpretedEscape byte) = byte ≤ longest
FitsWords (UninterpretedHtml s) = SpanFits s
FitsWords (UndefinedToken s) = SpanFits s
FitsWords (EmptyLabel tilde) = tilde ≤ longest
FitsWords (UnknownLabel s) = SpanFits s
FitsWords (BibEscape byte s) = (byte ≤ longest) × SpanFits s
FitsWords (UndefinedBibTag s) = SpanFits s
FitsWords (UnclosedMathMarkup opening end) = (opening ≤ longest) × (end ≤ longest)
FitsWords (UnclosedHtml opening end) = (opening ≤ longest) × (end ≤ longest)

-- the same of a diagnostic, if there is one
abbrev pub words_if : Option Diagnostic → List (List ℕ)
words_if = of_some words_of

abbrev pub FitsIf : Option Diagnostic → Type 0
FitsIf (Some d) = FitsWords d
FitsIf None = Unit

-- a writer of these records was lent the room `old`, left `new`, and answered `wrote`: the room keeps its length, and the words that were written lie in it
pub record Writes (ws : List (List ℕ)) (old new : List ℕ) (wrote : Wrote) : Type 0 where
  pub told : wrote ≡ wrote_of diag_width ws (length old)
  pub left : new ≡ laid diag_width ws old
  pub long : length new ≡ length old
  pub inside : wrote.words ≤ length new
