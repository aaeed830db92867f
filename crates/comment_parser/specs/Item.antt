-- An item's record form: kind, place, start, end. A span alone has its start as place; a place alone has start and end equal to it.
use Rattle.std.specs.Prelude.{ℕ}
use Rattle.basics.specs.declared.Span.{Span}
use Rattle.comment_parser.specs.declared.Placed.{Placed}
use Rattle.comment_parser.specs.declared.CommentItem.{CommentItem}
use Rattle.comment_parser.specs.declared.CommentItem.TheVariants.{Text, LineBreak, StartMathMode, EndMathMode, MathToken, Label, Url}
use Rattle.comment_parser.specs.declared.CommentItem.TheVariants.{StartHtml, EndHtml, StartSubscript, EndSubscript, StartItalic, EndItalic, BibTag}

abbrev pub span : ℕ → ℕ → Span
span a b = record { start = a; end = b }

-- a place alone
abbrev pub point : ℕ → ℕ → Placed
point kind at = record { kind = kind; place = at; start = at; end = at }

-- a span, and its place
abbrev pub spread : ℕ → ℕ → Span → Placed
spread kind at s = record { kind = kind; place = at; start = s.start; end = s.end }

-- kinds 1 to 14 follow the enum's order
abbrev pub placed_of : CommentItem → Placed
placed_of (Text s) = spread 1 s.start s
placed_of (LineBreak a) = point 2 a
placed_of (StartMathMode a) = point 3 a
placed_of (EndMathMode a) = point 4 a
placed_of (MathToken s) = spread 5 s.start s
placed_of (Label a s) = spread 6 a s
placed_of (Url a s) = spread 7 a s
placed_of (StartHtml a) = point 8 a
placed_of (EndHtml a) = point 9 a
placed_of (StartSubscript a) = point 10 a
placed_of (EndSubscript a) = point 11 a
placed_of (StartItalic a) = point 12 a
placed_of (EndItalic a) = point 13 a
placed_of (BibTag s) = spread 14 s.start s
