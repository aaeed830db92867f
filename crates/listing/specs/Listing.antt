-- The listing: a header, and a line for each event with the kind's name, place, start, end, and the number of the line that the place lies in.
use Rattle.std.specs.Prelude.{ℕ, List, [], ◌∷◌, ◌++◌, length}
use Rattle.byte_rules.specs.Reading.{Reading}
use Rattle.byte_rules.specs.Text.{bytes}
use Rattle.lines.specs.Lines.{line_of}
use Rattle.programs.specs.Lines.{line}
use Rattle.comment_parser.specs.Item.{placed_of}
use Rattle.comment_parser.specs.Events.{events_of}
use Rattle.comment_parser.specs.declared.CommentItem.{CommentItem}
use Rattle.comment_parser.specs.declared.CommentItem.TheVariants.{Text, LineBreak, StartMathMode, EndMathMode, MathToken, Label, Url, StartHtml, EndHtml, StartSubscript, EndSubscript, StartItalic, EndItalic, BibTag}

abbrev pub name_of : CommentItem → List ℕ
name_of (Text s) = bytes "Text"
name_of (LineBreak a) = bytes "LineBreak"
name_of (StartMathMode a) = bytes "StartMathMode"
name_of (EndMathMode a) = bytes "EndMathMode"
name_of (MathToken s) = bytes "MathToken"
name_of (Label a s) = bytes "Label"
name_of (Url a s) = bytes "Url"
name_of (StartHtml a) = bytes "StartHtml"
name_of (EndHtml a) = bytes "EndHtml"
name_of (StartSubscript a) = bytes "StartSubscript"
name_of (EndSubscript a) = bytes "EndSubscript"
name_of (StartItalic a) = bytes "StartItalic"
name_of (EndItalic a) = bytes "EndItalic"
name_of (BibTag s) = bytes "BibTag"

-- an event's line, by the number of the line that its place lies in
unfoldable pub event_line : CommentItem → ℕ → List ℕ
event_line i number = let p = placed_of i in line (name_of i) (p.place ∷ p.start ∷ p.end ∷ number ∷ [])

unfoldable pub lines_of : List ℕ → List CommentItem → List ℕ
lines_of comment [] = []
lines_of comment (i ∷ is) = event_line i (line_of comment (placed_of i).place) ++ lines_of comment is

-- the lines of a whole comment's events, in a reading
abbrev pub event_lines : Reading → List ℕ → List ℕ
event_lines rd comment = lines_of comment (events_of rd comment 0 (length comment))

abbrev pub header : List ℕ
header = bytes "kind\tplace\tstart\tend\tline\n"

unfoldable pub listing : Reading → List ℕ → List ℕ
listing rd comment = header ++ event_lines rd comment
