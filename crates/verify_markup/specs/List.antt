-- The diagnostics of a span: those of each event, one after the other along the events, with the modes carried; last 9, then 10.
use Rattle.std.specs.Prelude.{ℕ, Bool, true, false, List, [], ◌∷◌, ◌++◌, Option, Some, None}
use Rattle.byte_rules.specs.Reading.{Reading}
use Rattle.comment_parser.specs.Events.{events_of}
use Rattle.comment_parser.specs.declared.CommentItem.{CommentItem}
use Rattle.comment_parser.specs.declared.CommentItem.TheVariants.{Text, LineBreak, StartMathMode, EndMathMode, MathToken, Label, Url}
use Rattle.comment_parser.specs.declared.CommentItem.TheVariants.{StartHtml, EndHtml, StartSubscript, EndSubscript, StartItalic, EndItalic, BibTag}
use Rattle.verify_markup.specs.declared.Modes.{Modes}
use Rattle.verify_markup.specs.Diag.{of_some, unclosed_math_markup, unclosed_html}
use Rattle.verify_markup.specs.Items.{Names, item_diags}

abbrev pub is_open : Option ℕ → Bool
is_open (Some i) = true
is_open None = false

-- where math and HTML were opened, if they are open
abbrev pub modes : Option ℕ → Option ℕ → Modes
modes m h = record { math = m; html = h }

abbrev pub closed : Modes
closed = modes None None

abbrev pub modes_after : Modes → CommentItem → Modes
modes_after m (Text s) = m
modes_after m (LineBreak i) = m
modes_after m (StartMathMode i) = modes (Some i) m.html
modes_after m (EndMathMode i) = modes None m.html
modes_after m (MathToken s) = m
modes_after m (Label i s) = m
modes_after m (Url i s) = m
modes_after m (StartHtml i) = modes m.math (Some i)
modes_after m (EndHtml i) = modes m.math None
modes_after m (StartSubscript i) = m
modes_after m (EndSubscript i) = m
modes_after m (StartItalic i) = m
modes_after m (EndItalic i) = m
modes_after m (BibTag s) = m

-- the record that is made of a mode that is open at the end of the span
abbrev pub unclosed : (ℕ → ℕ → List ℕ) → ℕ → Option ℕ → List (List ℕ)
unclosed made end = of_some (λ i. made i end)

unfoldable pub last_diags : ℕ → Modes → List (List ℕ)
last_diags end m = unclosed unclosed_math_markup end m.math ++ unclosed unclosed_html end m.html

module _ (buf : List ℕ) (end : ℕ) where
  unfoldable pub diags_from : Names → Modes → List CommentItem → List (List ℕ)
  diags_from n m [] = last_diags end m
  diags_from n m (i ∷ is) = item_diags buf n (is_open m.html) i ++ diags_from n (modes_after m i) is

-- all of a span, but for their lines
unfoldable pub diagnostics : Reading → Names → List ℕ → ℕ → ℕ → List (List ℕ)
diagnostics rd n buf start end = diags_from buf end n closed (events_of rd buf start end)
