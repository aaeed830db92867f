-- The names of the kinds, end to end in the order of the kinds' numbers, with where each of them ends: between two ends stands the name of a kind.
-- Assumes nothing.
use Prim.Native.Nat.{ℕ, ◌-◌, ◌≤◌}
use mathlib.Core.Path.{◌≡◌, refl}
use mathlib.Core.List.{List, [], ◌∷◌}
use native.Mathlib.Omega.{arith}
use lib.ListN.{length, get_or, take, drop}
use Rattle.byte_rules.specs.Text.{bytes}
use Rattle.comment_parser.specs.Item.{placed_of}
use Rattle.comment_parser.specs.declared.CommentItem.{CommentItem}
use Rattle.comment_parser.specs.declared.CommentItem.TheVariants.{Text, LineBreak, StartMathMode, EndMathMode, MathToken, Label, Url, StartHtml, EndHtml, StartSubscript, EndSubscript, StartItalic, EndItalic, BibTag}
use Rattle.listing.specs.Listing.{name_of}

abbrev pub names : List ℕ
names = bytes "TextLineBreakStartMathModeEndMathModeMathTokenLabelUrlStartHtmlEndHtmlStartSubscriptEndSubscriptStartItalicEndItalicBibTag"

abbrev pub ends : ℕ → ℕ
ends k = get_or (0 ∷ 4 ∷ 13 ∷ 26 ∷ 37 ∷ 46 ∷ 51 ∷ 54 ∷ 63 ∷ 70 ∷ 84 ∷ 96 ∷ 107 ∷ 116 ∷ 122 ∷ []) k 0

-- the name of a kind, between two ends
pub record Named (kind : ℕ) (name : List ℕ) : Type 0 where
  pub low : 1 ≤ kind
  pub high : kind ≤ 14
  pub order : ends (kind - 1) ≤ ends kind
  pub inside : ends kind ≤ 122
  pub short : length name ≤ 14
  pub is : take (ends kind - ends (kind - 1)) (drop (ends (kind - 1)) names) ≡ name

pub named : (i : CommentItem) → Named (placed_of i).kind (name_of i)
named (Text s) = record { low = omega arith; high = omega arith; order = omega arith; inside = omega arith; short = omega arith; is = refl }
named (LineBreak a) = record { low = omega arith; high = omega arith; order = omega arith; inside = omega arith; short = omega arith; is = refl }
named (StartMathMode a) = record { low = omega arith; high = omega arith; order = omega arith; inside = omega arith; short = omega arith; is = refl }
named (EndMathMode a) = record { low = omega arith; high = omega arith; order = omega arith; inside = omega arith; short = omega arith; is = refl }
named (MathToken s) = record { low = omega arith; high = omega arith; order = omega arith; inside = omega arith; short = omega arith; is = refl }
named (Label a s) = record { low = omega arith; high = omega arith; order = omega arith; inside = omega arith; short = omega arith; is = refl }
named (Url a s) = record { low = omega arith; high = omega arith; order = omega arith; inside = omega arith; short = omega arith; is = refl }
named (StartHtml a) = record { low = omega arith; high = omega arith; order = omega arith; inside = omega arith; short = omega arith; is = refl }
named (EndHtml a) = record { low = omega arith; high = omega arith; order = omega arith; inside = omega arith; short = omega arith; is = refl }
named (StartSubscript a) = record { low = omega arith; high = omega arith; order = omega arith; inside = omega arith; short = omega arith; is = refl }
named (EndSubscript a) = record { low = omega arith; high = omega arith; order = omega arith; inside = omega arith; short = omega arith; is = refl }
named (StartItalic a) = record { low = omega arith; high = omega arith; order = omega arith; inside = omega arith; short = omega arith; is = refl }
named (EndItalic a) = record { low = omega arith; high = omega arith; order = omega arith; inside = omega arith; short = omega arith; is = refl }
named (BibTag s) = record { low = omega arith; high = omega arith; order = omega arith; inside = omega arith; short = omega arith; is = refl }
