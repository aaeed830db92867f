-- The first of what is left: a byte (text_at), a number with its tab (fields_at), and a number with what stands behind it, LF at the line's end (rows_end) and else a tab (rows_on).
-- Assumes nothing.
use Prim.Native.Nat.{ℕ, ◌+◌, ◌<◌}
use mathlib.Core.Path.{◌≡◌}
use mathlib.Core.List.{List, [], ◌∷◌, ◌++◌, append_assoc}
use native.Mathlib.Numerals.{add-one}
use borrow.Author.Tests.{eq-eqb, ne_eqb}
use lib.ListN.{length, get_or, drop}
use lib.Seq.{drop-cons}
use Rattle.decimal.specs.Decimal.{decimal}
use Rattle.programs.specs.Lines.{field, fields, rows}

pub text_at : (text : List ℕ) (i : ℕ) → i < length text → drop i text ≡ (get_or text i 0 ∷ []) ++ drop (i + 1) text
text_at text i h = rw (drop-cons text i 0 h, add-one i)

pub fields_at : (ns : List ℕ) (i : ℕ) → i < length ns → fields (drop i ns) ≡ field (get_or ns i 0) ++ fields (drop (i + 1) ns)
unfolding fields
fields_at ns i h = rw (drop-cons ns i 0 h, add-one i)

module _ (width column : ℕ) (ws : List ℕ) (i : ℕ) (more : i < length ws) where
  pub rows_end : column + 1 ≡ width → rows width column (drop i ws) ≡ (decimal (get_or ws i 0) ++ (10 ∷ [])) ++ rows width 0 (drop (i + 1) ws)
  unfolding rows
  rows_end h = rw (drop-cons ws i 0 more, add-one i, append_assoc, eq-eqb (column + 1) width h)

  pub rows_on : (column + 1 ≡ width → ⊥) → rows width column (drop i ws) ≡ (decimal (get_or ws i 0) ++ (9 ∷ [])) ++ rows width (column + 1) (drop (i + 1) ws)
  unfolding rows
  rows_on h = rw (drop-cons ws i 0 more, add-one i, append_assoc, ne_eqb (column + 1) width h)
