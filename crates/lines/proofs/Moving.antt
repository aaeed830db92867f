-- The walk from line to line: bytes that are no LF, a line's end, and the line of a place.
-- Assumes nothing.
use mathlib.Core.Path.{◌≡◌, sym, ap, ◌∙◌}
use Prim.Native.Nat.{ℕ, ◌+◌, ◌≤◌, ◌<◌}
use native.Mathlib.Nat.{le_refl}
use native.Mathlib.Omega.{arith}
use mathlib.Core.List.{List}
use lib.ListN.{length, take, drop}
use Rattle.lines.specs.Lines.{lf_in, line_of}
use Rattle.lines.specs.Cursor.{Clear, LineEnd, IsLine}
use Rattle.lines.specs.declared.cursor.Line.{Line}
use Rattle.lines.proofs.Laws.{line_between, line_grows, line_behind, line_past}

module _ (buf : List ℕ) where
  -- n bytes further, none of which is an LF
  pub clear_part : (a n : ℕ) → a + n ≤ length buf → lf_in (take n (drop a buf)) ≡ 0 → Clear buf a (a + n)
  clear_part a n h z = record { order = omega arith; inside = h; same = omega (arith, line_between buf a n) }

module _ {buf : List ℕ} {a b : ℕ} (x : Clear buf a b) where
  pub clear_on : {c : ℕ} → Clear buf b c → Clear buf a c
  clear_on y = record { order = omega (arith, x.order, y.order); inside = y.inside; same = y.same ∙ x.same }

-- the line behind this one
pub next_line : (buf : List ℕ) (l : Line) (z : ℕ) → IsLine buf l → l.to < length buf → LineEnd buf (l.to + 1) z
    → IsLine buf (record { from = l.to + 1; to = z; number = l.number + 1 })
next_line buf l z is h e = record { number = omega (arith, line_behind buf l.to h (is.to_end.ends h), is.number, is.to_end.clear.same); to_end = e }

-- a place of the line has its number, and so has one past the buffer if the line is the last
module _ (buf : List ℕ) (l : Line) (is : IsLine buf l) where
  pub in_line : (p : ℕ) → l.from ≤ p → p ≤ l.to → l.number ≡ line_of buf p
  in_line p low high = omega (arith, (line_grows buf l.from p low).0, (line_grows buf p l.to high).0, is.number, is.to_end.clear.same)

  pub in_last : (p : ℕ) → l.to ≤ p → l.to ≡ length buf → l.number ≡ line_of buf p
  in_last p high last = in_line l.to is.to_end.clear.order (le_refl l.to) ∙ ap (line_of buf) last ∙ sym (line_past buf p (omega arith))
