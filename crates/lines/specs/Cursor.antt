-- What private functions of this crate speak of: where the filling stands, and a walk that meets no LF.
-- No contract of another crate speaks of them.
use Rattle.std.specs.Prelude.{ℕ, ◌≤◌, ◌<◌, ◌≡◌, List, length, get_or}
use Rattle.scans.specs.Marks.{lf}
use Rattle.lines.specs.Lines.{line_of}
use Rattle.lines.specs.declared.cursor.Line.{Line}

-- from a on no LF stands before b
pub record Clear (buf : List ℕ) (a b : ℕ) : Type 0 where
  pub order : a ≤ b
  pub inside : b ≤ length buf
  pub same : line_of buf b ≡ line_of buf a

-- and at b the line ends: an LF, or the buffer's end
pub record LineEnd (buf : List ℕ) (a b : ℕ) : Type 0 where
  pub clear : Clear buf a b
  pub ends : b < length buf → get_or buf b 0 ≡ lf

-- a line of the buffer by its number, from a place of it on
pub record IsLine (buf : List ℕ) (l : Line) : Type 0 where
  pub number : l.number ≡ line_of buf l.from
  pub to_end : LineEnd buf l.from l.to
