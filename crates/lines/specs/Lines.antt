-- Line numbers (request P6): the line of a place, a record with its line, and what filling in the lines leaves.
use Rattle.std.specs.Prelude.{ℕ, zero, suc, ◌+◌, min, cond, List, [], ◌∷◌, ◌++◌, map, eqb, leb, length, take, drop, get_or, set}
use Rattle.scans.specs.Marks.{lf}
use Rattle.records.specs.Answer.{longest}

-- how many LF bytes there are
unfoldable pub lf_in : List ℕ → ℕ
lf_in [] = 0
lf_in (c ∷ s) = cond (eqb c lf) 1 0 + lf_in s

-- the line of a place: 1 plus the number of LF bytes before it; past the buffer, of all its bytes
unfoldable pub line_of : List ℕ → ℕ → ℕ
line_of buf p = 1 + lf_in (take p buf)

-- how many words a record with a line has
abbrev pub lined_width : ℕ
lined_width = 5

-- its place is the second word, its line the fifth
abbrev pub place_in : List ℕ → ℕ
place_in w = get_or w 1 0

unfoldable pub with_line : (ℕ → ℕ) → List ℕ → List ℕ
with_line line w = set w 4 (line (place_in w))

-- records of a buffer, each with the line of its place
abbrev pub lined : List ℕ → List (List ℕ) → List (List ℕ)
lined buf ws = map (with_line (line_of buf)) ws

-- the line as a word: the largest word where it does not fit. At the place of an event or of a diagnostic it fits (`Fits`)
unfoldable pub line_word : List ℕ → ℕ → ℕ
line_word buf p = min (line_of buf p) longest

-- the first n records of a room, as many as are whole, with the words of their lines; all else keeps its contents
unfoldable pub filled : List ℕ → ℕ → List ℕ → List ℕ
filled buf zero room = room
filled buf (suc n) room = cond (leb lined_width (length room)) (with_line (line_word buf) (take lined_width room) ++ filled buf n (drop lined_width room)) room
