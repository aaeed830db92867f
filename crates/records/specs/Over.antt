-- A text written over the front of a room.
use Rattle.std.specs.Prelude.{ℕ, List, ◌++◌, length, drop}

unfoldable pub over : List ℕ → List ℕ → List ℕ
over text room = text ++ drop (length text) room
