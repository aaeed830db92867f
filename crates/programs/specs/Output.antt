-- Output that is gathered in a lent buffer: what waits there to be written.
use Rattle.std.specs.Prelude.{ℕ, ◌≡◌, cond, List, [], ◌∷◌, ◌++◌, ltb, length, take, IsOk}
use Rattle.programs.specs.Buffers.{SameBuffer}
use Rattle.programs.specs.declared.writing.Output.{Output}
use Rattle.programs.specs.declared.writing.Writer.{Writer}

-- the bytes at the front of the buffer
abbrev pub waiting : Output → List ℕ → List ℕ
waiting o buffer = take o.used buffer

-- one byte more in a buffer of so many. Where it is full, what waited is written, and the byte waits, if there is room for one at all
unfoldable pub pushed : ℕ → List ℕ → ℕ → List ℕ
pushed room old b = cond (ltb (length old) room) (old ++ (b ∷ [])) (take room (b ∷ []))

-- a text more
unfoldable pub gathered : ℕ → List ℕ → List ℕ → List ℕ
gathered room old [] = old
gathered room old (b ∷ bs) = gathered room (pushed room old b) bs

-- from the one output and buffer to the other a text was gathered
abbrev pub Waits : List ℕ → Output → List ℕ → Output → List ℕ → Type 0
Waits text o buffer r out = waiting r out ≡ gathered (length buffer) (waiting o buffer) text

-- from the one writer to the other, of one buffer, a text was gathered, and where a write had failed none counts as done well
pub record Gathers (text : List ℕ) (w r : Writer) : Type 0 where
  pub waits : Waits text w.output w.buffer.now r.output r.buffer.now
  pub kept : IsOk r.output.so_far → IsOk w.output.so_far
  pub buffer : SameBuffer w.buffer r.buffer
