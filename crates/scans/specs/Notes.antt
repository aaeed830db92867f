-- A note on tags: what a search for a tag's end that failed tells of the `[` that it passed.
use Rattle.std.specs.Prelude.{ℕ, ◌+◌, ◌≤◌, ◌<◌, ◌≡◌, Bool, true, false, ◌&&◌, None, List, ltb, leb}
use Rattle.look.specs.Look.{byte_at}
use Rattle.scans.specs.Marks.{lbracket}
use Rattle.scans.specs.Ends.{tag_end}
use Rattle.scans.specs.declared.Note.{Note}
use Rattle.scans.specs.declared.Noted.{Noted}

-- a note covers a place
abbrev pub covers : Note → ℕ → Bool
covers n i = leb n.from i && ltb i n.to

-- no `[` of the text that a note covers opens a tag
abbrev pub Holds : List ℕ → Note → Type 0
Holds s n = (k : ℕ) → n.from ≤ k → k < n.to → byte_at s k lbracket ≡ true → tag_end s (k + 1) ≡ None

-- a note that was looked at at i: it holds, and a `[` at i that it does not cover opens a tag
pub record Looked (s : List ℕ) (i : ℕ) (n : Note) : Type 0 where
  pub holds : Holds s n
  pub opens : byte_at s i lbracket ≡ true → covers n i ≡ false → tag_end s (i + 1) ≡ None → ⊥

-- the value is a, and the note beside it holds
pub record IsNoted {A : Type 0} (s : List ℕ) (a : A) (r : Noted A) : Type 0 where
  pub is : r.value ≡ a
  pub holds : Holds s r.note
