-- What writers of records answer, and what they leave in the room that they are lent.
use Rattle.std.specs.Prelude.{ℕ, ◌+◌, ◌-◌, ◌*◌, ◌%◌, ◌^◌, cond, List, [], ◌∷◌, ◌++◌, length, drop, leb}
use Rattle.std.proofs.Math.Option.{Option, none, some}
use Rattle.records.specs.Answer.{Answer, done, short}
use Rattle.records.specs.declared.Wrote.{Wrote}

-- the record w, of k words, at the front of a room that has k, else the room as it was
unfoldable pub put : ℕ → List ℕ → List ℕ → List ℕ
put k w room = cond (leb k (length room)) (w ++ drop k room) room

-- records of k words, one after the other, as many as fit whole; the words past them keep their contents
unfoldable pub laid : ℕ → List (List ℕ) → List ℕ → List ℕ
laid k [] room = room
laid k (w ∷ ws) room = cond (leb k (length room)) (w ++ laid k ws (drop k room)) room

-- how many words of a room of so many they take
unfoldable pub used : ℕ → List (List ℕ) → ℕ → ℕ
used k [] room = 0
used k (w ∷ ws) room = cond (leb k room) (k + used k ws (room - k)) 0

-- what a writer of some records answers: the words that it wrote, and the full count
abbrev pub wrote_of : ℕ → List (List ℕ) → ℕ → Wrote
wrote_of k ws room = record { words = used k ws room; count = length ws }

-- what two writers did
abbrev pub sum : Wrote → Wrote → Wrote
sum a b = record { words = a.words + b.words; count = a.count + b.count }

-- the same in 64 bits: a sum that does not fit them wraps
abbrev pub wrapped_sum : Wrote → Wrote → Wrote
wrapped_sum a b = record { words = (a.words + b.words) % 2 ^ 64; count = (a.count + b.count) % 2 ^ 64 }

-- a list call's answer: its refusal, or else the count of its records, as 7 where they do not all fit
unfoldable pub list_answer : Option Answer → ℕ → List (List ℕ) → ℕ → Answer
list_answer (some refusal) k ws room = refusal
list_answer none k ws room = cond (leb (k * length ws) room) (done (length ws)) (short (length ws))

-- what a list call leaves in the room: after a refusal, what was there
unfoldable pub list_left : Option Answer → ℕ → List (List ℕ) → List ℕ → List ℕ
list_left (some refusal) k ws room = room
list_left none k ws room = laid k ws room

-- a text call's answer: its refusal, or else how many bytes its text has, as 7 where they do not fit
unfoldable pub text_answer : Option Answer → List ℕ → ℕ → Answer
text_answer (some refusal) text room = refusal
text_answer none text room = cond (leb (length text) room) (done (length text)) (short (length text))

-- what a text call leaves in the room: the text at its front if it fits, else what was there
unfoldable pub text_left : Option Answer → List ℕ → List ℕ → List ℕ
text_left (some refusal) text room = room
text_left none text room = put (length text) text room
