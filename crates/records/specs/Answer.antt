-- Document 01's answers: a number of its table, with the values that the answer gives.
use Rattle.std.specs.Prelude.{ℕ, cond, ◌||◌, List, [], ◌∷◌, ltb, Result, Ok, Err}
use Rattle.std.proofs.Math.Option.{Option, none, some}
use Rattle.records.specs.declared.Refusal.{Refusal}
use Rattle.records.specs.declared.Refusal.TheVariants.{TooLong, BadSpan, BadState, BadTable, NoDate, BadMonth, InputTooLong}
use Rattle.records.specs.declared.FillError.{FillError}
use Rattle.records.specs.declared.FillError.TheVariants.{Short, Refused}

pub record Answer : Type 0 where
  pub number : ℕ
  pub values : List ℕ

-- an answer that is its number alone
abbrev pub bare : ℕ → Answer
bare n = record { number = n; values = [] }

-- 0: done, and what is given
abbrev pub given : List ℕ → Answer
given values = record { number = 0; values = values }

-- the same: how many records or bytes
abbrev pub done : ℕ → Answer
done n = given (n ∷ [])

-- 7: lent room too short, and how many there are in full
abbrev pub short : ℕ → Answer
short n = record { number = 7; values = n ∷ [] }

-- 1: buffer over 4,294,967,295 bytes
abbrev pub too_long : Answer
too_long = bare 1

-- 2: start > end, or end > buffer length
abbrev pub bad_span : Answer
bad_span = bare 2

-- 3: state has position > end, or end > buffer length
abbrev pub bad_state : Answer
bad_state = bare 3

-- 4: a lent name table is malformed: its number, and the first bad entry
abbrev pub bad_table : ℕ → ℕ → Answer
bad_table table entry = record { number = 4; values = table ∷ entry ∷ [] }

-- 5: bytes are no date
abbrev pub no_date : Answer
no_date = bare 5

-- 6: date to be written has month 0 or above 12
abbrev pub bad_month : Answer
bad_month = bare 6

-- 8: a program's input over 65,536 bytes
abbrev pub input_too_long : Answer
input_too_long = bare 8

abbrev pub refusal_answer : Refusal → Answer
refusal_answer TooLong = too_long
refusal_answer BadSpan = bad_span
refusal_answer BadState = bad_state
refusal_answer (BadTable table entry) = bad_table table entry
refusal_answer NoDate = no_date
refusal_answer BadMonth = bad_month
refusal_answer InputTooLong = input_too_long

abbrev pub filled_answer : Result ℕ FillError → Answer
filled_answer (Ok n) = done n
filled_answer (Err (Short n)) = short n
filled_answer (Err (Refused r)) = refusal_answer r

-- what a check finds: nothing, or the answer that refuses
abbrev pub checked_answer : Result Unit Refusal → Option Answer
checked_answer (Ok u) = none
checked_answer (Err r) = some (refusal_answer r)

-- an answer, or what is given beside it: by its refusal, or else as it is
abbrev pub unless : {A : Type 0} → Option Answer → (Answer → A) → A → A
unless none refused other = other
unless (some refusal) refused other = refused refusal

-- the largest buffer
abbrev pub longest : ℕ
longest = 4294967295

-- refused with this answer where there are more than so many
abbrev pub limit_refusal : Answer → ℕ → ℕ → Option Answer
limit_refusal why most len = cond (ltb most len) (some why) none

-- the refusal of a buffer of so many bytes
unfoldable pub length_refusal : ℕ → Option Answer
length_refusal len = limit_refusal too_long longest len

-- the refusal of places of a buffer of so many bytes, by this answer where they are none of it; the lowest number
abbrev pub places_refusal : Answer → ℕ → ℕ → ℕ → Option Answer
places_refusal why len from to = cond (ltb longest len) (some too_long) (cond (ltb to from || ltb len to) (some why) none)

-- the refusal of a span of a buffer of so many bytes
unfoldable pub span_refusal : ℕ → ℕ → ℕ → Option Answer
span_refusal len start end = places_refusal bad_span len start end

-- the refusal of a state at `pos` that reads to `end`, of a buffer of so many bytes
unfoldable pub state_refusal : ℕ → ℕ → ℕ → Option Answer
state_refusal len pos end = places_refusal bad_state len pos end

-- the largest input of a program
abbrev pub input_limit : ℕ
input_limit = 65536

-- the refusal of a program's input of so many bytes
unfoldable pub input_refusal : ℕ → Option Answer
input_refusal len = limit_refusal input_too_long input_limit len
