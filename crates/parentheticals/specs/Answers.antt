-- The answers of the calls that step over parentheticals and of the one that looks for notices (document 01, "Answer numbers").
use Rattle.std.specs.Prelude.{ℕ, List, [], ◌∷◌, Bool, true, false, length, take, Option, Some, None, Result, Ok, Err}
use Rattle.std.proofs.Math.Option as refusing
use Rattle.byte_rules.specs.Reading.{Reading}
use Rattle.byte_rules.specs.declared.reading.Reading.{Reading as Name}
use Rattle.records.specs.Answer.{Answer, given, unless, refusal_answer, length_refusal, span_refusal, state_refusal}
use Rattle.records.specs.declared.Refusal.{Refusal}
use Rattle.scans.specs.Marks.{lparen}
use Rattle.parentheticals.specs.Matching.{proof_modification, new_usage, next_from, stands_in}
use Rattle.parentheticals.specs.Records.{record_of}
use Rattle.parentheticals.specs.declared.Found.{Found}
use Rattle.parentheticals.specs.declared.ParentheticalState.{ParentheticalState}
use Rattle.parentheticals.specs.declared.Stepped.{Stepped}
use Rattle.parentheticals.specs.declared.Discouragements.{Discouragements}

-- ---- the fresh state of a span

abbrev pub fresh : Name → ℕ → ℕ → ParentheticalState
fresh name start end = record { reading = name; position = start; end = end }

-- 0 with position and end; or 1, 2
abbrev pub started_answer : Result ParentheticalState Refusal → Answer
started_answer (Ok st) = given (st.position ∷ st.end ∷ [])
started_answer (Err r) = refusal_answer r

unfoldable pub start_answer : List ℕ → ℕ → ℕ → Answer
start_answer buf start end = unless (span_refusal (length buf) start end) (λ a. a) (given (start ∷ end ∷ []))

-- the state itself, in the reading of that name; none with a refusal
abbrev pub started_state : Result ParentheticalState Refusal → Option ParentheticalState
started_state (Ok st) = Some st
started_state (Err r) = None

unfoldable pub start_state : Name → List ℕ → ℕ → ℕ → Option ParentheticalState
start_state name buf start end = unless (span_refusal (length buf) start end) (λ a. None) (Some (fresh name start end))

-- ---- the step from a state

-- 0 with the seven words of the parenthetical, or with none at the end
abbrev pub found_answer : Option Found → Answer
found_answer None = given []
found_answer (Some f) = given (record_of f)

-- the same; or 1, 3
abbrev pub step_answer : Result Stepped Refusal → Answer
step_answer (Ok s) = found_answer s.found
step_answer (Err r) = refusal_answer r

-- the state after a step; a refusal leaves the one before it
abbrev pub stepped_state : ParentheticalState → Result Stepped Refusal → ParentheticalState
stepped_state st (Ok s) = s.state
stepped_state st (Err r) = st

-- behind the parenthetical that was found, else as it was
abbrev pub moved_by : ParentheticalState → Option Found → ParentheticalState
moved_by st None = st
moved_by st (Some f) = record { reading = st.reading; position = f.whole.end; end = st.end }

module _ (r : Reading) (buf : List ℕ) (st : ParentheticalState) where
  abbrev pub refused : refusing.Option Answer
  refused = state_refusal (length buf) st.position st.end

  -- the leftmost parenthetical from the position on, in the buffer up to the end
  abbrev pub found : Option Found
  found = next_from r.bars_author (take st.end buf) st.position

  unfoldable pub next_answer : Answer
  next_answer = unless refused (λ a. a) (found_answer found)

  -- a refusal leaves the state as given
  unfoldable pub next_state : ParentheticalState
  next_state = unless refused (λ a. st) (moved_by st found)

-- ---- the two notices anywhere

abbrev pub flag : Bool → ℕ
flag true = 1
flag false = 0

-- 0 with the two flags; or 1
abbrev pub flagged_answer : Result Discouragements Refusal → Answer
flagged_answer (Ok d) = given (flag d.modification_discouraged ∷ flag d.usage_discouraged ∷ [])
flagged_answer (Err r) = refusal_answer r

abbrev pub discouragements_of : List ℕ → Discouragements
discouragements_of buf =
    record {
      modification_discouraged = stands_in (lparen ∷ proof_modification) buf 0;
      usage_discouraged = stands_in (lparen ∷ new_usage) buf 0;
    }

unfoldable pub discouragements_answer : List ℕ → Answer
discouragements_answer buf = unless (length_refusal (length buf)) (λ a. a) (flagged_answer (Ok (discouragements_of buf)))
