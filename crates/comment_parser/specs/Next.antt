-- The next event (document 01, "Reading rules" and "Answer numbers"), and what the call's answer says.
use Rattle.std.specs.Prelude.{ℕ, true, false, Option, Some, None, Result, Ok, Err, List, length, take, ltb}
use Rattle.records.specs.Answer.{Answer, bare, refusal_answer, unless, state_refusal}
use Rattle.records.specs.declared.Refusal.{Refusal}
use Rattle.byte_rules.specs.Reading.{Reading}
use Rattle.comment_parser.specs.State.{moved}
use Rattle.comment_parser.specs.Pass.{run_start, pass, run_item}
use Rattle.comment_parser.specs.declared.CommentItem.{CommentItem}
use Rattle.comment_parser.specs.declared.ParserState.{ParserState}
use Rattle.comment_parser.specs.declared.Next.{Next}

-- an answer of `next`: document 01's number, the event if one is given, and the state
pub record Outcome : Type 0 where
  pub answer : Answer
  pub event : Option CommentItem
  pub state : ParserState

-- what is given is answered by 0
abbrev pub given_as : Next → Outcome
given_as n = record { answer = bare 0; event = n.item; state = n.state }

-- a refusal gives no event, and leaves the state as given
abbrev pub refused_as : ParserState → Answer → Outcome
refused_as st a = record { answer = a; event = None; state = st }

-- the answer to a state
abbrev pub step_answer : ParserState → Result Next Refusal → Outcome
step_answer st (Ok n) = given_as n
step_answer st (Err r) = refused_as st (refusal_answer r)

-- an event with the state after it, and the end
abbrev pub some_event : ParserState → CommentItem → Next
some_event t i = record { state = t; item = Some i }

abbrev pub no_event : ParserState → Next
no_event t = record { state = t; item = None }

-- gives what waits, or ends
unfoldable pub give : ParserState → Next
give t = record { state = moved t t.pos None; item = t.waiting }

-- the run, if it is not empty, and then at most one further event
unfoldable pub read_on : Reading → List ℕ → ParserState → Next
read_on rd s st =
    let from = run_start s st in
    let r = pass rd s st from in
    elim (ltb from r.end) [ true ↦ some_event r.after (run_item st from r.end) | false ↦ give r.after ]

-- what waits is given first; the reader looks at the buffer up to the state's end
unfoldable pub answered : Reading → List ℕ → ParserState → Next
answered rd buf st = elim st.waiting [ Some i ↦ give st | None ↦ read_on rd (take st.end buf) st ]

-- a state that is refused is not read
unfoldable pub next_of : Reading → List ℕ → ParserState → Outcome
next_of rd buf st = unless (state_refusal (length buf) st.pos st.end) (refused_as st) (given_as (answered rd buf st))
