-- THE END OF EVENTS, the statements (document 01, "Reading rules"): when `next` answers the end, and that no token is empty. Of every reading, every buffer
-- and every state that `next` takes, also one that no parser made. The two theorems at the end are proved in proofs/End.antt.
use Rattle.std.specs.Prelude.{ℕ, ◌≤◌, ◌<◌, true, false, None, List, ◌≡◌, length, take}
use Rattle.records.specs.Answer.{bare}
use Rattle.byte_rules.specs.Reading.{Reading}
use Rattle.look.specs.Look.{blank_at}
use Rattle.comment_parser.specs.State.{Accepted, moved}
use Rattle.comment_parser.specs.Rules.{pass_act}
use Rattle.comment_parser.specs.Pass.{run_start}
use Rattle.comment_parser.specs.Next.{next_of}
use Rattle.comment_parser.specs.declared.Act.TheVariants.{Ends}
use Rattle.comment_parser.specs.declared.ParserState.{ParserState}

-- NO TOKEN IS EMPTY. At a blank in math the Rust asks whether the token is empty; here nobody asks, since it never is.

-- the place r of a text is its end, or one where no blank stands
pub data EndOrNoBlank (s : List ℕ) (r : ℕ) : Type 0 where
  the_end : r ≡ length s → EndOrNoBlank s r
  no_blank : r < length s → blank_at s r ≡ false → EndOrNoBlank s r

-- of a state, and of the text s that it reads
pub record NoEmptyToken (rd : Reading) (s : List ℕ) (st : ParserState) : Type 0 where
  -- "in math, the run starts at the end or at a byte that is no blank"
  pub starts : st.math ≡ true → EndOrNoBlank s (run_start s st)
  -- where a rule ends the run at q, an event waits or the run is not empty
  pub ends :
      (p q : ℕ) (t : ParserState) → run_start s st ≤ p → p < length s → pass_act rd s st (run_start s st) p ≡ Ends q t → t.waiting ≡ None →
      run_start s st < q

-- WHEN THE END IS ANSWERED.

-- "nothing is left, or, in math, nothing but blanks"
pub data NothingLeft (buf : List ℕ) (st : ParserState) : Type 0 where
  nothing : st.pos ≡ st.end → NothingLeft buf st
  blanks_in_math : st.math ≡ true → ((k : ℕ) → st.pos ≤ k → k < st.end → blank_at buf k ≡ true) → NothingLeft buf st

pub record Over (buf : List ℕ) (st : ParserState) : Type 0 where
  pub no_event_waits : st.waiting ≡ None
  pub nothing_left : NothingLeft buf st

-- "the end of events is answered": 0, and no event
abbrev pub EndAnswered : Reading → List ℕ → ParserState → Type 0
EndAnswered rd buf st = ((next_of rd buf st).answer ≡ bare 0) × ((next_of rd buf st).event ≡ None)

-- "exactly when"; and the state that the end gives stands at its end, and is as it was in all else
pub record EndsExactly (rd : Reading) (buf : List ℕ) (st : ParserState) : Type 0 where
  pub only_when : EndAnswered rd buf st → Over buf st
  pub whenever : Over buf st → EndAnswered rd buf st
  pub state : EndAnswered rd buf st → (next_of rd buf st).state ≡ moved st st.end None

-- THE THEOREMS.

abbrev pub NoTokenIsEmpty : Type 0
NoTokenIsEmpty = (rd : Reading) (buf : List ℕ) (st : ParserState) → Accepted buf st → NoEmptyToken rd (take st.end buf) st

abbrev pub EndExactlyWhenOver : Type 0
EndExactlyWhenOver = (rd : Reading) (buf : List ℕ) (st : ParserState) → Accepted buf st → EndsExactly rd buf st
