-- The events read from a state to the end: the list that demand 3 speaks of.
use Rattle.std.specs.Prelude.{ℕ, ◌+◌, ◌-◌, ◌*◌, Option as Maybe, Some, None, List}
use Rattle.std.proofs.Math.Option.{Option, none, some}
use Rattle.records.specs.Produced.{produced}
use Rattle.byte_rules.specs.Reading.{Reading}
use Rattle.comment_parser.specs.State.{fresh}
use Rattle.comment_parser.specs.Next.{next_of}
use Rattle.comment_parser.specs.declared.CommentItem.{CommentItem}
use Rattle.comment_parser.specs.declared.ParserState.{ParserState}

-- how much is to come: two for each byte, and one for what waits
abbrev pub waits : Maybe CommentItem → ℕ
waits (Some i) = 1
waits None = 0

abbrev pub left : ParserState → ℕ
left st = 2 * (st.end - st.pos) + waits st.waiting

-- the event that a step gives, with the state after it
abbrev pub paired : Maybe CommentItem → ParserState → Option (CommentItem × ParserState)
paired (Some i) t = some (i, t)
paired None t = none

module _ (rd : Reading) (buf : List ℕ) where
  unfoldable pub seen : ParserState → Option (CommentItem × ParserState)
  seen st = paired (next_of rd buf st).event (next_of rd buf st).state

  -- the events from a state on
  unfoldable pub events_from : ParserState → List CommentItem
  events_from st = produced seen left st

  -- the events of a span, read from a fresh start
  unfoldable pub events_of : ℕ → ℕ → List CommentItem
  events_of a b = events_from (fresh rd.name a b)
