-- The events that an iterator over a span has left.
use Rattle.std.specs.Prelude.{ℕ, ◌≡◌, List, [], ◌∷◌, length, Result, Ok, Err}
use Rattle.std.proofs.Math.Option.{none, some}
use Rattle.records.specs.Answer.{refusal_answer, span_refusal}
use Rattle.records.specs.declared.Refusal.{Refusal}
use Rattle.byte_rules.specs.Reading.{Reading, named}
use Rattle.comment_parser.specs.Item.{placed_of}
use Rattle.comment_parser.specs.Bounds.{Within}
use Rattle.comment_parser.specs.Events.{events_from, events_of}
use Rattle.comment_parser.specs.declared.CommentItem.{CommentItem}
use Rattle.comment_parser.specs.declared.items.Items.{Items}

abbrev pub items_left : Items → List CommentItem
items_left s = events_from (named s.state.reading) s.buf.now s.state

-- a span is refused, or else begun, with all its events to come
abbrev pub Begins : Reading → List ℕ → ℕ → ℕ → Result Items Refusal → Type 0
Begins rd buf start end (Ok s) = (none ≡ span_refusal (length buf) start end) × (items_left s ≡ events_of rd buf start end)
Begins rd buf start end (Err why) = some (refusal_answer why) ≡ span_refusal (length buf) start end

-- events that lie between two places, each behind the one before
abbrev pub Ordered : ℕ → ℕ → List CommentItem → Type 0
Ordered low high [] = Unit
Ordered low high (i ∷ is) = Within low high (placed_of i) × Ordered (placed_of i).end high is
