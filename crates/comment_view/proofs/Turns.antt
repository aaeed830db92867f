-- A step of a view, read as what is seen of its state: an event with the state after it, or none.
-- Assumes nothing.
use Prim.Native.Nat.{ℕ}
use mathlib.Core.Path.{◌≡◌, refl}
use mathlib.Core.List.{List}
use mathlib.Core.Option.{none}
use Rattle.std.specs.Prelude.{Option as Maybe, Ok, Err}
use Rattle.byte_rules.specs.Reading.{named}
use Rattle.records.specs.declared.Refusal.{Refusal}
use Rattle.comment_parser.specs.Next.{next_of}
use Rattle.comment_parser.specs.Events.{paired, seen}
use Rattle.comment_parser.specs.declared.CommentItem.{CommentItem}
use Rattle.comment_parser.specs.declared.ParserState.{ParserState}
use Rattle.comment_view.specs.View.{gives}

module _ (buf : List ℕ) (st t : ParserState) where
  pub sees : (item : Maybe CommentItem) → gives (Ok item) t ≡ next_of (named st.reading) buf st → seen (named st.reading) buf st ≡ paired item t
  unfolding seen
  sees item e = rw (← e) refl

  -- where the state is refused none is to be seen
  pub sees_none : (r : Refusal) → gives (Err r) t ≡ next_of (named st.reading) buf st → seen (named st.reading) buf st ≡ none
  unfolding seen
  sees_none r e = rw (← e) refl
