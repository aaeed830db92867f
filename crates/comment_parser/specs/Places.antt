-- WHERE EVENTS STAND, the statement. Proved in proofs/Places.antt.
-- Each event's place is a byte of the text, in any reading; but a noted subscript end may be the text's end, and then an underscore stands before it.
use Rattle.std.specs.Prelude.{ℕ, ◌<◌, ◌≡◌, true, List, length, take}
use Rattle.basics.specs.Member.{In}
use Rattle.byte_rules.specs.Reading.{Reading}
use Rattle.look.specs.Look.{byte_at}
use Rattle.scans.specs.Marks.{under}
use Rattle.comment_parser.specs.Item.{placed_of}
use Rattle.comment_parser.specs.Events.{events_of}
use Rattle.comment_parser.specs.declared.CommentItem.{CommentItem}

-- an underscore stands before p
pub record BehindUnder (s : List ℕ) (p : ℕ) : Type 0 where
  pub mark : ℕ
  pub before : mark < p
  pub is : byte_at s mark under ≡ true

pub data PlaceOf (s : List ℕ) (p : ℕ) : Type 0 where
  at_byte : p < length s → PlaceOf s p
  at_end_case : p ≡ length s → BehindUnder s p → PlaceOf s p

abbrev pub EveryPlace : Type 0
EveryPlace = (rd : Reading) (buf : List ℕ) (start end : ℕ) (i : CommentItem) → In i (events_of rd buf start end) → PlaceOf (take end buf) (placed_of i).place
