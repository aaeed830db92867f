-- What private functions of this crate require: places that fit a word of 32 bits.
-- No contract of a public call speaks of them.
use Rattle.std.specs.Prelude.{ℕ, ◌*◌, ◌≤◌, List, length, Option, Some, None}
use Rattle.basics.specs.declared.Span.{Span}
use Rattle.records.specs.Answer.{longest}
use Rattle.comment_parser.specs.Items.{Ordered}
use Rattle.comment_parser.specs.declared.CommentItem.{CommentItem}

-- a span of a buffer whose places fit a word
pub record InBuf (buf : List ℕ) (s : Span) : Type 0 where
  pub order : s.start ≤ s.end
  pub inside : s.end ≤ length buf
  pub short : length buf ≤ longest

-- the events of a span: they lie in it, in order, two for each byte at most
pub record LiesIn (s : Span) (is : List CommentItem) : Type 0 where
  pub ordered : Ordered s.start s.end is
  pub few : length is ≤ 2 * s.end

-- a fact of an opening's place
abbrev pub OpenedBy : (ℕ → Type 0) → Option ℕ → Type 0
OpenedBy P (Some i) = P i
OpenedBy P None = Unit

-- it fits a word
abbrev pub Opened : Option ℕ → Type 0
Opened = OpenedBy (λ i. i ≤ longest)
