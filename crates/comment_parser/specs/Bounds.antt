-- What functions that lay an item's record require of its numbers.
use Rattle.std.specs.Prelude.{ℕ, ◌≤◌}
use Rattle.comment_parser.specs.declared.Placed.{Placed}

-- they lie between two places, in order
pub record Within (low high : ℕ) (p : Placed) : Type 0 where
  pub above : low ≤ p.place
  pub placed : p.place ≤ p.start
  pub ordered : p.start ≤ p.end
  pub below : p.end ≤ high
