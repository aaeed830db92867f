-- A buffer that is lent, before a call and after it.
use Rattle.std.specs.Prelude.{ℕ, ◌≡◌, List, length}
use Rattle.std.specs.Borrow.{MutBor}

-- it is one and the same, and as long as it was
pub record SameBuffer (old new : MutBor (List ℕ)) : Type 0 where
  pub name : new.ghost_name ≡ old.ghost_name
  pub long : length new.now ≡ length old.now
