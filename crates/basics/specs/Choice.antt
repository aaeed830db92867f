-- The first of two that is there.
use Rattle.std.proofs.Math.Option.{Option, none, some}

abbrev pub or_else : {A : Type 0} → Option A → Option A → Option A
or_else (some a) other = some a
or_else none other = other
