-- `Table::search` meets its contract. The loop's invariant: halving from lo up to hi finds what it finds in the whole table.
-- Assumes nothing.
use Prim.Native.Nat.{◌-◌, ◌≤◌}
use mathlib.Core.Path.{◌≡◌}
use lib.ListN.{length}
use Rattle.name_table.specs.Spelling.{spelled}
use Rattle.name_table.specs.Search.{halved, searched}
use Rattle.name_table.proofs.Table.search.Given as goal

abbrev pub invariant-loop-lo : goal.invariant-loop-lo
invariant-loop-lo l =
    (l.hi ≤ length l.self.ends.now)
    × (halved l.self.bytes.now l.self.ends.now (spelled l.how l.text) (l.hi - l.lo) l.lo l.hi ≡ searched l.self.bytes.now l.self.ends.now (spelled l.how l.text))

abbrev pub decreases-loop-lo : goal.decreases-loop-lo
decreases-loop-lo l = l.hi - l.lo
