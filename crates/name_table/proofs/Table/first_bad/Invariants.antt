-- `Table::first_bad` meets its contract. The loop's invariant: the check from entry i on is the check of the table.
-- Assumes nothing.
use Prim.Native.Nat.{◌-◌}
use mathlib.Core.Path.{◌≡◌}
use lib.ListN.{length}
use Rattle.name_table.specs.Table.{bad_from, first_bad}
use Rattle.name_table.proofs.Table.first_bad.Given as goal

abbrev pub invariant-loop-i : goal.invariant-loop-i
invariant-loop-i l = bad_from l.self.bytes.now l.self.ends.now (length l.self.ends.now - l.i) l.i ≡ first_bad l.self.bytes.now l.self.ends.now
