-- `label_end` meets its contract. The invariant: a label from here ends where the label from the start does, if the note holds.
-- Assumes nothing.
use Prim.Native.Nat.{◌-◌, ◌≤◌}
use mathlib.Core.Path.{◌≡◌}
use lib.ListN.{length}
use Rattle.scans.specs.Ends.{label_end}
use Rattle.scans.specs.Notes.{Holds}
use Rattle.scans.proofs.labels.label_end.Given as goal

abbrev pub invariant-loop-i : goal.invariant-loop-i
invariant-loop-i l = (l.from ≤ l.i) × (Holds l.text l.initial.note → (label_end l.text l.from ≡ label_end l.text l.i) × Holds l.text l.note)

abbrev pub decreases-loop-i : goal.decreases-loop-i
decreases-loop-i l = length l.text - l.i
