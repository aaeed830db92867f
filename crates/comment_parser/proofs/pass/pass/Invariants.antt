-- `pass` meets its contract. The invariant: the scan from the run's start is the scan from here, and the note holds.
-- Assumes nothing.
use Prim.Native.Nat.{◌-◌, ◌≤◌}
use mathlib.Core.Path.{◌≡◌}
use lib.ListN.{length}
use Rattle.scans.specs.Scan.{scan}
use Rattle.byte_rules.specs.Reading.{named}
use Rattle.scans.specs.Notes.{Holds}
use Rattle.comment_parser.specs.Pass.{pass_step}
use Rattle.comment_parser.proofs.pass.pass.Given as goal

abbrev pub invariant-loop-p : goal.invariant-loop-p
invariant-loop-p l =
    (l.from ≤ l.p) × (Holds l.text l.initial.note → (scan (pass_step (named l.st.reading) l.text l.st l.from) (length l.text) l.from ≡ scan (pass_step (named l.st.reading) l.text l.st l.from) (length l.text) l.p) × Holds l.text l.note)

abbrev pub decreases-loop-p : goal.decreases-loop-p
decreases-loop-p l = length l.text - l.p
