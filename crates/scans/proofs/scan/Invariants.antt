-- `scans::scan` meets its contract: the scan from here stops where the scan from the start does.
-- Assumes nothing.
use Prim.Native.Nat.{ℕ, ◌-◌}
use mathlib.Core.Path.{◌≡◌}
use lib.ListN.{length}
use Rattle.scans.specs.Scan.{scan, SaysAt}
use Rattle.scans.specs.declared.Step.{Step}
use Rattle.scans.proofs.scan.Given as goal

abbrev pub invariant-loop-i : goal.invariant-loop-i
invariant-loop-i g l = (step : ℕ → Step) → SaysAt (goal.F-post g l.rule) step → scan step (length l.text) l.from ≡ scan step (length l.text) l.i

abbrev pub decreases-loop-i : goal.decreases-loop-i
decreases-loop-i g l = length l.text - l.i
