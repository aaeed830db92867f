-- So many bytes are taken, through the same buffer. The measure is what is still to be filled.
use Rattle.std.proofs.Common.{◌-◌, ◌≤◌, ◌≡◌, length}
use Rattle.programs.specs.Buffers.{SameBuffer}
use Rattle.programs.proofs.reading.Reader.take.Given as goal

abbrev pub invariant-loop-done : goal.invariant-loop-done
invariant-loop-done l = (l.done ≤ length l.to) × ((length l.to ≡ length l.initial.to) × SameBuffer l.initial.self.buffer l.self.buffer)

abbrev pub decreases-loop-done : goal.decreases-loop-done
decreases-loop-done l = length l.to - l.done
