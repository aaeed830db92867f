-- `fill_lines` meets its contract: what is filled before the record k and to be filled from it on is what is to be left.
-- Assumes nothing.
use Prim.Native.Nat.{◌-◌, ◌*◌}
use Rattle.lines.specs.Lines.{lined_width}
use Rattle.lines.proofs.Filling.{Fills}
use Rattle.lines.proofs.fill_lines.Given as goal

abbrev pub invariant-loop-k : goal.invariant-loop-k
invariant-loop-k l = Fills l.buf l.n l.initial.room l.room l.line (lined_width * l.k) (l.count - l.k)
