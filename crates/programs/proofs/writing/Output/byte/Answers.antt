-- There is room for the byte.
use Rattle.std.proofs.Common.{arith}
use Rattle.programs.proofs.Gathering.{push_room}
use Rattle.programs.proofs.writing.Output.byte.Goals as goal

pub returns-then-self-buffer-clause-waits : goal.returns-then-self-buffer-clause-waits
returns-then-self-buffer-clause-waits c = let a = c.args in push_room a.buffer.now a.self.now.used a.b (omega arith)
