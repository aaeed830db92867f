-- The buffer has no bytes, or it was full and is begun anew.
use Rattle.std.proofs.Common.{arith}
use Rattle.programs.proofs.Gathering.{push_full, push_none}
use Rattle.programs.proofs.writing.Output.begin_anew.Goals as goal

pub returns-then-buffer-eq0-clause-waits : goal.returns-then-buffer-eq0-clause-waits
returns-then-buffer-eq0-clause-waits c = let a = c.args in push_none a.buffer.now a.self.now.used a.b (omega arith) (omega arith)

pub returns-else-buffer-eq0-clause-waits : goal.returns-else-buffer-eq0-clause-waits
returns-else-buffer-eq0-clause-waits c = let a = c.args in push_full a.buffer.now a.self.now.used a.b (omega arith) (omega arith)
