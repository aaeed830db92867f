-- To gather the numbers that are left is to gather all from the start.
use Rattle.std.proofs.Common.{drop}
use Rattle.programs.specs.Lines.{fields}
use Rattle.programs.proofs.Gathering.{Gathering}
use Rattle.programs.proofs.writing.Writer.fields.Given as goal

abbrev pub invariant-loop-n : goal.invariant-loop-n
invariant-loop-n l = Gathering (fields (drop l.n-index l.numbers)) (fields l.numbers) l.initial.self l.self
