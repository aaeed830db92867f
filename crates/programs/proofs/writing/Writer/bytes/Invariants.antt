-- To gather what is left of the text is to gather the whole of it from the start.
use Rattle.std.proofs.Common.{drop}
use Rattle.programs.proofs.Gathering.{Gathering}
use Rattle.programs.proofs.writing.Writer.bytes.Given as goal

abbrev pub invariant-loop-b : goal.invariant-loop-b
invariant-loop-b l = Gathering (drop l.b-index l.text) l.text l.initial.self l.self
