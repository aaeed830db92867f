-- To gather the words that are left, from this column on, is to gather all from the start.
use Rattle.std.proofs.Common.{◌≤◌, drop}
use Rattle.programs.specs.Lines.{rows}
use Rattle.programs.proofs.Gathering.{Gathering}
use Rattle.programs.proofs.writing.Writer.rows.Given as goal

abbrev pub invariant-loop-word : goal.invariant-loop-word
invariant-loop-word l = (l.column ≤ l.word-index) × Gathering (rows l.width l.column (drop l.word-index l.words)) (rows l.width 0 l.words) l.initial.self l.self
