-- `Line::first` meets its contract.
-- Assumes nothing.
use mathlib.Core.Path.{sym}
use Rattle.lines.proofs.Laws.{line_start}
use Rattle.lines.proofs.cursor.Line.first.Goals as goal

pub returns : goal.returns
returns c = record { number = sym (line_start c.args.buf.now); to_end = c.line_end.ensures }
