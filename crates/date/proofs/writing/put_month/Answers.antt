-- `put_month` meets its contract.
-- Assumes nothing.
use Rattle.records.specs.Over.{over}
use Rattle.date.specs.Months.{letter_of, names}
use Rattle.date.specs.Writing.{month_text}
use Rattle.date.proofs.writing.put_month.Goals as goal

pub returns : goal.returns
unfolding over month_text letter_of names
returns c = rw (c.copy_from_slice.ensures.after, c.from.ensures)
