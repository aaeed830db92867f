-- `items::lay_bib_escapes` meets its contract. The loop's invariant: the records of the bytes from i on are to be laid behind those before.
-- Assumes nothing.
use Rattle.std.proofs.Common.{◌+◌, ◌-◌, ◌≤◌}
use Rattle.records.proofs.Laying.{Laying}
use Rattle.verify_markup.specs.Diag.{diag_width}
use Rattle.verify_markup.specs.Items.{bib_escapes}
use Rattle.verify_markup.proofs.items.lay_bib_escapes.Given as goal

abbrev pub invariant-loop-i : goal.invariant-loop-i
invariant-loop-i l =
    let s = l.span in
    (l.wrote.count + s.start ≤ l.i) × (l.i ≤ s.end) × Laying diag_width (bib_escapes l.buf s.start s.end (s.end - s.start) s.start) (bib_escapes l.buf s.start s.end (s.end - l.i) l.i) l.initial.room l.room l.wrote.words l.wrote.count
