-- `texts::lay_lone` meets its contract. The loop's invariant: the records of the bytes from i on are to be laid behind those before.
-- Assumes nothing.
use Rattle.std.proofs.Common.{◌+◌, ◌-◌, ◌≤◌}
use Rattle.records.proofs.Laying.{Laying}
use Rattle.verify_markup.specs.Diag.{diag_width}
use Rattle.verify_markup.specs.Texts.{lone_from}
use Rattle.verify_markup.proofs.texts.lay_lone.Given as goal

abbrev pub invariant-loop-i : goal.invariant-loop-i
invariant-loop-i l =
    let s = l.part.span in
    (l.wrote.count + s.start ≤ l.i) × Laying diag_width (lone_from l.buf l.kind s.end (s.end - s.start) s.start) (lone_from l.buf l.kind s.end (s.end - l.i) l.i) l.initial.room l.room l.wrote.words l.wrote.count

abbrev pub decreases-loop-i : goal.decreases-loop-i
decreases-loop-i l = l.part.span.end - l.i
