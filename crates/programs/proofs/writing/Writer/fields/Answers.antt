-- A number is gathered with its tab, and then the rest of the numbers.
use Rattle.std.proofs.Common.{arith, ◌+◌, get_or, drop}
use Rattle.std.proofs.Math.ListN.{drop_of_length-le}
use Rattle.programs.specs.Lines.{field, fields}
use Rattle.programs.proofs.Gathering.{gathering_starts, gathering_on, gathering_end}
use Rattle.programs.proofs.Listed.{fields_at}
use Rattle.programs.proofs.writing.Writer.fields.Goals as goal

pub loop-n-init : goal.loop-n-init
loop-n-init c = gathering_starts (fields c.args.numbers.now) c.args.self.now

pub loop-n-preserved : goal.loop-n-preserved
loop-n-preserved c =
    let l = c.loop-n in
    let ns = c.args.numbers.now in
    gathering_on (field (get_or ns l.n-index 0)) (fields (drop (l.n-index + 1) ns)) (fields_at ns l.n-index (omega arith)) c.field.ensures l.invariant

pub returns : goal.returns
unfolding fields
returns c =
    let l = c.loop-n in
    gathering_end (rw (drop_of_length-le c.args.numbers.now {i = l.n-index} (omega arith))) l.invariant
