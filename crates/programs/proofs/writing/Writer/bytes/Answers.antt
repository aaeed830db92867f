-- A byte is gathered, and then the rest of the text.
use Rattle.std.proofs.Common.{arith, ◌+◌, [], ◌∷◌, get_or, drop}
use Rattle.std.proofs.Math.ListN.{drop_of_length-le}
use Rattle.programs.proofs.Gathering.{gathering_starts, gathering_on, gathering_end}
use Rattle.programs.proofs.Listed.{text_at}
use Rattle.programs.proofs.writing.Writer.bytes.Goals as goal

pub loop-b-init : goal.loop-b-init
loop-b-init c = gathering_starts c.args.text.now c.args.self.now

pub loop-b-preserved : goal.loop-b-preserved
loop-b-preserved c =
    let l = c.loop-b in
    let text = c.args.text.now in
    gathering_on (get_or text l.b-index 0 ∷ []) (drop (l.b-index + 1) text) (text_at text l.b-index (omega arith)) c.byte.ensures l.invariant

pub returns : goal.returns
returns c =
    let l = c.loop-b in
    gathering_end (drop_of_length-le c.args.text.now {i = l.b-index} (omega arith)) l.invariant
