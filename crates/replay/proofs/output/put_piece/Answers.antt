-- Each turn writes a byte's two digits.
use Rattle.std.proofs.Common.{arith, refl}
use Rattle.replay.proofs.Hex.{hex_on, hex_end}
use Rattle.replay.proofs.output.put_piece.Goals as goal

pub loop-i-init : goal.loop-i-init
loop-i-init c = refl

pub loop-i-preserved : goal.loop-i-preserved
loop-i-preserved c =
    let l = c.loop-i in
    rw (c.digit.ensures, c.digit-in-loop-i.ensures) (hex_on c.args.piece.now l.digits l.i (omega arith) (omega arith) l.invariant)

pub returns : goal.returns
returns c = let l = c.loop-i in hex_end c.args.piece.now l.digits l.i (omega arith) l.invariant
