-- What is written so far, and the digits of the other bytes.
use Rattle.replay.proofs.Hex.{Written}
use Rattle.replay.proofs.output.put_piece.Given as goal

abbrev pub invariant-loop-i : goal.invariant-loop-i
invariant-loop-i l = Written l.piece l.i l.digits
