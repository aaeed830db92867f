-- To gather the digits of the bytes that are left is to gather all from the start.
use Rattle.std.proofs.Common.{◌≡◌}
use Rattle.std.specs.Slice.Iter.{chunks_rest, chunks_size}
use Rattle.programs.proofs.Gathering.{Gathering}
use Rattle.replay.specs.Hex.{hex_of}
use Rattle.replay.proofs.output.put_hex.Given as goal

abbrev pub invariant-loop-piece : goal.invariant-loop-piece
invariant-loop-piece l =
    (goal.iterator-loop-piece).can_next l.piece-iterator ×
    (goal.iterator-loop-piece).is_finite l.piece-iterator ×
    (chunks_size l.piece-iterator ≡ 64) ×
    Gathering (hex_of (chunks_rest l.piece-iterator)) (hex_of l.bytes) l.initial.output l.output
