-- `lines_between` meets its contract: the line of `from`, what is counted, and what is to come add up to the line of `to`.
-- Assumes nothing.
use Rattle.std.proofs.Common.{◌≡◌, ◌+◌}
use Rattle.std.specs.Slice.Iter.{chunks_rest, chunks_size}
use Rattle.lines.specs.Lines.{lf_in, line_of}
use Rattle.lines.proofs.count.lines_between.Given as goal

abbrev pub invariant-loop-part : goal.invariant-loop-part
invariant-loop-part l =
    (goal.iterator-loop-part).can_next l.part-iterator ×
    (goal.iterator-loop-part).is_finite l.part-iterator ×
    (chunks_size l.part-iterator ≡ 224) ×
    (line_of l.buf l.from + l.n + lf_in (chunks_rest l.part-iterator) ≡ line_of l.buf l.to)
