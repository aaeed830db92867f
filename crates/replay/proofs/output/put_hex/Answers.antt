-- A piece's digits are gathered, and then those of the rest of the bytes.
use Rattle.std.proofs.Common.{rules, ◌≡◌, ◌∙◌, ◌++◌, ap, length}
use Rattle.std.proofs.lemmas.List.{nil_from_length}
use Rattle.std.specs.Slice.Iter.{chunks_rest}
use Rattle.programs.proofs.Gathering.{gathering_starts, gathering_on, gathering_end}
use Rattle.replay.specs.Hex.{hex_of}
use Rattle.replay.proofs.Hex.{hex_append}
use Rattle.replay.proofs.output.put_hex.Goals as goal

pub loop-piece-init : goal.loop-piece-init
loop-piece-init c =
    let e : chunks_rest c.into_iter-piece-iterator.result ≡ c.args.bytes.now = search rules in
    (search rules, tt, search rules, rw e (gathering_starts (hex_of c.args.bytes.now) c.args.output.now))

pub loop-piece-preserved : goal.loop-piece-preserved
loop-piece-preserved c =
    let piece = c.in-Some.piece.now in
    let rest = chunks_rest c.next.new.self in
    let e : chunks_rest c.loop-piece.piece-iterator ≡ piece ++ rest = search rules in
    let digits = rw c.put_piece.ensures at c.text.ensures in
    (search rules, tt, search rules, gathering_on (hex_of piece) (hex_of rest) (ap hex_of e ∙ hex_append piece rest) digits c.loop-piece.invariant.3)

pub returns : goal.returns
unfolding hex_of
returns c =
    let rest = chunks_rest c.loop-piece.piece-iterator in
    let none : length rest ≡ 0 = search rules in
    gathering_end (ap hex_of (nil_from_length rest none)) c.loop-piece.invariant.3
