-- Demand 3: the two theorems that specs/Demand3.antt states.
-- Assumes nothing.
use mathlib.Core.Bool.{false}
use mathlib.Core.Option.{none}
use native.Mathlib.Omega.{arith}
use Rattle.comment_parser.specs.Events.{events_of}
use Rattle.coverage.specs.Demand3.{pieces, EveryByteHasOneOwner, EqualEventsEqualBytes}
use Rattle.coverage.proofs.Tilings.{tiled_in, exactly_one}
use Rattle.coverage.proofs.Told.{read_to_end, accounts}
use Rattle.coverage.proofs.Laid.{laid, straight}
use Rattle.coverage.proofs.Counts.{rises, few, two_at}
use Rattle.coverage.proofs.TwoComments.{agree_at, texts}

pub every_byte_has_one_owner : EveryByteHasOneOwner
every_byte_has_one_owner rd buf a b k =
    let t = accounts buf b rd k.fits a k.short k.ordered in
    let l = laid buf b t straight in
    let xs = pieces a b (events_of rd buf a b) in
    record {
      read_to_end = read_to_end rd buf a b k.short k.ordered k.fits;
      each_byte = λ p i j. exactly_one p a b xs l.tiles i j;
      in_span = tiled_in a a b xs (omega arith) l.tiles;
      each_piece = l.holds;
      in_order = rises t;
      at_most_two = few t;
      two_at_a_place = two_at t;
    }

pub equal_events_equal_bytes : EqualEventsEqualBytes
equal_events_equal_bytes rd s t a b j k z same p l u =
    let x = every_byte_has_one_owner rd s a b j in
    let y = every_byte_has_one_owner rd t a b k in
    agree_at s t b p (x.each_byte p l u) x.each_piece (rw (← z) at y.each_piece) (texts s t b false none a (events_of rd s a b) same)
