-- An input that is not refused has as many bytes as the room, or fewer.
use Rattle.std.proofs.Common.{arith, sym}
use Rattle.std.proofs.Math.Seq.{length-take-le}
use Rattle.records.proofs.Answers.{input_accepted}
use Rattle.listing.proofs.list_input.Goals as goal

pub slice_bounds-room-end : goal.slice_bounds-room-end
slice_bounds-room-end c = omega (arith, input_accepted _ c.in-Ok-check_input.ensures)

pub slice_bounds-put_listing-end-in-Ok-check_input : goal.slice_bounds-put_listing-end-in-Ok-check_input
slice_bounds-put_listing-end-in-Ok-check_input c = sym (length-take-le _ _ (omega (arith, input_accepted _ c.in-Ok-check_input.ensures)))
