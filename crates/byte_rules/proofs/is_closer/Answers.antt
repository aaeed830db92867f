-- `is_closer` meets its contract.
-- Assumes nothing.
use Rattle.byte_rules.proofs.MaskLaws.{closer_bit}
use Rattle.byte_rules.proofs.is_closer.Goals as goal

pub returns : goal.returns
returns c = rw c.mask.ensures (closer_bit _)
