-- `is_blank` meets its contract.
-- Assumes nothing.
use Rattle.byte_rules.proofs.MaskLaws.{blank_bit}
use Rattle.byte_rules.proofs.is_blank.Goals as goal

pub returns : goal.returns
returns c = rw c.mask.ensures (blank_bit _)
