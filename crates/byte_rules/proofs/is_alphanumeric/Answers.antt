-- `is_alphanumeric` meets its contract.
-- Assumes nothing.
use Rattle.byte_rules.proofs.MaskLaws.{alphanumeric_bit}
use Rattle.byte_rules.proofs.is_alphanumeric.Goals as goal

pub returns : goal.returns
returns c = rw c.mask.ensures (alphanumeric_bit _)
