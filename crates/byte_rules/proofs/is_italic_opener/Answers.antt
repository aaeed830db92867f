-- `is_italic_opener` meets its contract.
-- Assumes nothing.
use Rattle.byte_rules.proofs.MaskLaws.{opener_bit}
use Rattle.byte_rules.proofs.is_italic_opener.Goals as goal

pub returns : goal.returns
returns c = rw c.mask.ensures (opener_bit _)
