-- `plain_8` meets its contract.
-- Assumes nothing.
use borrow.Author.Tests.{not-true}
use Rattle.scans.proofs.PlainLaws.{free, plain_8}
use Rattle.scans.proofs.plain.plain_8.Goals as goal

pub returns : goal.returns
returns c = λ h. let f = free _ _ _ _ _ _ (not-true _ h) in plain_8 _ _ (c.has_8.ensures c.if-not-has_8.false) (c.byte_in_8-a.ensures f.not_1) (c.byte_in_8-b.ensures f.not_2) (c.byte_in_8-c.ensures f.not_3) (c.byte_in_8-d.ensures f.not_4) (c.byte_in_8-e.ensures f.not_5) (c.byte_in_8-f.ensures f.not_6)
