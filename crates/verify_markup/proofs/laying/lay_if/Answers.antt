-- `laying::lay_if` meets its contract, by its test.
-- Assumes nothing.
use Rattle.verify_markup.proofs.DiagLaws.{writes_when}
use Rattle.verify_markup.proofs.laying.lay_if.Goals as goal

pub returns-else-test : goal.returns-else-test
returns-else-test c = writes_when _ _ c.if-test.false
