-- `laying::lay_one` meets its contract.
-- Assumes nothing.
use Rattle.verify_markup.proofs.DiagLaws.{writes_one}
use Rattle.verify_markup.proofs.laying.lay_one.Goals as goal

pub returns : goal.returns
returns c = writes_one _ _ _ c.words.ensures c.lay.ensures.wrote c.lay.ensures.left
