-- `laying::lay_option` meets its contract, by whether there is a diagnostic.
-- Assumes nothing.
use Rattle.verify_markup.proofs.DiagLaws.{writes_none}
use Rattle.verify_markup.proofs.laying.lay_option.Goals as goal

pub returns-in-None : goal.returns-in-None
returns-in-None c = rw c.in-None.is (writes_none _)
