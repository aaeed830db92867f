-- `ParentheticalState::next` meets its contract.
-- Assumes nothing.
use mathlib.Core.Path.{sym}
use lib.Seq.{length-take-le}
use Rattle.records.proofs.Answers.{state_accepted}
use Rattle.parentheticals.proofs.ParentheticalState.next.Goals as goal

pub slice_bounds-next_match-end : goal.slice_bounds-next_match-end
slice_bounds-next_match-end c = sym (length-take-le _ _ (state_accepted _ _ _ (sym c.in_ok-check_state.ensures)).2)
