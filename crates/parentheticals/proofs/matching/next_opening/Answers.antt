-- `matching::next_opening` meets its contract: no byte that it steps over opens anything.
-- Assumes nothing.
use native.Mathlib.Omega.{arith}
use Rattle.parentheticals.proofs.Candidates.{passed_eight, passed_none, opens_at, opens_past, opens_none}
use Rattle.parentheticals.proofs.matching.next_opening.Goals as goal

pub returns-in_err-get : goal.returns-in_err-get
returns-in_err-get c = rw c.from_residual.ensures (opens_past _ _ _ (passed_none _ _) (omega (arith, c.in_err-get.ensures.lookup)))

pub loop-i-preserved : goal.loop-i-preserved
loop-i-preserved c = passed_eight _ c.loop-i.invariant (c.lacks_8.ensures c.loop-i-test.true)

pub returns-in_err-rest : goal.returns-in_err-rest
returns-in_err-rest c = rw c.from_residual-in_err-rest.ensures (opens_past _ _ _ c.loop-i.invariant (omega (arith, c.in_err-rest.ensures.lookup)))

pub returns-in_err-k : goal.returns-in_err-k
returns-in_err-k c =
    let rest = c.in_ok-rest.ensures.lookup.0 in
    rw c.from_residual-in_err-k.ensures (opens_none _ _ _ c.loop-i.invariant rest.0 _ rest.2 c.in_err-k.ensures)

pub returns : goal.returns
returns c = opens_at _ _ _ c.loop-i.invariant _ c.in_ok-rest.ensures.lookup.0.2 _ c.in_ok-k.ensures
