-- `Table::search` meets its contract. The loop's invariant: halving from lo up to hi finds what it finds in the whole table.
-- Assumes nothing.
use mathlib.Core.Path.{◌≡◌, sym, ap, ◌∙◌}
use native.Mathlib.Omega.{arith}
use Rattle.name_table.specs.Order.{order_of}
use Rattle.name_table.specs.Spelling.{spelled}
use Rattle.name_table.specs.Table.{name_at}
use Rattle.name_table.specs.Search.{middle, searched}
use Rattle.name_table.proofs.SearchLaws.{search_starts, search_up, search_here, search_down, search_over}
use Rattle.name_table.proofs.Table.search.Goals as goal
use Rattle.name_table.proofs.Table.search.Goals.{After-compare, After-plainly-how, In-loop-lo}

-- the name as it is spelled from here on is the one sought
same : (c : After-plainly-how)
    → let t = c.args.self in
    searched t.bytes.now t.ends.now (spelled c.plainly-how.result c.args.text.now) ≡ searched t.bytes.now t.ends.now (spelled c.args.how c.args.text.now)
same c = let t = c.args.self in ap (searched t.bytes.now t.ends.now) c.plainly-how.ensures

pub loop-lo-init : goal.loop-lo-init
loop-lo-init c = (omega arith, search_starts _ _ _)

-- how the middle name stands to the one sought
looked : (c : After-compare)
    → let l = c.loop-lo in
    let t = c.args.self in
    order_of (name_at t.bytes.now t.ends.now (middle l.lo l.hi)) (spelled c.plainly-how.result c.args.text.now) ≡ c.compare.result
looked c = sym (c.compare.ensures ∙ rw c.name_at.ensures)

pub loop-lo-preserved-in-Less : goal.loop-lo-preserved-in-Less
loop-lo-preserved-in-Less c =
    let o = (goal.at.loop-lo-preserved-in-Less c).After-compare in
    (omega arith, sym (search_up _ _ _ _ _ c.loop-lo-test.true (looked o ∙ c.in-Less.is)) ∙ c.loop-lo.invariant.1)

pub returns-in-Equal : goal.returns-in-Equal
returns-in-Equal c =
    let o = (goal.at.returns-in-Equal c).After-compare in
    sym (search_here _ _ _ _ _ c.loop-lo-test.true (looked o ∙ c.in-Equal.is)) ∙ c.loop-lo.invariant.1 ∙ same (goal.at.returns-in-Equal c).After-plainly-how

pub loop-lo-preserved : goal.loop-lo-preserved
loop-lo-preserved c =
    let o = (goal.at.loop-lo-preserved c).After-compare in
    (omega arith, sym (search_down _ _ _ _ _ c.loop-lo-test.true (looked o ∙ c.in-Greater.is)) ∙ c.loop-lo.invariant.1)

pub returns : goal.returns
returns c = let l = c.loop-lo in sym (search_over _ _ _ l.lo l.hi c.loop-lo-test.false) ∙ l.invariant.1 ∙ same (goal.at.returns c).After-plainly-how
