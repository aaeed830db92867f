-- `Table::lookup` meets its contract: a table that is not refused is good, and over a good table the search finds what the walk finds.
-- Assumes nothing.
use mathlib.Core.Path.{◌∙◌}
use Rattle.name_table.specs.Spelling.{spelled}
use Rattle.name_table.proofs.Laws.{searched_good}
use Rattle.name_table.proofs.Table.lookup.Goals as goal

pub returns : goal.returns
unfolding spelled
returns c =
    let t = c.args.self in
    let good = c.in_ok-check.ensures in
    rw (← good, c.search.ensures ∙ searched_good t.bytes.now t.ends.now 1 good c.args.name.now)
