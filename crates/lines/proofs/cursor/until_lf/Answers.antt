-- `until_lf` meets its contract.
-- Assumes nothing.
use Rattle.std.proofs.Common.{rules, tests}
use lib.Dec.{eqb}
use Rattle.std.proofs.lemmas.Iterator.{YieldsList-from_slice}
use Rattle.std.proofs.lemmas.Iterator.Search.{position_from_yields_List}
use Rattle.scans.specs.Marks.{lf}
use Rattle.lines.proofs.Laws.{first_clear, first_inside, first_ends, first_is}
use Rattle.lines.proofs.cursor.until_lf.Goals as goal

pub returns : goal.returns
returns c =
    let s = c.args.part.now in
    let place = position_from_yields_List (λ b. eqb b lf) _ _ c.position.result c.position.ensures.ran (YieldsList-from_slice s cc) (λ x b q k. search (rules, tests)) in
    let e = first_is s c.position.result c.unwrap_or.result place c.unwrap_or.ensures in
    record { inside = rw e (first_inside s); clear = rw e (first_clear s); ends = rw e (first_ends s) }
