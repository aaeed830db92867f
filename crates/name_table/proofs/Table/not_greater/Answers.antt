-- `Table::not_greater` meets its contract, by the order of the two names.
-- Assumes nothing.
use Rattle.name_table.proofs.TableLaws.{greater_by}
use Rattle.name_table.proofs.Table.not_greater.Goals as goal

pub returns-then-i-gt0 : goal.returns-then-i-gt0
returns-then-i-gt0 c =
    let known = greater_by _ _ _ c.if-i-gt0.true _ _ c.name_at.ensures c.name_at-then-i-gt0.ensures _ c.cmp.ensures in cc
