-- `lay_label` meets its contract. The entry's number fits a word, as its end does.
-- Assumes nothing.
use mathlib.Core.Path.{◌≡◌, sym}
use native.Mathlib.Omega.{arith}
use Rattle.std.proofs.Common.{rules}
use Rattle.name_table.specs.Table.{end_of}
use Rattle.name_table.proofs.Laws.{searched_end}
use Rattle.links.proofs.lay_label.Goals as goal

pub prove-unreachable-requires : goal.prove-unreachable-requires
prove-unreachable-requires c =
    let table = c.args.labels in
    let is : c.unwrap_or-end.result ≡ end_of table.ends.now c.in-Some.entry = search rules in
    omega (arith, searched_end table.bytes.now table.ends.now 1 c.requires.good _ c.in-Some.entry (sym c.in-Some.ensures))
