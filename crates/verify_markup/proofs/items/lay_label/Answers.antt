-- `items::lay_label` meets its contract: two writers, the second behind the first.
-- Assumes nothing.
use Rattle.std.proofs.Common.{arith}
use Rattle.records.proofs.Both.{sum_fits}
use Rattle.verify_markup.specs.Items.{label_diags}
use Rattle.verify_markup.specs.Lent.{lent_search}
use Rattle.verify_markup.proofs.DiagLaws.{pair_told}
use Rattle.verify_markup.proofs.ItemLaws.{few_link, few_name}
use Rattle.verify_markup.proofs.items.lay_label.Goals as goal

pub returns : goal.returns
unfolding label_diags
returns c =
    let a = c.args in
    let b = a.link.part.buf.now in
    let s = a.link.part.span in
    pair_told (few_link b a.link.tilde s.start s.end) (few_name b s.start s.end (lent_search a.labels) a.link.tilde) c.lay_link-first.ensures c.lay_name-name.ensures (omega (arith, c.well_formed)) (omega arith) (sum_fits _ _ c.then.ensures)
