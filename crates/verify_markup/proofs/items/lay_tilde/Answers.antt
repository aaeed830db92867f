-- `items::lay_tilde` meets its contract: two writers, the second behind the first.
-- Assumes nothing.
use Rattle.std.proofs.Common.{arith}
use Rattle.records.proofs.Both.{sum_fits}
use Rattle.verify_markup.specs.Items.{tilde_diags}
use Rattle.verify_markup.proofs.DiagLaws.{pair_told}
use Rattle.verify_markup.proofs.ItemLaws.{few_before, few_after}
use Rattle.verify_markup.proofs.items.lay_tilde.Goals as goal

pub returns : goal.returns
unfolding tilde_diags
returns c =
    let b = c.args.link.part.buf.now in
    let i = c.args.link.tilde in
    pair_told (few_before b i) (few_after b i) (rw c.nonblank_before-before.ensures at c.lay_if-first.ensures) (rw c.nonblank_at-after.ensures at c.lay_if.ensures) (omega (arith, c.well_formed)) (omega arith) (sum_fits _ _ c.then.ensures)
