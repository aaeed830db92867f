-- `items::lay_link` meets its contract: two writers, the second behind the first.
-- Assumes nothing.
use Rattle.std.proofs.Common.{arith}
use Rattle.records.proofs.Both.{sum_fits}
use Rattle.unescape.specs.declared.Escape.TheVariants as escape
use Rattle.verify_markup.specs.Items.{link_diags}
use Rattle.verify_markup.proofs.DiagLaws.{pair_told}
use Rattle.verify_markup.proofs.TextLaws.{few_written}
use Rattle.verify_markup.proofs.ItemLaws.{few_tilde}
use Rattle.verify_markup.proofs.items.lay_link.Goals as goal

pub returns : goal.returns
unfolding link_diags
returns c =
    let b = c.args.link.part.buf.now in
    let s = c.args.link.part.span in
    pair_told (few_tilde b c.args.link.tilde) (few_written b s.start s.end escape.Label) c.lay_tilde-tilde.ensures c.lay_written-text.ensures (omega (arith, c.well_formed)) (omega arith) (sum_fits _ _ c.then.ensures)
