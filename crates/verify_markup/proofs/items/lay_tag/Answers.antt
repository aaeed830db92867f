-- `items::lay_tag` meets its contract: two writers, the second behind the first.
-- Assumes nothing.
use Rattle.std.proofs.Common.{refl, ◌-◌, arith}
use Rattle.records.proofs.Both.{sum_fits}
use Rattle.verify_markup.specs.Diag.{undefined_bib_tag}
use Rattle.verify_markup.specs.Items.{tag_diags}
use Rattle.verify_markup.proofs.DiagLaws.{few_when, pair_told}
use Rattle.verify_markup.proofs.ItemLaws.{few_escapes}
use Rattle.verify_markup.proofs.items.lay_tag.Goals as goal

pub returns : goal.returns
unfolding tag_diags
returns c =
    let b = c.args.part.buf.now in
    let s = c.args.part.span in
    let unknown = rw c.bytes.ensures at c.no_tag-unknown.ensures in
    rw (← unknown) (pair_told (few_escapes b s.start s.end (s.end - s.start) s.start) (few_when c.no_tag-unknown.result (undefined_bib_tag s.start s.end) refl) c.lay_bib_escapes-escapes.ensures c.lay_if-tag.ensures (omega (arith, c.well_formed)) (omega arith) (sum_fits _ _ c.then.ensures))
