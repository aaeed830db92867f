-- `texts::lay_written` meets its contract: two writers, the second behind the first.
-- Assumes nothing.
use Rattle.std.proofs.Common.{◌-◌, arith}
use Rattle.records.proofs.Both.{sum_fits}
use Rattle.verify_markup.specs.Texts.{written}
use Rattle.verify_markup.proofs.DiagLaws.{pair_told}
use Rattle.verify_markup.proofs.TextLaws.{few_lone, few_html}
use Rattle.verify_markup.proofs.texts.lay_written.Goals as goal

pub returns : goal.returns
unfolding written
returns c =
    let b = c.args.part.buf.now in
    let s = c.args.part.span in
    pair_told (few_lone b c.args.kind s.end (s.end - s.start) s.start) (few_html b s.start s.end) c.lay_lone-lone.ensures c.lay_html-html.ensures (omega (arith, c.well_formed)) (omega arith) (sum_fits _ _ c.then.ensures)
