-- `items::lay_bib_escapes` meets its contract. The loop's invariant: the records of the bytes from i on are to be laid behind those before.
-- Assumes nothing.
use Rattle.std.proofs.Common.{◌≡◌, ◌-◌, refl, arith}
use mathlib.Core.Bool.{Bool, ◌||◌}
use Rattle.look.specs.Look.{byte_at}
use Rattle.records.proofs.Both.{sum_fits}
use Rattle.scans.specs.Marks.{tick, tilde}
use Rattle.verify_markup.specs.Diag.{bib_escape}
use Rattle.verify_markup.proofs.DiagLaws.{turn_laid, all_writes}
use Rattle.verify_markup.proofs.ItemLaws.{escapes_on, escapes_end, few_escapes}
use Rattle.verify_markup.proofs.items.lay_bib_escapes.Goals as goal

pub loop-i-preserved : goal.loop-i-preserved
loop-i-preserved c =
    let b = c.args.part.buf.now in
    let s = c.args.part.span in
    let i = c.loop-i.i in
    let t : Bool = c.byte_at.result || c.byte_at-in-loop-i.result in
    let u : Bool = byte_at b i tick || byte_at b i tilde in
    let same : t ≡ u = rw (c.byte_at.ensures, c.byte_at-in-loop-i.ensures) in
    let to_come = rw (escapes_on b s.start s.end i c.loop-i-test.true) at c.loop-i.invariant.2 in
    let one = bib_escape i s.start s.end in
    let turned = turn_laid t u same one refl to_come c.lay_if-one.ensures (omega (arith, c.well_formed)) (omega (arith, c.loop-i.invariant.0, c.loop-i.invariant.1, c.args.part.in_buf)) (sum_fits _ _ c.then-wrote.ensures) in
    (omega (arith, turned.0, c.loop-i.invariant.0), omega arith, turned.1)

pub returns : goal.returns
returns c =
    let b = c.args.part.buf.now in
    let s = c.args.part.span in
    all_writes (few_escapes b s.start s.end (s.end - s.start) s.start).wide (rw (escapes_end _ _ _ _ c.loop-i-test.false) at c.loop-i.invariant.2)
