-- `texts::first_html` meets its contract. The loop's invariant: the first mark from i on is the first of all.
-- Assumes nothing.
use Rattle.std.proofs.Common.{◌∙◌, ◌+◌, ◌≤◌, length, sym, arith}
use native.Mathlib.Nat.{le_refl}
use Rattle.scans.specs.Plain.{plain_step}
use Rattle.scans.proofs.Laws.{scan_le, scan_ge}
use Rattle.verify_markup.proofs.TextLaws.{EndsWithin, len_within, html_here, html_on, html_over}
use Rattle.verify_markup.proofs.PlainTexts.{html_skip}
use Rattle.verify_markup.proofs.texts.first_html.Goals as goal

pub loop-i-init : goal.loop-i-init
loop-i-init c =
    let a = c.args in
    let e = c.plain_end-i.ensures in
    (omega (arith, e, scan_le (plain_step a.text.now) (length a.text.now) a.from), sym (html_skip a.text.now a.from c.plain_end-i.result e))

pub overflow_add-result : goal.overflow_add-result
overflow_add-result c =
    let s = c.args.text.now in
    let h : EndsWithin s c.loop-i.i c.html_len.result = rw c.html_len.ensures (len_within s c.loop-i.i c.loop-i.invariant.0) in
    omega (arith, rw c.in-Some.is at h, c.well_formed)

pub returns-in-Some : goal.returns-in-Some
returns-in-Some c = html_here _ _ c.loop-i-test.true _ (sym c.in-Some.is ∙ c.html_len.ensures) ∙ c.loop-i.invariant.1

pub loop-i-smaller : goal.loop-i-smaller
loop-i-smaller c =
    let s = c.args.text.now in
    let h : c.loop-i.i + 1 ≤ length s = omega (arith, c.loop-i-test.true) in
    omega (arith, c.plain_end-i-in-loop-i.ensures, scan_ge (plain_step s) (length s) (c.loop-i.i + 1) (c.loop-i.i + 1) (le_refl (c.loop-i.i + 1)) h)

pub loop-i-preserved : goal.loop-i-preserved
loop-i-preserved c =
    let s = c.args.text.now in
    let e = c.plain_end-i-in-loop-i.ensures in
    let on = html_on _ _ c.loop-i-test.true (sym c.in_default.is ∙ c.html_len.ensures) in (
      omega (arith, e, scan_le (plain_step s) (length s) (c.loop-i.i + 1)),
      sym (on ∙ html_skip s (c.loop-i.i + 1) c.plain_end-i-in-loop-i.result e) ∙ c.loop-i.invariant.1,
    )

pub returns : goal.returns
returns c = html_over _ _ c.loop-i-test.false ∙ c.loop-i.invariant.1
