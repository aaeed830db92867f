-- `texts::lay_lone` meets its contract. The loop's invariant: the records of the bytes from i on are to be laid behind those before.
-- Assumes nothing.
use Rattle.std.proofs.Common.{◌≡◌, ◌-◌, ◌+◌, ◌≤◌, ℕ, List, length, take, refl, arith}
use native.Mathlib.Nat.{le_refl}
use lib.Seq.{length-take-le}
use Rattle.records.proofs.Laying.{laying_starts}
use Rattle.records.proofs.Both.{sum_fits}
use Rattle.scans.specs.Plain.{plain_step, plain_end}
use Rattle.scans.proofs.Laws.{scan_ge}
use Rattle.unescape.specs.Unescape.{is_escape, step_at}
use Rattle.unescape.proofs.Laws.{step_some, step_within}
use Rattle.verify_markup.specs.Diag.{diag_width, uninterpreted_escape}
use Rattle.verify_markup.specs.Texts.{lone_at}
use Rattle.verify_markup.specs.declared.part.Part.{Part}
use Rattle.verify_markup.proofs.DiagLaws.{turn_laid, all_writes}
use Rattle.verify_markup.proofs.TextLaws.{lone_on, lone_ends, few_lone}
use Rattle.verify_markup.proofs.PlainTexts.{lone_skip}
use Rattle.verify_markup.proofs.texts.lay_lone.Goals as goal
use Rattle.verify_markup.proofs.texts.lay_lone.Goals.{After-plain_end-i-in-loop-i}

-- the first place from a place on that is not plain, up to the span's end
module _ (p : Part) where
  abbrev until : List ℕ
  until = take p.span.end p.buf.now

  -- it lies no earlier than any place before both that place and the end
  past : (k i q : ℕ) → q ≡ plain_end until i → k ≤ i → k ≤ p.span.end → k ≤ q
  past k i q e h l = omega (arith, e, scan_ge (plain_step until) (length until) k i h (omega (arith, length-take-le p.span.end p.buf.now p.in_buf.inside)))

pub loop-i-init : goal.loop-i-init
loop-i-init c =
    let p = c.args.part in
    let e : c.plain_end-i.result ≡ plain_end (until p) p.span.start = rw c.until_end-text.ensures at c.plain_end-i.ensures in
    (omega (arith, past p p.span.start p.span.start c.plain_end-i.result e (le_refl p.span.start) p.in_buf.order), rw (← lone_skip p.buf.now c.args.kind p.span.end p.in_buf.inside p.span.start c.plain_end-i.result e) (laying_starts diag_width _ _))

pub overflow_add-on : goal.overflow_add-on
overflow_add-on c =
    let p = c.args.part in
    omega (arith, c.unescape_step.ensures, step_within (is_escape c.args.kind) p.buf.now c.loop-i.i (omega (arith, c.loop-i-test.true, p.in_buf.inside)), p.in_buf.short)

-- at the place to go on from
module _ (c : After-plain_end-i-in-loop-i) where
  from : c.plain_end-i-in-loop-i.result ≡ plain_end (until c.args.part) (c.loop-i.i + step_at (is_escape c.args.kind) c.args.part.buf.now c.loop-i.i)
  from = rw (c.until_end-text.ensures, c.unescape_step.ensures) at c.plain_end-i-in-loop-i.ensures

  later : c.loop-i.i + 1 ≤ c.plain_end-i-in-loop-i.result
  later =
      let p = c.args.part in
      past p (c.loop-i.i + 1) _ _ from (omega (arith, step_some (is_escape c.args.kind) p.buf.now c.loop-i.i)) (omega (arith, c.loop-i-test.true))

pub loop-i-smaller : goal.loop-i-smaller
loop-i-smaller c = omega (arith, later c, c.loop-i-test.true)

pub loop-i-preserved : goal.loop-i-preserved
loop-i-preserved c =
    let p = c.args.part in
    let b = p.buf.now in
    let i = c.loop-i.i in
    let t = c.lone_at-lone.result in
    let u = lone_at b c.args.kind i in
    let to_come = rw (lone_on b c.args.kind p.span.end i c.loop-i-test.true) at c.loop-i.invariant.1 in
    let one = uninterpreted_escape i in
    let turned = turn_laid t u c.lone_at-lone.ensures one refl to_come c.lay_if-one.ensures (omega (arith, c.well_formed)) (omega (arith, c.loop-i.invariant.0, c.loop-i-test.true, p.in_buf)) (sum_fits _ _ c.then-wrote.ensures) in (
      omega (arith, later c, turned.0, c.loop-i.invariant.0),
      rw (← lone_skip b c.args.kind p.span.end p.in_buf.inside _ c.plain_end-i-in-loop-i.result (from c)) turned.1,
    )

pub returns : goal.returns
returns c =
    let p = c.args.part in
    all_writes (few_lone p.buf.now c.args.kind p.span.end (p.span.end - p.span.start) p.span.start).wide (rw (lone_ends _ _ _ _ c.loop-i-test.false) at c.loop-i.invariant.1)
