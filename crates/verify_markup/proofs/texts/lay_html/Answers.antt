-- `texts::lay_html` meets its contract: the mark that was found lies in the span.
-- Assumes nothing.
use Rattle.std.proofs.Common.{◌≡◌, ◌-◌, ◌∙◌, take, arith, rules}
use lib.Seq.{length-take-le}
use Rattle.basics.specs.declared.Span.{Span}
use Rattle.verify_markup.specs.Diag.{of_some, uninterpreted_html}
use Rattle.verify_markup.specs.Texts.{html_from, html_in}
use Rattle.verify_markup.specs.Words.{words_if}
use Rattle.verify_markup.proofs.DiagLaws.{words_mapped}
use Rattle.verify_markup.proofs.TextLaws.{MarkWithin, html_within, fits_html}
use Rattle.verify_markup.proofs.texts.lay_html.Goals as goal
use Rattle.verify_markup.proofs.texts.lay_html.Goals.{After-first_html-mark}

-- the mark that was found
module _ (c : After-first_html-mark) where
  mark_is : c.first_html-mark.result ≡ html_from (take c.args.part.span.end c.args.part.buf.now) (c.args.part.span.end - c.args.part.span.start) c.args.part.span.start
  mark_is = c.first_html-mark.ensures ∙ rw (c.until_end.ensures, length-take-le c.args.part.span.end c.args.part.buf.now c.args.part.in_buf.inside)

  mark_within : MarkWithin (take c.args.part.span.end c.args.part.buf.now) c.first_html-mark.result
  mark_within =
      let s = c.args.part.span in
      let in_buf = c.args.part.in_buf in
      rw mark_is (html_within (take s.end c.args.part.buf.now) (s.end - s.start) s.start (omega (arith, in_buf.order, length-take-le s.end c.args.part.buf.now in_buf.inside)))

pub lay_option-requires : goal.lay_option-requires
lay_option-requires c =
    let m = (goal.at.lay_option-requires c).After-first_html-mark in
    let p = c.args.part in
    fits_html (take p.span.end p.buf.now) _ _ c.map.ensures.cases (λ s y r. search rules) (mark_within m) (omega (arith, p.in_buf.inside, p.in_buf.short, length-take-le p.span.end p.buf.now p.in_buf.inside))

pub returns : goal.returns
unfolding html_in
returns c =
    let m = (goal.at.returns c).After-first_html-mark in
    let is : words_if c.map.result ≡ of_some (λ x. uninterpreted_html x.start x.end) c.first_html-mark.result =
    words_mapped (λ (x : Span). uninterpreted_html x.start x.end) _ _ c.map.ensures.cases (λ s y r. search rules) in
    rw (html_in, ← mark_is m, ← is) c.lay_option.ensures
