-- `events_by_view` meets its contract: the records are laid and counted, their lines are filled in, and whether they all fit decides the answer.
-- Assumes nothing.
use mathlib.Core.Path.{◌≡◌, ap, sym, ◌∙◌}
use mathlib.Core.Option.{none}
use native.Mathlib.Omega.{arith}
use lib.ListN.{length}
use Rattle.std.proofs.lemmas.Result.{err_from_is_err_and}
use Rattle.byte_rules.specs.Reading.{named}
use Rattle.records.specs.Answer.{checked_answer, span_refusal}
use Rattle.records.proofs.Laying.{given_refused, listed_fits}
use Rattle.events.specs.Events.{event_width, event_records}
use Rattle.events.proofs.Laws.{events_counted, events_laid}
use Rattle.comment_view.proofs.listed.events_by_view.Goals as goal
use Rattle.comment_view.proofs.listed.events_by_view.Goals.{In_ok-check_span}

pub returns-in_err-check_span : goal.returns-in_err-check_span
returns-in_err-check_span c =
    let p = err_from_is_err_and c.from_residual.result c.from_residual.ensures.1 in
    let both = given_refused _ _ event_width _ c.args.out.now c.in_err-check_span.ensures in
    record { answer = rw (p.1, p.2) both.0; left = both.1 }

good : (c : In_ok-check_span) → none ≡ span_refusal (length c.args.buf.now) c.args.start c.args.end
good c = sym (ap checked_answer c.in_ok-check_span.was) ∙ c.check_span.ensures

pub returns : goal.returns
returns c =
    let a = c.args in
    let accepted = good (goal.at.returns c).In_ok-check_span in
    let laid = c.lay_by_view-n.ensures in
    let counted = events_counted (named a.reading) a.buf.now a.start a.end a.out.now accepted laid.0 laid.1 in
    let lined = c.fill_lines.ensures ∙ events_laid (named a.reading) a.buf.now a.start a.end a.out.now accepted laid.0 laid.1 in
    let both = listed_fits event_width (event_records (named a.reading) a.buf.now a.start a.end) a.out.now counted lined _ accepted (omega arith) c.fits.result (rw (c.fill_lines.auto.room ∙ c.lay_by_view-n.auto.out) at c.fits.ensures) in
    record { answer = both.0; left = both.1 }
