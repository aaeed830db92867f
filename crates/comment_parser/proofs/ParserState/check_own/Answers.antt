-- `check_own` meets its contract: the span's check, the state's end, the state's check.
-- Assumes nothing.
use mathlib.Core.Path.{◌≡◌, sym, ap, ◌∙◌}
use mathlib.Core.Option.{none}
use Rattle.std.proofs.lemmas.Result.{err_from_is_err_and}
use Rattle.records.specs.Answer.{checked_answer, span_refusal}
use Rattle.comment_parser.proofs.OwnLaws.{own_span, own_end, own_state}
use Rattle.comment_parser.proofs.ParserState.check_own.Goals as goal
use Rattle.comment_parser.proofs.ParserState.check_own.Goals.{In_ok-check_span}

pub returns-in_err-check_span : goal.returns-in_err-check_span
returns-in_err-check_span c =
    let a = c.args in
    let p = err_from_is_err_and c.from_residual.result c.from_residual.ensures.1 in
    rw (p.1, p.2) (own_span a.len a.self a.start a.end _ c.in_err-check_span.ensures)

good : (c : In_ok-check_span) → none ≡ span_refusal c.args.len c.args.start c.args.end
good c = sym (ap checked_answer c.in_ok-check_span.was) ∙ c.check_span.ensures

pub returns-then-self-end : goal.returns-then-self-end
returns-then-self-end c =
    let a = c.args in
    own_end a.len a.self a.start a.end (good (goal.at.returns-then-self-end c).In_ok-check_span) c.if-self-end.true

pub returns : goal.returns
returns c =
    let a = c.args in
    c.check_state.ensures ∙ own_state a.len a.self a.start a.end (good (goal.at.returns c).In_ok-check_span) c.if-self-end.false
