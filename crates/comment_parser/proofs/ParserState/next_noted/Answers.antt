-- `next_noted` meets its contract: the check's refusal is given whatever the note is; what it lets through is accepted.
-- Assumes nothing.
use mathlib.Core.Path.{◌≡◌, refl, ap, sym, ◌∙◌}
use mathlib.Core.Option.{Option, some}
use Rattle.std.proofs.lemmas.Result.{err_from_is_err_and}
use Rattle.records.specs.Answer.{Answer, checked_answer}
use Rattle.records.proofs.Answers.{state_accepted}
use Rattle.comment_parser.specs.Next.{refused_as, next_of}
use Rattle.comment_parser.proofs.Along.{within_says}
use Rattle.comment_parser.proofs.ParserState.next_noted.Goals as goal

-- what a check tells that refuses
refuses : {o : Option Answer} {x a : Answer} → some x ≡ o → o ≡ some a → x ≡ a
refuses h k = cc

pub returns-in_err-check : goal.returns-in_err-check
unfolding next_of
returns-in_err-check c =
    let p = err_from_is_err_and c.from_residual.result c.from_residual.ensures.1 in
    let why = c.in_err-check.ensures in
    rw (p.1, p.2) (record {
      refuses = λ a e. record { is = ap (refused_as _) (refuses why e); same = refl };
      reads = λ h. record { is = rw (next_of, ← why); holds = h };
    })

pub returns : goal.returns
returns c =
    let check = c.check in
    let a = state_accepted _ _ _ (sym check.ensures ∙ ap checked_answer c.in_ok-check.was) in
    within_says (record { short = a.0; inside = a.1; fits = a.2 }) c.next_within.ensures
