-- `next` meets its contract: it is `next_noted` with the note that covers nothing, which holds.
-- Assumes nothing.
use Rattle.std.proofs.lemmas.Result.{err_from_is_err_and}
use Rattle.scans.proofs.TagLaws.{holds_nothing}
use Rattle.comment_parser.proofs.ParserState.next.Goals as goal

pub returns-in_err-noted : goal.returns-in_err-noted
returns-in_err-noted c =
    let p = err_from_is_err_and c.from_residual.result c.from_residual.ensures.1 in
    rw (p.1, p.2) (c.in_err-noted.ensures.reads (holds_nothing _ c.nothing.result c.nothing.ensures.1)).is

pub returns : goal.returns
returns c = (c.in_ok-noted.ensures.reads (holds_nothing _ c.nothing.result c.nothing.ensures.1)).is
