-- `new` meets its contract: a span that is not refused is begun from a fresh state, with a note that covers nothing.
-- Assumes nothing.
use mathlib.Core.Path.{◌≡◌, sym, ap, ◌∙◌}
use mathlib.Core.Option.{none}
use lib.ListN.{length, take}
use Rattle.records.specs.Answer.{checked_answer, span_refusal}
use Rattle.byte_rules.specs.Reading.{named}
use Rattle.scans.proofs.TagLaws.{holds_nothing}
use Rattle.comment_parser.specs.Events.{events_from}
use Rattle.comment_parser.specs.declared.ParserState.{ParserState}
use Rattle.comment_parser.proofs.Events.{events_start}
use Rattle.comment_parser.proofs.ItemLaws.{fresh_accepted}
use Rattle.comment_parser.proofs.items.Items.new.Goals as goal
use Rattle.comment_parser.proofs.items.Items.new.Goals.{In_ok-check_span}

good : (c : In_ok-check_span) → none ≡ span_refusal (length c.args.buf.now) c.args.start c.args.end
good c = ap checked_answer (sym c.in_ok-check_span.was) ∙ c.check_span.ensures

pub returns : goal.returns
returns c =
    let a = c.args in
    (good (goal.at.returns c).In_ok-check_span, ap (λ (st : ParserState). events_from (named st.reading) a.buf.now st) c.new.ensures ∙ events_start a.reading a.buf.now a.start a.end)

pub invariant_of-result : goal.invariant_of-result
invariant_of-result c =
    let a = c.args in
    record {
      accepted = rw c.new.ensures (fresh_accepted a.reading a.buf.now a.start a.end (good (goal.at.invariant_of-result c).In_ok-check_span));
      noted = holds_nothing (take c.new.result.end a.buf.now) c.nothing.result c.nothing.ensures.1;
    }
