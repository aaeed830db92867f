-- `driver::verify_markup` meets its contract: its answer and the room are those of a list call with the check's refusal, the lines are filled in behind the diagnostics, and over good tables the search finds what the walk finds.
-- Assumes nothing.
use Rattle.std.proofs.Common.{◌≡◌, ◌∙◌, List, sym, ap, subst, length, arith}
use Rattle.std.proofs.lemmas.Result.{err_from_is_err_and}
use mathlib.Core.Option.{none, some}
use Rattle.basics.proofs.Laws.{the_one}
use Rattle.byte_rules.specs.Reading.{named}
use Rattle.records.specs.Answer.{refusal_answer, span_refusal}
use Rattle.records.specs.Records.{laid}
use Rattle.records.specs.declared.Wrote.{Wrote}
use Rattle.records.proofs.Answers.{span_accepted}
use Rattle.records.proofs.Laying.{given_refused, listed_fits}
use Rattle.lines.specs.Lines.{lined}
use Rattle.lines.proofs.Filling.{lined_counted, lined_laid}
use Rattle.comment_parser.specs.Item.{span}
use Rattle.comment_parser.specs.Events.{events_of}
use Rattle.comment_parser.specs.Items.{items_left}
use Rattle.comment_parser.specs.declared.CommentItem.{CommentItem}
use Rattle.comment_parser.proofs.ItemsLaid.{events_ordered, events_few}
use Rattle.verify_markup.specs.Diag.{diag_width}
use Rattle.verify_markup.specs.Items.{Names}
use Rattle.verify_markup.specs.Bounds.{LiesIn}
use Rattle.verify_markup.specs.Words.{Writes}
use Rattle.verify_markup.specs.List.{closed, diags_from, diagnostics}
use Rattle.verify_markup.specs.Check.{check_refusal, names_of}
use Rattle.verify_markup.specs.Lent.{lent_tables, lent_names}
use Rattle.verify_markup.proofs.LineLaws.{diagnostics_fit, diagnostics_wide}
use Rattle.verify_markup.proofs.CheckLaws.{go_on, names_good}
use Rattle.verify_markup.proofs.driver.verify_markup.Goals as goal
use Rattle.verify_markup.proofs.driver.verify_markup.Goals.{In_ok-items}

pub returns-in_err-items : goal.returns-in_err-items
unfolding check_refusal span_refusal
returns-in_err-items c =
    let p = err_from_is_err_and c.from_residual.result c.from_residual.ensures.1 in
    let why : some (refusal_answer c.in_err-items.field-0.0) ≡ span_refusal (length c.args.buf.now) c.args.start c.args.end = grind arith in
    let both = given_refused _ _ diag_width _ c.args.out.now (the_one _ _ why) in
    record { answer = rw (p.1, p.2) both.0; left = both.1 }

-- the walk is begun over a span that is not refused, with all its events to come
good : (c : In_ok-items) → none ≡ span_refusal (length c.args.buf.now) c.args.start c.args.end
unfolding span_refusal
good c = grind arith

all_to_come : (c : In_ok-items) → items_left c.in_ok-items.items ≡ events_of (named c.args.reading) c.args.buf.now c.args.start c.args.end
all_to_come c = grind arith

pub returns-in_err-check : goal.returns-in_err-check
unfolding check_refusal
returns-in_err-check c =
    let p = err_from_is_err_and c.from_residual-in_err-check.result c.from_residual-in_err-check.ensures.1 in
    let both = given_refused _ _ diag_width _ c.args.out.now (go_on (good (goal.at.returns-in_err-check c).In_ok-items) c.in_err-check.ensures) in
    record { answer = rw (p.1, p.2) both.0; left = both.1 }

pub invariant_of-lay_all : goal.invariant_of-lay_all
invariant_of-lay_all c =
    let s = span_accepted _ _ _ (sym (good (goal.at.invariant_of-lay_all c).In_ok-items)) in
    record { in_buf = record { order = omega (arith, s); inside = omega (arith, s); short = omega (arith, s) } }

-- the events of the span, as the walk over them is lent them
pub lay_all-count-requires : goal.lay_all-count-requires
lay_all-count-requires c =
    let a = c.args in
    subst (LiesIn (span a.start a.end)) (sym (all_to_come (goal.at.lay_all-count-requires c).In_ok-items)) (record { ordered = events_ordered (named a.reading) a.buf.now a.start a.end; few = events_few (named a.reading) a.buf.now a.start a.end })

pub returns : goal.returns
unfolding check_refusal diagnostics
returns c =
    let a = c.args in
    let rd = named a.reading in
    let found = diagnostics rd (lent_names a.tables) a.buf.now a.start a.end in
    let due = diagnostics rd (names_of (lent_tables a.tables)) a.buf.now a.start a.end in
    let same : found ≡ due = ap (λ (n : Names). diagnostics rd n a.buf.now a.start a.end) (names_good (lent_tables a.tables) c.in_ok-check.ensures) in
    let begun = (goal.at.returns c).In_ok-items in
    let s = span_accepted _ _ _ (sym (good begun)) in
    let wide = diagnostics_wide rd (lent_names a.tables) a.buf.now a.start a.end in
    let fit = diagnostics_fit a.buf.now s.0 rd (lent_names a.tables) a.start a.end in
    let all : Writes found a.out.now c.lay_all-count.new.out c.lay_all-count.result =
    subst (λ (is : List CommentItem). Writes (diags_from a.buf.now a.end (lent_names a.tables) closed is) a.out.now c.lay_all-count.new.out c.lay_all-count.result) (all_to_come begun) c.lay_all-count.ensures in
    let count = ap (λ (w : Wrote). w.count) all.told in
    let counted : c.lay_all-count.result.count ≡ length (lined a.buf.now due) = rw same at (lined_counted a.buf.now found a.out.now wide fit count all.left) in
    let filled_in : c.fill_lines.new.room ≡ laid diag_width (lined a.buf.now due) a.out.now = c.fill_lines.ensures ∙ rw same at (lined_laid a.buf.now found a.out.now wide fit count all.left) in
    let good : none ≡ check_refusal a.buf.now a.start a.end (lent_tables a.tables) = go_on (good begun) c.in_ok-check.ensures in
    let both = listed_fits diag_width (lined a.buf.now due) a.out.now counted filled_in _ good (omega arith) c.fits.result (rw (c.fill_lines.auto.room ∙ all.long) at c.fits.ensures) in
    record { answer = both.0; left = both.1 }
