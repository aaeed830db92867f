-- `order_escaped` meets its contract. The loop's invariant: the order of what is left of both names is their order.
-- Assumes nothing.
use mathlib.Core.Path.{sym, ap, ◌∙◌}
use native.Mathlib.Omega.{arith}
use lib.ListN.{get_or}
use Rattle.std.specs.Ordering.{nat_cmp}
use Rattle.unescape.specs.Unescape.{is_escape}
use Rattle.unescape.proofs.Laws.{step_within}
use Rattle.name_table.specs.Spelling.{spelled, step_of}
use Rattle.name_table.specs.declared.Spelling.TheVariants.{Escaped}
use Rattle.name_table.proofs.SpellingLaws.{compare_unequal, compare_equal, compare_longer, compare_over}
use Rattle.name_table.proofs.ordering.order_escaped.Goals as goal

pub returns-in_default : goal.returns-in_default
unfolding spelled
returns-in_default c =
    sym (compare_longer _ (Escaped _) _ _ _ c.loop-a-test.true c.in_default.ensures.lookup.3) ∙ c.loop-a.invariant.1

pub overflow_add-i : goal.overflow_add-i
overflow_add-i c =
    omega (arith, c.unescape_step.ensures, step_within (is_escape c.args.kind) c.args.text.now _ c.in-Some.ensures.lookup.3.0)

pub returns-in_default-cmp : goal.returns-in_default-cmp
unfolding spelled
returns-in_default-cmp c =
    let here = c.in-Some.ensures.lookup.3 in
    let is = c.cmp.ensures ∙ ap (nat_cmp (get_or c.args.name.now c.loop-a.a-index 0)) (here.1 0) in
    sym (compare_unequal _ (Escaped _) _ _ _ c.loop-a-test.true here.0 _ is c.in_default-cmp.not-Equal) ∙ c.loop-a.invariant.1

pub loop-a-preserved : goal.loop-a-preserved
unfolding spelled step_of
loop-a-preserved c =
    let here = c.in-Some.ensures.lookup.3 in
    let is = sym c.in-Equal.is ∙ c.cmp.ensures ∙ ap (nat_cmp (get_or c.args.name.now c.loop-a.a-index 0)) (here.1 0) in
    let within = step_within (is_escape c.args.kind) c.args.text.now _ here.0 in
    (omega (arith, c.unescape_step.ensures), rw c.unescape_step.ensures (sym (compare_equal _ (Escaped _) _ _ _ c.loop-a-test.true here.0 is) ∙ c.loop-a.invariant.1))

pub returns : goal.returns
unfolding spelled
returns c =
    c.cmp-2.ensures ∙ sym (compare_over _ (Escaped _) _ _ _ c.loop-a-test.false c.loop-a.invariant.0) ∙ c.loop-a.invariant.1
