-- `order_of` meets its contract. The loop's invariant: the order of what is left of both names is their order.
-- Assumes nothing.
use mathlib.Core.Path.{◌≡◌, sym, ◌∙◌}
use native.Mathlib.Omega.{arith}
use Rattle.std.specs.Cmp.{nat_cmp_is}
use Rattle.std.specs.declared.cmp.Ordering.TheVariants.{Equal}
use Rattle.std.proofs.lemmas.Map.Lookups.{exact_unsigned}
use Rattle.name_table.specs.Spelling.{spelled, step_of}
use Rattle.name_table.specs.declared.Spelling.TheVariants.{Plain}
use Rattle.name_table.proofs.SpellingLaws.{compare_unequal, compare_equal, compare_ends}
use Rattle.name_table.proofs.ordering.order_of.Goals as goal

pub returns-then-name-k : goal.returns-then-name-k
unfolding spelled
returns-then-name-k c =
    let unequal : c.cmp.result ≡ Equal → ⊥ = λ e. c.if-name-k.true (exact_unsigned _ _ (sym c.cmp.ensures ∙ e)) in
    sym (compare_unequal _ Plain _ c.loop-k.k c.loop-k.k (omega arith) (omega arith) _ c.cmp.ensures unequal) ∙ c.loop-k.invariant

pub loop-k-preserved : goal.loop-k-preserved
unfolding spelled step_of
loop-k-preserved c =
    sym (compare_equal _ Plain _ c.loop-k.k c.loop-k.k (omega arith) (omega arith) (nat_cmp_is _ _ Equal c.if-name-k.false)) ∙ c.loop-k.invariant

pub returns : goal.returns
returns c = c.cmp-2.ensures ∙ sym (compare_ends _ _ c.loop-k.k (omega arith)) ∙ c.loop-k.invariant
