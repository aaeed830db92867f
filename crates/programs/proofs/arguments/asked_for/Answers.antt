-- The test of the two texts tells whether the argument is `--strict`.
use Rattle.std.proofs.Common.{sym, ◌∙◌}
use Rattle.std.specs.Cmp.Lexicographic.{same_text, other_text}
use Rattle.programs.proofs.Asked.{asked_strict, asked_else}
use Rattle.programs.proofs.arguments.asked_for.Goals as goal
use Rattle.programs.proofs.arguments.asked_for.Goals.{else-count-eq2-via-then-count-eq2+else-eq, else-count-eq2-via-else-count-eq2}

pub returns-then-eq : goal.returns-then-eq
returns-then-eq c = asked_strict _ _ c.if-count-eq2.true (same_text _ _ (sym c.if-eq.true ∙ c.eq.ensures) ∙ c.as_slice.ensures)

pub returns-else-count-eq2 : goal.returns-else-count-eq2
returns-else-count-eq2 c =
    asked_else _ _ c.if-count-lt2.false
    (λ two is. elim c.else-count-eq2.branch [
      | else-count-eq2-via-then-count-eq2+else-eq w ↦ other_text _ _ (sym w.if-eq.false ∙ w.eq.ensures) (is ∙ sym w.as_slice.ensures)
      | else-count-eq2-via-else-count-eq2 w ↦ w.if-count-eq2.false two
    ])
