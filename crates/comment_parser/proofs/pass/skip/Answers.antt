-- `skip` meets its contract: it goes over plain bytes alone, and stops before the step that reaches the noted subscript end.
-- Assumes nothing.
use lib.ListN.{length}
use native.Mathlib.Omega.{arith}
use mathlib.Core.Path.{◌∙◌}
use Rattle.scans.specs.Plain.{plain_step}
use Rattle.scans.proofs.Laws.{scan_end, scan_ge}
use Rattle.comment_parser.proofs.Laws.{skip_to}
use Rattle.comment_parser.proofs.pass.skip.Goals as goal

pub returns-then-noted-q : goal.returns-then-noted-q
returns-then-noted-q c = let a = c.args in let e = c.plain_end-q.ensures in skip_to _ _ _ _ c.if-st.false (omega arith) (λ l. omega (arith, scan_end (plain_step a.text.now) (length a.text.now) a.p l)) (λ l. omega arith) (λ k x y z. omega arith)

pub returns-else-p-noted : goal.returns-else-p-noted
returns-else-p-noted c = let e = c.plain_end-q.ensures in skip_to _ _ _ _ c.if-st.false (omega arith) (λ l. e ∙ scan_end _ _ _ l) (λ l. rw e (scan_ge _ _ _ _ (omega arith) l)) (λ k x y z. omega arith)
