-- `label_end` meets its contract. The invariant: a label from here ends where the label from the start does, if the note holds.
-- Assumes nothing.
use mathlib.Core.Path.{refl, sym, ◌∙◌}
use native.Mathlib.Omega.{arith}
use Rattle.scans.proofs.Laws.{scan_end, scan_one, scan_two, scan_stop}
use Rattle.scans.proofs.PlainLaws.{label_one}
use Rattle.scans.proofs.labels.label_end.Goals as goal

pub loop-i-init : goal.loop-i-init
loop-i-init c = (omega arith, λ h. (refl, h))

pub bounds-text-i : goal.bounds-text-i
bounds-text-i c = omega arith

pub label_step-requires : goal.label_step-requires
label_step-requires c = omega arith

pub overflow_add-i : goal.overflow_add-i
overflow_add-i c = omega arith

pub loop-i-smaller-in-One : goal.loop-i-smaller-in-One
loop-i-smaller-in-One c = omega arith

pub loop-i-preserved-in-One : goal.loop-i-preserved-in-One
loop-i-preserved-in-One c = let inv = c.loop-i.invariant in (omega arith, λ h. let here = inv.1 h in let n = c.tag_note-note.ensures here.1 in (here.0 ∙ scan_one _ _ _ (omega arith) (sym (c.label_step.ensures n) ∙ c.in-One.is), n.holds))

pub overflow_add-i-in-Two : goal.overflow_add-i-in-Two
overflow_add-i-in-Two c = omega arith

pub loop-i-smaller-in-Two : goal.loop-i-smaller-in-Two
loop-i-smaller-in-Two c = omega arith

pub loop-i-preserved-in-Two : goal.loop-i-preserved-in-Two
loop-i-preserved-in-Two c = let inv = c.loop-i.invariant in (omega arith, λ h. let here = inv.1 h in let n = c.tag_note-note.ensures here.1 in (here.0 ∙ scan_two _ _ _ (omega arith) (sym (c.label_step.ensures n) ∙ c.in-Two.is), n.holds))

pub returns-in-Stop : goal.returns-in-Stop
returns-in-Stop c = let inv = c.loop-i.invariant in record { within = (omega arith, λ h. inv.0); told = λ h. let here = inv.1 h in let n = c.tag_note-note.ensures here.1 in record { is = sym (here.0 ∙ scan_stop _ _ _ (omega arith) (sym (c.label_step.ensures n) ∙ c.in-Stop.is)); holds = n.holds } }

pub overflow_add-i-else-is_label_active : goal.overflow_add-i-else-is_label_active
overflow_add-i-else-is_label_active c = omega arith

pub loop-i-smaller : goal.loop-i-smaller
loop-i-smaller c = omega arith

pub loop-i-preserved : goal.loop-i-preserved
loop-i-preserved c = let inv = c.loop-i.invariant in (omega arith, λ h. let here = inv.1 h in (here.0 ∙ scan_one _ _ _ (omega arith) (label_one _ _ (omega arith) (sym c.is_label_active.ensures ∙ c.if-is_label_active.false)), here.1))

pub returns : goal.returns
returns c = record { within = (omega arith, λ h. h); told = λ h. let here = c.loop-i.invariant.1 h in record { is = sym (here.0 ∙ scan_end _ _ _ (omega arith)); holds = here.1 } }
