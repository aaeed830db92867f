-- `pass` meets its contract. The invariant: the scan from the run's start is the scan from here, and the note holds.
-- Assumes nothing.
use Prim.Native.Nat.{ℕ, ◌≤◌}
use mathlib.Core.Path.{◌≡◌, refl, sym, ◌∙◌}
use mathlib.Core.List.{List}
use lib.ListN.{length}
use native.Mathlib.Omega.{arith}
use Rattle.scans.specs.Scan.{scan}
use Rattle.byte_rules.specs.Reading.{named}
use Rattle.scans.specs.Notes.{Holds, IsNoted}
use Rattle.scans.specs.declared.Step.{Step}
use Rattle.scans.proofs.Laws.{scan_end, scan_one, scan_two, scan_stop}
use Rattle.comment_parser.specs.Rules.{pass_act}
use Rattle.comment_parser.specs.Pass.{pass_step}
use Rattle.comment_parser.proofs.Laws.{step_is, ended, ran_out, skip_less}
use Rattle.comment_parser.proofs.pass.pass.Goals as goal
use Rattle.comment_parser.proofs.pass.pass.Goals.{After-pass_act-acted}

pub loop-p-init : goal.loop-p-init
loop-p-init c = (omega arith, λ h. (refl, h))

pub returns-then-text-p : goal.returns-then-text-p
returns-then-text-p c = λ h.
    let here = c.loop-p.invariant.1 h in
    let ends = here.0 ∙ c.skip-p.ensures.over _ _ ∙ scan_end _ _ _ (omega arith) in
    record { is = rw c.moved-after.ensures (sym (ran_out _ _ _ _ ends)); holds = here.1 }

pub pass_act-acted-requires : goal.pass_act-acted-requires
pass_act-acted-requires c = omega (arith, skip_less _ _ _ _ c.skip-p.ensures (omega arith), c.loop-p.invariant.0)

-- at a place where a rule was asked: the scan comes there, and what the rule says
module _ (c : After-pass_act-acted) where
  abbrev text : List ℕ
  text = c.args.text.now

  abbrev step : ℕ → Step
  step = pass_step (named c.args.st.reading) text c.args.st c.args.from

  abbrev here : ℕ
  here = c.skip-p.result

  comes : Holds text c.args.note → scan step (length text) c.args.from ≡ scan step (length text) here
  comes h = (c.loop-p.invariant.1 h).0 ∙ c.skip-p.ensures.over _ _

  says : Holds text c.args.note → IsNoted text (pass_act (named c.args.st.reading) text c.args.st c.args.from here) c.pass_act-acted.result
  says h = c.pass_act-acted.ensures (c.loop-p.invariant.1 h).1

  ahead : c.loop-p.p ≤ here
  ahead = skip_less _ _ _ _ c.skip-p.ensures (omega arith)

  onward : c.args.from ≤ here
  onward = omega (arith, ahead, c.loop-p.invariant.0)

pub overflow_add-p : goal.overflow_add-p
overflow_add-p c = omega arith

pub loop-p-smaller-in-One : goal.loop-p-smaller-in-One
loop-p-smaller-in-One c = omega (arith, ahead (goal.at.loop-p-smaller-in-One c).After-pass_act-acted)

pub loop-p-preserved-in-One : goal.loop-p-preserved-in-One
loop-p-preserved-in-One c =
    let a = (goal.at.loop-p-preserved-in-One c).After-pass_act-acted in
    (omega (arith, onward a), λ h. let s = says a h in (comes a h ∙ scan_one _ _ _ (omega arith) (step_is _ _ _ _ _ _ (sym c.in-One.is ∙ s.is)), s.holds))

pub overflow_add-p-in-Two : goal.overflow_add-p-in-Two
overflow_add-p-in-Two c = omega arith

pub loop-p-smaller : goal.loop-p-smaller
loop-p-smaller c = omega (arith, ahead (goal.at.loop-p-smaller c).After-pass_act-acted)

pub loop-p-preserved : goal.loop-p-preserved
loop-p-preserved c =
    let a = (goal.at.loop-p-preserved c).After-pass_act-acted in
    (omega (arith, onward a), λ h. let s = says a h in (comes a h ∙ scan_two _ _ _ (omega arith) (step_is _ _ _ _ _ _ (sym c.in-Two.is ∙ s.is)), s.holds))

pub returns-in-Ends : goal.returns-in-Ends
returns-in-Ends c = λ h.
    let a = (goal.at.returns-in-Ends c).After-pass_act-acted in
    let s = says a h in
    let ends = sym c.in-Ends.is ∙ s.is in
    record { is = sym (ended _ _ _ _ _ (omega arith) (comes a h ∙ scan_stop _ _ _ (omega arith) (step_is _ _ _ _ _ _ ends)) _ _ ends); holds = s.holds }
