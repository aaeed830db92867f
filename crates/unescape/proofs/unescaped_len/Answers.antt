-- `unescape::unescaped_len` meets its contract: what is counted and what is to come make up the whole.
-- Assumes nothing.
use Prim.Native.Nat.{ℕ, ◌+◌, ◌≤◌}
use mathlib.Core.Path.{◌≡◌, ap}
use native.Mathlib.Omega.{arith}
use lib.ListN.{length, drop}
use Rattle.unescape.specs.Unescape.{is_escape, unescaped}
use Rattle.unescape.proofs.Laws.{unescaped_step, unescaped_end, unescaped_length}
use Rattle.unescape.proofs.Runs.{run_ahead, run_length}
use Rattle.unescape.proofs.unescaped_len.Goals as goal
use Rattle.unescape.proofs.unescaped_len.Goals.{After-plain_end-p}

-- behind the run of plain bytes
module _ (c : After-plain_end-p) where
  abbrev i : ℕ
  i = c.loop-i.i

  abbrev p : ℕ
  p = c.plain_end-p.result

  abbrev to_come_lem : ℕ → ℕ
  to_come_lem k = length (unescaped (is_escape c.args.kind) (drop k c.args.text.now))

  inside : i ≤ length c.args.text.now
  inside = omega (arith, c.loop-i-test.true)

  past : i ≤ p
  past = omega (arith, c.plain_end-p.ensures, run_ahead c.args.text.now i inside)

  run : i + to_come_lem i ≡ p + to_come_lem p
  run = run_length c.args.kind c.args.text.now i p c.plain_end-p.ensures inside

  few : length (unescaped (is_escape c.args.kind) c.args.text.now) ≤ length c.args.text.now
  few = unescaped_length (is_escape c.args.kind) c.args.text.now

pub overflow_add-n : goal.overflow_add-n
overflow_add-n c = omega (arith, run c, past c, few c, c.loop-i.invariant)

pub returns-then-text-p : goal.returns-then-text-p
returns-then-text-p c =
    let r = (goal.at.returns-then-text-p c).After-plain_end-p in
    let a = r.args in
    omega (arith, run r, past r, r.loop-i.invariant, ap length (unescaped_end (is_escape a.kind) a.text.now (p r) c.if-text-p.true))

pub overflow_add-n-in-loop-i : goal.overflow_add-n-in-loop-i
overflow_add-n-in-loop-i c =
    let r = (goal.at.overflow_add-n-in-loop-i c).After-plain_end-p in
    let a = r.args in
    omega (arith, run r, few r, past r, r.loop-i.invariant, ap length (unescaped_step (is_escape a.kind) a.text.now (p r) c.if-text-p.false))

pub loop-i-preserved : goal.loop-i-preserved
loop-i-preserved c =
    let r = (goal.at.loop-i-preserved c).After-plain_end-p in
    let a = r.args in
    let step = ap length (unescaped_step (is_escape a.kind) a.text.now (p r) c.if-text-p.false) in
    rw c.unescape_step.ensures (omega (arith, run r, past r, r.loop-i.invariant, step))

pub returns : goal.returns
returns c =
    let a = c.args in
    omega (arith, ap length (unescaped_end (is_escape a.kind) a.text.now c.loop-i.i c.loop-i-test.false))
