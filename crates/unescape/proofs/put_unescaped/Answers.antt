-- `unescape::put_unescaped` meets its contract: what is to come of the unescaped text is the rest of the text, unescaped.
-- Assumes nothing.
use Prim.Native.Nat.{ℕ, ◌+◌, ◌-◌, ◌≤◌}
use mathlib.Core.Path.{◌≡◌}
use mathlib.Core.List.{List, ◌++◌}
use native.Mathlib.Omega.{arith}
use lib.ListN.{length, take, drop, length-drop}
use lib.Seq.{length-take-le}
use borrow.Rule.Slice.PartMut.{put_mid}
use Rattle.unescape.specs.Unescape.{is_escape, unescaped}
use Rattle.unescape.proofs.Laws.{unescaped_step, unescaped_end}
use Rattle.unescape.proofs.Runs.{run_ahead, run_within, run_same}
use Rattle.unescape.proofs.Writing.{Writing, writing_long, writing_more, writing_goes, run_fits, writing_run, all_written, writing_left}
use Rattle.unescape.proofs.put_unescaped.Invariants.{Wrote}
use Rattle.unescape.proofs.put_unescaped.Goals as goal
use Rattle.unescape.proofs.put_unescaped.Goals.{After-plain_end-p, After-put_run}

-- a turn: the run of plain bytes up to p
module _ (c : After-plain_end-p) where
  abbrev text : List ℕ
  text = c.args.text.now

  abbrev p : ℕ
  p = c.plain_end-p.result

  abbrev run : List ℕ
  run = take (p - c.loop-from.from) (drop c.loop-from.from text)

  run_from : c.loop-from.from ≤ p
  run_from = omega (arith, c.plain_end-p.ensures, run_ahead text c.loop-from.from (omega (arith, c.loop-from-test.true)))

  run_to : p ≤ length text
  run_to = omega (arith, c.plain_end-p.ensures, run_within text c.loop-from.from)

  run_long : length run ≡ p - c.loop-from.from
  run_long = length-take-le _ _ (omega (arith, run_from, run_to, length-drop c.loop-from.from text))

  run_first : Writing (unescaped (is_escape c.args.kind) text) (run ++ unescaped (is_escape c.args.kind) (drop p text)) c.args.out.now c.loop-from.out c.loop-from.at
  run_first =
      rw (run_same c.args.kind text c.loop-from.from (p - c.loop-from.from) p c.plain_end-p.ensures (omega (arith, run_from)) run_to) at c.loop-from.invariant

  run_room : c.loop-from.at + (p - c.loop-from.from) ≤ length c.loop-from.out
  run_room =
      omega (arith, run_fits run _ {e = c.loop-from.at + (p - c.loop-from.from)} run_first (omega (arith, run_long)), run_first.fits, writing_long run_first)

pub overflow_add-end : goal.overflow_add-end
overflow_add-end c = let r = run_room (goal.at.overflow_add-end c).After-plain_end-p in omega arith

pub slice_bounds-put_run-end-in-loop-from : goal.slice_bounds-put_run-end-in-loop-from
slice_bounds-put_run-end-in-loop-from c = run_room (goal.at.slice_bounds-put_run-end-in-loop-from c).After-plain_end-p

-- the run is copied
behind : (c : After-put_run) → let end = c.loop-from.at + (c.plain_end-p.result - c.loop-from.from) in
    Wrote c.args.kind c.args.text.now c.plain_end-p.result c.args.out.now (put_mid c.loop-from.at (end - c.loop-from.at) c.loop-from.out c.put_run.new.place) end
behind c =
    let r = (goal.at.After-put_run c).After-plain_end-p in
    rw c.put_run.ensures (writing_run (run r) _ (run_first r) (omega (arith, run_long r)))

pub returns-then-text-p : goal.returns-then-text-p
returns-then-text-p c =
    let w = rw (unescaped_end _ _ _ c.if-text-p.true) at (behind (goal.at.returns-then-text-p c).After-put_run) in
    record { count = all_written w; left = writing_left w }

pub bounds-out-end : goal.bounds-out-end
bounds-out-end c =
    let w = rw (unescaped_step _ _ _ c.if-text-p.false) at (behind (goal.at.bounds-out-end c).After-put_run) in
    omega (arith, w.fits, writing_long w, writing_more w)

pub loop-from-preserved : goal.loop-from-preserved
loop-from-preserved c =
    let w = rw (unescaped_step _ _ _ c.if-text-p.false) at (behind (goal.at.loop-from-preserved c).After-put_run) in
    rw c.unescape_step.ensures (writing_goes w)

pub returns : goal.returns
returns c =
    let w = rw (unescaped_end _ _ _ c.loop-from-test.false) at c.loop-from.invariant in
    record { count = all_written w; left = writing_left w }
