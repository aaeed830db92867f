-- `line_end` meets its contract: no LF stands from `from` to where the search has come.
-- Assumes nothing.
use native.Mathlib.Omega.{arith}
use lib.ListN.{length-drop}
use lib.Seq.{get_or-drop}
use Rattle.basics.proofs.Laws.{rest_is}
use Rattle.lines.proofs.Moving.{clear_on, clear_part}
use Rattle.lines.proofs.cursor.line_end.Goals as goal

pub returns : goal.returns
returns c =
    let s = c.args.buf.now in
    let i = c.skip-i.result in
    let rest = rw rest_is at c.until_lf.ensures in
    let here = clear_on (clear_on c.loop-far.invariant c.skip-near.ensures) c.skip-i.ensures in
    record {
      clear = clear_on here (clear_part s i c.until_lf.result (omega (arith, here.inside, rest.inside, length-drop i s)) rest.clear);
      ends = λ h. rw get_or-drop at (rest.ends (omega (arith, length-drop i s)));
    }
