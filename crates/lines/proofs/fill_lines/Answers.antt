-- `fill_lines` meets its contract: what is filled before the record k and to be filled from it on is what is to be left.
-- Assumes nothing.
use mathlib.Core.Path.{◌≡◌, sym, subst}
use Prim.Native.Nat.{◌+◌, ◌*◌}
use native.Mathlib.Omega.{arith}
use lib.ListN.{get_or}
use borrow.Author.Tests.{ltb-false}
use Rattle.basics.proofs.Laws.{neither}
use Rattle.lines.specs.Lines.{line_of, line_word, lined_width}
use Rattle.lines.specs.Cursor.{IsLine}
use Rattle.lines.specs.declared.cursor.Line.{Line}
use Rattle.lines.proofs.Moving.{in_line}
use Rattle.lines.proofs.Filling.{fills_starts, fills_on, fills_end, fills_none}
use Rattle.lines.proofs.fill_lines.Goals as goal
use Rattle.lines.proofs.fill_lines.Goals.{then-place-line, else-place-line, After-word_of}

pub returns-then-count-eq0 : goal.returns-then-count-eq0
returns-then-count-eq0 c =
    let a = c.args in
    fills_none a.buf.now a.n a.room.now c.min-count.result (omega arith) (λ h. omega arith) c.if-count-eq0.true

pub loop-k-init : goal.loop-k-init
loop-k-init c =
    let a = c.args in
    fills_starts a.buf.now a.n a.room.now _ (omega arith) (λ h. omega arith) (omega arith) c.first-line.result c.first-line.ensures

-- the line is that of the record's place
module _ (c : After-word_of) where
  abbrev Here : Line → Type 0
  Here l = let a = c.args in IsLine a.buf.now l × (l.number ≡ line_of a.buf.now (get_or c.loop-k.room (lined_width * c.loop-k.k + 1) 0))

  here : Here c.if-place-line.line
  here =
      elim c.if-place-line.branch [
        | then-place-line w ↦ subst Here (sym w.line-is) (w.go_to-line.ensures.line, w.go_to-line.ensures.number)
        | else-place-line w ↦
            let l = c.loop-k in
            let is = l.invariant.is_line in
            let between = neither _ _ w.if-place-line.false in
            subst Here (sym w.line-is) (is, in_line c.args.buf.now l.line is _ (ltb-false _ _ between.0) (ltb-false _ _ between.1))
      ]

pub loop-k-preserved : goal.loop-k-preserved
unfolding line_word
loop-k-preserved c = fills_on c.loop-k.invariant (omega arith) _ (here c).0 c.word_of.result (rw (← (here c).1) c.word_of.ensures) _ _ (omega arith) (omega arith)

pub returns : goal.returns
returns c = fills_end c.loop-k.invariant (omega arith)
