-- A number is gathered with LF or a tab behind it, and then the rest of the words.
use Rattle.std.proofs.Common.{arith, [], ◌∷◌, ◌++◌, ◌+◌, get_or, drop}
use Rattle.std.proofs.Math.ListN.{drop_of_length-le}
use Rattle.decimal.specs.Decimal.{decimal}
use Rattle.programs.specs.Lines.{rows}
use Rattle.programs.proofs.Gathering.{gathers_both, gathering_starts, gathering_on, gathering_end}
use Rattle.programs.proofs.Listed.{rows_end, rows_on}
use Rattle.programs.proofs.writing.Writer.rows.Goals as goal
use Rattle.programs.proofs.writing.Writer.rows.Goals.{then-column-width, else-column-width}

pub loop-word-init : goal.loop-word-init
loop-word-init c = (omega arith, gathering_starts (rows c.args.width 0 c.args.words.now) c.args.self.now)

pub loop-word-preserved : goal.loop-word-preserved
loop-word-preserved c =
    let l = c.loop-word in
    let a = c.args in
    let words = a.words.now in
    let n = decimal (get_or words l.word-index 0) in
    let rest = drop (l.word-index + 1) words in
    let number = rw c.from.ensures at c.number.ensures in
    elim c.if-column-width.branch [
      | then-column-width w ↦ (
        omega arith,
        rw (w.self-is, w.column-is) (gathering_on (n ++ 10 ∷ []) (rows a.width 0 rest) (rows_end a.width l.column words l.word-index (omega arith) (omega arith)) (gathers_both n (10 ∷ []) number w.byte.ensures) l.invariant.1),
      )
      | else-column-width w ↦ (
        omega arith,
        rw (w.self-is, w.column-is) (gathering_on (n ++ 9 ∷ []) (rows a.width (l.column + 1) rest) (rows_on a.width l.column words l.word-index (omega arith) w.if-column-width.false) (gathers_both n (9 ∷ []) number w.byte-else-column-width.ensures) l.invariant.1),
      )
    ]

pub returns : goal.returns
unfolding rows
returns c =
    let l = c.loop-word in
    gathering_end (rw (drop_of_length-le c.args.words.now {i = l.word-index} (omega arith))) l.invariant.1
