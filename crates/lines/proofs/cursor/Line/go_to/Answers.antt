-- `Line::go_to` meets its contract: a line before is found by counting back, and one behind by going from line to line.
-- Assumes nothing.
use Prim.Native.Nat.{◌-◌}
use mathlib.Core.Path.{◌≡◌}
use native.Mathlib.Omega.{arith}
use Rattle.lines.specs.Lines.{line_of}
use Rattle.lines.proofs.Laws.{line_grows, line_most}
use Rattle.lines.proofs.Moving.{next_line, in_line, in_last}
use Rattle.lines.proofs.cursor.Line.go_to.Goals as goal

pub returns-then-to-self : goal.returns-then-to-self
returns-then-to-self c =
    let a = c.args in
    let is : a.self.number - c.lines_between.result ≡ line_of a.buf.now a.to = omega (arith, c.requires.number, line_grows a.buf.now a.to a.self.from (omega arith)) in record { line = record { number = is; to_end = c.line_end.ensures }; number = is }

pub returns-then-here-buf : goal.returns-then-here-buf
returns-then-here-buf c =
    let a = c.args in
    let is = c.loop-here.invariant.0 in record { line = is; number = in_last a.buf.now c.loop-here.here is a.to (omega arith) (omega arith) }

pub overflow_add-here : goal.overflow_add-here
overflow_add-here c =
    let is = c.loop-here.invariant.0 in
    omega (arith, is.number, is.to_end.clear.order, is.to_end.clear.inside, line_most c.args.buf.now c.loop-here.here.from)

pub loop-here-preserved : goal.loop-here-preserved
loop-here-preserved c =
    let is = c.loop-here.invariant.0 in
    (next_line c.args.buf.now c.loop-here.here c.line_end-in-loop-here.result is (omega (arith, is.to_end.clear.inside)) c.line_end-in-loop-here.ensures, omega arith)

pub returns : goal.returns
returns c =
    let a = c.args in
    let is = c.loop-here.invariant.0 in record { line = is; number = in_line a.buf.now c.loop-here.here is a.to c.loop-here.invariant.1 (omega arith) }
