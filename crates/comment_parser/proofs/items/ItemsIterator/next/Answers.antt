-- `next` meets its contract: what it gives is the first of what was left.
-- Assumes nothing.
use mathlib.Core.Path.{ap}
use lib.ListN.{length}
use native.Mathlib.Omega.{arith}
use Rattle.comment_parser.proofs.ItemLaws.{item_first, item_accepted, item_noted, no_item}
use Rattle.comment_parser.proofs.items.ItemsIterator.next.Goals as goal

pub returns-in_err-item-clause-steps : goal.returns-in_err-item-clause-steps
returns-in_err-item-clause-steps c =
    let s = c.args.self.now in
    let left = no_item s.buf.now s.state s.note c.next_within-noted.result s.accepted s.noted c.next_within-noted.ensures c.in_err-item.was in
    rw c.from_residual.ensures (left, left)

pub returns-clause-steps : goal.returns-clause-steps
returns-clause-steps c =
    let s = c.args.self.now in
    item_first s.buf.now s.state s.note c.next_within-noted.result s.accepted s.noted c.next_within-noted.ensures c.in_ok-item.item c.in_ok-item.was

pub returns-clause-goes : goal.returns-clause-goes
returns-clause-goes c =
    let s = c.args.self.now in
    let first = item_first s.buf.now s.state s.note c.next_within-noted.result s.accepted s.noted c.next_within-noted.ensures c.in_ok-item.item c.in_ok-item.was in
    record { on = λ _. (tt, tt, omega (arith, ap length first)); keeps = tt; rests = λ _. tt }

pub invariant_of-self : goal.invariant_of-self
invariant_of-self c =
    let s = c.args.self.now in
    record {
      accepted = item_accepted s.buf.now s.state s.note c.next_within-noted.result s.accepted s.noted c.next_within-noted.ensures c.in_ok-item.item c.in_ok-item.was;
      noted = item_noted s.buf.now s.state s.note c.next_within-noted.result s.accepted s.noted c.next_within-noted.ensures c.in_ok-item.item c.in_ok-item.was;
    }
