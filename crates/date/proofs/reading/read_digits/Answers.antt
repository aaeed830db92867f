-- `read_digits` meets its contract.
-- Assumes nothing.
use mathlib.Core.Path.{sym, ◌∙◌}
use Prim.Native.Nat.{◌-◌}
use native.Mathlib.Omega.{arith}
use lib.Dec.{lit<}
use Rattle.std.proofs.lemmas.Bool.Decides.{nat_tests}
use lib.ListN.{get_or}
use Rattle.byte_rules.proofs.Laws.{digit_is}
use Rattle.date.proofs.NumberLaws.{on_end, on_digit, on_other, digits_some, ten_more}
use Rattle.date.proofs.reading.read_digits.Goals as goal

pub loop-b-init : goal.loop-b-init
loop-b-init c = record { few = lit< tt; same = digits_some c.args.s.now (λ none. grind (arith, nat_tests)) }

pub returns-then-not-is_digit : goal.returns-then-not-is_digit
returns-then-not-is_digit c =
    let l = c.loop-b in
    let other = sym c.is_digit.ensures ∙ c.if-not-is_digit.true in
    sym (on_other c.args.s.now l.b-index l.n c.loop-b-test.true other) ∙ l.invariant.same

pub overflow_sub-b : goal.overflow_sub-b
overflow_sub-b c = omega (arith, digit_is _ (sym c.is_digit.ensures ∙ c.if-not-is_digit.false))

pub loop-b-preserved : goal.loop-b-preserved
loop-b-preserved c =
    let s = c.args.s.now in
    let l = c.loop-b in
    let digit = sym c.is_digit.ensures ∙ c.if-not-is_digit.false in
    rw c.from.ensures (record {
      few = ten_more l.b-index l.n (get_or s l.b-index 0 - 48) l.invariant.few (omega (arith, digit_is _ digit));
      same = sym (on_digit s l.b-index l.n c.loop-b-test.true digit) ∙ l.invariant.same;
    })

pub returns : goal.returns
returns c =
    let l = c.loop-b in
    sym (on_end c.args.s.now l.b-index l.n c.loop-b-test.false) ∙ l.invariant.same
