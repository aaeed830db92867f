-- `plainly` meets its contract: a text without a step of two bytes spells itself.
-- Assumes nothing.
use Prim.Native.Nat.{ℕ, ◌≤◌, ◌<◌}
use mathlib.Core.Path.{◌≡◌, refl}
use native.Mathlib.Omega.{arith}
use lib.ListN.{length, get_or}
use Rattle.std.specs.List.{range_with_len}
use Rattle.std.proofs.Common.{rules, tests}
use Rattle.std.proofs.lemmas.Iterator.{cases_from_any, YieldsList-from_range}
use Rattle.std.proofs.lemmas.List.FromFn.{length-range_with_len, get_or-range_with_len}
use Rattle.name_table.specs.Spelling.{step_of}
use Rattle.name_table.proofs.SpellingLaws.{plain_all}
use Rattle.name_table.proofs.ordering.plainly.Goals as goal

pub returns-else-any : goal.returns-else-any
returns-else-any c =
    let s = c.args.text.now in
    let step = step_of c.args.how s in
    let few = cases_from_any _ _ _ (λ i. 1 < step i) (λ i. step i ≤ 1) c.if-any.ensures.ran (YieldsList-from_range 0 (length s) (length s) refl (omega arith)) (λ x q k. search (rules, tests)) (λ x q k. search (rules, tests)) in
    let at_place : (i : ℕ) → i < length s → get_or (range_with_len 0 (length s)) i 0 ≡ i = λ i h. omega (arith, get_or-range_with_len 0 (length s) i 0 h) in
    plain_all _ s (λ i h. rw (at_place i h) at (few i 0 (omega arith) (omega (arith, length-range_with_len 0 (length s)))))
