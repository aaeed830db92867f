-- `look::word_at` meets its contract.
-- Assumes nothing.
use Rattle.std.proofs.Common.{rules, ◌≡◌, ◌-◌}
use mathlib.Core.Path.{◌∙◌}
use lib.ListN.{length, take, drop}
use Rattle.basics.proofs.Laws.{rest_is}
use Rattle.look.proofs.Laws.{word_here}
use Rattle.look.proofs.word_at.Goals as goal

pub returns-in-Some : goal.returns-in-Some
returns-in-Some c =
    let a = c.args in
    let r : c.in-Some.rest.now ≡ take (length a.text.now - a.i) (drop a.i a.text.now) = search rules in
    let w = a.word.now in
    c.starts.ensures ∙ rw (r, rest_is) (word_here a.text.now a.i w)
