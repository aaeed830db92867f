-- `texts::first_html` meets its contract. The loop's invariant: the first mark from i on is the first of all.
-- Assumes nothing.
use Rattle.std.proofs.Common.{◌≡◌, ◌-◌, ◌≤◌, length}
use Rattle.verify_markup.specs.Texts.{html_from}
use Rattle.verify_markup.proofs.texts.first_html.Given as goal

abbrev pub invariant-loop-i : goal.invariant-loop-i
invariant-loop-i l = (l.i ≤ length l.text) × (html_from l.text (length l.text - l.i) l.i ≡ html_from l.text (length l.text - l.from) l.from)

abbrev pub decreases-loop-i : goal.decreases-loop-i
decreases-loop-i l = length l.text - l.i
