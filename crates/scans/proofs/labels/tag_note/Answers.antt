-- `tag_note` meets its contract.
-- Assumes nothing.
use mathlib.Core.Path.{sym, ◌∙◌}
use Rattle.scans.proofs.TagLaws.{noted_found, noted_to}
use Rattle.scans.proofs.labels.tag_note.Goals as goal

pub returns-then-byte_at : goal.returns-then-byte_at
returns-then-byte_at c = noted_found _ _ _ _ c.tag_stop-stop.ensures (sym c.byte_at-2.ensures ∙ c.if-byte_at.true)

pub returns-else-byte_at : goal.returns-else-byte_at
returns-else-byte_at c = λ h. noted_to _ _ _ c.tag_stop-stop.ensures (sym c.byte_at.ensures ∙ c.if-not-byte_at.false) (sym c.byte_at-2.ensures ∙ c.if-byte_at.false)
