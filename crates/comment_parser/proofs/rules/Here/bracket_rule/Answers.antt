-- `bracket_rule` meets its contract: a search in vain makes a note that holds.
-- Assumes nothing.
use mathlib.Core.Path.{sym, ◌∙◌}
use Rattle.scans.proofs.TagLaws.{nowhere, holds_to}
use Rattle.comment_parser.specs.Rules.{bracket_rule}
use Rattle.comment_parser.proofs.rules.Here.bracket_rule.Goals as goal

pub returns : goal.returns
unfolding bracket_rule
returns c = λ h. record { is = rw (bracket_rule, ← c.doubled_at.ensures, c.if-doubled_at.false, nowhere _ _ _ c.tag_stop-stop.ensures (sym c.byte_at.ensures ∙ c.if-byte_at.false)); holds = holds_to _ _ _ c.tag_stop-stop.ensures (sym c.byte_at.ensures ∙ c.if-byte_at.false) }
