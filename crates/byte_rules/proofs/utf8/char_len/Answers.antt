-- `char_len` meets its contract.
-- Assumes nothing.
use Rattle.std.proofs.Common.{rules}
use mathlib.Core.Path.{◌∙◌}
use Rattle.basics.proofs.Laws.{rest_is}
use Rattle.byte_rules.proofs.CharLaws.{char_from, char_past}
use Rattle.byte_rules.proofs.utf8.char_len.Goals as goal

pub returns-in-None : goal.returns-in-None
returns-in-None c = char_past _ _ (search rules)

pub returns-in-Some : goal.returns-in-Some
returns-in-Some c = rw rest_is at c.front_len.ensures ∙ char_from _ _
