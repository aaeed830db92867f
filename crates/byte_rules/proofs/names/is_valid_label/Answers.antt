-- `is_valid_label` meets its contract.
-- Assumes nothing.
use Rattle.std.proofs.Common.{rules, tests}
use mathlib.Core.Path.{◌∙◌}
use Rattle.std.proofs.lemmas.Iterator.{YieldsList-from_slice}
use Rattle.std.proofs.lemmas.Iterator.Search.{all_from_yields_List}
use Rattle.byte_rules.specs.Names.{is_label_byte}
use Rattle.byte_rules.proofs.NameLaws.{valid_all}
use Rattle.byte_rules.proofs.names.is_valid_label.Goals as goal

pub returns : goal.returns
returns c = all_from_yields_List is_label_byte _ _ _ c.all.ensures.ran (YieldsList-from_slice c.args.label.now cc) (λ x b q k. search (rules, tests)) ∙ valid_all _
