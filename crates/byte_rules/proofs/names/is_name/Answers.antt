-- `is_name` meets its contract.
-- Assumes nothing.
use Rattle.std.proofs.Common.{rules, tests, ℕ}
use lib.ListN.{length}
use borrow.Author.Tests.{ne_eqb}
use mathlib.Core.Path.{sym, ◌∙◌}
use Rattle.std.proofs.lemmas.Iterator.{YieldsList-from_slice, YieldsList-from_zip}
use Rattle.std.proofs.lemmas.Iterator.Search.{all_from_yields_List}
use Rattle.byte_rules.specs.Names.{fits_sign}
use Rattle.byte_rules.proofs.NameLaws.{name_all, name_other}
use Rattle.byte_rules.proofs.names.is_name.Goals as goal

pub returns-then-sign-name : goal.returns-then-sign-name
returns-then-sign-name c =
    all_from_yields_List (λ (p : ℕ × ℕ). fits_sign p.0 p.1) c.all.new.self _ _ c.all.ensures.ran
    (YieldsList-from_zip (YieldsList-from_slice c.args.sign.now cc) (YieldsList-from_slice c.args.name.now cc))
    (λ x b q k. search (rules, tests))
    ∙ name_all _ _ c.if-sign-name.true

pub returns-else-sign-name : goal.returns-else-sign-name
returns-else-sign-name c = let a = c.args in rw (ne_eqb (length a.sign.now) (length a.name.now) c.if-sign-name.false) (sym (name_other _ _ c.if-sign-name.false))
