-- `texts::folded_at` meets its contract: where enough bytes are left they are compared in turn.
-- Assumes nothing.
use Rattle.std.proofs.Common.{rules, ◌∙◌}
use Rattle.std.proofs.lemmas.Bool.{lt-leb}
use borrow.Author.Tests.{tests}
use Rattle.std.proofs.lemmas.Iterator.{YieldsList-from_slice, YieldsList-from_zip}
use Rattle.std.proofs.lemmas.Iterator.Search.{all_from_yields_List}
use Rattle.records.proofs.Laying.{tail, tail_is}
use Rattle.verify_markup.proofs.TextLaws.{is_same, folded_short, folded_zip}
use Rattle.verify_markup.proofs.texts.folded_at.Goals as goal

pub returns-then-word-rest : goal.returns-then-word-rest
returns-then-word-rest c =
    let a = c.args in
    all_from_yields_List is_same c.all.new.self _ _ c.all.ensures.ran (YieldsList-from_zip (YieldsList-from_slice (tail a.i a.text.now) cc) (YieldsList-from_slice a.word.now cc)) (λ x b q k. search (rules, tests))
    ∙ rw (tail_is a.i a.text.now) (folded_zip a.text.now a.word.now a.i (rw (tail_is a.i a.text.now) at c.if-word-rest.true))

pub returns-else-word-rest : goal.returns-else-word-rest
returns-else-word-rest c =
    let a = c.args in
    lt-leb _ _ c.if-word-rest.false ∙ folded_short a.text.now a.word.now a.i c.requires (rw (tail_is a.i a.text.now) at c.if-word-rest.false)
