-- The word, the numbers and LF, one behind the other.
use Rattle.std.proofs.Common.{[], ◌∷◌, ◌++◌}
use Rattle.programs.specs.Lines.{fields, line}
use Rattle.programs.proofs.Gathering.{gathers_both}
use Rattle.programs.proofs.writing.Writer.line.Goals as goal

pub returns : goal.returns
unfolding line
returns c =
    let a = c.args in
    let word = a.word.now in
    let ns = fields a.numbers.now in
    gathers_both (word ++ ns) (10 ∷ []) (gathers_both word ns c.text.ensures c.fields.ensures) c.byte.ensures
