-- A tab, and the number behind it.
use Rattle.std.proofs.Common.{[], ◌∷◌}
use Rattle.decimal.specs.Decimal.{decimal}
use Rattle.programs.specs.Lines.{field}
use Rattle.programs.proofs.Gathering.{gathers_both}
use Rattle.programs.proofs.writing.Writer.field.Goals as goal

pub returns : goal.returns
unfolding field
returns c = gathers_both (9 ∷ []) (decimal c.args.n) c.byte.ensures c.number.ensures
