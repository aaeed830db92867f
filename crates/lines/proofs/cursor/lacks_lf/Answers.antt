-- `lacks_lf` meets its contract.
-- Assumes nothing.
use Rattle.std.proofs.Common.{rules, ◌≡◌}
use mathlib.Core.Path.{refl}
use mathlib.Core.Bool.{true, not, ◌&&◌}
use lib.Dec.{eqb}
use Rattle.std.proofs.lemmas.Fn.{fold_over, slice_gives, fronts}
use Rattle.scans.specs.Marks.{lf}
use Rattle.lines.specs.Lines.{lf_in}
use Rattle.lines.proofs.Laws.{none_more}
use Rattle.lines.proofs.cursor.lacks_lf.Goals as goal

pub returns : goal.returns
unfolding lf_in
returns c =
    fold_over fronts (λ y. y.now) _ (λ s clear. clear ≡ true → lf_in s ≡ 0) _
    (λ s clear x more f' j k. let e : more ≡ (clear && not (eqb x.now lf)) = search rules in (none_more s x.now clear more j e, search rules))
    _ c.args.part.now true c.fold.result (search (rules, slice_gives)) (λ t. refl) c.fold.ensures.ran
