-- `flags::stands_in` meets its contract.
-- Assumes nothing.
use mathlib.Core.Path.{◌∙◌, refl}
use mathlib.Core.List.{◌∷◌}
use Prim.Native.Nat.{◌-◌}
use lib.ListN.{length}
use Rattle.std.specs.Prelude.{is_some}
use Rattle.std.proofs.Common.{rules}
use Rattle.std.proofs.lemmas.Iterator.{YieldsList-from_range}
use Rattle.std.proofs.lemmas.Iterator.Search.{any_from_yields_List}
use Rattle.scans.specs.Marks.{lparen}
use Rattle.parentheticals.specs.Fields.{phrase_at}
use Rattle.parentheticals.specs.Matching.{stands_in}
use Rattle.parentheticals.proofs.Candidates.{any_is}
use Rattle.parentheticals.proofs.flags.stands_in.Goals as goal

pub returns : goal.returns
unfolding stands_in
returns c =
    let s = c.args.text.now in
    let w = lparen ∷ c.args.words.now in
    any_from_yields_List (λ i. is_some (phrase_at w s i)) _ _ _ c.any.ensures.ran (YieldsList-from_range 0 (length s) (length s - 0) refl refl) (λ x b q k. search rules)
    ∙ any_is (phrase_at w s) (length s - 0) 0
