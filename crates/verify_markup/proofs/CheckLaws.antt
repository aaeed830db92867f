-- Laws of the check: over tables that are not refused the search finds what the walk finds.
-- Assumes nothing.
use Prim.Native.Nat.{ℕ}
use mathlib.Core.Path.{◌≡◌, refl, ap, fun_ext}
use mathlib.Core.Option.{Option, none}
use Rattle.basics.specs.Choice.{or_else}
use Rattle.records.specs.Answer.{Answer}
use Rattle.basics.proofs.Laws.{both_none}
use Rattle.name_table.specs.Search.{entry_of, searched}
use Rattle.name_table.proofs.Laws.{searched_good}
use Rattle.verify_markup.specs.Items.{looked_up}
use Rattle.verify_markup.specs.Check.{Table, Bibliography, lent, not_lent, no_tag_lookup, Tables, refusal_of, bibliography_refusal, tables_refusal, tags_of, names_by}

table_good : (number : ℕ) (t : Table) → none ≡ refusal_of number t → searched t.bytes t.ends ≡ entry_of t.bytes t.ends
table_good number t h = fun_ext (searched_good t.bytes t.ends number h)

tags_good : (b : Bibliography) → none ≡ bibliography_refusal b → tags_of searched b ≡ tags_of entry_of b
tags_good (lent t) h = ap looked_up (table_good 3 t h)
tags_good not_lent h = refl
tags_good no_tag_lookup h = refl

-- one table is good, and what is found is found in those after it
pub go_on : {r x y : Option Answer} → none ≡ x → r ≡ y → r ≡ or_else x y
go_on {r} {x} {y} e f = rw (← e) f

-- over good tables every name is looked up as the walk does
pub names_good : (t : Tables) → none ≡ tables_refusal t → names_by searched t ≡ names_by entry_of t
unfolding tables_refusal
names_good t h =
    let a = both_none (refusal_of 1 t.symbols) _ h in
    let b = both_none (refusal_of 2 t.labels) (bibliography_refusal t.bibliography) a.1 in
    let p = table_good 1 t.symbols a.0 in
    let q = table_good 2 t.labels b.0 in
    let r = tags_good t.bibliography b.1 in
    λ i. record { symbol = p i; label = q i; tags = r i }
