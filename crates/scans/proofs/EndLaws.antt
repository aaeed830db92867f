-- What stands where a search stopped: blanks alone lie before the end of blanks and none stands there, or the text ends there; at a tag's end stands
-- its `]`; an italic's first byte lies before its end.
-- Assumes nothing.
use Prim.Native.Nat.{ℕ, ◌+◌, ◌≤◌, ◌<◌}
use mathlib.Core.Bool.{Bool, true, false}
use mathlib.Core.Path.{◌≡◌, refl, ◌∙◌}
use mathlib.Core.List.{List}
use native.Mathlib.Nat.{le_refl}
use native.Mathlib.Omega.{arith}
use lib.ListN.{length}
use lib.Dec.{ltb}
use borrow.Author.Tests.{ltb-true, ltb-false}
use Rattle.std.specs.Prelude.{min}
use Rattle.basics.proofs.Laws.{differ}
use Rattle.byte_rules.specs.Reading.{Reading}
use Rattle.look.specs.Look.{byte_at, blank_at, alphanumeric_at}
use Rattle.look.proofs.Laws.{blank_past, blank_within, alphanumeric_within}
use Rattle.scans.specs.Marks.{rbracket}
use Rattle.scans.specs.Ends.{blanks_step, blanks_end, tag_stop, tag_end, italic_step, italic_stop}
use Rattle.std.specs.Prelude.{Some, None}
use Rattle.scans.specs.declared.Step.TheVariants.{One, Stop}
use Rattle.scans.proofs.Laws.{Leads, by_one, stops, scanned, scan_end, scan_one, scan_stop, scan_ge, scan_le, by_less, clash}

module _ (s : List ℕ) (i : ℕ) where
  -- blanks alone from i up to j
  abbrev AllBlank : ℕ → Type 0
  AllBlank j = (k : ℕ) → i ≤ k → k < j → blank_at s k ≡ true

  abbrev Stopped : ℕ → Type 0
  Stopped j = AllBlank j × (blank_at s j ≡ false)

  one_more : (j : ℕ) → AllBlank j → blank_at s j ≡ true → AllBlank (j + 1)
  one_more j f t k a l = by_less k j (λ g. f k a g) (λ g. let z : k ≡ j = omega arith in rw z t)

  blanks_cases : (j : ℕ) (t : Bool) → blank_at s j ≡ t → AllBlank j → Leads Stopped AllBlank j (elim t [ true ↦ One | false ↦ Stop ])
  blanks_cases j true e f = by_one (one_more j f e)
  blanks_cases j false e f = stops (f, e)

  blanks_leads : (j : ℕ) → AllBlank j → j < length s → Leads Stopped AllBlank j (blanks_step s j)
  unfolding blanks_step
  blanks_leads j f l = blanks_cases j (blank_at s j) refl f

  blanks_stop : Stopped (blanks_end s i)
  blanks_stop =
      scanned (blanks_step s) (length s) Stopped AllBlank blanks_leads
      (λ j f l. (λ k a u. f k a (omega arith), blank_past s (length s) (omega arith)))
      i
      (λ k a l. absurd (omega arith))

  -- every place from i up to the end of blanks is a blank
  pub blanks_passed : (k : ℕ) → i ≤ k → k < blanks_end s i → blank_at s k ≡ true
  blanks_passed = blanks_stop.0

  -- and there stands none
  pub blanks_stopped : blank_at s (blanks_end s i) ≡ false
  blanks_stopped = blanks_stop.1

-- a loop over blanks: from a blank on the end of blanks is that from the next place on; where no blank stands it is there, or at the text's end
pub blanks_on : (s : List ℕ) (i : ℕ) → blank_at s i ≡ true → blanks_end s i ≡ blanks_end s (i + 1)
unfolding blanks_step
blanks_on s i h = scan_one (blanks_step s) (length s) i (blank_within s i h) (rw (blanks_step, h))

pub blanks_over : (s : List ℕ) (i : ℕ) → blank_at s i ≡ false → blanks_end s i ≡ min i (length s)
unfolding blanks_step
blanks_over s i h = go (ltb i (length s)) refl
  where
    go : (t : Bool) → ltb i (length s) ≡ t → blanks_end s i ≡ min i (length s)
    go true e = let k = ltb-true i (length s) e in scan_stop (blanks_step s) (length s) i k (rw (blanks_step, h)) ∙ omega (arith, k)
    go false e = let k = ltb-false i (length s) e in scan_end (blanks_step s) (length s) i k ∙ omega (arith, k)

-- where blanks alone are left they go to the end
pub blanks_to_end : (s : List ℕ) (i : ℕ) → i ≤ length s → ((k : ℕ) → i ≤ k → k < length s → blank_at s k ≡ true) → blanks_end s i ≡ length s
blanks_to_end s i h f =
    let u : i ≤ blanks_end s i = scan_ge (blanks_step s) (length s) i i (le_refl i) h in
    let v : blanks_end s i ≤ length s = scan_le (blanks_step s) (length s) i in
    by_less (blanks_end s i) (length s) (λ l. clash (blanks_stopped s i) (f (blanks_end s i) u l)) (λ l. omega arith)

pub found : (b : Bool) (j q : ℕ) → elim b [ true ↦ Some j | false ↦ None ] ≡ Some q → (b ≡ true) × (j ≡ q)
found true j q h = (refl, cc)
found false j q h = absurd (differ cc)

-- at a tag's end stands its `]`
pub tag_closed : (s : List ℕ) (i q : ℕ) → tag_end s i ≡ Some q → byte_at s q rbracket ≡ true
unfolding tag_end
tag_closed s i q h = let f = found (byte_at s (tag_stop s i) rbracket) (tag_stop s i) q h in rw f.1 at f.0

-- the search for an italic's end stops behind its first byte, so that the byte before the `_` is another one, and not the `_` itself
pub italic_later : (rd : Reading) (s : List ℕ) (i : ℕ) → alphanumeric_at s i ≡ true → i + 1 ≤ italic_stop rd s (i + 1)
italic_later rd s i t = scan_ge (italic_step rd s) (length s) (i + 1) (i + 1) (le_refl (i + 1)) (omega (arith, alphanumeric_within s i t))
