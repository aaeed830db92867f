-- The list of a text's parentheticals, taken apart as a loop over them goes: where they lie, and how many there are.
-- Assumes nothing.
use Prim.Native.Nat.{ℕ, zero, suc, ◌+◌, ◌-◌, ◌<◌, ◌≤◌}
use mathlib.Core.Path.{◌≡◌, refl, ap, ◌∙◌}
use mathlib.Core.List.{List, [], ◌∷◌, map}
use mathlib.Core.Bool.{Bool}
use mathlib.Core.Option as turn
use Rattle.std.specs.Prelude.{Option, None, Some}
use native.Mathlib.Omega.{arith}
use native.Mathlib.Nat.{le_refl}
use lib.ListN.{length, take}
use Rattle.basics.specs.declared.Span.{Span}
use Rattle.basics.proofs.Laws.{differ}
use Rattle.byte_rules.specs.Reading.{Reading}
use Rattle.records.specs.Answer.{longest}
use Rattle.records.specs.Produced.{grow}
use Rattle.records.proofs.ProducedLaws.{produced_step}
use Rattle.records.proofs.Laying.{Laying}
use Rattle.parentheticals.specs.Matching.{next_from, step_from, bytes_left, matches_from}
use Rattle.parentheticals.specs.Records.{author_of, date_of, record_of, record_width, records_of}
use Rattle.parentheticals.specs.Inner.{InWords}
use Rattle.parentheticals.specs.declared.Parenthetical.{Parenthetical}
use Rattle.parentheticals.specs.declared.Parenthetical.TheVariants.{ContributedBy, RevisedBy, ProofShortenedBy}
use Rattle.parentheticals.specs.declared.Parenthetical.TheVariants.{ProofModificationDiscouraged, NewUsageDiscouraged}
use Rattle.parentheticals.specs.declared.Found.{Found}
use Rattle.parentheticals.proofs.Lies.{Ordered, InOrder, Lies, next_lies}

module _ (bars : ℕ → Bool) (s : List ℕ) where
  step_falls : (i : ℕ) (p : Found × ℕ) → step_from bars s i ≡ turn.some p → bytes_left s p.1 < bytes_left s i
  unfolding step_from bytes_left
  step_falls i p e = go (next_from bars s i) refl
    where
      go : (o : Option Found) → next_from bars s i ≡ o → length s - p.1 < length s - i
      go (Some f) q =
          let pair : ◌≡◌ {A = Found × ℕ} (f, f.whole.end) p = cc (rw q at e) in
          let end : f.whole.end ≡ p.1 = ap (λ (x : Found × ℕ). x.1) pair in
          let r = next_lies bars s i f q in
          omega (arith, r.behind, r.onward, r.inside)
      go None q = let h = rw q at e in absurd (differ cc)

  matches_step : (i : ℕ) → matches_from bars s i ≡ grow (step_from bars s i) (matches_from bars s)
  unfolding matches_from
  matches_step i = produced_step (step_from bars s) (bytes_left s) step_falls i

  module _ (i : ℕ) where
    -- where nothing is found the list ends
    pub matches_end : next_from bars s i ≡ None → matches_from bars s i ≡ []
    unfolding step_from
    matches_end e = matches_step i ∙ rw e

    -- and else goes on behind what is found
    pub matches_more : (f : Found) → next_from bars s i ≡ Some f → matches_from bars s i ≡ f ∷ matches_from bars s f.whole.end
    unfolding step_from
    matches_more f e = matches_step i ∙ rw e

-- each lies behind the end of the one before, and inside the text
abbrev pub AllLie : ℕ → ℕ → List Found → Type 0
AllLie from to [] = Unit
AllLie from to (f ∷ fs) = Lies from to f × AllLie f.whole.end to fs

module _ (bars : ℕ → Bool) (s : List ℕ) where
  -- what holds of the empty list, and of a list with one more in front, holds of the list from each place on
  matches_all : (P : ℕ → List Found → Type 0) → ((i : ℕ) → P i [])
      → ((i : ℕ) (f : Found) (fs : List Found) → Lies i (length s) f → P f.whole.end fs → P i (f ∷ fs))
      → (n i : ℕ) → length s - i ≤ n → P i (matches_from bars s i)
  matches_all P none_left one_more zero i h = go (next_from bars s i) refl
    where
      go : (o : Option Found) → next_from bars s i ≡ o → P i (matches_from bars s i)
      go None e = rw (matches_end bars s i e) (none_left i)
      go (Some f) e = let r = next_lies bars s i f e in absurd (omega (arith, r.behind, r.onward, r.inside))
  matches_all P none_left one_more (suc n) i h = go (next_from bars s i) refl (matches_all P none_left one_more n)
    where
      go : (o : Option Found) → next_from bars s i ≡ o → ((j : ℕ) → length s - j ≤ n → P j (matches_from bars s j)) → P i (matches_from bars s i)
      go None e ih = rw (matches_end bars s i e) (none_left i)
      go (Some f) e ih =
          let r = next_lies bars s i f e in
          rw (matches_more bars s i f e) (one_more i f _ r (ih f.whole.end (omega (arith, r.behind, r.onward, r.inside))))

  pub matches_lie : (i : ℕ) → AllLie i (length s) (matches_from bars s i)
  matches_lie i = matches_all (λ j fs. AllLie j (length s) fs) (λ j. tt) (λ j f fs r all. (r, all)) (length s - i) i (le_refl _)

  -- no more than bytes
  pub matches_most : (i : ℕ) → length (matches_from bars s i) ≤ length s - i
  matches_most i =
      matches_all (λ j fs. length fs ≤ length s - j) (λ j. omega arith)
      (λ j f fs r most. omega (arith, r.behind, r.onward, r.inside)) (length s - i) i (le_refl _)

-- ---- the records

abbrev Short : Span → Type 0
Short a = (a.start ≤ longest) × (a.end ≤ longest)

-- the words of a parenthetical in a text that is not too long
pub lies_words : (from to : ℕ) (f : Found) → to ≤ longest → Lies from to f → InWords f
lies_words from to f h r =
    let b = fields f.item r.fields in
    record { whole = (omega (arith, r.onward, r.inside), omega (arith, r.inside)); author = b.0; date = b.1 }
  where
    ordered : (a d : Span) → Ordered f.whole a d → Short a × Short d
    ordered a d o = let e = r.inside in ((omega arith, omega arith), (omega arith, omega arith))

    zeros : (0 ≤ longest) × (0 ≤ longest)
    zeros = (omega arith, omega arith)

    fields : (item : Parenthetical) → InOrder f.whole item → Short (author_of item) × Short (date_of item)
    fields (ContributedBy author date) o = ordered author date o
    fields (RevisedBy author date) o = ordered author date o
    fields (ProofShortenedBy author date) o = ordered author date o
    fields ProofModificationDiscouraged o = (zeros, zeros)
    fields NewUsageDiscouraged o = (zeros, zeros)

abbrev pub records_from : (ℕ → Bool) → List ℕ → ℕ → List (List ℕ)
records_from bars s i = map record_of (matches_from bars s i)

module _ (bars : ℕ → Bool) (s : List ℕ) (i : ℕ) where
  pub records_end : next_from bars s i ≡ None → records_from bars s i ≡ []
  records_end e = ap (map record_of) (matches_end bars s i e)

  pub records_more : (f : Found) → next_from bars s i ≡ Some f → records_from bars s i ≡ record_of f ∷ records_from bars s f.whole.end
  records_more f e = ap (map record_of) (matches_more bars s i f e)

-- the invariant of the loop over the list: each one took a byte at least, and the records are laid so far
pub record Going (rd : Reading) (buf : List ℕ) (start end : ℕ) (out₀ out : List ℕ) (from at n : ℕ) : Type 0 where
  pub within : from ≤ end
  pub few : n + (end - from) ≤ end
  pub laying : Laying record_width (records_of rd buf start end) (records_from rd.bars_author (take end buf) from) out₀ out at n
