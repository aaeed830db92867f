-- What stands in the text of a subscript and of an italic in the strict reading: no mark, but a doubled `_` in an italic.
-- Assumes nothing.
use Prim.Native.Nat.{ℕ, ◌+◌, ◌-◌, ◌≤◌, ◌<◌}
use mathlib.Core.Bool.{Bool, true, false, ◌&&◌, ◌||◌, not}
use mathlib.Core.List.{List}
use mathlib.Core.Path.{◌≡◌, refl, sym, ◌∙◌}
use native.Mathlib.Omega.{arith}
use borrow.Author.Tests.{ltb-true}
use lib.Dec.{ltb}
use lib.ListN.{get_or, length}
use Rattle.std.specs.Prelude.{Some}
use Rattle.byte_rules.specs.Classes.{is_blank, is_closer, is_alphanumeric}
use Rattle.byte_rules.specs.Reading.{is_mark, strict}
use Rattle.byte_rules.proofs.Laws.{lf_is_blank, four_marks, no_mark, under_is_closer, no_letters}
use Rattle.basics.proofs.Laws.{differ, both, neither, by_test}
use Rattle.look.specs.Look.{holds_at, byte_at, blank_at, closer_at, alphanumeric_at, doubled_at}
use Rattle.look.proofs.Laws.{holds_in, byte_test, byte_other, not_byte, other_byte, doubled_not, alphanumeric_within}
use Rattle.scans.specs.Marks.{tick, tilde, lbracket, under, less, lf}
use Rattle.scans.specs.Ends.{subscript_step, italic_step, subscript_stop, subscript_end, italic_stop, italic_end, closes_italic}
use Rattle.scans.proofs.EndLaws.{found, italic_later}
use Rattle.scans.proofs.Laws.{Leads, by_one, stops, scanned, by_less, scan_one, scan_two, scan_stop, scan_le}

-- BYTES

-- none of the four bytes stands at k
pub record Barless (s : List ℕ) (k : ℕ) : Type 0 where
  pub no_tick : byte_at s k tick ≡ false
  pub no_tilde : byte_at s k tilde ≡ false
  pub no_bracket : byte_at s k lbracket ≡ false
  pub no_less : byte_at s k less ≡ false

module _ (s : List ℕ) (k : ℕ) where
  barless : holds_at is_mark s k ≡ false → Barless s k
  barless n =
      record {
        no_tick = not_byte s k is_mark tick four_marks.0 n;
        no_tilde = not_byte s k is_mark tilde four_marks.1 n;
        no_bracket = not_byte s k is_mark lbracket four_marks.2 n;
        no_less = not_byte s k is_mark less four_marks.3 n;
      }

  unbarred : k < length s → Barless s k → holds_at is_mark s k ≡ false
  unbarred h f =
      holds_in is_mark s k h
      ∙ no_mark (get_or s k 0) (sym (byte_test s k tick h) ∙ f.no_tick) (sym (byte_test s k tilde h) ∙ f.no_tilde) (sym (byte_test s k lbracket h) ∙ f.no_bracket) (sym (byte_test s k less h) ∙ f.no_less)

  -- where a `_` stands none of the four does
  pub under_barless : byte_at s k under ≡ true → Barless s k
  under_barless t =
      record {
        no_tick = byte_other s k under tick t (λ z. omega arith);
        no_tilde = byte_other s k under tilde t (λ z. omega arith);
        no_bracket = byte_other s k under lbracket t (λ z. omega arith);
        no_less = byte_other s k under less t (λ z. omega arith);
      }

-- SUBSCRIPTS

pub record SubscriptByte (s : List ℕ) (k : ℕ) : Type 0 where
  pub free : Barless s k
  pub no_lf : byte_at s k lf ≡ false
  pub no_under : byte_at s k under ≡ false

module _ (s : List ℕ) (i : ℕ) where
  subscript_byte : (k : ℕ) → (blank_at s k || closer_at s k || holds_at is_mark s k) ≡ false → SubscriptByte s k
  unfolding blank_at closer_at
  subscript_byte k h =
      let f = neither (blank_at s k || closer_at s k) (holds_at is_mark s k) h in
      let g = neither (blank_at s k) (closer_at s k) f.0 in
      record { free = barless s k f.1; no_lf = not_byte s k is_blank lf lf_is_blank g.0; no_under = not_byte s k is_closer under under_is_closer g.1 }

  abbrev AllSubscript : ℕ → Type 0
  AllSubscript j = (k : ℕ) → i ≤ k → k < j → SubscriptByte s k

  one_more : (j : ℕ) → AllSubscript j → SubscriptByte s j → AllSubscript (j + 1)
  one_more j f t k a l = by_less k j (λ g. f k a g) (λ g. let z : k ≡ j = omega arith in rw z t)

  subscript_leads : (j : ℕ) → AllSubscript j → j < length s → Leads AllSubscript AllSubscript j (subscript_step strict s j)
  unfolding subscript_step
  subscript_leads j f l =
      by_test (Leads AllSubscript AllSubscript j) (blank_at s j || closer_at s j || holds_at is_mark s j) (λ _. stops f) (λ e. by_one (one_more j f (subscript_byte j e)))

  subscript_all : AllSubscript (subscript_stop strict s i)
  subscript_all =
      scanned (subscript_step strict s) (length s) AllSubscript AllSubscript subscript_leads (λ j f l. λ k a u. f k a (omega arith)) i
      (λ k a l. absurd (omega arith))

-- a subscript whose text begins at i and ends at q
pub record SubscriptText (s : List ℕ) (i q : ℕ) : Type 0 where
  pub up : i < q
  pub inside : q ≤ length s
  pub bytes : (k : ℕ) → i ≤ k → k < q → SubscriptByte s k

pub subscript_text : (s : List ℕ) (i q : ℕ) → subscript_end strict s i ≡ Some q → SubscriptText s i q
unfolding subscript_end
subscript_text s i q h =
    let j = subscript_stop strict s i in
    let f = found (ltb i j) j q h in
    rw (← f.1) (record { up = ltb-true i j f.0; inside = scan_le (subscript_step strict s) (length s) i; bytes = subscript_all s i })

-- ITALICS

module _ (s : List ℕ) where
  -- what stands at a place j of it
  pub data ItalicPlace (j : ℕ) : Type 0 where
    two : doubled_at s j under ≡ true → italic_stop strict s j ≡ italic_stop strict s (j + 2) → ItalicPlace j
    one : Barless s j → byte_at s j under ≡ false → italic_stop strict s j ≡ italic_stop strict s (j + 1) → ItalicPlace j
    last : doubled_at s j under ≡ false → italic_stop strict s j ≡ j → ItalicPlace j

  module _ (j : ℕ) (h : j < length s) where
    place_cases : (d u : Bool) → doubled_at s j under ≡ d → (byte_at s j under || holds_at is_mark s j) ≡ u → ItalicPlace j
    unfolding italic_step
    place_cases true u e f = two e (scan_two (italic_step strict s) (length s) j h (rw (italic_step, e)))
    place_cases false true e f = last e (scan_stop (italic_step strict s) (length s) j h (rw (italic_step, e, f)))
    place_cases false false e f =
        let n = neither (byte_at s j under) (holds_at is_mark s j) f in
        one (barless s j n.1) n.0 (scan_one (italic_step strict s) (length s) j h (rw (italic_step, e, f)))

    pub italic_place : ItalicPlace j
    italic_place = place_cases (doubled_at s j under) (byte_at s j under || holds_at is_mark s j) refl refl

-- an italic whose text begins at i and ends at q
pub record ItalicText (s : List ℕ) (i q : ℕ) : Type 0 where
  pub ends : italic_stop strict s i ≡ q
  pub up : i ≤ q
  pub closed : byte_at s q under ≡ true

module _ (s : List ℕ) (i : ℕ) (t : alphanumeric_at s i ≡ true) where
  not_under : byte_at s i under ≡ false
  unfolding alphanumeric_at
  not_under = other_byte s i is_alphanumeric under no_letters.0 t

  first_barless : Barless s i
  unfolding alphanumeric_at
  first_barless =
      record {
        no_tick = other_byte s i is_alphanumeric tick no_letters.1 t;
        no_tilde = other_byte s i is_alphanumeric tilde no_letters.2 t;
        no_bracket = other_byte s i is_alphanumeric lbracket no_letters.3 t;
        no_less = other_byte s i is_alphanumeric less no_letters.4 t;
      }

  first_one : italic_stop strict s i ≡ italic_stop strict s (i + 1)
  unfolding italic_step
  first_one =
      let h = alphanumeric_within s i t in
      scan_one (italic_step strict s) (length s) i h (rw (italic_step, doubled_not s i under not_under, not_under, unbarred s i h first_barless))

  closes : (q : ℕ) → closes_italic s (italic_stop strict s (i + 1)) ≡ Some q → ItalicText s i q
  unfolding closes_italic
  closes q e =
      let j = italic_stop strict s (i + 1) in
      let f = found (byte_at s j under && alphanumeric_at s (j - 1) && not (alphanumeric_at s (j + 1))) j q e in
      let k = both (byte_at s j under) (alphanumeric_at s (j - 1)) (both _ (not (alphanumeric_at s (j + 1))) f.0).0 in
      record { ends = first_one ∙ f.1; up = omega (arith, f.1, italic_later strict s i t); closed = rw f.1 at k.0 }

pub italic_text : (s : List ℕ) (i q : ℕ) → italic_end strict s i ≡ Some q → ItalicText s i q
unfolding italic_end
italic_text s i q =
    by_test (λ o. o ≡ Some q → ItalicText s i q) (alphanumeric_at s i) (λ t h. closes s i t q h) (λ _ h. absurd (differ cc))
