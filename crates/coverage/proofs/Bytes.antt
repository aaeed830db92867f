-- From a test that the text passes, the buffer up to the span's end, to what stands in the buffer.
-- Assumes nothing.
use Prim.Native.Nat.{ℕ, ◌+◌, ◌-◌, ◌≤◌, ◌<◌}
use mathlib.Core.Bool.{Bool, true, false, ◌&&◌, ◌||◌}
use mathlib.Core.List.{List}
use mathlib.Core.Path.{◌≡◌, refl, sym, ◌∙◌}
use native.Mathlib.Omega.{arith}
use borrow.Author.Tests.{eqb-true, leb-true}
use lib.Dec.{eqb, leb}
use lib.ListN.{get_or, length}
use Rattle.byte_rules.specs.Classes.{is_blank, is_closer}
use Rattle.basics.proofs.Laws.{both, either}
use Rattle.look.specs.Look.{byte_at, blank_at, closer_at, word_at}
use Rattle.look.proofs.Laws.{byte_within, byte_is, blank_within, blank_is, closer_within, closer_is, word_byte}
use Rattle.scans.specs.Marks.{space, lbracket}
use Rattle.scans.specs.Ends.{blanks_step, blanks_end}
use Rattle.scans.proofs.Laws.{by_less, scan_ge}
use Rattle.scans.proofs.EndLaws.{blanks_passed}
use Rattle.comment_parser.specs.Rules.{blank_before, opens_ahead, before_open, after_close}
use Rattle.coverage.specs.Demand3.{Ahead, round, square, quote_at_start, quote_after_blank, Reads}
use Rattle.coverage.proofs.Account.{BlankTo, Before, space_before_case, none_before, After, space_after_case, none_after}

-- s is the buffer's text up to b
pub record Cut (s buf : List ℕ) (b : ℕ) : Type 0 where
  pub long : length s ≡ b
  pub same : (i : ℕ) → i < length s → get_or s i 0 ≡ get_or buf i 0

module _ {s buf : List ℕ} {b : ℕ} (cut : Cut s buf b) where
  pub byte_there : (i c : ℕ) → byte_at s i c ≡ true → get_or buf i 0 ≡ c
  byte_there i c h = sym (cut.same i (byte_within s i c h)) ∙ byte_is s i c h

  pub blank_there : (i : ℕ) → blank_at s i ≡ true → is_blank (get_or buf i 0) ≡ true
  blank_there i h = rw (cut.same i (blank_within s i h)) at (blank_is s i h)

  closer_there : (i : ℕ) → closer_at s i ≡ true → is_closer (get_or buf i 0) ≡ true
  closer_there i h = rw (cut.same i (closer_within s i h)) at (closer_is s i h)

  pub word_there : (w : List ℕ) (i j : ℕ) → j ≡ i + length w → word_at s i w ≡ true → Reads buf i j w
  word_there w i j e h = record { long = e; byte = λ k l. byte_there (i + k) (get_or w k 0) (word_byte s w i k h l) }

  -- blanks that are skipped
  pub blanks_there : (i : ℕ) → i ≤ length s → BlankTo buf i (blanks_end s i)
  blanks_there i h =
      record { up = scan_ge (blanks_step s) (length s) i i (omega arith) h; blank = λ k l u. blank_there k (blanks_passed s i k l u) }

  -- the byte ahead of a space that is dropped
  ahead_blank : (q : ℕ) → get_or buf q 0 ≡ 34 → blank_before s q ≡ true → Ahead buf q
  unfolding blank_before
  ahead_blank q e h =
      either (eqb q 0) (blank_at s (q - 1)) h (λ z. quote_at_start e (eqb-true q 0 z))
      (λ t.
      by_less 0 q
      (λ l. quote_after_blank e l (blank_there (q - 1) t))
      (λ l. quote_at_start e (omega arith)))

  ahead_there : (q : ℕ) → opens_ahead s q ≡ true → Ahead buf q
  unfolding opens_ahead
  ahead_there q h =
      either (byte_at s q 40 || byte_at s q lbracket) (byte_at s q 34 && blank_before s q) h
      (λ x. either (byte_at s q 40) (byte_at s q lbracket) x (λ y. round (byte_there q 40 y)) (λ y. square (byte_there q lbracket y)))
      (λ x. let y = both (byte_at s q 34) (blank_before s q) x in ahead_blank q (byte_there q 34 y.0) y.1)

  -- what is dropped before an opening mark at p, and after a closing mark or a label that ends at p
  before_cases :
      (r p : ℕ) → r ≤ p → (d : Bool) → (leb (r + 2) p && byte_at s (p - 1) space && opens_ahead s (p - 2)) ≡ d → Before buf r (elim d [ true ↦ p - 1 | false ↦ p ]) p
  before_cases r p h true t =
      let x = both (leb (r + 2) p && byte_at s (p - 1) space) (opens_ahead s (p - 2)) t in
      let y = both (leb (r + 2) p) (byte_at s (p - 1) space) x.0 in
      let l : r + 2 ≤ p = leb-true (r + 2) p y.0 in
      let z : p - 2 ≡ p - 1 - 1 = omega arith in
      let n : p - 1 + 1 ≡ p = omega arith in
      space_before_case n l (byte_there (p - 1) space y.1) (rw z at (ahead_there (p - 2) x.1))
  before_cases r p h false t = none_before

  pub before_there : (r p : ℕ) → r ≤ p → Before buf r (before_open s r p) p
  unfolding before_open
  before_there r p h = before_cases r p h (leb (r + 2) p && byte_at s (p - 1) space && opens_ahead s (p - 2)) refl

  after_cases : (p : ℕ) (d : Bool) → (byte_at s p space && closer_at s (p + 1)) ≡ d → After buf b p (elim d [ true ↦ p + 1 | false ↦ p ])
  after_cases p true t =
      let x = both (byte_at s p space) (closer_at s (p + 1)) t in
      let l : p + 1 < length s = closer_within s (p + 1) x.1 in
      space_after_case (byte_there p space x.0) (omega (arith, cut.long)) (closer_there (p + 1) x.1)
  after_cases p false t = none_after

  pub after_there : (p : ℕ) → After buf b p (after_close s p)
  unfolding after_close
  after_there p = after_cases p (byte_at s p space && closer_at s (p + 1)) refl
