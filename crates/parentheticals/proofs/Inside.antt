-- Where the fields lie: behind the place where they are looked for, and inside the text.
-- Assumes nothing.
use Prim.Native.Nat.{ℕ, zero, suc, ◌+◌, ◌-◌, ◌<◌, ◌≤◌}
use mathlib.Core.Path.{◌≡◌, refl, sym, ◌∙◌}
use mathlib.Core.List.{List, [], ◌∷◌}
use mathlib.Core.Bool.{Bool, true, false, cond, false≢true}
use Rattle.std.specs.Prelude.{Option, None, Some}
use native.Mathlib.Omega.{arith}
use lib.Dec.{ltb, eqb}
use lib.ListN.{length, get_or, drop, length-drop}
use lib.Seq.{get_or-drop}
use borrow.Author.Tests.{ltb-true}
use Rattle.basics.proofs.Laws.{differ}
use Rattle.byte_rules.specs.Text.{bytes}
use Rattle.byte_rules.specs.Classes.{is_credit_space}
use Rattle.byte_rules.proofs.Laws.{comma_no_space}
use Rattle.look.specs.Look.{holds_at, byte_at}
use Rattle.look.proofs.Laws.{holds_within, byte_within, byte_is}
use Rattle.parentheticals.specs.Fields.{comma, space_run, space_end, spaces_at, sign_at, phrase_at, fits, picture_at, date_at, author_start}

pub never : {A B : Type 0} {b : B} → None ≡ Some b → A
never e = absurd (differ cc)

-- ---- spaces

run_fits : (s : List ℕ) → space_run s ≤ length s
unfolding space_run
run_fits [] = omega arith
run_fits (b ∷ s) = go (is_credit_space b) (run_fits s)
  where
    go : (t : Bool) → space_run s ≤ length s → cond t (suc (space_run s)) 0 ≤ suc (length s)
    go true h = omega arith
    go false h = omega arith

-- each byte of the run is a space
run_spaces : (s : List ℕ) (k : ℕ) → k < space_run s → is_credit_space (get_or s k 0) ≡ true
unfolding space_run
run_spaces [] k h = absurd (omega arith)
run_spaces (b ∷ s) k h = go k (is_credit_space b) refl h (run_spaces s)
  where
    go : (k : ℕ) (t : Bool) → is_credit_space b ≡ t → k < cond t (suc (space_run s)) 0 → ((m : ℕ) → m < space_run s → is_credit_space (get_or s m 0) ≡ true)
        → is_credit_space (get_or (b ∷ s) k 0) ≡ true
    go k false e h ih = absurd (omega arith)
    go zero true e h ih = e
    go (suc k) true e h ih = ih k (omega arith)

module _ (s : List ℕ) (i j : ℕ) where
  pub spaces_are : spaces_at s i ≡ Some j → (i < j) × (j ≡ space_end s i)
  unfolding spaces_at
  spaces_are e = go (ltb i (space_end s i)) refl
    where
      go : (t : Bool) → ltb i (space_end s i) ≡ t → (i < j) × (j ≡ space_end s i)
      go true t =
          let same : Some (space_end s i) ≡ Some j = rw t at e in
          let n : space_end s i ≡ j = cc in
          (omega (arith, ltb-true i (space_end s i) t), sym n)
      go false t = never (rw t at e)

  pub spaces_inside : i ≤ length s → spaces_at s i ≡ Some j → (i < j) × (j ≤ length s)
  spaces_inside h e = let r = spaces_are e in (r.0, omega (arith, run_fits (drop i s), length-drop i s))

  -- the bytes between are spaces
  pub spaces_spaces : spaces_at s i ≡ Some j → (k : ℕ) → i ≤ k → k < j → is_credit_space (get_or s k 0) ≡ true
  spaces_spaces e k low high =
      let r = spaces_are e in
      let z : i + (k - i) ≡ k = omega arith in
      rw (get_or-drop i s (k - i) 0, z) at (run_spaces (drop i s) (k - i) (omega arith))

-- ---- phrases: each byte of one takes a byte at least

pub sign_inside : (b : ℕ) (s : List ℕ) (i j : ℕ) → i ≤ length s → sign_at b s i ≡ Some j → (i < j) × (j ≤ length s)
unfolding sign_at
sign_inside b s i j h e = go (eqb b 32) (byte_at s i b) refl refl
  where
    go : (t u : Bool) → eqb b 32 ≡ t → byte_at s i b ≡ u → (i < j) × (j ≤ length s)
    go true u t v = spaces_inside s i j h (rw t at e)
    go false true t v =
        let same : Some (i + 1) ≡ Some j = rw (t, v) at e in
        let n : i + 1 ≡ j = cc in
        (omega arith, omega (arith, byte_within s i b v))
    go false false t v = never (rw (t, v) at e)

pub phrase_inside : (w s : List ℕ) (i j : ℕ) → i ≤ length s → phrase_at w s i ≡ Some j → (i + length w ≤ j) × (j ≤ length s)
unfolding phrase_at
phrase_inside [] s i j h e = let n : i ≡ j = cc in (omega arith, omega arith)
phrase_inside (b ∷ w) s i j h e = go (sign_at b s i) refl (λ k. phrase_inside w s k j)
  where
    go : (p : Option ℕ) → sign_at b s i ≡ p → ((k : ℕ) → k ≤ length s → phrase_at w s k ≡ Some j → (k + length w ≤ j) × (j ≤ length s))
        → (i + suc (length w) ≤ j) × (j ≤ length s)
    go (Some k) q ih =
        let first = sign_inside b s i k h q in
        let rest = ih k first.1 (rw q at e) in
        (omega arith, rest.1)
    go None q ih = never (rw q at e)

-- ---- pictures and dates: each byte of a picture takes one byte

picture_inside : (w s : List ℕ) (i j : ℕ) → i ≤ length s → picture_at w s i ≡ Some j → (j ≡ i + length w) × (j ≤ length s)
unfolding picture_at
picture_inside [] s i j h e = let n : i ≡ j = cc in (omega arith, omega arith)
picture_inside (p ∷ w) s i j h e = go (holds_at (fits p) s i) refl (picture_inside w s (i + 1) j)
  where
    go : (t : Bool) → holds_at (fits p) s i ≡ t → (i + 1 ≤ length s → picture_at w s (i + 1) ≡ Some j → (j ≡ i + 1 + length w) × (j ≤ length s))
        → (j ≡ i + suc (length w)) × (j ≤ length s)
    go true t ih =
        let inside : i < length s = holds_within (fits p) s i t in
        let rest = ih (omega arith) (rw t at e) in
        (omega arith, rest.1)
    go false t ih = never (rw t at e)

pub date_inside : (s : List ℕ) (i j : ℕ) → i ≤ length s → date_at s i ≡ Some j → (i < j) × (j ≤ length s)
unfolding date_at
date_inside s i j h e = go (picture_at (bytes "0-Aaa-0000") s i) refl
  where
    go : (p : Option ℕ) → picture_at (bytes "0-Aaa-0000") s i ≡ p → (i < j) × (j ≤ length s)
    go (Some k) q =
        let same : Some k ≡ Some j = rw q at e in
        let n : k ≡ j = cc in
        let r = picture_inside (bytes "0-Aaa-0000") s i k h q in
        (omega arith, omega arith)
    go None q = let r = picture_inside (bytes "00-Aaa-0000") s i j h (rw q at e) in (omega arith, r.1)

-- ---- an author's start: behind a space, and at no `,`

pub record Begins (s : List ℕ) (i a : ℕ) : Type 0 where
  pub after : i < a
  pub inside : a ≤ length s
  pub spaced : is_credit_space (get_or s (a - 1) 0) ≡ true
  pub kept : byte_at s a comma ≡ false

-- a space is no `,`
no_comma : (s : List ℕ) (i : ℕ) → is_credit_space (get_or s i 0) ≡ true → byte_at s i comma ≡ false
no_comma s i e = go (byte_at s i comma) refl
  where
    go : (t : Bool) → byte_at s i comma ≡ t → byte_at s i comma ≡ false
    go true t = absurd (false≢true (sym comma_no_space ∙ (rw (byte_is s i comma t) at e)))
    go false t = t

pub start_begins : (s : List ℕ) (i a : ℕ) → i ≤ length s → author_start s i ≡ Some a → Begins s i a
unfolding author_start
start_begins s i a le e = spaces (spaces_at s i) refl
  where
    back : (k : ℕ) → spaces_at s i ≡ Some k → Some (k - 1) ≡ Some a → i + 1 < k → Begins s i a
    back k q f h =
        let n : k - 1 ≡ a = cc in
        let r = spaces_inside s i k le q in
        record {
          after = omega arith;
          inside = omega arith;
          spaced = spaces_spaces s i k q (a - 1) (omega arith) (omega arith);
          kept = no_comma s a (spaces_spaces s i k q a (omega arith) (omega arith));
        }

    here : (k : ℕ) → spaces_at s i ≡ Some k → Some k ≡ Some a → byte_at s k comma ≡ false → Begins s i a
    here k q f u =
        let n : k ≡ a = cc in
        let r = spaces_inside s i k le q in
        record {
          after = omega arith;
          inside = omega arith;
          spaced = spaces_spaces s i k q (a - 1) (omega arith) (omega arith);
          kept = rw n at u;
        }

    at_comma : (k : ℕ) (t u : Bool) → spaces_at s i ≡ Some k → byte_at s k comma ≡ t → ltb (i + 1) k ≡ u → Begins s i a
    at_comma k true true q t u = back k q (rw (q, t, u) at e) (ltb-true (i + 1) k u)
    at_comma k true false q t u = never (rw (q, t, u) at e)
    at_comma k false u q t v = here k q (rw (q, t) at e) t

    spaces : (p : Option ℕ) → spaces_at s i ≡ p → Begins s i a
    spaces (Some k) q = at_comma k (byte_at s k comma) (ltb (i + 1) k) q refl refl
    spaces None q = never (rw q at e)
