-- The laws of unescaping, for any escape test. Of the text from i on:
--     unescaped_step    its first byte, then the rest past the bytes that stand for it, unescaped
--     unescaped_end     nothing, from the end on
--     step_some, step_within    a step is at least a byte, and ends inside the text
--     step_plain        a byte that is no escape is a step of one
--     step_single       a byte that is not followed by itself is a step of one
--     step_last         the last byte is a step of one, whatever stands behind the text
-- Of a whole text:
--     unescaped_length, unescaped_some    unescaped it is no longer, and not empty unless the text is
-- Assumes nothing.
use Prim.Native.Nat.{ℕ, ◌+◌, ◌≤◌, ◌<◌}
use mathlib.Core.Path.{◌≡◌, refl, ap}
use mathlib.Core.Bool.{Bool, true, false, cond, ◌&&◌, and-false}
use mathlib.Core.List.{List, [], ◌∷◌}
use native.Mathlib.Numerals.{add-one}
use native.Mathlib.Omega.{arith}
use lib.Dec.{eqb, ltb}
use lib.ListN.{length, drop, get_or, drop_of_length-le}
use lib.Seq.{drop-cons}
use borrow.Author.Tests.{ltb-true, ltb-false}
use Rattle.basics.proofs.Laws.{both}
use Rattle.look.specs.Look.{byte_at}
use Rattle.look.proofs.Laws.{byte_past, byte_within, byte_test}
use Rattle.unescape.specs.Unescape.{unescaped, step_at}

-- a byte of a text, and what follows it
from : (s : List ℕ) (i : ℕ) → i < length s → drop i s ≡ get_or s i 0 ∷ drop (i + 1) s
from s i h = rw (add-one, drop-cons s i 0)

module _ (esc : ℕ → Bool) where
  -- the front of a text, by cases
  front_last : (c : ℕ) → unescaped esc (c ∷ []) ≡ c ∷ unescaped esc []
  unfolding unescaped
  front_last c = refl

  module _ (c d : ℕ) (s : List ℕ) where
    front_doubled : (esc c && eqb d c) ≡ true → unescaped esc (c ∷ d ∷ s) ≡ c ∷ unescaped esc s
    unfolding unescaped
    front_doubled e = rw e

    front_single : (esc c && eqb d c) ≡ false → unescaped esc (c ∷ d ∷ s) ≡ c ∷ unescaped esc (d ∷ s)
    unfolding unescaped
    front_single e = rw e

  module _ (s : List ℕ) (i : ℕ) where
    -- an escape byte at i, with the same byte after it
    abbrev doubled : Bool
    doubled = esc (get_or s i 0) && byte_at s (i + 1) (get_or s i 0)

    step_is : (t : Bool) → doubled ≡ t → step_at esc s i ≡ cond t 2 1
    unfolding step_at
    step_is t e = rw e

    pub step_plain : esc (get_or s i 0) ≡ false → step_at esc s i ≡ 1
    step_plain e = step_is false (rw e)

    pub step_single : byte_at s (i + 1) (get_or s i 0) ≡ false → step_at esc s i ≡ 1
    step_single e = step_is false (rw (e, and-false))

    pub step_last : length s ≤ i + 1 → step_at esc s i ≡ 1
    step_last h = step_single (byte_past s (i + 1) (get_or s i 0) h)

    pub step_some : 1 ≤ step_at esc s i
    step_some = go doubled refl
      where
        go : (t : Bool) → doubled ≡ t → 1 ≤ step_at esc s i
        go true e = omega (arith, step_is true e)
        go false e = omega (arith, step_is false e)

    pub step_within : i < length s → i + step_at esc s i ≤ length s
    step_within h = go doubled refl
      where
        go : (t : Bool) → doubled ≡ t → i + step_at esc s i ≤ length s
        go true e = omega (arith, step_is true e, byte_within s (i + 1) (get_or s i 0) (both (esc (get_or s i 0)) _ e).1)
        go false e = omega (arith, step_is false e)

    pub unescaped_end : length s ≤ i → unescaped esc (drop i s) ≡ []
    unfolding unescaped
    unescaped_end h = rw (drop_of_length-le s h)

    pub unescaped_step : i < length s → unescaped esc (drop i s) ≡ get_or s i 0 ∷ unescaped esc (drop (i + step_at esc s i) s)
    unescaped_step h = go (ltb (i + 1) (length s)) refl
      where
        Goal : Type 0
        Goal = unescaped esc (drop i s) ≡ get_or s i 0 ∷ unescaped esc (drop (i + step_at esc s i) s)

        -- another byte follows
        pair : i + 1 < length s → (t : Bool) → doubled ≡ t → Goal
        pair p true e =
            let two : i + 1 + 1 ≡ i + 2 = omega arith in
            rw (step_is true e, from s i h, from s (i + 1) p, two) (front_doubled _ _ _ (rw (byte_test s (i + 1) (get_or s i 0) p) at e))
        pair p false e = rw (step_is false e, from s i h, from s (i + 1) p) (front_single _ _ _ (rw (byte_test s (i + 1) (get_or s i 0) p) at e))

        go : (b : Bool) → ltb (i + 1) (length s) ≡ b → Goal
        go true b = pair (ltb-true _ _ b) doubled refl
        go false b =
            let p : length s ≤ i + 1 = ltb-false _ _ b in
            rw (step_last p, from s i h, drop_of_length-le s p) (front_last (get_or s i 0))

  pub unescaped_length : (s : List ℕ) → length (unescaped esc s) ≤ length s
  unfolding unescaped
  unescaped_length [] = omega arith
  unescaped_length (c ∷ []) = omega arith
  unescaped_length (c ∷ d ∷ s) = go (esc c && eqb d c) (unescaped_length s) (unescaped_length (d ∷ s))
    where
      go : (t : Bool) → length (unescaped esc s) ≤ length s → length (unescaped esc (d ∷ s)) ≤ length (d ∷ s)
          → length (cond t (c ∷ unescaped esc s) (c ∷ unescaped esc (d ∷ s))) ≤ length (c ∷ d ∷ s)
      go true two one = omega arith
      go false two one = omega arith

  pub unescaped_some : (s : List ℕ) → 0 < length s → 0 < length (unescaped esc s)
  unescaped_some s h = omega (arith, ap length (unescaped_step s 0 h))
