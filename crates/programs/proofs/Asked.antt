-- Which reading is asked for: no argument, `--strict`, and anything else.
-- Assumes nothing.
use Rattle.std.proofs.Common.{◌≡◌, ◌≢◌, ℕ, ◌+◌, ◌≤◌, ◌<◌, Bool, true, false, ◌&&◌, List, length, get_or, Some, None, arith, refl, sym, cond}
use Rattle.std.proofs.lemmas.List.{ext_get_or}
use borrow.Author.Tests.{lt-ltb, le-ltb, eqb-true}
use lib.Dec.{eqb}
use Rattle.basics.proofs.Laws.{both}
use Rattle.byte_rules.specs.Text.{bytes}
use Rattle.byte_rules.specs.declared.reading.Reading.TheVariants.{Rust, Strict}
use Rattle.look.specs.Look.{holds_at, is_byte, byte_at, word_at}
use Rattle.look.proofs.Laws.{byte_is, word_byte}
use Rattle.programs.specs.Arguments.{asked_for}

pub asked_nothing : (count : ℕ) (first : List ℕ) → count < 2 → Some Rust ≡ asked_for count first
unfolding asked_for
asked_nothing count first h = rw (lt-ltb count 2 h)

pub asked_strict : (count : ℕ) (first : List ℕ) → count ≡ 2 → first ≡ bytes "--strict" → Some Strict ≡ asked_for count first
unfolding asked_for word_at byte_at holds_at is_byte
asked_strict count first h e = rw (h, e)

-- a text that is as long as a word, with the word at its front, is the word
word_whole : (s w : List ℕ) → length s ≡ length w → word_at s 0 w ≡ true → s ≡ w
word_whole s w long h =
    ext_get_or 0 s w long (λ k l. let z : 0 + k ≡ k = omega arith in byte_is s k (get_or w k 0) (rw z at (word_byte s w 0 k h (omega arith))))

pub asked_else : (count : ℕ) (first : List ℕ) → 2 ≤ count → (count ≡ 2 → first ≢ bytes "--strict") → None ≡ asked_for count first
unfolding asked_for
asked_else count first h other = rw (le-ltb count 2 h) (go (eqb count 2 && eqb (length first) 8 && word_at first 0 (bytes "--strict")) refl)
  where
    go : (t : Bool) → t ≡ (eqb count 2 && eqb (length first) 8 && word_at first 0 (bytes "--strict")) → None ≡ cond t (Some Strict) None
    go false e = refl
    go true e =
        let is = both (eqb count 2 && eqb (length first) 8) _ (sym e) in
        let long = both (eqb count 2) _ is.0 in
        absurd (other (eqb-true count 2 long.0) (word_whole first (bytes "--strict") (eqb-true (length first) 8 long.1) is.1))
