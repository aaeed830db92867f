-- What the crates above use of the byte rules.
-- Assumes nothing.
use Prim.Native.Nat.{ℕ, ◌-◌, ◌≤◌, ◌<◌}
use mathlib.Core.Path.{◌≡◌, refl}
use mathlib.Core.Bool.{Bool, true, false, cond, ◌||◌, false≢true}
use native.Mathlib.Omega.{arith}
use lib.Dec.{leb, eqb}
use borrow.Author.Tests.{le-leb, leb-true, eqb-true, ne_eqb}
use Rattle.basics.proofs.Laws.{both}
use Rattle.byte_rules.specs.Classes.{is_blank, is_closer, is_digit, is_capital, is_small, is_alphanumeric, is_credit_space, is_author_byte, is_text_escape, is_label_escape, is_math_escape}
use Rattle.byte_rules.specs.Names.{upper}
use Rattle.byte_rules.specs.Reading.{bars_nothing, is_mark, is_opening, named}
use Rattle.byte_rules.specs.declared.reading.Reading.{Reading as Name}
use Rattle.byte_rules.specs.declared.reading.Reading.TheVariants.{Rust, Strict}

-- the blanks that are spoken of by name
pub space_is_blank : is_blank 32 ≡ true
unfolding is_blank
space_is_blank = refl

pub lf_is_blank : is_blank 10 ≡ true
unfolding is_blank
lf_is_blank = refl

-- every byte above the space is no blank
pub not_blank : (c : ℕ) → 32 < c → is_blank c ≡ false
unfolding is_blank
not_blank c h = rw (ne_eqb c 9 (λ e. omega arith), ne_eqb c 10 (λ e. omega arith), ne_eqb c 12 (λ e. omega arith), ne_eqb c 13 (λ e. omega arith), ne_eqb c 32 (λ e. omega arith))

pub digit_is : (c : ℕ) → is_digit c ≡ true → (48 ≤ c) × (c ≤ 57)
unfolding is_digit
digit_is c h = (leb-true 48 c (both _ _ h).0, leb-true c 57 (both (leb 48 c) _ h).1)

pub digit_holds : (c : ℕ) → 48 ≤ c → c ≤ 57 → is_digit c ≡ true
unfolding is_digit
digit_holds c low high = rw (le-leb 48 c low, le-leb c 57 high)

pub capital_is : (c : ℕ) → is_capital c ≡ true → (65 ≤ c) × (c ≤ 90)
unfolding is_capital
capital_is c h = (leb-true 65 c (both _ _ h).0, leb-true c 90 (both (leb 65 c) _ h).1)

pub small_is : (c : ℕ) → is_small c ≡ true → (97 ≤ c) × (c ≤ 122)
unfolding is_small
small_is c h = (leb-true 97 c (both _ _ h).0, leb-true c 122 (both (leb 97 c) _ h).1)

-- what is none of ` [ ~ is no escape of a label, and what is no _ either is none of a text
module _ (c : ℕ) (tick : eqb c 96 ≡ false) (bracket : eqb c 91 ≡ false) (tilde : eqb c 126 ≡ false) where
  pub no_label_escape : is_label_escape c ≡ false
  unfolding is_label_escape
  no_label_escape = rw (tick, bracket, tilde)

  pub no_text_escape : (html : Bool) → eqb c 95 ≡ false → is_text_escape html c ≡ false
  unfolding is_text_escape
  no_text_escape true under = no_label_escape
  no_text_escape false under = rw (no_label_escape, under)

pub no_math_escape : (c : ℕ) → eqb c 96 ≡ false → is_math_escape c ≡ false
unfolding is_math_escape
no_math_escape c tick = tick

-- a sign below the letters is the capital of no other byte
pub upper_not : (b c : ℕ) → b < 65 → eqb c b ≡ false → eqb (upper c) b ≡ false
unfolding upper
upper_not b c h n = go (is_small c) refl
  where
    go : (t : Bool) → is_small c ≡ t → eqb (cond t (c - 32) c) b ≡ false
    go true t = let x = small_is c t in ne_eqb (c - 32) b (λ z. omega (arith, x.0, h))
    go false t = n

-- the marks are a backtick, ~ [ and <, and no other byte; neither they nor `_`, which is a closer, are alphanumeric
pub four_marks : (is_mark 96 ≡ true) × (is_mark 126 ≡ true) × (is_mark 91 ≡ true) × (is_mark 60 ≡ true)
unfolding is_mark
four_marks = (refl, refl, refl, refl)

pub no_mark : (c : ℕ) → eqb c 96 ≡ false → eqb c 126 ≡ false → eqb c 91 ≡ false → eqb c 60 ≡ false → is_mark c ≡ false
unfolding is_mark
no_mark c tick tilde bracket less = rw (tick, tilde, bracket, less)

pub under_is_closer : is_closer 95 ≡ true
unfolding is_closer
under_is_closer = refl

pub no_letters : (is_alphanumeric 95 ≡ false) × (is_alphanumeric 96 ≡ false) × (is_alphanumeric 126 ≡ false) × (is_alphanumeric 91 ≡ false) × (is_alphanumeric 60 ≡ false)
unfolding is_alphanumeric is_digit is_capital is_small
no_letters = (refl, refl, refl, refl, refl)

-- the spaces of a credit are ASCII, and `,` is none
pub credit_space_low : (c : ℕ) → is_credit_space c ≡ true → c < 128
unfolding is_credit_space
credit_space_low c h = go (eqb c 32) (eqb c 13) (eqb c 10) refl refl refl h
  where
    go : (p q r : Bool) → eqb c 32 ≡ p → eqb c 13 ≡ q → eqb c 10 ≡ r → (p || q || r) ≡ true → c < 128
    go true q r e f g h = omega (arith, eqb-true c 32 e)
    go false true r e f g h = omega (arith, eqb-true c 13 f)
    go false false true e f g h = omega (arith, eqb-true c 10 g)
    go false false false e f g h = absurd (false≢true h)

pub comma_no_space : is_credit_space 44 ≡ false
unfolding is_credit_space
comma_no_space = refl

-- the bytes behind `,` may stand in an author's field, in either reading
pub author_takes : (c : ℕ) → 44 < c → is_author_byte c ≡ true
unfolding is_author_byte
author_takes c h = rw (ne_eqb c 44 (λ z. omega (arith, h, z)), ne_eqb c 41 (λ z. omega (arith, h, z)))

pub author_unbarred : (n : Name) (c : ℕ) → 44 < c → (named n).bars_author c ≡ false
unfolding bars_nothing is_opening
author_unbarred Rust c h = refl
author_unbarred Strict c h = ne_eqb c 40 (λ z. omega (arith, h, z))
