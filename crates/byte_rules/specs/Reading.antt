-- A reading: which bytes bar a subscript, an italic and an author's field, and the name by which it is chosen. No rule looks at the name: a state carries it
-- along. The Rust's reading bars no byte; the strict one is the same rules with other tests.
use Rattle.std.specs.Prelude.{ℕ, Bool, false, ◌||◌, eqb}
use Rattle.byte_rules.specs.declared.reading.Reading.{Reading as Name}
use Rattle.byte_rules.specs.declared.reading.Reading.TheVariants.{Rust, Strict}

pub record Reading : Type 0 where
  pub name : Name
  -- a subscript ends at such a byte, and can't begin with one
  pub bars_subscript : ℕ → Bool
  -- an italic opens only if none stands between it and its end
  pub bars_italic : ℕ → Bool
  -- a credit whose author holds one isn't matched
  pub bars_author : ℕ → Bool

unfoldable pub bars_nothing : ℕ → Bool
bars_nothing c = false

-- the Rust's reading
abbrev pub rust : Reading
rust = record { name = Rust; bars_subscript = bars_nothing; bars_italic = bars_nothing; bars_author = bars_nothing }

-- a backtick, ~ [ or <
unfoldable pub is_mark : ℕ → Bool
is_mark c = eqb c 96 || eqb c 126 || eqb c 91 || eqb c 60

-- (
unfoldable pub is_opening : ℕ → Bool
is_opening c = eqb c 40

-- the strict reading
abbrev pub strict : Reading
strict = record { name = Strict; bars_subscript = is_mark; bars_italic = is_mark; bars_author = is_opening }

-- the reading that a name chooses
abbrev pub named : Name → Reading
named Rust = rust
named Strict = strict
