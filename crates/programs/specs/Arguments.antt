-- The reading that a program's arguments ask for: so many of them, the program's own name among them, and the first one behind it.
use Rattle.std.specs.Prelude.{ℕ, cond, ◌&&◌, List, ltb, eqb, length, Option, None, Some}
use Rattle.byte_rules.specs.Text.{bytes}
use Rattle.byte_rules.specs.declared.reading.Reading.{Reading}
use Rattle.byte_rules.specs.declared.reading.Reading.TheVariants.{Rust, Strict}
use Rattle.look.specs.Look.{word_at}

-- none asks for the Rust's reading, `--strict` alone for the strict one; None: anything else
unfoldable pub asked_for : ℕ → List ℕ → Option Reading
asked_for count first =
    cond (ltb count 2) (Some Rust)
    (cond (eqb count 2 && eqb (length first) 8 && word_at first 0 (bytes "--strict")) (Some Strict) None)
