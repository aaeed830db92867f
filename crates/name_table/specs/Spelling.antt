-- The name that a text spells.
use Rattle.std.specs.Prelude.{ℕ, List}
use Rattle.unescape.specs.Unescape.{is_escape, unescaped, step_at}
use Rattle.name_table.specs.declared.Spelling.{Spelling}
use Rattle.name_table.specs.declared.Spelling.TheVariants.{Plain, Escaped}

-- the text as it stands, or unescaped
unfoldable pub spelled : Spelling → List ℕ → List ℕ
spelled Plain text = text
spelled (Escaped kind) text = unescaped (is_escape kind) text

-- how many bytes of the text stand for the name's byte at i
unfoldable pub step_of : Spelling → List ℕ → ℕ → ℕ
step_of Plain text i = 1
step_of (Escaped kind) text i = step_at (is_escape kind) text i
