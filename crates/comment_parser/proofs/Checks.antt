-- What the rules shut out, as theorems of the definitions, in any reading.
-- Assumes nothing.
use Prim.Native.Nat.{ℕ, ◌+◌, ◌-◌}
use mathlib.Core.Bool.{Bool, true, false, ◌&&◌}
use mathlib.Core.Path.{◌≡◌, refl}
use mathlib.Core.List.{List}
use borrow.Author.Tests.{ne_eqb}
use Rattle.std.specs.Prelude.{None}
use Rattle.byte_rules.specs.Reading.{Reading}
use Rattle.look.specs.Look.{byte_at, blank_at, closer_at, italic_opener_at}
use Rattle.scans.specs.Marks.{space}
use Rattle.scans.specs.Ends.{italic_end}
use Rattle.comment_parser.specs.Rules.{blank_before, after_close, opens_italic, open_under}
use Rattle.comment_parser.specs.declared.Act.TheVariants.{One}
use Rattle.comment_parser.specs.declared.ParserState.{ParserState}

-- an italic that fails is plain text: it is not tried as a subscript
pub failed_italic : (rd : Reading) (s : List ℕ) (st : ParserState) (p : ℕ) → opens_italic s st p ≡ true → italic_end rd s (p + 1) ≡ None → open_under rd s st p ≡ One
unfolding open_under
failed_italic rd s st p o n = rw (open_under, o, n)

-- an underscore behind any other byte opens no italic, wherever the span starts: the buffer's start alone counts as a blank
pub byte_before :
    (s : List ℕ) (st : ParserState) (p : ℕ) → (p ≡ st.end_subscript → ⊥) → (p ≡ 0 → ⊥) → blank_at s (p - 1) ≡ false → italic_opener_at s (p - 1) ≡ false →
    opens_italic s st p ≡ false
unfolding opens_italic blank_before
byte_before s st p n z b o = rw (opens_italic, ne_eqb p st.end_subscript n, blank_before, ne_eqb p 0 z, b, o)

-- behind a closing mark or a label a space is kept if no closer follows
pub space_kept : (s : List ℕ) (p : ℕ) → closer_at s (p + 1) ≡ false → after_close s p ≡ p
unfolding after_close
space_kept s p n = rw (after_close, n) (go (byte_at s p space))
  where
    go : (b : Bool) → elim (b && false) [ true ↦ p + 1 | false ↦ p ] ≡ p
    go true = refl
    go false = refl
