-- Unescaping (document 01, "Reading rules").
use Rattle.std.specs.Prelude.{ℕ, ◌+◌, ◌-◌, Bool, cond, ◌&&◌, List, [], ◌∷◌, eqb, get_or, take, drop}
use Rattle.byte_rules.specs.Classes.{is_text_escape, is_label_escape, is_math_escape}
use Rattle.look.specs.Look.{byte_at}
use Rattle.unescape.specs.declared.Escape.{Escape}
use Rattle.unescape.specs.declared.Escape.TheVariants.{Text, Label, Math}

-- which bytes are escapes
abbrev pub is_escape : Escape → ℕ → Bool
is_escape (Text html) = is_text_escape html
is_escape Label = is_label_escape
is_escape Math = is_math_escape

-- left to right: a doubled escape byte becomes one, a lone one stays
unfoldable pub unescaped : (ℕ → Bool) → List ℕ → List ℕ
unescaped esc [] = []
unescaped esc (c ∷ []) = c ∷ []
unescaped esc (c ∷ d ∷ s) = cond (esc c && eqb d c) (c ∷ unescaped esc s) (c ∷ unescaped esc (d ∷ s))

-- how many bytes stand for the one unescaped byte at i: two for an escape byte with the same byte after it, else one
unfoldable pub step_at : (ℕ → Bool) → List ℕ → ℕ → ℕ
step_at esc s i = cond (esc (get_or s i 0) && byte_at s (i + 1) (get_or s i 0)) 2 1

-- the part of a text from a up to e
abbrev pub part : List ℕ → ℕ → ℕ → List ℕ
part s a e = take (e - a) (drop a s)
