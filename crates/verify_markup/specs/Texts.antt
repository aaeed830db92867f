-- What a text's or a label's span gives: 2 at each lone escape byte, then 3 for the first HTML mark in any case.
use Rattle.std.specs.Prelude.{ℕ, zero, suc, ◌+◌, ◌-◌, Bool, true, cond, not, ◌&&◌, List, [], ◌∷◌, ◌++◌, ltb, eqb, length, take, Option, Some, None}
use Rattle.byte_rules.specs.Classes.{is_text_escape, is_label_escape, is_math_escape}
use Rattle.byte_rules.specs.Names.{upper}
use Rattle.look.specs.Look.{holds_at}
use Rattle.scans.specs.Marks.{lbracket, open_html, close_html}
use Rattle.unescape.specs.Unescape.{is_escape, step_at}
use Rattle.unescape.specs.declared.Escape.{Escape}
use Rattle.unescape.specs.declared.Escape.TheVariants.{Text, Label, Math}
use Rattle.comment_parser.specs.Item.{span}
use Rattle.basics.specs.declared.Span.{Span}
use Rattle.verify_markup.specs.Diag.{when, of_some, uninterpreted_escape, uninterpreted_html}

-- the escape bytes that are reported: each but a Text's `[`
unfoldable pub is_reported : Escape → ℕ → Bool
is_reported (Text html) c = is_text_escape html c && not (eqb c lbracket)
is_reported Label c = is_label_escape c
is_reported Math c = is_math_escape c

-- the letter b, a capital, in either case, or another byte b
unfoldable pub is_letter : ℕ → ℕ → Bool
is_letter b c = eqb (upper c) b

-- a word in any case, from i on
unfoldable pub folded_at : List ℕ → ℕ → List ℕ → Bool
folded_at s i [] = true
folded_at s i (b ∷ bs) = holds_at (is_letter b) s i && folded_at s (i + 1) bs

-- how long the HTML mark at i is, if there is one
unfoldable pub html_len : List ℕ → ℕ → Option ℕ
html_len s i = cond (folded_at s i open_html) (Some (length open_html)) (cond (folded_at s i close_html) (Some (length close_html)) None)

-- the mark of so many bytes at i, or what is said where there is none
abbrev pub mark_or : Option Span → ℕ → Option ℕ → Option Span
mark_or other i (Some n) = Some (span i (i + n))
mark_or other i None = other

-- the first HTML mark among the `left` places from i on
unfoldable pub html_from : List ℕ → ℕ → ℕ → Option Span
html_from s zero i = None
html_from s (suc left) i = mark_or (html_from s left (i + 1)) i (html_len s i)

module _ (buf : List ℕ) where
  -- an escape byte that is reported, and is not doubled, at i; doubling is looked up in the whole buffer
  unfoldable pub lone_at : Escape → ℕ → Bool
  lone_at kind i = holds_at (is_reported kind) buf i && eqb (step_at (is_escape kind) buf i) 1

  -- 2 at each one from i up to e; e - i turns are enough
  unfoldable pub lone_from : Escape → ℕ → ℕ → ℕ → List (List ℕ)
  lone_from kind e zero i = []
  lone_from kind e (suc turns) i =
      let rest = lone_from kind e turns (i + step_at (is_escape kind) buf i) in
      cond (ltb i e) (when (lone_at kind i) (uninterpreted_escape i) ++ rest) []

  -- 3 for the first HTML mark within the span
  unfoldable pub html_in : ℕ → ℕ → List (List ℕ)
  html_in a e = of_some (λ m. uninterpreted_html m.start m.end) (html_from (take e buf) (e - a) a)

  unfoldable pub written : Escape → ℕ → ℕ → List (List ℕ)
  written kind a e = lone_from kind e (e - a) a ++ html_in a e
