-- What the statement says of a sample, what it shuts out, and that it leaves no events out: a span that is refused has none.
-- Assumes nothing.
use Prim.Native.Nat.{ℕ, ◌+◌, ◌-◌}
use mathlib.Core.Bool.{true, false}
use mathlib.Core.List.{List, [], ◌∷◌}
use mathlib.Core.Option.{Option, none, some}
use mathlib.Core.Path.{◌≡◌, refl}
use native.Mathlib.Omega.{arith}
use lib.ListN.{get_or}
use Rattle.basics.proofs.Laws.{differ}
use Rattle.byte_rules.specs.Reading.{Reading}
use Rattle.byte_rules.specs.Text.{bytes}
use Rattle.byte_rules.specs.Classes.{is_closer}
use Rattle.scans.proofs.Laws.{clash}
use Rattle.comment_parser.specs.Item.{span}
use Rattle.comment_parser.specs.State.{fresh}
use Rattle.comment_parser.specs.Events.{seen, events_of}
use Rattle.basics.specs.declared.Span.{Span}
use Rattle.comment_parser.specs.declared.ParserState.{ParserState}
use Rattle.comment_parser.specs.declared.CommentItem.{CommentItem}
use Rattle.comment_parser.specs.declared.CommentItem.TheVariants.{Text, StartMathMode, EndMathMode, MathToken, EndSubscript}
use Rattle.comment_parser.proofs.Events.{seen_accepted, events_end}
use Rattle.coverage.specs.Demand3.{text, mark, between, piece, pieces, TokenMarkOrEnd, a_token, a_mark, the_end, Closing, closes_math, closes_label, closes_url, Ahead, round, square, quote_at_start, quote_after_blank, Dropped, nothing, in_math_case, before_opening, after_closing, AcceptedSpan}

-- document 01's sample ( `a` ): of its seven bytes the second and the sixth are dropped
sample :
    pieces 0 7 (Text (span 0 1) ∷ StartMathMode 2 ∷ MathToken (span 3 4) ∷ EndMathMode 4 ∷ Text (span 6 7) ∷ []) ≡
    piece 0 0 (between false none (some (Text (span 0 1)))) ∷ piece 0 1 text
    ∷ piece 1 2 (between false (some (Text (span 0 1))) (some (StartMathMode 2))) ∷ piece 2 3 (mark (bytes "`"))
    ∷ piece 3 3 (between true (some (StartMathMode 2)) (some (MathToken (span 3 4)))) ∷ piece 3 4 text
    ∷ piece 4 4 (between true (some (MathToken (span 3 4))) (some (EndMathMode 4))) ∷ piece 4 5 (mark (bytes "`"))
    ∷ piece 5 6 (between false (some (EndMathMode 4)) (some (Text (span 6 7)))) ∷ piece 6 7 text
    ∷ piece 7 7 (between false (some (Text (span 6 7))) none) ∷ []
sample = refl

-- SHUT OUT

ahead_is : {buf : List ℕ} {q : ℕ} → Ahead buf q → (get_or buf q 0 ≡ 40 → ⊥) → (get_or buf q 0 ≡ 91 → ⊥) → (get_or buf q 0 ≡ 34 → ⊥) → ⊥
ahead_is (round e) r s q = r (omega arith)
ahead_is (square e) r s q = s (omega arith)
ahead_is (quote_at_start e z) r s q = q (omega arith)
ahead_is (quote_after_blank e l k) r s q = q (omega arith)

text_closes_not : {c : CommentItem} → Closing c → (x : Span) → c ≡ Text x → ⊥
text_closes_not closes_math x e = differ cc
text_closes_not closes_label x e = differ cc
text_closes_not closes_url x e = differ cc

next_not : {next : Option CommentItem} → TokenMarkOrEnd next → (p : ℕ) → next ≡ some (EndSubscript p) → ⊥
next_not a_token p e = differ cc
next_not a_mark p e = differ cc
next_not the_end p e = differ cc

module _ {buf : List ℕ} {b : ℕ} where
  -- outside math nothing is dropped behind a text whose last byte is none of `(`, `[` and `"`
  pub kept_behind_text :
      {x : Span} {next : Option CommentItem} {i j : ℕ} → Dropped buf b false (some (Text x)) next i j →
      (get_or buf (i - 1) 0 ≡ 40 → ⊥) → (get_or buf (i - 1) 0 ≡ 91 → ⊥) → (get_or buf (i - 1) 0 ≡ 34 → ⊥) → i ≡ j
  kept_behind_text nothing r s q = refl
  kept_behind_text (before_opening k) r s q = absurd (ahead_is k.ahead r s q)
  kept_behind_text {x} (after_closing k) r s q = absurd (text_closes_not k.closing x refl)

  -- and behind any other event nothing, unless a closer follows
  pub kept_without_closer :
      {c : CommentItem} {next : Option CommentItem} {i j : ℕ} → Dropped buf b false (some c) next i j → ((x : Span) → c ≡ Text x → ⊥) →
      is_closer (get_or buf (i + 1) 0) ≡ false → i ≡ j
  kept_without_closer nothing n f = refl
  kept_without_closer (before_opening {x = x} k) n f = absurd (n x refl)
  kept_without_closer (after_closing k) n f = let e = k.one in clash f (rw e at k.closer)

  -- nothing is dropped at the start of a comment
  pub kept_at_start : {next : Option CommentItem} {i j : ℕ} → Dropped buf b false none next i j → i ≡ j
  kept_at_start nothing = refl

  -- in math nothing is dropped before the end of a subscript
  pub kept_before_end_subscript : {prev : Option CommentItem} {p i j : ℕ} → Dropped buf b true prev (some (EndSubscript p)) i j → i ≡ j
  kept_before_end_subscript nothing = refl
  kept_before_end_subscript {p = p} (in_math_case n) = absurd (next_not n p refl)

-- LEFT OUT: a buffer over the bound, or a span that does not lie in it, has no events

pub refused_has_none : (rd : Reading) (buf : List ℕ) (a b : ℕ) → (AcceptedSpan buf a b → ⊥) → events_of rd buf a b ≡ []
unfolding events_of
refused_has_none rd buf a b no_span = events_end rd buf (fresh rd.name a b) (go (seen rd buf (fresh rd.name a b)) refl)
  where
    go : (o : Option (CommentItem × ParserState)) → seen rd buf (fresh rd.name a b) ≡ o → seen rd buf (fresh rd.name a b) ≡ none
    go none e = e
    go (some p) e = let k = seen_accepted rd buf (fresh rd.name a b) p e in absurd (no_span (record { short = k.short; ordered = k.inside; fits = k.fits }))
