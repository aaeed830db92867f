-- Two comments with the same pieces, each piece true of both, and the same bytes in the texts: what they share at a place.
-- Assumes nothing.
use Prim.Native.Nat.{ℕ, ◌+◌, ◌-◌, ◌≤◌, ◌<◌}
use mathlib.Core.Bool.{Bool, true, false}
use mathlib.Core.List.{List, [], ◌∷◌}
use mathlib.Core.Option.{Option, none, some}
use mathlib.Core.Path.{◌≡◌, refl, sym, ◌∙◌}
use native.Mathlib.Omega.{arith}
use lib.ListN.{get_or}
use Rattle.basics.proofs.Laws.{differ}
use Rattle.comment_parser.specs.declared.CommentItem.{CommentItem}
use Rattle.comment_parser.specs.declared.CommentItem.TheVariants.{Text, LineBreak, StartMathMode, EndMathMode, MathToken, Label, Url, StartHtml, EndHtml, StartSubscript, EndSubscript, StartItalic, EndItalic, BibTag}
use Rattle.coverage.specs.Demand3.{All, Some, this, later, ExactlyOne, here, there, What, text, mark, after_tilde, between, Piece, piece, Holds, whole, ends, in_math_after, layout, Dropped, nothing, in_math_case, before_opening, after_closing, Reads, Says, Fits, Loose, loose_in_math, loose_after_tilde, SameText, Agree, same_byte, both_blank}
use Rattle.coverage.proofs.Tilings.{all_append}

-- what is dropped outside math is one space
pub outside_space : {buf : List ℕ} {b : ℕ} {m : Bool} {prev next : Option CommentItem} {i j : ℕ} → Dropped buf b m prev next i j → m ≡ false → (p : ℕ) → i ≤ p → p < j → get_or buf p 0 ≡ 32
outside_space nothing h p l u = absurd (omega arith)
outside_space (in_math_case n) h p l u = absurd (differ cc)
outside_space (before_opening {i = i} k) h p l u = let n = k.one in let z : p ≡ i = omega arith in rw z k.space
outside_space (after_closing {i = i} k) h p l u = let n = k.one in let z : p ≡ i = omega arith in rw z k.space

-- a mark's bytes are the mark's
mark_byte : {buf : List ℕ} {i j : ℕ} {bs : List ℕ} → Reads buf i j bs → (p : ℕ) → i ≤ p → p < j → get_or buf p 0 ≡ get_or bs (p - i) 0
mark_byte {buf} {i} {j} {bs} r p l u =
    let n = r.long in
    let z : i + (p - i) ≡ p = omega arith in
    rw z at (r.byte (p - i) (omega arith))

module _ (s t : List ℕ) (b : ℕ) where
  agree_piece :
      (xs : List Piece) (p : ℕ) (w : What) (i j : ℕ) → i ≤ p → p < j → Says s b w i j → Says t b w i j → (w ≡ text → get_or s p 0 ≡ get_or t p 0) →
      (Loose w → Some (λ x. Holds p x × Loose x.what) xs) → Agree s t xs p
  agree_piece xs p text i j l u x y h k = same_byte (h refl)
  agree_piece xs p (mark bs) i j l u x y h k = same_byte (mark_byte x p l u ∙ sym (mark_byte y p l u))
  agree_piece xs p after_tilde i j l u x y h k = both_blank (k loose_after_tilde) (x p l u) (y p l u)
  agree_piece xs p (between true prev next) i j l u x y h k = both_blank (k loose_in_math) (x.0 p l u) (y.0 p l u)
  agree_piece xs p (between false prev next) i j l u x y h k = same_byte (outside_space x.1 refl p l u ∙ sym (outside_space y.1 refl p l u))

  -- a piece that is an event's text has the same bytes in both
  abbrev pub SameIn : Piece → Type 0
  SameIn x = x.what ≡ text → (p : ℕ) → x.lo ≤ p → p < x.hi → get_or s p 0 ≡ get_or t p 0

  more : {x : Piece} {xs : List Piece} {p : ℕ} → Agree s t xs p → Agree s t (x ∷ xs) p
  more (same_byte e) = same_byte e
  more (both_blank k x y) = both_blank (later k) x y

  pub agree_at : (p : ℕ) {xs : List Piece} → ExactlyOne (Holds p) xs → All (Fits s b) xs → All (Fits t b) xs → All SameIn xs → Agree s t xs p
  agree_at p (here {x = x} {xs = xs} h n) f g k =
      agree_piece (x ∷ xs) p x.what x.lo x.hi h.0 h.1 f.0 g.0 (λ w. k.0 w p h.0 h.1) (λ l. this (h, l))
  agree_at p (there n o) f g k = more (agree_at p o f.1 g.1 k.1)

  -- the pieces that are texts are the texts that the events report
  no_text : {i j : ℕ} {w : What} → (w ≡ text → ⊥) → SameIn (piece i j w)
  no_text n w = absurd (n w)

  mark_not : (bs : List ℕ) → mark bs ≡ text → ⊥
  mark_not bs e = differ cc

  tilde_not : after_tilde ≡ text → ⊥
  tilde_not e = differ cc

  between_not : (m : Bool) (prev next : Option CommentItem) → between m prev next ≡ text → ⊥
  between_not m prev next e = differ cc

  whole_texts : (c : CommentItem) → SameText s t c → All SameIn (whole c)
  whole_texts (Text x) h = (λ _. h, tt)
  whole_texts (LineBreak p) h = tt
  whole_texts (StartMathMode p) h = (no_text (mark_not _), tt)
  whole_texts (EndMathMode p) h = (no_text (mark_not _), tt)
  whole_texts (MathToken x) h = (λ _. h, tt)
  whole_texts (Label p x) h = (no_text (mark_not _), (no_text tilde_not, (λ _. h, tt)))
  whole_texts (Url p x) h = (no_text (mark_not _), (no_text tilde_not, (λ _. h, tt)))
  whole_texts (StartHtml p) h = (no_text (mark_not _), tt)
  whole_texts (EndHtml p) h = (no_text (mark_not _), tt)
  whole_texts (StartSubscript p) h = (no_text (mark_not _), tt)
  whole_texts (EndSubscript p) h = tt
  whole_texts (StartItalic p) h = (no_text (mark_not _), tt)
  whole_texts (EndItalic p) h = (no_text (mark_not _), tt)
  whole_texts (BibTag x) h = (no_text (mark_not _), (λ _. h, (no_text (mark_not _), tt)))

  pub texts : (m : Bool) (prev : Option CommentItem) (i : ℕ) (es : List CommentItem) → All (SameText s t) es → All SameIn (layout b m prev i es)
  texts m prev i [] h = (no_text (between_not m prev none), tt)
  texts m prev i (c ∷ es) h =
      (no_text (between_not m prev (some c)), all_append SameIn (whole c) _ (whole_texts c h.0) (texts (in_math_after c m) (some c) (ends c) es h.1))
