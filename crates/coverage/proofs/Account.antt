-- How a list of events accounts for the bytes of a span, as a certificate that a reading makes pass by pass. From it every field of demand 3 is read off.
-- `Account buf b m i es`: from the place i, in math or not, up to the end b, the events es account for each byte, in order.
-- Assumes nothing.
use Prim.Native.Nat.{ℕ, ◌+◌, ◌-◌, ◌≤◌, ◌<◌}
use mathlib.Core.Bool.{Bool, true, false}
use mathlib.Core.List.{List, [], ◌∷◌}
use mathlib.Core.Path.{◌≡◌}
use native.Mathlib.Omega.{arith}
use lib.ListN.{get_or}
use Rattle.byte_rules.specs.Classes.{is_closer}
use Rattle.byte_rules.specs.Text.{bytes}
use Rattle.comment_parser.specs.Item.{span}
use Rattle.comment_parser.specs.declared.CommentItem.{CommentItem}
use Rattle.comment_parser.specs.declared.CommentItem.TheVariants.{Text, LineBreak, StartMathMode, EndMathMode, MathToken, Label, Url, StartHtml, EndHtml, StartSubscript, EndSubscript, StartItalic, EndItalic, BibTag}
use Rattle.coverage.specs.Demand3.{Blanks, Ahead, Reads}

-- the event of a run
abbrev pub run_of : Bool → ℕ → ℕ → CommentItem
run_of true r q = MathToken (span r q)
run_of false r q = Text (span r q)

module _ (buf : List ℕ) where
  pub record BlankTo (i j : ℕ) : Type 0 where
    pub up : i ≤ j
    pub blank : Blanks buf i j

  -- what is dropped before a run, the event that ends it or the end: in math blanks, else nothing
  pub data Gap : Bool → ℕ → ℕ → Type 0 where
    math_gap : {i j : ℕ} → BlankTo i j → Gap true i j
    no_gap : {m : Bool} {i : ℕ} → Gap m i i

  -- what is dropped between the end q of a run from r and an opening mark at p
  pub data Before (r : ℕ) : ℕ → ℕ → Type 0 where
    space_before_case : {q p : ℕ} → q + 1 ≡ p → r + 2 ≤ p → get_or buf q 0 ≡ 32 → Ahead buf (q - 1) → Before r q p
    none_before : {p : ℕ} → Before r p p

module _ (buf : List ℕ) (b : ℕ) where
  -- what is dropped from p on, after a closing mark or a label
  pub data After : ℕ → ℕ → Type 0 where
    space_after_case : {p : ℕ} → get_or buf p 0 ≡ 32 → p + 1 < b → is_closer (get_or buf (p + 1) 0) ≡ true → After p (p + 1)
    none_after : {p : ℕ} → After p p

  -- An event that ends a run from r at q: the bytes of its mark, its text, what is dropped beside them; whether math holds before and after it, and
  -- the place after it.
  pub data Ending (r : ℕ) : Bool → ℕ → CommentItem → Bool → ℕ → Type 0 where
    open_math : {q p : ℕ} → Before buf r q p → get_or buf p 0 ≡ 96 → Ending r false q (StartMathMode p) true (p + 1)
    close_math : {q n : ℕ} → get_or buf q 0 ≡ 96 → After (q + 1) n → Ending r true q (EndMathMode q) false n
    label : {q p x y n : ℕ} → Before buf r q p → get_or buf p 0 ≡ 126 → BlankTo buf (p + 1) x → x ≤ y → After y n → Ending r false q (Label p (span x y)) false n
    url : {q p x y n : ℕ} → Before buf r q p → get_or buf p 0 ≡ 126 → BlankTo buf (p + 1) x → x ≤ y → After y n → Ending r false q (Url p (span x y)) false n
    open_html_case : {q : ℕ} → Reads buf q (q + 6) (bytes "<HTML>") → Ending r false q (StartHtml q) false (q + 6)
    close_html_case : {q : ℕ} → Reads buf q (q + 7) (bytes "</HTML>") → Ending r false q (EndHtml q) false (q + 7)
    open_subscript : {q : ℕ} → get_or buf q 0 ≡ 95 → Ending r false q (StartSubscript q) false (q + 1)
    open_italic : {q : ℕ} → get_or buf q 0 ≡ 95 → Ending r false q (StartItalic q) false (q + 1)
    close_italic : {q : ℕ} → get_or buf q 0 ≡ 95 → Ending r false q (EndItalic q) false (q + 1)
    tag : {q c : ℕ} → get_or buf q 0 ≡ 91 → q + 1 ≤ c → get_or buf c 0 ≡ 93 → Ending r false q (BibTag (span (q + 1) c)) false (c + 1)
    line_break : {q : ℕ} → Ending r false q (LineBreak q) false q
    close_subscript : {m : Bool} {q : ℕ} → Ending r m q (EndSubscript q) m q

  -- the span's events: passes, each of a run, or an event that ends an empty one, or a run and the event that ends it. An event that owns no byte
  -- ends a run that is not empty
  pub data Account : Bool → ℕ → List CommentItem → Type 0 where
    end : {m : Bool} {i : ℕ} → Gap buf m i b → Account m i []
    run : {m : Bool} {i r q : ℕ} {es : List CommentItem} → Gap buf m i r → r < q → Account m q es → Account m i (run_of m r q ∷ es)
    ending : {m m' : Bool} {i q n : ℕ} {c : CommentItem} {es : List CommentItem} → Gap buf m i q → q < n → Ending q m q c m' n → Account m' n es → Account m i (c ∷ es)
    run_ending :
        {m m' : Bool} {i r q n : ℕ} {c : CommentItem} {es : List CommentItem} →
        Gap buf m i r → r < q → q ≤ n → Ending r m q c m' n → Account m' n es → Account m i (run_of m r q ∷ c ∷ es)

-- each takes the reader on
pub gap_up : {buf : List ℕ} {i j : ℕ} {m : Bool} → Gap buf m i j → i ≤ j
gap_up (math_gap b) = b.up
gap_up no_gap = omega arith

pub before_up : {buf : List ℕ} {r q p : ℕ} → Before buf r q p → q ≤ p
before_up (space_before_case n l s a) = omega arith
before_up none_before = omega arith

pub after_up : {buf : List ℕ} {b p n : ℕ} → After buf b p n → p ≤ n
after_up (space_after_case s l c) = omega arith
after_up none_after = omega arith
