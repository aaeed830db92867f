-- DEMAND 3, the statement: every byte of a span has one owner. Words in double quotes are the demand's or document 01's.
-- It stands on document 01's blanks and closers (byte_rules), on an item's record form and on the events of a span (comment_parser, demand 2); it cites
-- no reading rule of the parser. The two theorems at the end are proved in proofs/Theorem.antt, for any reading.
use Rattle.std.specs.Prelude.{ℕ, suc, ◌+◌, ◌-◌, ◌*◌, ◌≤◌, ◌<◌, Bool, true, false, List, [], ◌∷◌, ◌++◌, ◌≡◌, eqb, get_or, length}
use Rattle.std.specs.Prelude as prelude
use Prim.Native.Char.{code}
use Rattle.std.proofs.Math.Option.{Option, none, some}
use Rattle.records.specs.Answer.{bare, longest}
use Rattle.byte_rules.specs.Text.{bytes}
use Rattle.byte_rules.specs.Classes.{is_blank, is_closer}
use Rattle.byte_rules.specs.Reading.{Reading}
use Rattle.comment_parser.specs.Item.{placed_of}
use Rattle.comment_parser.specs.State.{fresh}
use Rattle.comment_parser.specs.Next.{next_of}
use Rattle.comment_parser.specs.Events.{events_of}
use Rattle.basics.specs.declared.Span.{Span}
use Rattle.comment_parser.specs.declared.ParserState.{ParserState}
use Rattle.comment_parser.specs.declared.CommentItem.{CommentItem}
use Rattle.comment_parser.specs.declared.CommentItem.TheVariants.{Text, LineBreak, StartMathMode, EndMathMode, MathToken, Label, Url}
use Rattle.comment_parser.specs.declared.CommentItem.TheVariants.{StartHtml, EndHtml, StartSubscript, EndSubscript, StartItalic, EndItalic, BibTag}

-- LISTS. Of each element; of some; of exactly one, and not of any other.

abbrev pub All : {A : Type 0} → (A → Type 0) → List A → Type 0
All P [] = Unit {0}
All P (x ∷ xs) = P x × All P xs

pub data Some {A : Type 0} (P : A → Type 0) : List A → Type 0 where
  this : {x : A} {xs : List A} → P x → Some P (x ∷ xs)
  later : {x : A} {xs : List A} → Some P xs → Some P (x ∷ xs)

pub data ExactlyOne {A : Type 0} (P : A → Type 0) : List A → Type 0 where
  here : {x : A} {xs : List A} → P x → All (λ y. P y → ⊥) xs → ExactlyOne P (x ∷ xs)
  there : {x : A} {xs : List A} → (P x → ⊥) → ExactlyOne P xs → ExactlyOne P (x ∷ xs)

-- THE PIECES of a span, made from its ends and the list of its events alone: no byte is looked at.

-- What a piece is: an event's text; an event's mark, with the bytes that it must have; what lies between `~` and its label; what lies between two
-- events, in math or not (`none` before: from the span's start; `none` after: up to its end).
pub data What : Type 0 where
  text : What
  mark : List ℕ → What
  after_tilde : What
  between : Bool → Option CommentItem → Option CommentItem → What

-- the places from lo on and before hi
pub record Piece : Type 0 where
  pub lo : ℕ
  pub hi : ℕ
  pub what : What

abbrev pub piece : ℕ → ℕ → What → Piece
piece i j w = record { lo = i; hi = j; what = w }

abbrev pub Holds : ℕ → Piece → Type 0
Holds p x = (x.lo ≤ p) × (p < x.hi)

abbrev pub Inside : ℕ → ℕ → Piece → Type 0
Inside a b x = (a ≤ x.lo) × (x.lo ≤ x.hi) × (x.hi ≤ b)

-- An event's pieces. The marks are document 01's: backtick, `~`, `_`, the two HTML tags, a tag's brackets. LineBreak and EndSubscript own no byte.
abbrev pub whole : CommentItem → List Piece
whole (Text x) = piece x.start x.end text ∷ []
whole (LineBreak p) = []
whole (StartMathMode p) = piece p (p + 1) (mark (bytes "`")) ∷ []
whole (EndMathMode p) = piece p (p + 1) (mark (bytes "`")) ∷ []
whole (MathToken x) = piece x.start x.end text ∷ []
whole (Label p x) = piece p (p + 1) (mark (bytes "~")) ∷ piece (p + 1) x.start after_tilde ∷ piece x.start x.end text ∷ []
whole (Url p x) = piece p (p + 1) (mark (bytes "~")) ∷ piece (p + 1) x.start after_tilde ∷ piece x.start x.end text ∷ []
whole (StartHtml p) = piece p (p + 6) (mark (bytes "<HTML>")) ∷ []
whole (EndHtml p) = piece p (p + 7) (mark (bytes "</HTML>")) ∷ []
whole (StartSubscript p) = piece p (p + 1) (mark (bytes "_")) ∷ []
whole (EndSubscript p) = []
whole (StartItalic p) = piece p (p + 1) (mark (bytes "_")) ∷ []
whole (EndItalic p) = piece p (p + 1) (mark (bytes "_")) ∷ []
whole (BibTag x) = piece (x.start - 1) x.start (mark (bytes "[")) ∷ piece x.start x.end text ∷ piece x.end (x.end + 1) (mark (bytes "]")) ∷ []

-- where an event's pieces begin and end; for an event that owns no byte, its place
abbrev pub first : ℕ → List Piece → ℕ
first p [] = p
first p (x ∷ xs) = x.lo

abbrev pub last : ℕ → List Piece → ℕ
last p [] = p
last p (x ∷ xs) = last x.hi xs

abbrev pub begins : CommentItem → ℕ
begins c = first (placed_of c).place (whole c)

abbrev pub ends : CommentItem → ℕ
ends c = last (placed_of c).place (whole c)

-- whether what follows an event is in math
abbrev pub in_math_after : CommentItem → Bool → Bool
in_math_after (StartMathMode p) m = true
in_math_after (EndMathMode p) m = false
in_math_after (Text x) m = m
in_math_after (LineBreak p) m = m
in_math_after (MathToken x) m = m
in_math_after (Label p x) m = m
in_math_after (Url p x) m = m
in_math_after (StartHtml p) m = m
in_math_after (EndHtml p) m = m
in_math_after (StartSubscript p) m = m
in_math_after (EndSubscript p) m = m
in_math_after (StartItalic p) m = m
in_math_after (EndItalic p) m = m
in_math_after (BibTag x) m = m

-- the pieces from the place i up to the span's end b, in math or not, after the event `prev`
abbrev pub layout : ℕ → Bool → Option CommentItem → ℕ → List CommentItem → List Piece
layout b m prev i [] = piece i b (between m prev none) ∷ []
layout b m prev i (c ∷ es) = piece i (begins c) (between m prev (some c)) ∷ (whole c ++ layout b (in_math_after c m) (some c) (ends c) es)

-- the pieces of the span from a to b: a comment starts outside math
abbrev pub pieces : ℕ → ℕ → List CommentItem → List Piece
pieces a b es = layout b false none a es

-- WHAT IS DROPPED, in document 01's words, of a buffer and a span's end b (the reader looks at the buffer up to there).

-- "in math before a token, mark or end": what follows the blanks. The mark is the closing backtick
pub data TokenMarkOrEnd : Option CommentItem → Type 0 where
  a_token : {x : Span} → TokenMarkOrEnd (some (MathToken x))
  a_mark : {p : ℕ} → TokenMarkOrEnd (some (EndMathMode p))
  the_end : TokenMarkOrEnd none

-- "before an opening backtick or `~`"
pub data Opening : CommentItem → Type 0 where
  opens_math : {p : ℕ} → Opening (StartMathMode p)
  opens_label : {p : ℕ} {x : Span} → Opening (Label p x)
  opens_url : {p : ℕ} {x : Span} → Opening (Url p x)

-- "after a closing backtick or a label"
pub data Closing : CommentItem → Type 0 where
  closes_math : {p : ℕ} → Closing (EndMathMode p)
  closes_label : {p : ℕ} {x : Span} → Closing (Label p x)
  closes_url : {p : ℕ} {x : Span} → Closing (Url p x)

module _ (buf : List ℕ) where
  -- nothing but blanks from i on and before j
  abbrev pub Blanks : ℕ → ℕ → Type 0
  Blanks i j = (k : ℕ) → i ≤ k → k < j → is_blank (get_or buf k 0) ≡ true

  -- "`(`, `[`, or a `"` that has a blank or the buffer's start before it", at q
  pub data Ahead (q : ℕ) : Type 0 where
    round : get_or buf q 0 ≡ code "(" → Ahead q
    square : get_or buf q 0 ≡ code "[" → Ahead q
    quote_at_start : get_or buf q 0 ≡ code "\"" → q ≡ 0 → Ahead q
    quote_after_blank : get_or buf q 0 ≡ code "\"" → 1 ≤ q → is_blank (get_or buf (q - 1) 0) ≡ true → Ahead q

  -- "one space before an opening backtick or `~` when the run, that space counted, holds at least two bytes and the byte ahead of the space is .."
  -- The run is the Text x and the space at i, which lies before the mark at j.
  pub record SpaceBefore (x : Span) (c : CommentItem) (i j : ℕ) : Type 0 where
    pub opening : Opening c
    pub one : j ≡ i + 1
    pub space : get_or buf i 0 ≡ code " "
    pub two_bytes : x.start + 2 ≤ j
    pub ahead : Ahead (i - 1)

  -- "one space after a closing backtick or a label when a closer follows", the closer in the span
  pub record SpaceAfter (b : ℕ) (c : CommentItem) (i j : ℕ) : Type 0 where
    pub closing : Closing c
    pub one : j ≡ i + 1
    pub space : get_or buf i 0 ≡ code " "
    pub inside : j < b
    pub closer : is_closer (get_or buf j 0) ≡ true

  -- Between two events nothing is dropped, or what is dropped from i to j stands at one of the document's three places there; the fourth, "between
  -- `~` and its label", lies within an event.
  pub data Dropped (b : ℕ) : Bool → Option CommentItem → Option CommentItem → ℕ → ℕ → Type 0 where
    nothing : {m : Bool} {prev next : Option CommentItem} {i : ℕ} → Dropped b m prev next i i
    in_math_case : {prev next : Option CommentItem} {i j : ℕ} → TokenMarkOrEnd next → Dropped b true prev next i j
    before_opening : {x : Span} {c : CommentItem} {i j : ℕ} → SpaceBefore x c i j → Dropped b false (some (Text x)) (some c) i j
    after_closing : {c : CommentItem} {next : Option CommentItem} {i j : ℕ} → SpaceAfter b c i j → Dropped b false (some c) next i j

  -- the bytes from i on and before j are those of bs
  pub record Reads (i j : ℕ) (bs : List ℕ) : Type 0 where
    pub long : j ≡ i + length bs
    pub byte : (k : ℕ) → k < length bs → get_or buf (i + k) 0 ≡ get_or bs k 0

  -- What a piece says of the buffer: a mark has its bytes; what lies between `~` and its label is blank; what lies between events is blank, and stands
  -- where blanks are dropped. A text may be any bytes.
  abbrev pub Says : ℕ → What → ℕ → ℕ → Type 0
  Says b text i j = Unit {0}
  Says b (mark bs) i j = Reads i j bs
  Says b after_tilde i j = Blanks i j
  Says b (between m prev next) i j = Blanks i j × Dropped b m prev next i j

  abbrev pub Fits : ℕ → Piece → Type 0
  Fits b x = Says b x.what x.lo x.hi

-- THE EVENTS: whole, in order, few. An event's place is that of its record.

-- `next`, from a state on, answers 0 with each event of a list in turn, and then 0 with no event
pub data ReadToEnd (rd : Reading) (buf : List ℕ) : ParserState → List CommentItem → Type 0 where
  at_end_case : {st t : ParserState} → next_of rd buf st ≡ record { answer = bare 0; event = prelude.None; state = t } → ReadToEnd rd buf st []
  event :
      {st t : ParserState} {c : CommentItem} {es : List CommentItem} → next_of rd buf st ≡ record { answer = bare 0; event = prelude.Some c; state = t } →
      ReadToEnd rd buf t es → ReadToEnd rd buf st (c ∷ es)

-- places never fall along the list, from k on, and none lies past b
abbrev pub Rising : ℕ → ℕ → List CommentItem → Type 0
Rising b k [] = k ≤ b
Rising b k (c ∷ es) = (k ≤ (placed_of c).place) × Rising b (placed_of c).place es

-- at most two events for each of n bytes
abbrev pub Few : ℕ → List CommentItem → Type 0
Few n es = length es ≤ 2 * n

-- how many events have the place p
abbrev pub events_at : ℕ → List CommentItem → ℕ
events_at p [] = 0
events_at p (c ∷ es) = elim (eqb (placed_of c).place p) [ true ↦ suc (events_at p es) | false ↦ events_at p es ]

-- DEMAND 3, of a reading, a buffer, a span of it, and the events of that span.
pub record Demand3 (rd : Reading) (buf : List ℕ) (a b : ℕ) (es : List CommentItem) : Type 0 where
  -- "the events of demand 2 read from a fresh start to the end"
  pub read_to_end : ReadToEnd rd buf (fresh rd.name a b) es
  -- "each byte of the span lies in exactly one event's text, one event's mark, or one dropped blank"
  pub each_byte : (p : ℕ) → a ≤ p → p < b → ExactlyOne (Holds p) (pieces a b es)
  -- and no piece reaches out of the span
  pub in_span : All (Inside a b) (pieces a b es)
  -- each mark has its bytes, what is no event's text or mark is blank, "and blanks are dropped only at the places document 01 names"
  pub each_piece : All (Fits buf b) (pieces a b es)
  -- "Events come in order"
  pub in_order : Rising b a es
  -- "at most two for each byte": of the span's bytes together, and at each place
  pub at_most_two : Few (b - a) es
  pub two_at_a_place : (p : ℕ) → events_at p es ≤ 2

-- TWO COMMENTS, over the buffers s and t.

-- blanks dropped in math or after a tilde: the events do not say which they are
pub data Loose : What → Type 0 where
  loose_in_math : {prev next : Option CommentItem} → Loose (between true prev next)
  loose_after_tilde : Loose after_tilde

module _ (s t : List ℕ) where
  -- the same bytes in the text that an event reports, from the start to the end of its record
  abbrev pub SameText : CommentItem → Type 0
  SameText c = (p : ℕ) → (placed_of c).start ≤ p → p < (placed_of c).end → get_or s p 0 ≡ get_or t p 0

  -- at p the two agree, "save for which blank stands in math or after a tilde": there both have a blank
  pub data Agree (xs : List Piece) (p : ℕ) : Type 0 where
    same_byte : get_or s p 0 ≡ get_or t p 0 → Agree xs p
    both_blank : Some (λ x. Holds p x × Loose x.what) xs → is_blank (get_or s p 0) ≡ true → is_blank (get_or t p 0) ≡ true → Agree xs p

-- THE THEOREMS. The bound on the buffer is the one by which `next` refuses it (answer 1), and is needed for that alone: a longer buffer has no events
-- (proofs/Checks.antt, refused_has_none), and no other step of the proof looks at it.

-- "a span inside a buffer of at most 4,294,967,295 bytes"
pub record AcceptedSpan (buf : List ℕ) (a b : ℕ) : Type 0 where
  pub short : length buf ≤ longest
  pub ordered : a ≤ b
  pub fits : b ≤ length buf

abbrev pub EveryByteHasOneOwner : Type 0
EveryByteHasOneOwner = (rd : Reading) (buf : List ℕ) (a b : ℕ) → AcceptedSpan buf a b → Demand3 rd buf a b (events_of rd buf a b)

-- "So two comments over the same span with equal event lists and equal bytes in the reported texts agree at every byte of the span, save for .."
abbrev pub EqualEventsEqualBytes : Type 0
EqualEventsEqualBytes =
    (rd : Reading) (s t : List ℕ) (a b : ℕ) → AcceptedSpan s a b → AcceptedSpan t a b → events_of rd s a b ≡ events_of rd t a b →
    All (SameText s t) (events_of rd s a b) → (p : ℕ) → a ≤ p → p < b → Agree s t (pieces a b (events_of rd s a b)) p
