-- The grammar an event at a time, as a reading makes it: where an event may stand, and where the next one stands. From it what
-- specs/Strict.antt says of a list is read off.
-- Assumes nothing.
use Prim.Native.Nat.{ℕ, ◌+◌}
use mathlib.Core.List.{List, [], ◌∷◌, ◌++◌, append_assoc, append-nil}
use mathlib.Core.Path.{◌≡◌, refl}
use Rattle.basics.proofs.Laws.{differ}
use Rattle.comment_parser.specs.Item.{span}
use Rattle.basics.specs.declared.Span.{Span}
use Rattle.comment_parser.specs.declared.CommentItem.{CommentItem}
use Rattle.comment_parser.specs.declared.CommentItem.TheVariants.{Text, StartMathMode, EndMathMode, MathToken, StartSubscript, EndSubscript, StartItalic, EndItalic}
use Rattle.strict.specs.Strict as spec
use Rattle.strict.specs.Strict.{Alone, Inside, WellFormed, OneTextAndEnd, UntilEndItalic, UntilEndMath, StartAndOneText, SinceStartItalic, SinceStartMath, MarksPair}

-- where an event may stand: besides the three, behind the StartSubscript at p, and behind the text of a subscript that ends at q
pub data Mode : Type 0 where
  outside : Mode
  in_italic : Mode
  in_math_case : Mode
  behind_start : ℕ → Mode
  behind_text : ℕ → Mode

-- an event that may stand at a place, and the place behind it
pub data Goes : Mode → CommentItem → Mode → Type 0 where
  alone : {c : CommentItem} → Alone c → Goes outside c outside
  start_subscript : {p : ℕ} → Goes outside (StartSubscript p) (behind_start p)
  subscript_text : {p q : ℕ} → Goes (behind_start p) (Text (span (p + 1) q)) (behind_text q)
  end_subscript : {q : ℕ} → Goes (behind_text q) (EndSubscript q) outside
  start_italic : {p : ℕ} → Goes outside (StartItalic p) in_italic
  inside : {c : CommentItem} → Inside c → Goes in_italic c in_italic
  end_italic : {p : ℕ} → Goes in_italic (EndItalic p) outside
  start_math : {p : ℕ} → Goes outside (StartMathMode p) in_math_case
  token : {x : Span} → Goes in_math_case (MathToken x) in_math_case
  end_math : {p : ℕ} → Goes in_math_case (EndMathMode p) outside

-- where a list may end
pub data Final : Mode → Type 0 where
  final_outside : Final outside
  final_math : Final in_math_case

pub data Told : Mode → List CommentItem → Type 0 where
  end : {m : Mode} → Final m → Told m []
  event : {m n : Mode} {c : CommentItem} {es : List CommentItem} → Goes m c n → Told n es → Told m (c ∷ es)

-- the grammar
abbrev Formed : Mode → List CommentItem → Type 0
Formed outside es = WellFormed spec.outside es
Formed in_italic es = WellFormed spec.in_italic es
Formed in_math_case es = WellFormed spec.in_math_case es
Formed (behind_start p) es = WellFormed spec.outside (StartSubscript p ∷ es)
Formed (behind_text q) es = (p : ℕ) → WellFormed spec.outside (StartSubscript p ∷ Text (span (p + 1) q) ∷ es)

ended : {m : Mode} → Final m → Formed m []
ended final_outside = spec.the_end
ended final_math = spec.ends_in_math

joined : {m n : Mode} {c : CommentItem} (es : List CommentItem) → Goes m c n → Formed n es → Formed m (c ∷ es)
joined es (alone a) w = spec.alone a w
joined es start_subscript w = w
joined es (subscript_text {p = p}) w = w p
joined es end_subscript w = λ p. spec.subscript w
joined es start_italic w = spec.start_italic w
joined es (inside a) w = spec.inside a w
joined es end_italic w = spec.end_italic w
joined es start_math w = spec.start_math w
joined es token w = spec.token w
joined es end_math w = spec.end_math w

pub formed : {m : Mode} {es : List CommentItem} → Told m es → Formed m es
formed (end f) = ended f
formed (event {es = es} g t) = joined es g (formed t)

-- WHAT STANDS AROUND AN EVENT

until_italic : {es : List CommentItem} → WellFormed spec.in_italic es → UntilEndItalic es
until_italic (spec.inside a w) = UntilEndItalic.only_inside a (until_italic w)
until_italic (spec.end_italic w) = UntilEndItalic.until_end_italic

until_math : {es : List CommentItem} → WellFormed spec.in_math_case es → UntilEndMath es
until_math (spec.token w) = UntilEndMath.only_token (until_math w)
until_math (spec.end_math w) = UntilEndMath.until_end_math
until_math spec.ends_in_math = UntilEndMath.until_the_end

-- behind a StartSubscript
after_start : {p : ℕ} {es : List CommentItem} → Told (behind_start p) es → OneTextAndEnd p es
after_start (event subscript_text (event end_subscript t)) = spec.one_text_and_end
after_start {p = p} (end x3) = elim x3 [ ]
after_start {p = p} (event (subscript_text {q = q}) (end x15)) = elim x15 [ ]

-- the events before a place of the grammar
pub record EndsWithStart (p : ℕ) (bs : List CommentItem) : Type 0 where
  pub front : List CommentItem
  pub is : bs ≡ front ++ StartSubscript p ∷ []

abbrev Came : Mode → List CommentItem → Type 0
Came outside bs = Unit {0}
Came in_italic bs = SinceStartItalic bs
Came in_math_case bs = SinceStartMath bs
Came (behind_start p) bs = EndsWithStart p bs
Came (behind_text q) bs = StartAndOneText q bs

came : {m n : Mode} {c : CommentItem} (bs : List CommentItem) → Goes m c n → Came m bs → Came n (bs ++ c ∷ [])
came bs (alone a) k = tt
came bs start_subscript k = record { front = bs; is = refl }
came bs (subscript_text {p = p} {q = q}) k = rw (k.is, append_assoc) (spec.start_and_one_text k.front p)
came bs end_subscript k = tt
came bs (start_italic {p = p}) k = SinceStartItalic.since_start_italic bs p
came bs (inside {c = c} a) k = SinceStartItalic.only_inside bs c a k
came bs end_italic k = tt
came bs (start_math {p = p}) k = SinceStartMath.since_start_math bs p
came bs (token {x = x}) k = SinceStartMath.only_token bs x k
came bs end_math k = tt

-- an event of a list, with what comes before it and behind it
pub data Around (before : List CommentItem) (c : CommentItem) (after : List CommentItem) : Type 0 where
  around : {m n : Mode} → Came m before → Goes m c n → Told n after → Around before c after

none_in : (xs : List CommentItem) (c : CommentItem) (ys : List CommentItem) → [] ≡ xs ++ c ∷ ys → ⊥
none_in [] c ys e = differ cc
none_in (x ∷ xs) c ys e = differ cc

around_from : {m : Mode} {es : List CommentItem} → Told m es → (bs : List CommentItem) → Came m bs → (xs : List CommentItem) (c : CommentItem) (ys : List CommentItem) → es ≡ xs ++ c ∷ ys → Around (bs ++ xs) c ys
around_from (end f) bs k xs c ys e = absurd (none_in xs c ys e)
around_from (event {c = d} {es = es} g t) bs k [] c ys e =
    let x : d ≡ c = cc in
    let y : es ≡ ys = cc in
    rw (append-nil bs, ← x, ← y) (around k g t)
around_from (event {c = d} {es = es} g t) bs k (x ∷ xs) c ys e =
    let u : d ≡ x = cc in
    let v : es ≡ xs ++ c ∷ ys = cc in
    let r : Around ((bs ++ d ∷ []) ++ xs) c ys = around_from t (bs ++ d ∷ []) (came bs g k) xs c ys v in
    rw (← u) (rw append_assoc at r)

-- read off
starts_subscript : {bs ys : List CommentItem} {p : ℕ} → Around bs (StartSubscript p) ys → OneTextAndEnd p ys
starts_subscript (around k start_subscript t) = after_start t
starts_subscript {bs = bs} {ys = ys} {p = p} (around k (alone x5) t) = elim x5 [ ]
starts_subscript {bs = bs} {ys = ys} {p = p} (around k (inside x6) t) = elim x6 [ ]

ends_subscript : {bs ys : List CommentItem} {q : ℕ} → Around bs (EndSubscript q) ys → StartAndOneText q bs
ends_subscript (around k end_subscript t) = k
ends_subscript {bs = bs} {ys = ys} {q = q} (around k (alone x5) t) = elim x5 [ ]
ends_subscript {bs = bs} {ys = ys} {q = q} (around k (inside x6) t) = elim x6 [ ]

starts_italic : {bs ys : List CommentItem} {p : ℕ} → Around bs (StartItalic p) ys → UntilEndItalic ys
starts_italic (around k start_italic t) = until_italic (formed t)
starts_italic {bs = bs} {ys = ys} {p = p} (around k (alone x5) t) = elim x5 [ ]
starts_italic {bs = bs} {ys = ys} {p = p} (around k (inside x6) t) = elim x6 [ ]

ends_italic : {bs ys : List CommentItem} {q : ℕ} → Around bs (EndItalic q) ys → SinceStartItalic bs
ends_italic (around k end_italic t) = k
ends_italic {bs = bs} {ys = ys} {q = q} (around k (alone x5) t) = elim x5 [ ]
ends_italic {bs = bs} {ys = ys} {q = q} (around k (inside x6) t) = elim x6 [ ]

starts_math : {bs ys : List CommentItem} {p : ℕ} → Around bs (StartMathMode p) ys → UntilEndMath ys
starts_math (around k start_math t) = until_math (formed t)
starts_math {bs = bs} {ys = ys} {p = p} (around k (alone x5) t) = elim x5 [ ]
starts_math {bs = bs} {ys = ys} {p = p} (around k (inside x6) t) = elim x6 [ ]

in_tokens : {bs ys : List CommentItem} {x : Span} → Around bs (MathToken x) ys → SinceStartMath bs
in_tokens (around k token t) = k
in_tokens {bs = bs} {ys = ys} (around k (alone x6) t) = elim x6 [ ]
in_tokens {bs = bs} {ys = ys} (around k (inside x7) t) = elim x7 [ ]

ends_math : {bs ys : List CommentItem} {q : ℕ} → Around bs (EndMathMode q) ys → SinceStartMath bs
ends_math (around k end_math t) = k
ends_math {bs = bs} {ys = ys} {q = q} (around k (alone x5) t) = elim x5 [ ]
ends_math {bs = bs} {ys = ys} {q = q} (around k (inside x6) t) = elim x6 [ ]

pub marks_pair : {es : List CommentItem} → Told outside es → MarksPair es
marks_pair {es} t =
    record {
      well_formed = formed t;
      subscript_starts = λ bs ys p e. starts_subscript (around_from t [] tt bs (StartSubscript p) ys e);
      subscript_ends = λ bs ys q e. ends_subscript (around_from t [] tt bs (EndSubscript q) ys e);
      italic_starts = λ bs ys p e. starts_italic (around_from t [] tt bs (StartItalic p) ys e);
      italic_ends = λ bs ys q e. ends_italic (around_from t [] tt bs (EndItalic q) ys e);
      math_starts = λ bs ys p e. starts_math (around_from t [] tt bs (StartMathMode p) ys e);
      math_tokens = λ bs ys x e. in_tokens (around_from t [] tt bs (MathToken x) ys e);
      math_ends = λ bs ys q e. ends_math (around_from t [] tt bs (EndMathMode q) ys e);
    }
