-- Records that are few, each of the width of a diagnostic; and the neighbours of a mark.
-- Assumes nothing.
use Prim.Native.Nat.{ℕ, zero, suc, ◌+◌, ◌-◌, ◌^◌, ◌≤◌, ◌<◌}
use mathlib.Core.Path.{◌≡◌, refl, sym, ap, ◌∙◌}
use Rattle.std.specs.Prelude.{Option, Some, None, MatchOption, IsSomeAnd}
use mathlib.Core.Bool.{Bool, true, false, not}
use mathlib.Core.List.{List, [], ◌∷◌, ◌++◌}
use native.Mathlib.Omega.{arith}
use lib.ListN.{length, get_or, length-append}
use Rattle.byte_rules.specs.Classes.{is_blank}
use Rattle.look.proofs.Laws.{holds_in, holds_past}
use Rattle.records.specs.Records.{laid, used, wrote_of, sum}
use Rattle.records.specs.declared.Wrote.{Wrote}
use Rattle.records.proofs.Laws.{Wide, laid_long}
use Rattle.records.proofs.Laying.{Laying, tail, back, laying_wrote, all_wrote, all_laid}
use Rattle.records.proofs.Both.{both_wrote, both_laid}
use Rattle.verify_markup.specs.Words.{words_of, words_if, Writes}
use Rattle.verify_markup.specs.declared.diagnostic.Diagnostic.{Diagnostic}
use Rattle.verify_markup.specs.declared.diagnostic.Diagnostic.TheVariants.{MarkupNeedsWhitespace, UninterpretedEscape, UninterpretedHtml, UndefinedToken, EmptyLabel, UnknownLabel, BibEscape, UndefinedBibTag, UnclosedMathMarkup, UnclosedHtml}
use Rattle.verify_markup.specs.Diag.{diag_width, of_some, when, is_nonblank, nonblank_at, nonblank_before}

-- at most m records of diagnostics
pub record Few (m : ℕ) (ws : List (List ℕ)) : Type 0 where
  pub wide : Wide diag_width ws
  pub few : length ws ≤ m

pub wide_append : (ws vs : List (List ℕ)) → Wide diag_width ws → Wide diag_width vs → Wide diag_width (ws ++ vs)
wide_append [] vs p q = q
wide_append (w ∷ ws) vs p q = (p.0, wide_append ws vs p.1 q)

pub few_append : {m n : ℕ} {ws vs : List (List ℕ)} → Few m ws → Few n vs → Few (m + n) (ws ++ vs)
few_append {m} {n} {ws} {vs} p q = record { wide = wide_append ws vs p.wide q.wide; few = rw length-append (omega (arith, p.few, q.few)) }

pub few_more : {m n : ℕ} {ws : List (List ℕ)} → m ≤ n → Few m ws → Few n ws
few_more h p = record { wide = p.wide; few = omega (arith, p.few) }

pub few_none : (m : ℕ) → Few m []
few_none m = record { wide = tt; few = omega arith }

-- a record if a test holds
pub few_when : (t : Bool) (w : List ℕ) → length w ≡ diag_width → Few 1 (when t w)
few_when true w wide = record { wide = (wide, tt); few = omega arith }
few_when false w wide = few_none 1

-- the record of a diagnostic
wide_words : (d : Diagnostic) → length (words_of d) ≡ diag_width
wide_words (MarkupNeedsWhitespace mark) = refl
wide_words (UninterpretedEscape byte) = refl
wide_words (UninterpretedHtml s) = refl
wide_words (UndefinedToken s) = refl
wide_words (EmptyLabel tilde) = refl
wide_words (UnknownLabel s) = refl
wide_words (BibEscape byte s) = refl
wide_words (UndefinedBibTag s) = refl
wide_words (UnclosedMathMarkup opening end) = refl
wide_words (UnclosedHtml opening end) = refl

-- a record of what is there, if it is
pub few_of_some : {A : Type 0} (made : A → List ℕ) → ((x : A) → length (made x) ≡ diag_width) → (o : Option A) → Few 1 (of_some made o)
few_of_some made wide (Some x) = few_when true (made x) (wide x)
few_of_some made wide None = few_none 1

module _ (buf : List ℕ) (i : ℕ) where
  pub nonblank_in : i < length buf → not (is_blank (get_or buf i 0)) ≡ nonblank_at buf i
  unfolding nonblank_at is_nonblank
  nonblank_in h = sym (holds_in is_nonblank buf i h)

  pub nonblank_past : length buf ≤ i → false ≡ nonblank_at buf i
  unfolding nonblank_at
  nonblank_past h = sym (holds_past is_nonblank buf i h)

  pub before_start : i ≡ 0 → false ≡ nonblank_before buf i
  unfolding nonblank_before
  before_start e = rw e

pub before_is : (buf : List ℕ) (i : ℕ) → (i ≡ 0 → ⊥) → nonblank_at buf (i - 1) ≡ nonblank_before buf i
unfolding nonblank_before
before_is buf zero h = absurd (h refl)
before_is buf (suc i) h = let e : suc i - 1 ≡ i = omega arith in rw e

-- ---- writers

-- a writer of records that have the width of a diagnostic, by what it answered and left
pub writes_by : {ws : List (List ℕ)} {room out : List ℕ} {w : Wrote} → Wide diag_width ws → w ≡ wrote_of diag_width ws (length room) → out ≡ laid diag_width ws room → Writes ws room out w
writes_by {ws} {room} wide told left =
    let l = laid_long diag_width ws room wide in
    record { told = told; left = left; long = ap length left ∙ l.0; inside = omega (arith, l, ap (λ (x : Wrote). x.words) told, ap length left) }

-- of no records
pub writes_none : (room : List ℕ) → Writes [] room room (record { words = 0; count = 0 })
unfolding laid used
writes_none room = writes_by tt refl refl

-- of one record, or of none, by a test
pub writes_when : {t : Bool} (w room : List ℕ) → t ≡ false → Writes (when t w) room room (record { words = 0; count = 0 })
writes_when w room e = rw e (writes_none room)

pub writes_one : (d : Diagnostic) (ws room : List ℕ) {out : List ℕ} {w : Wrote} → ws ≡ words_of d → w ≡ wrote_of (length ws) (ws ∷ []) (length room) → out ≡ laid (length ws) (ws ∷ []) room
    → Writes (words_of d ∷ []) room out w
writes_one d ws room e told left = writes_by (wide_words d, tt) (rw (e, wide_words d) at told) (rw (e, wide_words d) at left)

pub writes_few : {m : ℕ} {ws : List (List ℕ)} {room out : List ℕ} {w : Wrote} → Few m ws → Writes ws room out w → w.count ≤ m
writes_few p did = omega (arith, p.few, ap (λ (x : Wrote). x.count) did.told)

-- of a diagnostic that was made of what is there
pub words_mapped : {A : Type 0} {R : A → Diagnostic → Type 0} (made : A → List ℕ) (o : Option A) (d : Option Diagnostic) → MatchOption o (d ≡ None) (λ x. IsSomeAnd d (R x))
    → ((x : A) (y : Diagnostic) → R x y → words_of y ≡ made x) → words_if d ≡ of_some made o
words_mapped made (Some x) (Some y) h f = ap (λ (w : List ℕ). w ∷ []) (f x y h)
words_mapped made (Some x) None h f = absurd h
words_mapped made None d h f = rw h

-- two writers, the second lent the tail behind what the first wrote
module _ {m n : ℕ} {ws vs : List (List ℕ)} (p : Few m ws) (q : Few n vs) {room mid last : List ℕ} {a b : Wrote}
    (first : Writes ws room mid a) (second : Writes vs (tail a.words mid) last b) where
  pair_writes : Writes (ws ++ vs) room (back a.words mid last) (sum a b)
  pair_writes =
      writes_by (few_append p q).wide (both_wrote diag_width ws vs room mid last p.wide a b first.told first.left second.told second.left)
      (both_laid diag_width ws vs room mid last p.wide a b first.told first.left second.told second.left)

  pair_fits : length room < 2 ^ 63 → m + n < 2 ^ 63 → (a.words + b.words < 2 ^ 64) × (a.count + b.count < 2 ^ 64)
  pair_fits long few = (omega (arith, pair_writes.inside, pair_writes.long), omega (arith, writes_few p first, writes_few q second))

  -- their sum, by what `then` tells of it
  pub pair_told : length room < 2 ^ 63 → m + n < 2 ^ 63 → {r : Wrote} → ((a.words + b.words < 2 ^ 64) × (a.count + b.count < 2 ^ 64) → r ≡ sum a b)
      → Writes (ws ++ vs) room (back a.words mid last) r
  pair_told long few told = rw (told (pair_fits long few)) pair_writes

-- a turn of a loop that lays a record if a test holds: w before it, v of the record, and r after it
module _ {all rest : List (List ℕ)} {out₀ out : List ℕ} {w v : Wrote} (t t' : Bool) (same : t ≡ t') (one : List ℕ) (wide : length one ≡ diag_width)
    (l : Laying diag_width all (when t' one ++ rest) out₀ out w.words w.count) {last : List ℕ} (did : Writes (when t one) (tail w.words out) last v) where
  turned : (w.words + v.words ≤ length out) × Laying diag_width all rest out₀ (back w.words out last) (w.words + v.words) (w.count + v.count)
  turned =
      let to_come_lem : Laying diag_width all (when t one ++ rest) out₀ out w.words w.count = rw same l in
      laying_wrote (when t one) rest last to_come_lem (few_when t one wide).wide did.left v did.told

  -- the sum fits, so that one record more is counted at most
  pub turn_laid : length out₀ < 2 ^ 63 → w.count < 2 ^ 63 → {r : Wrote} → ((w.words + v.words < 2 ^ 64) × (w.count + v.count < 2 ^ 64) → r ≡ sum w v)
      → (r.count ≤ w.count + 1) × Laying diag_width all rest out₀ (back w.words out last) r.words r.count
  turn_laid long few {r} is =
      let one_more = writes_few (few_when t one wide) did in
      let both = is (omega (arith, turned.0, l.long), omega (arith, one_more)) in
      (omega (arith, one_more, ap (λ (x : Wrote). x.count) both), rw both turned.1)

-- at its end nothing is to come
pub all_writes : {all : List (List ℕ)} {out₀ out : List ℕ} {w : Wrote} → Wide diag_width all → Laying diag_width all [] out₀ out w.words w.count → Writes all out₀ out w
all_writes wide l = writes_by wide (all_wrote l) (all_laid l)
