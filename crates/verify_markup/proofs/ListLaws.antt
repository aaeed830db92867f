-- Laws of the list along the events: the modes, the last diagnostics, and what holds along the loop that lays the list.
-- Assumes nothing.
use Prim.Native.Nat.{ℕ, ◌+◌, ◌-◌, ◌*◌, ◌≤◌}
use mathlib.Core.Path.{◌≡◌, refl}
use mathlib.Core.Bool.{Bool}
use mathlib.Core.List.{List, [], ◌∷◌, ◌++◌, append-nil}
use native.Mathlib.Omega.{arith}
use lib.ListN.{length}
use Rattle.std.specs.Prelude.{Option}
use Rattle.basics.specs.declared.Span.{Span}
use Rattle.records.specs.Answer.{longest}
use Rattle.records.specs.Records.{sum}
use Rattle.records.specs.declared.Wrote.{Wrote}
use Rattle.records.proofs.Laws.{Wide}
use Rattle.records.proofs.Laying.{Laying, tail, back, laying_starts, laying_wrote}
use Rattle.comment_parser.specs.Item.{placed_of}
use Rattle.comment_parser.specs.Bounds.{Within}
use Rattle.comment_parser.specs.Items.{Ordered}
use Rattle.comment_parser.specs.declared.CommentItem.{CommentItem}
use Rattle.comment_parser.specs.declared.CommentItem.TheVariants.{Text, LineBreak, StartMathMode, EndMathMode, MathToken, Label, Url, StartHtml, EndHtml, StartSubscript, EndSubscript, StartItalic, EndItalic, BibTag}
use Rattle.verify_markup.specs.Diag.{diag_width, unclosed_math_markup, unclosed_html}
use Rattle.verify_markup.specs.Items.{Names, item_diags}
use Rattle.verify_markup.specs.List.{is_open, closed, modes_after, unclosed, last_diags, diags_from}
use Rattle.verify_markup.specs.Bounds.{OpenedBy, LiesIn}
use Rattle.verify_markup.specs.Words.{Writes}
use Rattle.verify_markup.specs.declared.Modes.{Modes}
use Rattle.verify_markup.proofs.DiagLaws.{Few, few_append, few_of_some, writes_few, all_writes}
use Rattle.verify_markup.proofs.ItemLaws.{few_item}

-- ---- the events that give nothing, and those that keep the modes

-- none of the events that may give a diagnostic
pub record Silent (item : CommentItem) : Type 0 where
  pub no_text : (s : Span) → item ≡ Text s → ⊥
  pub no_start_math : (i : ℕ) → item ≡ StartMathMode i → ⊥
  pub no_end_math : (i : ℕ) → item ≡ EndMathMode i → ⊥
  pub no_token : (s : Span) → item ≡ MathToken s → ⊥
  pub no_label : (i : ℕ) (s : Span) → item ≡ Label i s → ⊥
  pub no_url : (i : ℕ) (s : Span) → item ≡ Url i s → ⊥
  pub no_tag : (s : Span) → item ≡ BibTag s → ⊥

-- none of the events that open or close a mode
pub record Keeping (item : CommentItem) : Type 0 where
  pub no_start_math : (i : ℕ) → item ≡ StartMathMode i → ⊥
  pub no_end_math : (i : ℕ) → item ≡ EndMathMode i → ⊥
  pub no_start_html : (i : ℕ) → item ≡ StartHtml i → ⊥
  pub no_end_html : (i : ℕ) → item ≡ EndHtml i → ⊥

pub item_silent : (buf : List ℕ) (n : Names) (html : Bool) (i : CommentItem) → Silent i → item_diags buf n html i ≡ []
item_silent buf n html (Text s) h = absurd (h.no_text s refl)
item_silent buf n html (LineBreak i) h = refl
item_silent buf n html (StartMathMode i) h = absurd (h.no_start_math i refl)
item_silent buf n html (EndMathMode i) h = absurd (h.no_end_math i refl)
item_silent buf n html (MathToken s) h = absurd (h.no_token s refl)
item_silent buf n html (Label i s) h = absurd (h.no_label i s refl)
item_silent buf n html (Url i s) h = absurd (h.no_url i s refl)
item_silent buf n html (StartHtml i) h = refl
item_silent buf n html (EndHtml i) h = refl
item_silent buf n html (StartSubscript i) h = refl
item_silent buf n html (EndSubscript i) h = refl
item_silent buf n html (StartItalic i) h = refl
item_silent buf n html (EndItalic i) h = refl
item_silent buf n html (BibTag s) h = absurd (h.no_tag s refl)

pub modes_kept : (m : Modes) (i : CommentItem) → Keeping i → m ≡ modes_after m i
modes_kept m (Text s) h = refl
modes_kept m (LineBreak i) h = refl
modes_kept m (StartMathMode i) h = absurd (h.no_start_math i refl)
modes_kept m (EndMathMode i) h = absurd (h.no_end_math i refl)
modes_kept m (MathToken s) h = refl
modes_kept m (Label i s) h = refl
modes_kept m (Url i s) h = refl
modes_kept m (StartHtml i) h = absurd (h.no_start_html i refl)
modes_kept m (EndHtml i) h = absurd (h.no_end_html i refl)
modes_kept m (StartSubscript i) h = refl
modes_kept m (EndSubscript i) h = refl
modes_kept m (StartItalic i) h = refl
modes_kept m (EndItalic i) h = refl
modes_kept m (BibTag s) h = refl

-- ---- the modes

abbrev pub OpenedBoth : (ℕ → Type 0) → Modes → Type 0
OpenedBoth P m = OpenedBy P m.math × OpenedBy P m.html

pub opened_after : (P : ℕ → Type 0) (m : Modes) (i : CommentItem) → P (placed_of i).place → OpenedBoth P m → OpenedBoth P (modes_after m i)
opened_after P m (Text s) h o = o
opened_after P m (LineBreak i) h o = o
opened_after P m (StartMathMode i) h o = (h, o.1)
opened_after P m (EndMathMode i) h o = (tt, o.1)
opened_after P m (MathToken s) h o = o
opened_after P m (Label i s) h o = o
opened_after P m (Url i s) h o = o
opened_after P m (StartHtml i) h o = (o.0, h)
opened_after P m (EndHtml i) h o = (o.0, tt)
opened_after P m (StartSubscript i) h o = o
opened_after P m (EndSubscript i) h o = o
opened_after P m (StartItalic i) h o = o
opened_after P m (EndItalic i) h o = o
opened_after P m (BibTag s) h o = o

pub few_unclosed : (made : ℕ → ℕ → List ℕ) (end : ℕ) → ((i e : ℕ) → length (made i e) ≡ diag_width) → (p : Option ℕ) → Few 1 (unclosed made end p)
few_unclosed made end wide = few_of_some (λ (i : ℕ). made i end) (λ i. wide i end)

pub few_unclosed_math : (end : ℕ) (p : Option ℕ) → Few 1 (unclosed unclosed_math_markup end p)
few_unclosed_math end = few_unclosed unclosed_math_markup end (λ i e. refl)

pub few_unclosed_html : (end : ℕ) (p : Option ℕ) → Few 1 (unclosed unclosed_html end p)
few_unclosed_html end = few_unclosed unclosed_html end (λ i e. refl)

pub few_last : (end : ℕ) (m : Modes) → Few 2 (last_diags end m)
unfolding last_diags
few_last end m = few_append (few_unclosed_math end m.math) (few_unclosed_html end m.html)

-- ---- the loop

-- at the loop's head, where all events that are left lie from `low` on: their diagnostics are to be laid behind those before, and the count fits
pub record Going (n : Names) (buf : List ℕ) (end : ℕ) (all : List (List ℕ)) (out₀ out : List ℕ) (is : List CommentItem) (m : Modes) (w : Wrote) : Type 0 where
  pub low : ℕ
  pub ordered : Ordered low end is
  pub opened : OpenedBoth (λ (i : ℕ). i ≤ longest) m
  pub few : w.count + 4 * length is + (end - low) ≤ 9 * longest
  pub laying : Laying diag_width all (diags_from buf end n m is) out₀ out w.words w.count

pub going_starts : (n : Names) (buf : List ℕ) (s : Span) (out : List ℕ) (is : List CommentItem) → s.end ≤ longest → LiesIn s is
    → Going n buf s.end (diags_from buf s.end n closed is) out out is closed (record { words = 0; count = 0 })
going_starts n buf s out is h l =
    record { low = s.start; ordered = l.ordered; opened = (tt, tt); few = omega (arith, l.few); laying = laying_starts diag_width (diags_from buf s.end n closed is) out }

module _ {n : Names} {buf : List ℕ} {end : ℕ} {all : List (List ℕ)} {out₀ out : List ℕ} {is : List CommentItem} {m : Modes} {w : Wrote} (short : length buf ≤ longest) (past : end ≤ length buf)
    (g : Going n buf end all out₀ out is m w) where
  module _ {i : CommentItem} {more : List CommentItem} (e : is ≡ i ∷ more) where
    ahead : Going n buf end all out₀ out (i ∷ more) m w
    ahead = rw e at g

    -- the next event lies within the buffer
    pub next_within : Within 0 (length buf) (placed_of i)
    next_within = let o = ahead.ordered.0 in record { above = omega arith; placed = o.placed; ordered = o.ordered; below = omega (arith, o.below) }

    -- a turn: an event's records were laid in the tail, and `last` is the tail since
    pub going_on : (html : Bool) → html ≡ is_open m.html
        → {v : Wrote} {last : List ℕ} → Writes (item_diags buf n html i) (tail w.words out) last v
        → (w.words + v.words ≤ length out) × Going n buf end all out₀ (back w.words out last) more (modes_after m i) (sum w v)
    unfolding diags_from
    going_on html same {v} {last} did =
        let item = few_item buf n html i in
        let o = ahead.ordered.0 in
        let count = writes_few item did in
        let rest = diags_from buf end n (modes_after m i) more in
        let to_come_lem : Laying diag_width all (item_diags buf n html i ++ rest) out₀ out w.words w.count = rw same ahead.laying in
        let lies = laying_wrote (item_diags buf n html i) rest last to_come_lem item.wide did.left v did.told in (
          lies.0,
          record {
            low = (placed_of i).end;
            ordered = ahead.ordered.1;
            opened = opened_after (λ (j : ℕ). j ≤ longest) m i (omega (arith, o.placed, o.ordered, o.below)) g.opened;
            few = omega (arith, ahead.few, count, o.above, o.placed, o.ordered, o.below);
            laying = lies.1;
          },
        )

  -- the end: the last diagnostics are to come
  pub going_ends : is ≡ [] → Laying diag_width all (last_diags end m) out₀ out w.words w.count
  unfolding diags_from
  going_ends e = rw e at g.laying

-- the last records were laid in the tail, and `last` is the tail since
pub last_writes : {all ws : List (List ℕ)} {out₀ out : List ℕ} {w r : Wrote} {m : ℕ} → Wide diag_width all → Laying diag_width all ws out₀ out w.words w.count → Few m ws
    → {v : Wrote} {last : List ℕ} → Writes ws (tail w.words out) last v → r ≡ sum w v → Writes all out₀ (back w.words out last) r
last_writes {all} {ws} {out₀} {out} {w} wide l f {v} {last} did is =
    let to_come_lem : Laying diag_width all (ws ++ []) out₀ out w.words w.count = rw (append-nil ws) l in
    rw is (all_writes wide (laying_wrote ws [] last to_come_lem f.wide did.left v did.told).1)
