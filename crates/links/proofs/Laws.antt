-- What an event gives, and the links along the events.
-- Assumes nothing.
use Prim.Native.Nat.{ℕ, ◌≤◌}
use mathlib.Core.Path.{◌≡◌, refl, ap}
use mathlib.Core.List.{List, [], ◌∷◌}
use mathlib.Core.Option.{none}
use native.Mathlib.Omega.{arith}
use lib.ListN.{length}
use Rattle.byte_rules.specs.Reading.{Reading, named}
use Rattle.byte_rules.specs.declared.reading.Reading.{Reading as Name}
use Rattle.records.specs.Records.{laid, used, wrote_of}
use Rattle.records.proofs.Laws.{Wide}
use Rattle.unescape.specs.Unescape.{part}
use Rattle.unescape.specs.declared.Escape.TheVariants as escape
use Rattle.name_table.specs.Table.{table_refusal}
use Rattle.name_table.specs.Spelling.{spelled}
use Rattle.name_table.specs.Search.{entry_of, searched}
use Rattle.std.specs.Prelude.{Option as Maybe, Some, None}
use Rattle.name_table.specs.declared.Spelling.TheVariants.{Escaped}
use Rattle.name_table.proofs.Laws.{searched_good}
use Rattle.comment_parser.specs.declared.CommentItem.{CommentItem}
use Rattle.comment_parser.specs.declared.CommentItem.TheVariants.{Text, LineBreak, StartMathMode, EndMathMode, MathToken, Label, Url, StartHtml, EndHtml, StartSubscript, EndSubscript, StartItalic, EndItalic, BibTag}
use Rattle.comment_parser.specs.State.{fresh}
use Rattle.comment_parser.specs.Events.{events_from}
use Rattle.comment_parser.specs.declared.ParserState.{ParserState}
use Rattle.comment_parser.proofs.Events.{events_start}
use Rattle.comment_parser.proofs.Giving.{Giving, gives_along}
use Rattle.comment_parser.proofs.ItemsLaid.{Gives}
use Rattle.basics.specs.declared.Span.{Span}
use Rattle.links.specs.Links.{link_width, name_of, link_to, label_links, item_links, links_from, links_of}

-- ---- what an event gives

module _ (buf bytes ends : List ℕ) where
  -- all events but Label give none
  pub item_silent : (i : CommentItem) → ((p : ℕ) (s : Span) → i ≡ Label p s → ⊥) → item_links buf bytes ends i ≡ []
  item_silent (Text s) h = refl
  item_silent (LineBreak i) h = refl
  item_silent (StartMathMode i) h = refl
  item_silent (EndMathMode i) h = refl
  item_silent (MathToken s) h = refl
  item_silent (Label i s) h = absurd (h i s refl)
  item_silent (Url i s) h = refl
  item_silent (StartHtml i) h = refl
  item_silent (EndHtml i) h = refl
  item_silent (StartSubscript i) h = refl
  item_silent (EndSubscript i) h = refl
  item_silent (StartItalic i) h = refl
  item_silent (EndItalic i) h = refl
  item_silent (BibTag s) h = refl

  -- so they write nothing
  pub silent_wrote : (i : CommentItem) (room : ℕ) → ((p : ℕ) (s : Span) → i ≡ Label p s → ⊥) → record { words = 0; count = 0 } ≡ wrote_of link_width (item_links buf bytes ends i) room
  unfolding used
  silent_wrote i room h = rw (item_silent i h)

  pub silent_left : (i : CommentItem) (room : List ℕ) → ((p : ℕ) (s : Span) → i ≡ Label p s → ⊥) → room ≡ laid link_width (item_links buf bytes ends i) room
  unfolding laid
  silent_left i room h = rw (item_silent i h)

  -- a label's link by what the search found, in a table that was checked
  module _ (a e : ℕ) (good : none ≡ table_refusal 1 bytes ends) where
    label_by : (k : Maybe ℕ) → k ≡ searched bytes ends (spelled (Escaped escape.Label) (part buf a e)) → label_links buf bytes ends a e ≡ link_to a e k
    unfolding label_links spelled
    label_by k is = rw (label_links, is, searched_good bytes ends 1 good (name_of buf a e))

    pub label_found : (k : ℕ) → Some k ≡ searched bytes ends (spelled (Escaped escape.Label) (part buf a e)) → label_links buf bytes ends a e ≡ (a ∷ e ∷ k ∷ []) ∷ []
    label_found k is = label_by (Some k) is

    pub label_missing : None ≡ searched bytes ends (spelled (Escaped escape.Label) (part buf a e)) → label_links buf bytes ends a e ≡ []
    label_missing is = label_by None is

  -- at most one record
  link_wide : (a e : ℕ) (k : Maybe ℕ) → Wide link_width (link_to a e k)
  link_wide a e (Some k) = (refl, tt)
  link_wide a e None = tt

  link_one : (a e : ℕ) (k : Maybe ℕ) → length (link_to a e k) ≤ 1
  link_one a e (Some k) = omega arith
  link_one a e None = omega arith

  -- what holds of a label's link, and of none, holds of what an event gives
  each_item : (P : List (List ℕ) → Type 0) → P [] → ((a e : ℕ) (k : Maybe ℕ) → P (link_to a e k)) → (i : CommentItem) → P (item_links buf bytes ends i)
  unfolding label_links
  each_item P p link (Text s) = p
  each_item P p link (LineBreak i) = p
  each_item P p link (StartMathMode i) = p
  each_item P p link (EndMathMode i) = p
  each_item P p link (MathToken s) = p
  each_item P p link (Label i s) = link s.start s.end (entry_of bytes ends (name_of buf s.start s.end))
  each_item P p link (Url i s) = p
  each_item P p link (StartHtml i) = p
  each_item P p link (EndHtml i) = p
  each_item P p link (StartSubscript i) = p
  each_item P p link (EndSubscript i) = p
  each_item P p link (StartItalic i) = p
  each_item P p link (EndItalic i) = p
  each_item P p link (BibTag s) = p

-- ---- along the events

-- each event gives its link, or none
pub links_give : (buf bytes ends : List ℕ) → Gives link_width (item_links buf bytes ends) (links_from buf bytes ends)
unfolding links_from
links_give buf bytes ends = record {
  wide = each_item buf bytes ends (Wide link_width) tt (link_wide buf bytes ends);
  one = each_item buf bytes ends (λ ws. length ws ≤ 1) (omega arith) (link_one buf bytes ends);
  on = λ i is. refl;
  over = refl;
}

module _ (rd : Reading) (buf bytes ends : List ℕ) where
  -- the links from a state on
  abbrev pub links_on : ParserState → List (List ℕ)
  links_on st = links_from buf bytes ends (events_from rd buf st)

  pub links_given : Giving rd link_width buf (item_links buf bytes ends) links_on
  links_given = gives_along rd buf (links_give buf bytes ends)

-- the links of a span are those from a fresh start on
pub links_start : (name : Name) (buf bytes ends : List ℕ) (start end : ℕ) → links_on (named name) buf bytes ends (fresh name start end) ≡ links_of (named name) buf bytes ends start end
unfolding links_of
links_start name buf bytes ends start end = ap (links_from buf bytes ends) (events_start name buf start end)
