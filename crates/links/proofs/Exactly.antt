-- Which records are listed: a record (a, e, k) exactly if a Label event with that span is in the event list and entry k is its unescaped text.
-- Assumes nothing.
use Prim.Native.Nat.{ℕ}
use mathlib.Core.Path.{◌≡◌, refl}
use mathlib.Core.List.Memᴰ
use mathlib.Core.List.{List, [], ◌∷◌}
use mathlib.Core.Logic.{◌⊎◌, inl, inr}
use lib.ListN.{length}
use Rattle.basics.specs.Member.{In}
use Rattle.basics.proofs.Laws.{both_none}
use Rattle.records.specs.Answer.{span_refusal}
use Rattle.name_table.specs.Table.{table_refusal}
use Rattle.name_table.specs.Search.{entry_of}
use Rattle.std.specs.Prelude.{Option as Maybe, Some, None}
use Rattle.name_table.proofs.Laws.{entry_found, entry_is}
use Rattle.comment_parser.specs.Item.{span}
use Rattle.comment_parser.specs.Events.{events_of}
use Rattle.comment_parser.specs.declared.CommentItem.{CommentItem}
use Rattle.comment_parser.specs.declared.CommentItem.TheVariants.{Text, LineBreak, StartMathMode, EndMathMode, MathToken, Label, Url, StartHtml, EndHtml, StartSubscript, EndSubscript, StartItalic, EndItalic, BibTag}
use Rattle.links.specs.Links.{name_of, link_to, label_links, item_links, links_from, links_of, links_refusal}
use Rattle.links.specs.Exactly.{ListedExactly}

module _ (buf bytes ends : List ℕ) (a e k : ℕ) where
  -- the label's name has the record's entry
  abbrev HasEntry : Type 0
  HasEntry = entry_of bytes ends (name_of buf a e) ≡ Some k

  -- ---- from a record to its Label

  -- the event is a Label with the record's span
  abbrev HasSpan : CommentItem → Type 0
  HasSpan i = (tilde : ℕ) × (Label tilde (span a e) ≡ i)

  from_link : (t b d : ℕ) (x : Maybe ℕ) → entry_of bytes ends (name_of buf b d) ≡ x → In (a ∷ e ∷ k ∷ []) (link_to b d x) → HasSpan (Label t (span b d)) × HasEntry
  from_link t b d (Some m) q h =
      let same = Memᴰ.eq_of_singleton h in
      let same_a : a ≡ b = cc in
      let same_e : e ≡ d = cc in
      let same_k : k ≡ m = cc in
      ((t, rw (same_a, same_e)), rw (same_a, same_e, same_k) q)
  from_link t b d None q h = absurd (Memᴰ.not-nil h)

  from_item : (i : CommentItem) → In (a ∷ e ∷ k ∷ []) (item_links buf bytes ends i) → HasSpan i × HasEntry
  unfolding label_links
  from_item (Text s) h = absurd (Memᴰ.not-nil h)
  from_item (LineBreak i) h = absurd (Memᴰ.not-nil h)
  from_item (StartMathMode i) h = absurd (Memᴰ.not-nil h)
  from_item (EndMathMode i) h = absurd (Memᴰ.not-nil h)
  from_item (MathToken s) h = absurd (Memᴰ.not-nil h)
  from_item (Label i s) h = from_link i s.start s.end (entry_of bytes ends (name_of buf s.start s.end)) refl h
  from_item (Url i s) h = absurd (Memᴰ.not-nil h)
  from_item (StartHtml i) h = absurd (Memᴰ.not-nil h)
  from_item (EndHtml i) h = absurd (Memᴰ.not-nil h)
  from_item (StartSubscript i) h = absurd (Memᴰ.not-nil h)
  from_item (EndSubscript i) h = absurd (Memᴰ.not-nil h)
  from_item (StartItalic i) h = absurd (Memᴰ.not-nil h)
  from_item (EndItalic i) h = absurd (Memᴰ.not-nil h)
  from_item (BibTag s) h = absurd (Memᴰ.not-nil h)

  from_links : (is : List CommentItem) → In (a ∷ e ∷ k ∷ []) (links_from buf bytes ends is) → ((tilde : ℕ) × In (Label tilde (span a e)) is) × HasEntry
  unfolding links_from
  from_links [] h = absurd (Memᴰ.not-nil h)
  from_links (i ∷ is) h = go (Memᴰ.append_cases (item_links buf bytes ends i) h) (from_links is)
    where
      go : In (a ∷ e ∷ k ∷ []) (item_links buf bytes ends i) ⊎ In (a ∷ e ∷ k ∷ []) (links_from buf bytes ends is)
          → (In (a ∷ e ∷ k ∷ []) (links_from buf bytes ends is) → ((tilde : ℕ) × In (Label tilde (span a e)) is) × HasEntry)
          → ((tilde : ℕ) × In (Label tilde (span a e)) (i ∷ is)) × HasEntry
      go (inl m) rest = let f = from_item i m in ((f.0.0, Memᴰ.head f.0.1), f.1)
      go (inr m) rest = let f = rest m in ((f.0.0, Memᴰ.tail f.0.1), f.1)

  -- ---- and back

  to_links : HasEntry → (tilde : ℕ) (is : List CommentItem) → In (Label tilde (span a e)) is → In (a ∷ e ∷ k ∷ []) (links_from buf bytes ends is)
  unfolding links_from label_links
  to_links q tilde [] x = elim x [ ]
  to_links q tilde (i ∷ is) (Memᴰ.head h) = Memᴰ.append_left {s = item_links buf bytes ends i} (links_from buf bytes ends is) (rw (← h, q) (Memᴰ.head refl))
  to_links q tilde (i ∷ is) (Memᴰ.tail m) = Memᴰ.append_right (item_links buf bytes ends i) (to_links q tilde is m)

pub listed_exactly : ListedExactly
unfolding links_of links_refusal
listed_exactly rd buf bytes ends start end good a e k = record {
  only_when = λ listed.
      let f = from_links buf bytes ends a e k (events_of rd buf start end) listed in
      let entry = entry_found bytes ends (name_of buf a e) k f.1 in
      record { tilde = f.0.0; label = f.0.1; entry = entry.0; named = entry.1 };
  whenever = λ linked.
      let table = both_none (span_refusal (length buf) start end) (table_refusal 1 bytes ends) good in
      let entry = entry_is bytes ends 1 table.1 (name_of buf a e) k linked.entry linked.named in
      to_links buf bytes ends a e k entry linked.tilde (events_of rd buf start end) linked.label;
}
