-- What each event gives (document 01, "Diagnostics").
use Rattle.std.specs.Prelude.{ℕ, zero, suc, ◌+◌, ◌-◌, Bool, false, cond, ◌||◌, List, [], ◌∷◌, ◌++◌, eqb}
use Rattle.look.specs.Look.{byte_at}
use Rattle.scans.specs.Marks.{tick, tilde}
use Rattle.unescape.specs.Unescape.{is_escape, unescaped, part}
use Rattle.unescape.specs.declared.Escape.TheVariants as escape
use Rattle.name_table.specs.Search.{Lookup, is_missing}
use Rattle.comment_parser.specs.declared.CommentItem.{CommentItem}
use Rattle.comment_parser.specs.declared.CommentItem.TheVariants.{Text, LineBreak, StartMathMode, EndMathMode, MathToken, Label, Url}
use Rattle.comment_parser.specs.declared.CommentItem.TheVariants.{StartHtml, EndHtml, StartSubscript, EndSubscript, StartItalic, EndItalic, BibTag}
use Rattle.verify_markup.specs.Diag.{when, space_before, space_after, undefined_token, empty_label, unknown_label, bib_escape, undefined_bib_tag}
use Rattle.verify_markup.specs.Texts.{written}

-- tags are looked up, or not looked up
pub data Tags : Type 0 where
  looked_up : Lookup → Tags
  not_looked_up : Tags

abbrev pub no_tag : Tags → List ℕ → Bool
no_tag (looked_up tag_entry) tag = is_missing (tag_entry tag)
no_tag not_looked_up tag = false

-- the lookups of tokens and labels, by their unescaped text, and whether tags are looked up
pub record Names : Type 0 where
  pub symbol : Lookup
  pub label : Lookup
  pub tags : Tags

module _ (buf : List ℕ) where
  -- 4 if it is no symbol
  unfoldable pub token_diags : Lookup → ℕ → ℕ → List (List ℕ)
  token_diags symbol a e = when (is_missing (symbol (unescaped (is_escape escape.Math) (part buf a e)))) (undefined_token a e)

  -- 1 for the byte before the tilde, 1 for the byte after, then 2 at each lone escape, 3
  unfoldable pub tilde_diags : ℕ → List (List ℕ)
  tilde_diags i = space_before buf i ++ space_after buf i

  unfoldable pub link_diags : ℕ → ℕ → ℕ → List (List ℕ)
  link_diags i a e = tilde_diags i ++ written buf escape.Label a e

  -- 5 if empty, else 6 if not found
  unfoldable pub name_diags : Lookup → ℕ → ℕ → ℕ → List (List ℕ)
  name_diags label i a e =
      cond (eqb a e) (empty_label i ∷ [])
      (when (is_missing (label (unescaped (is_escape escape.Label) (part buf a e)))) (unknown_label a e))

  unfoldable pub label_diags : Lookup → ℕ → ℕ → ℕ → List (List ℕ)
  label_diags label i a e = link_diags i a e ++ name_diags label i a e

  -- 7 at each backtick or `~` of the `left` bytes from i on of the tag from a to e
  unfoldable pub bib_escapes : ℕ → ℕ → ℕ → ℕ → List (List ℕ)
  bib_escapes a e zero i = []
  bib_escapes a e (suc left) i = when (byte_at buf i tick || byte_at buf i tilde) (bib_escape i a e) ++ bib_escapes a e left (i + 1)

  -- then 8; a tag is looked up as it stands
  unfoldable pub tag_diags : Tags → ℕ → ℕ → List (List ℕ)
  tag_diags tags a e = bib_escapes a e (e - a) a ++ when (no_tag tags (part buf a e)) (undefined_bib_tag a e)

  -- `html` says whether the event stands in HTML
  abbrev pub item_diags : Names → Bool → CommentItem → List (List ℕ)
  item_diags n html (Text s) = written buf (escape.Text html) s.start s.end
  item_diags n html (LineBreak i) = []
  item_diags n html (StartMathMode i) = space_after buf i
  item_diags n html (EndMathMode i) = space_before buf i
  item_diags n html (MathToken s) = token_diags n.symbol s.start s.end
  item_diags n html (Label i s) = label_diags n.label i s.start s.end
  item_diags n html (Url i s) = link_diags i s.start s.end
  item_diags n html (StartHtml i) = []
  item_diags n html (EndHtml i) = []
  item_diags n html (StartSubscript i) = []
  item_diags n html (EndSubscript i) = []
  item_diags n html (StartItalic i) = []
  item_diags n html (EndItalic i) = []
  item_diags n html (BibTag s) = tag_diags n.tags s.start s.end
