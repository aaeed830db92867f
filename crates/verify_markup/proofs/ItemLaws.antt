-- Laws of what an event gives: how many records it is at most, and the escapes of a tag, place by place.
-- Assumes nothing.
use Prim.Native.Nat.{ℕ, zero, suc, ◌+◌, ◌-◌, ◌≤◌, ◌<◌}
use mathlib.Core.Path.{◌≡◌, refl}
use mathlib.Core.Bool.{Bool, true, false, ◌||◌}
use mathlib.Core.List.{List, [], ◌++◌}
use native.Mathlib.Omega.{arith}
use lib.Dec.{eqb}
use Rattle.look.specs.Look.{byte_at}
use Rattle.scans.specs.Marks.{tick, tilde}
use Rattle.unescape.specs.Unescape.{is_escape, unescaped, part}
use Rattle.unescape.specs.declared.Escape.TheVariants as escape
use Rattle.name_table.specs.Search.{Lookup, is_missing}
use Rattle.comment_parser.specs.Item.{placed_of}
use Rattle.comment_parser.specs.declared.CommentItem.{CommentItem}
use Rattle.comment_parser.specs.declared.CommentItem.TheVariants.{Text, LineBreak, StartMathMode, EndMathMode, MathToken, Label, Url, StartHtml, EndHtml, StartSubscript, EndSubscript, StartItalic, EndItalic, BibTag}
use Rattle.verify_markup.specs.Diag.{when, nonblank_at, nonblank_before, space_before, space_after, bib_escape}
use Rattle.verify_markup.specs.Items.{Tags, Names, no_tag, token_diags, tilde_diags, link_diags, name_diags, label_diags, bib_escapes, tag_diags, item_diags}
use Rattle.verify_markup.proofs.DiagLaws.{Few, few_append, few_more, few_none, few_when}
use Rattle.verify_markup.proofs.TextLaws.{few_written}

module _ (buf : List ℕ) where
  module _ (a e : ℕ) where
    pub escapes_on : (i : ℕ) → i < e → bib_escapes buf a e (e - i) i ≡ when (byte_at buf i tick || byte_at buf i tilde) (bib_escape i a e) ++ bib_escapes buf a e (e - (i + 1)) (i + 1)
    unfolding bib_escapes
    escapes_on i h = let some : e - i ≡ suc (e - (i + 1)) = omega arith in rw some

    pub escapes_end : (i : ℕ) → e ≤ i → bib_escapes buf a e (e - i) i ≡ []
    unfolding bib_escapes
    escapes_end i h = let none : e - i ≡ 0 = omega arith in rw none

    pub few_escapes : (left i : ℕ) → Few left (bib_escapes buf a e left i)
    unfolding bib_escapes
    few_escapes zero i = few_none 0
    few_escapes (suc left) i = few_more (omega arith) (few_append (few_when (byte_at buf i tick || byte_at buf i tilde) _ refl) (few_escapes left (i + 1)))

    pub few_tag : (tags : Tags) → Few (e - a + 1) (tag_diags buf tags a e)
    unfolding tag_diags
    few_tag tags = few_append (few_escapes (e - a) a) (few_when (no_tag tags (part buf a e)) _ refl)

    pub few_token : (symbol : Lookup) → Few 1 (token_diags buf symbol a e)
    unfolding token_diags
    few_token symbol = few_when (is_missing (symbol (unescaped (is_escape escape.Math) (part buf a e)))) _ refl

    pub few_name : (label : Lookup) (i : ℕ) → Few 1 (name_diags buf label i a e)
    unfolding name_diags
    few_name label i = go (eqb a e) refl
      where
        go : (b : Bool) → eqb a e ≡ b → Few 1 (name_diags buf label i a e)
        go true x = rw (name_diags, x) (few_when true _ refl)
        go false x = rw (name_diags, x) (few_when (is_missing (label (unescaped (is_escape escape.Label) (part buf a e)))) _ refl)

  module _ (i : ℕ) where
    pub few_before : Few 1 (space_before buf i)
    few_before = few_when (nonblank_before buf i) _ refl

    pub few_after : Few 1 (space_after buf i)
    few_after = few_when (nonblank_at buf (i + 1)) _ refl

    pub few_tilde : Few 2 (tilde_diags buf i)
    unfolding tilde_diags
    few_tilde = few_append few_before few_after

    pub few_link : (a e : ℕ) → Few (2 + (e - a + 1)) (link_diags buf i a e)
    unfolding link_diags
    few_link a e = few_append few_tilde (few_written buf a e escape.Label)

    pub few_label : (label : Lookup) (a e : ℕ) → Few (2 + (e - a + 1) + 1) (label_diags buf label i a e)
    unfolding label_diags
    few_label label a e = few_append (few_link a e) (few_name a e label i)

  -- an event gives at most four records more than its text has bytes
  pub few_item : (n : Names) (html : Bool) (i : CommentItem) → Few (4 + ((placed_of i).end - (placed_of i).start)) (item_diags buf n html i)
  few_item n html (Text s) = few_more (omega arith) (few_written buf s.start s.end (escape.Text html))
  few_item n html (LineBreak i) = few_none _
  few_item n html (StartMathMode i) = few_more (omega arith) (few_after i)
  few_item n html (EndMathMode i) = few_more (omega arith) (few_before i)
  few_item n html (MathToken s) = few_more (omega arith) (few_token s.start s.end n.symbol)
  few_item n html (Label i s) = few_more (omega arith) (few_label i n.label s.start s.end)
  few_item n html (Url i s) = few_more (omega arith) (few_link i s.start s.end)
  few_item n html (StartHtml i) = few_none _
  few_item n html (EndHtml i) = few_none _
  few_item n html (StartSubscript i) = few_none _
  few_item n html (EndSubscript i) = few_none _
  few_item n html (StartItalic i) = few_none _
  few_item n html (EndItalic i) = few_none _
  few_item n html (BibTag s) = few_more (omega arith) (few_tag s.start s.end n.tags)
