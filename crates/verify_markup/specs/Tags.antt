-- WHICH TAGS ARE REPORTED, the statements, of any reading. Proved in proofs/Tags.antt.
-- Diagnostics of kind 8 are those of the undefined tags. With no bibliography that is every tag, and the check is the one with an empty table. The named
-- choice leaves these out and nothing else, and what stands in the third table's place is not looked at.
use Rattle.std.specs.Prelude.{ℕ, ◌≡◌, true, cond, List, [], ◌∷◌, eqb}
use Rattle.basics.specs.Member.{In}
use Rattle.byte_rules.specs.Reading.{Reading}
use Rattle.lines.specs.Lines.{line_of, with_line}
use Rattle.unescape.specs.Unescape.{part}
use Rattle.comment_parser.specs.Item.{span}
use Rattle.comment_parser.specs.Events.{events_of}
use Rattle.comment_parser.specs.declared.CommentItem.TheVariants.{BibTag}
use Rattle.verify_markup.specs.Diag.{undefined_bib_tag}
use Rattle.verify_markup.specs.Items.{Names, no_tag}
use Rattle.verify_markup.specs.List.{diagnostics}
use Rattle.verify_markup.specs.Check.{Bibliography, lent, not_lent, no_tag_lookup, Tables, table, tables, check_diags, check_answer, check_left}
use Rattle.verify_markup.specs.Lent.{lent_tables}
use Rattle.name_table.specs.declared.Table.{Table as LentTable}
use Rattle.verify_markup.specs.declared.Bibliography.TheVariants.{NoTagLookup}

-- a record's kind is its first word
abbrev pub kind_of : List ℕ → ℕ
kind_of [] = 0
kind_of (kind ∷ numbers) = kind

module _ (rd : Reading) (n : Names) (buf : List ℕ) (start end : ℕ) where
  -- a tag of the span that is looked up and not found
  pub record Undefined (a e : ℕ) : Type 0 where
    pub tag : In (BibTag (span a e)) (events_of rd buf start end)
    pub missing : no_tag n.tags (part buf a e) ≡ true

  -- a record of such a tag
  pub record OfUndefined (w : List ℕ) : Type 0 where
    pub from : ℕ
    pub to : ℕ
    pub is : w ≡ undefined_bib_tag from to
    pub undefined : Undefined from to

  -- kind 8 stands for the undefined tags, and for each of them; said of the diagnostics but for their lines
  pub record EightExactly : Type 0 where
    pub only_when : (w : List ℕ) → In w (diagnostics rd n buf start end) → kind_of w ≡ 8 → OfUndefined w
    pub whenever : (a e : ℕ) → Undefined a e → In (undefined_bib_tag a e) (diagnostics rd n buf start end)

-- whatever the lookups are
abbrev pub ReportedExactly : Type 0
ReportedExactly = (rd : Reading) (n : Names) (buf : List ℕ) (start end : ℕ) → EightExactly rd n buf start end

-- two checks that agree, answer and room, for every reading, buffer, span and room
pub record SameCheck (t u : Tables) : Type 0 where
  pub answer : (rd : Reading) (buf : List ℕ) (start end room : ℕ) → check_answer rd buf start end t room ≡ check_answer rd buf start end u room
  pub left : (rd : Reading) (buf : List ℕ) (start end : ℕ) (room : List ℕ) → check_left rd buf start end t room ≡ check_left rd buf start end u room

-- no bibliography means an empty one
abbrev pub WithoutIsEmpty : Type 0
WithoutIsEmpty = (sb se lb le : List ℕ) → SameCheck (tables sb se lb le not_lent) (tables sb se lb le (lent (table [] [])))

-- so every tag is reported
abbrev pub EveryTag : Type 0
EveryTag = (rd : Reading) (sb se lb le buf : List ℕ) (start end a e : ℕ) → In (BibTag (span a e)) (events_of rd buf start end)
    → In (with_line (line_of buf) (undefined_bib_tag a e)) (check_diags rd buf start end (tables sb se lb le not_lent))

-- the records of other kinds, in their order
unfoldable pub other_kinds : List (List ℕ) → List (List ℕ)
other_kinds [] = []
other_kinds (w ∷ ws) = cond (eqb (kind_of w) 8) (other_kinds ws) (w ∷ other_kinds ws)

-- the named choice leaves kind 8 out, and nothing else, whatever is said of the bibliography without it
abbrev pub NothingElse : Type 0
NothingElse = (rd : Reading) (sb se lb le buf : List ℕ) (start end : ℕ) (b : Bibliography)
    → other_kinds (check_diags rd buf start end (tables sb se lb le b)) ≡ check_diags rd buf start end (tables sb se lb le no_tag_lookup)

-- so no record has it
abbrev pub NoEight : Type 0
NoEight = (rd : Reading) (sb se lb le buf : List ℕ) (start end : ℕ) (w : List ℕ) → In w (check_diags rd buf start end (tables sb se lb le no_tag_lookup)) → kind_of w ≡ 8 → ⊥

-- the named choice, as the code has it, is that of the definitions, and no third table stands beside it
abbrev pub NotLookedAt : Type 0
NotLookedAt = (symbols labels : LentTable) → lent_tables (record { symbols = symbols; labels = labels; bibliography = NoTagLookup })
    ≡ tables symbols.bytes.now symbols.ends.now labels.bytes.now labels.ends.now no_tag_lookup
