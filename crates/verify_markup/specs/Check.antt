-- The comment check: its refusals, and the names of its tables.
use Rattle.std.specs.Prelude.{ℕ, List, length, None}
use Rattle.std.proofs.Math.Option.{Option, none}
use Rattle.basics.specs.Choice.{or_else}
use Rattle.byte_rules.specs.Reading.{Reading}
use Rattle.records.specs.Answer.{Answer, span_refusal}
use Rattle.records.specs.Records.{list_answer, list_left}
use Rattle.lines.specs.Lines.{lined}
use Rattle.name_table.specs.Table.{table_refusal}
use Rattle.name_table.specs.Search.{Lookup, entry_of}
use Rattle.verify_markup.specs.Diag.{diag_width}
use Rattle.verify_markup.specs.List.{diagnostics}
use Rattle.verify_markup.specs.Items.{Tags, looked_up, not_looked_up, Names}

-- a lent table: bytes and ends
pub record Table : Type 0 where
  pub bytes : List ℕ
  pub ends : List ℕ

-- what a call says of the bibliography: here it is; there is none; or, by name, that tags are not looked up
pub data Bibliography : Type 0 where
  lent : Table → Bibliography
  not_lent : Bibliography
  no_tag_lookup : Bibliography

pub record Tables : Type 0 where
  pub symbols : Table
  pub labels : Table
  pub bibliography : Bibliography

-- 4 for the lowest table: 1 symbols, 2 labels, 3 bibliography
abbrev pub refusal_of : ℕ → Table → Option Answer
refusal_of number t = table_refusal number t.bytes t.ends

abbrev pub bibliography_refusal : Bibliography → Option Answer
bibliography_refusal (lent t) = refusal_of 3 t
bibliography_refusal not_lent = none
bibliography_refusal no_tag_lookup = none

unfoldable pub tables_refusal : Tables → Option Answer
tables_refusal t = or_else (refusal_of 1 t.symbols) (or_else (refusal_of 2 t.labels) (bibliography_refusal t.bibliography))

-- the lowest number: the buffer, the span, the tables
unfoldable pub check_refusal : List ℕ → ℕ → ℕ → Tables → Option Answer
check_refusal buf start end t = or_else (span_refusal (length buf) start end) (tables_refusal t)

-- tags are looked up in the bibliography; where there is none every tag is missing
abbrev pub tags_of : (List ℕ → List ℕ → Lookup) → Bibliography → Tags
tags_of look (lent t) = looked_up (look t.bytes t.ends)
tags_of look not_lent = looked_up (λ tag. None)
tags_of look no_tag_lookup = not_looked_up

-- the names of the tables, by a way to look a name up in a table
abbrev pub names_by : (List ℕ → List ℕ → Lookup) → Tables → Names
names_by look t = record {
  symbol = look t.symbols.bytes t.symbols.ends;
  label = look t.labels.bytes t.labels.ends;
  tags = tags_of look t.bibliography;
}

-- a name's entry is what the plain walk finds
abbrev pub names_of : Tables → Names
names_of = names_by entry_of

-- the tables by their bytes and ends
abbrev pub table : List ℕ → List ℕ → Table
table bytes ends = record { bytes = bytes; ends = ends }

abbrev pub tables : List ℕ → List ℕ → List ℕ → List ℕ → Bibliography → Tables
tables sb se lb le bib = record { symbols = table sb se; labels = table lb le; bibliography = bib }

-- the diagnostics of the span, with their lines; neighbours, doubling and lines are looked up in the whole buffer
abbrev pub check_diags : Reading → List ℕ → ℕ → ℕ → Tables → List (List ℕ)
check_diags rd buf start end t = lined buf (diagnostics rd (names_of t) buf start end)

-- what the check answers, and what it leaves in a room
abbrev pub check_answer : Reading → List ℕ → ℕ → ℕ → Tables → ℕ → Answer
check_answer rd buf start end t room = list_answer (check_refusal buf start end t) diag_width (check_diags rd buf start end t) room

abbrev pub check_left : Reading → List ℕ → ℕ → ℕ → Tables → List ℕ → List ℕ
check_left rd buf start end t room = list_left (check_refusal buf start end t) diag_width (check_diags rd buf start end t) room
