-- The tables as the code is lent them, and the names that its search finds in them.
use Rattle.name_table.specs.Search.{Lookup, searched}
use Rattle.name_table.specs.declared.Table.{Table as LentTable}
use Rattle.verify_markup.specs.Items.{Tags, Names}
use Rattle.verify_markup.specs.Check.{Table, Bibliography, lent, not_lent, no_tag_lookup, Tables, table, tags_of, names_by}
use Rattle.verify_markup.specs.declared.Bibliography.{Bibliography as LentBibliography}
use Rattle.verify_markup.specs.declared.Bibliography.TheVariants.{Lent, NotLent, NoTagLookup}
use Rattle.verify_markup.specs.declared.Tables.{Tables as LentTables}

abbrev pub lent_table : LentTable → Table
lent_table t = table t.bytes.now t.ends.now

abbrev pub bibliography_of : LentBibliography → Bibliography
bibliography_of (Lent t) = lent (lent_table t)
bibliography_of NotLent = not_lent
bibliography_of NoTagLookup = no_tag_lookup

abbrev pub lent_tables : LentTables → Tables
lent_tables t = record { symbols = lent_table t.symbols; labels = lent_table t.labels; bibliography = bibliography_of t.bibliography }

-- ---- what contracts of private functions speak of

-- the names as the code looks them up: by halving, which over good tables finds what the walk finds
abbrev pub lent_search : LentTable → Lookup
lent_search t = searched t.bytes.now t.ends.now

abbrev pub lent_names : LentTables → Names
lent_names t = names_by searched (lent_tables t)

abbrev pub lent_tags : LentBibliography → Tags
lent_tags b = tags_of searched (bibliography_of b)
