-- The links of a span: one record for each Label event whose unescaped text is found in the table of labels, in event order.
use Rattle.std.specs.Prelude.{ℕ, List, [], ◌∷◌, ◌++◌, length, Option as Maybe, Some, None}
use Rattle.std.proofs.Math.Option.{Option}
use Rattle.basics.specs.Choice.{or_else}
use Rattle.byte_rules.specs.Reading.{Reading}
use Rattle.records.specs.Answer.{Answer, span_refusal}
use Rattle.records.specs.Records.{list_answer, list_left}
use Rattle.unescape.specs.Unescape.{is_escape, unescaped, part}
use Rattle.unescape.specs.declared.Escape.TheVariants as escape
use Rattle.name_table.specs.Table.{table_refusal}
use Rattle.name_table.specs.Search.{entry_of}
use Rattle.comment_parser.specs.Events.{events_of}
use Rattle.comment_parser.specs.declared.CommentItem.{CommentItem}
use Rattle.comment_parser.specs.declared.CommentItem.TheVariants.{Text, LineBreak, StartMathMode, EndMathMode, MathToken, Label, Url}
use Rattle.comment_parser.specs.declared.CommentItem.TheVariants.{StartHtml, EndHtml, StartSubscript, EndSubscript, StartItalic, EndItalic, BibTag}

-- how many words a record has
abbrev pub link_width : ℕ
link_width = 3

-- the name that the label from a to e spells: its text, unescaped
abbrev pub name_of : List ℕ → ℕ → ℕ → List ℕ
name_of buf a e = unescaped (is_escape escape.Label) (part buf a e)

-- start and end of the label, and its name's entry; no record where the name is not there
abbrev pub link_to : ℕ → ℕ → Maybe ℕ → List (List ℕ)
link_to a e (Some k) = (a ∷ e ∷ k ∷ []) ∷ []
link_to a e None = []

-- the table of labels is lent alone, by its bytes and ends
module _ (buf bytes ends : List ℕ) where
  unfoldable pub label_links : ℕ → ℕ → List (List ℕ)
  label_links a e = link_to a e (entry_of bytes ends (name_of buf a e))

  -- what an event gives: a Label its link, any other none
  abbrev pub item_links : CommentItem → List (List ℕ)
  item_links (Text s) = []
  item_links (LineBreak i) = []
  item_links (StartMathMode i) = []
  item_links (EndMathMode i) = []
  item_links (MathToken s) = []
  item_links (Label i s) = label_links s.start s.end
  item_links (Url i s) = []
  item_links (StartHtml i) = []
  item_links (EndHtml i) = []
  item_links (StartSubscript i) = []
  item_links (EndSubscript i) = []
  item_links (StartItalic i) = []
  item_links (EndItalic i) = []
  item_links (BibTag s) = []

  -- those of each event, one after the other along the events
  unfoldable pub links_from : List CommentItem → List (List ℕ)
  links_from [] = []
  links_from (i ∷ is) = item_links i ++ links_from is

  -- the lowest number: the buffer, the span, the table, which is table 1 since it is lent alone
  unfoldable pub links_refusal : ℕ → ℕ → Option Answer
  links_refusal start end = or_else (span_refusal (length buf) start end) (table_refusal 1 bytes ends)

module _ (rd : Reading) (buf bytes ends : List ℕ) where
  unfoldable pub links_of : ℕ → ℕ → List (List ℕ)
  links_of start end = links_from buf bytes ends (events_of rd buf start end)

  -- what the call answers, and what it leaves in a room
  abbrev pub links_answer : ℕ → ℕ → ℕ → Answer
  links_answer start end room = list_answer (links_refusal buf bytes ends start end) link_width (links_of start end) room

  abbrev pub links_left : ℕ → ℕ → List ℕ → List ℕ
  links_left start end room = list_left (links_refusal buf bytes ends start end) link_width (links_of start end) room
