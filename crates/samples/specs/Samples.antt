-- Document 01's marked samples: one table.
use Rattle.std.specs.Prelude.{ℕ, Bool, true, false, List, [], ◌∷◌}
use Rattle.byte_rules.specs.Text.{bytes}
use Rattle.records.specs.Answer.{Answer}
use Rattle.byte_rules.specs.Reading.{rust, strict}
use Rattle.date.specs.Reading.{read_answer}
use Rattle.date.specs.Calendar.{is_calendar}
use Rattle.parentheticals.specs.Records.{records_of}
use Rattle.name_table.specs.Lookup.{lookup_answer}
use Rattle.verify_markup.specs.Check as markup
use Rattle.links.specs.Links.{links_of}
use Rattle.comment_parser.specs.Item.{span}
use Rattle.comment_parser.specs.Events.{events_of}
use Rattle.events.specs.Events.{event_records}
use Rattle.comment_parser.specs.declared.CommentItem.{CommentItem}
use Rattle.comment_parser.specs.declared.CommentItem.TheVariants.{Text, LineBreak, StartMathMode, EndMathMode, MathToken, Label, Url, StartHtml, StartSubscript, EndSubscript, StartItalic, EndItalic, BibTag}

-- a row: what is read, and what document 01 says that it gives; where a reading may vary it, in the Rust's reading and in the strict one, side by side
pub data Row : Type 0 where
  date : List ℕ → Answer → Row
  -- whether year, month and day are a date of the calendar
  calendar : ℕ → ℕ → ℕ → Bool → Row
  -- the events of the span from a to b of a buffer
  events : List ℕ → ℕ → ℕ → List CommentItem → List CommentItem → Row
  -- the records of these events, with their lines
  records : List ℕ → ℕ → ℕ → List (List ℕ) → List (List ℕ) → Row
  -- the records of the parentheticals of the span from a to b of a buffer
  credits : List ℕ → ℕ → ℕ → List (List ℕ) → List (List ℕ) → Row
  -- the diagnostics of the span from a to b of a buffer with no symbols and no labels, by what is said of the bibliography
  check : List ℕ → ℕ → ℕ → markup.Bibliography → List (List ℕ) → List (List ℕ) → Row
  -- a name looked up in a table, by its bytes and ends
  lookup : List ℕ → List ℕ → List ℕ → Answer → Row
  -- the links of the span from a to b of a buffer to the labels of a table, by its bytes and ends
  links : List ℕ → ℕ → ℕ → List ℕ → List ℕ → List (List ℕ) → List (List ℕ) → Row

-- the row with what the definitions give
abbrev pub computed : Row → Row
computed (date text answer) = date text (read_answer text)
computed (calendar y m d is) = calendar y m d (is_calendar (record { year = y; month = m; day = d }))
computed (events buf a b rusts stricts) = events buf a b (events_of rust buf a b) (events_of strict buf a b)
computed (records buf a b rusts stricts) = records buf a b (event_records rust buf a b) (event_records strict buf a b)
computed (credits buf a b rusts stricts) = credits buf a b (records_of rust buf a b) (records_of strict buf a b)
computed (check buf a b bibliography rusts stricts) =
    let t = markup.tables [] [] [] [] bibliography in
    check buf a b bibliography (markup.check_diags rust buf a b t) (markup.check_diags strict buf a b t)
computed (lookup names ends name answer) = lookup names ends name (lookup_answer names ends name)
computed (links buf a b names ends rusts stricts) = links buf a b names ends (links_of rust buf names ends a b) (links_of strict buf names ends a b)

-- rows that are the same in both readings
abbrev pub alike : List ℕ → ℕ → ℕ → List CommentItem → Row
alike buf a b items = events buf a b items items

abbrev pub same_records : List ℕ → ℕ → ℕ → List (List ℕ) → Row
same_records buf a b words = records buf a b words words

abbrev pub same_check : List ℕ → ℕ → ℕ → markup.Bibliography → List (List ℕ) → Row
same_check buf a b bibliography words = check buf a b bibliography words words

abbrev pub same_links : List ℕ → ℕ → ℕ → List ℕ → List ℕ → List (List ℕ) → Row
same_links buf a b names ends words = links buf a b names ends words words

-- an answer by its number and values
abbrev pub gives : ℕ → List ℕ → Answer
gives n vs = record { number = n; values = vs }

-- a to l stand for any bytes
abbrev pub table : ℕ → ℕ → ℕ → ℕ → ℕ → ℕ → ℕ → ℕ → ℕ → ℕ → ℕ → ℕ → List Row
table a b c d e f g h i j k l =
    -- 5 Feb 123: year, month, day
    date (bytes "+5xFebx+123") (gives 0 (123 ∷ 2 ∷ 5 ∷ []))
    ∷ date (bytes "+-Jan-2020") (gives 5 [])
    -- 9 bytes, 12 bytes
    ∷ date (a ∷ b ∷ c ∷ d ∷ e ∷ f ∷ g ∷ h ∷ i ∷ []) (gives 5 [])
    ∷ date (a ∷ b ∷ c ∷ d ∷ e ∷ f ∷ g ∷ h ∷ i ∷ j ∷ k ∷ l ∷ []) (gives 5 [])
    -- read, though the calendar has no such day
    ∷ date (bytes "29-Feb-1900") (gives 0 (1900 ∷ 2 ∷ 29 ∷ []))
    -- February has 28 days in 1900 and 2100, and 29 in 2000 and in year 0
    ∷ calendar 1900 2 28 true
    ∷ calendar 1900 2 29 false
    ∷ calendar 2100 2 28 true
    ∷ calendar 2100 2 29 false
    ∷ calendar 2000 2 29 true
    ∷ calendar 2000 2 30 false
    ∷ calendar 0 2 29 true
    ∷ calendar 0 2 30 false
    -- comments, whole
    ∷ alike [] 0 0 []
    ∷ alike (bytes "[]") 0 2 (BibTag (span 1 1) ∷ [])
    ∷ alike (bytes "[a ]") 0 4 (Text (span 0 4) ∷ [])
    ∷ alike (bytes "~") 0 1 (Label 0 (span 1 1) ∷ [])
    ∷ alike (bytes "~ mmx") 0 5 (Url 0 (span 2 5) ∷ [])
    ∷ alike (10 ∷ 10 ∷ 10 ∷ []) 0 3 (Text (span 0 1) ∷ LineBreak 1 ∷ Text (span 1 2) ∷ LineBreak 2 ∷ Text (span 2 3) ∷ [])
    ∷ alike (bytes "( `a` )") 0 7 (Text (span 0 1) ∷ StartMathMode 2 ∷ MathToken (span 3 4) ∷ EndMathMode 4 ∷ Text (span 6 7) ∷ [])
    ∷ events (bytes "x_0`b.c`") 0 8
    (Text (span 0 1) ∷ StartSubscript 1 ∷ Text (span 2 3) ∷ StartMathMode 3 ∷ MathToken (span 4 5) ∷ EndSubscript 5 ∷ MathToken (span 5 7) ∷ EndMathMode 7 ∷ [])
    (Text (span 0 1) ∷ StartSubscript 1 ∷ Text (span 2 3) ∷ EndSubscript 3 ∷ StartMathMode 3 ∷ MathToken (span 4 7) ∷ EndMathMode 7 ∷ [])
    -- what the strict reading bars from a subscript, at its front and behind it, and from an italic
    ∷ events (bytes "x_[a]") 0 5 (Text (span 0 1) ∷ StartSubscript 1 ∷ BibTag (span 3 4) ∷ []) (Text (span 0 2) ∷ BibTag (span 3 4) ∷ [])
    ∷ events (bytes "a_~b") 0 4 (Text (span 0 1) ∷ StartSubscript 1 ∷ Label 2 (span 3 4) ∷ []) (Text (span 0 2) ∷ Label 2 (span 3 4) ∷ [])
    ∷ events (bytes "x_<HTML>") 0 8 (Text (span 0 1) ∷ StartSubscript 1 ∷ StartHtml 2 ∷ []) (Text (span 0 2) ∷ StartHtml 2 ∷ [])
    ∷ events (bytes "x_a``b") 0 6
    (Text (span 0 1) ∷ StartSubscript 1 ∷ Text (span 2 6) ∷ EndSubscript 6 ∷ [])
    (Text (span 0 1) ∷ StartSubscript 1 ∷ Text (span 2 3) ∷ EndSubscript 3 ∷ Text (span 3 6) ∷ [])
    ∷ events (bytes " _a~b_ ") 0 7
    (Text (span 0 1) ∷ StartItalic 1 ∷ Text (span 2 3) ∷ Label 3 (span 4 6) ∷ Text (span 6 7) ∷ [])
    (Text (span 0 3) ∷ Label 3 (span 4 6) ∷ Text (span 6 7) ∷ [])
    ∷ events (bytes " _a<b_ ") 0 7 (Text (span 0 1) ∷ StartItalic 1 ∷ Text (span 2 5) ∷ EndItalic 5 ∷ Text (span 6 7) ∷ []) (Text (span 0 7) ∷ [])
    -- a span that begins inside the buffer: the byte before it counts
    ∷ alike (bytes "a_b_") 1 4 (StartSubscript 1 ∷ Text (span 2 3) ∷ EndSubscript 3 ∷ Text (span 3 4) ∷ [])
    ∷ alike (bytes " _b_") 1 4 (StartItalic 1 ∷ Text (span 2 3) ∷ EndItalic 3 ∷ [])
    -- lines: of three LF, of the comment that the listing is shown for, and behind an LF before the span
    ∷ same_records (10 ∷ 10 ∷ 10 ∷ []) 0 3
    ((1 ∷ 0 ∷ 0 ∷ 1 ∷ 1 ∷ []) ∷ (2 ∷ 1 ∷ 1 ∷ 1 ∷ 2 ∷ []) ∷ (1 ∷ 1 ∷ 1 ∷ 2 ∷ 2 ∷ []) ∷ (2 ∷ 2 ∷ 2 ∷ 2 ∷ 3 ∷ []) ∷ (1 ∷ 2 ∷ 2 ∷ 3 ∷ 3 ∷ []) ∷ [])
    ∷ same_records (bytes "x_0 ~ ax-1.") 0 11
    ((1 ∷ 0 ∷ 0 ∷ 1 ∷ 1 ∷ []) ∷ (10 ∷ 1 ∷ 1 ∷ 1 ∷ 1 ∷ []) ∷ (1 ∷ 2 ∷ 2 ∷ 3 ∷ 1 ∷ []) ∷ (11 ∷ 3 ∷ 3 ∷ 3 ∷ 1 ∷ []) ∷ (1 ∷ 3 ∷ 3 ∷ 4 ∷ 1 ∷ []) ∷ (6 ∷ 4 ∷ 6 ∷ 11 ∷ 1 ∷ []) ∷ [])
    ∷ same_records (bytes "\n~ a") 1 4 ((6 ∷ 1 ∷ 3 ∷ 4 ∷ 2 ∷ []) ∷ [])
    ∷ same_check (bytes "\n[a]") 1 4 markup.not_lent ((8 ∷ 2 ∷ 3 ∷ 0 ∷ 2 ∷ []) ∷ [])
    -- one credit (0,49), author (16,35), date (37,47); in the strict reading one (20,49), which is Bob's
    ∷ credits (bytes "(Contributed by Ann (Revised by Bob, 2-Feb-2020.)") 0 49
    ((1 ∷ 0 ∷ 49 ∷ 16 ∷ 35 ∷ 37 ∷ 47 ∷ []) ∷ [])
    ((2 ∷ 20 ∷ 49 ∷ 32 ∷ 35 ∷ 37 ∷ 47 ∷ []) ∷ [])
    -- the table of a, a[b and ax-1: an entry, none; and the table of a twice, whose second entry is bad
    ∷ lookup (bytes "aa[bax-1") (1 ∷ 4 ∷ 8 ∷ []) (bytes "ax-1") (gives 0 (2 ∷ []))
    ∷ lookup (bytes "aa[bax-1") (1 ∷ 4 ∷ 8 ∷ []) (bytes "b") (gives 0 [])
    ∷ lookup (bytes "aa") (1 ∷ 2 ∷ []) (bytes "a") (gives 4 (1 ∷ 1 ∷ []))
    -- labels are looked up unescaped, and one is not there; a Url gives no link; an empty label has one where the first name is empty
    ∷ same_links (bytes "~ ax-1 ~ a[[b ~ b") 0 17 (bytes "aa[bax-1") (1 ∷ 4 ∷ 8 ∷ []) ((2 ∷ 6 ∷ 2 ∷ []) ∷ (9 ∷ 13 ∷ 1 ∷ []) ∷ [])
    ∷ same_links (bytes "~ mmx") 0 5 (bytes "mmx") (3 ∷ []) []
    ∷ same_links (bytes "~") 0 1 [] (0 ∷ []) ((1 ∷ 1 ∷ 0 ∷ []) ∷ [])
    -- a tag without a bibliography, with an empty one, with one that has it, and not looked up
    ∷ same_check (bytes "[a]") 0 3 markup.not_lent ((8 ∷ 1 ∷ 2 ∷ 0 ∷ 1 ∷ []) ∷ [])
    ∷ same_check (bytes "[a]") 0 3 (markup.lent (markup.table [] [])) ((8 ∷ 1 ∷ 2 ∷ 0 ∷ 1 ∷ []) ∷ [])
    ∷ same_check (bytes "[a]") 0 3 (markup.lent (markup.table (bytes "a") (1 ∷ []))) []
    ∷ same_check (bytes "[a]") 0 3 markup.no_tag_lookup []
    ∷ []
