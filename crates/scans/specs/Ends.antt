-- Where a tag, a label, a subscript and an italic end (document 01, "Reading rules"), in the text `s`, the buffer up to the span's end.
use Rattle.std.specs.Prelude.{ℕ, ◌+◌, ◌-◌, Bool, true, false, ◌&&◌, ◌||◌, not, Option, Some, None, List, ltb, length}
use Rattle.byte_rules.specs.Text.{bytes}
use Rattle.byte_rules.specs.Reading.{Reading}
use Rattle.look.specs.Look.{holds_at, byte_at, blank_at, alphanumeric_at, closer_at, doubled_at, word_at}
use Rattle.scans.specs.Marks.{tick, lbracket, rbracket, under, lf, cr, space, open_html, close_html}
use Rattle.scans.specs.Scan.{scan}
use Rattle.scans.specs.declared.Step.{Step}
use Rattle.scans.specs.declared.Step.TheVariants.{One, Two, Stop}

module _ (s : List ℕ) where
  -- a blank is stepped over
  unfoldable pub blanks_step : ℕ → Step
  blanks_step j = elim (blank_at s j) [ true ↦ One | false ↦ Stop ]

  -- a tag runs to the first `]`; a blank or a lone backtick before it means no tag; doubled backticks step two
  unfoldable pub tag_step : ℕ → Step
  tag_step j =
      elim (byte_at s j rbracket) [
        | true ↦ Stop
        | false ↦ elim (doubled_at s j tick) [
          | true ↦ Two
          | false ↦ elim (byte_at s j tick) [
            | true ↦ Stop
            | false ↦ elim (blank_at s j) [ true ↦ Stop | false ↦ One ]
          ]
        ]
      ]

-- what a reading may vary: the bytes that bar a subscript and an italic
module _ (rd : Reading) (s : List ℕ) where
  -- a subscript runs to the first blank, closer or byte that bars it
  unfoldable pub subscript_step : ℕ → Step
  subscript_step j = elim (blank_at s j || closer_at s j || holds_at rd.bars_subscript s j) [ true ↦ Stop | false ↦ One ]

  -- an italic runs to the first lone `_`, or to a byte that bars it; doubled `_` are stepped over
  unfoldable pub italic_step : ℕ → Step
  italic_step j =
      elim (doubled_at s j under) [
        | true ↦ Two
        | false ↦ elim (byte_at s j under || holds_at rd.bars_italic s j) [ true ↦ Stop | false ↦ One ]
      ]

module _ (s : List ℕ) where
  -- the first place from i on that is no blank
  abbrev pub blanks_end : ℕ → ℕ
  blanks_end i = scan (blanks_step s) (length s) i

  -- where the search for the `]` of a tag whose text begins at i stops
  abbrev pub tag_stop : ℕ → ℕ
  tag_stop i = scan (tag_step s) (length s) i

  -- where the tag whose text begins at i has its `]`
  unfoldable pub tag_end : ℕ → Option ℕ
  tag_end i = let j = tag_stop i in elim (byte_at s j rbracket) [ true ↦ Some j | false ↦ None ]

  -- a `[` that opens a tag
  unfoldable pub opens_tag : ℕ → Bool
  opens_tag i = elim (byte_at s i lbracket) [ true ↦ elim (tag_end (i + 1)) [ Some j ↦ true | None ↦ false ] | false ↦ false ]

  -- the bytes that end a label wherever they stand alone: space, CR, LF, backtick
  unfoldable pub label_stopper : ℕ → Bool
  label_stopper j = byte_at s j space || byte_at s j cr || byte_at s j lf || byte_at s j tick

  -- either HTML mark
  unfoldable pub html_mark : ℕ → Bool
  html_mark j = word_at s j open_html || word_at s j close_html

  -- doubled `[` or backtick steps two; a stopper, a `[` that opens a tag, and either HTML mark end the label
  unfoldable pub label_step : ℕ → Step
  label_step j =
      elim (doubled_at s j lbracket || doubled_at s j tick) [
        | true ↦ Two
        | false ↦ elim (label_stopper j) [
          | true ↦ Stop
          | false ↦ elim (opens_tag j) [ true ↦ Stop | false ↦ elim (html_mark j) [ true ↦ Stop | false ↦ One ] ]
        ]
      ]

  -- where a label that begins at i ends
  abbrev pub label_end : ℕ → ℕ
  label_end i = scan label_step (length s) i

  -- a lone `_` at j closes an italic: the byte before it is alphanumeric and the byte after it is not
  unfoldable pub closes_italic : ℕ → Option ℕ
  closes_italic j = elim (byte_at s j under && alphanumeric_at s (j - 1) && not (alphanumeric_at s (j + 1))) [ true ↦ Some j | false ↦ None ]

module _ (rd : Reading) (s : List ℕ) where
  -- where a subscript's text, read from i on, stops
  abbrev pub subscript_stop : ℕ → ℕ
  subscript_stop i = scan (subscript_step rd s) (length s) i

  -- where a subscript whose text begins at i ends, if it is one: it is not empty
  unfoldable pub subscript_end : ℕ → Option ℕ
  subscript_end i = let j = subscript_stop i in elim (ltb i j) [ true ↦ Some j | false ↦ None ]

  -- where an italic's text, read from i on, stops
  abbrev pub italic_stop : ℕ → ℕ
  italic_stop i = scan (italic_step rd s) (length s) i

  -- the lone `_` that ends an italic whose text begins at i, if it is one: its first byte is alphanumeric
  unfoldable pub italic_end : ℕ → Option ℕ
  italic_end i = elim (alphanumeric_at s i) [ true ↦ closes_italic s (italic_stop (i + 1)) | false ↦ None ]

-- a label is a url if it begins with http:// , https:// or mm
unfoldable pub is_url : List ℕ → Bool
is_url label = word_at label 0 (bytes "http://") || word_at label 0 (bytes "https://") || word_at label 0 (bytes "mm")
