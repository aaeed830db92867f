-- The reading rules of document 01, over the text `s`, the buffer up to the span's end. Each says what the byte at the place p does to the run
-- that began at `from`.
use Rattle.std.specs.Prelude.{ℕ, zero, suc, ◌+◌, ◌-◌, Bool, true, false, ◌&&◌, ◌||◌, Some, None, List, leb, eqb, length, take, drop}
use Rattle.byte_rules.specs.Reading.{Reading}
use Rattle.look.specs.Look.{byte_at, blank_at, closer_at, italic_opener_at, doubled_at, word_at}
use Rattle.scans.specs.Marks.{tick, tilde, lparen, quote, lbracket, under, less, lf, space, open_html, close_html}
use Rattle.scans.specs.Ends.{blanks_end, tag_end, label_end, subscript_end, italic_end, is_url}
use Rattle.comment_parser.specs.Item.{span}
use Rattle.comment_parser.specs.State.{moved, in_math, in_html, italic_to, subscript_to}
use Rattle.comment_parser.specs.declared.CommentItem.{CommentItem}
use Rattle.comment_parser.specs.declared.CommentItem.TheVariants.{LineBreak, StartMathMode, EndMathMode, Label, Url, StartHtml}
use Rattle.comment_parser.specs.declared.CommentItem.TheVariants.{EndHtml, StartSubscript, EndSubscript, StartItalic, EndItalic, BibTag}
use Rattle.comment_parser.specs.declared.ParserState.{ParserState}
use Rattle.comment_parser.specs.declared.Act.{Act}
use Rattle.comment_parser.specs.declared.Act.TheVariants.{One, Two, Ends}

module _ (s : List ℕ) where
  -- the buffer's start, or a blank before q
  unfoldable pub blank_before : ℕ → Bool
  blank_before q = eqb q 0 || blank_at s (q - 1)

  -- `(`, `[`, or a `"` that has a blank or the buffer's start before it
  unfoldable pub opens_ahead : ℕ → Bool
  opens_ahead q = byte_at s q lparen || byte_at s q lbracket || (byte_at s q quote && blank_before q)

  -- where the run ends before an opening mark at p: one space is dropped if the run, that space counted, holds at least two bytes and the byte
  -- ahead of the space opens
  unfoldable pub before_open : ℕ → ℕ → ℕ
  before_open from p = elim (leb (from + 2) p && byte_at s (p - 1) space && opens_ahead (p - 2)) [ true ↦ p - 1 | false ↦ p ]

  -- where the next run starts after a closing mark or a label that ends at p: one space is dropped if a closer follows
  unfoldable pub after_close : ℕ → ℕ
  after_close p = elim (byte_at s p space && closer_at s (p + 1)) [ true ↦ p + 1 | false ↦ p ]

  -- an LF among the n bytes before i, followed by blanks only
  unfoldable pub after_lf : ℕ → ℕ → Bool
  after_lf zero i = false
  after_lf (suc n) i = byte_at s (i - 1) lf || (blank_at s (i - 1) && after_lf n (i - 1))

-- a label's event, for the `~` at p
unfoldable pub label_item : List ℕ → ℕ → ℕ → ℕ → CommentItem
label_item s p a b = elim (is_url (take (b - a) (drop a s))) [ true ↦ Url p (span a b) | false ↦ Label p (span a b) ]

module _ (s : List ℕ) (st : ParserState) where
  module _ (from p : ℕ) where
    -- backtick: doubled, step two; else it ends the run and toggles math
    unfoldable pub tick_rule : Act
    tick_rule =
        elim (doubled_at s p tick) [
          | true ↦ Two
          | false ↦ elim st.math [
            | true ↦ Ends p (moved (in_math st false) (after_close s (p + 1)) (Some (EndMathMode p)))
            | false ↦ Ends (before_open s from p) (moved (in_math st true) (p + 1) (Some (StartMathMode p)))
          ]
        ]

    -- `~`: doubled, step two; else skip blanks, then read the label
    unfoldable pub tilde_rule : Act
    tilde_rule =
        elim (doubled_at s p tilde) [
          | true ↦ Two
          | false ↦
              let a = blanks_end s (p + 1) in
              let b = label_end s a in
              Ends (before_open s from p) (moved st (after_close s b) (Some (label_item s p a b)))
        ]

    -- LF: if an earlier LF of this run is followed by blanks only, this LF starts the next run
    unfoldable pub newline_rule : Act
    newline_rule = elim (after_lf s (p - from) p) [ true ↦ Ends p (moved st p (Some (LineBreak p))) | false ↦ One ]

  module _ (p : ℕ) where
    -- in math: a nonblank steps one; a blank ends the token
    unfoldable pub math_rule : Act
    math_rule = elim (blank_at s p) [ true ↦ Ends p (moved st p None) | false ↦ One ]

    -- `<HTML>` outside HTML, `</HTML>` inside it, ends the run
    unfoldable pub html_rule : Act
    html_rule =
        elim st.html [
          | true ↦ elim (word_at s p close_html) [ true ↦ Ends p (moved (in_html st false) (p + length close_html) (Some (EndHtml p))) | false ↦ One ]
          | false ↦ elim (word_at s p open_html) [ true ↦ Ends p (moved (in_html st true) (p + length open_html) (Some (StartHtml p))) | false ↦ One ]
        ]

    -- `[`: doubled, step two; a tag ends the run
    unfoldable pub bracket_rule : Act
    bracket_rule =
        elim (doubled_at s p lbracket) [
          | true ↦ Two
          | false ↦ elim (tag_end s (p + 1)) [ Some q ↦ Ends p (moved st (q + 1) (Some (BibTag (span (p + 1) q)))) | None ↦ One ]
        ]

    -- `_` may open an italic at the noted subscript end, at the buffer's start, or behind a blank or an opener; else it may open a subscript
    unfoldable pub opens_italic : Bool
    opens_italic = eqb p st.end_subscript || (blank_before s p || italic_opener_at s (p - 1))

-- a step to q: at the noted subscript end it ends the run there
unfoldable pub step_to : ParserState → ℕ → Act → Act
step_to st q a = elim (eqb q st.end_subscript) [ true ↦ Ends q (moved st q (Some (EndSubscript q))) | false ↦ a ]

-- the rules that a reading may vary
module _ (rd : Reading) (s : List ℕ) (st : ParserState) where
  module _ (p : ℕ) where
    -- if neither holds, plain text
    unfoldable pub open_under : Act
    open_under =
        elim (opens_italic s st p) [
          | true ↦ elim (italic_end rd s (p + 1)) [ Some q ↦ Ends p (moved (italic_to st q) (p + 1) (Some (StartItalic p))) | None ↦ One ]
          | false ↦ elim (subscript_end rd s (p + 1)) [ Some q ↦ Ends p (moved (subscript_to st q) (p + 1) (Some (StartSubscript p))) | None ↦ One ]
        ]

    -- `_`: doubled, step two; at the noted italic end, EndItalic
    unfoldable pub under_rule : Act
    under_rule =
        elim (doubled_at s p under) [
          | true ↦ Two
          | false ↦ elim (eqb p st.end_italic) [ true ↦ Ends p (moved st (p + 1) (Some (EndItalic p))) | false ↦ open_under ]
        ]

  module _ (from p : ℕ) where
    -- outside math and HTML
    unfoldable pub plain_rule : Act
    plain_rule =
        elim (byte_at s p lf) [
          | true ↦ newline_rule s st from p
          | false ↦ elim (byte_at s p under) [ true ↦ under_rule p | false ↦ One ]
        ]

    -- outside math; in HTML mode the rest are plain
    unfoldable pub text_rule : Act
    text_rule =
        elim (byte_at s p less) [
          | true ↦ html_rule s st p
          | false ↦ elim (byte_at s p tilde) [
            | true ↦ tilde_rule s st from p
            | false ↦ elim (byte_at s p lbracket) [
              | true ↦ bracket_rule s st p
              | false ↦ elim st.html [ true ↦ One | false ↦ plain_rule ]
            ]
          ]
        ]

    -- the first rule that applies
    unfoldable pub first_rule : Act
    first_rule =
        elim (byte_at s p tick) [
          | true ↦ tick_rule s st from p
          | false ↦ elim st.math [ true ↦ math_rule s st p | false ↦ text_rule ]
        ]

    -- after any step that did not end the run, also in math, the noted subscript end is looked for
    unfoldable pub pass_act : Act
    pass_act = elim first_rule [ One ↦ step_to st (p + 1) One | Two ↦ step_to st (p + 2) Two | Ends q t ↦ Ends q t ]
