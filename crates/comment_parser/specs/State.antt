-- A parser's state: a fresh one, one that `next` takes, and a state with one thing changed.
use Rattle.std.specs.Prelude.{ℕ, ◌≤◌, Bool, false, Option, None, List, length}
use Rattle.records.specs.Answer.{longest}
use Rattle.byte_rules.specs.declared.reading.Reading.{Reading as Name}
use Rattle.comment_parser.specs.declared.CommentItem.{CommentItem}
use Rattle.comment_parser.specs.declared.ParserState.{ParserState}

-- no italic end is noted: the largest number, which is no place of a buffer
abbrev pub no_italic : ℕ
no_italic = 18446744073709551615

-- the state of a parser that has yet to read the places from a to b, in the reading of that name
abbrev pub fresh : Name → ℕ → ℕ → ParserState
fresh name a b = record { reading = name; end = b; pos = a; math = false; html = false; waiting = None; end_italic = no_italic; end_subscript = 0 }

-- a state that `next` takes, also one that no parser made
pub record Accepted (buf : List ℕ) (st : ParserState) : Type 0 where
  pub short : length buf ≤ longest
  pub inside : st.pos ≤ st.end
  pub fits : st.end ≤ length buf

module _ (st : ParserState) where
  -- at another place, with what waits
  abbrev pub moved : ℕ → Option CommentItem → ParserState
  moved p w = record { reading = st.reading; end = st.end; pos = p; math = st.math; html = st.html; waiting = w; end_italic = st.end_italic; end_subscript = st.end_subscript }

  abbrev pub in_math : Bool → ParserState
  in_math b = record { reading = st.reading; end = st.end; pos = st.pos; math = b; html = st.html; waiting = st.waiting; end_italic = st.end_italic; end_subscript = st.end_subscript }

  abbrev pub in_html : Bool → ParserState
  in_html b = record { reading = st.reading; end = st.end; pos = st.pos; math = st.math; html = b; waiting = st.waiting; end_italic = st.end_italic; end_subscript = st.end_subscript }

  abbrev pub italic_to : ℕ → ParserState
  italic_to p = record { reading = st.reading; end = st.end; pos = st.pos; math = st.math; html = st.html; waiting = st.waiting; end_italic = p; end_subscript = st.end_subscript }

  abbrev pub subscript_to : ℕ → ParserState
  subscript_to p = record { reading = st.reading; end = st.end; pos = st.pos; math = st.math; html = st.html; waiting = st.waiting; end_italic = st.end_italic; end_subscript = p }
