-- The parser's own unescape call: over a span that the state reaches, as the span's form says.
use Rattle.std.specs.Prelude.{ℕ, Bool, cond, ◌||◌, List, ltb, length}
use Rattle.std.proofs.Math.Option.{Option, none, some}
use Rattle.byte_rules.specs.Classes.{is_text_escape, is_label_escape, is_math_escape}
use Rattle.records.specs.Answer.{Answer, longest, too_long, bad_span, bad_state}
use Rattle.records.specs.Records.{text_answer, text_left}
use Rattle.unescape.specs.Unescape.{unescaped, part}
use Rattle.comment_parser.specs.declared.ParserState.{ParserState}
use Rattle.comment_parser.specs.declared.own.Form.{Form}
use Rattle.comment_parser.specs.declared.own.Form.TheVariants.{Text, Label, Math}

-- the escapes of a form; a text's are those of the state's present mode
abbrev pub escapes_of : Form → ParserState → ℕ → Bool
escapes_of Text st = is_text_escape st.html
escapes_of Label st = is_label_escape
escapes_of Math st = is_math_escape

-- 2 is also given when the span ends past the state's end; the lowest number first
unfoldable pub own_refusal : ℕ → ParserState → ℕ → ℕ → Option Answer
own_refusal len st start end =
    cond (ltb longest len) (some too_long)
    (cond (ltb end start || ltb len end || ltb st.end end) (some bad_span)
    (cond (ltb st.end st.pos || ltb len st.end) (some bad_state) none))

-- what a call answers, and what it leaves in the room: the span's text, unescaped by the escapes of its kind
module _ (escapes : ℕ → Bool) (st : ParserState) (buf : List ℕ) (start end : ℕ) where
  abbrev pub own_answer : ℕ → Answer
  own_answer room = text_answer (own_refusal (length buf) st start end) (unescaped escapes (part buf start end)) room

  abbrev pub own_left : List ℕ → List ℕ
  own_left room = text_left (own_refusal (length buf) st start end) (unescaped escapes (part buf start end)) room
