-- What the parser's own unescape call gives over a view.
use Rattle.std.specs.Prelude.{ℕ, List}
use Rattle.records.specs.Answer.{Answer}
use Rattle.comment_parser.specs.Own.{escapes_of, own_answer, own_left}
use Rattle.comment_parser.specs.declared.ParserState.{ParserState}
use Rattle.comment_parser.specs.declared.own.Form.{Form}

-- what it answers, and what it leaves in the room
module _ (form : Form) (st : ParserState) (buf : List ℕ) (start end : ℕ) where
  abbrev pub form_answer : ℕ → Answer
  form_answer room = own_answer (escapes_of form st) st buf start end room

  abbrev pub form_left : List ℕ → List ℕ
  form_left room = own_left (escapes_of form st) st buf start end room
