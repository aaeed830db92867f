-- What a step of a lent state or of a view gives, and the view of a span.
use Rattle.std.specs.Prelude.{ℕ, Option, Result, Ok, Err, List, [], length}
use Rattle.std.specs.Borrow.{Bor}
use Rattle.byte_rules.specs.declared.reading.Reading.{Reading as Name}
use Rattle.records.specs.Answer.{Answer, given, unless, refusal_answer, span_refusal}
use Rattle.records.specs.declared.Refusal.{Refusal}
use Rattle.comment_parser.specs.State.{fresh}
use Rattle.comment_parser.specs.Next.{Outcome, step_answer}
use Rattle.comment_parser.specs.declared.CommentItem.{CommentItem}
use Rattle.comment_parser.specs.declared.ParserState.{ParserState}
use Rattle.comment_view.specs.declared.View.{View}

-- what a step gives and the state that is left, as an answer of the parser's `next`
abbrev pub gives : Result (Option CommentItem) Refusal → ParserState → Outcome
gives (Ok item) t = step_answer t (Ok (record { state = t; item = item }))
gives (Err r) t = step_answer t (Err r)

-- the answer to the span that a view is asked for: 0, or the refusal's
abbrev pub opened_answer : Result Unit Refusal → Answer
opened_answer (Ok u) = given []
opened_answer (Err r) = refusal_answer r

abbrev pub open_answer : List ℕ → ℕ → ℕ → Answer
open_answer buf start end = unless (span_refusal (length buf) start end) (λ a. a) (given [])

-- a view of the places from a to b of a buffer, from a fresh start in the reading of that name
abbrev pub view_of : Name → Bor (List ℕ) → ℕ → ℕ → View
view_of name buf a b = record { buf = buf; state = fresh name a b }
