-- The lookup over a table lent alone, which is table 1: its refusal, or 0 with the name's entry, or 0 with no value where no entry has the name.
use Rattle.std.specs.Prelude.{ℕ, List, [], ◌∷◌, Option, Some, None, Result, Ok, Err}
use Rattle.records.specs.Answer.{Answer, given, unless, refusal_answer}
use Rattle.name_table.specs.Table.{table_refusal}
use Rattle.name_table.specs.Search.{entry_of}
use Rattle.records.specs.declared.Refusal.{Refusal}

abbrev pub entry_answer : Option ℕ → Answer
entry_answer (Some i) = given (i ∷ [])
entry_answer None = given []

abbrev pub known_answer : Result (Option ℕ) Refusal → Answer
known_answer (Ok entry) = entry_answer entry
known_answer (Err why) = refusal_answer why

abbrev pub lookup_answer : List ℕ → List ℕ → List ℕ → Answer
lookup_answer bytes ends name = unless (table_refusal 1 bytes ends) (λ a. a) (entry_answer (entry_of bytes ends name))
