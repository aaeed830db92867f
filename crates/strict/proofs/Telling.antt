-- The events of a span in the strict reading, told pass by pass: `told`.
-- Assumes nothing.
use Prim.Native.Nat.{ℕ, ◌≤◌}
use mathlib.Core.Bool.{false}
use mathlib.Core.List.{List, ◌∷◌}
use mathlib.Core.Path.{◌≡◌, refl}
use native.Mathlib.Omega.{arith}
use lib.ListN.{length, take}
use lib.Seq.{length-take-le}
use Rattle.std.specs.Prelude.{None}
use Rattle.byte_rules.specs.Reading.{strict}
use Rattle.basics.proofs.Laws.{by_test}
use Rattle.records.specs.Answer.{longest}
use Rattle.scans.proofs.Laws.{clash}
use Rattle.comment_parser.specs.State.{moved}
use Rattle.comment_parser.specs.Pass.{run_start, pass, run_item}
use Rattle.comment_parser.specs.Events.{events_of}
use Rattle.comment_parser.specs.declared.CommentItem.{CommentItem}
use Rattle.comment_parser.specs.declared.ParserState.{ParserState}
use Rattle.comment_parser.proofs.Laws.{run_start_le, run_start_clean}
use Rattle.comment_parser.proofs.Progress.{After, pass_after}
use Rattle.comment_parser.proofs.Turns.{run_start_ge, past_waiting}
use Rattle.comment_parser.proofs.Telling as telling
use Rattle.strict.proofs.Grammar.{Mode, outside, in_italic, in_math_case, behind_start, behind_text, Told, end, event}
use Rattle.strict.proofs.States.{Stands, idle, fresh_stands}
use Rattle.strict.proofs.Passes.{Both, both, Passed, unmarked, marked, RunPassed, out_pass, math_pass}
use Rattle.strict.proofs.Within.{italic_pass, sub_pass}

-- outside math a run starts where the reader stands
start_is : (s : List ℕ) (st : ParserState) → st.math ≡ false → run_start s st ≡ st.pos
unfolding run_start
start_is s st m = by_test (λ x. x ≡ st.pos) st.math (λ t. clash m t) (λ _. refl)

-- a pass, from wherever the reader stands
pass_passed : (s : List ℕ) (m : Mode) (st : ParserState) → Stands s m st → st.pos ≤ length s → RunPassed s m st (run_start s st) (pass strict s st (run_start s st))
pass_passed s outside st i h = out_pass s st (run_start s st) i (run_start_ge s st h) (run_start_le s st h)
pass_passed s in_math_case st i h = math_pass s st (run_start s st) i (run_start_ge s st h) (run_start_le s st h)
pass_passed s in_italic st i h = rw (start_is s st i.math_off) (italic_pass s st i)
pass_passed s (behind_start n) st i h = rw (start_is s st i.math_off) (sub_pass s n st i)
pass_passed s (behind_text q) st i h = absurd i

-- what the grammar says of it
module _ (s : List ℕ) {m : Mode} {st : ParserState} {from q : ℕ} (t : ParserState) (o : After s st from q t) where
  pair : {c : CommentItem} (n : Mode) → Both m (run_item st from q) c n → Stands s n t → telling.Follows (Stands s) Told m (moved t t.pos None) (λ es. run_item st from q ∷ c ∷ es)
  pair n (both g h) i = record { to = n; stands = idle s n t i; tells = λ es a. event g (event h a) }

  followed : Passed s m st from q t → telling.Passed (Stands s) Told m st from q t
  followed (unmarked w r i f) = telling.none_waits w (λ _. end f) (λ l. record { to = m; stands = i; tells = λ es a. event (r l) a })
  followed (marked {c = c} {n = n} w i e b) =
      let stands = i (past_waiting o w) in
      telling.one_waits w (λ l. record { to = n; stands = idle s n t stands; tells = λ es a. event (e l) a }) (λ l. pair n (b l) stands)

module _ (buf : List ℕ) (b : ℕ) (fits : b ≤ length buf) where
  passes : (m : Mode) (st : ParserState) → telling.Ready buf b st → Stands (take b buf) m st → telling.Passes (Stands (take b buf)) Told strict buf b m st
  passes m st k i =
      let s = take b buf in
      let z : length s ≡ b = length-take-le b buf fits in
      let h : st.pos ≤ length s = omega (arith, k.accepted.inside, k.same_end) in
      followed s _ (pass_after strict s st (run_start s st) (run_start_le s st h) (run_start_clean s st)) (pass_passed s m st i h)

  pub told : (a : ℕ) → length buf ≤ longest → a ≤ b → Told outside (events_of strict buf a b)
  told a short h =
      let z : length (take b buf) ≡ b = length-take-le b buf fits in
      telling.told (Stands (take b buf)) Told strict buf b passes outside a short h fits (fresh_stands (take b buf) strict.name a b (omega arith))
