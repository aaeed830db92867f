-- A fact about a pass, in any reading, by what the rule at each place of the run says: Q along the run, and R of its end.
-- Assumes nothing.
use Prim.Native.Nat.{ℕ, ◌+◌, ◌≤◌, ◌<◌}
use mathlib.Core.Path.{◌≡◌, refl}
use mathlib.Core.List.{List}
use native.Mathlib.Nat.{le_refl}
use borrow.Author.Tests.{lt-ltb, le-ltb, eqb-true}
use lib.Dec.{eqb}
use lib.ListN.{length}
use Rattle.std.specs.Prelude.{Some}
use Rattle.basics.proofs.Laws.{by_test}
use Rattle.byte_rules.specs.Reading.{Reading}
use Rattle.scans.proofs.Laws.{Leads, by_one, by_two, stops, scanned}
use Rattle.comment_parser.specs.State.{moved}
use Rattle.comment_parser.specs.Rules.{first_rule, step_to, pass_act}
use Rattle.comment_parser.specs.Pass.{step_of, run_to, at_end, pass_step, ended_at, pass}
use Rattle.comment_parser.specs.declared.Act.{Act}
use Rattle.comment_parser.specs.declared.Act.TheVariants.{One, Two, Ends}
use Rattle.comment_parser.specs.declared.CommentItem.TheVariants.{EndSubscript}
use Rattle.comment_parser.specs.declared.ParserState.{ParserState}
use Rattle.comment_parser.specs.declared.Run.{Run}

-- what a rule at p may say: Q holds where it steps to, or R of the run that it ends
abbrev pub Good : (ℕ → Type 0) → (Run → Type 0) → ℕ → Act → Type 0
Good Q R p One = Q (p + 1)
Good Q R p Two = Q (p + 2)
Good Q R p (Ends q t) = R (run_to q t)

module _ (rd : Reading) (s : List ℕ) (st : ParserState) (from : ℕ) (Q : ℕ → Type 0) (R : Run → Type 0) where
  abbrev Ended : ℕ → Type 0
  Ended p = R (ended_at rd s st from p)

  leads : (p : ℕ) (a : Act) → p < length s → pass_act rd s st from p ≡ a → Good Q R p a → Leads Ended Q p (step_of a)
  unfolding ended_at
  leads p One l e g = by_one g
  leads p Two l e g = by_two g
  leads p (Ends q t) l e g = stops (rw (ended_at, lt-ltb p (length s) l, e) g)

  at_end_case : R (at_end s st) → Ended (length s)
  unfolding ended_at
  at_end_case r = rw (ended_at, le-ltb (length s) (length s) (le_refl (length s))) r

  -- a pass: each rule on its way is good, and so is the end of the text
  pub pass_by :
      ((p : ℕ) → Q p → p < length s → Good Q R p (pass_act rd s st from p)) → ((p : ℕ) → Q p → length s ≤ p → R (at_end s st)) →
      Q from → R (pass rd s st from)
  unfolding pass pass_step
  pass_by good end q =
      scanned (pass_step rd s st from) (length s) Ended Q (λ p k l. leads p (pass_act rd s st from p) l refl (good p k l)) (λ p k h. at_end_case (end p k h)) from q

-- after a step, what is shown of the rule holds of what happens at p, if it holds where the step comes to the noted subscript end
module _ (st : ParserState) (p : ℕ) (P : Act → Type 0) where
  -- the run ends at q, the noted subscript end
  abbrev pub Noted : ℕ → Type 0
  Noted q = q ≡ st.end_subscript → P (Ends q (moved st q (Some (EndSubscript q))))

  step_to_lem : (q : ℕ) (a : Act) → Noted q → P a → P (step_to st q a)
  unfolding step_to
  step_to_lem q a n x = by_test P (eqb q st.end_subscript) (λ e. n (eqb-true q st.end_subscript e)) (λ _. x)

  stepped : (P One → Noted (p + 1)) → (P Two → Noted (p + 2)) → (a : Act) → P a → P (elim a [ One ↦ step_to st (p + 1) One | Two ↦ step_to st (p + 2) Two | Ends q t ↦ Ends q t ])
  stepped f g One x = step_to_lem (p + 1) One (f x) x
  stepped f g Two x = step_to_lem (p + 2) Two (g x) x
  stepped f g (Ends q t) x = x

  pub act_by : (rd : Reading) (s : List ℕ) (from : ℕ) → (P One → Noted (p + 1)) → (P Two → Noted (p + 2)) → P (first_rule rd s st from p) → P (pass_act rd s st from p)
  unfolding pass_act
  act_by rd s from f g = stepped f g (first_rule rd s st from p)
