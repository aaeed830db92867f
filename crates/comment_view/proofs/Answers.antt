-- What a step gives and the state that is left are told by their answer, and so is what a view answers to its span: two outcomes that a contract
-- permits coincide. And what the view of a span that is refused gives.
-- Assumes nothing.
use mathlib.Core.Path.{◌≡◌, refl, ap}
use Prim.Native.Nat.{ℕ}
use mathlib.Core.Bool.{Bool, true, false, cond, ◌||◌}
use mathlib.Core.List.{List}
use mathlib.Core.Option.{Option, none, some}
use lib.Dec.{ltb}
use lib.ListN.{length}
use Rattle.std.specs.Prelude.{Option as Maybe, None, Result, Ok, Err}
use Rattle.basics.proofs.Laws.{differ}
use Rattle.byte_rules.specs.Reading.{Reading}
use Rattle.byte_rules.specs.declared.reading.Reading.{Reading as Name}
use Rattle.records.specs.Answer.{Answer, unless, longest, too_long, bad_span, bad_state, span_refusal, state_refusal}
use Rattle.records.specs.declared.Refusal.{Refusal}
use Rattle.records.proofs.Answers.{coincide, read_back, refused_back}
use Rattle.comment_parser.specs.State.{fresh}
use Rattle.comment_parser.specs.Next.{Outcome, given_as, answered, refused_as, next_of}
use Rattle.comment_parser.specs.declared.ParserState.{ParserState}
use Rattle.comment_parser.specs.declared.CommentItem.{CommentItem}
use Rattle.comment_view.specs.View.{gives, opened_answer}

-- what a step gives, and the state that is left
abbrev Step : Type 0
Step = Result (Maybe CommentItem) Refusal

abbrev Left : Type 0
Left = Step × ParserState

answer : Left → Outcome
answer o = gives o.0 o.1

-- both read back from their answer
left_by : Outcome → Left
left_by a = (read_back (λ values. Ok a.event) (λ r. Err r) a.answer, a.state)

same : (s : Step) (t : ParserState) → left_by (gives s t) ≡ (s, t)
unfolding left_by
same (Ok item) t = refl
same (Err r) t = ap (λ (s : Step). (s, t)) (refused_back (λ values. Ok None) (λ r. Err r) r)

pub step_one : (a : Outcome) (x y : Left) → gives x.0 x.1 ≡ a → gives y.0 y.1 ≡ a → x ≡ y
unfolding answer
step_one = coincide answer left_by (λ o. same o.0 o.1)

-- the answer to a span that a view is asked for, read back
checked_by : Answer → Result Unit Refusal
checked_by = read_back (λ values. Ok tt) (λ r. Err r)

checked_back_lem : (x : Result Unit Refusal) → checked_by (opened_answer x) ≡ x
unfolding checked_by
checked_back_lem (Ok u) = refl
checked_back_lem (Err r) = refused_back (λ values. Ok tt) (λ r. Err r) r

pub open_one : (a : Answer) (x y : Result Unit Refusal) → opened_answer x ≡ a → opened_answer y ≡ a → x ≡ y
open_one = coincide opened_answer checked_by checked_back_lem

-- a refusal by the same tests gives no event, and leaves the state
abbrev Still : Option Answer → ParserState → Outcome → Type 0
Still r st n = let s : Outcome = unless r (refused_as st) n in (s.event ≡ None) × (s.state ≡ st)

still : (p q : Bool) (x : Answer) (st : ParserState) (n : Outcome) → cond p (some too_long) (cond q (some bad_span) none) ≡ some x → Still (cond p (some too_long) (cond q (some bad_state) none)) st n
still true q x st n h = (refl, refl)
still false true x st n h = (refl, refl)
still false false x st n h = absurd (differ cc)

-- the view of a span that is refused gives no event, and stays as it is
pub refused_view : (rd : Reading) (name : Name) (buf : List ℕ) (a b : ℕ) (x : Answer) → span_refusal (length buf) a b ≡ some x
    → ((next_of rd buf (fresh name a b)).event ≡ None) × ((next_of rd buf (fresh name a b)).state ≡ fresh name a b)
unfolding span_refusal state_refusal next_of
refused_view rd name buf a b x h = still (ltb longest (length buf)) (ltb b a || ltb (length buf) b) x (fresh name a b) (given_as (answered rd buf (fresh name a b))) h
