-- The list of events, an event at a time, in any reading; that an accepted state leads to accepted states alone; and a fact of every event, by one of
-- the states on the way.
-- Assumes nothing.
use Prim.Native.Nat.{ℕ, zero, suc, ◌+◌, ◌<◌}
use mathlib.Core.Path.{◌≡◌, refl, sym, ap, ◌∙◌}
use mathlib.Core.List.Memᴰ
use mathlib.Core.List.{List, [], ◌∷◌}
use mathlib.Core.Option.{Option, none, some}
use Rattle.std.specs.Prelude.{Option as Maybe, Some, None}
use native.Mathlib.Omega.{arith}
use lib.ListN.{length}
use Rattle.basics.specs.Member.{In}
use Rattle.basics.proofs.Laws.{differ}
use Rattle.records.specs.Answer.{Answer, state_refusal}
use Rattle.records.specs.Produced.{grow}
use Rattle.records.proofs.Answers.{state_accepted, state_good}
use Rattle.records.proofs.ProducedLaws.{produced_step}
use Rattle.byte_rules.specs.Reading.{Reading, named}
use Rattle.byte_rules.specs.declared.reading.Reading.{Reading as Name}
use Rattle.byte_rules.specs.declared.reading.Reading.TheVariants.{Rust, Strict}
use Rattle.comment_parser.specs.State.{Accepted, fresh}
use Rattle.comment_parser.specs.Next.{given_as, some_event, no_event, answered, next_of}
use Rattle.comment_parser.specs.Events.{left, paired, seen, events_from, events_of}
use Rattle.comment_parser.specs.declared.ParserState.{ParserState}
use Rattle.comment_parser.specs.declared.CommentItem.{CommentItem}
use Rattle.comment_parser.specs.declared.Next.{Next}
use Rattle.comment_parser.proofs.Turns.{GoesOn, answered_on}

module _ (rd : Reading) (buf : List ℕ) (st : ParserState) where
  -- an accepted state is answered, and not refused
  pub next_is : Accepted buf st → next_of rd buf st ≡ given_as (answered rd buf st)
  unfolding next_of
  next_is a = rw (next_of, ← state_good (length buf) st.pos st.end a.short a.inside a.fits)

  -- what the answer to an accepted state is
  pub answers : {x : Next} → Accepted buf st → answered rd buf st ≡ x → next_of rd buf st ≡ given_as x
  answers a e = next_is a ∙ ap given_as e

  refused_none : (r : Option Answer) → state_refusal (length buf) st.pos st.end ≡ r → (p : CommentItem × ParserState)
      → seen rd buf st ≡ some p → state_refusal (length buf) st.pos st.end ≡ none
  unfolding seen next_of
  refused_none none e p h = e
  refused_none (some a) e p h =
      let f : paired None st ≡ some p = rw (next_of, e) at h in
      absurd (differ cc)

  -- a state that gives an event is accepted
  pub seen_accepted : (p : CommentItem × ParserState) → seen rd buf st ≡ some p → Accepted buf st
  seen_accepted p h =
      let a = state_accepted (length buf) st.pos st.end (refused_none (state_refusal (length buf) st.pos st.end) refl p h) in
      record { short = a.0; inside = a.1; fits = a.2 }

  pub seen_is : Accepted buf st → seen rd buf st ≡ paired (given_as (answered rd buf st)).event (given_as (answered rd buf st)).state
  unfolding seen
  seen_is a = rw (next_is a)

  -- the answer to an accepted state that gives an event
  pub seen_event : (i : CommentItem) (t : ParserState) → Accepted buf st → answered rd buf st ≡ some_event t i → seen rd buf st ≡ some (i, t)
  seen_event i t a e = seen_is a ∙ rw e

  -- and of one that gives none
  pub seen_end : (t : ParserState) → Accepted buf st → answered rd buf st ≡ no_event t → seen rd buf st ≡ none
  seen_end t a e = seen_is a ∙ rw e

  from_next : (n : Next) (o : Maybe CommentItem) → n.item ≡ o → (p : CommentItem × ParserState) → paired o n.state ≡ some p → n ≡ some_event p.1 p.0
  from_next n (Some i) e p h = let x : (i, n.state) ≡ p = cc in rw (← x, ← e)
  from_next n None e p h = absurd (differ cc)

  pub seen_answered : (p : CommentItem × ParserState) → seen rd buf st ≡ some p → answered rd buf st ≡ some_event p.1 p.0
  seen_answered p h = from_next (answered rd buf st) (answered rd buf st).item refl p (sym (seen_is (seen_accepted p h)) ∙ h)

  -- an event keeps the reading and the end, moves on, and leaves less to come
  pub seen_on : (p : CommentItem × ParserState) → seen rd buf st ≡ some p → GoesOn st p.1
  seen_on p h = answered_on rd buf st (seen_accepted p h) p.0 p.1 (seen_answered p h)

module _ (rd : Reading) (buf : List ℕ) where
  -- from an accepted state `next` never refuses later
  pub stays_accepted : (st : ParserState) (p : CommentItem × ParserState) → seen rd buf st ≡ some p → Accepted buf p.1
  stays_accepted st p h =
      let a = seen_accepted rd buf st p h in
      let g = seen_on rd buf st p h in
      record { short = a.short; inside = g.within; fits = rw g.same_end a.fits }

  pub events_step : (st : ParserState) → events_from rd buf st ≡ grow (seen rd buf st) (events_from rd buf)
  unfolding events_from
  events_step = produced_step (seen rd buf) left (λ st p h. (seen_on rd buf st p h).less)

  pub events_on : (st : ParserState) (i : CommentItem) (t : ParserState) → seen rd buf st ≡ some (i, t) → events_from rd buf st ≡ i ∷ events_from rd buf t
  events_on st i t h = events_step st ∙ rw h

  pub events_end : (st : ParserState) → seen rd buf st ≡ none → events_from rd buf st ≡ []
  events_end st h = events_step st ∙ rw h

-- the events of a span in a reading that is chosen by name are those from a fresh start that names it
pub events_start : (name : Name) (buf : List ℕ) (a b : ℕ) → events_from (named name) buf (fresh name a b) ≡ events_of (named name) buf a b
unfolding events_of
events_start Rust buf a b = refl
events_start Strict buf a b = refl

module _ (rd : Reading) (buf : List ℕ) (P : ParserState → Type 0) (R : CommentItem → Type 0)
    (on : (st : ParserState) (p : CommentItem × ParserState) → seen rd buf st ≡ some p → P st → R p.0 × P p.1) where
  abbrev Every : ParserState → Type 0
  Every st = P st → (i : CommentItem) → In i (events_from rd buf st) → R i

  every : (n : ℕ) (st : ParserState) → left st < n → Every st
  every zero st h x i m = absurd (omega arith)
  every (suc n) st h x i m = go (every n) (seen rd buf st) refl
    where
      found : (p : CommentItem × ParserState) → seen rd buf st ≡ some p → Every p.1 → In i (p.0 ∷ events_from rd buf p.1) → R i
      found p e later (Memᴰ.head same) = rw same (on st p e x).0
      found p e later (Memᴰ.tail t) = later (on st p e x).1 i t

      go : ((t : ParserState) → left t < n → Every t) → (o : Option (CommentItem × ParserState)) → seen rd buf st ≡ o → R i
      go later none e = absurd (Memᴰ.not-nil (rw (events_end rd buf st e) at m))
      go later (some p) e = found p e (later p.1 (omega (arith, (seen_on rd buf st p e).less))) (rw (events_on rd buf st p.0 p.1 e) at m)

  -- P along the way, and R of each event on it
  pub every_event : (st : ParserState) → Every st
  every_event st = every (left st + 1) st (omega arith)
