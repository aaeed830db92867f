-- The end of events: the theorems of specs/End.antt.
-- Assumes nothing.
use Prim.Native.Nat.{ℕ, ◌≤◌, ◌<◌}
use mathlib.Core.Bool.{Bool, true, false}
use mathlib.Core.List.{List}
use Rattle.std.specs.Prelude.{Some, None}
use mathlib.Core.Path.{◌≡◌, refl, sym, ◌∙◌}
use native.Mathlib.Omega.{arith}
use lib.ListN.{length, take}
use lib.Seq.{length-take-le, get_or-take}
use Rattle.basics.proofs.Laws.{differ}
use Rattle.records.specs.Answer.{bare}
use Rattle.byte_rules.specs.Reading.{Reading}
use Rattle.look.specs.Look.{blank_at}
use Rattle.look.proofs.Alike.{same_inside, blank_same}
use Rattle.scans.specs.Ends.{blanks_end}
use Rattle.scans.proofs.Laws.{by_less, scan_end}
use Rattle.scans.proofs.EndLaws.{blanks_passed, blanks_to_end}
use Rattle.comment_parser.specs.State.{Accepted, moved}
use Rattle.comment_parser.specs.Pass.{at_end, pass_step, run_start}
use Rattle.comment_parser.specs.Next.{Outcome, given_as, next_of}
use Rattle.comment_parser.specs.End.{EndOrNoBlank, the_end, no_blank, NoTokenIsEmpty, NothingLeft, nothing, blanks_in_math, Over, EndAnswered, EndExactlyWhenOver}
use Rattle.comment_parser.specs.declared.Next.{Next}
use Rattle.comment_parser.specs.declared.ParserState.{ParserState}
use Rattle.comment_parser.proofs.Laws.{ran_out, run_start_le, run_start_clean}
use Rattle.comment_parser.proofs.Progress.{act_full}
use Rattle.comment_parser.proofs.Turns.{Turn, waited, ran, ended, over, turn, passing, begun_at_end, run_read}
use Rattle.comment_parser.proofs.Events.{next_is}

-- ---- no token is empty

clean_at : (s : List ℕ) (r : ℕ) → r ≤ length s → blank_at s r ≡ false → EndOrNoBlank s r
clean_at s r h n = by_less r (length s) (λ l. no_blank l n) (λ l. the_end (omega arith))

pub no_token_is_empty : NoTokenIsEmpty
no_token_is_empty rd buf st a =
    let s = take st.end buf in
    let z = length-take-le st.end buf a.fits in
    let h = run_start_le s st (omega (arith, a.inside)) in
    record {
      starts = λ m. clean_at s (run_start s st) h (run_start_clean s st m);
      ends = λ p q t u v e w. act_full s st (run_start s st) p u v rd (run_start_clean s st) q t e w;
    }

-- ---- the end, exactly

module _ (rd : Reading) (buf : List ℕ) (st : ParserState) (a : Accepted buf st) where
  -- the text that it reads
  abbrev text : List ℕ
  text = take st.end buf

  long : length text ≡ st.end
  long = length-take-le st.end buf a.fits

  same_blank : (k : ℕ) → k < st.end → blank_at text k ≡ blank_at buf k
  same_blank k l = blank_same (same_inside (omega (arith, long)) (omega (arith, a.fits)) (get_or-take st.end buf k 0 l))

  -- where nothing is left the run starts at the end, and nowhere else does it
  left_none : (m : Bool) → st.math ≡ m → elim m [ true ↦ blanks_end text st.pos | false ↦ st.pos ] ≡ st.end → NothingLeft buf st
  left_none true m z = blanks_in_math m (λ k l u. sym (same_blank k u) ∙ blanks_passed text st.pos k l (omega (arith, z)))
  left_none false m z = nothing z

  starts_at_end : run_start text st ≡ st.end → NothingLeft buf st
  unfolding run_start
  starts_at_end = left_none st.math refl

  start_of : (m : Bool) → st.math ≡ m → NothingLeft buf st → elim m [ true ↦ blanks_end text st.pos | false ↦ st.pos ] ≡ length text
  start_of true m (nothing z) = blanks_to_end text st.pos (omega (arith, long)) (λ k l u. absurd (omega (arith, long)))
  start_of true m (blanks_in_math _ f) = blanks_to_end text st.pos (omega (arith, long, a.inside)) (λ k l u. same_blank k (omega (arith, long)) ∙ f k l (omega (arith, long)))
  start_of false m (nothing z) = z ∙ sym long
  start_of false m (blanks_in_math t f) = absurd (differ cc)

  run_starts : NothingLeft buf st → run_start text st ≡ length text
  unfolding run_start
  run_starts = start_of st.math refl

  -- no event: nothing waited, the run was empty, and nothing waits behind it
  is_over : {x : Next} → Turn rd text st x → (given_as x).event ≡ None → Over buf st
  is_over (waited w) e = absurd (differ cc)
  is_over (ran n l) e = absurd (differ cc)
  is_over (ended n l w) e = absurd (differ cc)
  is_over (over n l w) e =
      record { no_event_waits = n; nothing_left = starts_at_end (begun_at_end (passing rd buf st a).after w l ∙ long) }

  abbrev end_outcome : Outcome
  end_outcome = record { answer = bare 0; event = None; state = moved st st.end None }

  ends_there : {x : Next} → st.waiting ≡ None → run_read rd text st ≡ at_end text st → run_start text st ≡ length text → Turn rd text st x → given_as x ≡ end_outcome
  ends_there i r z (waited w) = absurd (differ cc)
  ends_there i r z (ran n l) = let k : run_start text st < length text = rw r at l in absurd (omega arith)
  ends_there i r z (ended {i = c} n l w) = let k : None ≡ Some c = rw r at w in absurd (differ cc)
  ends_there i r z (over n l w) = rw (r, long)

  ends : Over buf st → next_of rd buf st ≡ end_outcome
  ends o =
      let z = run_starts o.nothing_left in
      let r : run_read rd text st ≡ at_end text st = ran_out rd text st (run_start text st) (scan_end (pass_step rd text st (run_start text st)) (length text) (run_start text st) (omega (arith, z))) in
      next_is rd buf st a ∙ ends_there o.no_event_waits r z (turn rd buf st)

  when_over : EndAnswered rd buf st → Over buf st
  when_over e = is_over (turn rd buf st) (rw (next_is rd buf st a) at e.1)

pub end_exactly_when_over : EndExactlyWhenOver
end_exactly_when_over rd buf st a =
    record {
      only_when = when_over rd buf st a;
      whenever = λ o. let e = ends rd buf st a o in (rw e, rw e);
      state = λ e. rw (ends rd buf st a (when_over rd buf st a e));
    }
