-- Every event stands at a byte of the text, or at its end behind an underscore: shown rule by rule, in any reading.
-- Assumes nothing.
use Prim.Native.Nat.{ℕ, ◌+◌, ◌-◌, ◌≤◌, ◌<◌}
use mathlib.Core.Bool.{Bool, true, false}
use mathlib.Core.Path.{◌≡◌, refl, sym, subst, ◌∙◌}
use mathlib.Core.Logic.{◌⊎◌, inl, inr}
use mathlib.Core.List.{List}
use mathlib.Core.Option.{some}
use native.Mathlib.Omega.{arith}
use borrow.Author.Tests.{ltb-true}
use lib.Dec.{ltb, eqb}
use lib.ListN.{length, take, drop}
use Rattle.std.specs.Prelude.{Option as Maybe, Some, None}
use Rattle.basics.proofs.Laws.{differ, by_test, by_place}
use Rattle.byte_rules.specs.Reading.{Reading}
use Rattle.look.specs.Look.{byte_at, blank_at, doubled_at, word_at}
use Rattle.look.proofs.Laws.{doubled_within}
use Rattle.scans.specs.Marks.{tick, tilde, lbracket, under, less, lf, open_html, close_html}
use Rattle.scans.specs.Scan.{scan}
use Rattle.scans.specs.Ends.{blanks_end, tag_end, label_end, subscript_step, subscript_end, italic_end, is_url}
use Rattle.scans.proofs.Laws.{by_less}
use Rattle.scans.proofs.TagLaws.{tag_in}
use Rattle.comment_parser.specs.Item.{placed_of}
use Rattle.comment_parser.specs.State.{fresh}
use Rattle.comment_parser.specs.Rules.{after_lf, label_item, tick_rule, tilde_rule, math_rule, html_rule, bracket_rule, newline_rule, opens_italic, open_under, under_rule, plain_rule, text_rule, first_rule, pass_act}
use Rattle.comment_parser.specs.Pass.{run_start, run_item, pass}
use Rattle.comment_parser.specs.Next.{some_event}
use Rattle.comment_parser.specs.Events.{seen, events_of}
use Rattle.comment_parser.specs.Places.{BehindUnder, PlaceOf, at_byte, at_end_case, EveryPlace}
use Rattle.comment_parser.specs.declared.ParserState.{ParserState}
use Rattle.comment_parser.specs.declared.CommentItem.{CommentItem}
use Rattle.comment_parser.specs.declared.Run.{Run}
use Rattle.comment_parser.specs.declared.Act.{Act}
use Rattle.comment_parser.specs.declared.Next.{Next}
use Rattle.comment_parser.proofs.Passes.{Good, Noted, pass_by, act_by}
use Rattle.comment_parser.proofs.Turns.{Turn, waited, ran, ended, over, turn, Passing, passing, run_read}
use Rattle.comment_parser.proofs.Events.{seen_accepted, seen_answered, seen_on, every_event}

module _ (s : List ℕ) where
  -- the noted subscript end is none, or has an underscore before it
  abbrev NotedEnd : ℕ → Type 0
  NotedEnd e = (e ≡ 0) ⊎ BehindUnder s e

  abbrev WaitsAt : Maybe CommentItem → Type 0
  WaitsAt None = Unit
  WaitsAt (Some i) = PlaceOf s (placed_of i).place

  -- a state on the way
  record Stands (st : ParserState) : Type 0 where
    noted : NotedEnd st.end_subscript
    waits : WaitsAt st.waiting

-- a subscript ends behind its mark
subscript_behind : (rd : Reading) (s : List ℕ) (p q : ℕ) → subscript_end rd s (p + 1) ≡ Some q → p < q
unfolding subscript_end
subscript_behind rd s p q = go (ltb (p + 1) j) refl
  where
    j : ℕ
    j = scan (subscript_step rd s) (length s) (p + 1)

    go : (b : Bool) → ltb (p + 1) j ≡ b → elim b [ true ↦ Some j | false ↦ None ] ≡ Some q → p < q
    go true e h = let z : j ≡ q = cc in omega (arith, ltb-true (p + 1) j e)
    go false e h = absurd (differ cc)

-- ---- the rules

module _ (s : List ℕ) (st : ParserState) (from p : ℕ) (i : p < length s) (n : NotedEnd s st.end_subscript) where
  -- what a rule at p may say
  abbrev Sound : Act → Type 0
  Sound a = Good (λ (q : ℕ). q ≤ length s) (λ (r : Run). Stands s r.after) p a

  tick_sound : Sound (tick_rule s st from p)
  unfolding tick_rule
  tick_sound =
      by_test Sound (doubled_at s p tick) (doubled_within s p tick) (λ _.
      by_test Sound st.math (λ _. record { noted = n; waits = at_byte i }) (λ _. record { noted = n; waits = at_byte i }))

  label_at : (a b : ℕ) → PlaceOf s (placed_of (label_item s p a b)).place
  unfolding label_item
  label_at a b = by_test (λ (c : CommentItem). PlaceOf s (placed_of c).place) (is_url (take (b - a) (drop a s))) (λ _. at_byte i) (λ _. at_byte i)

  tilde_sound : Sound (tilde_rule s st from p)
  unfolding tilde_rule
  tilde_sound =
      by_test Sound (doubled_at s p tilde) (doubled_within s p tilde) (λ _.
      let a = blanks_end s (p + 1) in
      record { noted = n; waits = label_at a (label_end s a) })

  math_sound : Sound (math_rule s st p)
  unfolding math_rule
  math_sound = by_test Sound (blank_at s p) (λ _. record { noted = n; waits = tt }) (λ _. omega arith)

  html_sound : Sound (html_rule s st p)
  unfolding html_rule
  html_sound =
      by_test Sound st.html
      (λ _. by_test Sound (word_at s p close_html) (λ _. record { noted = n; waits = at_byte i }) (λ _. omega arith))
      (λ _. by_test Sound (word_at s p open_html) (λ _. record { noted = n; waits = at_byte i }) (λ _. omega arith))

  -- a tag's text may be empty, and then its `]` stands at its place
  bracket_sound : Sound (bracket_rule s st p)
  unfolding bracket_rule
  bracket_sound =
      by_test Sound (doubled_at s p lbracket) (doubled_within s p lbracket) (λ _.
      by_place Sound (tag_end s (p + 1))
      (λ q t. let w = tag_in s (p + 1) q (omega arith) t in record { noted = n; waits = at_byte (omega arith) })
      (λ _. omega arith))

  newline_sound : Sound (newline_rule s st from p)
  unfolding newline_rule
  newline_sound = by_test Sound (after_lf s (p - from) p) (λ _. record { noted = n; waits = at_byte i }) (λ _. omega arith)

  -- a step that comes to the noted subscript end
  noted_at : (q : ℕ) → p < q → q ≤ length s → NotedEnd s q → PlaceOf s q
  noted_at q h l (inl z) = absurd (omega arith)
  noted_at q h l (inr b) = by_less q (length s) (λ k. at_byte k) (λ k. at_end_case (omega arith) b)

  noted_sound : (q : ℕ) → p < q → q ≤ length s → Noted st p Sound q
  noted_sound q h l e = record { noted = n; waits = noted_at q h l (rw e n) }

  module _ (rd : Reading) where
    under_sound : byte_at s p under ≡ true → Sound (under_rule rd s st p)
    unfolding under_rule open_under
    under_sound u =
        by_test Sound (doubled_at s p under) (doubled_within s p under) (λ _.
        by_test Sound (eqb p st.end_italic) (λ _. record { noted = n; waits = at_byte i }) (λ _.
        by_test Sound (opens_italic s st p)
        (λ _. by_place Sound (italic_end rd s (p + 1)) (λ q t. record { noted = n; waits = at_byte i }) (λ _. omega arith))
        (λ _.
        by_place Sound (subscript_end rd s (p + 1))
        (λ q t. record { noted = inr (record { mark = p; before = subscript_behind rd s p q t; is = u }); waits = at_byte i })
        (λ _. omega arith))))

    text_sound : Sound (text_rule rd s st from p)
    unfolding text_rule plain_rule
    text_sound =
        by_test Sound (byte_at s p less) (λ _. html_sound) (λ _.
        by_test Sound (byte_at s p tilde) (λ _. tilde_sound) (λ _.
        by_test Sound (byte_at s p lbracket) (λ _. bracket_sound) (λ _.
        by_test Sound st.html (λ _. omega arith) (λ _.
        by_test Sound (byte_at s p lf) (λ _. newline_sound) (λ _.
        by_test Sound (byte_at s p under) under_sound (λ _. omega arith))))))

    act_sound : Sound (pass_act rd s st from p)
    unfolding first_rule
    act_sound =
        act_by st p Sound rd s from (noted_sound (p + 1) (omega arith)) (noted_sound (p + 2) (omega arith))
        (by_test Sound (byte_at s p tick) (λ _. tick_sound) (λ _. by_test Sound st.math (λ _. math_sound) (λ _. text_sound)))

-- ---- a turn, and the list of events

pass_stands : (rd : Reading) (s : List ℕ) (st : ParserState) (from : ℕ) → from ≤ length s → NotedEnd s st.end_subscript → Stands s (pass rd s st from).after
pass_stands rd s st from h n =
    pass_by rd s st from (λ (q : ℕ). q ≤ length s) (λ (r : Run). Stands s r.after) (λ p k l. act_sound s st from p l n rd) (λ p k l. record { noted = n; waits = tt }) h

abbrev StandsIf : List ℕ → Next → Type 0
StandsIf s n = elim n.item [ Some i ↦ PlaceOf s (placed_of i).place × Stands s n.state | None ↦ Unit ]

-- a run is not empty
run_at : (s : List ℕ) (st : ParserState) (a b : ℕ) → a < b → b ≤ length s → PlaceOf s (placed_of (run_item st a b)).place
unfolding run_item
run_at s st a b h l = by_test (λ (i : CommentItem). PlaceOf s (placed_of i).place) st.math (λ _. at_byte (omega arith)) (λ _. at_byte (omega arith))

stands : {rd : Reading} {s : List ℕ} {st : ParserState} {x : Next} → Passing rd s st → Stands s st → Turn rd s st x → StandsIf s x
stands {s = s} p m (waited w) = (subst (WaitsAt s) w m.waits, record { noted = m.noted; waits = tt })
stands {rd} {s} {st} p m (ran n l) =
    let a = p.after in
    (run_at s st (run_start s st) (run_read rd s st).end l (omega arith), pass_stands rd s st (run_start s st) (omega arith) m.noted)
stands {rd} {s} {st} p m (ended n l w) =
    let a = p.after in
    let after = pass_stands rd s st (run_start s st) (omega arith) m.noted in
    (subst (WaitsAt s) w after.waits, record { noted = after.noted; waits = tt })
stands p m (over n l w) = tt

pub every_place : EveryPlace
unfolding events_of
every_place rd buf start end = every_event rd buf Way (λ (i : CommentItem). PlaceOf (take end buf) (placed_of i).place) on (fresh rd.name start end) (refl, record { noted = inl refl; waits = tt })
  where
    Way : ParserState → Type 0
    Way st = (st.end ≡ end) × Stands (take end buf) st

    on : (st : ParserState) (p : CommentItem × ParserState) → seen rd buf st ≡ some p → Way st → PlaceOf (take end buf) (placed_of p.0).place × Way p.1
    on st p e m =
        let s = take st.end buf in
        let before : Stands s st = subst (λ (b : ℕ). Stands (take b buf) st) (sym m.0) m.1 in
        let here = subst (StandsIf s) (seen_answered rd buf st p e) (stands (passing rd buf st (seen_accepted rd buf st p e)) before (turn rd buf st)) in
        let there = subst (λ (b : ℕ). StandsIf (take b buf) (some_event p.1 p.0)) m.0 here in
        (there.0, ((seen_on rd buf st p e).same_end ∙ m.0, there.1))
