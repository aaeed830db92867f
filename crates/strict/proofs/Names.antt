-- No rule looks at the name of the reading: a state that carries another name reads the same events.
-- Assumes nothing.
use Prim.Native.Nat.{ℕ, zero, suc, ◌+◌, ◌-◌, ◌<◌}
use mathlib.Core.Bool.{Bool, true, false}
use mathlib.Core.List.{List, ◌∷◌}
use mathlib.Core.Option.{Option, none, some}
use mathlib.Core.Path.{◌≡◌, refl, sym, ap, ◌∙◌, fun_ext}
use native.Mathlib.Omega.{arith}
use lib.Dec.{ltb, eqb}
use lib.ListN.{length, take}
use Rattle.std.specs.Prelude.{Option as Maybe, Some, None}
use Rattle.byte_rules.specs.Reading.{Reading}
use Rattle.byte_rules.specs.declared.reading.Reading.{Reading as Name}
use Rattle.look.specs.Look.{byte_at, blank_at, doubled_at, word_at}
use Rattle.scans.specs.Marks.{tick, tilde, lbracket, under, less, lf, open_html, close_html}
use Rattle.scans.specs.Ends.{tag_end, subscript_end, italic_end}
use Rattle.scans.specs.Scan.{scan}
use Rattle.scans.specs.declared.Step.{Step}
use Rattle.records.specs.Answer.{Answer, unless, state_refusal}
use Rattle.comment_parser.specs.Rules.{after_lf, tick_rule, tilde_rule, math_rule, html_rule, bracket_rule, newline_rule, opens_italic, open_under, under_rule, plain_rule, text_rule, first_rule, step_to, pass_act}
use Rattle.comment_parser.specs.Pass.{step_of, run_to, at_end, run_start, pass_step, ended_at, pass, run_item}
use Rattle.comment_parser.specs.Next.{Outcome, refused_as, given_as, some_event, give, read_on, answered, next_of}
use Rattle.comment_parser.specs.Events.{left, paired, seen, events_from}
use Rattle.comment_parser.specs.declared.CommentItem.{CommentItem}
use Rattle.comment_parser.specs.declared.Act.{Act}
use Rattle.comment_parser.specs.declared.Act.TheVariants.{One, Two, Ends}
use Rattle.comment_parser.specs.declared.Next.{Next}
use Rattle.comment_parser.specs.declared.ParserState.{ParserState}
use Rattle.comment_parser.specs.declared.Run.{Run}
use Rattle.comment_parser.proofs.Events.{seen_on, events_on, events_end}

-- choices whose arms are those of another choice, under a function
by_arms : {A B : Type 0} (f : A → B) (t : Bool) {x y : A} {u v : B} → u ≡ f x → v ≡ f y → elim t [ true ↦ u | false ↦ v ] ≡ f (elim t [ true ↦ x | false ↦ y ])
by_arms f true p q = p
by_arms f false p q = q

by_found : {A B : Type 0} (f : A → B) (c : Maybe ℕ) {x : ℕ → A} {y : A} {u : ℕ → B} {v : B} → ((q : ℕ) → u q ≡ f (x q)) → v ≡ f y → elim c [ Some q ↦ u q | None ↦ v ] ≡ f (elim c [ Some q ↦ x q | None ↦ y ])
by_found f (Some q) p n = p q
by_found f None p n = n

module _ (name : Name) where
  -- a state under that name, and what is made of one
  abbrev called : ParserState → ParserState
  called st = record { reading = name; end = st.end; pos = st.pos; math = st.math; html = st.html; waiting = st.waiting; end_italic = st.end_italic; end_subscript = st.end_subscript }

  abbrev called_act : Act → Act
  called_act One = One
  called_act Two = Two
  called_act (Ends q t) = Ends q (called t)

  abbrev called_run : Run → Run
  called_run r = run_to r.end (called r.after)

  abbrev called_next : Next → Next
  called_next n = record { state = called n.state; item = n.item }

  abbrev called_seen : Option (CommentItem × ParserState) → Option (CommentItem × ParserState)
  called_seen none = none
  called_seen (some p) = some (p.0, called p.1)

  -- ---- the rules

  module _ (rd : Reading) (s : List ℕ) (st : ParserState) (from p : ℕ) where
    tick_called : tick_rule s (called st) from p ≡ called_act (tick_rule s st from p)
    unfolding tick_rule
    tick_called = by_arms called_act (doubled_at s p tick) refl (by_arms called_act st.math refl refl)

    tilde_called : tilde_rule s (called st) from p ≡ called_act (tilde_rule s st from p)
    unfolding tilde_rule
    tilde_called = by_arms called_act (doubled_at s p tilde) refl refl

    newline_called : newline_rule s (called st) from p ≡ called_act (newline_rule s st from p)
    unfolding newline_rule
    newline_called = by_arms called_act (after_lf s (p - from) p) refl refl

    math_called : math_rule s (called st) p ≡ called_act (math_rule s st p)
    unfolding math_rule
    math_called = by_arms called_act (blank_at s p) refl refl

    html_called : html_rule s (called st) p ≡ called_act (html_rule s st p)
    unfolding html_rule
    html_called = by_arms called_act st.html (by_arms called_act (word_at s p close_html) refl refl) (by_arms called_act (word_at s p open_html) refl refl)

    bracket_called : bracket_rule s (called st) p ≡ called_act (bracket_rule s st p)
    unfolding bracket_rule
    bracket_called = by_arms called_act (doubled_at s p lbracket) refl (by_found called_act (tag_end s (p + 1)) (λ q. refl) refl)

    under_called : under_rule rd s (called st) p ≡ called_act (under_rule rd s st p)
    unfolding under_rule open_under opens_italic
    under_called =
        by_arms called_act (doubled_at s p under) refl
        (by_arms called_act (eqb p st.end_italic) refl
        (by_arms called_act (opens_italic s st p) (by_found called_act (italic_end rd s (p + 1)) (λ q. refl) refl) (by_found called_act (subscript_end rd s (p + 1)) (λ q. refl) refl)))

    plain_called : plain_rule rd s (called st) from p ≡ called_act (plain_rule rd s st from p)
    unfolding plain_rule
    plain_called = by_arms called_act (byte_at s p lf) newline_called (by_arms called_act (byte_at s p under) under_called refl)

    text_called : text_rule rd s (called st) from p ≡ called_act (text_rule rd s st from p)
    unfolding text_rule
    text_called =
        by_arms called_act (byte_at s p less) html_called
        (by_arms called_act (byte_at s p tilde) tilde_called
        (by_arms called_act (byte_at s p lbracket) bracket_called
        (by_arms called_act st.html refl plain_called)))

    first_called : first_rule rd s (called st) from p ≡ called_act (first_rule rd s st from p)
    unfolding first_rule
    first_called = by_arms called_act (byte_at s p tick) tick_called (by_arms called_act st.math math_called text_called)

    step_called : (q : ℕ) (a : Act) → step_to (called st) q (called_act a) ≡ called_act (step_to st q a)
    unfolding step_to
    step_called q a = by_arms called_act (eqb q st.end_subscript) refl refl

    stepped : (a : Act) → elim (called_act a) [ One ↦ step_to (called st) (p + 1) One | Two ↦ step_to (called st) (p + 2) Two | Ends q t ↦ Ends q t ]
        ≡ called_act (elim a [ One ↦ step_to st (p + 1) One | Two ↦ step_to st (p + 2) Two | Ends q t ↦ Ends q t ])
    stepped One = step_called (p + 1) One
    stepped Two = step_called (p + 2) Two
    stepped (Ends q t) = refl

    act_called : pass_act rd s (called st) from p ≡ called_act (pass_act rd s st from p)
    unfolding pass_act
    act_called =
        ap (λ (a : Act). elim a as (λ _. Act) [ One ↦ step_to (called st) (p + 1) One | Two ↦ step_to (called st) (p + 2) Two | Ends q t ↦ Ends q t ]) first_called
        ∙ stepped (first_rule rd s st from p)

  -- ---- a pass

  module _ (rd : Reading) (s : List ℕ) (st : ParserState) where
    stop_called : (a : Act) → step_of (called_act a) ≡ step_of a
    stop_called One = refl
    stop_called Two = refl
    stop_called (Ends q t) = refl

    steps_called : (from : ℕ) → pass_step rd s (called st) from ≡ pass_step rd s st from
    unfolding pass_step
    steps_called from = fun_ext (λ p. ap step_of (act_called rd s st from p) ∙ stop_called (pass_act rd s st from p))

    run_called : (a : Act) → elim (called_act a) [ Ends q t ↦ run_to q t | One ↦ at_end s (called st) | Two ↦ at_end s (called st) ]
        ≡ called_run (elim a [ Ends q t ↦ run_to q t | One ↦ at_end s st | Two ↦ at_end s st ])
    run_called One = refl
    run_called Two = refl
    run_called (Ends q t) = refl

    ended_called : (from p : ℕ) → ended_at rd s (called st) from p ≡ called_run (ended_at rd s st from p)
    unfolding ended_at
    ended_called from p =
        by_arms called_run (ltb p (length s))
        (ap (λ (a : Act). elim a as (λ _. Run) [ Ends q t ↦ run_to q t | One ↦ at_end s (called st) | Two ↦ at_end s (called st) ]) (act_called rd s st from p) ∙ run_called (pass_act rd s st from p))
        refl

    pass_called : (from : ℕ) → pass rd s (called st) from ≡ called_run (pass rd s st from)
    unfolding pass
    pass_called from = ap (λ (f : ℕ → Step). ended_at rd s (called st) from (scan f (length s) from)) (steps_called from) ∙ ended_called from (scan (pass_step rd s st from) (length s) from)

  -- ---- an answer

  give_called : (t : ParserState) → give (called t) ≡ called_next (give t)
  unfolding give
  give_called t = refl

  module _ (rd : Reading) where
    run_given : (from : ℕ) (item : ℕ → CommentItem) (r : Run) → elim (ltb from r.end) [ true ↦ some_event (called r.after) (item r.end) | false ↦ give (called r.after) ]
        ≡ called_next (elim (ltb from r.end) [ true ↦ some_event r.after (item r.end) | false ↦ give r.after ])
    run_given from item r = by_arms called_next (ltb from r.end) refl (give_called r.after)

    read_called : (s : List ℕ) (st : ParserState) → read_on rd s (called st) ≡ called_next (read_on rd s st)
    unfolding read_on run_start run_item
    read_called s st =
        let from = run_start s st in
        ap (λ (r : Run). elim (ltb from r.end) as (λ _. Next) [ true ↦ some_event r.after (run_item st from r.end) | false ↦ give r.after ]) (pass_called rd s st from)
        ∙ run_given from (run_item st from) (pass rd s st from)

    module _ (buf : List ℕ) (st : ParserState) where
      answered_called : answered rd buf (called st) ≡ called_next (answered rd buf st)
      unfolding answered
      answered_called = go st.waiting
        where
          go : (w : Maybe CommentItem) → elim w [ Some i ↦ give (called st) | None ↦ read_on rd (take st.end buf) (called st) ] ≡ called_next (elim w [ Some i ↦ give st | None ↦ read_on rd (take st.end buf) st ])
          go (Some i) = give_called st
          go None = read_called (take st.end buf) st

      paired_called : (o : Maybe CommentItem) (t : ParserState) → paired o (called t) ≡ called_seen (paired o t)
      paired_called (Some i) t = refl
      paired_called None t = refl

      seen_called : seen rd buf (called st) ≡ called_seen (seen rd buf st)
      unfolding seen next_of
      seen_called =
          let r = state_refusal (length buf) st.pos st.end in
          ap (λ (n : Next). let u : Outcome = unless r (refused_as (called st)) (given_as n) in paired u.event u.state) answered_called ∙ go r
        where
          go : (o : Option Answer)
              → let u : Outcome = unless o (refused_as (called st)) (given_as (called_next (answered rd buf st))) in
              let v : Outcome = unless o (refused_as st) (given_as (answered rd buf st)) in
              paired u.event u.state ≡ called_seen (paired v.event v.state)
          go none = paired_called (answered rd buf st).item (answered rd buf st).state
          go (some a) = refl

    -- the events from a state on
    events_called : (buf : List ℕ) (k : ℕ) (st : ParserState) → left st < k → events_from rd buf (called st) ≡ events_from rd buf st
    events_called buf zero st h = absurd (omega arith)
    events_called buf (suc k) st h = go (seen rd buf st) refl (events_called buf k)
      where
        go : (o : Option (CommentItem × ParserState)) → seen rd buf st ≡ o → ((t : ParserState) → left t < k → events_from rd buf (called t) ≡ events_from rd buf t) → events_from rd buf (called st) ≡ events_from rd buf st
        go none e rest = events_end rd buf (called st) (seen_called buf st ∙ ap called_seen e) ∙ sym (events_end rd buf st e)
        go (some p) e rest =
            events_on rd buf (called st) p.0 (called p.1) (seen_called buf st ∙ ap called_seen e)
            ∙ ap (λ (es : List CommentItem). p.0 ∷ es) (rest p.1 (omega (arith, (seen_on rd buf st p e).less)))
            ∙ sym (events_on rd buf st p.0 p.1 e)

    pub any_name : (buf : List ℕ) (st : ParserState) → events_from rd buf (called st) ≡ events_from rd buf st
    any_name buf st = events_called buf (left st + 1) st (omega arith)
