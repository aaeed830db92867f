-- `matching::next_match` meets its contract. Of the candidates: the search from here on is the search from the start, and the field that
-- was left is barren. Of the field: one that starts on its way, behind a space, ends like it. Each way out by the label owes that the
-- candidate matched nothing.
-- Assumes nothing.
use mathlib.Core.Path.{◌≡◌, sym, ◌∙◌}
use mathlib.Core.Bool.{Bool}
use mathlib.Core.List.{List}
use Prim.Native.Nat.{ℕ, ◌+◌}
use native.Mathlib.Nat.{le_refl}
use native.Mathlib.Omega.{arith}
use Rattle.std.specs.Prelude.{None}
use Rattle.byte_rules.specs.Reading.{named}
use Rattle.parentheticals.specs.Matching.{rest_at, next_from}
use Rattle.parentheticals.proofs.Inside.{Begins}
use Rattle.parentheticals.proofs.Authors.{len_fits, way_on, author_comma, author_stop}
use Rattle.parentheticals.proofs.Candidates.{Barren, barren_way, rest_open, rest_tail, is_notice, no_head, no_rest, is_credit, candidate_left, candidate_found}
use Rattle.parentheticals.proofs.Lies.{head_begins}
use Rattle.parentheticals.proofs.matching.next_match.Goals as goal
use Rattle.parentheticals.proofs.matching.next_match.Goals.{In-Some-head_at, At-field}

-- the candidate, once its head is told
module _ (h : In-Some-head_at) where
  abbrev s : List ℕ
  s = h.args.text.now

  -- the bytes that the reading bars
  abbrev bars : ℕ → Bool
  bars = (named h.args.reading).bars_author

  abbrev opening : ℕ
  opening = h.in-Some.opening

  abbrev start : ℕ
  start = h.in-Some-head_at.start

  begins : Begins s (opening + 1) start
  begins = head_begins s (opening + 1) (omega (arith, h.in-Some.ensures.inside)) _ _ (sym h.in-Some-head_at.ensures)

  -- no credit follows: the candidate is left
  left : rest_at bars s start ≡ None → next_from bars s (opening + 1) ≡ next_from bars s h.args.from
  left e =
      let o = h.in-Some.ensures in
      let missed = no_rest bars s opening o.inside o.opened (sym h.in_default-notice_at.ensures) _ _ (sym h.in-Some-head_at.ensures) e in
      candidate_left bars s _ o h.candidates.invariant.0 missed

-- its field, wherever the loop over the field stands
module _ (f : At-field) where
  abbrev head : In-Some-head_at
  head = (goal.at.At-field f).In-Some-head_at

  -- it is left here for good: so is the candidate, and the field is noted
  field_left : rest_at (bars head) (s head) f.field.i ≡ None
      → (next_from (bars head) (s head) (opening head + 1) ≡ next_from (bars head) (s head) f.args.from) × Barren (bars head) (s head) (start head) f.field.i
  field_left e =
      let barren = barren_way (bars head) (s head) (start head) f.field.i f.field.invariant.1 e in
      (left head (barren (start head) (le_refl _) f.field.invariant.0 (begins head).spaced), barren)

pub returns-in-Some-notice_at : goal.returns-in-Some-notice_at
returns-in-Some-notice_at c =
    let o = c.in-Some.ensures in
    candidate_found _ _ _ o c.candidates.invariant.0 _ (is_notice _ _ _ o.inside o.opened _ _ (sym c.in-Some-notice_at.ensures))

pub candidates-preserved-in_default-head_at : goal.candidates-preserved-in_default-head_at
candidates-preserved-in_default-head_at c =
    let o = c.in-Some.ensures in
    let missed = no_head _ _ _ o.inside o.opened (sym c.in_default-notice_at.ensures) (sym c.in_default-head_at.ensures) in
    (candidate_left _ _ _ o c.candidates.invariant.0 missed, c.candidates.invariant.1)

pub candidates-preserved-then-start-field : goal.candidates-preserved-then-start-field
candidates-preserved-then-start-field c =
    let h = (goal.at.candidates-preserved-then-start-field c).In-Some-head_at in
    let barren = rw c.in-Some-left.is at c.candidates.invariant.1 in
    (left h (barren (start h) c.if-field-start.true c.if-start-field.true (begins h).spaced), barren)

-- also where an edit lets the search go on behind the field, or at the end
pub candidates-smaller-then-n-eq0 : goal.candidates-smaller-then-n-eq0
candidates-smaller-then-n-eq0 c =
    let f = (goal.at.candidates-smaller-then-n-eq0 c).At-field in
    let o = (head f).in-Some.ensures in
    omega (arith, o.passed.onward, o.inside, (begins (head f)).after, f.field.invariant.0)

pub candidates-preserved-then-n-eq0 : goal.candidates-preserved-then-n-eq0
candidates-preserved-then-n-eq0 c =
    let f = (goal.at.candidates-preserved-then-n-eq0 c).At-field in
    field_left f (rest_open _ _ _ (author_stop _ _ _ (sym c.byte_at.ensures ∙ c.field-test.true) (sym c.author_len-n.ensures ∙ c.if-n-eq0.true)))

pub overflow_add-i : goal.overflow_add-i
overflow_add-i c =
    let h = (goal.at.overflow_add-i c).In-Some-head_at in
    omega (arith, c.author_len-n.ensures, len_fits (bars h) (s h) c.field.i, c.well_formed)

pub field-smaller : goal.field-smaller
field-smaller c =
    let h = (goal.at.field-smaller c).In-Some-head_at in
    omega (arith, c.if-n-eq0.false, c.author_len-n.ensures, len_fits (bars h) (s h) c.field.i)

pub field-preserved : goal.field-preserved
field-preserved c =
    let way = c.field.invariant in
    (omega (arith, way.0), way_on _ _ _ _ _ (sym c.byte_at.ensures ∙ c.field-test.true) c.author_len-n.ensures c.if-n-eq0.false way.1, way.2)

pub candidates-preserved : goal.candidates-preserved
candidates-preserved c =
    let f = (goal.at.candidates-preserved c).At-field in
    let comma = author_comma _ _ _ (sym c.byte_at.ensures ∙ c.field-test.false) in
    let kept = field_left f (rest_tail _ _ _ _ _ comma (sym c.in_default-tail_at.ensures)) in
    (rw c.field.invariant.2 kept.0, kept.1)

pub returns-in-Some : goal.returns-in-Some
returns-in-Some c =
    let f = (goal.at.returns-in-Some c).At-field in
    let h = head f in
    let o = h.in-Some.ensures in
    let comma = author_comma (bars h) (s h) f.field.i (sym c.byte_at.ensures ∙ c.field-test.false) in
    -- the field from its start is the field from here
    let on_way = f.field.invariant.1 (start h) (le_refl _) f.field.invariant.0 (begins h).spaced in
    let rest = rest_tail (bars h) (s h) (start h) _ _ (on_way ∙ comma) (sym c.in-Some-tail_at.ensures) in
    let hit = is_credit _ _ _ o.inside o.opened (sym h.in_default-notice_at.ensures) _ _ (sym h.in-Some-head_at.ensures) _ rest in
    rw c.by-item.ensures (candidate_found _ _ _ o h.candidates.invariant.0 _ hit)
