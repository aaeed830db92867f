-- `list::parentheticals` meets its contract. The invariant of its loop is `Going`: the records from here, laid in the tail, are the
-- records of the span, laid in the room as it was.
-- Assumes nothing.
use mathlib.Core.Path.{◌≡◌, refl, sym, ap}
use mathlib.Core.List.{List, [], ◌∷◌}
use Prim.Native.Nat.{ℕ, ◌+◌, ◌≤◌}
use native.Mathlib.Omega.{arith}
use lib.ListN.{length, take}
use lib.Seq.{length-take-le}
use Rattle.byte_rules.specs.Reading.{Reading, named}
use Rattle.records.specs.Answer.{longest}
use Rattle.records.specs.declared.Wrote.{Wrote}
use Rattle.records.proofs.Answers.{span_accepted}
use Rattle.records.specs.Records.{laid, wrote_of, sum}
use Rattle.records.proofs.Both.{sum_fits}
use Rattle.records.proofs.Laying.{Laying, tail, back, laying_starts, laying_wrote, given_fits}
use Rattle.parentheticals.specs.Records.{record_of, record_width, records_of}
use Rattle.parentheticals.specs.declared.Found.{Found}
use Rattle.parentheticals.proofs.Lies.{Lies, next_lies}
use Rattle.parentheticals.proofs.Listing.{lies_words, records_from, records_end, records_more}
use Rattle.parentheticals.proofs.list.parentheticals.Goals as goal
use Rattle.parentheticals.proofs.list.parentheticals.Goals.{At-loop-found, In-Some}

-- at the loop's head: the text, the reading, and the records of the span, of which `rest` are to come
abbrev text : At-loop-found → List ℕ
text l = take l.args.end l.args.buf.now

abbrev rd : At-loop-found → Reading
rd l = named l.args.reading

abbrev Laid : At-loop-found → List (List ℕ) → List ℕ → Wrote → Type 0
Laid l rest out wrote = let a = l.args in Laying record_width (records_of (rd l) a.buf.now a.start a.end) rest a.out.now out wrote.words wrote.count

module _ (l : At-loop-found) where
  good : (length l.args.buf.now ≤ longest) × (l.args.start ≤ l.args.end) × (l.args.end ≤ length l.args.buf.now)
  good = span_accepted _ _ _ (sym l.in_ok-check_span.ensures)

  text_length : length (text l) ≡ l.args.end
  text_length = length-take-le _ _ (good).2

-- where one is found: it lies behind the place, and its record is the next
module _ (c : In-Some) where
  abbrev head : At-loop-found
  head = (goal.at.In-Some c).At-loop-found

  abbrev hit : Found
  hit = c.in-Some.found

  hit_lies : Lies head.loop-found.from head.args.end hit
  hit_lies = rw (text_length head) at (next_lies (rd head).bars_author (text head) head.loop-found.from hit (sym c.in-Some.ensures))

  to_come : Laid head (record_of hit ∷ records_from (rd head).bars_author (text head) hit.whole.end) head.loop-found.out head.loop-found.wrote
  to_come = rw (records_more _ _ _ _ (sym c.in-Some.ensures)) at head.loop-found.invariant.laying

  -- after its record is laid: the tail has come back, with the record at its front or as it was
  abbrev tail_was : List ℕ
  tail_was = tail head.loop-found.wrote.words head.loop-found.out

  turned : (w : Wrote) (room : List ℕ) → w ≡ wrote_of record_width (record_of hit ∷ []) (length tail_was) → room ≡ laid record_width (record_of hit ∷ []) tail_was
      → let l = head.loop-found in
      (l.wrote.words + w.words ≤ length l.out)
      × Laid head (records_from (rd head).bars_author (text head) hit.whole.end) (back l.wrote.words l.out room) (sum l.wrote w)
  turned w room e is = laying_wrote (record_of hit ∷ []) _ room to_come (refl, tt) is w e

pub loop-found-init : goal.loop-found-init
loop-found-init c =
    let good = span_accepted _ _ _ (sym c.in_ok-check_span.ensures) in
    record { within = good.1; few = omega arith; laying = laying_starts record_width _ _ }

pub slice_bounds-next_match-end : goal.slice_bounds-next_match-end
slice_bounds-next_match-end c = sym (text_length c)

pub lay_found-laid-requires : goal.lay_found-laid-requires
lay_found-laid-requires c =
    let h = (goal.at.lay_found-laid-requires c).In-Some in
    lies_words _ _ _ (let ok = good (head h) in omega arith) (hit_lies h)

pub loop-found-smaller : goal.loop-found-smaller
loop-found-smaller c = let r = hit_lies (goal.at.loop-found-smaller c).In-Some in omega (arith, r.behind, r.onward, r.inside)

pub loop-found-preserved : goal.loop-found-preserved
loop-found-preserved c =
    let h = (goal.at.loop-found-preserved c).In-Some in
    let laid = c.lay_found-laid.ensures in
    let r = hit_lies h in
    let counted = ap (λ (w : Wrote). w.count) laid.wrote in
    let t = turned h _ _ laid.wrote laid.left in
    let l = head h in
    let ok = good l in
    rw (sum_fits _ _ c.then-wrote.ensures (omega (arith, t.0, l.loop-found.invariant.laying.long, l.well_formed), omega (arith, ok.0, ok.2, counted, r.behind, r.onward, r.inside, l.loop-found.invariant.few)))
    (record {
      within = r.inside;
      few = omega (arith, counted, r.behind, r.onward, r.inside, l.loop-found.invariant.few);
      laying = t.1;
    })

pub returns : goal.returns
returns c =
    let l = (goal.at.returns c).At-loop-found in
    let all = rw (records_end _ _ _ (sym c.in_default.ensures)) at l.loop-found.invariant.laying in
    let both = given_fits all (omega arith) _ l.in_ok-check_span.ensures _ c.fits.ensures in
    record { answer = both.0; left = both.1 }
