-- A loop over the events of a span that lays what each of them gives, at most one record: what holds at its head, a turn, and the end.
-- Assumes nothing.
use Prim.Native.Nat.{ℕ, zero, suc, ◌+◌, ◌*◌, ◌≤◌, ◌<◌}
use mathlib.Core.Path.{◌≡◌, refl, sym, ap, subst}
use mathlib.Core.List.Memᴰ
use mathlib.Core.List.{List, [], ◌∷◌, ◌++◌}
use mathlib.Core.Option.{Option, none, some}
use native.Mathlib.Omega.{arith}
use lib.ListN.{length}
use Rattle.basics.specs.Member.{In}
use Rattle.byte_rules.specs.Reading.{Reading}
use Rattle.records.specs.Answer.{longest, span_refusal}
use Rattle.records.specs.Records.{laid, wrote_of}
use Rattle.records.specs.declared.Wrote.{Wrote}
use Rattle.records.proofs.Answers.{span_accepted}
use Rattle.records.proofs.Laws.{Wide}
use Rattle.records.proofs.Laying.{Laying, tail, back, laying_starts, laying_wrote}
use Rattle.comment_parser.specs.Item.{placed_of}
use Rattle.comment_parser.specs.Bounds.{Within}
use Rattle.comment_parser.specs.State.{fresh}
use Rattle.comment_parser.specs.Events.{left, seen, events_from, events_of}
use Rattle.comment_parser.specs.declared.CommentItem.{CommentItem}
use Rattle.comment_parser.specs.declared.ParserState.{ParserState}
use Rattle.comment_parser.proofs.Events.{seen_on, events_on, events_end}
use Rattle.comment_parser.specs.Items.{Ordered}
use Rattle.comment_parser.proofs.InOrder.{given, seen_in_order, given_le}
use Rattle.comment_parser.proofs.Reached.{Reached, fresh_reached, seen_lies, every_within}

-- events that all lie within so many bytes
abbrev pub AllWithin : ℕ → List CommentItem → Type 0
AllWithin high [] = Unit
AllWithin high (i ∷ is) = Within 0 high (placed_of i) × AllWithin high is

all_within : (high : ℕ) (is : List CommentItem) → ((i : CommentItem) → In i is → Within 0 high (placed_of i)) → AllWithin high is
all_within high [] f = tt
all_within high (i ∷ is) f = (f i (Memᴰ.head refl), all_within high is (λ j m. f j (Memᴰ.tail m)))

-- no more events come than are left: two for each byte, and what waits
module _ (rd : Reading) (buf : List ℕ) where
  counted : (n : ℕ) (st : ParserState) → left st < n → length (events_from rd buf st) ≤ left st
  counted zero st h = absurd (omega arith)
  counted (suc n) st h = go (counted n) (seen rd buf st) refl
    where
      go : ((t : ParserState) → left t < n → length (events_from rd buf t) ≤ left t) → (o : Option (CommentItem × ParserState)) → seen rd buf st ≡ o → length (events_from rd buf st) ≤ left st
      go later none e = rw (events_end rd buf st e) (omega arith)
      go later (some p) e =
          let less = (seen_on rd buf st p e).less in
          let ih = later p.1 (omega arith) in
          rw (events_on rd buf st p.0 p.1 e) (omega arith)

  pub events_few : (a b : ℕ) → length (events_of rd buf a b) ≤ 2 * b
  unfolding events_of
  events_few a b = let c = counted (left (fresh rd.name a b) + 1) (fresh rd.name a b) (omega arith) in omega (arith, c)

-- the events of a span lie in it, in order
module _ (rd : Reading) (buf : List ℕ) where
  lower : {low low' : ℕ} (high : ℕ) (is : List CommentItem) → low' ≤ low → Ordered low high is → Ordered low' high is
  lower high [] h o = tt
  lower high (i ∷ is) h o = (record { above = omega (arith, o.0.above); placed = o.0.placed; ordered = o.0.ordered; below = o.0.below }, o.1)

  ordered : (n : ℕ) (st : ParserState) → left st < n → Reached st → Ordered (given st) st.end (events_from rd buf st)
  ordered zero st h r = absurd (omega arith)
  ordered (suc n) st h r = go (ordered n) (seen rd buf st) refl
    where
      go : ((t : ParserState) → left t < n → Reached t → Ordered (given t) t.end (events_from rd buf t)) → (o : Option (CommentItem × ParserState)) → seen rd buf st ≡ o
          → Ordered (given st) st.end (events_from rd buf st)
      go later none e = rw (events_end rd buf st e) tt
      go later (some p) e =
          let on = seen_on rd buf st p e in
          let w = seen_in_order rd buf st p e r in
          let reached = (seen_lies rd buf st p e r).reached in
          let rest = lower p.1.end (events_from rd buf p.1) w.below (later p.1 (omega (arith, on.less)) reached) in
          rw (events_on rd buf st p.0 p.1 e)
          (record { above = w.above; placed = w.placed; ordered = w.ordered; below = omega (arith, w.below, given_le p.1 reached, on.within, on.same_end) }, subst (λ (e : ℕ). Ordered (placed_of p.0).end e (events_from rd buf p.1)) on.same_end rest)

  pub events_ordered : (a b : ℕ) → Ordered a b (events_of rd buf a b)
  unfolding events_of
  events_ordered a b = ordered (left (fresh rd.name a b) + 1) (fresh rd.name a b) (omega arith) (fresh_reached rd.name a b)

-- what an event gives, at most one record of k words, and the records of some events
pub record Gives (k : ℕ) (give : CommentItem → List (List ℕ)) (records : List CommentItem → List (List ℕ)) : Type 0 where
  pub wide : (i : CommentItem) → Wide k (give i)
  pub one : (i : CommentItem) → length (give i) ≤ 1
  pub on : (i : CommentItem) (is : List CommentItem) → records (i ∷ is) ≡ give i ++ records is
  pub over : records [] ≡ []

-- at the loop's head: the records of the events that are left are to be laid behind those before, and the count fits
pub record Going (k : ℕ) (buf : List ℕ) (records : List CommentItem → List (List ℕ)) (all : List (List ℕ)) (out₀ out : List ℕ) (is : List CommentItem) (at n : ℕ) : Type 0 where
  pub short : length buf ≤ longest
  pub within : AllWithin (length buf) is
  pub few : n + length is ≤ 2 * longest
  pub laying : Laying k all (records is) out₀ out at n

pub going_starts : (rd : Reading) (k : ℕ) (buf : List ℕ) (records : List CommentItem → List (List ℕ)) (start end : ℕ) (out : List ℕ) (is : List CommentItem)
    → none ≡ span_refusal (length buf) start end → is ≡ events_of rd buf start end → Going k buf records (records (events_of rd buf start end)) out out is 0 0
going_starts rd k buf records start end out is good e =
    let accepted = span_accepted (length buf) start end (sym good) in
    let few = events_few rd buf start end in
    rw e (record {
      short = accepted.0;
      within = all_within (length buf) (events_of rd buf start end) (every_within rd buf start end);
      few = omega (arith, accepted, few);
      laying = laying_starts k (records (events_of rd buf start end)) out;
    })

module _ {k : ℕ} {buf : List ℕ} {give : CommentItem → List (List ℕ)} {records : List CommentItem → List (List ℕ)} (gives : Gives k give records)
    {all : List (List ℕ)} {out₀ out : List ℕ} {is : List CommentItem} {at n : ℕ} (g : Going k buf records all out₀ out is at n) where
  -- the next event lies within the buffer, and so its numbers fit a word
  module _ {i : CommentItem} {more : List CommentItem} (e : is ≡ i ∷ more) where
    ahead : Going k buf records all out₀ out (i ∷ more) at n
    ahead = rw e at g

    pub next_within : Within 0 (length buf) (placed_of i)
    next_within = ahead.within.0

    pub next_fits : Within 0 longest (placed_of i)
    next_fits = let w = next_within in record { above = w.above; placed = w.placed; ordered = w.ordered; below = omega (arith, w.below, g.short) }

    -- a turn: what it gives was laid in the tail, and `last` is the tail since
    pub going_on :
        {w : Wrote} → w ≡ wrote_of k (give i) (length (tail at out))
        → {last : List ℕ} → last ≡ laid k (give i) (tail at out)
        → (at + w.words ≤ length out) × Going k buf records all out₀ (back at out last) more (at + w.words) (n + w.count)
    going_on {w} wrote {last} is_laid =
        let one = gives.one i in
        let count = ap (λ (x : Wrote). x.count) wrote in
        let to_come = rw (gives.on i more) at ahead.laying in
        let lies = laying_wrote (give i) (records more) last to_come (gives.wide i) is_laid w wrote in
        (lies.0, record { short = g.short; within = ahead.within.1; few = omega (arith, ahead.few); laying = lies.1 })

  -- the end: nothing is to come
  pub going_ends : is ≡ [] → Laying k all [] out₀ out at n
  going_ends e = rw (e, gives.over) at g.laying
