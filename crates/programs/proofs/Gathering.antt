-- The laws of gathered output:
--     push_room, push_full, push_none    one byte: there is room for it, the buffer is full, the buffer has no bytes
--     gathered_fits, copied              a text for which there is room, and a copy of it behind what waits
--     gathered_then, gather_both         a text behind another
--     gather_on, gather_end              a loop that gathers piece by piece: a turn, and the end
--     gathers_both                       of writers: a text behind another
--     gathering_starts, gathering_on, gathering_end    of writers: a loop that gathers piece by piece
--     in_order                           nothing is lost, and nothing changes its place
-- Assumes nothing.
use Prim.Native.Nat.{ℕ, zero, suc, ◌+◌, ◌≤◌, ◌<◌}
use mathlib.Core.Path.{◌≡◌, refl, sym, ap, ◌∙◌}
use mathlib.Core.Bool.{Bool, true, false, cond}
use mathlib.Core.List.{List, [], ◌∷◌, ◌++◌, append_assoc, append-nil}
use native.Mathlib.Omega.{arith}
use native.Mathlib.Numerals.{add-one}
use lib.Dec.{ltb}
use Rattle.std.specs.Borrow.{MutBor}
use Rattle.std.specs.Result.{IsOk}
use lib.ListN.{length, length-append, set, take}
use lib.Seq.{length-take-le, paste, take-length, take-paste, take_all, take-nil, take-suc-set}
use borrow.Author.Tests.{lt-ltb, le-ltb}
use Rattle.programs.specs.Buffers.{SameBuffer}
use Rattle.programs.specs.Output.{waiting, pushed, gathered, Gathers}
use Rattle.programs.specs.declared.writing.Writer.{Writer}

module _ (buffer : List ℕ) (used b : ℕ) where
  pub push_room : used < length buffer → take (used + 1) (set buffer used b) ≡ gathered (length buffer) (take used buffer) (b ∷ [])
  unfolding gathered pushed
  push_room h = rw (add-one used, take-suc-set buffer used b h, length-take-le used buffer (omega arith), lt-ltb used (length buffer) h)

  module _ (full : length buffer ≤ used) where
    pub push_full : 0 < length buffer → take 1 (set buffer 0 b) ≡ gathered (length buffer) (take used buffer) (b ∷ [])
    unfolding gathered pushed
    push_full h = rw (take_all used buffer full, le-ltb (length buffer) (length buffer) (omega arith)) (one buffer h)
      where
        one : (s : List ℕ) → 0 < length s → take 1 (set s 0 b) ≡ take (length s) (b ∷ [])
        one [] k = absurd (omega arith)
        one (x ∷ s) k = rw (take-nil (length s))

    pub push_none : length buffer ≡ 0 → take 0 buffer ≡ gathered (length buffer) (take used buffer) (b ∷ [])
    unfolding gathered pushed
    push_none h = rw (take_all used buffer full, le-ltb (length buffer) (length buffer) (omega arith), h)

-- a text for which there is room waits behind what waited
gathered_fits : (room : ℕ) (old text : List ℕ) → length old + length text ≤ room → gathered room old text ≡ old ++ text
unfolding gathered pushed
gathered_fits room old [] h = sym (append-nil old)
gathered_fits room old (b ∷ bs) h =
    let one : pushed room old b ≡ old ++ (b ∷ []) = rw (lt-ltb (length old) room (omega arith)) in
    ap (λ (t : List ℕ). gathered room t bs) one ∙ gathered_fits room (old ++ (b ∷ [])) bs (omega (arith, length-append old (b ∷ []))) ∙ append_assoc old (b ∷ []) bs

pub copied : (buffer : List ℕ) (used : ℕ) (text : List ℕ) → used + length text ≤ length buffer
    → take (used + length text) (paste buffer used text (length text)) ≡ gathered (length buffer) (take used buffer) text
copied buffer used text h =
    take-paste buffer used text (length text) (omega arith) (omega arith)
    ∙ rw (take-length text, gathered_fits (length buffer) (take used buffer) text (omega (arith, length-take-le used buffer (omega arith))))

pub gathered_then : (room : ℕ) (old a b : List ℕ) → gathered room (gathered room old a) b ≡ gathered room old (a ++ b)
unfolding gathered
gathered_then room old [] b = refl
gathered_then room old (x ∷ a) b = gathered_then room (pushed room old x) a b

pub gather_both : (room : ℕ) (old a b : List ℕ) {mid next : List ℕ} → mid ≡ gathered room old a → next ≡ gathered room mid b → next ≡ gathered room old (a ++ b)
gather_both room old a b one two = two ∙ rw (one, gathered_then room old a b)

-- to gather a text is to gather its first piece, and then the rest
pub gather_on : (room : ℕ) (old piece rest : List ℕ) {all next to : List ℕ} → all ≡ piece ++ rest → next ≡ gathered room old piece → gathered room old all ≡ to
    → gathered room next rest ≡ to
gather_on room old piece rest split step is = rw (step, gathered_then room old piece rest, ← split) is

pub gather_end : (room : ℕ) (old rest : List ℕ) {to : List ℕ} → rest ≡ [] → gathered room old rest ≡ to → old ≡ to
unfolding gathered
gather_end room old rest none is = rw none at is

same_then : {w m r : MutBor (List ℕ)} → SameBuffer w m → SameBuffer m r → SameBuffer w r
same_then a b = record { name = b.name ∙ a.name; long = b.long ∙ a.long }

-- what waits in a writer's buffer
abbrev held : Writer → List ℕ
held w = waiting w.output w.buffer.now

pub gathers_both : (a b : List ℕ) {w m r : Writer} → Gathers a w m → Gathers b m r → Gathers (a ++ b) w r
gathers_both a b {w} {m} {r} one two =
    record { waits = gather_both (length w.buffer.now) (held w) a b one.waits (rw one.buffer.long at two.waits); kept = λ h. one.kept (two.kept h); buffer = same_then one.buffer two.buffer }

-- a loop that gathers a text piece by piece: to gather the rest is to gather all from the start
pub record Gathering (rest all : List ℕ) (w r : Writer) : Type 0 where
  pub is : gathered (length w.buffer.now) (held r) rest ≡ gathered (length w.buffer.now) (held w) all
  pub kept : IsOk r.output.so_far → IsOk w.output.so_far
  pub buffer : SameBuffer w.buffer r.buffer

pub gathering_starts : (all : List ℕ) (w : Writer) → Gathering all all w w
gathering_starts all w = record { is = refl; kept = λ h. h; buffer = record { name = refl; long = refl } }

pub gathering_on : (piece rest : List ℕ) {left all : List ℕ} {w r s : Writer} → left ≡ piece ++ rest → Gathers piece r s → Gathering left all w r → Gathering rest all w s
gathering_on piece rest {left} {all} {w} {r} {s} split step g =
    record {
      is = gather_on (length w.buffer.now) (held r) piece rest split (rw g.buffer.long at step.waits) g.is;
      kept = λ h. g.kept (step.kept h);
      buffer = same_then g.buffer step.buffer;
    }

pub gathering_end : {rest all : List ℕ} {w r : Writer} → rest ≡ [] → Gathering rest all w r → Gathers all w r
gathering_end {rest} {all} {w} {r} none g = record { waits = gather_end (length w.buffer.now) (held r) rest none g.is; kept = g.kept; buffer = g.buffer }

-- what has gone, and what waits, are what waited and the text, end to end
abbrev Kept : List ℕ → List ℕ → List ℕ → Type 0
Kept waits old text = (gone : List ℕ) × (gone ++ waits ≡ old ++ text)

pushed_kept : (room : ℕ) (old : List ℕ) (b : ℕ) → Kept (pushed room old b) old (b ∷ [])
unfolding pushed
pushed_kept room old b = go (ltb (length old) room) room
  where
    go : (t : Bool) (k : ℕ) → Kept (cond t (old ++ (b ∷ [])) (take k (b ∷ []))) old (b ∷ [])
    go true k = ([], refl)
    go false zero = (old ++ (b ∷ []), append-nil (old ++ (b ∷ [])))
    go false (suc k) = (old, rw (take-nil k))

pub in_order : (room : ℕ) (old text : List ℕ) → Kept (gathered room old text) old text
unfolding gathered
in_order room old [] = ([], sym (append-nil old))
in_order room old (b ∷ bs) =
    let one = pushed_kept room old b in
    let more = in_order room (pushed room old b) bs in (
      one.0 ++ more.0,
      append_assoc one.0 more.0 _ ∙ ap (λ (t : List ℕ). one.0 ++ t) more.1 ∙ sym (append_assoc one.0 (pushed room old b) bs) ∙ ap (λ (t : List ℕ). t ++ bs) one.1 ∙ append_assoc old (b ∷ []) bs,
    )
