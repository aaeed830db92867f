-- The laws of `over`:
--     over_done               the text call that left this, where there is room
--     over_left               what a text call leaves, where there is room
--     over_more               one byte more
--     over_then               a text after another, written into the tail that is handed on
--     over_long, over_again   it keeps the room's length; a longer one over it leaves nothing of it
--     over_step, over_all     written one by one: a turn, and the end
-- Assumes nothing.
use Prim.Native.Nat.{ℕ, ◌+◌, ◌-◌, ◌≤◌, ◌<◌}
use mathlib.Core.Path.{◌≡◌, refl, ap, sym, ◌∙◌}
use mathlib.Core.List.{List, [], ◌∷◌, ◌++◌, append_assoc}
use mathlib.Core.Option.{Option, none}
use native.Mathlib.Omega.{arith}
use native.Mathlib.Numerals.{add-one}
use lib.ListN.{length, set, get_or, take, drop, length-append, length-drop}
use lib.Seq.{drop_at, drop-cons, drop-drop, set_at, take-suc, take_all, take_at, length-take-le}
use borrow.Rule.Slice.PartMut.{mid_of, put_mid}
use Rattle.records.specs.Answer.{Answer, done}
use Rattle.records.specs.Records.{text_left}
use Rattle.records.proofs.Texts.{Told, told_done}
use Rattle.records.proofs.Laying.{tail_is, back_is}
use Rattle.records.specs.Over.{over}

pub over_done : (n : ℕ) (refusal : Option Answer) (text room last : List ℕ) → none ≡ refusal → n ≡ length text → n ≤ length room → last ≡ over text room
    → Told (done n) last refusal text room
unfolding over
over_done n refusal text room last good counted h is = told_done n refusal text room good counted h last (rw counted is)

pub over_left : (text room : List ℕ) → length text ≤ length room → text_left none text room ≡ over text room
over_left text room h = sym (over_done (length text) none text room _ refl refl h refl).1

pub over_more : (text room : List ℕ) (b at : ℕ) → at ≡ length text → at < length room → set (over text room) at b ≡ over (text ++ (b ∷ [])) room
unfolding over
over_more text room b at end h =
    rw (← end, length-append, ← end, drop-cons room at 0 h, append_assoc, add-one) (set_at text _ _ b at (sym end))

pub over_then : (a b room out last : List ℕ) (at : ℕ) → at ≡ length a → out ≡ over a room → last ≡ over b (mid_of at (length out - at) out)
    → put_mid at (length out - at) out last ≡ over (a ++ b) room
unfolding over
over_then a b room out last at end is lent =
    let front : take at out ≡ a = ap (take at) is ∙ take_at a _ at (sym end) in
    let rest : drop at out ≡ drop (length a) room = ap (drop at) is ∙ drop_at a _ at (sym end) in
    back_is at out last ∙ rw (front, lent, tail_is at out, rest, drop-drop, append_assoc, length-append)

pub over_long : (text room out : List ℕ) → length text ≤ length room → out ≡ over text room → length out ≡ length room
unfolding over
over_long text room out h is = omega (arith, ap length is, length-append text (drop (length text) room), length-drop (length text) room)

pub over_again : (a text room : List ℕ) → length a ≤ length text → over text (over a room) ≡ over text room
unfolding over
over_again a text room h =
    let k = length text - length a in
    let far : length text ≡ length a + k = omega arith in
    let rest : drop (length text) (a ++ drop (length a) room) ≡ drop (length text) room = rw (far, ← drop-drop k (length a) (a ++ drop (length a) room), drop_at a (drop (length a) room) (length a) refl) (drop-drop k (length a) room) in
    rw rest

module _ (from room to : List ℕ) (i : ℕ) (is : to ≡ over (take i from) room) where
  pub over_step : i < length from → length from ≤ length room → set to i (get_or from i 0) ≡ over (take (i + 1) from) room
  over_step h fits =
      rw (is, add-one, take-suc from i 0 h)
      (over_more (take i from) room (get_or from i 0) i (sym (length-take-le i from (omega arith))) (omega arith))

  pub over_all : length from ≤ i → to ≡ over from room
  over_all h = is ∙ rw (take_all i from h)
