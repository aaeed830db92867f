-- A list writer's loop: what holds while records of k words are laid one after the other, the law of a turn, and the answers.
-- Assumes nothing.
use mathlib.Core.Path.{◌≡◌, refl, sym, ap, ◌∙◌}
use mathlib.Core.Bool.{Bool, true, false, cond}
use Prim.Native.Nat.{ℕ, ◌+◌, ◌-◌, ◌*◌, ◌≤◌, ◌<◌}
use native.Mathlib.Nat.{add-zero}
use native.Mathlib.Omega.{arith}
use mathlib.Core.List.{List, [], ◌∷◌, ◌++◌, append_assoc, append-nil}
use lib.Dec.{leb}
use lib.ListN.{length, take, drop, length-append, length-drop, take-append-drop, drop_of_length-le}
use lib.Seq.{length-take-le, take-append-add, drop-append-add}
use borrow.Author.Tests.{le-leb, lt-leb, leb-true, leb-false}
use borrow.Rule.Slice.PartMut.{mid_of, put_mid}
use mathlib.Core.Option.{Option, none, some}
use Rattle.std.specs.Prelude.{◌/◌, Result, Ok, Err}
use Rattle.std.proofs.Math.Nat.{mul-le-mul_left}
use Rattle.basics.proofs.Laws.{rest_is}
use Rattle.records.specs.Answer.{Answer, done, short, filled_answer}
use Rattle.records.specs.declared.FillError.{FillError}
use Rattle.records.specs.declared.FillError.TheVariants.{Short}
use Rattle.records.specs.declared.Wrote.{Wrote}
use Rattle.records.specs.Records.{put, laid, used, wrote_of, list_answer, list_left}
use Rattle.records.proofs.Laws.{Wide, put_is, laid_append, laid_long, used_one, used_none}

-- the tail `&mut out[at..]`, as the borrow checker states it: what is lent, and what the whole is when it has come back
abbrev pub tail : ℕ → List ℕ → List ℕ
tail at out = mid_of at (length out - at) out

abbrev pub back : ℕ → List ℕ → List ℕ → List ℕ
back at out last = put_mid at (length out - at) out last

pub tail_is : (at : ℕ) (out : List ℕ) → tail at out ≡ drop at out
tail_is at out = rest_is out at

pub back_is : (at : ℕ) (out last : List ℕ) → back at out last ≡ take at out ++ last
back_is at out last = rw (drop_of_length-le (drop at out) {i = length out - at} (omega (arith, length-drop at out)), append-nil)

-- of the records `all`, to be laid in `out₀`, n are done and `rest` are to come; `out` is the room now, written up to `at`
pub record Laying (k : ℕ) (all rest : List (List ℕ)) (out₀ out : List ℕ) (at n : ℕ) : Type 0 where
  pub inside : at ≤ length out
  pub long : length out ≡ length out₀
  pub counted : n + length rest ≡ length all
  pub written : at + used k rest (length (drop at out)) ≡ used k all (length out₀)
  pub same : take at out ++ laid k rest (drop at out) ≡ laid k all out₀

pub laying_starts : (k : ℕ) (all : List (List ℕ)) (out : List ℕ) → Laying k all all out out 0 0
laying_starts k all out = record { inside = omega arith; long = refl; counted = omega arith; written = omega arith; same = refl }

-- a turn: some records were laid in the tail, and `last` is the tail since
module _ {k : ℕ} {all : List (List ℕ)} {out₀ out : List ℕ} {at n : ℕ} (ws rest : List (List ℕ)) (last : List ℕ) (l : Laying k all (ws ++ rest) out₀ out at n)
    (wide : Wide k ws) (is : last ≡ laid k ws (tail at out)) where
  pub laying_goes : (m : ℕ) → m ≡ used k ws (length (tail at out)) → (at + m ≤ length out) × Laying k all rest out₀ (back at out last) (at + m) (n + length ws)
  laying_goes m e =
      let laid' = laid k ws (drop at out) in
      let u = used k ws (length (drop at out)) in
      let m_is : m ≡ u = rw tail_is at e in
      let now_is : back at out last ≡ take at out ++ laid' = back_is at out last ∙ ap (λ (t : List ℕ). take at out ++ t) (rw tail_is at is) in
      let front : length (take at out) ≡ at = length-take-le at out l.inside in
      let d = length-drop at out in
      let long = laid_long k ws (drop at out) wide in
      let split = laid_append k ws rest (drop at out) wide in
      let total : length (back at out last) ≡ length out = omega (arith, ap length now_is, length-append (take at out) laid', l.inside) in
      let taken : take (at + u) (take at out ++ laid') ≡ take at out ++ take u laid' = past_take u laid' front in
      let dropped : drop (at + u) (take at out ++ laid') ≡ drop u laid' = past_drop u laid' front in (
        omega (arith, l.inside),
        rw m_is (record {
          inside = omega (arith, l.inside);
          long = total ∙ l.long;
          counted = omega (arith, l.counted, length-append ws rest);
          written = rw (now_is, dropped) (omega (arith, l.written, split.1));
          same = rw (now_is, taken, dropped, append_assoc, ← split.0) l.same;
        }),
      )
    where
      past_take : (n : ℕ) (r : List ℕ) → length (take at out) ≡ at → take (at + n) (take at out ++ r) ≡ take at out ++ take n r
      past_take n r f = ap (λ (j : ℕ). take (j + n) (take at out ++ r)) (sym f) ∙ take-append-add (take at out) r n

      past_drop : (n : ℕ) (r : List ℕ) → length (take at out) ≡ at → drop (at + n) (take at out ++ r) ≡ drop n r
      past_drop n r f = ap (λ (j : ℕ). drop (j + n) (take at out ++ r)) (sym f) ∙ drop-append-add (take at out) r n

  -- by what a writer of them answered
  pub laying_wrote : (r : Wrote) → r ≡ wrote_of k ws (length (tail at out))
      → (at + r.words ≤ length out) × Laying k all rest out₀ (back at out last) (at + r.words) (n + r.count)
  laying_wrote r e = rw e (laying_goes (used k ws (length (tail at out))) refl)

-- the same for one record, by what `put` answered
module _ {k : ℕ} {all rest : List (List ℕ)} {out₀ out : List ℕ} {at n : ℕ} (w last : List ℕ) (l : Laying k all (w ∷ rest) out₀ out at n) (wide : length w ≡ k)
    (is : last ≡ put k w (tail at out)) where
  pub laying_put : leb k (length (tail at out)) ≡ true → (at + k ≤ length out) × Laying k all rest out₀ (back at out last) (at + k) (n + 1)
  laying_put b = laying_goes (w ∷ []) rest last l (wide, tt) (is ∙ put_is k w _) k (sym (used_one k w _ b))

  pub laying_short : leb k (length (tail at out)) ≡ false → Laying k all rest out₀ (back at out last) at (n + 1)
  laying_short b = rw add-zero at (laying_goes (w ∷ []) rest last l (wide, tt) (is ∙ put_is k w _) 0 (sym (used_none k w _ b))).1

-- the answer a and the room `out` are those of a list call with this refusal, or with none
abbrev pub Given : Answer → List ℕ → Option Answer → ℕ → List (List ℕ) → List ℕ → Type 0
Given a out refusal k ws out₀ = (a ≡ list_answer refusal k ws (length out₀)) × (out ≡ list_left refusal k ws out₀)

pub given_refused : (a : Answer) (r : Option Answer) (k : ℕ) (ws : List (List ℕ)) (out : List ℕ) → some a ≡ r → Given a out r k ws out
unfolding list_answer list_left
given_refused a r k ws out e = rw (← e) (refl, refl)

-- all is counted and laid: whether it fits decides the answer
module _ (k : ℕ) (ws : List (List ℕ)) (out₀ : List ℕ) {out : List ℕ} {n : ℕ} (counted : n ≡ length ws) (is : out ≡ laid k ws out₀) (r : Option Answer) (good : none ≡ r) where
  pub listed_done : k * n ≤ length out₀ → Given (done n) out r k ws out₀
  unfolding list_answer list_left
  listed_done h = rw (← good, ← counted) (simp (le-leb _ _ h), is)

  pub listed_short : length out₀ < k * n → Given (short n) out r k ws out₀
  unfolding list_answer list_left
  listed_short h = rw (← good, ← counted) (simp (lt-leb _ _ h), is)

  -- what `fits` tells of the count
  pub listed_fits : 0 < k → (x : Result ℕ FillError) → x ≡ cond (leb n (length out₀ / k)) (Ok n) (Err (Short n)) → Given (filled_answer x) out r k ws out₀
  listed_fits some_words x told = go (leb n (length out₀ / k)) refl
    where
      go : (t : Bool) → leb n (length out₀ / k) ≡ t → Given (filled_answer x) out r k ws out₀
      go true t = rw (told, t) (listed_done (omega (arith, mul-le-mul_left k (leb-true n (length out₀ / k) t))))
      go false t = rw (told, t) (listed_short (omega (arith, mul-le-mul_left k (leb-false n (length out₀ / k) t))))

-- at the end of a writer's loop nothing is to come
module _ {k : ℕ} {all : List (List ℕ)} {out₀ out : List ℕ} {at n : ℕ} (l : Laying k all [] out₀ out at n) where
  pub all_counted : n ≡ length all
  all_counted = omega (arith, l.counted)

  pub all_written : at ≡ used k all (length out₀)
  unfolding used
  all_written = omega (arith, l.written)

  pub all_laid : out ≡ laid k all out₀
  unfolding laid
  all_laid = sym (take-append-drop at out) ∙ l.same

  pub all_wrote : record { words = at; count = n } ≡ wrote_of k all (length out₀)
  all_wrote = rw (all_written, all_counted)

  pub given_done : (r : Option Answer) → none ≡ r → k * n ≤ length out → Given (done n) out r k all out₀
  given_done r e h = listed_done k all out₀ all_counted all_laid r e (omega (arith, l.long))

  pub given_short : (r : Option Answer) → none ≡ r → length out < k * n → Given (short n) out r k all out₀
  given_short r e h = listed_short k all out₀ all_counted all_laid r e (omega (arith, l.long))

  pub given_fits : 0 < k → (r : Option Answer) → none ≡ r → (x : Result ℕ FillError) → x ≡ cond (leb n (length out / k)) (Ok n) (Err (Short n))
      → Given (filled_answer x) out r k all out₀
  given_fits some_words r e x is = listed_fits k all out₀ all_counted all_laid r e some_words x (rw (← l.long) is)
