-- A text written byte by byte at the front of a room.
-- Assumes nothing.
use Prim.Native.Nat.{ℕ, suc, ◌+◌, ◌-◌, ◌≤◌, ◌<◌}
use mathlib.Core.Path.{◌≡◌, refl, ap, sym, ◌∙◌}
use mathlib.Core.List.{List, [], ◌∷◌, ◌++◌, append_assoc}
use native.Mathlib.Nat.{zero-add}
use native.Mathlib.Numerals.{add-one}
use native.Mathlib.Omega.{arith}
use lib.ListN.{length, take, drop, get_or, set, length-append, length-drop, take-append-drop}
use borrow.Rule.Slice.PartMut.{post_of, put_mid, Post-is}
use lib.Seq.{drop-cons, drop-drop, take_at, drop_at, take-append-add, drop-append-add, length-take-le, take-length, paste-suc}

-- of the text, which the room `out₀` can hold, n bytes are written and `rest` is to come; `out` is the room now
pub record Writing (text rest out₀ out : List ℕ) (n : ℕ) : Type 0 where
  pub fits : length text ≤ length out₀
  pub inside : n ≤ length text
  pub to_come_lem : rest ≡ drop n text
  pub room : out ≡ take n text ++ drop n out₀

pub writing_starts : (text out : List ℕ) → length text ≤ length out → Writing text text out out 0
writing_starts text out h = record { fits = h; inside = omega arith; to_come_lem = refl; room = refl }

pub writing_long : {text rest out₀ out : List ℕ} {n : ℕ} → Writing text rest out₀ out n → length out ≡ length out₀
writing_long {text} {rest} {out₀} {out} {n} w =
    omega (arith, ap length w.room, length-append (take n text) (drop n out₀), length-take-le n text w.inside, length-drop n out₀)

-- a turn: the next byte is stored
module _ {text rest out₀ out : List ℕ} {n c : ℕ} (w : Writing text (c ∷ rest) out₀ out n) where
  pub writing_more : n < length text
  writing_more = omega (arith, ap length w.to_come_lem, length-drop n text)

  next : c ∷ rest ≡ get_or text n 0 ∷ drop (suc n) text
  next = w.to_come_lem ∙ drop-cons text n 0 writing_more

  stored : set out n c ≡ take (suc n) text ++ drop (suc n) out₀
  stored =
      let byte : c ≡ get_or text n 0 = cc next in
      rw (w.room, byte) (simp zero-add at (paste-suc out₀ 0 text n 0 (omega (arith, writing_more, w.fits)) writing_more))

  pub writing_goes : Writing text rest out₀ (set out n c) (n + 1)
  writing_goes =
      let after : rest ≡ drop (suc n) text = cc next in
      rw add-one (record { fits = w.fits; inside = omega (arith, writing_more); to_come_lem = after; room = stored })

-- a run of bytes is stored at once, up to place e
module _ (run rest : List ℕ) {text out₀ out : List ℕ} {n e : ℕ} (w : Writing text (run ++ rest) out₀ out n) (ends : n + length run ≡ e) where
  pub run_fits : e ≤ length text
  run_fits = omega (arith, ap length w.to_come_lem, length-drop n text, length-append run rest, w.inside, ends)

  whole : text ≡ take n text ++ (run ++ rest)
  whole = sym (take-append-drop n text) ∙ ap (λ (l : List ℕ). take n text ++ l) (sym w.to_come_lem)

  front : length (take n text) ≡ n
  front = length-take-le n text w.inside

  end_is : e ≡ length (take n text) + length run
  end_is = omega (arith, front, ends)

  taken : take e text ≡ take n text ++ run
  taken =
      ap (take e) whole ∙ ap (λ (k : ℕ). take k (take n text ++ (run ++ rest))) end_is ∙ take-append-add (take n text) (run ++ rest) (length run)
      ∙ ap (λ (l : List ℕ). take n text ++ l) (take_at run rest (length run) refl)

  left : rest ≡ drop e text
  left =
      sym
      (ap (drop e) whole ∙ ap (λ (k : ℕ). drop k (take n text ++ (run ++ rest))) end_is ∙ drop-append-add (take n text) (run ++ rest) (length run)
      ∙ drop_at run rest (length run) refl)

  behind : post_of n (e - n) out ≡ drop e out₀
  behind =
      Post-is n e out (omega (arith, ends)) ∙ ap (drop e) w.room ∙ ap (λ (k : ℕ). drop k (take n text ++ drop n out₀)) end_is
      ∙ drop-append-add (take n text) (drop n out₀) (length run) ∙ drop-drop (length run) n out₀ ∙ ap (λ (k : ℕ). drop k out₀) ends

  pub writing_run : Writing text rest out₀ (put_mid n (e - n) out run) e
  writing_run =
      let before : take n out ≡ take n text = ap (take n) w.room ∙ take_at (take n text) (drop n out₀) n front in
      record {
        fits = w.fits;
        inside = run_fits;
        to_come_lem = left;
        room = rw (before, behind, taken) (sym (append_assoc (take n text) run (drop e out₀)));
      }

-- at the end nothing is to come
module _ {text out₀ out : List ℕ} {n : ℕ} (w : Writing text [] out₀ out n) where
  pub all_written : n ≡ length text
  all_written = omega (arith, w.inside, ap length w.to_come_lem, length-drop n text)

  pub writing_left : out ≡ text ++ drop (length text) out₀
  writing_left = w.room ∙ rw (all_written, take-length text)
