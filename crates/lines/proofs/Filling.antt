-- Laws of `filled`: a turn of the loop that fills, its start and its end; and the law that joins it to `laid`: records laid and then
-- filled are the records with their lines, laid.
-- Assumes nothing.
use mathlib.Core.Path.{◌≡◌, refl, sym, ap, ◌∙◌}
use mathlib.Core.Bool.{Bool, true, false}
use Prim.Native.Nat.{ℕ, zero, suc, ◌+◌, ◌-◌, ◌*◌, ◌≤◌, ◌<◌}
use native.Mathlib.Omega.{arith}
use mathlib.Core.List.{List, [], ◌∷◌, ◌++◌, append_assoc}
use lib.Dec.{leb}
use lib.ListN.{length, take, drop, get_or, set, length-map, length-drop, length-set, take-append-drop}
use lib.Seq.{take-add, drop-drop, take-set-le, drop-set-add, get_or-drop}
use borrow.Author.Tests.{le-leb, lt-leb, leb-false}
use Rattle.scans.proofs.Laws.{by_less}
use Rattle.records.specs.Records.{laid}
use Rattle.records.proofs.Laws.{Wide, laid_short}
use Rattle.lines.specs.Lines.{line_of, lined_width, place_in, with_line, lined, line_word, filled}
use Rattle.lines.specs.Cursor.{IsLine}
use Rattle.lines.specs.declared.cursor.Line.{Line}
use Rattle.lines.proofs.Laws.{Fits, word_is}

module _ (buf : List ℕ) where
  -- fewer words than a record has are left as they are
  pub filled_short : (n : ℕ) (room : List ℕ) → length room < lined_width → filled buf n room ≡ room
  unfolding filled
  filled_short zero room h = refl
  filled_short (suc n) room h = simp (lt-leb _ _ h)

  -- more turns than there are whole records change nothing more
  pub filled_enough : (m n : ℕ) (room : List ℕ) → m ≤ n → length room < lined_width * (m + 1) → filled buf n room ≡ filled buf m room
  unfolding filled
  filled_enough zero n room h l = filled_short n room (omega arith)
  filled_enough (suc m) zero room h l = absurd (omega arith)
  filled_enough (suc m) (suc n) room h l = rw (filled_enough m n (drop lined_width room) (omega arith) (omega (arith, length-drop lined_width room)))

  -- a whole record in front
  filled_first : (n : ℕ) (room : List ℕ) → lined_width ≤ length room
      → filled buf (suc n) room ≡ with_line (line_word buf) (take lined_width room) ++ filled buf n (drop lined_width room)
  unfolding filled
  filled_first n room h = simp (le-leb _ _ h)

  -- its line is filled in by one store
  one_store : (s : List ℕ) (v : ℕ) → lined_width ≤ length s → v ≡ line_word buf (get_or s 1 0) → with_line (line_word buf) (take lined_width s) ≡ take lined_width (set s 4 v)
  unfolding with_line
  one_store [] v h e = absurd (omega arith)
  one_store (a ∷ []) v h e = absurd (omega arith)
  one_store (a ∷ b ∷ []) v h e = absurd (omega arith)
  one_store (a ∷ b ∷ c ∷ []) v h e = absurd (omega arith)
  one_store (a ∷ b ∷ c ∷ d ∷ []) v h e = absurd (omega arith)
  one_store (a ∷ b ∷ c ∷ d ∷ x ∷ s) v h e = ap (λ (y : ℕ). a ∷ b ∷ c ∷ d ∷ y ∷ []) (sym e)

  -- a turn: what is filled up to `at` and to be filled behind it
  filled_turn : (room : List ℕ) (at n v : ℕ) → lined_width ≤ length room - at → v ≡ line_word buf (get_or room (at + 1) 0)
      → take (at + 5) (set room (at + 4) v) ++ filled buf n (drop (at + 5) (set room (at + 4) v)) ≡ take at room ++ filled buf (suc n) (drop at room)
  filled_turn room at n v h e =
      let rest = drop at room in
      let long : lined_width ≤ length rest = omega (arith, length-drop at room) in
      let later : drop lined_width (set rest 4 v) ≡ drop lined_width rest = drop_set_past rest v in
      rw (take-add at 5 (set room (at + 4) v), ← drop-drop 5 at (set room (at + 4) v), drop-set-add at room 4 v, take-set-le at room (at + 4) v (omega arith), append_assoc, later, filled_first n rest long)
      (ap (λ (s : List ℕ). take at room ++ (s ++ filled buf n (drop lined_width rest))) (sym (one_store rest v long (rw get_or-drop e))))
    where
      drop_set_past : (s : List ℕ) (v : ℕ) → drop lined_width (set s 4 v) ≡ drop lined_width s
      drop_set_past [] v = refl
      drop_set_past (a ∷ []) v = refl
      drop_set_past (a ∷ b ∷ []) v = refl
      drop_set_past (a ∷ b ∷ c ∷ []) v = refl
      drop_set_past (a ∷ b ∷ c ∷ d ∷ []) v = refl
      drop_set_past (a ∷ b ∷ c ∷ d ∷ x ∷ s) v = refl

-- what holds while lines are filled in: `left` records from `at` on are to come, and the line is one of the buffer
pub record Fills (buf : List ℕ) (n : ℕ) (room₀ room : List ℕ) (line : Line) (at left : ℕ) : Type 0 where
  pub is_line : IsLine buf line
  pub long : length room ≡ length room₀
  pub inside : at + lined_width * left ≤ length room
  pub same : take at room ++ filled buf left (drop at room) ≡ filled buf n room₀

-- as many are to come as there are, of n, whole
module _ (buf : List ℕ) (n : ℕ) (room : List ℕ) (left : ℕ) (few : left ≤ n) (all : left < n → length room < lined_width * (left + 1)) where
  filled_start : filled buf left room ≡ filled buf n room
  filled_start = by_less left n (λ l. sym (filled_enough buf left n room few (all l))) (λ l. let e : left ≡ n = omega arith in rw e)

  pub fills_starts : lined_width * left ≤ length room → (line : Line) → IsLine buf line → Fills buf n room room line 0 left
  fills_starts inside line is = record { is_line = is; long = refl; inside = omega (arith, inside); same = filled_start }

  pub fills_none : left ≡ 0 → room ≡ filled buf n room
  unfolding filled
  fills_none z = rw z at filled_start

pub fills_on : {buf : List ℕ} {n : ℕ} {room₀ room : List ℕ} {line : Line} {at left : ℕ} → Fills buf n room₀ room line at left → 0 < left → (here : Line) → IsLine buf here
    → (v : ℕ) → v ≡ line_word buf (get_or room (at + 1) 0) → (next fewer : ℕ) → next ≡ at + 5 → fewer + 1 ≡ left → Fills buf n room₀ (set room (at + 4) v) here next fewer
fills_on {buf} {n} {room₀} {room} {line} {at} {left} f h here is v e next fewer on less =
    let one_less : suc fewer ≡ left = omega arith in
    record {
      is_line = is;
      long = length-set room (at + 4) v ∙ f.long;
      inside = omega (arith, f.inside, length-set room (at + 4) v);
      same = rw on (filled_turn buf room at fewer v (omega (arith, f.inside)) e ∙ rw one_less f.same);
    }

pub fills_end : {buf : List ℕ} {n : ℕ} {room₀ room : List ℕ} {line : Line} {at left : ℕ} → Fills buf n room₀ room line at left → left ≡ 0 → room ≡ filled buf n room₀
unfolding filled
fills_end {buf} {n} {room₀} {room} {line} {at} {left} f z = sym (take-append-drop at room) ∙ rw z at f.same

-- ---- records that are laid, and then filled

module _ (buf : List ℕ) where
  -- the line of each record's place fits a word
  abbrev pub AllFit : List (List ℕ) → Type 0
  AllFit [] = Unit
  AllFit (w ∷ ws) = Fits buf (place_in w) × AllFit ws

  pub fit_append : (ws vs : List (List ℕ)) → AllFit ws → AllFit vs → AllFit (ws ++ vs)
  fit_append [] vs p q = q
  fit_append (w ∷ ws) vs p q = (p.0, fit_append ws vs p.1 q)

  -- a record in front
  filled_cons : (n : ℕ) (w s : List ℕ) → length w ≡ lined_width → Fits buf (place_in w) → filled buf (suc n) (w ++ s) ≡ with_line (line_of buf) w ++ filled buf n s
  unfolding filled with_line
  filled_cons n [] s h f = absurd (omega arith)
  filled_cons n (a ∷ []) s h f = absurd (omega arith)
  filled_cons n (a ∷ b ∷ []) s h f = absurd (omega arith)
  filled_cons n (a ∷ b ∷ c ∷ []) s h f = absurd (omega arith)
  filled_cons n (a ∷ b ∷ c ∷ d ∷ []) s h f = absurd (omega arith)
  filled_cons n (a ∷ b ∷ c ∷ d ∷ x ∷ []) s h f = simp (le-leb 5 (length (a ∷ b ∷ c ∷ d ∷ x ∷ s)) (omega arith), word_is buf b f)
  filled_cons n (a ∷ b ∷ c ∷ d ∷ x ∷ y ∷ w) s h f = absurd (omega arith)

  -- records laid in a room, and then filled, are the records with their lines, laid in the room
  pub filled_laid : (ws : List (List ℕ)) (room : List ℕ) → Wide lined_width ws → AllFit ws → filled buf (length ws) (laid lined_width ws room) ≡ laid lined_width (lined buf ws) room
  unfolding laid filled
  filled_laid [] room wide fit = refl
  filled_laid (w ∷ ws) room wide fit = go (leb lined_width (length room)) refl (filled_laid ws (drop lined_width room) wide.1 fit.1)
    where
      go : (b : Bool) → leb lined_width (length room) ≡ b
          → filled buf (length ws) (laid lined_width ws (drop lined_width room)) ≡ laid lined_width (lined buf ws) (drop lined_width room)
          → filled buf (suc (length ws)) (laid lined_width (w ∷ ws) room) ≡ laid lined_width (lined buf (w ∷ ws)) room
      go true b ih = simp b (filled_cons (length ws) w _ wide.0 fit.0 ∙ ap (λ (s : List ℕ). with_line (line_of buf) w ++ s) ih)
      go false b ih =
          let h = leb-false _ _ b in
          rw (laid_short lined_width (w ∷ ws) room h, laid_short lined_width (lined buf (w ∷ ws)) room h) (filled_short buf (suc (length ws)) room h)

-- records were laid and counted, and then filled: it is as if they had been laid with their lines
module _ (buf : List ℕ) (ws : List (List ℕ)) (room : List ℕ) (wide : Wide lined_width ws) (fit : AllFit buf ws) {n : ℕ} {out : List ℕ} (counted : n ≡ length ws) (is : out ≡ laid lined_width ws room) where
  pub lined_counted : n ≡ length (lined buf ws)
  lined_counted = counted ∙ sym (length-map ws (with_line (line_of buf)))

  pub lined_laid : filled buf n out ≡ laid lined_width (lined buf ws) room
  lined_laid = rw (counted, is) (filled_laid buf ws room wide fit)
