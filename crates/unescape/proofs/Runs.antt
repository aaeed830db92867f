-- Plain bytes stand for themselves: none of them is an escape byte, whosever the escapes are.
-- Assumes nothing.
use Prim.Native.Nat.{ℕ, ◌+◌, ◌≤◌, ◌<◌}
use mathlib.Core.Path.{◌≡◌, ap, sym, ◌∙◌}
use mathlib.Core.Bool.{false}
use mathlib.Core.List.{List, [], ◌∷◌, ◌++◌, append_assoc}
use native.Mathlib.Omega.{arith}
use lib.Dec.{eqb}
use lib.ListN.{length, take, drop, get_or}
use lib.Seq.{drop_at, take-suc, length-take-le}
use native.Mathlib.Numerals.{add-one}
use Rattle.std.proofs.lemmas.List.{drop-take, drop-append-le}
use Rattle.byte_rules.proofs.Laws.{no_text_escape, no_label_escape, no_math_escape}
use Rattle.scans.specs.Marks.{tick, tilde, lbracket, under}
use Rattle.scans.specs.Plain.{active_at, plain_end, plain_step}
use Rattle.scans.proofs.Laws.{scan_ge, scan_le}
use native.Mathlib.Nat.{le_refl}
use Rattle.scans.proofs.PlainLaws.{plain_byte, run_keeps}
use Rattle.unescape.specs.Unescape.{is_escape, unescaped, step_at}
use Rattle.unescape.specs.declared.Escape.{Escape}
use Rattle.unescape.specs.declared.Escape.TheVariants.{Text, Label, Math}
use Rattle.unescape.proofs.Laws.{step_plain, unescaped_step}

-- what is none of the four is no escape
none_of : (kind : Escape) (c : ℕ) → eqb c tick ≡ false → eqb c lbracket ≡ false → eqb c tilde ≡ false → eqb c under ≡ false → is_escape kind c ≡ false
none_of (Text html) c a b d e = no_text_escape c a b d html e
none_of Label c a b d e = no_label_escape c a b d
none_of Math c a b d e = no_math_escape c a

-- a run of plain bytes ends in the text, and not before it begins
pub run_ahead : (s : List ℕ) (i : ℕ) → i ≤ length s → i ≤ plain_end s i
run_ahead s i h = scan_ge (plain_step s) (length s) i i (le_refl i) h

pub run_within : (s : List ℕ) (i : ℕ) → plain_end s i ≤ length s
run_within s i = scan_le (plain_step s) (length s) i

module _ (kind : Escape) (s : List ℕ) where
  module _ (i : ℕ) (h : i < length s) (m : active_at s i ≡ false) where
    pub no_escape : is_escape kind (get_or s i 0) ≡ false
    no_escape = let f = plain_byte s i h m in none_of kind (get_or s i 0) f.not_1 f.not_4 f.not_3 f.not_6

    pub plain_first : unescaped (is_escape kind) (drop i s) ≡ get_or s i 0 ∷ unescaped (is_escape kind) (drop (i + 1) s)
    plain_first =
        let one : step_at (is_escape kind) s i ≡ 1 = step_plain (is_escape kind) s i no_escape in
        rw one at (unescaped_step (is_escape kind) s i h)

  -- the bytes up to i, and those to come unescaped
  abbrev total : ℕ → ℕ
  total i = i + length (unescaped (is_escape kind) (drop i s))

  -- a run of plain bytes stands for itself
  run_with : ℕ → List ℕ
  run_with i = take i s ++ unescaped (is_escape kind) (drop i s)

  run_step : (k : ℕ) → k < length s → active_at s k ≡ false → run_with k ≡ run_with (k + 1)
  unfolding run_with
  run_step k l m = rw (plain_first k l m, add-one, take-suc s k 0 l) (sym (append_assoc (take k s) (get_or s k 0 ∷ []) _))

  pub run_same : (i m p : ℕ) → p ≡ plain_end s i → i + m ≡ p → p ≤ length s
      → unescaped (is_escape kind) (drop i s) ≡ take m (drop i s) ++ unescaped (is_escape kind) (drop p s)
  unfolding run_with
  run_same i m p run e h =
      let all : run_with i ≡ run_with p = run_keeps s run_with run_step i (omega arith) ∙ ap run_with (sym run) in
      let front : drop i (run_with i) ≡ unescaped (is_escape kind) (drop i s) = drop_at (take i s) _ i (length-take-le i s (omega arith)) in
      let part : drop i (take p s) ≡ take m (drop i s) = ap (λ (k : ℕ). drop i (take k s)) (sym e) ∙ drop-take i m s in
      sym front ∙ ap (drop i) all ∙ drop-append-le i (take p s) _ (omega (arith, length-take-le p s h, e))
      ∙ ap (λ (l : List ℕ). l ++ unescaped (is_escape kind) (drop p s)) part

  -- a run of plain bytes is as long unescaped
  pub run_length : (i p : ℕ) → p ≡ plain_end s i → i ≤ length s → total i ≡ total p
  run_length i p e h = rw e (run_keeps s total (λ k l m. omega (arith, ap length (plain_first k l m))) i h)
