-- Plain bytes are stepped over: no active byte stands at any place that the scan over them passes.
-- Assumes nothing.
use Prim.Native.Nat.{ℕ, zero, suc, ◌+◌, ◌-◌, ◌≤◌, ◌<◌}
use mathlib.Core.Bool.{Bool, true, false, ◌||◌}
use mathlib.Core.Path.{◌≡◌, refl, ap, ◌∙◌, sym}
use mathlib.Core.List.{List}
use native.Mathlib.Nat.{le_refl}
use native.Mathlib.Omega.{arith}
use lib.Dec.{eqb}
use lib.ListN.{length, get_or}
use Rattle.look.specs.Look.{byte_at}
use Rattle.look.proofs.Laws.{holds_in, byte_test, doubled_not}
use Rattle.scans.specs.Marks.{tick, tilde, lbracket, under, less, lf, cr, space}
use Rattle.scans.specs.Ends.{label_stopper, label_step}
use Rattle.scans.specs.Plain.{is_active, is_label_active, active_at, plain_step, plain_end, Lacks, Plain8}
use Rattle.scans.specs.declared.Step.TheVariants.{One}
use Rattle.scans.proofs.TagLaws.{html_not, opens_not}
use Rattle.scans.proofs.Laws.{by_less, clash, scan_one, scan_stop, scan_le, scan_ge, over}

-- none of six tests
pub record Free (a b c d e f : Bool) : Type 0 where
  pub not_1 : a ≡ false
  pub not_2 : b ≡ false
  pub not_3 : c ≡ false
  pub not_4 : d ≡ false
  pub not_5 : e ≡ false
  pub not_6 : f ≡ false

pub free : (a b c d e f : Bool) → (a || b || c || d || e || f) ≡ false → Free a b c d e f
free true b c d e f h = clash h refl
free false true c d e f h = clash h refl
free false false true d e f h = clash h refl
free false false false true e f h = clash h refl
free false false false false true f h = clash h refl
free false false false false false f h = record { not_1 = refl; not_2 = refl; not_3 = refl; not_4 = refl; not_5 = refl; not_6 = h }

pub none : {a b c d e f : Bool} → Free a b c d e f → (a || b || c || d || e || f) ≡ false
none r = rw (r.not_1, r.not_2, r.not_3, r.not_4, r.not_5, r.not_6)

module _ (s : List ℕ) (k : ℕ) (h : k < length s) where
  byte_not : (b : ℕ) → eqb (get_or s k 0) b ≡ false → byte_at s k b ≡ false
  byte_not b n = byte_test s k b h ∙ n

  active_test : active_at s k ≡ is_active (get_or s k 0)
  unfolding active_at
  active_test = holds_in is_active s k h

  pub active_not : is_active (get_or s k 0) ≡ false → active_at s k ≡ false
  active_not n = active_test ∙ n

  pub plain_one : active_at s k ≡ false → plain_step s k ≡ One
  unfolding plain_step
  plain_one n = rw (plain_step, n)

  -- a plain byte is none of the active ones
  pub plain_byte : active_at s k ≡ false → let b = get_or s k 0 in Free (eqb b tick) (eqb b less) (eqb b tilde) (eqb b lbracket) (eqb b lf) (eqb b under)
  unfolding is_active
  plain_byte n = let b = get_or s k 0 in free (eqb b tick) (eqb b less) (eqb b tilde) (eqb b lbracket) (eqb b lf) (eqb b under) (sym active_test ∙ n)

  -- at a plain byte stands none of the active ones
  pub active_free : active_at s k ≡ false → Free (byte_at s k tick) (byte_at s k less) (byte_at s k tilde) (byte_at s k lbracket) (byte_at s k lf) (byte_at s k under)
  active_free n =
      let f = plain_byte n in
      record { not_1 = byte_not tick f.not_1; not_2 = byte_not less f.not_2; not_3 = byte_not tilde f.not_3; not_4 = byte_not lbracket f.not_4; not_5 = byte_not lf f.not_5; not_6 = byte_not under f.not_6 }

  -- in a label the rule steps over a byte that is not active there
  pub label_one : is_label_active (get_or s k 0) ≡ false → label_step s k ≡ One
  unfolding is_label_active label_step label_stopper
  label_one n =
      let b = get_or s k 0 in
      let f = free (eqb b lbracket) (eqb b tick) (eqb b less) (eqb b lf) (eqb b cr) (eqb b space) n in
      let x : byte_at s k lbracket ≡ false = byte_not lbracket f.not_1 in
      let y : byte_at s k tick ≡ false = byte_not tick f.not_2 in
      rw (label_step, doubled_not s k lbracket x, doubled_not s k tick y, label_stopper, byte_not space f.not_6, byte_not cr f.not_5, byte_not lf f.not_4, y, opens_not s k x, html_not s k (byte_not less f.not_3))

pub plain_8 : (s : List ℕ) (i : ℕ) → i + 8 ≤ length s → Lacks s i 8 tick → Lacks s i 8 less → Lacks s i 8 tilde → Lacks s i 8 lbracket → Lacks s i 8 lf → Lacks s i 8 under → Plain8 s i
unfolding is_active
plain_8 s i w a b c d e f =
    record {
      within = w;
      none = λ k l. active_not s (i + k) (omega arith) (none (record { not_1 = a k l; not_2 = b k l; not_3 = c k l; not_4 = d k l; not_5 = e k l; not_6 = f k l }));
    }

-- eight plain bytes are stepped over
pub over_8 : (s : List ℕ) (i : ℕ) → Plain8 s i → plain_end s i ≡ plain_end s (i + 8)
over_8 s i p = over (plain_step s) (length s) 8 i p.within (λ k l. let w : i + 8 ≤ length s = p.within in plain_one s (i + k) (omega arith) (p.none k l))

-- every place that the scan over plain bytes passes is plain
module _ (s : List ℕ) where
  plain_turn : (i : ℕ) (b : Bool) → active_at s i ≡ b → i < length s → (k : ℕ) → i ≤ k → k < plain_end s i → ((k : ℕ) → i + 1 ≤ k → k < plain_end s (i + 1) → active_at s k ≡ false) → active_at s k ≡ false
  unfolding plain_step
  plain_turn i true m h k a l on =
      let z : plain_end s i ≡ i = scan_stop (plain_step s) (length s) i h (rw (plain_step, m)) in
      absurd (let y : ⊥ = omega arith in y)
  plain_turn i false m h k a l on =
      let z : plain_end s i ≡ plain_end s (i + 1) = scan_one (plain_step s) (length s) i h (rw (plain_step, m)) in
      by_less i k (λ g. on k (omega arith) (omega arith)) (λ g. let y : k ≡ i = omega arith in rw y m)

  plain_from : (n i : ℕ) → length s ≤ i + n → (k : ℕ) → i ≤ k → k < plain_end s i → active_at s k ≡ false
  plain_from zero i e k a l = absurd (let y : ⊥ = omega (arith, scan_le (plain_step s) (length s) i) in y)
  plain_from (suc n) i e k a l =
      plain_turn i (active_at s i) refl (omega (arith, scan_le (plain_step s) (length s) i)) k a l (plain_from n (i + 1) (omega arith))

  pub plain_passed : (i k : ℕ) → i ≤ k → k < plain_end s i → active_at s k ≡ false
  plain_passed i k a l = plain_from (length s) i (omega arith) k a l

  -- a byte of a run of plain bytes that ends at p
  module _ (i p : ℕ) (run : p ≡ plain_end s i) (l : i < p) where
    pub run_in : i < length s
    run_in = omega (arith, scan_le (plain_step s) (length s) i)

    pub run_plain : active_at s i ≡ false
    run_plain = plain_passed i i (le_refl i) (omega arith)

    pub run_on : p ≡ plain_end s (i + 1)
    run_on = run ∙ scan_one (plain_step s) (length s) i run_in (plain_one s i run_in run_plain)

  -- what no plain byte changes, a run of them does not change
  module _ {A : Type 0} (f : ℕ → A) (keeps : (k : ℕ) → k < length s → active_at s k ≡ false → f k ≡ f (k + 1)) where
    keeps_to : (n i p : ℕ) → p ≡ plain_end s i → i + n ≡ p → f i ≡ f p
    keeps_to zero i p run e = let z : i ≡ p = omega arith in ap f z
    keeps_to (suc n) i p run e =
        let l : i < p = omega arith in
        keeps i (run_in i p run l) (run_plain i p run l) ∙ keeps_to n (i + 1) p (run_on i p run l) (omega arith)

    pub run_keeps : (i : ℕ) → i ≤ length s → f i ≡ f (plain_end s i)
    run_keeps i h = keeps_to (plain_end s i - i) i (plain_end s i) refl (omega (arith, scan_ge (plain_step s) (length s) i i (le_refl i) h))
