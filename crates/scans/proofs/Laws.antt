-- The laws of a scan: how it goes on at each step, and the one induction by which anything is shown of where it stops. Fuel is spoken of here alone.
-- Assumes nothing.
use Prim.Native.Nat.{ℕ, zero, suc, ◌+◌, ◌-◌, ◌≤◌, ◌<◌}
use mathlib.Core.Bool.{Bool, true, false}
use mathlib.Core.Path.{◌≡◌, refl, ap, ◌∙◌, sym}
use native.Mathlib.Nat.{le_refl}
use native.Mathlib.Omega.{arith}
use borrow.Author.Tests.{le-ltb, lt-ltb, ltb-true, ltb-false}
use lib.Dec.{ltb}
use Rattle.basics.proofs.Laws.{differ}
use Rattle.scans.specs.Scan.{walk, scan}
use Rattle.scans.specs.declared.Step.{Step}
use Rattle.scans.specs.declared.Step.TheVariants.{One, Two, Stop}

module _ (rule : ℕ → Step) (e : ℕ) where
  -- what one turn of a walk comes to, by the tests and by what the rule says
  turn : Bool → Step → ℕ → ℕ → ℕ → ℕ
  turn true One i x y = x
  turn true Two i x y = y
  turn true Stop i x y = i
  turn false m i x y = e

  turned : (b : Bool) (m : Step) (i x y : ℕ) → elim b [ false ↦ e | true ↦ elim m [ One ↦ x | Two ↦ y | Stop ↦ i ] ] ≡ turn b m i x y
  unfolding turn
  turned true One i x y = refl
  turned true Two i x y = refl
  turned true Stop i x y = refl
  turned false m i x y = refl

  walks : (f i : ℕ) → walk rule e (suc f) i ≡ turn (ltb i e) (rule i) i (walk rule e f (i + 1)) (walk rule e f (i + 2))
  unfolding walk
  walks f i = turned (ltb i e) (rule i) i (walk rule e f (i + 1)) (walk rule e f (i + 2))

  past : (f i : ℕ) → e ≤ i → walk rule e f i ≡ e
  unfolding walk turn
  past zero i h = refl
  past (suc f) i h = walks f i ∙ rw (le-ltb i e h)

  -- fuel that reaches the end is enough
  enough : (f g i : ℕ) → e ≤ f + i → e ≤ g + i → walk rule e f i ≡ walk rule e g i
  unfolding walk
  enough zero g i p q = sym (past g i (omega arith))
  enough (suc f) zero i p q = past (suc f) i (omega arith)
  enough (suc f) (suc g) i p q =
      walks f i ∙ rw (enough f g (i + 1) (omega arith) (omega arith), enough f g (i + 2) (omega arith) (omega arith)) (sym (walks g i))

  scans : (i : ℕ) → i < e → scan rule e i ≡ turn true (rule i) i (scan rule e (i + 1)) (scan rule e (i + 2))
  unfolding scan
  scans i h =
      enough (e - i) (suc (e - (i + 1))) i (omega arith) (omega arith)
      ∙ walks (e - (i + 1)) i
      ∙ rw (lt-ltb i e h, enough (e - (i + 1)) (e - (i + 2)) (i + 2) (omega arith) (omega arith))

  module _ (i : ℕ) where
    pub scan_end : e ≤ i → scan rule e i ≡ e
    unfolding scan
    scan_end h = past (e - i) i h

    pub scan_one : i < e → rule i ≡ One → scan rule e i ≡ scan rule e (i + 1)
    unfolding turn
    scan_one h r = scans i h ∙ rw r

    pub scan_two : i < e → rule i ≡ Two → scan rule e i ≡ scan rule e (i + 2)
    unfolding turn
    scan_two h r = scans i h ∙ rw r

    pub scan_stop : i < e → rule i ≡ Stop → scan rule e i ≡ i
    unfolding turn
    scan_stop h r = scans i h ∙ rw r

-- a step from j keeps the invariant Q, or stops at a place that has P
pub data Leads (P Q : ℕ → Type 0) (j : ℕ) : Step → Type 0 where
  by_one : Q (j + 1) → Leads P Q j One
  by_two : Q (j + 2) → Leads P Q j Two
  stops : P j → Leads P Q j Stop

module _ (rule : ℕ → Step) (e : ℕ) (P Q : ℕ → Type 0) where
  module _ (leads : (j : ℕ) → Q j → j < e → Leads P Q j (rule j)) (ends : (j : ℕ) → Q j → e ≤ j → P e) where
    by_step : {m : Step} (i x y : ℕ) → Leads P Q i m → (Q (i + 1) → P x) → (Q (i + 2) → P y) → P (turn rule e true m i x y)
    unfolding turn
    by_step i x y (by_one q) f g = f q
    by_step i x y (by_two q) f g = g q
    by_step i x y (stops p) f g = p

    by_turn : (b : Bool) (i x y : ℕ) → ltb i e ≡ b → Q i → (Q (i + 1) → P x) → (Q (i + 2) → P y) → P (turn rule e b (rule i) i x y)
    unfolding turn
    by_turn true i x y t q f g = by_step i x y (leads i q (ltb-true i e t)) f g
    by_turn false i x y t q f g = ends i q (ltb-false i e t)

    walked : (fuel i : ℕ) → e ≤ fuel + i → Q i → P (walk rule e fuel i)
    unfolding walk
    walked zero i h q = ends i q (omega arith)
    walked (suc n) i h q =
        rw (walks rule e n i)
        (by_turn (ltb i e) i (walk rule e n (i + 1)) (walk rule e n (i + 2)) refl q (walked n (i + 1) (omega arith)) (walked n (i + 2) (omega arith)))

    pub scanned : (i : ℕ) → Q i → P (scan rule e i)
    unfolding scan
    scanned i q = walked (e - i) i (omega arith) q

-- a scan stays between where it starts and the end
module _ (rule : ℕ → Step) (e : ℕ) where
  onward : (k : ℕ) (m : Step) (j : ℕ) → k ≤ j → j < e → Leads (λ n. (k ≤ n) × (n ≤ e)) (λ n. k ≤ n) j m
  onward k One j h l = by_one (omega arith)
  onward k Two j h l = by_two (omega arith)
  onward k Stop j h l = stops (omega arith)

  between : (k i : ℕ) → k ≤ i → k ≤ e → (k ≤ scan rule e i) × (scan rule e i ≤ e)
  between k i h l = scanned rule e (λ n. (k ≤ n) × (n ≤ e)) (λ n. k ≤ n) (λ j q m. onward k (rule j) j q m) (λ j q m. (l, le_refl e)) i h

  pub scan_ge : (k i : ℕ) → k ≤ i → k ≤ e → k ≤ scan rule e i
  scan_ge k i p q = (between k i p q).0

  pub scan_le : (i : ℕ) → scan rule e i ≤ e
  scan_le i = (between 0 i (omega arith) (omega arith)).1

pick : {P : Type 0} (b : Bool) (i k : ℕ) → ltb i k ≡ b → (i < k → P) → (k ≤ i → P) → P
pick true i k t f g = f (ltb-true i k t)
pick false i k t f g = g (ltb-false i k t)

pub by_less : {P : Type 0} (i k : ℕ) → (i < k → P) → (k ≤ i → P) → P
by_less i k f g = pick (ltb i k) i k refl f g

module _ (rule : ℕ → Step) (e : ℕ) where
  pub over : (n i : ℕ) → i + n ≤ e → ((k : ℕ) → k < n → rule (i + k) ≡ One) → scan rule e i ≡ scan rule e (i + n)
  over zero i h f = let z : i + 0 ≡ i = omega arith in rw z
  over (suc n) i h f =
      let a : i + 0 ≡ i = omega arith in
      let z : i + 1 + n ≡ i + suc n = omega arith in
      scan_one rule e i (omega arith) (rw a at (f 0 (omega arith)))
      ∙ over n (i + 1) (omega arith) (λ k l. let y : i + suc k ≡ i + 1 + k = omega arith in rw y at (f (suc k) (omega arith)))
      ∙ ap (scan rule e) z

  -- places at each of which the rule steps one are stepped over
  pub scan_over : (i j : ℕ) → i ≤ j → j ≤ e → ((k : ℕ) → i ≤ k → k < j → rule k ≡ One) → scan rule e i ≡ scan rule e j
  scan_over i j h g f =
      let z : i + (j - i) ≡ j = omega arith in
      over (j - i) i (omega arith) (λ k l. f (i + k) (omega arith) (omega arith)) ∙ ap (scan rule e) z

  module _ (k : ℕ) (f : (m : ℕ) → rule m ≡ Two → m + 1 ≡ k → ⊥) where
    turn_through : (i : ℕ) (m : Step) → rule i ≡ m → i < k → k < scan rule e i → ((j : ℕ) → i < j → j ≤ k → k < scan rule e j → scan rule e k ≡ scan rule e j) → scan rule e k ≡ scan rule e i
    turn_through i One r h l on =
        let z : scan rule e i ≡ scan rule e (i + 1) = scan_one rule e i (omega (arith, scan_le rule e i)) r in
        on (i + 1) (omega arith) (omega arith) (omega arith) ∙ sym z
    turn_through i Two r h l on =
        let z : scan rule e i ≡ scan rule e (i + 2) = scan_two rule e i (omega (arith, scan_le rule e i)) r in
        let n : i + 1 ≡ k → ⊥ = f i r in
        on (i + 2) (omega arith) (omega arith) (omega arith) ∙ sym z
    turn_through i Stop r h l on =
        let z : scan rule e i ≡ i = scan_stop rule e i (omega (arith, scan_le rule e i)) r in
        absurd (let y : ⊥ = omega arith in y)

    through : (n i : ℕ) → k ≤ i + n → i ≤ k → k < scan rule e i → scan rule e k ≡ scan rule e i
    through zero i a h l = let z : k ≡ i = omega arith in rw z
    through (suc n) i a h l =
        by_less i k
        (λ t. turn_through i (rule i) refl t l (λ j p q g. through n j (omega arith) q g))
        (λ t. let z : k ≡ i = omega arith in rw z)

    -- a scan that passes k, and not as the second place of a step of two, goes on from k
    pub scan_through : (i : ℕ) → i ≤ k → k < scan rule e i → scan rule e k ≡ scan rule e i
    scan_through i h l = through (k - i) i (omega arith) h l

-- a test has one answer
pub clash : {P : Type 0} {a : Bool} → a ≡ false → a ≡ true → P
clash f t = absurd (differ cc)
