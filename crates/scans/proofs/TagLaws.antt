-- The search for a tag: a search that failed is not made again. What a note tells, and that the notes that are made hold.
-- Assumes nothing.
use Prim.Native.Nat.{ℕ, ◌+◌, ◌≤◌, ◌<◌}
use mathlib.Core.Bool.{Bool, true, false, ◌&&◌, not}
use mathlib.Core.Path.{◌≡◌, refl, ◌∙◌, sym}
use mathlib.Core.List.{List}
use native.Mathlib.Omega.{arith}
use borrow.Author.Tests.{lt-ltb, ltb-true, leb-true, le-leb, ne_eqb}
use lib.Dec.{ltb, leb, lit<}
use lib.ListN.{length, get_or}
use Rattle.basics.proofs.Laws.{both, differ}
use Rattle.byte_rules.proofs.Laws.{not_blank}
use Rattle.look.specs.Look.{byte_at, blank_at, doubled_at}
use Rattle.look.proofs.Laws.{byte_within, byte_test, byte_other, blank_test, blank_other, doubled_not, doubled_second, word_not}
use Rattle.scans.specs.Marks.{lf, cr, space, less, lbracket, rbracket, tick}
use Rattle.scans.specs.Ends.{tag_step, tag_stop, tag_end, opens_tag, label_stopper, html_mark, label_step}
use Rattle.scans.specs.Notes.{covers, Holds, Looked}
use Rattle.std.specs.Prelude.{Option, Some, None}
use Rattle.scans.specs.declared.Note.{Note}
use Rattle.scans.specs.declared.Step.TheVariants.{One, Two, Stop}
use Rattle.scans.proofs.Laws.{by_less, clash, scan_one, scan_ge, scan_through}

-- the search for a tag

tag_says_two : (a b c d : Bool) → elim a [ true ↦ Stop | false ↦ elim b [ true ↦ Two | false ↦ elim c [ true ↦ Stop | false ↦ elim d [ true ↦ Stop | false ↦ One ] ] ] ] ≡ Two → b ≡ true
tag_says_two true b c d h = absurd (differ cc)
tag_says_two false true c d h = refl
tag_says_two false false true d h = absurd (differ cc)
tag_says_two false false false true h = absurd (differ cc)
tag_says_two false false false false h = absurd (differ cc)

found_not : (b : Bool) (j : ℕ) → b ≡ true → ◌≡◌ {A = Option ℕ} (elim b [ true ↦ Some j | false ↦ None ]) None → ⊥
found_not true j t h = differ cc
found_not false j t h = differ cc

module _ (s : List ℕ) where
  tag_two : (m : ℕ) → tag_step s m ≡ Two → byte_at s (m + 1) tick ≡ true
  unfolding tag_step
  tag_two m h = doubled_second s m tick (tag_says_two (byte_at s m rbracket) (doubled_at s m tick) (byte_at s m tick) (blank_at s m) h)

  -- the search does not stop at a `[`
  tag_one : (k : ℕ) → byte_at s k lbracket ≡ true → tag_step s k ≡ One
  unfolding tag_step
  tag_one k h =
      let t : byte_at s k tick ≡ false = byte_other s k lbracket tick h (λ z. omega arith) in
      rw (tag_step, byte_other s k lbracket rbracket h (λ z. omega arith), doubled_not s k tick t, t, blank_other s k lbracket h (not_blank lbracket (lit< tt)))

  -- nor at a byte behind the backtick, where the small letters are
  pub tag_letter : (k : ℕ) → k < length s → tick < get_or s k 0 → tag_step s k ≡ One
  unfolding tag_step
  tag_letter k h l =
      let t : byte_at s k tick ≡ false = byte_test s k tick h ∙ ne_eqb (get_or s k 0) tick (λ e. omega arith) in
      rw (tag_step, byte_test s k rbracket h ∙ ne_eqb (get_or s k 0) rbracket (λ e. omega arith), doubled_not s k tick t, t, blank_test s k h ∙ not_blank (get_or s k 0) (omega arith))

  pub tag_nowhere : (i : ℕ) → byte_at s (tag_stop s i) rbracket ≡ false → tag_end s i ≡ None
  unfolding tag_end
  tag_nowhere i h = rw (tag_end, h)

  pub tag_found : (i : ℕ) → byte_at s (tag_stop s i) rbracket ≡ true → tag_end s i ≡ None → ⊥
  unfolding tag_end
  tag_found i h n = found_not (byte_at s (tag_stop s i) rbracket) (tag_stop s i) h n

  pub tag_at : (i j : ℕ) → j ≡ tag_stop s i → byte_at s j rbracket ≡ true → tag_end s i ≡ Some j
  unfolding tag_end
  tag_at i j e h = rw (tag_end, ← e, h, ← e)

  -- from a `[` that opens no tag to where the search for its end stopped no `[` opens one
  barren_to : (i : ℕ) → byte_at s (tag_stop s (i + 1)) rbracket ≡ false → (k : ℕ) → i ≤ k → k < tag_stop s (i + 1) → byte_at s k lbracket ≡ true → tag_end s (k + 1) ≡ None
  barren_to i n k h l b =
      by_less i k
      (λ g.
      let z : tag_stop s k ≡ tag_stop s (i + 1) =
      scan_through (tag_step s) (length s) k
      (λ m t e. let w : byte_at s k tick ≡ true = rw e at (tag_two m t) in let v : byte_at s k tick ≡ false = byte_other s k lbracket tick b (λ z. omega arith) in differ cc)
      (i + 1) (omega arith) l
      in
      let y : tag_stop s k ≡ tag_stop s (k + 1) = scan_one (tag_step s) (length s) k (byte_within s k lbracket b) (tag_one k b) in
      let x : tag_stop s (k + 1) ≡ tag_stop s (i + 1) = sym y ∙ z in
      tag_nowhere (k + 1) (rw x n))
      (λ g. let z : k ≡ i = omega arith in rw z (tag_nowhere (i + 1) n))

-- a place that a test found
at_in : (b : Bool) (i j q n : ℕ) → i ≤ j → (b ≡ true → j < n) → elim b [ true ↦ Some j | false ↦ None ] ≡ Some q → (i ≤ q) × (q < n)
at_in true i j q n h f p = let z : j ≡ q = cc in let g : j < n = f refl in omega arith
at_in false i j q n h f p = absurd (differ cc)

-- a tag's end lies behind its start and within the text
pub tag_in : (s : List ℕ) (i q : ℕ) → i ≤ length s → tag_end s i ≡ Some q → (i ≤ q) × (q < length s)
unfolding tag_end
tag_in s i q h p =
    at_in (byte_at s (tag_stop s i) rbracket) i (tag_stop s i) q (length s)
    (scan_ge _ _ i i (omega arith) h)
    (byte_within s (tag_stop s i) rbracket)
    p

-- notes

-- from a to b, as a note has it
abbrev pub note : ℕ → ℕ → Note
note a b = record { from = a; to = b }

covered : (a i b : ℕ) → a ≤ i → i < b → (leb a i && ltb i b) ≡ true
covered a i b h l = rw (le-leb a i h, lt-ltb i b l)

covered_not : (a b i : ℕ) → (leb a i && ltb i b) ≡ true → (a ≤ i) × (i < b)
covered_not a b i h = (leb-true a i (both (leb a i) (ltb i b) h).0, ltb-true i b (both (leb a i) (ltb i b) h).1)

module _ (s : List ℕ) (i : ℕ) (n : Note) where
  -- a `[` that a note covers opens no tag
  pub covered_nowhere : Holds s n → covers n i ≡ true → byte_at s i lbracket ≡ true → tag_end s (i + 1) ≡ None
  covered_nowhere f h t = let c = covered_not n.from n.to i h in f i c.0 c.1 t

  pub noted_found : (j : ℕ) → j ≡ tag_stop s (i + 1) → byte_at s j rbracket ≡ true → Holds s n → Looked s i n
  noted_found j e h f = record { holds = f; opens = λ t l x. tag_found s (i + 1) (rw e at h) x }

pub nowhere : (s : List ℕ) (i j : ℕ) → j ≡ tag_stop s i → byte_at s j rbracket ≡ false → tag_end s i ≡ None
nowhere s i j e h = tag_nowhere s i (rw e at h)

-- what a search that failed tells
pub holds_to : (s : List ℕ) (i j : ℕ) → j ≡ tag_stop s (i + 1) → byte_at s j rbracket ≡ false → Holds s (note i j)
holds_to s i j e h = rw e (barren_to s i (rw e at h))

pub noted_to : (s : List ℕ) (i j : ℕ) → j ≡ tag_stop s (i + 1) → byte_at s i lbracket ≡ true → byte_at s j rbracket ≡ false → Looked s i (note i j)
noted_to s i j e t h =
    let w : i < length s = byte_within s i lbracket t in
    let g : i + 1 ≤ tag_stop s (i + 1) = scan_ge (tag_step s) (length s) (i + 1) (i + 1) (omega arith) (omega arith) in
    record { holds = holds_to s i j e h; opens = λ u l x. clash l (covered i i j (omega arith) (omega arith)) }

-- the note that covers nothing holds
pub holds_nothing : (s : List ℕ) (n : Note) → n.to ≡ 0 → Holds s n
holds_nothing s n z k a l t = absurd (let y : ⊥ = omega arith in y)

opens_cases : (t l : Bool) (e : Option ℕ) → (t ≡ true → l ≡ true → e ≡ None) → (t ≡ true → l ≡ false → e ≡ None → ⊥) → (t && not l) ≡ elim t [ true ↦ elim e [ Some j ↦ true | None ↦ false ] | false ↦ false ]
opens_cases false l e f g = refl
opens_cases true false (Some j) f g = refl
opens_cases true false None f g = absurd (g refl refl refl)
opens_cases true true (Some j) f g = let y : Some j ≡ None = f refl refl in absurd (differ cc)
opens_cases true true None f g = refl

-- by a note it is known whether a `[` opens a tag
pub opens_is : (s : List ℕ) (i : ℕ) (n : Note) → Looked s i n → (byte_at s i lbracket && not (covers n i)) ≡ opens_tag s i
unfolding opens_tag
opens_is s i n x =
    opens_cases (byte_at s i lbracket) (covers n i) (tag_end s (i + 1))
    (λ t l. covered_nowhere s i n x.holds l t)
    (λ t l e. x.opens t l e)

-- an HTML mark begins with a `<`
pub html_not : (s : List ℕ) (i : ℕ) → byte_at s i less ≡ false → html_mark s i ≡ false
unfolding html_mark
html_not s i h = rw (html_mark, word_not s i less _ h, word_not s i less _ h)

-- a byte that is no `[` opens no tag
pub opens_not : (s : List ℕ) (i : ℕ) → byte_at s i lbracket ≡ false → opens_tag s i ≡ false
unfolding opens_tag
opens_not s i h = rw (opens_tag, h)

-- in a label a lone `[` is stepped over where a note covers it, and stops it where none does
module _ (s : List ℕ) (i : ℕ) (n : Note) (x : Looked s i n) (h : byte_at s i lbracket ≡ true) (d : doubled_at s i lbracket ≡ false) where
  no : (b : ℕ) → (lbracket ≡ b → ⊥) → byte_at s i b ≡ false
  no b e = byte_other s i lbracket b h e

  no_stopper : label_step s i ≡ elim (opens_tag s i) [ true ↦ Stop | false ↦ elim (html_mark s i) [ true ↦ Stop | false ↦ One ] ]
  unfolding label_step label_stopper
  no_stopper =
      let t : byte_at s i tick ≡ false = no tick (λ e. omega arith) in
      rw (label_step, d, doubled_not s i tick t, label_stopper, no space (λ e. omega arith), no cr (λ e. omega arith), no lf (λ e. omega arith), t)

  pub label_covered : covers n i ≡ true → label_step s i ≡ One
  label_covered c = no_stopper ∙ rw (← opens_is s i n x, h, c, html_not s i (no less (λ e. omega arith)))

  pub label_opens : covers n i ≡ false → label_step s i ≡ Stop
  label_opens c = no_stopper ∙ rw (← opens_is s i n x, h, c)
