-- The laws of a text call: refused, too little room, and done.
-- Assumes nothing.
use Prim.Native.Nat.{ℕ, ◌≤◌, ◌<◌}
use mathlib.Core.Path.{◌≡◌, refl}
use mathlib.Core.List.{List, ◌++◌}
use mathlib.Core.Option.{Option, none, some}
use lib.ListN.{length, drop}
use borrow.Author.Tests.{le-leb, lt-leb}
use Rattle.records.specs.Answer.{Answer, done, short}
use Rattle.records.specs.Records.{put, text_answer, text_left}

-- the answer a and the room `out` are those of a text call with this refusal, or with none
abbrev pub Told : Answer → List ℕ → Option Answer → List ℕ → List ℕ → Type 0
Told a out refusal text out₀ = (a ≡ text_answer refusal text (length out₀)) × (out ≡ text_left refusal text out₀)

pub told_refused : (a : Answer) (r : Option Answer) (text out : List ℕ) → some a ≡ r → Told a out r text out
unfolding text_answer text_left
told_refused a r text out e = rw (← e) (refl, refl)

module _ (n : ℕ) (r : Option Answer) (text out : List ℕ) (good : none ≡ r) (counted : n ≡ length text) where
  pub told_short : length out < n → Told (short n) out r text out
  unfolding text_answer text_left put
  told_short h = rw (← good, ← counted) (simp (lt-leb _ _ h), simp (lt-leb _ _ h))

  pub told_done : n ≤ length out → (last : List ℕ) → last ≡ text ++ drop n out → Told (done n) last r text out
  unfolding text_answer text_left put
  told_done h last e = rw (← good, ← counted) (simp (le-leb _ _ h), simp (le-leb _ _ h) e)
