-- Plain bytes: those that no rule takes outside math, which are stepped over at once.
use Rattle.std.specs.Prelude.{ℕ, ◌+◌, ◌≤◌, ◌<◌, ◌≡◌, Bool, true, false, ◌||◌, List, eqb, length, get_or}
use Rattle.look.specs.Look.{holds_at}
use Rattle.scans.specs.Marks.{tick, tilde, lbracket, under, less, lf, cr, space}
use Rattle.scans.specs.Scan.{scan}
use Rattle.scans.specs.declared.Step.{Step}
use Rattle.scans.specs.declared.Step.TheVariants.{One, Stop}

-- an active byte: one that a rule may take outside math, one of ` < ~ [ LF _
unfoldable pub is_active : ℕ → Bool
is_active c = eqb c tick || eqb c less || eqb c tilde || eqb c lbracket || eqb c lf || eqb c under

-- the same in a label: one of [ ` < LF CR space
unfoldable pub is_label_active : ℕ → Bool
is_label_active c = eqb c lbracket || eqb c tick || eqb c less || eqb c lf || eqb c cr || eqb c space

module _ (s : List ℕ) where
  unfoldable pub active_at : ℕ → Bool
  active_at j = holds_at is_active s j

  unfoldable pub plain_step : ℕ → Step
  plain_step j = elim (active_at j) [ true ↦ Stop | false ↦ One ]

  -- the first active byte from i on, or the end
  abbrev pub plain_end : ℕ → ℕ
  plain_end i = scan plain_step (length s) i

-- b is not among the n bytes from i on
abbrev pub Lacks : List ℕ → ℕ → ℕ → ℕ → Type 0
Lacks s i n b = (k : ℕ) → k < n → eqb (get_or s (i + k) 0) b ≡ false

-- eight bytes from i on, and b is not among them
pub record Lacking (s : List ℕ) (i b : ℕ) : Type 0 where
  pub within : i + 8 ≤ length s
  pub none : Lacks s i 8 b

-- eight plain bytes from i on
pub record Plain8 (s : List ℕ) (i : ℕ) : Type 0 where
  pub within : i + 8 ≤ length s
  pub none : (k : ℕ) → k < 8 → active_at s (i + k) ≡ false
