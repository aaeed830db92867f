-- What a room of so many bytes or words holds before a call, by what the one at an index holds.
use Rattle.std.specs.Prelude.{ℕ, zero, suc, List, [], ◌∷◌, ◌++◌}

unfoldable pub pattern_to : {A : Type 0} → (ℕ → A) → ℕ → List A
pattern_to at zero = []
pattern_to at (suc i) = pattern_to at i ++ (at i ∷ [])
