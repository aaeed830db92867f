-- Being in a list.
use mathlib.Core.List.{List, Memᴰ}

-- x is in the list
abbrev pub In : {A : Type 0} → A → List A → Type 0
In x xs = Memᴰ x xs
