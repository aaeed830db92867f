-- The records of the ten diagnostics (document 01, "Diagnostics"), and the neighbours of a mark.
use Rattle.std.specs.Prelude.{ℕ, zero, suc, ◌+◌, Bool, true, false, not, List, [], ◌∷◌, Option, Some, None}
use Rattle.byte_rules.specs.Classes.{is_blank}
use Rattle.look.specs.Look.{holds_at}

-- how many words a record has
abbrev pub diag_width : ℕ
diag_width = 5

-- a diagnostic: its kind, the numbers that the Rust carries, then zeros; the last stands where the line will stand
abbrev pub diag : ℕ → ℕ → ℕ → ℕ → List ℕ
diag kind a b c = kind ∷ a ∷ b ∷ c ∷ 0 ∷ []

-- the ten, with the Rust's names
abbrev pub markup_needs_whitespace : ℕ → List ℕ
markup_needs_whitespace mark = diag 1 mark 0 0

abbrev pub uninterpreted_escape : ℕ → List ℕ
uninterpreted_escape byte = diag 2 byte 0 0

abbrev pub uninterpreted_html : ℕ → ℕ → List ℕ
uninterpreted_html start end = diag 3 start end 0

abbrev pub undefined_token : ℕ → ℕ → List ℕ
undefined_token start end = diag 4 start end 0

abbrev pub empty_label : ℕ → List ℕ
empty_label tilde = diag 5 tilde 0 0

abbrev pub unknown_label : ℕ → ℕ → List ℕ
unknown_label start end = diag 6 start end 0

abbrev pub bib_escape : ℕ → ℕ → ℕ → List ℕ
bib_escape byte start end = diag 7 byte start end

abbrev pub undefined_bib_tag : ℕ → ℕ → List ℕ
undefined_bib_tag start end = diag 8 start end 0

abbrev pub unclosed_math_markup : ℕ → ℕ → List ℕ
unclosed_math_markup opening end = diag 9 opening end 0

abbrev pub unclosed_html : ℕ → ℕ → List ℕ
unclosed_html opening end = diag 10 opening end 0

-- a record if a test holds, else none
abbrev pub when : Bool → List ℕ → List (List ℕ)
when true w = w ∷ []
when false w = []

-- a record of what is there, if it is
abbrev pub of_some : {A : Type 0} → (A → List ℕ) → Option A → List (List ℕ)
of_some made (Some x) = made x ∷ []
of_some made None = []

-- neighbours are looked up in the whole buffer; a missing one is no nonblank
unfoldable pub is_nonblank : ℕ → Bool
is_nonblank c = not (is_blank c)

unfoldable pub nonblank_at : List ℕ → ℕ → Bool
nonblank_at buf i = holds_at is_nonblank buf i

unfoldable pub nonblank_before : List ℕ → ℕ → Bool
nonblank_before buf zero = false
nonblank_before buf (suc i) = nonblank_at buf i

-- 1, at the mark's own place: the byte before it, and the byte after it
abbrev pub space_before : List ℕ → ℕ → List (List ℕ)
space_before buf mark = when (nonblank_before buf mark) (markup_needs_whitespace mark)

abbrev pub space_after : List ℕ → ℕ → List (List ℕ)
space_after buf mark = when (nonblank_at buf (mark + 1)) (markup_needs_whitespace mark)
