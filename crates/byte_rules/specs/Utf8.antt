-- The length of a character of UTF-8, by the syntax of RFC 3629, section 4.
use Rattle.std.specs.Prelude.{ℕ, ◌+◌, Bool, cond, ◌&&◌, ◌||◌, List, leb, eqb, get_or}

-- the byte at i, or 256 past the end, which no rule below takes
unfoldable pub byte_or : List ℕ → ℕ → ℕ
byte_or s i = get_or s i 256

unfoldable pub within : ℕ → ℕ → ℕ → Bool
within low high c = leb low c && leb c high

-- UTF8-tail
unfoldable pub is_tail : ℕ → Bool
is_tail c = within 0x80 0xBF c

-- UTF8-1
unfoldable pub is_one : ℕ → Bool
is_one a = leb a 0x7F

-- UTF8-2
unfoldable pub is_two : ℕ → ℕ → Bool
is_two a b = within 0xC2 0xDF a && is_tail b

-- UTF8-3
unfoldable pub is_three : ℕ → ℕ → ℕ → Bool
is_three a b c =
    ((eqb a 0xE0 && within 0xA0 0xBF b) || (within 0xE1 0xEC a && is_tail b) || (eqb a 0xED && within 0x80 0x9F b) || (within 0xEE 0xEF a && is_tail b))
    && is_tail c

-- UTF8-4
unfoldable pub is_four : ℕ → ℕ → ℕ → ℕ → Bool
is_four a b c d =
    ((eqb a 0xF0 && within 0x90 0xBF b) || (within 0xF1 0xF3 a && is_tail b) || (eqb a 0xF4 && within 0x80 0x8F b)) && is_tail c && is_tail d

-- how many bytes the character at i has; 0 if none stands there
unfoldable pub char_len : List ℕ → ℕ → ℕ
char_len s i =
    let a = byte_or s i in
    let b = byte_or s (i + 1) in
    let c = byte_or s (i + 2) in
    let d = byte_or s (i + 3) in
    cond (is_one a) 1 (cond (is_two a b) 2 (cond (is_three a b c) 3 (cond (is_four a b c d) 4 0)))
