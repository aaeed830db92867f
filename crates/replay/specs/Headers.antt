-- The header of a case, as bytes: op, flag, reading, a byte that is not looked at, and five words of four bytes each.
use Rattle.std.specs.Prelude.{ℕ, ◌+◌, ◌*◌, List, get_or}
use Rattle.replay.specs.declared.header.Header.{Header}

-- four bytes, little endian
abbrev pub word_at : List ℕ → ℕ → ℕ
word_at s i = get_or s i 0 + 256 * get_or s (i + 1) 0 + 65536 * get_or s (i + 2) 0 + 16777216 * get_or s (i + 3) 0

abbrev pub header_of : List ℕ → Header
header_of s =
    record {
      op = get_or s 0 0;
      flag = get_or s 1 0;
      reading = get_or s 2 0;
      a = word_at s 4;
      b = word_at s 8;
      c = word_at s 12;
      room = word_at s 16;
      n = word_at s 20;
    }
