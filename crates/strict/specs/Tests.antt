-- NOTHING ELSE LOOKS AT THE READING, the statement: a reading is its three byte tests. Two readings with equal tests, whatever their names, have equal
-- events, credits and diagnostics. Proved in proofs/Tests.antt.
use Rattle.std.specs.Prelude.{ℕ, List, ◌≡◌}
use Rattle.byte_rules.specs.Reading.{Reading}
use Rattle.comment_parser.specs.Events.{events_of}
use Rattle.parentheticals.specs.Records.{parentheticals_of}
use Rattle.verify_markup.specs.Items.{Names}
use Rattle.verify_markup.specs.List.{diagnostics}

pub record SameTests (rd other : Reading) : Type 0 where
  pub subscript : (c : ℕ) → rd.bars_subscript c ≡ other.bars_subscript c
  pub italic : (c : ℕ) → rd.bars_italic c ≡ other.bars_italic c
  pub author : (c : ℕ) → rd.bars_author c ≡ other.bars_author c

pub record Agree (rd other : Reading) : Type 0 where
  pub events : (buf : List ℕ) (a b : ℕ) → events_of rd buf a b ≡ events_of other buf a b
  pub credits : (buf : List ℕ) (a b : ℕ) → parentheticals_of rd buf a b ≡ parentheticals_of other buf a b
  pub diagnosed : (n : Names) (buf : List ℕ) (a b : ℕ) → diagnostics rd n buf a b ≡ diagnostics other n buf a b

abbrev pub OnlyTestsCount : Type 0
OnlyTestsCount = (rd other : Reading) → SameTests rd other → Agree rd other
