-- What was read of standard input.
use Rattle.std.specs.Prelude.{◌≤◌, length}
use Rattle.programs.specs.declared.reading.Reader.{Reader}

-- what is left to take stands in the buffer
pub record Within (r : Reader) : Type 0 where
  pub order : r.source.at ≤ r.source.end
  pub inside : r.source.end ≤ length r.buffer.now
