-- The front of the room is the pattern.
use Rattle.std.proofs.Common.{◌≡◌, take}
use Rattle.replay.specs.Pattern.{pattern_to}
use Rattle.replay.proofs.pattern.fill.Given as goal

abbrev pub invariant-loop-i : goal.invariant-loop-i
invariant-loop-i g l = take l.i l.room ≡ pattern_to g.T.Pattern.at l.i

abbrev pub invariant-loop-i-2 : goal.invariant-loop-i-2
invariant-loop-i-2 g l = take l.i l.room ≡ pattern_to g.T.Pattern.at l.i
