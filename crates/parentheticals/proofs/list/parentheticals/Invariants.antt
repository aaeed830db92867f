-- `list::parentheticals` meets its contract. The invariant of its loop is `Going`: the records from here, laid in the tail, are the
-- records of the span, laid in the room as it was.
-- Assumes nothing.
use Prim.Native.Nat.{◌-◌}
use Rattle.byte_rules.specs.Reading.{named}
use Rattle.parentheticals.proofs.Listing.{Going}
use Rattle.parentheticals.proofs.list.parentheticals.Given as goal

abbrev pub invariant-loop-found : goal.invariant-loop-found
invariant-loop-found l = Going (named l.reading) l.buf l.start l.end l.initial.out l.out l.from l.wrote.words l.wrote.count

abbrev pub decreases-loop-found : goal.decreases-loop-found
decreases-loop-found l = l.end - l.from
