-- `order_of` meets its contract. The loop's invariant: the order of what is left of both names is their order.
-- Assumes nothing.
use mathlib.Core.Path.{◌≡◌}
use lib.ListN.{drop}
use Rattle.name_table.specs.Order.{order_of}
use Rattle.name_table.proofs.ordering.order_of.Given as goal

abbrev pub invariant-loop-k : goal.invariant-loop-k
invariant-loop-k l = order_of (drop l.k l.name) (drop l.k l.other) ≡ order_of l.name l.other
