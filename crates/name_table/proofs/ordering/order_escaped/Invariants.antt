-- `order_escaped` meets its contract. The loop's invariant: the order of what is left of both names is their order.
-- Assumes nothing.
use Prim.Native.Nat.{◌≤◌}
use mathlib.Core.Path.{◌≡◌}
use lib.ListN.{length, drop}
use Rattle.unescape.specs.Unescape.{is_escape, unescaped}
use Rattle.name_table.specs.Order.{order_of}
use Rattle.name_table.proofs.ordering.order_escaped.Given as goal

abbrev pub invariant-loop-a : goal.invariant-loop-a
invariant-loop-a l = (l.i ≤ length l.text) × (order_of (drop l.a-index l.name) (unescaped (is_escape l.kind) (drop l.i l.text)) ≡ order_of l.name (unescaped (is_escape l.kind) l.text))
