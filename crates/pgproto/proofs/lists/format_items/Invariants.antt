use Rattle.std.proofs.Common.{◌-◌, ◌≤◌}
use Rattle.pgproto.specs.Reading.{items_at, number_at, value_at}
use Rattle.pgproto.proofs.Items.{Going}
use Rattle.pgproto.proofs.lists.format_items.Given as goal

-- what was read, and the items that are left, are what is read of all
abbrev pub invariant-loop-taken : goal.invariant-loop-taken
invariant-loop-taken l = Going (number_at 65535) l.found.items (l.count - l.taken) l.rest (items_at (number_at 65535) l.count l.bytes)
