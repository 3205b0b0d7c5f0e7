use Rattle.std.proofs.Common.{◌≡◌, ◌-◌, ◌^◌, min, length, take}
use Rattle.std.specs.List.{flat_map}
use Rattle.pg_messages.proofs.spelling.entries_len.Given as goal

abbrev pub invariant-loop-entry : goal.invariant-loop-entry
invariant-loop-entry g l = l.total ≡ min (length (flat_map g.S.Spelled.spelled (take l.entry-index l.entries))) (2 ^ 64 - 1)
