use Rattle.std.proofs.Common.{◌≡◌, ◌++◌, take}
use Rattle.std.specs.Prelude.{All}
use Rattle.std.specs.List.{flat_map}
use Rattle.pg_messages.proofs.spelling.put_entries.Given as goal

abbrev pub invariant-loop-entry : goal.invariant-loop-entry
invariant-loop-entry g l = record {
  put : l.onto ≡ l.initial.onto ++ flat_map g.S.Spelled.spelled (take l.entry-index l.entries);
  in_range : All g.S.Spelled.InRange (take l.entry-index l.entries);
}
