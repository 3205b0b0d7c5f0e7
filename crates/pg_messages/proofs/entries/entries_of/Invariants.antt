use Rattle.std.proofs.Common.{◌≡◌, ◌-◌}
use Rattle.pg_messages.specs.Reading.{entries_at}
use Rattle.pg_messages.proofs.Loops.{with_front}
use Rattle.pg_messages.proofs.entries.entries_of.Given as goal

abbrev pub invariant-loop : goal.invariant-loop
invariant-loop g l = with_front l.entries (entries_at g.E.Entry.entry_at (l.count - l.counter) l.rest) ≡ entries_at g.E.Entry.entry_at l.count l.bytes
