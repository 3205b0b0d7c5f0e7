use Rattle.std.proofs.Common.{◌≡◌, ◌-◌, length}
use Rattle.pg_messages.specs.Reading.{entries_below}
use Rattle.pg_messages.proofs.Loops.{with_front}
use Rattle.pg_messages.proofs.entries.zero_ended_of.Given as goal

abbrev pub invariant-loop : goal.invariant-loop
invariant-loop g l = with_front l.entries (entries_below g.E.Entry.entry_at (length l.bytes - l.counter) l.rest) ≡ entries_below g.E.Entry.entry_at (length l.bytes) l.bytes
