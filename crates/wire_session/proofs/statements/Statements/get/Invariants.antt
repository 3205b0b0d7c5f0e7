use Rattle.std.proofs.Common.{◌≡◌, drop}
use Rattle.wire_session.specs.Kept.{named}
use Rattle.wire_session.proofs.statements.Statements.get.Given as goal

abbrev pub invariant-loop-entry : goal.invariant-loop-entry
invariant-loop-entry l = named l.name l.self.entries.items ≡ named l.name (drop l.entry-index l.self.entries.items)
