use Rattle.std.proofs.Common.{◌≡◌, drop}
use Rattle.std.specs.List.{list_any}
use Rattle.wire_query.specs.Texts.{is_control}
use Rattle.session_wire.proofs.queries.has_control.Given as goal

abbrev pub invariant-loop-statement : goal.invariant-loop-statement
invariant-loop-statement l = list_any is_control l.statements ≡ list_any is_control (drop l.statement-index l.statements)
