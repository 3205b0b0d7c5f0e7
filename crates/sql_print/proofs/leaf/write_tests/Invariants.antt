use Rattle.std.proofs.Common.{◌≡◌, take}
use Rattle.std.specs.List.{flat_map}
use Rattle.sql_print.specs.Printed.{test}
use Rattle.sql_print.specs.Writing.{state, after}
use Rattle.sql_print.proofs.leaf.write_tests.Given as goal

abbrev pub invariant-loop-given : goal.invariant-loop-given
invariant-loop-given l = state l.onto ≡ after (state l.initial.onto) (flat_map test (take l.given-index l.tests))
