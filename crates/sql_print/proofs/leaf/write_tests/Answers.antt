use Rattle.std.proofs.Common.{false, get_or, refl, arith}
use Rattle.sql_print.specs.Printed.{test}
use Rattle.sql_print.specs.Writing.{state}
use Rattle.sql_print.proofs.Steps.{after_next}
use Rattle.sql_print.proofs.leaf.write_tests.Goals as goal

pub loop-given-preserved : goal.loop-given-preserved
loop-given-preserved c =
    let tests = c.args.tests.now in
    let i = c.loop-given.given-index in
    after_next test (state c.args.onto.now) (state c.loop-given.onto) (state c.write_test.new.onto) tests i (get_or tests i false) false
    (omega arith) refl c.loop-given.invariant c.in_ok-write_test.ensures
