use Rattle.std.proofs.Common.{Ok, ap, ◌∙◌, arith, rules}
use Rattle.login.proofs.Going.{begun, goes_on_so}
use Rattle.login.proofs.entrance.enter.Goals as goal

pub steps-init : goal.steps-init
steps-init g c = record { course = begun _ _ _ _ _ (search rules); reads = omega arith; writes = omega arith; paced = omega arith }

pub steps-preserved : goal.steps-preserved
steps-preserved g c =
    let read = c.steps.invariant.reads in
    let more_read = c.step.ensures.read_later in
    let wrote = c.steps.invariant.writes in
    let more_written = c.step.ensures.write_later in
    let passed = c.steps.invariant.paced in
    let more_passed = c.step.ensures.paced in
    record {
      course = goes_on_so _ _ _ _ _ _ _ _ _ _ _ _ _ _ c.step.result (c.in-Ok-None.is ∙ ap Ok c.in-Ok-None.field-0-is) c.steps.invariant.course c.step.ensures.goes;
      reads = omega (arith, read, more_read);
      writes = omega (arith, wrote, more_written);
      paced = omega (arith, passed, more_passed);
    }
