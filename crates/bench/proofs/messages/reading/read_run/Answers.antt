use Rattle.std.proofs.Common.{◌<◌, ◌≤◌, length, arith}
use Rattle.bench.proofs.Runs.{one_behind, all_behind, begun}
use Rattle.bench.proofs.messages.reading.read_run.Goals as goal

pub run-preserved : goal.run-preserved
run-preserved c =
    let within : 0 < c.in-Some.length × c.in-Some.length ≤ length c.run.rest.now =
    begun _ _ _ c.in-Some.is c.in_ok-length.ensures.within in
    record {
      behind = λ lengths run.
          rw c.split_at.ensures.back (one_behind _ _ _ _ _ _ c.in-Some.is c.in_ok-length.ensures.first
          (c.run.invariant.behind lengths run));
      messages = omega (arith, c.split_at.ensures.back_len, within.0);
      total = omega (arith, c.split_at.ensures.back_len);
    }

pub returns-clause-counts : goal.returns-clause-counts
returns-clause-counts c = λ lengths run.
    all_behind _ _ _ _ _ c.in_default.is c.in_ok-length.ensures.first
    (c.run.invariant.behind lengths run)
