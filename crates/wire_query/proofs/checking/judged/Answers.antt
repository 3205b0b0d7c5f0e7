use Rattle.std.specs.Option.{option_map}
use Rattle.wire_query.proofs.FaultLemmas.{judged_so, wrong_so}
use Rattle.wire_query.proofs.checking.judged.Goals as goal

pub returns-in_ok-verdict-in-Ok : goal.returns-in_ok-verdict-in-Ok
returns-in_ok-verdict-in-Ok c = judged_so c.args.tables.now c.args.statement.now (option_map (λ k. k.now) c.args.kinds) c.in-Ok.checked c.in-Ok.ensures c.in_ok-verdict-in-Ok.verdict c.in_ok-verdict-in-Ok.ensures

pub returns-in_ok-verdict-in-Err : goal.returns-in_ok-verdict-in-Err
returns-in_ok-verdict-in-Err c = wrong_so c.args.tables.now c.args.statement.now (option_map (λ k. k.now) c.args.kinds) c.in-Err.fault c.in-Err.ensures c.in_ok-verdict-in-Err.verdict c.in_ok-verdict-in-Err.ensures
