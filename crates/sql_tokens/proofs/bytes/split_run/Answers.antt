use Rattle.std.proofs.Common.{◌≤◌, ◌-◌, length, take, drop, arith, ap, ◌∙◌}
use Rattle.sql_tokens.specs.Bytes.{behind}
use Rattle.sql_tokens.proofs.Runs.{behind_short, front_taken, behind_dropped}
use Rattle.sql_tokens.proofs.bytes.split_run.Goals as goal

pub overflow_sub-bytes : goal.overflow_sub-bytes
overflow_sub-bytes c =
    let short : length (behind c.args.class c.args.bytes.now) ≤ length c.args.bytes.now = behind_short c.args.class c.args.bytes.now in
    let same = ap length c.skip_run-rest.ensures in omega arith

pub returns-clause-run : goal.returns-clause-run
returns-clause-run c =
    c.split_at.ensures.front ∙ (ap (λ n. take (length c.args.bytes.now - length n) c.args.bytes.now) c.skip_run-rest.ensures ∙ front_taken c.args.class c.args.bytes.now)

pub returns-clause-rest : goal.returns-clause-rest
returns-clause-rest c =
    c.split_at.ensures.back ∙ (ap (λ n. drop (length c.args.bytes.now - length n) c.args.bytes.now) c.skip_run-rest.ensures ∙ behind_dropped c.args.class c.args.bytes.now)
