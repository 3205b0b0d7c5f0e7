use Rattle.std.proofs.Common.{length, ap, arith}
use Rattle.sql_tokens.specs.declared.bytes.Class.TheVariants.{But}
use Rattle.sql_tokens.proofs.Runs.{behind_short}
use Rattle.sql_tokens.proofs.Ends.{next_is}
use Rattle.sql_tokens.proofs.sign.next.Goals as goal

pub overflow_sub-before : goal.overflow_sub-before
overflow_sub-before c =
    let short = behind_short (But 0) c.split_at.result.0.now in
    let same = ap length c.skip_run-zero.ensures in omega arith

pub returns : goal.returns
returns c =
    next_is c.requires.0 c.args.after.now c.args.bytes.now c.split_at.result.0.now c.skip_run-zero.result.now c.split_at-2.result.1.now
    c.requires.1 c.split_at.ensures.front c.skip_run-zero.ensures c.split_at-2.ensures.back
