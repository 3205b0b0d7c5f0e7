use Rattle.std.proofs.Common.{ap, arith, length}
use Rattle.pool_config.specs.declared.line.Class.TheVariants.{InLine}
use Rattle.pool_config.proofs.Runs.{behind_short, cut_last, cut_first, next_shorter}
use Rattle.pool_advice.proofs.Alone.{line_is, line_one, line_short}
use Rattle.pool_advice.proofs.lines.cut_line.Goals as goal

pub overflow_sub-bytes : goal.overflow_sub-bytes
overflow_sub-bytes c = let short = behind_short InLine c.args.bytes.now in let same = ap length c.behind_line-rest.ensures in omega arith

pub returns-in-empty-clause-lines : goal.returns-in-empty-clause-lines
returns-in-empty-clause-lines c =
    cut_last c.args.bytes.now _ _ (line_is c.args.bytes.now _ _ c.split_at.ensures.front c.behind_line-rest.ensures) c.behind_line-rest.ensures (omega arith)

pub returns-in-empty-clause-one : goal.returns-in-empty-clause-one
returns-in-empty-clause-one c = line_one c.args.bytes.now _ (line_is c.args.bytes.now _ _ c.split_at.ensures.front c.behind_line-rest.ensures)

pub returns-in-empty-clause-short : goal.returns-in-empty-clause-short
returns-in-empty-clause-short c = line_short c.args.bytes.now _ (line_is c.args.bytes.now _ _ c.split_at.ensures.front c.behind_line-rest.ensures)

pub returns-in-len1-up-clause-lines : goal.returns-in-len1-up-clause-lines
returns-in-len1-up-clause-lines c =
    cut_first c.args.bytes.now _ _ (line_is c.args.bytes.now _ _ c.split_at.ensures.front c.behind_line-rest.ensures) c.behind_line-rest.ensures (omega arith)

pub returns-in-len1-up-clause-one : goal.returns-in-len1-up-clause-one
returns-in-len1-up-clause-one c = line_one c.args.bytes.now _ (line_is c.args.bytes.now _ _ c.split_at.ensures.front c.behind_line-rest.ensures)

pub returns-in-len1-up-clause-short : goal.returns-in-len1-up-clause-short
returns-in-len1-up-clause-short c = line_short c.args.bytes.now _ (line_is c.args.bytes.now _ _ c.split_at.ensures.front c.behind_line-rest.ensures)

pub returns-in-len1-up-clause-shorter : goal.returns-in-len1-up-clause-shorter
returns-in-len1-up-clause-shorter c = next_shorter c.args.bytes.now _ c.behind_line-rest.ensures (omega arith)
