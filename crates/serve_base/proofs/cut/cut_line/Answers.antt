use Rattle.std.proofs.Common.{arith}
use Rattle.serve_base.proofs.Cuts.{cut_last, cut_first, next_shorter}
use Rattle.serve_base.proofs.cut.cut_line.Goals as goal

pub returns-in-empty-clause-lines : goal.returns-in-empty-clause-lines
returns-in-empty-clause-lines c = cut_last c.args.bytes.now _ _ c.split_at_byte.ensures.front c.split_at_byte.ensures.rest (omega arith)

pub returns-in-len1-up-clause-lines : goal.returns-in-len1-up-clause-lines
returns-in-len1-up-clause-lines c = cut_first c.args.bytes.now _ _ c.split_at_byte.ensures.front c.split_at_byte.ensures.rest (omega arith)

pub returns-in-len1-up-clause-shorter : goal.returns-in-len1-up-clause-shorter
returns-in-len1-up-clause-shorter c = next_shorter c.args.bytes.now _ c.split_at_byte.ensures.rest (omega arith)
