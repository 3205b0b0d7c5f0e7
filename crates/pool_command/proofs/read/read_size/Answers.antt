use Rattle.std.proofs.Common.{rules}
use Rattle.pool_command.proofs.Numerals.{size_read}
use Rattle.pool_command.proofs.read.read_size.Goals as goal

pub returns-in-Err : goal.returns-in-Err
returns-in-Err c = size_read c.args.word.now c.parse.result _ c.in-Err.is c.parse.ensures.value.0 (search rules)
