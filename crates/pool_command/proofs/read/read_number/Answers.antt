use Rattle.std.proofs.Common.{◌∙◌, rules}
use Rattle.pool_command.proofs.Numerals.{number_given}
use Rattle.pool_command.proofs.read.read_number.Goals as goal

pub returns : goal.returns
returns c = c.ok.ensures.value ∙ number_given c.args.word.now c.parse.result c.parse.ensures.value.0 (search rules)
