use Rattle.pool_advice.proofs.Alone.{bad_told, unknown_told, mode_told}
use Rattle.pool_advice.proofs.faults.refusal_of.Goals as goal

pub returns-in-Err-BadLine : goal.returns-in-Err-BadLine
returns-in-Err-BadLine c = bad_told _ _ c.args.line.now c.requires.one c.in-Err-BadLine.field-0-is c.in-Err-BadLine.ensures.says

pub returns-in-Err-UnknownName : goal.returns-in-Err-UnknownName
returns-in-Err-UnknownName c = unknown_told _ _ c.args.line.now c.requires.one c.in-Err-UnknownName.field-0-is c.in-Err-UnknownName.ensures.says

pub returns-in-Err-WrongMode : goal.returns-in-Err-WrongMode
returns-in-Err-WrongMode c = mode_told _ _ c.args.line.now c.requires.one c.in-Err-WrongMode.field-0-is c.in-Err-WrongMode.ensures.says
