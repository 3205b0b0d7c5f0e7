use Rattle.sql_print.specs.Printed.{statement_text}
use Rattle.statement_laws.proofs.AgainLaw.{read_told, text_answer}
use Rattle.statement_laws.proofs.again.check_text.Goals as goal

pub returns-in-Ok-clause-told : goal.returns-in-Ok-clause-told
returns-in-Ok-clause-told c =
    read_told c.args.tables.now c.args.numbers.now (statement_text c.args.statement.now) c.in-Ok.all c.check_alone.result c.in-Ok.ensures.found c.check_alone.ensures.one c.check_alone.ensures.other

pub returns-in-Err-clause-own : goal.returns-in-Err-clause-own
returns-in-Err-clause-own c =
    text_answer c.args.tables.now c.args.statement.now c.args.numbers.now c.in-Err.fault c.in-Err.ensures.limits c.in-Err.ensures.within
