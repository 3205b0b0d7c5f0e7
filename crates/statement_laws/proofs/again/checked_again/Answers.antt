use Rattle.statement_laws.proofs.AgainLaw.{again_limit, again_same, again_told, again_within}
use Rattle.pg_values.specs.Kinds.{oid_number}
use Rattle.std.proofs.Common.{map}
use Rattle.statement_laws.proofs.again.checked_again.Goals as goal

pub returns-in-Ok-clause-told : goal.returns-in-Ok-clause-told
returns-in-Ok-clause-told c =
    again_told c.args.tables.now c.args.checked.now c.in-Ok.statement (map oid_number c.args.checked.now.kinds) c.check_typed-answer.result c.in-Ok.ensures.made c.check_typed-answer.ensures.told

pub returns-in-Ok-clause-same : goal.returns-in-Ok-clause-same
returns-in-Ok-clause-same c can =
    again_same c.args.tables.now c.args.checked.now c.in-Ok.statement c.in-Ok.ensures.made c.in-Ok.ensures.held can c.check_typed-answer.result c.check_typed-answer.ensures.told c.check_typed-answer.ensures.own

pub returns-in-Ok-clause-within : goal.returns-in-Ok-clause-within
returns-in-Ok-clause-within c can =
    again_within c.args.tables.now c.args.checked.now c.in-Ok.statement c.in-Ok.ensures.made c.in-Ok.ensures.held can c.check_typed-answer.result c.check_typed-answer.ensures.own

pub returns-in-Ok-clause-limits : goal.returns-in-Ok-clause-limits
returns-in-Ok-clause-limits c can =
    again_limit c.args.tables.now c.args.checked.now c.in-Ok.statement c.in-Ok.ensures.made c.in-Ok.ensures.held can c.check_typed-answer.result c.check_typed-answer.ensures.told c.check_typed-answer.ensures.own
