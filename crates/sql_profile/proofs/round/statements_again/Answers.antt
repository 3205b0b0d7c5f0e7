use Rattle.std.proofs.Common.{rules, ◌≡◌}
use Rattle.sql_print.specs.Printed.{statement_text}
use Rattle.sql_profile.proofs.RoundTexts.{alone_of, limit_of, within_of}
use Rattle.sql_profile.proofs.round.statements_again.Goals as goal

pub returns-clause-same : goal.returns-clause-same
returns-clause-same c is fits =
    let text : c.as_str.result.now ≡ statement_text c.args.statement.now = search rules in
    alone_of c.args.statement.now c.as_str.result.now text c.read_statements.result c.read_statements.ensures.only c.read_statements.ensures.told is fits

pub returns-clause-within : goal.returns-clause-within
returns-clause-within c is fits all given room =
    let text : c.as_str.result.now ≡ statement_text c.args.statement.now = search rules in
    within_of c.args.statement.now c.as_str.result.now text c.read_statements.result c.read_statements.ensures.only c.read_statements.ensures.told is fits all given

pub returns-clause-limits : goal.returns-clause-limits
returns-clause-limits c is fits =
    let text : c.as_str.result.now ≡ statement_text c.args.statement.now = search rules in
    limit_of c.args.statement.now c.as_str.result.now text c.read_statements.result c.read_statements.ensures.only c.read_statements.ensures.told is fits
