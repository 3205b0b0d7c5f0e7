use Rattle.std.proofs.Common.{rules, ◌≡◌}
use Rattle.sql_print.specs.Printed.{statement_text}
use Rattle.sql_profile.proofs.RereadTokens.{read_again}
use Rattle.sql_profile.proofs.again.tokens_again.Goals as goal

-- src/again.rt:15:1
pub returns-clause-same : goal.returns-clause-same
returns-clause-same c all few =
    let is : c.as_str.result.now ≡ statement_text c.args.statement.now = search rules in
    read_again c.args.statement.now c.as_str.result.now c.in_ok-placed.placed c.in_ok-tokens_alone.field-0 is
    c.in_ok-placed.ensures.only c.in_ok-tokens_alone.ensures all few
