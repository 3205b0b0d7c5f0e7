use Rattle.std.proofs.Common.{rules}
use Rattle.sql_profile.proofs.Rounds.{fault_same, written_same}
use Rattle.sql_profile.proofs.schema_round.schema_again.Goals as goal

pub returns-in_err-tables-clause-only : goal.returns-in_err-tables-clause-only
returns-in_err-tables-clause-only c = λ tables says.
    fault_same tables c.in_err-tables.field-0.0 c.from_residual.result (search rules) (c.in_err-tables.ensures.only tables says)

pub print_schema-requires : goal.print_schema-requires
print_schema-requires c = c.tables_in_range.ensures c.args.text.now c.in_ok-tables.tables c.in_ok-tables.ensures.found

pub returns-clause-found : goal.returns-clause-found
returns-clause-found c =
    let read = c.in_ok-tables.tables in
    let says = c.in_ok-tables.ensures.found in
    (read, says, c.in_ok-print_schema.ensures.text, c.in_ok-print_schema.ensures.read_back (c.schemas_are_allowed.ensures c.args.text.now read says))

pub returns-clause-only : goal.returns-clause-only
returns-clause-only c = λ tables says.
    let read = c.in_ok-tables.tables in
    let said = c.in_ok-tables.ensures.found in
    written_same read tables c.in_ok-print_schema.field-0 c.in_ok-print_schema.ensures.text
    (c.in_ok-print_schema.ensures.read_back (c.schemas_are_allowed.ensures c.args.text.now read said)) (c.in_ok-tables.ensures.only tables says)
