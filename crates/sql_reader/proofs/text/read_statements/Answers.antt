use Rattle.sql_reader.proofs.Whole.{is_found, is_few, has_from, is_only, is_place, is_deep, is_bare, is_bare_told, is_many, is_many_told}
use Rattle.sql_reader.proofs.text.read_statements.Goals as goal

pub returns-clause-found : goal.returns-clause-found
returns-clause-found c = is_found 64 c.args.tokens.now c.all.result c.all.ensures

pub returns-clause-few : goal.returns-clause-few
returns-clause-few c = is_few 64 c.args.tokens.now c.all.result c.all.ensures

pub returns-clause-have_from : goal.returns-clause-have_from
returns-clause-have_from c = has_from 64 c.args.tokens.now c.all.result c.all.ensures

pub returns-clause-only : goal.returns-clause-only
returns-clause-only c = is_only 64 c.args.tokens.now c.all.result c.all.ensures

pub returns-clause-place : goal.returns-clause-place
returns-clause-place c = is_place 64 c.args.tokens.now c.all.result c.all.ensures

pub returns-clause-deep : goal.returns-clause-deep
returns-clause-deep c = is_deep 64 c.args.tokens.now c.all.result c.all.ensures

pub returns-clause-without_from : goal.returns-clause-without_from
returns-clause-without_from c = is_bare 64 c.args.tokens.now c.all.result c.all.ensures

pub returns-clause-without_from_told : goal.returns-clause-without_from_told
returns-clause-without_from_told c = is_bare_told 64 c.args.tokens.now c.all.result c.all.ensures

pub returns-clause-too_many : goal.returns-clause-too_many
returns-clause-too_many c = is_many 64 c.args.tokens.now c.all.result c.all.ensures

pub returns-clause-too_many_told : goal.returns-clause-too_many_told
returns-clause-too_many_told c = is_many_told 64 c.args.tokens.now c.all.result c.all.ensures
