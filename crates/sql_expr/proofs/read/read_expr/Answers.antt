use Rattle.sql_expr.proofs.Whole.{is_found, is_only, is_place, is_deep}
use Rattle.sql_expr.proofs.read.read_expr.Goals as goal

pub returns-clause-found : goal.returns-clause-found
returns-clause-found c = is_found 64 c.args.tokens.now c.all.result c.all.ensures

pub returns-clause-only : goal.returns-clause-only
returns-clause-only c = is_only 64 c.args.tokens.now c.all.result c.all.ensures

pub returns-clause-place : goal.returns-clause-place
returns-clause-place c = λ n w e. is_place 64 c.args.tokens.now c.all.result n w c.all.ensures e

pub returns-clause-deep : goal.returns-clause-deep
returns-clause-deep c = λ n e. is_deep 64 c.args.tokens.now c.all.result n c.all.ensures e
