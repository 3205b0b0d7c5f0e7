use Rattle.sql_reader.proofs.Verbs.{is_found, is_only}
use Rattle.sql_reader.proofs.statement.read_behind.Goals as goal

pub returns-clause-found : goal.returns-clause-found
returns-clause-found c = is_found (λ x. (x.0, x.1.now)) 64 c.args.verb c.args.tokens.now c.behind_verb.result c.behind_verb.ensures.gives

pub returns-clause-only : goal.returns-clause-only
returns-clause-only c = is_only (λ x. (x.0, x.1.now)) 64 c.args.verb c.args.tokens.now c.behind_verb.result c.behind_verb.ensures.gives
