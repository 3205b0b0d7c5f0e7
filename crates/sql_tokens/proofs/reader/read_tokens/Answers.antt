use Rattle.std.proofs.Common.{ℕ, List, IfOk, subst}
use Rattle.sql_tokens.specs.Tokens.{TokensOf}
use Rattle.sql_tokens.proofs.Loop.{only_ok}
use Rattle.sql_tokens.proofs.reader.read_tokens.Goals as goal

pub returns-clause-only : goal.returns-clause-only
returns-clause-only c =
    only_ok c.args.text.now c.tokens_of.result
    (subst (λ (xs : List ℕ). IfOk c.tokens_of.result (λ read. TokensOf xs read)) c.as_bytes.ensures.value c.tokens_of.ensures)
