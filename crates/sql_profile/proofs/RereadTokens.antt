-- The tokens of a printed statement are those that were written.
use Rattle.std.proofs.Common.{◌≡◌, ◌∙◌, ◌≤◌, ℕ, List, length, map, sym, ap, subst}
use Rattle.sql_tree.specs.declared.statement.Statement.{Statement}
use Rattle.sql_tokens.specs.declared.token.Placed.{Placed}
use Rattle.sql_tokens.specs.declared.token.Token.{Token}
use Rattle.sql_tokens.specs.Tokens.{TokensOf}
use Rattle.sql_print.specs.Printed.{tokens_of, statement_text}
use Rattle.sql_profile.specs.Lexemes.{token_of, AreLexemes}
use Rattle.sql_profile.proofs.Spaced.{text_tokens}
use Rattle.sql_profile.proofs.Printed.{flows_statement}

pub printed_tokens : (s : Statement) → AreLexemes (tokens_of s) → length (tokens_of s) ≤ 65536
    → (placed : List Placed) × (map (λ (p : Placed). p.token) placed ≡ map token_of (tokens_of s)) × TokensOf (statement_text s) placed
printed_tokens s all few = text_tokens (tokens_of s) all (flows_statement s) few

-- what is read of a printed statement
pub read_again : (s : Statement) (text : List ℕ) (read : List Placed) (tokens : List Token) → text ≡ statement_text s
    → ((placed : List Placed) → TokensOf text placed → read ≡ placed) → tokens ≡ map (λ (p : Placed). p.token) read
    → AreLexemes (tokens_of s) → length (tokens_of s) ≤ 65536 → tokens ≡ map token_of (tokens_of s)
read_again s text read tokens is only alone all few =
    let x = printed_tokens s all few in
    let same : read ≡ x.0 = only x.0 (subst (λ (bytes : List ℕ). TokensOf bytes x.0) (sym is) x.2) in
    alone ∙ (ap (λ (ps : List Placed). map (λ (p : Placed). p.token) ps) same ∙ x.1)
