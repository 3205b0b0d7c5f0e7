use denote.Ref.{Bor}
use Rattle.std.proofs.Common.{ℕ, List, ◌∙◌}
use Rattle.std.proofs.lemmas.Result.{err_from_is_err_and}
use Rattle.std.specs.Option.{option_map}
use Rattle.typed_sql.specs.Steps.{Known}
use Rattle.catalogue.proofs.CheckLemmas.{stands_same, kinds_refused, body_refused, body_given}
use Rattle.catalogue.proofs.checks.check.Goals as goal

pub returns-in_err-known : goal.returns-in_err-known
returns-in_err-known c =
    let p = err_from_is_err_and c.from_residual.result c.from_residual.ensures.1 in
    rw (p.1, p.2) (kinds_refused c.args.tables.now c.args.statement.now (option_map (λ (k : Bor (List ℕ)). k.now) c.args.kinds)
    (λ (known : Known). known) c.in_err-known.field-0.0 c.in_err-known.ensures)

pub returns-in_err-body : goal.returns-in_err-body
returns-in_err-body c =
    let p = err_from_is_err_and c.from_residual-in_err-body.result c.from_residual-in_err-body.ensures.1 in
    rw (p.1, p.2) (body_refused c.args.tables.now c.args.statement.now (option_map (λ (k : Bor (List ℕ)). k.now) c.args.kinds)
    c.in_ok-known.known.items c.in_ok-known.ensures c.is_some-parameters.result
    (c.is_some-parameters.ensures ∙ stands_same (λ (k : Bor (List ℕ)). k.now) c.args.kinds) c.in_err-body.field-0.0 c.body_of.new.known.items
    c.in_err-body.ensures)

pub returns-in-Ok : goal.returns-in-Ok
returns-in-Ok c =
    body_given c.args.tables.now c.args.statement.now (option_map (λ (k : Bor (List ℕ)). k.now) c.args.kinds)
    c.in_ok-known.known.items c.in_ok-known.ensures c.is_some-parameters.result
    (c.is_some-parameters.ensures ∙ stands_same (λ (k : Bor (List ℕ)). k.now) c.args.kinds)
    c.in_ok-body.body c.in_ok-body.columns c.body_of.new.known.items c.in-Ok.kinds
    c.in_ok-body.ensures
    c.in-Ok.ensures
