use Rattle.std.proofs.lemmas.Result.{err_from_is_err_and}
use Rattle.typed_sql.specs.Meaning.{scope_of}
use Rattle.catalogue.proofs.SelectLemmas.{limit_counted, limit_fails, limit_gives, limit_none}
use Rattle.catalogue.proofs.select.limit_of.Goals as goal

pub returns-in_err-uncounted-in-Some : goal.returns-in_err-uncounted-in-Some
returns-in_err-uncounted-in-Some c =
    let p = err_from_is_err_and c.from_residual.result c.from_residual.ensures.1 in
    rw (p.1, p.2) (limit_counted (scope_of c.args.check.now.scope) c.args.count c.args.limit.now c.in-Some.limit c.in-Some.is c.args.known.now.items
    c.in_err-uncounted-in-Some.field-0.0 c.args.known.now.items c.in_err-uncounted-in-Some.ensures)

pub returns-in_err-typed-in-Some : goal.returns-in_err-typed-in-Some
returns-in_err-typed-in-Some c =
    let p = err_from_is_err_and c.from_residual-in_err-typed-in-Some.result c.from_residual-in_err-typed-in-Some.ensures.1 in
    rw (p.1, p.2) (limit_fails (scope_of c.args.check.now.scope) c.args.count c.args.limit.now c.in-Some.limit c.in-Some.is c.args.known.now.items
    c.in_ok-uncounted-in-Some.ensures c.asks_limit.result c.asks_limit.ensures
    c.in_err-typed-in-Some.field-0.0 c.typed_at.new.known.items c.typed_at.new.known.items c.in_err-typed-in-Some.ensures)

pub returns-in-None : goal.returns-in-None
returns-in-None c = limit_none (scope_of c.args.check.now.scope) c.args.count c.args.limit.now c.args.known.now.items c.in-None.is

pub returns-in_ok-typed-in-Some : goal.returns-in_ok-typed-in-Some
returns-in_ok-typed-in-Some c =
    limit_gives (scope_of c.args.check.now.scope) c.args.count c.args.limit.now c.in-Some.limit c.in-Some.is c.args.known.now.items
    c.in_ok-uncounted-in-Some.ensures c.asks_limit.result c.asks_limit.ensures c.in_ok-typed-in-Some.typed c.typed_at.new.known.items c.in_ok-typed-in-Some.ensures
