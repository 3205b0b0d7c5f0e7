use Rattle.std.proofs.Common.{◌≡◌, List, subst}
use Rattle.std.proofs.lemmas.Result.{err_from_is_err_and}
use Rattle.std.specs.Prelude.{Bool as Truth, Ok, Err}
use Rattle.typed_sql.specs.Meaning.{Finds}
use Rattle.catalogue.specs.declared.checked.OrderKey.{OrderKey}
use Rattle.catalogue.specs.Statements.{is_there, uncounted}
use Rattle.catalogue.proofs.Finding.{told_then, told_stops}
use Rattle.catalogue.proofs.select.order_of.Goals as goal

pub returns-in_err-uncounted : goal.returns-in_err-uncounted
returns-in_err-uncounted c =
    let p = err_from_is_err_and c.from_residual.result c.from_residual.ensures.1 in
    rw (p.1, p.2) (told_stops (λ (u : Unit {0}). u) _ (λ (ks : List OrderKey). ks) (uncounted c.args.count (is_there c.args.order.now))
    c.args.known.now c.args.known.now c.in_err-uncounted.field-0.0
    (subst (λ (b : Truth). Finds (λ (u : Unit {0}). u) (Err c.in_err-uncounted.field-0.0) (uncounted c.args.count b)) c.is_there.ensures
    c.in_err-uncounted.ensures))

pub returns : goal.returns
returns c =
    told_then (λ (u : Unit {0}). u) _ (λ (ks : List OrderKey). ks) (uncounted c.args.count (is_there c.args.order.now))
    c.args.known.now c.args.known.now tt c.keys_of.result
    (subst (λ (b : Truth). uncounted c.args.count b ≡ Ok tt) c.is_there.ensures c.in_ok-uncounted.ensures) c.keys_of.ensures
