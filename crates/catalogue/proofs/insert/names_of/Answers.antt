use Rattle.std.proofs.Common.{ℕ, List, [], ◌∷◌, ◌++◌, map, ap, sym, ◌∙◌, subst, arith}
use Rattle.std.proofs.lemmas.List.{map-append}
use Rattle.std.proofs.lemmas.Result.{err_from_is_err_and}
use Rattle.std.specs.Prelude.{Ok}
use Rattle.schema.specs.declared.catalogue.ColumnDef.{ColumnDef}
use Rattle.typed_sql.specs.Steps.{Walk}
use Rattle.typed_sql.specs.Meaning.{scope_of}
use Rattle.typed_sql.proofs.Walking.{walk_whole}
use Rattle.catalogue.specs.declared.insert.Target.{Target}
use Rattle.catalogue.specs.Statements.{Name}
use Rattle.catalogue.specs.Targets.{target_of}
use Rattle.catalogue.proofs.Loops.{listed_next, listed_stops}
use Rattle.catalogue.proofs.insert.names_of.Goals as goal

pub loop-name-preserved : goal.loop-name-preserved
loop-name-preserved c =
    listed_next (λ (x : ℕ × ColumnDef). x.0) (Name (scope_of c.args.check.now.scope)) c.args.names.now c.loop-name.name-index c.name-item.result
    (map target_of c.loop-name.given) c.as_slice.result.now c.args.known.now c.args.known.now
    (map target_of c.push-in-loop-name.new.self) c.push.new.self (target_of c.in_ok-target.target) c.args.known.now
    (omega arith) c.name-item.is (c.loop-name.invariant.0, c.as_slice.ensures ∙ c.loop-name.invariant.1) c.in_ok-target.ensures
    (ap (map target_of) c.in_ok-push-2.ensures.ok ∙ map-append target_of c.loop-name.given _)
    (c.in_ok-push.ensures.ok ∙ ap (λ (b : List ℕ). b ++ c.in_ok-target.target.number ∷ []) (sym c.as_slice.ensures))

pub returns-in_err-target : goal.returns-in_err-target
returns-in_err-target c =
    let p = err_from_is_err_and c.from_residual.result c.from_residual.ensures.1 in
    rw (p.1, p.2) (listed_stops (λ (x : ℕ × ColumnDef). x.0) (Name (scope_of c.args.check.now.scope)) c.args.names.now c.loop-name.name-index
    c.name-item.result (map target_of c.loop-name.given) c.as_slice.result.now c.args.known.now c.args.known.now
    target_of (λ (given : List Target). map target_of given) c.args.known.now c.args.known.now c.in_err-target.field-0.0
    (omega arith) c.name-item.is (c.loop-name.invariant.0, c.as_slice.ensures ∙ c.loop-name.invariant.1) c.in_err-target.ensures)

pub returns : goal.returns
returns c =
    walk_whole (Name (scope_of c.args.check.now.scope)) (λ (before : List ℕ) (x : ℕ × ColumnDef). before ++ x.0 ∷ []) [] c.args.names.now
    c.loop-name.name-index c.args.known.now _ (omega arith) c.loop-name.invariant.0
