use Rattle.std.proofs.Common.{ℕ, List, [], ◌∷◌, ◌++◌, ap, sym, ◌∙◌, arith}
use Rattle.std.proofs.lemmas.Result.{err_from_is_err_and}
use Rattle.typed_sql.specs.Meaning.{scope_of}
use Rattle.typed_sql.proofs.Walking.{walk_whole}
use Rattle.catalogue.specs.declared.checked.TypedSet.{TypedSet}
use Rattle.catalogue.specs.Statements.{SetOf}
use Rattle.catalogue.proofs.Loops.{listed_next, listed_stops}
use Rattle.catalogue.proofs.change.sets_of.Goals as goal

pub loop-item-preserved : goal.loop-item-preserved
loop-item-preserved c =
    listed_next (λ (s : TypedSet). s.column) (SetOf (scope_of c.args.check.now.scope) c.args.key) c.args.items.now c.loop-item.item-index
    c.item-item.result c.loop-item.sets c.as_slice.result.now c.args.known.now.items c.loop-item.known.items
    c.push.new.self c.push-in-loop-item.new.self c.in_ok-set.set c.set_of.new.known.items
    (omega arith) c.item-item.is (c.loop-item.invariant.0, c.as_slice.ensures ∙ c.loop-item.invariant.1) c.in_ok-set.ensures
    c.in_ok-push.ensures.ok (c.in_ok-push-2.ensures.ok ∙ ap (λ (b : List ℕ). b ++ c.in_ok-set.set.column ∷ []) (sym c.as_slice.ensures))

pub returns-in_err-set : goal.returns-in_err-set
returns-in_err-set c =
    let p = err_from_is_err_and c.from_residual.result c.from_residual.ensures.1 in
    rw (p.1, p.2) (listed_stops (λ (s : TypedSet). s.column) (SetOf (scope_of c.args.check.now.scope) c.args.key) c.args.items.now c.loop-item.item-index
    c.item-item.result c.loop-item.sets c.as_slice.result.now c.args.known.now.items c.loop-item.known.items
    (λ (s : TypedSet). s) (λ (ss : List TypedSet). ss) c.set_of.new.known.items c.set_of.new.known.items c.in_err-set.field-0.0
    (omega arith) c.item-item.is (c.loop-item.invariant.0, c.as_slice.ensures ∙ c.loop-item.invariant.1) c.in_err-set.ensures)

pub returns : goal.returns
returns c =
    walk_whole (SetOf (scope_of c.args.check.now.scope) c.args.key) (λ (before : List ℕ) (s : TypedSet). before ++ s.column ∷ []) [] c.args.items.now
    c.loop-item.item-index c.args.known.now.items _ (omega arith) c.loop-item.invariant.0
