use Rattle.std.proofs.Common.{◌≡◌, List, map, drop, ap, sym, ◌∙◌, arith}
use Rattle.std.proofs.lemmas.List.{at_drop_all}
use Rattle.sql_tree.specs.declared.expr.Expr.{Expr}
use Rattle.typed_sql.specs.Own.{own_kind, first_kind}
use Rattle.typed_sql.specs.Meaning.{scope_of}
use Rattle.typed_sql.proofs.OwnForms.{first_here, first_on}
use Rattle.typed_sql.proofs.own.first_entry.Goals as goal

pub returns-in-Some : goal.returns-in-Some
returns-in-Some c =
    first_here (own_kind (scope_of c.args.scope.now) c.args.known.now) c.args.entries.now c.loop-entry.entry-index c.entry-item.result c.in-Some.kind
    (omega arith) c.entry-item.is c.loop-entry.invariant (sym c.in-Some.ensures)

pub loop-entry-preserved : goal.loop-entry-preserved
loop-entry-preserved c =
    first_on (own_kind (scope_of c.args.scope.now) c.args.known.now) c.args.entries.now c.loop-entry.entry-index c.entry-item.result
    (omega arith) c.entry-item.is c.loop-entry.invariant (sym c.in_default.ensures)

pub returns : goal.returns
returns c =
    sym (c.loop-entry.invariant ∙ at_drop_all (λ (ys : List Expr). first_kind (map (own_kind (scope_of c.args.scope.now) c.args.known.now) ys))
    c.args.entries.now c.loop-entry.entry-index (omega arith))
