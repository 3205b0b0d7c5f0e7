use Rattle.std.proofs.Common.{[], arith}
use Rattle.std.specs.Prelude.{codes}
use Rattle.typed_sql.specs.declared.typed.TypedExpr.{TypedExpr}
use Rattle.typed_sql.specs.Steps.{fault}
use Rattle.typed_sql.specs.Meaning.{scope_of}
use Rattle.catalogue.specs.Statements.{has_room}
use Rattle.catalogue.proofs.Finding.{finds_fault, told_stops}
use Rattle.catalogue.proofs.ItemLemmas.{room, full, item_answers}
use Rattle.catalogue.proofs.select.item_of.Goals as goal

pub returns-then-before-lt-MOST_ITEMS : goal.returns-then-before-lt-MOST_ITEMS
returns-then-before-lt-MOST_ITEMS c =
    item_answers (scope_of c.args.check.now.scope) c.args.before c.args.item.now c.asks_nothing.result c.args.known.now.items
    c.typed_at.new.known.items c.typed_at.result (room c.args.before (omega arith)) c.asks_nothing.ensures c.typed_at.ensures

pub returns-else-before-lt-MOST_ITEMS : goal.returns-else-before-lt-MOST_ITEMS
returns-else-before-lt-MOST_ITEMS c =
    told_stops (λ (u : Unit {0}). u) _ (λ (e : TypedExpr). e) (has_room c.args.before) c.args.known.now.items c.args.known.now.items
    c.too_many_columns.result
    (finds_fault (λ (u : Unit {0}). u) c.too_many_columns.result (fault (codes "54011") []) (has_room c.args.before)
    c.too_many_columns.ensures (full c.args.before (omega arith)))
