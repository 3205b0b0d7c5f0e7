use denote.Ref.{Bor}
use Rattle.std.proofs.Common.{◌≡◌, ◌≢◌, ℕ, sym, ◌∙◌, ap, arith}
use Rattle.std.proofs.lemmas.Result.{err_from_is_err_and}
use Rattle.std.specs.Prelude.{None, codes}
use Rattle.schema.specs.declared.catalogue.ColumnDef.{ColumnDef}
use Rattle.typed_sql.specs.Own.{column_meant}
use Rattle.typed_sql.specs.Steps.{fault}
use Rattle.typed_sql.specs.Meaning.{scope_of}
use Rattle.catalogue.specs.declared.checked.TypedSet.{TypedSet}
use Rattle.catalogue.specs.Statements.{may_set}
use Rattle.catalogue.proofs.Finding.{finds_fault, told_stops}
use Rattle.catalogue.proofs.SetLemmas.{may_not_key, may_not_twice, may_be_set, set_refused, set_stops, set_gives}
use Rattle.catalogue.proofs.change.set_of.Goals as goal

pub returns-in_err-column : goal.returns-in_err-column
returns-in_err-column c =
    let p = err_from_is_err_and c.from_residual.result c.from_residual.ensures.1 in
    rw (p.1, p.2) (told_stops (λ (x : ℕ × Bor ColumnDef). (x.0, x.1.now)) _ (λ (s : TypedSet). s)
    (column_meant (scope_of c.args.check.now.scope) None c.args.item.now.column) c.args.known.now.items c.args.known.now.items
    c.in_err-column.field-0.0 c.in_err-column.ensures)

pub returns-then-column-key : goal.returns-then-column-key
returns-then-column-key c =
    let x : ℕ × ColumnDef = (c.in_ok-column.column, c.in_ok-column.definition.now) in
    set_refused (λ (x : ℕ × Bor ColumnDef). (x.0, x.1.now)) (c.in_ok-column.column, c.in_ok-column.definition)
    (scope_of c.args.check.now.scope) c.args.key c.args.before.now c.args.item.now c.args.known.now.items c.in_ok-column.ensures
    c.not_in_profile.result c.args.known.now.items
    (finds_fault (λ (x : ℕ × ColumnDef). x) c.not_in_profile.result (fault (codes "0A000") (codes "update of a key column"))
    (may_set c.args.key c.args.item.now.column c.args.before.now x) c.not_in_profile.ensures
    (may_not_key c.args.key c.args.item.now.column c.args.before.now x (omega arith)))

pub returns-then-contains : goal.returns-then-contains
returns-then-contains c =
    let x : ℕ × ColumnDef = (c.in_ok-column.column, c.in_ok-column.definition.now) in
    let other : c.in_ok-column.column ≢ c.args.key = omega arith in
    set_refused (λ (x : ℕ × Bor ColumnDef). (x.0, x.1.now)) (c.in_ok-column.column, c.in_ok-column.definition)
    (scope_of c.args.check.now.scope) c.args.key c.args.before.now c.args.item.now c.args.known.now.items c.in_ok-column.ensures
    c.column_set_twice.result c.args.known.now.items
    (finds_fault (λ (x : ℕ × ColumnDef). x) c.column_set_twice.result (fault (codes "42601") c.args.item.now.column)
    (may_set c.args.key c.args.item.now.column c.args.before.now x) c.column_set_twice.ensures
    (may_not_twice c.args.key c.args.item.now.column c.args.before.now x other (sym c.contains.ensures.value ∙ c.if-contains.true)))

pub returns-in_err-expr : goal.returns-in_err-expr
returns-in_err-expr c =
    let x : ℕ × ColumnDef = (c.in_ok-column.column, c.in_ok-column.definition.now) in
    let other : c.in_ok-column.column ≢ c.args.key = omega arith in
    let p = err_from_is_err_and c.from_residual-in_err-expr.result c.from_residual-in_err-expr.ensures.1 in
    rw (p.1, p.2) (set_stops (λ (x : ℕ × Bor ColumnDef). (x.0, x.1.now)) (c.in_ok-column.column, c.in_ok-column.definition)
    (scope_of c.args.check.now.scope) c.args.key c.args.before.now c.args.item.now c.args.known.now.items c.in_ok-column.ensures
    (may_be_set c.args.key c.args.item.now.column c.args.before.now x other (sym c.contains.ensures.value ∙ c.if-contains.false))
    c.asks_column.result c.asks_column.ensures c.in_err-expr.field-0.0 c.typed_at.new.known.items c.typed_at.new.known.items
    c.in_err-expr.ensures)

pub returns : goal.returns
returns c =
    let x : ℕ × ColumnDef = (c.in_ok-column.column, c.in_ok-column.definition.now) in
    let other : c.in_ok-column.column ≢ c.args.key = omega arith in
    set_gives (λ (x : ℕ × Bor ColumnDef). (x.0, x.1.now)) (c.in_ok-column.column, c.in_ok-column.definition)
    (scope_of c.args.check.now.scope) c.args.key c.args.before.now c.args.item.now c.args.known.now.items c.in_ok-column.ensures
    (may_be_set c.args.key c.args.item.now.column c.args.before.now x other (sym c.contains.ensures.value ∙ c.if-contains.false))
    c.asks_column.result c.asks_column.ensures c.in_ok-expr.expr c.typed_at.new.known.items c.in_ok-expr.ensures
