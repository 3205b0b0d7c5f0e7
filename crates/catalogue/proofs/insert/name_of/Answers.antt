use denote.Ref.{Bor}
use Rattle.std.proofs.Common.{ℕ, sym, ◌∙◌}
use Rattle.std.proofs.lemmas.Result.{err_from_is_err_and}
use Rattle.std.specs.Prelude.{None, codes}
use Rattle.schema.specs.declared.catalogue.ColumnDef.{ColumnDef}
use Rattle.typed_sql.specs.Own.{column_meant}
use Rattle.typed_sql.specs.Steps.{fault}
use Rattle.typed_sql.specs.Meaning.{scope_of}
use Rattle.catalogue.specs.Statements.{named_twice}
use Rattle.catalogue.specs.Targets.{target_of}
use Rattle.catalogue.proofs.Finding.{finds_fault, told_stops}
use Rattle.catalogue.proofs.SetLemmas.{not_twice, once_named, name_refused, name_gives}
use Rattle.catalogue.proofs.insert.name_of.Goals as goal

pub returns-in_err-number : goal.returns-in_err-number
returns-in_err-number c =
    let p = err_from_is_err_and c.from_residual.result c.from_residual.ensures.1 in
    rw (p.1, p.2) (told_stops (λ (x : ℕ × Bor ColumnDef). (x.0, x.1.now)) _ target_of
    (column_meant (scope_of c.args.check.now.scope) None c.args.name.now) c.args.known.now c.args.known.now
    c.in_err-number.field-0.0 c.in_err-number.ensures)

pub returns-then-contains : goal.returns-then-contains
returns-then-contains c =
    let x : ℕ × ColumnDef = (c.in_ok-number.number, c.in_ok-number.column.now) in
    name_refused (λ (x : ℕ × Bor ColumnDef). (x.0, x.1.now)) target_of (c.in_ok-number.number, c.in_ok-number.column)
    (scope_of c.args.check.now.scope) c.args.before.now c.args.name.now c.args.known.now c.in_ok-number.ensures
    c.column_twice.result c.args.known.now
    (finds_fault (λ (x : ℕ × ColumnDef). x) c.column_twice.result (fault (codes "42701") c.args.name.now)
    (named_twice c.args.name.now c.args.before.now x) c.column_twice.ensures
    (not_twice c.args.name.now c.args.before.now x (sym c.contains.ensures.value ∙ c.if-contains.true)))

pub returns : goal.returns
returns c =
    let x : ℕ × ColumnDef = (c.in_ok-number.number, c.in_ok-number.column.now) in
    name_gives (λ (x : ℕ × Bor ColumnDef). (x.0, x.1.now)) target_of (c.in_ok-number.number, c.in_ok-number.column)
    (scope_of c.args.check.now.scope) c.args.before.now c.args.name.now c.args.known.now c.in_ok-number.ensures
    (once_named c.args.name.now c.args.before.now x (sym c.contains.ensures.value ∙ c.if-contains.false))
