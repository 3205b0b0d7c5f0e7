use denote.Ref.{Bor}
use Rattle.std.proofs.Common.{ℕ}
use Rattle.std.proofs.lemmas.Result.{err_from_is_err_and}
use Rattle.schema.specs.declared.catalogue.TableDef.{TableDef}
use Rattle.catalogue.proofs.BodyLemmas.{body_selects, insert_stops, insert_goes, update_stops, update_goes, delete_stops, delete_goes}
use Rattle.catalogue.proofs.checks.body_of.Goals as goal

pub returns-in-Select : goal.returns-in-Select
returns-in-Select c =
    body_selects c.args.tables.now c.args.parameters c.args.statement.now c.args.known.now.items c.select_of.new.known.items
    c.in-Select.select c.select_of.result c.in-Select.is c.select_of.ensures

pub returns-in_err-table-in-Insert : goal.returns-in_err-table-in-Insert
returns-in_err-table-in-Insert c =
    let p = err_from_is_err_and c.from_residual.result c.from_residual.ensures.1 in
    rw (p.1, p.2) (insert_stops c.args.tables.now c.args.parameters c.args.statement.now c.args.known.now.items c.args.known.now.items
    (λ (x : ℕ × Bor TableDef). (x.0, x.1.now)) c.in-Insert.insert c.in_err-table-in-Insert.field-0.0 c.in-Insert.is c.in_err-table-in-Insert.ensures.found)

pub returns-in_ok-table-in-Insert : goal.returns-in_ok-table-in-Insert
returns-in_ok-table-in-Insert c =
    insert_goes c.args.tables.now c.args.parameters c.args.statement.now c.args.known.now.items c.insert_of.new.known.items
    (λ (x : ℕ × Bor TableDef). (x.0, x.1.now)) c.in-Insert.insert c.in_ok-table-in-Insert.table c.insert_of.result c.in-Insert.is
    c.in_ok-table-in-Insert.ensures.found c.insert_of.ensures

pub returns-in_err-table-in-Update : goal.returns-in_err-table-in-Update
returns-in_err-table-in-Update c =
    let p = err_from_is_err_and c.from_residual-in_err-table-in-Update.result c.from_residual-in_err-table-in-Update.ensures.1 in
    rw (p.1, p.2) (update_stops c.args.tables.now c.args.parameters c.args.statement.now c.args.known.now.items c.args.known.now.items
    (λ (x : ℕ × Bor TableDef). (x.0, x.1.now)) c.in-Update.update c.in_err-table-in-Update.field-0.0 c.in-Update.is c.in_err-table-in-Update.ensures.found)

pub returns-in_ok-table-in-Update : goal.returns-in_ok-table-in-Update
returns-in_ok-table-in-Update c =
    update_goes c.args.tables.now c.args.parameters c.args.statement.now c.args.known.now.items c.change_of.new.known.items
    (λ (x : ℕ × Bor TableDef). (x.0, x.1.now)) c.in-Update.update c.in_ok-table-in-Update.table c.change_of.result c.in-Update.is
    c.in_ok-table-in-Update.ensures.found c.change_of.ensures

pub returns-in_err-table-in-Delete : goal.returns-in_err-table-in-Delete
returns-in_err-table-in-Delete c =
    let p = err_from_is_err_and c.from_residual-in_err-table-in-Delete.result c.from_residual-in_err-table-in-Delete.ensures.1 in
    rw (p.1, p.2) (delete_stops c.args.tables.now c.args.parameters c.args.statement.now c.args.known.now.items c.args.known.now.items
    (λ (x : ℕ × Bor TableDef). (x.0, x.1.now)) c.in-Delete.delete c.in_err-table-in-Delete.field-0.0 c.in-Delete.is c.in_err-table-in-Delete.ensures.found)

pub returns-in_ok-table-in-Delete : goal.returns-in_ok-table-in-Delete
returns-in_ok-table-in-Delete c =
    delete_goes c.args.tables.now c.args.parameters c.args.statement.now c.args.known.now.items c.remove_of.new.known.items
    (λ (x : ℕ × Bor TableDef). (x.0, x.1.now)) c.in-Delete.delete c.in_ok-table-in-Delete.table c.remove_of.result c.in-Delete.is
    c.in_ok-table-in-Delete.ensures.found c.remove_of.ensures
