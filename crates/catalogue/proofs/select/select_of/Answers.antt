use denote.Ref.{Bor}
use Rattle.std.proofs.Common.{ℕ}
use Rattle.std.proofs.lemmas.Result.{err_from_is_err_and}
use Rattle.schema.specs.declared.catalogue.TableDef.{TableDef}
use Rattle.catalogue.proofs.BodyLemmas.{select_bare, select_stops, select_goes}
use Rattle.catalogue.proofs.select.select_of.Goals as goal

pub returns-in-None : goal.returns-in-None
returns-in-None c =
    select_bare c.args.tables.now c.args.parameters c.args.select.now c.args.known.now.items c.bare_read.new.known.items c.bare_read.result
    c.in-None.is c.bare_read.ensures

pub returns-in_err-table-in-Some : goal.returns-in_err-table-in-Some
returns-in_err-table-in-Some c =
    let p = err_from_is_err_and c.from_residual.result c.from_residual.ensures.1 in
    rw (p.1, p.2) (select_stops c.args.tables.now c.args.parameters c.args.select.now c.args.known.now.items c.args.known.now.items
    (λ (x : ℕ × Bor TableDef). (x.0, x.1.now)) c.in-Some.name c.in-Some.is c.in_err-table-in-Some.field-0.0 c.in_err-table-in-Some.ensures.found)

pub returns-in_ok-table-in-Some : goal.returns-in_ok-table-in-Some
returns-in_ok-table-in-Some c =
    select_goes c.args.tables.now c.args.parameters c.args.select.now c.args.known.now.items c.read_from.new.known.items
    (λ (x : ℕ × Bor TableDef). (x.0, x.1.now)) c.in-Some.name c.in-Some.is c.in_ok-table-in-Some.table c.read_from.result
    c.in_ok-table-in-Some.ensures.found c.read_from.ensures
