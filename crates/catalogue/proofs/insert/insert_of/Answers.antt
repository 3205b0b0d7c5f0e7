use Rattle.std.proofs.Common.{ℕ, List, map, refl}
use Rattle.std.proofs.lemmas.Result.{err_from_is_err_and}
use Rattle.std.specs.Prelude.{Ok, Err}
use Rattle.schema.specs.declared.catalogue.ColumnDef.{ColumnDef}
use Rattle.typed_sql.specs.Own.{beside}
use Rattle.typed_sql.specs.Steps.{Known, Answer, Answers}
use Rattle.typed_sql.specs.Meaning.{scope_of}
use Rattle.catalogue.specs.declared.checked.TypedCell.{TypedCell}
use Rattle.catalogue.specs.declared.insert.Target.{Target}
use Rattle.catalogue.specs.Targets.{target_of}
use Rattle.catalogue.proofs.InsertLemmas.{names_stop, rows_stop, insert_gives, columns_same, rows_same}
use Rattle.catalogue.proofs.insert.insert_of.Goals as goal

pub returns-in_err-given : goal.returns-in_err-given
returns-in_err-given c =
    let p = err_from_is_err_and c.from_residual.result c.from_residual.ensures.1 in
    rw (p.1, p.2) (names_stop c.args.parameters c.args.insert.now (c.args.table.0, c.args.table.1.now) (scope_of c.over.result) (beside c.args.parameters c.args.table.1.now)
    c.over.ensures refl c.args.known.now.items (λ (given : List Target). map target_of given) c.in_err-given.field-0.0
    c.args.known.now.items c.args.known.now.items
    (columns_same (scope_of c.over.result) c.args.insert.now c.as_slice-columns.result.now c.args.table.1.now.columns
    c.as_slice-kinds.result.now c.args.known.now.items c.as_slice-columns.ensures c.as_slice-kinds.ensures.value
    (λ (k : Known) (is : Answer (List (ℕ × ColumnDef)) → Type 0). Answers (λ (given : List Target). map target_of given) (Err c.in_err-given.field-0.0) k is)
    c.in_err-given.ensures))

pub returns-in_err-rows : goal.returns-in_err-rows
returns-in_err-rows c =
    let p = err_from_is_err_and c.from_residual-in_err-rows.result c.from_residual-in_err-rows.ensures.1 in
    rw (p.1, p.2) (rows_stop c.args.parameters c.args.insert.now (c.args.table.0, c.args.table.1.now) (scope_of c.over.result) (scope_of c.beside.result)
    c.over.ensures c.beside.ensures c.args.known.now.items (map target_of c.in_ok-given.given) c.args.known.now.items c.in_err-rows.field-0.0
    c.rows_of.new.known.items c.rows_of.new.known.items
    (columns_same (scope_of c.over.result) c.args.insert.now c.as_slice-columns.result.now c.args.table.1.now.columns
    c.as_slice-kinds.result.now c.args.known.now.items c.as_slice-columns.ensures c.as_slice-kinds.ensures.value
    (λ (k : Known) (is : Answer (List (ℕ × ColumnDef)) → Type 0). is (Ok (map target_of c.in_ok-given.given, k))) c.in_ok-given.ensures)
    (rows_same (scope_of c.beside.result) c.as_slice-columns.result.now c.args.table.1.now.columns c.as_slice-targets.result.now c.in_ok-given.given
    c.as_slice-cells.result.now c.args.insert.now.rows c.args.known.now.items c.as_slice-columns.ensures c.as_slice-targets.ensures c.as_slice-cells.ensures
    (λ (is : Answer (List (List TypedCell)) → Type 0). Answers (λ (rs : List (List TypedCell)). rs) (Err c.in_err-rows.field-0.0) c.rows_of.new.known.items is)
    c.in_err-rows.ensures))

pub returns : goal.returns
returns c =
    rw c.new.ensures (insert_gives c.args.parameters c.args.insert.now (c.args.table.0, c.args.table.1.now) (scope_of c.over.result) (scope_of c.beside.result)
    c.over.ensures c.beside.ensures c.args.known.now.items (map target_of c.in_ok-given.given) c.args.known.now.items c.in_ok-rows.rows
    c.rows_of.new.known.items
    (columns_same (scope_of c.over.result) c.args.insert.now c.as_slice-columns.result.now c.args.table.1.now.columns
    c.as_slice-kinds.result.now c.args.known.now.items c.as_slice-columns.ensures c.as_slice-kinds.ensures.value
    (λ (k : Known) (is : Answer (List (ℕ × ColumnDef)) → Type 0). is (Ok (map target_of c.in_ok-given.given, k))) c.in_ok-given.ensures)
    (rows_same (scope_of c.beside.result) c.as_slice-columns.result.now c.args.table.1.now.columns c.as_slice-targets.result.now c.in_ok-given.given
    c.as_slice-cells.result.now c.args.insert.now.rows c.args.known.now.items c.as_slice-columns.ensures c.as_slice-targets.ensures c.as_slice-cells.ensures
    (λ (is : Answer (List (List TypedCell)) → Type 0). is (Ok (c.in_ok-rows.rows, c.rows_of.new.known.items))) c.in_ok-rows.ensures))
