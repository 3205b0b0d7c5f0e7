use Rattle.std.proofs.Common.{ap, ◌∙◌}
use Rattle.schema.specs.declared.catalogue.ColumnDef.{ColumnDef}
use Rattle.named_list.specs.Names.{found_from}
use Rattle.typed_sql.proofs.Columns.{column_is_found}
use Rattle.typed_sql.proofs.look_up.find_column.Goals as goal

pub returns-in-Some : goal.returns-in-Some
returns-in-Some c =
    c.in-Some.ensures.found ∙ ap (λ n. found_from (λ (x : ColumnDef). x.name) 0 n c.args.columns.now) c.as_str.ensures
    ∙ column_is_found 0 c.args.name.now c.args.columns.now

pub returns-in-None : goal.returns-in-None
returns-in-None c =
    c.in-None.ensures.found ∙ ap (λ n. found_from (λ (x : ColumnDef). x.name) 0 n c.args.columns.now) c.as_str.ensures
    ∙ column_is_found 0 c.args.name.now c.args.columns.now
