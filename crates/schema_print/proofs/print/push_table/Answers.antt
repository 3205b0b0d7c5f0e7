use Rattle.std.proofs.Common.{◌≡◌, ◌∙◌, ℕ, List, sym, ap, subst}
use Rattle.std.specs.String.{string_bytes}
use Rattle.schema_print.specs.Printed.{AreColumnsText}
use Rattle.schema_print.proofs.Steps.{table_added}
use Rattle.schema_print.proofs.print.push_table.Goals as goal

pub returns : goal.returns
returns c =
    let name : c.as_str.result.now ≡ c.args.table.now.name = c.as_str.ensures in
    let columns = c.in_ok-push_columns.ensures in
    table_added c.args.table.now (string_bytes c.args.onto.now) (string_bytes c.push_str.new.self) (string_bytes c.push_name.new.onto) (string_bytes c.push_str-2.new.self) (string_bytes c.push_columns.new.onto) (string_bytes c.push_str-3.new.self)
    c.as_str.result.now c.as_slice.result.now name c.as_slice.ensures c.in_ok-push_str.ensures.bytes c.in_ok-push_name.ensures c.in_ok-push_str-2.ensures.bytes columns c.in_ok-push_str-3.ensures.bytes
