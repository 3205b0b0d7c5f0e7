use Rattle.std.proofs.Common.{◌≡◌, ◌-◌, List, [], ◌∷◌, length, take, drop, arith}
use Rattle.std.specs.String.{string_bytes}
use Rattle.schema.specs.declared.catalogue.TableDef.{TableDef}
use Rattle.schema.specs.Ranges.{AreColumnsInRange}
use Rattle.schema_print.proofs.Steps.{first_and_others, one_table, no_table, empty, rest_of}
use Rattle.schema_print.proofs.print.push_tables.Goals as goal

pub loop-left-preserved : goal.loop-left-preserved
loop-left-preserved c =
    let left = c.loop-left.left.now in
    let table = c.table-item.result in
    let parts = first_and_others left table (omega arith) c.table-item.is in
    record {
      on = one_table c.args.tables.now left (take (length left - 1) (drop 1 left)) table (string_bytes c.args.onto.now) (string_bytes c.loop-left.onto) (string_bytes c.push_table.new.onto)
          parts c.in_ok-push_table.ensures c.loop-left.invariant.on;
      in_range = rest_of (λ (t : TableDef). AreColumnsInRange t.columns) left (take (length left - 1) (drop 1 left)) table parts c.loop-left.invariant.in_range;
    }

pub returns : goal.returns
returns c = no_table c.args.tables.now c.loop-left.left.now (string_bytes c.args.onto.now) (string_bytes c.loop-left.onto) (empty c.loop-left.left.now (omega arith)) c.loop-left.invariant.on
