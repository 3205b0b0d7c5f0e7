use Rattle.std.proofs.Common.{◌≡◌, ◌-◌, ◌+◌, List, [], ◌∷◌, length, take, drop, arith}
use Rattle.std.specs.String.{string_bytes}
use Rattle.schema.specs.declared.catalogue.ColumnDef.{ColumnDef}
use Rattle.schema.specs.Ranges.{IsFillInRange}
use Rattle.schema_print.proofs.Steps.{first_and_others, fewer, one_column, no_column, empty, rest_of}
use Rattle.schema_print.proofs.print.push_columns.Goals as goal

pub loop-left-preserved : goal.loop-left-preserved
loop-left-preserved c =
    let left = c.loop-left.left.now in
    let column = c.column-item.result in
    let parts = first_and_others left column (omega arith) c.column-item.is in
    let less = fewer left (omega arith) in
    record {
      on = one_column c.args.key c.loop-left.number c.args.columns.now left (take (length left - 1) (drop 1 left)) column (string_bytes c.args.onto.now) (string_bytes c.loop-left.onto) (string_bytes c.push_comma.new.onto) (string_bytes c.push_column.new.onto)
          parts c.in_ok-push_comma.ensures c.in_ok-push_column.ensures c.loop-left.invariant.on;
      in_range = rest_of (λ (d : ColumnDef). IsFillInRange d.fill) left (take (length left - 1) (drop 1 left)) column parts c.loop-left.invariant.in_range;
      counted = (let counted = c.loop-left.invariant.counted in omega (arith, less, counted));
    }

pub returns : goal.returns
returns c = no_column c.args.key c.loop-left.number c.args.columns.now c.loop-left.left.now (string_bytes c.args.onto.now) (string_bytes c.loop-left.onto) (empty c.loop-left.left.now (omega arith)) c.loop-left.invariant.on
