use Rattle.std.proofs.Common.{◌≡◌, ◌++◌, length, drop}
use Rattle.wire_reply.specs.Rows.{fields_from}
use Rattle.wire_reply.proofs.fields.fields_of.Given as goal

abbrev pub invariant-loop-column : goal.invariant-loop-column
invariant-loop-column l = (length l.fields ≡ l.column-index)
    × (fields_from l.formats 0 l.columns ≡ l.fields ++ fields_from l.formats l.column-index (drop l.column-index l.columns))
