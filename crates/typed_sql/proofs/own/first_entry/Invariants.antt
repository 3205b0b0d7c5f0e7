use Rattle.std.proofs.Common.{◌≡◌, drop, map}
use Rattle.typed_sql.specs.Own.{own_kind, first_kind}
use Rattle.typed_sql.specs.Meaning.{scope_of}
use Rattle.typed_sql.proofs.own.first_entry.Given as goal

abbrev pub invariant-loop-entry : goal.invariant-loop-entry
invariant-loop-entry l = first_kind (map (own_kind (scope_of l.scope) l.known) l.entries)
    ≡ first_kind (map (own_kind (scope_of l.scope) l.known) (drop l.entry-index l.entries))
