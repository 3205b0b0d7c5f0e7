use Rattle.std.proofs.Common.{◌≡◌, ◌≢◌, ◌++◌, arith}
use Rattle.std.specs.Prelude.{Option, codes}
use Rattle.std.specs.Fmt.{decimal}
use Rattle.pg_values.specs.declared.col_type.ColType.{ColType}
use Rattle.typed_sql.specs.Steps.{fault}
use Rattle.catalogue.specs.Statements.{kind_numbered}
use Rattle.catalogue.proofs.Finding.{finds_fault}
use Rattle.catalogue.proofs.Lists.{numbered_none}
use Rattle.catalogue.proofs.parameters.kind_numbered.Goals as goal

pub returns-in-None : goal.returns-in-None
returns-in-None c =
    let some : c.args.number ≢ 0 = omega arith in
    finds_fault (λ (k : Option ColType). k) c.no_kind.result (fault (codes "0A000") (codes "parameter type " ++ decimal c.args.number))
    (kind_numbered c.args.number) c.no_kind.ensures (numbered_none c.args.number some c.in-None.ensures.none)
