use Rattle.std.proofs.Common.{List, subst, Bor}
use Rattle.pg_values.specs.declared.value.Value.{Value}
use Rattle.sql_eval.specs.declared.row.Row.{Row}
use Rattle.sql_eval.specs.Walks.{Coded, GivesAs}
use Rattle.sql_eval.proofs.Reading.{keys_are}
use Rattle.sql_eval.proofs.read.keys_wanted.Goals as goal

pub returns : goal.returns
returns c =
    subst (λ (o : Coded (List Value)). GivesAs (λ (ks : List Value). ks) c.keys_of.result o)
    (keys_are (λ (r : Bor Row). r.now) c.args.key c.args.rows.now c.args.for_update c.if-not-for_update.false) c.keys_of.ensures
