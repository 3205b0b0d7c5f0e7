-- From what was read to what is to be served.
use Rattle.std.proofs.Common.{ℕ, List, subst}
use Rattle.std.specs.Prelude.{Option, Some, Result, Ok, Err, IfOk, IfErr}
use Rattle.pool_base.specs.Outside.{Told}
use Rattle.pool_command.specs.declared.command.Command.{Command}
use Rattle.pool_run.specs.Schemas.{IsSchemaRead}
use Rattle.pool_run.specs.Serving.{HasTables}
use Rattle.pool_run.specs.Texts.{IsRead, schema_name}
use Rattle.schema.specs.declared.catalogue.TableDef.{TableDef}

pub for_ok : {X E : Type 0} (r : Result X E) (P Q : X → Type 0) → ((x : X) → P x → Q x) → IfOk r P → IfOk r Q
for_ok (Ok x) P Q f p = f x p
for_ok (Err e) P Q f p = tt

pub for_err : {X E : Type 0} (r : Result X E) (P Q : E → Type 0) → ((e : E) → P e → Q e) → IfErr r P → IfErr r Q
for_err (Ok x) P Q f p = tt
for_err (Err e) P Q f p = f e p

pub tables_of : (command : Command) (contents : List ℕ → Told) (schema : Option (List ℕ)) (tables : List TableDef) → IsRead (contents (schema_name command)) 262144 schema → IsSchemaRead schema tables → HasTables command contents tables
tables_of command contents schema tables read is =
    let kept : Option (List ℕ) → Type 0 = λ s. IsRead (contents (schema_name command)) 262144 s in
    record { text = is.text; read = subst kept is.is read; says = is.says }
