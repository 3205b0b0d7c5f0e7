-- What is told of a schema that was read and written.
use Rattle.std.proofs.Common.{◌≡◌, ℕ, List, Result, Ok, Err, sym, subst}
use Rattle.schema.specs.declared.catalogue.TableDef.{TableDef}
use Rattle.schema.specs.declared.fault.SchemaFault.{SchemaFault}
use Rattle.schema.specs.declared.fault.SchemaFault.TheVariants.{BadLine, NoMemory}
use Rattle.schema.specs.Reading.{Says, IsCatalogue}
use Rattle.schema_print.specs.Printed.{IsSchemaText}
use Rattle.sql_profile.specs.Written.{IsWritten}

pub fault_same : (tables : List TableDef) (fault : SchemaFault) (r : Result (List ℕ) SchemaFault) → r ≡ Err fault → IsCatalogue tables (Err fault) → IsWritten tables r
fault_same tables (BadLine line) r is never = absurd never
fault_same tables NoMemory r is only = subst (IsWritten tables) (sym is) tt

pub written_same : (read tables : List TableDef) (text : List ℕ) → IsSchemaText read text → Says text read → read ≡ tables → IsWritten tables (Ok text)
written_same read tables text is says same = subst (λ (ts : List TableDef). IsWritten ts (Ok text)) same (is, says)
