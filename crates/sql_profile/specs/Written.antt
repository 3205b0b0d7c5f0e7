-- What a call that writes a schema again answers.
use Rattle.std.specs.Prelude.{ℕ, List, Result, Ok, Err}
use Rattle.schema.specs.declared.catalogue.TableDef.{TableDef}
use Rattle.schema.specs.declared.fault.SchemaFault.{SchemaFault}
use Rattle.schema.specs.declared.fault.SchemaFault.TheVariants.{BadLine, NoMemory}
use Rattle.schema.specs.Reading.{Says}
use Rattle.schema_print.specs.Printed.{IsSchemaText}

-- the answer is the text of these tables, which says them, unless memory ran out
abbrev pub IsWritten : List TableDef → Result (List ℕ) SchemaFault → Type 0
IsWritten tables (Ok text) = IsSchemaText tables text × Says text tables
IsWritten tables (Err (BadLine line)) = ⊥
IsWritten tables (Err NoMemory) = Unit {0}
