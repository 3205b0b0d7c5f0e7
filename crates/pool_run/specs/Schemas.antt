-- A schema's text: which tables it says, and why it is refused.
use Rattle.std.specs.Prelude.{◌≡◌, ◌<◌, ◌⊎◌, ℕ, List, [], ◌∷◌, ◌++◌, Option, Some, None, length, Result, Ok, Err, codes}
use Rattle.std.specs.Fmt.{decimal}
use Rattle.schema.specs.declared.catalogue.TableDef.{TableDef}
use Rattle.schema.specs.Reading.{Says, IsFaulty}
use Rattle.pool_run.specs.declared.schemas.SchemaStop.{SchemaStop}
use Rattle.pool_run.specs.declared.schemas.SchemaStop.TheVariants.{TooLong, BadLine, NoMemory}

-- the text that was read says these tables
pub record IsSchemaRead (schema : Option (List ℕ)) (tables : List TableDef) : Type 0 where
  pub text : List ℕ
  pub is : schema ≡ Some text
  pub says : Says text tables

-- the text is no schema
abbrev pub SaysNoTables : List ℕ → Type 0
SaysNoTables text = (tables : List TableDef) → Says text tables → ⊥

abbrev pub schema_too_long : List ℕ
schema_too_long = codes "pool: schema is too long" ++ 10 ∷ []

abbrev pub bad_schema_line : ℕ → List ℕ
bad_schema_line n = codes "pool: schema line " ++ (decimal n ++ (codes ": bad line" ++ 10 ∷ []))

-- why the schema is refused, with the line that says it: it is above its limit in bytes, or it is faulty in a line
pub data SchemaCause (schema : Option (List ℕ)) (bytes : List ℕ) : Type 0 where
  long_schema : schema ≡ None → bytes ≡ schema_too_long → SchemaCause schema bytes
  has_faulty_line : (text : List ℕ) (n : ℕ) → schema ≡ Some text → IsFaulty text n → SaysNoTables text → bytes ≡ bad_schema_line n → SchemaCause schema bytes

-- what the reader of a schema says of it
abbrev pub IsSchemaAnswer : Option (List ℕ) → Result (List TableDef) SchemaStop → Type 0
IsSchemaAnswer schema (Ok tables) = IsSchemaRead schema tables
IsSchemaAnswer schema (Err TooLong) = SchemaCause schema schema_too_long
IsSchemaAnswer schema (Err (BadLine n)) = SchemaCause schema (bad_schema_line n)
IsSchemaAnswer schema (Err NoMemory) = Unit {0}

-- a text that is refused as a schema: it is too long, or says no tables
abbrev pub IsRefusedSchema : List ℕ → Type 0
IsRefusedSchema text = (262144 < length text) ⊎ SaysNoTables text
