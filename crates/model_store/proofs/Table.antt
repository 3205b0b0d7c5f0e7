-- The text of the trials is the one text of their table, which a schema can have.
use Rattle.std.proofs.Common.{ℕ, List, [], ◌∷◌, arith, refl, inl}
use Rattle.std.specs.Prelude.{true, false, Some, codes}
use Rattle.std.specs.Str.{IsUtf8}
use Rattle.pg_values.specs.declared.col_type.ColType.TheVariants as kind
use Rattle.schema.specs.declared.catalogue.ColumnDef.{ColumnDef}
use Rattle.schema.specs.declared.catalogue.Fill.TheVariants as fill
use Rattle.schema.specs.declared.catalogue.TableDef.{TableDef}
use Rattle.schema.specs.Reading.{Says}
use Rattle.schema.specs.Allowed.{AreAllowed, IsColumn}
use Rattle.schema_print.specs.Printed.{IsSchemaText}
use Rattle.schema.specs.Ranges.{AreInRange}
use Rattle.schema_print.proofs.Again.{says_again}

abbrev id : ColumnDef
id = record { name = codes "id"; kind = kind.Int4; not_null = true; fill = fill.Serial }

abbrev v : ColumnDef
v = record { name = codes "v"; kind = kind.Int8; not_null = false; fill = fill.Nothing }

abbrev t : TableDef
t = record { name = codes "t"; columns = id ∷ v ∷ []; key = 0; serial = Some 0 }

abbrev pub tables : List TableDef
tables = t ∷ []

abbrev text : List ℕ
text = codes "CREATE TABLE t (id serial PRIMARY KEY, v int8);\n"

pub in_range : AreInRange tables
in_range = ((tt, (tt, tt)), tt)

id_allowed : IsColumn true true id
id_allowed = record { named = (omega arith, omega arith, (omega arith, (omega arith, tt))); filled = (inl refl, refl); numbered = refl; key = (refl, refl) }

v_allowed : IsColumn false false v
v_allowed = record { named = (omega arith, omega arith, (omega arith, tt)); filled = tt; numbered = refl; key = tt }

pub allowed : AreAllowed tables
allowed = (
  omega arith,
  (
    record {
      named = (omega arith, omega arith, (omega arith, tt));
      is_new = refl;
      columns = (id_allowed, refl, (v_allowed, refl, tt));
      has_key = omega arith;
      has_serial = omega arith;
      few = omega arith;
    },
    tt,
  ),
)

written : IsSchemaText tables text
written = (
  text,
  [],
  (
    codes "id serial PRIMARY KEY, v int8",
    (codes "id serial PRIMARY KEY", codes ", v int8", ([], refl, refl), (codes "v int8", [], ([], refl, refl), refl, refl), refl),
    refl,
  ),
  refl,
  refl,
)

pub says : IsUtf8 text → Says text tables
says valid = says_again tables text valid written allowed
