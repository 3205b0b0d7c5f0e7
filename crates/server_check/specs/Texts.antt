-- The SQL that a server is asked. A name from the schema stands in quotes where it needs them.
use Rattle.std.specs.Prelude.{ℕ, List, ◌++◌, codes}
use Rattle.std.specs.List.{flat_map}
use Rattle.schema.specs.declared.catalogue.ColumnDef.{ColumnDef}
use Rattle.schema.specs.declared.catalogue.TableDef.{TableDef}
use Rattle.sql_print.specs.Spelling.{spelled, name, string}
use Rattle.server_check.specs.declared.sql.TheConstants.{COLUMN, LOCK, NEXT, ROWS, SET}

-- a question of the catalogue about what has that name: the name, as SQL has it, in a string
unfoldable pub about_text : List ℕ → List ℕ → List ℕ
about_text front thing = (front ++ spelled (string (spelled (name thing)))) ++ codes ")"

unfoldable pub column_text : List ℕ → List ℕ → List ℕ
column_text table column = about_text ((COLUMN.now ++ spelled (string column)) ++ codes " AND a.attrelid = to_regclass(") table

-- the sequence of a serial column: the table, the column and `seq`
abbrev pub sequence_name : List ℕ → List ℕ → List ℕ
sequence_name table column = ((table ++ codes "_") ++ column) ++ codes "_seq"

unfoldable pub next_text : List ℕ → List ℕ
next_text sequence = NEXT.now ++ spelled (name sequence)

unfoldable pub lock_text : List ℕ → List ℕ
lock_text table = (LOCK.now ++ spelled (name table)) ++ codes " IN SHARE MODE"

-- up to the number
unfoldable pub set_text : List ℕ → List ℕ
set_text sequence = (SET.now ++ spelled (string (spelled (name sequence)))) ++ codes "), "

abbrev pub cell_text : ColumnDef → List ℕ
cell_text column = codes ", " ++ spelled (name column.name)

-- how many rows, and the sum of a hash of each row: it is free of their order
unfoldable pub rows_text : TableDef → List ℕ
rows_text table = ((ROWS.now ++ flat_map cell_text table.columns) ++ codes ")::text, 0)::numeric), 0) FROM ") ++ spelled (name table.name)
