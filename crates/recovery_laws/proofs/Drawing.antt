-- The statements of a copy draw no serial number.
use Rattle.std.proofs.Common.{◌≡◌, ◌∙◌, ℕ, ℤ, List, [], ◌∷◌, refl, sym, ap, arith}
use Rattle.std.proofs.Math.Path.{fun_ext}
use Rattle.std.proofs.Math.IntN.{+ℤ_idr}
use Rattle.std.proofs.lemmas.Bool.{eqb-true}
use Rattle.std.specs.Prelude.{◌==◌, Bool as Truth, true, false, Option, Some, None, if◌then◌else◌, slice_get}
use Rattle.std.specs.List.{list_any}
use Rattle.pg_values.specs.declared.value.Value.{Value}
use Rattle.schema.specs.declared.catalogue.ColumnDef.{ColumnDef}
use Rattle.schema.specs.declared.catalogue.TableDef.{TableDef}
use Rattle.classifier.specs.Classes.{is_serial, lock_of}
use Rattle.sql_eval.specs.Views.{columns_of}
use Rattle.sql_eval.specs.Inserts.{all_draws, is_spent, last_serial, row_draws, serial_kind}
use Rattle.backend_trait.specs.declared.request.Request.TheVariants.{Run}
use Rattle.backend_trait.specs.Rows.{with_at}
use Rattle.backend_trait.specs.Effect.{number_from}
use Rattle.backend_trait.specs.Store.{drawn, numbered}
use Rattle.online_recovery.specs.Copies.{all_rows_in, cells_of, no_rows_in, row_into}

pub draws_none : (columns : List ColumnDef) (values : List Value) → row_draws (cells_of columns values) ≡ 0
draws_none [] values = refl
draws_none (column ∷ columns) [] = refl
draws_none (column ∷ columns) (v ∷ values) = draws_none columns values

pub none_drawn : (columns : List ColumnDef) (values : List Value) → all_draws (cells_of columns values ∷ []) ≡ 0
none_drawn columns values = let none : row_draws (cells_of columns values) ≡ 0 = draws_none columns values in omega arith

same_number : (o : Option ℤ) → numbered 0 o ≡ o
same_number None = refl
same_number (Some next) = ap Some (+ℤ_idr next)

kept_at : (next : ℕ → Option ℤ) (n j : ℕ) (b : Truth) → (j == n) ≡ b → (if b then numbered 0 (next n) else next j) ≡ next j
kept_at next n j true is = same_number (next n) ∙ ap next (sym (eqb-true j n is))
kept_at next n j false is = refl

no_draw : (next : ℕ → Option ℤ) (n : ℕ) → with_at next n (numbered 0 (next n)) ≡ next
no_draw next n = fun_ext (λ (j : ℕ). kept_at next n j (j == n) refl)

pub reads_undrawn : (tables : List TableDef) (next : ℕ → Option ℤ) (n : ℕ) → drawn tables next (Run (all_rows_in tables n)) ≡ next
reads_undrawn tables next n = no_draw next n

pub deletes_undrawn : (tables : List TableDef) (next : ℕ → Option ℤ) (n : ℕ) → drawn tables next (Run (no_rows_in n)) ≡ next
deletes_undrawn tables next n = no_draw next n

zero_or : (b : Truth) (d : ℕ) → d ≡ 0 → (if b then 0 else d) ≡ 0
zero_or true d is = refl
zero_or false d is = is

pub inserts_undrawn : (tables : List TableDef) (next : ℕ → Option ℤ) (n : ℕ) (values : List Value) → drawn tables next (Run (row_into tables n values)) ≡ next
inserts_undrawn tables next n values =
    let table = slice_get tables n in
    let rows = cells_of (columns_of table) values ∷ [] in
    ap (λ (draws : ℕ). with_at next n (numbered draws (next n)))
    (zero_or (is_spent (last_serial (serial_kind table)) (number_from (next n)) (all_draws rows)) (all_draws rows) (none_drawn (columns_of table) values))
    ∙ no_draw next n

-- an INSERT that draws none takes no lock first
serial_none : (columns : List ColumnDef) (values : List Value) → list_any is_serial (cells_of columns values) ≡ false
serial_none [] values = refl
serial_none (column ∷ columns) [] = refl
serial_none (column ∷ columns) (v ∷ values) = serial_none columns values

pub row_locks : (tables : List TableDef) (n : ℕ) (values : List Value) → lock_of (row_into tables n values).body ≡ None
row_locks tables n values = rw (serial_none (columns_of (slice_get tables n)) values) refl
