-- A statement that is ready can be run, whatever the moment is.
use Rattle.std.proofs.Common.{◌≡◌, ◌∙◌, ℕ, zero, suc, ℤ, List, [], ◌∷◌, ◌++◌, map, sum, ◌<◌, refl, sym, ap, subst}
use Rattle.std.specs.Prelude.{Bool as Truth, true, false, Option, Some, None, IfSome, if◌then◌else◌, slice_get}
use Rattle.std.specs.List.{AllByRecursion}
use Rattle.pg_values.specs.declared.col_type.ColType.TheVariants as kind
use Rattle.schema.specs.declared.catalogue.ColumnDef.{ColumnDef}
use Rattle.schema.specs.declared.catalogue.Fill.{Fill}
use Rattle.schema.specs.declared.catalogue.Fill.TheVariants as fill
use Rattle.schema.specs.declared.catalogue.TableDef.{TableDef}
use Rattle.schema.specs.Allowed.{AreAllowed, AreColumns, AreTables, IsFillOf}
use Rattle.catalogue.specs.declared.checked.Checked.{Checked}
use Rattle.catalogue.specs.declared.checked.CheckedBody.{CheckedBody}
use Rattle.catalogue.specs.declared.checked.CheckedBody.TheVariants as body
use Rattle.catalogue.specs.declared.checked.TypedCell.{TypedCell}
use Rattle.catalogue.specs.declared.checked.TypedCell.TheVariants as cell
use Rattle.checked_sql.specs.OfCatalogue.{is_now}
use Rattle.sql_eval.specs.Effects.{DrawsFew}
use Rattle.sql_eval.specs.Inserts.{draws_in, row_draws}
use Rattle.time_rewrite.specs.Rewriting.{at_moment, body_at, cell_at}
use Rattle.time_rewrite.proofs.TimelessLemmas.{made_timeless}
use Rattle.backend_trait.specs.Runnable.{IsRunnable}
use Rattle.statement_laws.proofs.KeptStatements.{IsTimely, IsTimelyTable, body_kept}
use Rattle.session_orders.specs.declared.order.OrderBody.{OrderBody}
use Rattle.session_orders.specs.declared.order.OrderBody.TheVariants as orders
use Rattle.session_machine.specs.declared.machine.Session.{Session}
use Rattle.session_machine.specs.Classes.{work_in}
use Rattle.session_machine.specs.Rules.{is_moment, moment_at, work_at}
use Rattle.session_seat.specs.Shared.{IsReady}
use Rattle.one_copy_model.specs.World.{IsRunnableIn, IsOrderable}

-- ---- columns that take the moment

timely_fill : (column : ColumnDef) (f : Fill) → IsFillOf column f → is_now f ≡ true → column.kind ≡ kind.Moment
timely_fill column fill.Nothing is now = absurd (let f : false ≡ true = now in cc)
timely_fill column fill.Serial is now = absurd (let f : false ≡ true = now in cc)
timely_fill column fill.Now is now = is
timely_fill column (fill.Constant v) is now = absurd (let f : false ≡ true = now in cc)

timely_columns : (key : ℕ) (serial : Option ℕ) (before columns : List ColumnDef) → AreColumns key serial before columns → AllByRecursion IsTimely columns
timely_columns key serial before [] are = tt
timely_columns key serial before (column ∷ columns) are = (timely_fill column column.fill (are.0).filled, timely_columns key serial (before ++ column ∷ []) columns are.2)

timely_tables : (before tables : List TableDef) → AreTables before tables → (i : ℕ) → IfSome (slice_get tables i) IsTimelyTable
timely_tables before [] are i = tt
timely_tables before (table ∷ tables) are zero = timely_columns table.key table.serial [] table.columns (are.0).columns
timely_tables before (table ∷ tables) are (suc i) = timely_tables (before ++ table ∷ []) tables are.1 i

-- ---- what is drawn

cell_draws : (moment : ℤ) (c : TypedCell) → draws_in (cell_at moment c) ≡ draws_in c
cell_draws moment cell.Serial = refl
cell_draws moment cell.Now = refl
cell_draws moment (cell.Given e) = refl

cells_draw : (moment : ℤ) (cells : List TypedCell) → map draws_in (map (cell_at moment) cells) ≡ map draws_in cells
cells_draw moment [] = refl
cells_draw moment (c ∷ cells) =
    ap (λ (n : ℕ). n ∷ map draws_in (map (cell_at moment) cells)) (cell_draws moment c) ∙ ap (λ (ns : List ℕ). draws_in c ∷ ns) (cells_draw moment cells)

rows_draw : (moment : ℤ) (rows : List (List TypedCell)) → map row_draws (map (map (cell_at moment)) rows) ≡ map row_draws rows
rows_draw moment [] = refl
rows_draw moment (row ∷ rows) =
    ap (λ (ns : List ℕ). sum ns ∷ map row_draws (map (map (cell_at moment)) rows)) (cells_draw moment row) ∙ ap (λ (ns : List ℕ). row_draws row ∷ ns) (rows_draw moment rows)

few_still : (moment : ℤ) (b : CheckedBody) → DrawsFew b → DrawsFew (body_at moment b)
few_still moment (body.Read read) few = tt
few_still moment (body.Insert insert) few = subst (λ (ns : List ℕ). sum ns < 4294967296) (sym (rows_draw moment insert.rows)) few
few_still moment (body.Change change) few = tt
few_still moment (body.Remove remove) few = tt

-- ---- the whole

module _ (tables : List TableDef) (allowed : AreAllowed tables) (checked : Checked) (ready : IsReady tables (orders.Statement checked)) where
  runs_at : (moment : ℤ) → is_moment moment ≡ true → IsRunnable tables (at_moment moment checked)
  runs_at moment within = record {
    of_tables = body_kept checked.kinds moment within tables checked.body checked.columns (timely_tables [] tables allowed.1) ready.0;
    bound = ready.1.0;
    timeless = made_timeless moment checked (at_moment moment checked) refl;
    few = few_still moment checked.body ready.1.1;
  }

  runs_if : (moment : ℤ) (t : Truth) → is_moment moment ≡ t → IsRunnableIn tables (if t then Some (work_at moment (work_in checked)) else None)
  runs_if moment true within = runs_at moment within
  runs_if moment false within = tt

pub can_order : (tables : List TableDef) (session : Session) (moment : ℤ) (body : OrderBody) → AreAllowed tables → IsReady tables body → IsOrderable tables session moment body
can_order tables session moment (orders.Statement checked) allowed ready =
    let at : ℤ = moment_at session.status session.gate session.moment moment in
    runs_if tables allowed checked ready at (is_moment at) refl
can_order tables session moment orders.Begin allowed ready = tt
can_order tables session moment orders.Commit allowed ready = tt
can_order tables session moment orders.Rollback allowed ready = tt
can_order tables session moment orders.Settle allowed ready = tt
can_order tables session moment orders.ShowNodes allowed ready = tt
can_order tables session moment (orders.Recover b) allowed ready = tt
can_order tables session moment (orders.Refuse code name) allowed ready = tt
can_order tables session moment orders.Leave allowed ready = tt
