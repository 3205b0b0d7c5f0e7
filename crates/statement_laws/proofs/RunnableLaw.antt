-- What a text asks for can be run.
use Rattle.std.proofs.Common.{◌≡◌, ◌∙◌, ◌≤◌, ◌<◌, ℕ, zero, suc, ℤ, List, [], ◌∷◌, ◌++◌, refl, ap, sym, subst, arith}
use Rattle.std.specs.Prelude.{Bool as Truth, true, false, Option, Some, None, Ok, IfSome, slice_get, length}
use Rattle.std.specs.List.{AllByRecursion}
use Rattle.pg_values.specs.declared.col_type.ColType.TheVariants as kind
use Rattle.pg_values.specs.Range.{IsMoment}
use Rattle.schema.specs.declared.catalogue.ColumnDef.{ColumnDef}
use Rattle.schema.specs.declared.catalogue.Fill.{Fill}
use Rattle.schema.specs.declared.catalogue.Fill.TheVariants as fill
use Rattle.schema.specs.declared.catalogue.TableDef.{TableDef}
use Rattle.schema.specs.Allowed.{AreAllowed, AreColumns, AreTables, IsFillOf}
use Rattle.sql_tree.specs.declared.statement.Statement.{Statement}
use Rattle.sql_tree.specs.declared.statement.Statement.TheVariants as statement
use Rattle.sql_reader.specs.Text.{IsTextOf}
use Rattle.sql_profile.specs.Formed.{HasFewRows}
use Rattle.sql_profile.proofs.FormedLaw.{texts_are_formed}
use Rattle.statement_laws.specs.Few as few
use Rattle.statement_laws.proofs.Answered.{answer_is_of}
use Rattle.statement_laws.proofs.SoundLeaves.{moment_in_range}
use Rattle.catalogue.specs.declared.checked.Checked.{Checked}
use Rattle.catalogue.specs.Checking.{AnswersCheck}
use Rattle.checked_sql.specs.OfCatalogue.{is_now, is_of}
use Rattle.classifier.specs.Classes.{lock_of}
use Rattle.time_rewrite.specs.Rewriting.{at_moment, body_at}
use Rattle.time_rewrite.proofs.TimelessLemmas.{made_timeless}
use Rattle.backend_trait.specs.Runnable.{IsRunnable}
use Rattle.statement_laws.proofs.Draws.{few_drawn, lock_stays}
use Rattle.statement_laws.proofs.KeptStatements.{IsTimely, IsTimelyTable, body_kept}
use Rattle.statement_laws.proofs.Unbound.{unbound}

-- ---- columns that take the moment

timely_fill : (column : ColumnDef) (f : Fill) → IsFillOf column f → is_now f ≡ true → column.kind ≡ kind.Moment
timely_fill column fill.Nothing is now = absurd (let f : false ≡ true = now in cc)
timely_fill column fill.Serial is now = absurd (let f : false ≡ true = now in cc)
timely_fill column fill.Now is now = is
timely_fill column (fill.Constant v) is now = absurd (let f : false ≡ true = now in cc)

timely_columns : (key : ℕ) (serial : Option ℕ) (before columns : List ColumnDef) → AreColumns key serial before columns → AllByRecursion IsTimely columns
timely_columns key serial before [] are = tt
timely_columns key serial before (column ∷ columns) are = (timely_fill column column.fill (are.0).filled, timely_columns key serial (before ++ column ∷ []) columns are.2)

timely_tables : (before tables : List TableDef) → AreTables before tables → (i : ℕ) → IfSome (slice_get tables i) IsTimelyTable
timely_tables before [] are i = tt
timely_tables before (table ∷ tables) are zero = timely_columns table.key table.serial [] table.columns (are.0).columns
timely_tables before (table ∷ tables) are (suc i) = timely_tables (before ++ table ∷ []) tables are.1 i

-- ---- the whole

few_rows : (s : Statement) → HasFewRows s → few.HasFewRows s
few_rows (statement.Insert insert) is = omega (arith, is)
few_rows s is = tt

pub is_of_tables : (tables : List TableDef) (text : List ℕ) (s : Statement) (checked : Checked) → AreAllowed tables → IsTextOf text (s ∷ []) → AnswersCheck tables s None (Ok checked) → is_of tables checked ≡ true
is_of_tables tables text s checked allowed reads answers =
    let formed = (texts_are_formed text (s ∷ []) reads).0 in
    answer_is_of tables s None checked allowed formed.0 (few_rows s formed.2) answers

pub can_be_run : (tables : List TableDef) (text : List ℕ) (s : Statement) (checked : Checked) (moment : ℤ) → AreAllowed tables → IsTextOf text (s ∷ []) → AnswersCheck tables s None (Ok checked) → IsMoment moment → lock_of checked.body ≡ None
    → IsRunnable tables (at_moment moment checked)
can_be_run tables text s checked moment allowed reads answers within lock =
    let is = is_of_tables tables text s checked allowed reads answers in record {
      of_tables = body_kept checked.kinds moment (moment_in_range moment within) tables checked.body checked.columns (timely_tables [] tables allowed.1) is;
      bound = unbound tables s checked answers;
      timeless = made_timeless moment checked (at_moment moment checked) refl;
      few = few_drawn (body_at moment checked.body) (lock_stays moment checked.body ∙ lock);
    }
