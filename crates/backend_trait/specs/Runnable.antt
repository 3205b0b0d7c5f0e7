-- Statements that a store can run, and the form of what they answer.
use Rattle.std.specs.Prelude.{◌≡◌, Bool, true, false, List, []}
use Rattle.std.specs.List.{list_all}
use Rattle.schema.specs.declared.catalogue.TableDef.{TableDef}
use Rattle.catalogue.specs.declared.checked.Checked.{Checked}
use Rattle.catalogue.specs.declared.checked.CheckedBody.{CheckedBody}
use Rattle.catalogue.specs.declared.checked.CheckedBody.TheVariants as body
use Rattle.catalogue.specs.declared.checked.ColumnDesc.{ColumnDesc}
use Rattle.checked_sql.specs.OfCatalogue.{is_of}
use Rattle.time_rewrite.specs.Timeless.{is_timeless}
use Rattle.sql_eval.specs.Effects.{DrawsFew}
use Rattle.backend_trait.specs.Typed.{has_columns}
use Rattle.backend_trait.specs.declared.answer.Answer.{Answer}
use Rattle.backend_trait.specs.declared.answer.Answer.TheVariants as answers

-- it is of the tables, no parameter, time function or cell that takes the moment is left in it, and it draws no more
-- serial numbers than are counted
pub record IsRunnable (tables : List TableDef) (checked : Checked) : Type 0 where
  pub of_tables : is_of tables checked ≡ true
  pub bound : checked.kinds ≡ []
  pub timeless : is_timeless checked ≡ true
  pub few : DrawsFew checked.body

-- the form of what a statement answers: a SELECT rows, another statement a count, and each a refusal
abbrev pub is_given : CheckedBody → List ColumnDesc → Answer → Bool
is_given (body.Read read) columns (answers.Rows rows) = list_all (has_columns columns) rows
is_given (body.Insert insert) columns (answers.Count n) = true
is_given (body.Change change) columns (answers.Count n) = true
is_given (body.Remove remove) columns (answers.Count n) = true
is_given statement columns (answers.Refused code) = true
is_given statement columns answer = false

abbrev pub is_of_run : Checked → Answer → Bool
is_of_run checked answer = is_given checked.body checked.columns answer
