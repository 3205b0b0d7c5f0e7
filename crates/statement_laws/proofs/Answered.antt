-- What a check answers is of its tables.
use Rattle.std.proofs.Common.{◌≡◌, ◌∙◌, ℕ, List, map, ap}
use Rattle.std.specs.Prelude.{Bool as Truth, true, false, Option, Result, Ok, Err, is_some}
use Rattle.pg_values.specs.declared.col_type.ColType.{ColType}
use Rattle.schema.specs.declared.catalogue.TableDef.{TableDef}
use Rattle.schema.specs.Allowed.{AreAllowed}
use Rattle.sql_tree.specs.declared.statement.Statement.{Statement}
use Rattle.sql_tree.specs.declared.statement.Statement.TheVariants as statement
use Rattle.sql_tree.specs.Trees.{IsStatement}
use Rattle.typed_sql.specs.Places.{or_text}
use Rattle.typed_sql.specs.Steps.{Known, Fault}
use Rattle.catalogue.specs.declared.checked.Checked.{Checked}
use Rattle.catalogue.specs.Checking.{AnswersCheck, BodyBehind}
use Rattle.catalogue.specs.Statements.{Body, BodyOf, Change, InsertInto, Remove, known_first, table_named}
use Rattle.checked_sql.specs.OfCatalogue.{is_body, is_of}
use Rattle.statement_laws.specs.Few.{HasFewRows}
use Rattle.statement_laws.proofs.KnownTypes.{stays}
use Rattle.statement_laws.proofs.Keeping.{Keeps, then_told}
use Rattle.statement_laws.proofs.SoundSelects.{select_keeps}
use Rattle.statement_laws.proofs.SoundTables.{table_there}
use Rattle.statement_laws.proofs.SoundWrites.{BodyIs, change_keeps, insert_keeps, remove_keeps}

module _ (tables : List TableDef) (parameters : Truth) (allowed : AreAllowed tables) where
  body_keeps : (s : Statement) → IsStatement s → HasFewRows s → Keeps (BodyIs tables) (BodyOf tables parameters s)
  body_keeps (statement.Select select) tree few = select_keeps tables parameters select allowed tree
  body_keeps (statement.Insert insert) tree few =
      then_told (BodyIs tables) (table_named tables insert.table) (InsertInto parameters insert)
      (λ x found. insert_keeps tables parameters insert x (table_there tables insert.table x allowed found) tree few)
  body_keeps (statement.Update update) tree few =
      then_told (BodyIs tables) (table_named tables update.table) (Change parameters update)
      (λ x found. change_keeps tables parameters update x (table_there tables update.table x allowed found) tree)
  body_keeps (statement.Delete delete) tree few =
      then_told (BodyIs tables) (table_named tables delete.table) (Remove parameters delete)
      (λ x found. remove_keeps tables parameters delete x (table_there tables delete.table x allowed found) tree)
  body_keeps s tree few = λ known answer took. absurd took

  abbrev is_ok : {A : Type 0} → Result A Fault → Truth
  is_ok (Ok x) = true
  is_ok (Err e) = false

  ends_is : (s : Statement) → IsStatement s → HasFewRows s → (first : Result Known Fault) (b : Body) (known : Known) → BodyBehind tables s parameters first (Ok (b, known))
      → is_body tables (map or_text known) b.0 b.1 ≡ true
  ends_is s tree few (Err e) b known took = absurd (let f : true ≡ false = ap is_ok took in cc)
  ends_is s tree few (Ok start) b known took = (body_keeps s tree few start (Ok (b, known)) took).1 known (stays known)

pub answer_is_of : (tables : List TableDef) (s : Statement) (kinds : Option (List ℕ)) (checked : Checked) → AreAllowed tables → IsStatement s → HasFewRows s
    → AnswersCheck tables s kinds (Ok checked) → is_of tables checked ≡ true
answer_is_of tables s kinds checked allowed tree few answers =
    ap (λ (ks : List ColType). is_body tables ks checked.body checked.columns) answers.1
    ∙ ends_is tables (is_some kinds) allowed s tree few (known_first kinds) (checked.body, checked.columns) answers.0 answers.2
