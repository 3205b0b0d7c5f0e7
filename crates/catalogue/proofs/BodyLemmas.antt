-- A statement by its kind, behind the table that it names.
use Rattle.std.proofs.Common.{◌≡◌, ℕ, List, [], sym, subst}
use Rattle.std.specs.Prelude.{Bool as Truth, Option, Some, None, Result, Ok, Err}
use Rattle.schema.specs.declared.catalogue.TableDef.{TableDef}
use Rattle.sql_tree.specs.declared.statement.Select.{Select}
use Rattle.sql_tree.specs.declared.statement.Insert.{Insert}
use Rattle.sql_tree.specs.declared.statement.Update.{Update}
use Rattle.sql_tree.specs.declared.statement.Delete.{Delete}
use Rattle.sql_tree.specs.declared.statement.Statement.{Statement}
use Rattle.sql_tree.specs.declared.statement.Statement.TheVariants as statement
use Rattle.typed_sql.specs.declared.fault.CheckFault.{CheckFault}
use Rattle.typed_sql.specs.Own.{alone}
use Rattle.typed_sql.specs.Steps.{Known, Fault, Step, Made, Told, Then, Answers}
use Rattle.typed_sql.specs.Meaning.{Finds}
use Rattle.catalogue.specs.Statements.{Body, BodyOf, Change, InsertInto, ListOf, ReadFrom, Remove, SelectOf, bare_read, table_named}
use Rattle.catalogue.proofs.Finding.{told_then, told_stops}

-- a SELECT
module _ (tables : List TableDef) (parameters : Truth) (select : Select) (known new : Known) where
  pub select_bare : (result : Result Body CheckFault) → select.table ≡ None
      → Answers (λ (b : Body). b) result new (Made (bare_read select) (ListOf (alone parameters) [] select.list) known)
      → Answers (λ (b : Body). b) result new (SelectOf tables parameters select select.table known)
  select_bare result is goes =
      subst (λ (o : Option (List ℕ)). Answers (λ (b : Body). b) result new (SelectOf tables parameters select o known)) (sym is) goes

  module _ {A : Type 0} (view : A → ℕ × TableDef) (name : List ℕ) (is : select.table ≡ Some name) where
    pub select_stops : (e : CheckFault) → Finds view (Err e) (table_named tables name)
        → Answers (λ (b : Body). b) (Err e) new (SelectOf tables parameters select select.table known)
    select_stops e fails =
        subst (λ (o : Option (List ℕ)). Answers (λ (b : Body). b) (Err e) new (SelectOf tables parameters select o known)) (sym is)
        (told_stops view (ReadFrom parameters select) (λ (b : Body). b) (table_named tables name) known new e fails)

    pub select_goes : (a : A) (result : Result Body CheckFault) → Finds view (Ok a) (table_named tables name)
        → Answers (λ (b : Body). b) result new (ReadFrom parameters select (view a) known)
        → Answers (λ (b : Body). b) result new (SelectOf tables parameters select select.table known)
    select_goes a result found goes =
        subst (λ (o : Option (List ℕ)). Answers (λ (b : Body). b) result new (SelectOf tables parameters select o known)) (sym is)
        (told_then view (ReadFrom parameters select) (λ (b : Body). b) (table_named tables name) known new a result found goes)

-- a statement of another kind
module _ (tables : List TableDef) (parameters : Truth) (given : Statement) (known new : Known) where
  abbrev Told_of : Result Body CheckFault → Statement → Type 0
  Told_of result s = Answers (λ (b : Body). b) result new (BodyOf tables parameters s known)

  pub body_selects : (select : Select) (result : Result Body CheckFault) → given ≡ statement.Select select
      → Answers (λ (b : Body). b) result new (SelectOf tables parameters select select.table known)
      → Answers (λ (b : Body). b) result new (BodyOf tables parameters given known)
  body_selects select result is goes = subst (Told_of result) (sym is) goes

  module _ {A : Type 0} (view : A → ℕ × TableDef) where
    pub insert_stops : (insert : Insert) (e : CheckFault) → given ≡ statement.Insert insert → Finds view (Err e) (table_named tables insert.table)
        → Answers (λ (b : Body). b) (Err e) new (BodyOf tables parameters given known)
    insert_stops insert e is fails = subst (Told_of (Err e)) (sym is)
        (told_stops view (InsertInto parameters insert) (λ (b : Body). b) (table_named tables insert.table) known new e fails)

    pub insert_goes : (insert : Insert) (a : A) (result : Result Body CheckFault) → given ≡ statement.Insert insert
        → Finds view (Ok a) (table_named tables insert.table)
        → Answers (λ (b : Body). b) result new (InsertInto parameters insert (view a) known)
        → Answers (λ (b : Body). b) result new (BodyOf tables parameters given known)
    insert_goes insert a result is found goes = subst (Told_of result) (sym is)
        (told_then view (InsertInto parameters insert) (λ (b : Body). b) (table_named tables insert.table) known new a result found goes)

    pub update_stops : (update : Update) (e : CheckFault) → given ≡ statement.Update update → Finds view (Err e) (table_named tables update.table)
        → Answers (λ (b : Body). b) (Err e) new (BodyOf tables parameters given known)
    update_stops update e is fails = subst (Told_of (Err e)) (sym is)
        (told_stops view (Change parameters update) (λ (b : Body). b) (table_named tables update.table) known new e fails)

    pub update_goes : (update : Update) (a : A) (result : Result Body CheckFault) → given ≡ statement.Update update
        → Finds view (Ok a) (table_named tables update.table)
        → Answers (λ (b : Body). b) result new (Change parameters update (view a) known)
        → Answers (λ (b : Body). b) result new (BodyOf tables parameters given known)
    update_goes update a result is found goes = subst (Told_of result) (sym is)
        (told_then view (Change parameters update) (λ (b : Body). b) (table_named tables update.table) known new a result found goes)

    pub delete_stops : (delete : Delete) (e : CheckFault) → given ≡ statement.Delete delete → Finds view (Err e) (table_named tables delete.table)
        → Answers (λ (b : Body). b) (Err e) new (BodyOf tables parameters given known)
    delete_stops delete e is fails = subst (Told_of (Err e)) (sym is)
        (told_stops view (Remove parameters delete) (λ (b : Body). b) (table_named tables delete.table) known new e fails)

    pub delete_goes : (delete : Delete) (a : A) (result : Result Body CheckFault) → given ≡ statement.Delete delete
        → Finds view (Ok a) (table_named tables delete.table)
        → Answers (λ (b : Body). b) result new (Remove parameters delete (view a) known)
        → Answers (λ (b : Body). b) result new (BodyOf tables parameters given known)
    delete_goes delete a result is found goes = subst (Told_of result) (sym is)
        (told_then view (Remove parameters delete) (λ (b : Body). b) (table_named tables delete.table) known new a result found goes)
