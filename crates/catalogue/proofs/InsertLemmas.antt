-- An INSERT, an UPDATE and a DELETE part by part: how far they go, and where they stop.
use Rattle.std.proofs.Common.{◌≡◌, ℕ, List, [], ◌∷◌, ◌++◌, map, true, false, refl, ap, sym, ◌∙◌, subst}
use Rattle.std.specs.Prelude.{Bool as Truth, Option, Some, None, Result, Ok, Err, codes}
use Rattle.schema.specs.declared.catalogue.ColumnDef.{ColumnDef}
use Rattle.schema.specs.declared.catalogue.TableDef.{TableDef}
use Rattle.sql_tree.specs.declared.statement.Cell.{Cell}
use Rattle.sql_tree.specs.declared.statement.Insert.{Insert}
use Rattle.sql_tree.specs.declared.statement.Update.{Update}
use Rattle.sql_tree.specs.declared.statement.Delete.{Delete}
use Rattle.typed_sql.specs.declared.fault.CheckFault.{CheckFault}
use Rattle.typed_sql.specs.declared.typed.TypedExpr.{TypedExpr}
use Rattle.typed_sql.specs.Own.{Scope, over, beside}
use Rattle.typed_sql.specs.Steps.{Known, Fault, fault, Answer, Step, Gives, Then, Made, Walk, Each, Maybe, Told, Answers}
use Rattle.typed_sql.specs.Meaning.{Finds}
use Rattle.typed_sql.proofs.Walking.{told_gives, then_answers, then_stops, made_gives, made_stops}
use Rattle.catalogue.specs.declared.checked.TypedCell.{TypedCell}
use Rattle.catalogue.specs.declared.checked.TypedSet.{TypedSet}
use Rattle.catalogue.specs.declared.insert.Target.{Target}
use Rattle.catalogue.specs.Targets.{target_of}
use Rattle.catalogue.specs.Statements.{Body, Change, ChangeIn, ColumnsOf, FilterOf, InsertIn, InsertInto, Remove, RowOf, SetOf, change_of, insert_of, remove_of}

module _ (parameters : Truth) (update : Update) (x : ℕ × TableDef) (scope : Scope) (same : scope ≡ over parameters x.1) (known : Known) where
  abbrev Sets_of : Step (List TypedSet)
  Sets_of = Walk (SetOf scope (x.1).key) (λ before s. before ++ s.column ∷ []) [] update.sets

  pub sets_stop : (e : CheckFault) (mid new : Known) → Answers (λ (ss : List TypedSet). ss) (Err e) mid (Sets_of known)
      → Answers (λ (b : Body). b) (Err e) new (Change parameters update x known)
  sets_stop e mid new fails = subst (λ (s : Scope). Answers (λ (b : Body). b) (Err e) new (ChangeIn s update x known)) same
      (then_stops Sets_of _ known (λ (ss : List TypedSet). ss) (λ (b : Body). b) e mid new fails)

  pub change_filter_stops : (sets : List TypedSet) (k1 : Known) (e : CheckFault) (mid new : Known) → Sets_of known (Ok (sets, k1))
      → Answers (λ (f : Option TypedExpr). f) (Err e) mid (FilterOf scope update.filter k1)
      → Answers (λ (b : Body). b) (Err e) new (Change parameters update x known)
  change_filter_stops sets k1 e mid new given fails =
      subst (λ (s : Scope). Answers (λ (b : Body). b) (Err e) new (ChangeIn s update x known)) same
      (then_answers Sets_of _ known (λ (b : Body). b) sets k1 new (Err e) given
      (made_stops (change_of x.0 sets) (FilterOf scope update.filter) k1 (λ (f : Option TypedExpr). f) (λ (b : Body). b) e mid new fails))

  pub change_gives : (sets : List TypedSet) (k1 : Known) (filter : Option TypedExpr) (k2 : Known) → Sets_of known (Ok (sets, k1))
      → FilterOf scope update.filter k1 (Ok (filter, k2)) → Change parameters update x known (Ok (change_of x.0 sets filter, k2))
  change_gives sets k1 filter k2 given filtered =
      subst (λ (s : Scope). ChangeIn s update x known (Ok (change_of x.0 sets filter, k2))) same
      (Ok (sets, k1), given, made_gives (change_of x.0 sets) (FilterOf scope update.filter) k1 filter k2 filtered)

module _ (parameters : Truth) (delete : Delete) (x : ℕ × TableDef) (scope : Scope) (same : scope ≡ over parameters x.1) (known : Known) where
  pub remove_stops : (e : CheckFault) (mid new : Known) → Answers (λ (f : Option TypedExpr). f) (Err e) mid (FilterOf scope delete.filter known)
      → Answers (λ (b : Body). b) (Err e) new (Remove parameters delete x known)
  remove_stops e mid new fails =
      subst (λ (s : Scope). Answers (λ (b : Body). b) (Err e) new (Made (remove_of x.0) (FilterOf s delete.filter) known)) same
      (made_stops (remove_of x.0) (FilterOf scope delete.filter) known (λ (f : Option TypedExpr). f) (λ (b : Body). b) e mid new fails)

  pub remove_gives : (filter : Option TypedExpr) (k1 : Known) → FilterOf scope delete.filter known (Ok (filter, k1))
      → Remove parameters delete x known (Ok (remove_of x.0 filter, k1))
  remove_gives filter k1 filtered =
      subst (λ (s : Scope). Made (remove_of x.0) (FilterOf s delete.filter) known (Ok (remove_of x.0 filter, k1))) same
      (made_gives (remove_of x.0) (FilterOf scope delete.filter) known filter k1 filtered)

module _ (parameters : Truth) (insert : Insert) (x : ℕ × TableDef) (named cells : Scope)
    (named_is : named ≡ over parameters x.1) (cells_is : cells ≡ beside parameters x.1) (known : Known) where
  abbrev Given_of : Step (List (ℕ × ColumnDef))
  Given_of = ColumnsOf named (x.1).columns insert insert.columns

  abbrev Rows_of : List (ℕ × ColumnDef) → Step (List (List TypedCell))
  Rows_of given = Each (RowOf cells (x.1).columns given) insert.rows

  -- it is enough to say it of the scopes that are given
  whole_insert : (P : Step Body → Type 0) → P (InsertIn named cells insert x) → P (InsertInto parameters insert x)
  whole_insert P holds = subst (λ (s : Scope). P (InsertIn (over parameters x.1) s insert x)) cells_is
      (subst (λ (s : Scope). P (InsertIn s cells insert x)) named_is holds)

  pub names_stop : {C : Type 0} (view : C → List (ℕ × ColumnDef)) (e : CheckFault) (mid new : Known) → Answers view (Err e) mid (Given_of known)
      → Answers (λ (b : Body). b) (Err e) new (InsertInto parameters insert x known)
  names_stop view e mid new fails = whole_insert (λ (t : Step Body). Answers (λ (b : Body). b) (Err e) new (t known))
      (then_stops Given_of _ known view (λ (b : Body). b) e mid new fails)

  pub rows_stop : (given : List (ℕ × ColumnDef)) (k1 : Known) (e : CheckFault) (mid new : Known) → Given_of known (Ok (given, k1))
      → Answers (λ (rs : List (List TypedCell)). rs) (Err e) mid (Rows_of given k1)
      → Answers (λ (b : Body). b) (Err e) new (InsertInto parameters insert x known)
  rows_stop given k1 e mid new named_ones fails = whole_insert (λ (t : Step Body). Answers (λ (b : Body). b) (Err e) new (t known))
      (then_answers Given_of _ known (λ (b : Body). b) given k1 new (Err e) named_ones
      (made_stops (insert_of x.0) (Rows_of given) k1 (λ (rs : List (List TypedCell)). rs) (λ (b : Body). b) e mid new fails))

  pub insert_gives : (given : List (ℕ × ColumnDef)) (k1 : Known) (rows : List (List TypedCell)) (k2 : Known) → Given_of known (Ok (given, k1))
      → Rows_of given k1 (Ok (rows, k2)) → InsertInto parameters insert x known (Ok (insert_of x.0 rows, k2))
  insert_gives given k1 rows k2 named_ones made = whole_insert (λ (t : Step Body). t known (Ok (insert_of x.0 rows, k2)))
      (Ok (given, k1), named_ones, made_gives (insert_of x.0) (Rows_of given) k1 rows k2 made)

-- the columns that are given values, by lists that are the same
pub columns_same : (named : Scope) (insert : Insert) (columns definitions : List ColumnDef) (kinds known : Known) → columns ≡ definitions → kinds ≡ known
    → (P : Known → (Answer (List (ℕ × ColumnDef)) → Type 0) → Type 0)
    → P kinds (ColumnsOf named columns insert insert.columns kinds) → P known (ColumnsOf named definitions insert insert.columns known)
columns_same named insert columns definitions kinds known columns_are kinds_are P holds =
    subst (λ (k : Known). P k (ColumnsOf named definitions insert insert.columns k)) kinds_are
    (subst (λ (cs : List ColumnDef). P kinds (ColumnsOf named cs insert insert.columns kinds)) columns_are holds)

-- the rows, by lists that are the same
pub rows_same : (cells : Scope) (columns definitions : List ColumnDef) (targets given : List Target) (rows wanted : List (List Cell)) (known : Known)
    → columns ≡ definitions → targets ≡ given → rows ≡ wanted → (P : (Answer (List (List TypedCell)) → Type 0) → Type 0)
    → P (Each (RowOf cells columns (map target_of targets)) rows known) → P (Each (RowOf cells definitions (map target_of given)) wanted known)
rows_same cells columns definitions targets given rows wanted known columns_are targets_are rows_are P holds =
    subst (λ (rs : List (List Cell)). P (Each (RowOf cells definitions (map target_of given)) rs known)) rows_are
    (subst (λ (ts : List Target). P (Each (RowOf cells definitions (map target_of ts)) rows known)) targets_are
    (subst (λ (cs : List ColumnDef). P (Each (RowOf cells cs (map target_of targets)) rows known)) columns_are holds))
