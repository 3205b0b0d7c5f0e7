-- A table and its columns are found by their names, which are different.
use Rattle.std.proofs.Common.{◌≡◌, ◌∙◌, ◌⊎◌, inl, inr, ℕ, zero, suc, ◌+◌, List, [], ◌∷◌, ◌++◌, refl, ap, subst, arith}
use Rattle.std.specs.Prelude.{◌||◌, Bool as Truth, true, false, Option, Some, None, Ok, slice_get, bytes_eq, unwrap_or, if◌then◌else◌}
use Rattle.std.specs.List.{list_any}
use Rattle.std.proofs.lemmas.Option.{none-some}
use Rattle.std.proofs.lemmas.Slice.Eq.{bytes_eq-Decides}
use Rattle.pg_values.specs.declared.col_type.ColType.{ColType}
use Rattle.schema.specs.declared.catalogue.ColumnDef.{ColumnDef}
use Rattle.schema.specs.declared.catalogue.TableDef.{TableDef}
use Rattle.schema.specs.Open.{has_column, has_table}
use Rattle.schema.specs.Allowed.{AreAllowed, AreColumns, AreTables, IsTable}
use Rattle.typed_sql.specs.Own.{alone, beside, column_from, column_meant, no_column, no_table as meant, over}
use Rattle.catalogue.specs.Statements.{no_table, table_from, table_named}
use Rattle.checked_sql.specs.Sound.{is_parameter}
use Rattle.statement_laws.proofs.Exprs.{Means}

pub from_zero : (n : ℕ) → 0 + n ≡ n
from_zero n = omega arith

pub same_name : (name : List ℕ) → bytes_eq name name ≡ true
same_name name = (bytes_eq-Decides name name).1 refl

some_is : {A : Type 0} {a b : A} → Some a ≡ Some b → a ≡ b
some_is {A} {a} {b} is = ap (λ (o : Option A). unwrap_or o a) is

pub neither : (a b : Truth) → (a || b) ≡ false → (a ≡ false) × (b ≡ false)
neither true b is = absurd (let f : true ≡ false = is in cc)
neither false b is = (refl, is)

-- of a list and one more none passes
pub front_fails : {A : Type 0} (test : A → Truth) (xs : List A) (x : A) → list_any test (xs ++ x ∷ []) ≡ false → (list_any test xs ≡ false) × (test x ≡ false)
front_fails test [] x is = (refl, (neither (test x) false is).0)
front_fails test (y ∷ xs) x is =
    let both = neither (test y) (list_any test (xs ++ x ∷ [])) is in
    let rest = front_fails test xs x both.1 in
    (ap (λ (b : Truth). b || list_any test xs) both.0 ∙ rest.0, rest.1)

-- ---- columns

module _ (key : ℕ) (serial : Option ℕ) where
  -- a column has another name than those before it
  column_apart : (before columns : List ColumnDef) (n : ℕ) (c : ColumnDef) → AreColumns key serial before columns → slice_get columns n ≡ Some c → has_column c.name before ≡ false
  column_apart before [] n c are is = absurd (none-some c is)
  column_apart before (x ∷ columns) zero c are is = subst (λ (d : ColumnDef). has_column d.name before ≡ false) (some_is is) are.1
  column_apart before (x ∷ columns) (suc n) c are is =
      (front_fails (λ (d : ColumnDef). bytes_eq d.name c.name) before x (column_apart (before ++ x ∷ []) columns n c are.2 is)).0

  column_found : (before columns : List ColumnDef) (n k : ℕ) (c : ColumnDef) → AreColumns key serial before columns → slice_get columns n ≡ Some c
      → column_from k c.name columns ≡ Some (k + n, c)
  column_found before [] n k c are is = absurd (none-some c is)
  column_found before (x ∷ columns) zero k c are is =
      let same : x ≡ c = some_is is in
      ap (λ (b : Truth). if b then Some (k, x) else column_from (suc k) c.name columns) (ap (λ (d : ColumnDef). bytes_eq d.name c.name) same ∙ same_name c.name)
      ∙ (ap (λ (d : ColumnDef). Some (k, d)) same ∙ ap (λ (m : ℕ). Some (m, c)) (plus_zero k))
    where
      plus_zero : (m : ℕ) → m ≡ m + 0
      plus_zero m = omega arith
  column_found before (x ∷ columns) (suc n) k c are is =
      let other : bytes_eq x.name c.name ≡ false =
      (front_fails (λ (d : ColumnDef). bytes_eq d.name c.name) before x (column_apart (before ++ x ∷ []) columns n c are.2 is)).1 in
      ap (λ (b : Truth). if b then Some (k, x) else column_from (suc k) c.name columns) other
      ∙ (column_found (before ++ x ∷ []) columns n (suc k) c are.2 is ∙ ap (λ (m : ℕ). Some (m, c)) (plus_suc k n))
    where
      plus_suc : (m i : ℕ) → suc m + i ≡ m + suc i
      plus_suc m i = omega arith

-- ---- tables

table_apart : (before tables : List TableDef) (n : ℕ) (t : TableDef) → AreTables before tables → slice_get tables n ≡ Some t → has_table t.name before ≡ false
table_apart before [] n t are is = absurd (none-some t is)
table_apart before (x ∷ tables) zero t are is = subst (λ (u : TableDef). has_table u.name before ≡ false) (some_is is) (are.0).is_new
table_apart before (x ∷ tables) (suc n) t are is =
    (front_fails (λ (u : TableDef). bytes_eq u.name t.name) before x (table_apart (before ++ x ∷ []) tables n t are.1 is)).0

table_found : (before tables : List TableDef) (n k : ℕ) (t : TableDef) → AreTables before tables → slice_get tables n ≡ Some t → table_from k t.name tables ≡ Some (k + n, t)
table_found before [] n k t are is = absurd (none-some t is)
table_found before (x ∷ tables) zero k t are is =
    let same : x ≡ t = some_is is in
    ap (λ (b : Truth). if b then Some (k, x) else table_from (suc k) t.name tables) (ap (λ (u : TableDef). bytes_eq u.name t.name) same ∙ same_name t.name)
    ∙ (ap (λ (u : TableDef). Some (k, u)) same ∙ ap (λ (m : ℕ). Some (m, t)) (plus_zero k))
  where
    plus_zero : (m : ℕ) → m ≡ m + 0
    plus_zero m = omega arith
table_found before (x ∷ tables) (suc n) k t are is =
    let other : bytes_eq x.name t.name ≡ false =
    (front_fails (λ (u : TableDef). bytes_eq u.name t.name) before x (table_apart (before ++ x ∷ []) tables n t are.1 is)).1 in
    ap (λ (b : Truth). if b then Some (k, x) else table_from (suc k) t.name tables) other
    ∙ (table_found (before ++ x ∷ []) tables n (suc k) t are.1 is ∙ ap (λ (m : ℕ). Some (m, t)) (plus_suc k n))
  where
    plus_suc : (m i : ℕ) → suc m + i ≡ m + suc i
    plus_suc m i = omega arith

-- a table that is there is one of a schema
pub table_is : (before tables : List TableDef) (n : ℕ) (t : TableDef) → AreTables before tables → slice_get tables n ≡ Some t → (others : List TableDef) × IsTable others t
table_is before [] n t are is = absurd (none-some t is)
table_is before (x ∷ tables) zero t are is = (before, subst (λ (u : TableDef). IsTable before u) (some_is is) are.0)
table_is before (x ∷ tables) (suc n) t are is = table_is (before ++ x ∷ []) tables n t are.1 is

pub named : (tables : List TableDef) (n : ℕ) (t : TableDef) → AreAllowed tables → slice_get tables n ≡ Some t → table_named tables t.name ≡ Ok (n, t)
named tables n t allowed is = ap (no_table t.name) (table_found [] tables n 0 t allowed.1 is ∙ ap (λ (m : ℕ). Some (m, t)) (from_zero n))

-- the columns of a table that a schema can have
pub columns_are : (tables : List TableDef) (n : ℕ) (t : TableDef) → AreAllowed tables → slice_get tables n ≡ Some t → AreColumns t.key t.serial [] t.columns
columns_are tables n t allowed is = (table_is [] tables n t allowed.1 is).1.columns

-- ---- what is meant

pub column_named : (parameters : Truth) (t : TableDef) → AreColumns t.key t.serial [] t.columns → (n : ℕ) (c : ColumnDef) → slice_get t.columns n ≡ Some c
    → column_meant (over parameters t) None c.name ≡ Ok (n, c)
column_named parameters t are n c is =
    ap (no_column c.name) (column_found t.key t.serial [] t.columns n 0 c are is ∙ ap (λ (m : ℕ). Some (m, c)) (from_zero n))

-- with the name of its table before it
pub column_qualified : (parameters : Truth) (t : TableDef) → AreColumns t.key t.serial [] t.columns → (n : ℕ) (c : ColumnDef) → slice_get t.columns n ≡ Some c
    → column_meant (over parameters t) (Some t.name) c.name ≡ Ok (n, c)
column_qualified parameters t are n c is =
    ap (λ (b : Truth). meant (no_column c.name (column_from 0 c.name t.columns)) (if b then None else Some t.name)) (same_name t.name)
    ∙ column_named parameters t are n c is

-- parameters may stand, or there are none
abbrev pub MayHave : Truth → List ColType → Type 0
MayHave parameters kinds = (parameters ≡ true) ⊎ (kinds ≡ [])

no_parameter : (n : ℕ) (k : ColType) → is_parameter [] n k ≡ true → ⊥
no_parameter zero k is = let f : false ≡ true = is in cc
no_parameter (suc at) k is = let f : false ≡ true = is in cc

stands_if : (parameters : Truth) (kinds : List ColType) → MayHave parameters kinds → (n : ℕ) (k : ColType) → is_parameter kinds n k ≡ true → parameters ≡ true
stands_if parameters kinds (inl may) n k is = may
stands_if parameters kinds (inr none) n k is = absurd (no_parameter n k (subst (λ (ks : List ColType). is_parameter ks n k ≡ true) none is))

pub over_means : (parameters : Truth) (kinds : List ColType) (t : TableDef) → MayHave parameters kinds → AreColumns t.key t.serial [] t.columns
    → Means (over parameters t) t.columns kinds
over_means parameters kinds t may are = record { may_stand = stands_if parameters kinds may; are_meant = column_named parameters t are }

pub beside_means : (parameters : Truth) (kinds : List ColType) (t : TableDef) → MayHave parameters kinds → Means (beside parameters t) [] kinds
beside_means parameters kinds t may = record { may_stand = stands_if parameters kinds may; are_meant = λ n c is. absurd (none-some c is) }

pub alone_means : (parameters : Truth) (kinds : List ColType) → MayHave parameters kinds → Means (alone parameters) [] kinds
alone_means parameters kinds may = record { may_stand = stands_if parameters kinds may; are_meant = λ n c is. absurd (none-some c is) }
