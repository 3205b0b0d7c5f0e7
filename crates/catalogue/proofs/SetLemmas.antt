-- A column that is set, and one that is named in an INSERT: how far they go, and where they stop.
use Rattle.std.proofs.Common.{◌≡◌, ℕ, List, [], ◌∷◌, ◌++◌, true, false, eq-eqb, refl, ap, sym, ◌∙◌, subst}
use Rattle.std.proofs.lemmas.Bool.{ne_eqb}
use Rattle.std.specs.Prelude.{◌==◌, Option, Some, None, Result, Ok, Err, codes}
use Rattle.std.specs.List.{list_any}
use Rattle.schema.specs.declared.catalogue.ColumnDef.{ColumnDef}
use Rattle.sql_tree.specs.declared.statement.SetItem.{SetItem}
use Rattle.typed_sql.specs.declared.asks.Asks.{Asks}
use Rattle.typed_sql.specs.declared.fault.CheckFault.{CheckFault}
use Rattle.typed_sql.specs.declared.fault.CheckFault.TheVariants.{Refused, NoMemory}
use Rattle.typed_sql.specs.declared.typed.TypedExpr.{TypedExpr}
use Rattle.typed_sql.specs.Own.{Scope, column_meant}
use Rattle.typed_sql.specs.Places.{asks_column}
use Rattle.typed_sql.specs.Steps.{Known, Fault, fault, Answer, Step, Then, Made, Told, Answers}
use Rattle.typed_sql.specs.Meaning.{Finds}
use Rattle.typed_sql.specs.Typing.{Typed}
use Rattle.typed_sql.proofs.Walking.{told_gives, told_fails, then_answers, made_gives, made_stops}
use Rattle.catalogue.specs.declared.checked.TypedSet.{TypedSet}
use Rattle.catalogue.specs.Statements.{Name, SetOf, may_set, named_twice, set_of}
use Rattle.catalogue.proofs.Finding.{told_then, told_stops}

module _ (key : ℕ) (name before : List ℕ) (x : ℕ × ColumnDef) where
  pub may_not_key : x.0 ≡ key → may_set key name before x ≡ Err (fault (codes "0A000") (codes "update of a key column"))
  may_not_key is = rw (eq-eqb x.0 key is) refl

  pub may_not_twice : (x.0 ≡ key → ⊥) → list_any (λ n. n == x.0) before ≡ true → may_set key name before x ≡ Err (fault (codes "42601") name)
  may_not_twice other twice = rw (ne_eqb x.0 key other, twice) refl

  pub may_be_set : (x.0 ≡ key → ⊥) → list_any (λ n. n == x.0) before ≡ false → may_set key name before x ≡ Ok x
  may_be_set other once = rw (ne_eqb x.0 key other, once) refl

module _ {A : Type 0} (view : A → ℕ × ColumnDef) (a : A) (scope : Scope) (key : ℕ) (before : List ℕ) (item : SetItem) (known : Known)
    (found : Finds view (Ok a) (column_meant scope None item.column)) where
  pub set_refused : (f : CheckFault) (new : Known) → Finds (λ (x : ℕ × ColumnDef). x) (Err f) (may_set key item.column before (view a))
      → Answers (λ (s : TypedSet). s) (Err f) new (SetOf scope key before item known)
  set_refused f new refused =
      told_then view _ (λ (s : TypedSet). s) (column_meant scope None item.column) known new a (Err f) found
      (told_stops (λ (x : ℕ × ColumnDef). x) _ (λ (s : TypedSet). s) (may_set key item.column before (view a)) known new f refused)

  module _ (free : may_set key item.column before (view a) ≡ Ok (view a)) (asks : Asks) (asks_is : asks ≡ asks_column ((view a).1).kind) where
    pub set_stops : (e : CheckFault) (mid new : Known) → Answers (λ (t : TypedExpr). t) (Err e) mid (Typed scope item.expr asks known)
        → Answers (λ (s : TypedSet). s) (Err e) new (SetOf scope key before item known)
    set_stops e mid new fails =
        told_then view _ (λ (s : TypedSet). s) (column_meant scope None item.column) known new a (Err e) found
        (told_then (λ (x : ℕ × ColumnDef). x) _ (λ (s : TypedSet). s) (may_set key item.column before (view a)) known new (view a) (Err e) free
        (made_stops (set_of (view a).0) (Typed scope item.expr (asks_column ((view a).1).kind)) known (λ (t : TypedExpr). t) (λ (s : TypedSet). s) e mid new
        (subst (λ (q : Asks). Answers (λ (t : TypedExpr). t) (Err e) mid (Typed scope item.expr q known)) asks_is fails)))

    pub set_gives : (made : TypedExpr) (new : Known) → Typed scope item.expr asks known (Ok (made, new))
        → SetOf scope key before item known (Ok (set_of (view a).0 made, new))
    set_gives made new gives = (
      Ok (view a, known),
      told_gives (column_meant scope None item.column) (view a) known found,
      (
        Ok (view a, known),
        told_gives (may_set key item.column before (view a)) (view a) known free,
        made_gives (set_of (view a).0) (Typed scope item.expr (asks_column ((view a).1).kind)) known made new
            (subst (λ (q : Asks). Typed scope item.expr q known (Ok (made, new))) asks_is gives),
      ),
    )

module _ (name before : List ℕ) (x : ℕ × ColumnDef) where
  pub not_twice : list_any (λ n. n == x.0) before ≡ true → named_twice name before x ≡ Err (fault (codes "42701") name)
  not_twice twice = rw twice refl

  pub once_named : list_any (λ n. n == x.0) before ≡ false → named_twice name before x ≡ Ok x
  once_named once = rw once refl

found_answers_as : {C : Type 0} (shown : C → ℕ × ColumnDef) (f : CheckFault) (told : Result (ℕ × ColumnDef) Fault) (known new : Known)
    → Finds (λ (x : ℕ × ColumnDef). x) (Err f) told → Answers shown (Err f) new (Told told known)
found_answers_as shown (Refused code name) told known new is = told_fails told (fault code.bytes name) known is
found_answers_as shown NoMemory told known new is = tt

module _ {A C : Type 0} (view : A → ℕ × ColumnDef) (shown : C → ℕ × ColumnDef) (a : A) (scope : Scope) (before name : List ℕ) (known : Known)
    (found : Finds view (Ok a) (column_meant scope None name)) where
  pub name_refused : (f : CheckFault) (new : Known) → Finds (λ (x : ℕ × ColumnDef). x) (Err f) (named_twice name before (view a))
      → Answers shown (Err f) new (Name scope before name known)
  name_refused f new refused =
      told_then view _ shown (column_meant scope None name) known new a (Err f) found
      (found_answers_as shown f (named_twice name before (view a)) known new refused)

  pub name_gives : named_twice name before (view a) ≡ Ok (view a) → Name scope before name known (Ok (view a, known))
  name_gives free = (
    Ok (view a, known),
    told_gives (column_meant scope None name) (view a) known found,
    told_gives (named_twice name before (view a)) (view a) known free,
  )
