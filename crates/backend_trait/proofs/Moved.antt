-- Serial numbers move only where one holds the table's lock.
use Rattle.std.proofs.Common.{◌≡◌, ◌∙◌, ◌+◌, ℕ, Bool, List, [], ◌∷◌, map, refl, ap, sym, subst, arith, inl, inr}
use Rattle.std.specs.Prelude.{◌||◌, true, false, ℤ, pos, ◌+ℤ◌, is_some, Option, Some, None, slice_get, if◌then◌else◌}
use Rattle.std.specs.List.{fold, list_any}
use Rattle.std.proofs.lemmas.Bool.Decides.{eqb_tells}
use Rattle.std.proofs.lemmas.Int.{ints}
use Rattle.schema.specs.declared.catalogue.TableDef.{TableDef}
use Rattle.catalogue.specs.declared.checked.Checked.{Checked}
use Rattle.catalogue.specs.declared.checked.CheckedBody.{CheckedBody}
use Rattle.catalogue.specs.declared.checked.CheckedBody.TheVariants as body
use Rattle.catalogue.specs.declared.checked.CheckedInsert.{CheckedInsert}
use Rattle.catalogue.specs.declared.checked.TypedCell.{TypedCell}
use Rattle.catalogue.specs.declared.checked.TypedCell.TheVariants as cell
use Rattle.classifier.specs.declared.class.Class.TheVariants as class
use Rattle.classifier.specs.Classes.{has_serial, is_serial, lock_of, locked}
use Rattle.sql_eval.specs.declared.effect.Change.{Change}
use Rattle.sql_eval.specs.Inserts.{all_draws, draws_in, insert_draws, is_spent, last_serial, row_draws, serial_kind}
use Rattle.sql_eval.specs.Effects.{draws_of as draws_by, table_in as table_of}
use Rattle.backend_trait.specs.Rows.{with_at}
use Rattle.backend_trait.specs.Effect.{Wants, number_from, draws_of, table_in}
use Rattle.backend_trait.specs.Store.{IsLocked, numbered, with_draws, drawn_by, next_for}

-- ---- a statement that needs no lock: it draws none, and gives the same whatever the next number is

pub neither : (a b : Bool) → (a || b) ≡ false → (a ≡ false) × (b ≡ false)
neither true b is = absurd (let f : true ≡ false = is in cc)
neither false b is = (refl, is)

none_in : (c : TypedCell) → is_serial c ≡ false → draws_in c ≡ 0
none_in cell.Serial is = absurd (let f : true ≡ false = is in cc)
none_in cell.Now is = refl
none_in (cell.Given e) is = refl

none_in_row : (cells : List TypedCell) → list_any is_serial cells ≡ false → row_draws cells ≡ 0
none_in_row [] is = refl
none_in_row (c ∷ cells) is =
    let both = neither (is_serial c) (list_any is_serial cells) is in
    ap (λ n. fold ◌+◌ (0 + n) (map draws_in cells)) (none_in c both.0) ∙ none_in_row cells both.1

pub none_drawn : (rows : List (List TypedCell)) → has_serial rows ≡ false → all_draws rows ≡ 0
none_drawn [] is = refl
none_drawn (row ∷ rows) is =
    let both = neither (list_any is_serial row) (has_serial rows) is in
    ap (λ n. fold ◌+◌ (0 + n) (map row_draws rows)) (none_in_row row both.0) ∙ none_drawn rows both.1

pub no_lock : (serial : Bool) (table : ℕ) → locked (if serial then class.SerialInsert else class.Write) (Some table) ≡ None → serial ≡ false
no_lock true table is = absurd (let f : Some table ≡ None = is in cc)
no_lock false table is = refl

insert_none : (table : Option TableDef) (a : ℤ) (insert : CheckedInsert) → has_serial insert.rows ≡ false → insert_draws table a insert ≡ 0
insert_none table a insert is = ap (λ (n : ℕ). if is_spent (last_serial (serial_kind table)) a n then 0 else n) (none_drawn insert.rows is)

none_of : (tables : List TableDef) (statement : Checked) (a : Option ℤ) → lock_of statement.body ≡ None → draws_of tables statement a ≡ 0
none_of tables statement a is = go statement.body is
  where
    go : (b : CheckedBody) → lock_of b ≡ None → draws_by tables b (number_from a) ≡ 0
    go (body.Read read) is = refl
    go (body.Insert insert) is = insert_none (slice_get tables insert.table) (number_from a) insert (no_lock (has_serial insert.rows) insert.table is)
    go (body.Change change) is = refl
    go (body.Remove remove) is = refl

-- the lock that a statement needs is that of its table
read_unlocked : (b : Bool) (t : ℕ) → locked (if b then class.LockingRead else class.Read) None ≡ Some t → ⊥
read_unlocked true t is = let f : None ≡ Some t = is in cc
read_unlocked false t is = let f : None ≡ Some t = is in cc

insert_table : (serial : Bool) (table t : ℕ) → locked (if serial then class.SerialInsert else class.Write) (Some table) ≡ Some t → Some table ≡ Some t
insert_table true table t is = is
insert_table false table t is = absurd (let f : None ≡ Some t = is in cc)

pub lock_table : (statement : Checked) (t : ℕ) → lock_of statement.body ≡ Some t → table_in statement ≡ Some t
lock_table statement t is = go statement.body is
  where
    go : (b : CheckedBody) → lock_of b ≡ Some t → table_of b ≡ Some t
    go (body.Read read) is = absurd (read_unlocked read.for_update t is)
    go (body.Insert insert) is = insert_table (has_serial insert.rows) insert.table t is
    go (body.Change change) is = absurd (let f : None ≡ Some t = is in cc)
    go (body.Remove remove) is = absurd (let f : None ≡ Some t = is in cc)

-- ---- numbers that change only where one holds the table's lock

pub record IsMovedBy (held : Wants) (old new : ℕ → Option ℤ) : Type 0 where
  pub same : (t : ℕ) → held.tables t ≡ false → new t ≡ old t
  pub there : (t : ℕ) → is_some (old t) ≡ true → is_some (new t) ≡ true

pub one_moved : (held : Wants) (numbers : ℕ → Option ℤ) (table : ℕ) (x : Option ℤ) → held.tables table ≡ true → (is_some (numbers table) ≡ true → is_some x ≡ true) → IsMovedBy held numbers (with_at numbers table x)
one_moved held numbers table x has some = record {
  same = λ t free. elim (eqb_tells t table) [
    | inl p ↦ absurd (let f : true ≡ false = sym has ∙ (ap held.tables (sym p.1) ∙ free) in cc)
    | inr p ↦ ap (λ (b : Bool). if b then x else numbers t) p.0
  ];
  there = λ t is. elim (eqb_tells t table) [
    | inl p ↦ ap (λ (b : Bool). is_some (if b then x else numbers t)) p.0 ∙ some (subst (λ (k : ℕ). is_some (numbers k) ≡ true) p.1 is)
    | inr p ↦ ap (λ (b : Bool). is_some (if b then x else numbers t)) p.0 ∙ is
  ];
}

numbered_some : (n : ℕ) (x : Option ℤ) → is_some x ≡ true → is_some (numbered n x) ≡ true
numbered_some n None is = absurd (let f : false ≡ true = is in cc)
numbered_some n (Some k) is = refl

numbered_zero : (x : Option ℤ) → numbered 0 x ≡ x
numbered_zero None = refl
numbered_zero (Some k) = ap Some (let z : (k +ℤ pos 0) ≡ k = omega (arith, ints) in z)

zero_at : (numbers : ℕ → Option ℤ) (table t : ℕ) → with_at numbers table (numbered 0 (numbers table)) t ≡ numbers t
zero_at numbers table t = elim (eqb_tells t table) [
  | inl p ↦ ap (λ (b : Bool). if b then numbered 0 (numbers table) else numbers t) p.0 ∙ (numbered_zero (numbers table) ∙ ap numbers (sym p.1))
  | inr p ↦ ap (λ (b : Bool). if b then numbered 0 (numbers table) else numbers t) p.0
]

zero_drawn : (numbers : ℕ → Option ℤ) (table : Option ℕ) (t : ℕ) → with_draws numbers table 0 t ≡ numbers t
zero_drawn numbers None t = refl
zero_drawn numbers (Some table) t = zero_at numbers table t

draws_moved : (held : Wants) (numbers : ℕ → Option ℤ) (table : Option ℕ) (t n : ℕ) → table ≡ Some t → held.tables t ≡ true → IsMovedBy held numbers (with_draws numbers table n)
draws_moved held numbers table t n is has =
    subst (λ (x : Option ℕ). IsMovedBy held numbers (with_draws numbers x n)) (sym is) (one_moved held numbers t (numbered n (numbers t)) has (numbered_some n (numbers t)))

pub run_moved : (tables : List TableDef) (held : Wants) (numbers : ℕ → Option ℤ) (statement : Checked) → IsLocked held (lock_of statement.body) → IsMovedBy held numbers (drawn_by tables statement numbers)
run_moved tables held numbers statement has = go (lock_of statement.body) refl
  where
    go : (lock : Option ℕ) → lock_of statement.body ≡ lock → IsMovedBy held numbers (drawn_by tables statement numbers)
    go None is =
        let none = none_of tables statement (next_for numbers (table_in statement)) is in
        let same : (t : ℕ) → drawn_by tables statement numbers t ≡ numbers t = λ t. ap (λ (n : ℕ). with_draws numbers (table_in statement) n t) none ∙ zero_drawn numbers (table_in statement) t in
        record { same = λ t free. same t; there = λ t some. ap is_some (same t) ∙ some }
    go (Some t) is = draws_moved held numbers (table_in statement) t _ (lock_table statement t is) (subst (IsLocked held) is has)
