-- What statements want: a statement wants places of its own table and no lock, and one that takes no lock first gives the same on each number.
use Rattle.std.proofs.Common.{◌≡◌, ◌∙◌, ℕ, ℤ, Bool, true, false, ◌||◌, ◌==◌, List, [], ◌∷◌, ◌++◌, map, refl, sym, ap, inl, inr}
use Rattle.std.specs.Prelude.{◌⊎◌, if◌then◌else◌, Option, Some, None, Ok, Err}
use Rattle.std.specs.declared.cmp.Ordering.{Ordering}
use Rattle.std.specs.declared.cmp.Ordering.TheVariants.{Less, Equal, Greater}
use Rattle.std.specs.Ordering.{is_eq}
use Rattle.std.specs.List.{AllByRecursion}
use Rattle.std.proofs.lemmas.List.Elements.{recursion_from_All}
use Rattle.pg_values.specs.declared.value.Value.{Value}
use Rattle.schema.specs.declared.catalogue.TableDef.{TableDef}
use Rattle.catalogue.specs.declared.checked.Checked.{Checked}
use Rattle.catalogue.specs.declared.checked.CheckedBody.{CheckedBody}
use Rattle.catalogue.specs.declared.checked.CheckedBody.TheVariants as body
use Rattle.classifier.specs.declared.class.Class.{Class as BodyClass}
use Rattle.classifier.specs.declared.class.Class.TheVariants as class
use Rattle.classifier.specs.Classes.{has_serial, class_of, locked, lock_of}
use Rattle.sql_eval.specs.declared.effect.Change.{Change}
use Rattle.sql_eval.specs.Walks.{Coded}
use Rattle.sql_eval.specs.Reads.{alone}
use Rattle.sql_eval.specs.Effects.{Given as Found, Reads, Writes, given_by, table_in as table_of}
use Rattle.backend_trait.proofs.Places.{place_antisymmetric}
use Rattle.backend_trait.proofs.Tables.{stay_in}
use Rattle.backend_trait.specs.Keys.{Place, place, place_order, is_place}
use Rattle.backend_trait.specs.Rows.{Rows}
use Rattle.backend_trait.specs.Effect.{Wants, Conflicts, same_place, same_table, table_left, table_right, both_wants, is_among, has_place, place_changed, keys_in, given_as, table_in, number_from, Given, Fails, Gives, effect_of}
use Rattle.backend_trait.specs.Store.{table_lock}
use Rattle.backend_trait.specs.Acts.{wants_in}
use Rattle.session_machine.specs.declared.work.Class.{Class}
use Rattle.session_machine.specs.declared.work.Class.TheVariants as classes
use Rattle.session_machine.specs.declared.work.Verb.TheVariants as verbs
use Rattle.session_machine.specs.declared.work.Work.{Work}
use Rattle.session_machine.specs.Classes.{class_in}
use Rattle.one_copy_model.specs.Orders.{IsClassed}

or_left : (a b : Bool) → a ≡ true → (a || b) ≡ true
or_left true b e = refl
or_left false b e = absurd (let z : false ≡ true = e in cc)

or_true : (a b : Bool) → (a || b) ≡ true → (a ≡ true) ⊎ (b ≡ true)
or_true true b e = inl refl
or_true false b e = inr e

-- places that are one
told_equal : (o : Ordering) → is_eq o ≡ true → o ≡ Equal
told_equal Less e = absurd (cc)
told_equal Equal e = refl
told_equal Greater e = absurd (cc)

one_and_same : (p q : Place) → is_place p q ≡ true → p ≡ q
one_and_same p q e = place_antisymmetric p q (told_equal (place_order p q) e)

-- what is among two lists is among one of them
in_either : (xs ys : List Place) (p : Place) → is_among (xs ++ ys) p ≡ true → (is_among xs p ≡ true) ⊎ (is_among ys p ≡ true)
in_either [] ys p e = inr e
in_either (x ∷ xs) ys p e = elim (or_true (is_place p x) (is_among (xs ++ ys) p) e) [
  | inl h ↦ inl (or_left (is_place p x) (is_among xs p) h)
  | inr h ↦ elim (in_either xs ys p h) [ inl l ↦ inl (or_behind (is_place p x) (is_among xs p) l) | inr r ↦ inr r ]
]
  where
    or_behind : (a b : Bool) → b ≡ true → (a || b) ≡ true
    or_behind true b e = refl
    or_behind false b e = e

-- the places of a read and of a write are of the statement's table
of_keys : (table : ℕ) (keys : List Value) (p : Place) → is_among (map (place table) keys) p ≡ true → Some p.table ≡ Some table
of_keys table [] p e = absurd (let z : false ≡ true = e in cc)
of_keys table (k ∷ ks) p e = elim (or_true (is_place p (place table k)) (is_among (map (place table) ks) p) e) [
  | inl h ↦ ap (λ (q : Place). Some q.table) (one_and_same p (place table k) h)
  | inr h ↦ of_keys table ks p h
]

keys_within : (table : Option ℕ) (keys : List Value) (p : Place) → is_among (keys_in table keys) p ≡ true → Some p.table ≡ table
keys_within None keys p e = absurd (let z : false ≡ true = e in cc)
keys_within (Some table) keys p e = of_keys table keys p e

changes_within : (table : Option ℕ) (cs : List Change) → AllByRecursion (λ (c : Change). Some c.table ≡ table) cs → (p : Place) → is_among (map place_changed cs) p ≡ true → Some p.table ≡ table
changes_within table [] all p e = absurd (let z : false ≡ true = e in cc)
changes_within table (c ∷ cs) all p e = elim (or_true (is_place p (place_changed c)) (is_among (map place_changed cs) p) e) [
  | inl h ↦ ap (λ (q : Place). Some q.table) (one_and_same p (place_changed c) h) ∙ all.0
  | inr h ↦ changes_within table cs all.1 p h
]

pub wants_within : (tables : List TableDef) (checked : Checked) (view : Rows) (next : Option ℤ) (p : Place)
    → has_place (wants_in (effect_of tables checked view next).given) p ≡ true → Some p.table ≡ table_in checked
unfolding effect_of
wants_within tables checked view next p e = by (given_by alone tables checked.body view (number_from next)) refl e
  where
    by : (found : Coded Found) → given_by alone tables checked.body view (number_from next) ≡ found → has_place (wants_in (given_as (table_in checked) found)) p ≡ true → Some p.table ≡ table_in checked
    by (Err code) is e = absurd (let z : false ≡ true = e in cc)
    by (Ok (Reads read)) is e = keys_within (table_in checked) read.keys p e
    by (Ok (Writes cs)) is e =
        changes_within (table_in checked) cs (recursion_from_All (λ (c : Change). Some c.table ≡ table_in checked) cs (stay_in alone tables checked.body view (number_from next) cs is)) p e

-- a run wants no lock
pub wants_no_lock : (given : Given) (t : ℕ) → (wants_in given).tables t ≡ true → ⊥
wants_no_lock (Fails code) t e = let z : false ≡ true = e in cc
wants_no_lock (Gives answer changes places) t e = let z : false ≡ true = e in cc

-- a serial insert is sent with the table that it writes
read_table : (v : Bool) (table : ℕ) → (if v then classes.LockingRead else classes.Read) ≡ classes.SerialInsert table → ⊥
read_table true table e = cc
read_table false table e = cc

insert_table : (v : Bool) (own table : ℕ) → (if v then classes.SerialInsert own else classes.Write verbs.Insert) ≡ classes.SerialInsert table → own ≡ table
insert_table true own table e = let same : own ≡ table = cc in same
insert_table false own table e = absurd (cc)

body_table : (b : CheckedBody) (table : ℕ) → class_in b ≡ classes.SerialInsert table → Some table ≡ table_of b
body_table (body.Read read) table e = absurd (read_table read.for_update table e)
body_table (body.Insert insert) table e = ap Some (sym (insert_table (has_serial insert.rows) insert.table table e))
body_table (body.Change change) table e = absurd (cc)
body_table (body.Remove remove) table e = absurd (cc)

pub serial_table : (tables : List TableDef) (work : Work) (table : ℕ) → IsClassed tables work → work.class ≡ classes.SerialInsert table → Some table ≡ table_in work.statement
serial_table tables work table c e = body_table work.statement.body table (sym c.class ∙ e)

-- a statement that is sent as no serial insert takes no lock first
abbrev pub is_serial_class : Class → Bool
is_serial_class classes.Read = false
is_serial_class classes.LockingRead = false
is_serial_class (classes.Write verb) = false
is_serial_class (classes.SerialInsert table) = true

locked_none : (c : BodyClass) → locked c None ≡ None
locked_none class.Read = refl
locked_none class.LockingRead = refl
locked_none class.Write = refl
locked_none class.SerialInsert = refl

insert_unlocked : (table : ℕ) (v : Bool) → is_serial_class (if v then classes.SerialInsert table else classes.Write verbs.Insert) ≡ false
    → locked (if v then class.SerialInsert else class.Write) (Some table) ≡ None
insert_unlocked table true e = absurd (let z : true ≡ false = e in cc)
insert_unlocked table false e = refl

body_unlocked : (b : CheckedBody) → is_serial_class (class_in b) ≡ false → lock_of b ≡ None
body_unlocked (body.Read read) e = locked_none (class_of (body.Read read))
body_unlocked (body.Insert insert) e = insert_unlocked insert.table (has_serial insert.rows) e
body_unlocked (body.Change change) e = refl
body_unlocked (body.Remove remove) e = refl

pub unlocked : (tables : List TableDef) (work : Work) (class : Class) → IsClassed tables work → work.class ≡ class → is_serial_class class ≡ false → lock_of work.statement.body ≡ None
unlocked tables work class c is plain = body_unlocked work.statement.body (ap is_serial_class (sym c.class ∙ is) ∙ plain)

-- who conflicts with what a run wants within a locked table conflicts with the lock
module _ (table : ℕ) (run held : Wants) (within : (p : Place) → has_place run p ≡ true → p.table ≡ table) (none : (t : ℕ) → run.tables t ≡ true → ⊥)
    (itself : (table == table) ≡ true) where
  abbrev here : Wants
  here = both_wants run (both_wants (table_lock table) held)

  abbrev there : Wants
  there = both_wants (table_lock table) held

  lock_at : (t : ℕ) → t ≡ table → there.tables t ≡ true
  lock_at t e = or_left (t == table) (held.tables t) (ap (λ x. x == table) e ∙ itself)

  tables_at : (t : ℕ) → here.tables t ≡ true → there.tables t ≡ true
  tables_at t e = elim (or_true (run.tables t) ((t == table) || held.tables t) e) [ inl r ↦ absurd (none t r) | inr l ↦ l ]

  pub under_lock : (a : Wants) → Conflicts a here → Conflicts a there
  under_lock a (same_place p x y) = elim (in_either run.places held.places p y) [
    | inl r ↦ table_right p x (lock_at p.table (within p r))
    | inr l ↦ same_place p x l
  ]
  under_lock a (same_table t x y) = same_table t x (tables_at t y)
  under_lock a (table_left p x y) = elim (in_either run.places held.places p y) [
    | inl r ↦ same_table p.table x (lock_at p.table (within p r))
    | inr l ↦ table_left p x l
  ]
  under_lock a (table_right p x y) = table_right p x (tables_at p.table y)
