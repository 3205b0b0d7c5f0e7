-- What statements give where the numbers of one table have changed: the same, but for a serial insert of that table.
use Rattle.std.proofs.Common.{◌≡◌, ◌≢◌, ℕ, ℤ, true, false, Bool, List, refl, sym, ap, ◌∙◌, subst, inl, inr}
use Rattle.std.specs.Prelude.{◌⊎◌, if◌then◌else◌, Option, Some, None}
use Rattle.schema.specs.declared.catalogue.TableDef.{TableDef}
use Rattle.catalogue.specs.declared.checked.Checked.{Checked}
use Rattle.catalogue.specs.declared.checked.CheckedBody.{CheckedBody}
use Rattle.catalogue.specs.declared.checked.CheckedBody.TheVariants as body
use Rattle.classifier.specs.declared.class.Class.{Class as BodyClass}
use Rattle.classifier.specs.declared.class.Class.TheVariants as class
use Rattle.classifier.specs.Classes.{has_serial, class_of, locked, lock_of}
use Rattle.sql_eval.specs.Effects.{table_in as table_of}
use Rattle.backend_trait.proofs.Undrawn.{numbers_apart}
use Rattle.backend_trait.specs.declared.request.Request.TheVariants as requests
use Rattle.backend_trait.specs.Rows.{Rows}
use Rattle.backend_trait.specs.Effect.{Given, effect_of, table_in}
use Rattle.backend_trait.specs.Store.{Live, Transaction, Absent, Alive, Dead, Store, WhereLive, view_of, next_for, given_to}
use Rattle.backend_trait.specs.Acts.{given_of}
use Rattle.session_machine.specs.declared.work.Class.{Class}
use Rattle.session_machine.specs.declared.work.Class.TheVariants as classes
use Rattle.session_machine.specs.declared.work.Verb.TheVariants as verbs
use Rattle.session_machine.specs.declared.work.Work.{Work}
use Rattle.session_machine.specs.Classes.{class_in}
use Rattle.one_copy_model.specs.Places.{asks_as, asks_of}
use Rattle.one_copy_model.specs.Deaths.{is_live}
use Rattle.one_copy_model.specs.Orders.{IsClassed, runs_at_once}
use Rattle.one_copy_model.proofs.Made.{made_by}

-- a statement that is sent as no serial insert takes no lock first
abbrev pub is_serial_class : Class → Bool
is_serial_class classes.Read = false
is_serial_class classes.LockingRead = false
is_serial_class (classes.Write verb) = false
is_serial_class (classes.SerialInsert table) = true

pub runs_plain : (class : Class) → runs_at_once class ≡ true → is_serial_class class ≡ false
runs_plain classes.LockingRead e = refl
runs_plain (classes.Write verb) e = refl
runs_plain classes.Read e = refl
runs_plain (classes.SerialInsert table) e = absurd (let z : false ≡ true = e in cc)

locked_none : (c : BodyClass) → locked c None ≡ None
locked_none class.Read = refl
locked_none class.LockingRead = refl
locked_none class.Write = refl
locked_none class.SerialInsert = refl

insert_unlocked : (table : ℕ) (v : Bool) → is_serial_class (if v then classes.SerialInsert table else classes.Write verbs.Insert) ≡ false
    → locked (if v then class.SerialInsert else class.Write) (Some table) ≡ None
insert_unlocked table true e = absurd (let z : true ≡ false = e in cc)
insert_unlocked table false e = refl

body_unlocked : (b : CheckedBody) → is_serial_class (class_in b) ≡ false → lock_of b ≡ None
body_unlocked (body.Read read) e = locked_none (class_of (body.Read read))
body_unlocked (body.Insert insert) e = insert_unlocked insert.table (has_serial insert.rows) e
body_unlocked (body.Change change) e = refl
body_unlocked (body.Remove remove) e = refl

pub unlocked : (tables : List TableDef) (work : Work) → IsClassed tables work → is_serial_class work.class ≡ false → lock_of work.statement.body ≡ None
unlocked tables work c plain = body_unlocked work.statement.body (ap is_serial_class (sym c.class) ∙ plain)

-- a serial insert writes the table that it is sent with, and locks it first
read_table : (v : Bool) (table : ℕ) → (if v then classes.LockingRead else classes.Read) ≡ classes.SerialInsert table → ⊥
read_table true table e = cc
read_table false table e = cc

insert_table : (v : Bool) (own table : ℕ) → (if v then classes.SerialInsert own else classes.Write verbs.Insert) ≡ classes.SerialInsert table → own ≡ table
insert_table true own table e = let same : own ≡ table = cc in same
insert_table false own table e = absurd (cc)

body_table : (b : CheckedBody) (table : ℕ) → class_in b ≡ classes.SerialInsert table → Some table ≡ table_of b
body_table (body.Read read) table e = absurd (read_table read.for_update table e)
body_table (body.Insert insert) table e = ap Some (sym (insert_table (has_serial insert.rows) insert.table table e))
body_table (body.Change change) table e = absurd (cc)
body_table (body.Remove remove) table e = absurd (cc)

pub serial_table : (tables : List TableDef) (work : Work) (table : ℕ) → IsClassed tables work → work.class ≡ classes.SerialInsert table → Some table ≡ table_in work.statement
serial_table tables work table c e = body_table work.statement.body table (sym c.class ∙ e)

insert_lock : (v : Bool) (own table : ℕ) → (if v then classes.SerialInsert own else classes.Write verbs.Insert) ≡ classes.SerialInsert table
    → locked (if v then class.SerialInsert else class.Write) (Some own) ≡ Some table
insert_lock true own table e = let same : own ≡ table = cc in ap Some same
insert_lock false own table e = absurd (cc)

body_lock : (b : CheckedBody) (table : ℕ) → class_in b ≡ classes.SerialInsert table → lock_of b ≡ Some table
body_lock (body.Read read) table e = absurd (read_table read.for_update table e)
body_lock (body.Insert insert) table e = insert_lock (has_serial insert.rows) insert.table table e
body_lock (body.Change change) table e = absurd (cc)
body_lock (body.Remove remove) table e = absurd (cc)

pub serial_lock : (tables : List TableDef) (work : Work) (table : ℕ) → IsClassed tables work → work.class ≡ classes.SerialInsert table → lock_of work.statement.body ≡ Some table
serial_lock tables work table c e = body_lock work.statement.body table (sym c.class ∙ e)

-- a work that asks for its run takes no lock first
asks_run_as : (tables : List TableDef) (work : Work) (class : Class) (checked : Checked) → IsClassed tables work → work.class ≡ class
    → asks_as work.statement class ≡ requests.Run checked → is_serial_class class ≡ false → lock_of checked.body ≡ None
asks_run_as tables work class checked c is e plain =
    subst (λ (x : Checked). lock_of x.body ≡ None) (same class plain e) (unlocked tables work c (ap is_serial_class is ∙ plain))
  where
    same : (k : Class) → is_serial_class k ≡ false → asks_as work.statement k ≡ requests.Run checked → work.statement ≡ checked
    same classes.Read p f = let z : requests.Run work.statement ≡ requests.Run checked = f in let q : work.statement ≡ checked = cc in q
    same classes.LockingRead p f = let z : requests.Run work.statement ≡ requests.Run checked = f in let q : work.statement ≡ checked = cc in q
    same (classes.Write verb) p f = let z : requests.Run work.statement ≡ requests.Run checked = f in let q : work.statement ≡ checked = cc in q
    same (classes.SerialInsert table) p f = absurd (let z : true ≡ false = p in cc)

run_plain : (work : Work) (class : Class) (checked : Checked) → asks_as work.statement class ≡ requests.Run checked → is_serial_class class ≡ false
run_plain work classes.Read checked e = refl
run_plain work classes.LockingRead checked e = refl
run_plain work (classes.Write verb) checked e = refl
run_plain work (classes.SerialInsert table) checked e = absurd (let z : requests.Lock table ≡ requests.Run checked = e in cc)

pub asks_run : (tables : List TableDef) (work : Work) (checked : Checked) → IsClassed tables work → asks_of work ≡ requests.Run checked → lock_of checked.body ≡ None
asks_run tables work checked c e = asks_run_as tables work work.class checked c refl e (run_plain work work.class checked e)

-- a serial insert asks for its lock
pub asks_lock : (work : Work) (table : ℕ) → work.class ≡ classes.SerialInsert table → asks_of work ≡ requests.Lock table
asks_lock work table e = ap (asks_as work.statement) e

-- a statement takes no lock first, or is of another table
abbrev pub IsElsewhere : ℕ → Checked → Type 0
IsElsewhere table checked = (lock_of checked.body ≡ None) ⊎ ((other : ℕ) × (Some other ≡ table_in checked) × (other ≢ table))

pub where_lives : (P : Live → Type 0) (x : Transaction) → WhereLive x P → is_live x ≡ true
where_lives P (Alive t) h = refl
where_lives P Absent h = absurd h
where_lives P Dead h = absurd h

where_map : (P Q : Live → Type 0) (x : Transaction) → ((t : Live) → P t → Q t) → WhereLive x P → WhereLive x Q
where_map P Q (Alive t) f h = f t h
where_map P Q Absent f h = h
where_map P Q Dead f h = h

module _ (before now : ℕ → Option ℤ) (table : ℕ) (next : (other : ℕ) → other ≢ table → now other ≡ before other) where
  -- what it gives is the same
  pub numbers_off : (tables : List TableDef) (checked : Checked) (view : Rows) → IsElsewhere table checked
      → (effect_of tables checked view (next_for before (table_in checked))).given ≡ (effect_of tables checked view (next_for now (table_in checked))).given
  numbers_off tables checked view (inl none) =
      numbers_apart tables checked view (next_for before (table_in checked)) none ∙ sym (numbers_apart tables checked view (next_for now (table_in checked)) none)
  numbers_off tables checked view (inr of) =
      ap (λ (n : Option ℤ). (effect_of tables checked view n).given)
      (ap (next_for before) (sym of.1) ∙ sym (next of.0 of.2) ∙ ap (next_for now) of.1)

  -- and so is what its run makes of a transaction, where that is live
  pub run_off : (tables : List TableDef) (rows : Rows) (checked : Checked) (x : Transaction) → (is_live x ≡ true → IsElsewhere table checked)
      → made_by tables rows now (requests.Run checked) x ≡ made_by tables rows before (requests.Run checked) x
  run_off tables rows checked (Alive t) off = ap (λ (g : Given). Alive (given_to g t)) (sym (numbers_off tables checked (view_of t) (off refl)))
  run_off tables rows checked Absent off = refl
  run_off tables rows checked Dead off = refl

module _ (old new : Store) (o table : ℕ) (tables : new.tables ≡ old.tables) (transaction : new.transaction o ≡ old.transaction o)
    (next : (other : ℕ) → other ≢ table → new.next other ≡ old.next other) where
  given_off : (checked : Checked) (u : Live) → IsElsewhere table checked → given_of old checked u ≡ given_of new checked u
  given_off checked u off =
      numbers_off old.next new.next table next old.tables checked (view_of u) off
      ∙ ap (λ (ts : List TableDef). (effect_of ts checked (view_of u) (next_for new.next (table_in checked))).given) (sym tables)

  -- what is said of a live transaction and of what a statement gives it
  pub where_given : (F G : Live → Given → Type 0) (checked : Checked) → (is_live (old.transaction o) ≡ true → IsElsewhere table checked)
      → ((u : Live) (g : Given) → F u g → G u g)
      → WhereLive (old.transaction o) (λ u. F u (given_of old checked u)) → WhereLive (new.transaction o) (λ u. G u (given_of new checked u))
  where_given F G checked off f h =
      let live : is_live (old.transaction o) ≡ true = where_lives (λ u. F u (given_of old checked u)) (old.transaction o) h in
      subst (λ (x : Transaction). WhereLive x (λ u. G u (given_of new checked u))) (sym transaction)
      (where_map (λ u. F u (given_of old checked u)) (λ u. G u (given_of new checked u)) (old.transaction o)
      (λ u is. subst (G u) (given_off checked u (off live)) (f u (given_of old checked u) is)) h)
