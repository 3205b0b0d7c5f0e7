-- What the program keeps: statements that can be run, and rows that stand in their tables.
use Rattle.std.specs.Prelude.{◌≡◌, ◌≤ℤ◌, ℕ, ℤ, pos, List, Option, Some, None, slice_get}
use Rattle.std.specs.Coded.{Unit-prop, Π_prop, le_prop}
use Rattle.std.proofs.Props.{props}
use Rattle.schema.specs.declared.catalogue.TableDef.{TableDef}
use Rattle.catalogue.specs.declared.checked.Checked.{Checked}
use Rattle.catalogue.specs.declared.checked.CheckedBody.{CheckedBody}
use Rattle.catalogue.specs.declared.checked.CheckedBody.TheVariants as body
use Rattle.sql_eval.specs.Effects.{DrawsFew}
use Rattle.backend_trait.specs.Typed.{AreAllStored}
use Rattle.backend_trait.specs.declared.answer.Answer.{Answer}
use Rattle.backend_trait.specs.declared.request.Request.{Request}
use Rattle.backend_trait.specs.declared.request.Request.TheVariants as requests
use Rattle.backend_trait.specs.Keys.{Place}
use Rattle.backend_trait.specs.Rows.{Rows, Changes, laid_over}
use Rattle.backend_trait.specs.Effect.{Gives, effect_of}
use Rattle.backend_trait.specs.Store.{Transaction, Absent, Alive, Dead, view_of}
use Rattle.backend_trait.specs.Runnable.{IsRunnable}
use Rattle.outcomes.specs.declared.change.ChangeSet.{ChangeSet}
use Rattle.outcomes.specs.Log.{rows_of}
use Rattle.plain_store.specs.declared.data.Phase.{Phase}
use Rattle.plain_store.specs.Phases.{transaction_in, request_at}

-- a statement that waits can be run, and a number that is to be set is 1 at least
abbrev pub IsKept : List TableDef → Option Request → Type 0
IsKept tables None = Unit {0}
IsKept tables (Some requests.TakeSnapshot) = Unit {0}
IsKept tables (Some (requests.Run checked)) = IsRunnable tables checked
IsKept tables (Some (requests.Lock table)) = Unit {0}
IsKept tables (Some requests.Commit) = Unit {0}
IsKept tables (Some requests.Rollback) = Unit {0}
IsKept tables (Some (requests.ReadSerial table)) = Unit {0}
IsKept tables (Some (requests.SetSerial table n)) = pos 1 ≤ℤ n

abbrev pub AreKept : List TableDef → List (Option Request) → Type 0
AreKept tables asked = (s : ℕ) → IsKept tables (request_at (slice_get asked s))

-- what a transaction sees stands in its tables
abbrev pub IsStoredIn : List TableDef → Transaction → Type 0
IsStoredIn tables Absent = Unit {0}
IsStoredIn tables (Alive t) = AreAllStored tables (view_of t)
IsStoredIn tables Dead = Unit {0}

abbrev pub AreSeenIn : List TableDef → List Phase → Type 0
AreSeenIn tables all = (s : ℕ) → IsStoredIn tables (transaction_in (slice_get all s))

-- what is committed stands in its tables
abbrev pub AreRowsIn : List TableDef → List ChangeSet → Type 0
AreRowsIn tables log = AreAllStored tables (rows_of log)

-- what a statement gives that can be run leaves rows in their tables
abbrev pub KeepsRows : List TableDef → Type 0
KeepsRows tables = (checked : Checked) (view : Rows) (next : Option ℤ) (answer : Answer) (changes : Changes) (places : List Place)
    → IsRunnable tables checked → AreAllStored tables view → (effect_of tables checked view next).given ≡ Gives answer changes places
    → AreAllStored tables (laid_over changes view)

-- ---- each is a fact, which holds in one way

few-prop : (statement : CheckedBody) → IsProp (DrawsFew statement)
few-prop (body.Read read) = Unit-prop
few-prop (body.Insert insert) = le_prop
few-prop (body.Change change) = Unit-prop
few-prop (body.Remove remove) = Unit-prop

IsKept-prop : (tables : List TableDef) (waits : Option Request) → IsProp (IsKept tables waits)
IsKept-prop tables None = Unit-prop
IsKept-prop tables (Some requests.TakeSnapshot) = Unit-prop
IsKept-prop tables (Some (requests.Run checked)) = Prim.hlevel (props, few-prop)
IsKept-prop tables (Some (requests.Lock table)) = Unit-prop
IsKept-prop tables (Some requests.Commit) = Unit-prop
IsKept-prop tables (Some requests.Rollback) = Unit-prop
IsKept-prop tables (Some (requests.ReadSerial table)) = Unit-prop
IsKept-prop tables (Some (requests.SetSerial table n)) = Prim.hlevel props

pub AreKept-prop : (tables : List TableDef) (asked : List (Option Request)) → IsProp (AreKept tables asked)
AreKept-prop tables asked = Π_prop (λ s. IsKept-prop tables (request_at (slice_get asked s)))

AreAllStored-prop : (tables : List TableDef) (view : Rows) → IsProp (AreAllStored tables view)
AreAllStored-prop tables view = Prim.hlevel props

pub AreRowsIn-prop : (tables : List TableDef) (log : List ChangeSet) → IsProp (AreRowsIn tables log)
AreRowsIn-prop tables log = AreAllStored-prop tables (rows_of log)

IsStoredIn-prop : (tables : List TableDef) (transaction : Transaction) → IsProp (IsStoredIn tables transaction)
IsStoredIn-prop tables Absent = Unit-prop
IsStoredIn-prop tables (Alive t) = AreAllStored-prop tables (view_of t)
IsStoredIn-prop tables Dead = Unit-prop

pub AreSeenIn-prop : (tables : List TableDef) (all : List Phase) → IsProp (AreSeenIn tables all)
AreSeenIn-prop tables all = Π_prop (λ s. IsStoredIn-prop tables (transaction_in (slice_get all s)))

pub KeepsRows-prop : (tables : List TableDef) → IsProp (KeepsRows tables)
KeepsRows-prop tables =
    Π_prop (λ checked. Π_prop (λ view. Π_prop (λ next. Π_prop (λ answer. Π_prop (λ changes. Π_prop (λ places.
    Π_prop (λ runnable. Π_prop (λ stored. Π_prop (λ gives. AreAllStored-prop tables (laid_over changes view))))))))))
