-- The changes of transactions leave each row in its table, under its own key.
use Rattle.std.specs.Prelude.{ℕ, List, Option, Some, None, slice_get}
use Rattle.std.specs.Coded.{Unit-prop, Π_prop, ×_prop, le_prop}
use Rattle.std.proofs.Props.{props}
use Rattle.schema.specs.declared.catalogue.TableDef.{TableDef}
use Rattle.outcomes.specs.declared.change.ChangeSet.{ChangeSet}
use Rattle.outcomes.specs.Stored.{AreAllStored, IsSetStored}
use Rattle.model_store.specs.declared.phase.Phase.{Phase}
use Rattle.model_store.specs.declared.phase.Phase.TheVariants as phases
use Rattle.model_store.specs.declared.seat.Seat.{Seat}
use Rattle.outcomes.specs.declared.index.Index.{Index}
use Rattle.outcomes.specs.Indexed.{IsIndexOf}
use Rattle.model_store.specs.Coding.{rows_code, value_code}

abbrev pub AreStoredIn : List TableDef → Phase → Type 0
AreStoredIn tables phases.Absent = Unit {0}
AreStoredIn tables (phases.Open work) = IsSetStored tables work.own
AreStoredIn tables phases.Dead = Unit {0}

abbrev pub AreStoredAt : List TableDef → Option Seat → Type 0
AreStoredAt tables None = Unit {0}
AreStoredAt tables (Some seat) = AreStoredIn tables seat.phase

-- what each session's transaction has changed
abbrev pub AreEachStored : List TableDef → List Seat → Type 0
AreEachStored tables seats = (s : ℕ) → AreStoredAt tables (slice_get seats s)

pub AreStoredIn-prop : (tables : List TableDef) (phase : Phase) → IsProp (AreStoredIn tables phase)
AreStoredIn-prop tables phases.Absent = Unit-prop
AreStoredIn-prop tables (phases.Open work) = Prim.hlevel (props, value_code)
AreStoredIn-prop tables phases.Dead = Unit-prop

AreStoredAt-prop : (tables : List TableDef) (seat : Option Seat) → IsProp (AreStoredAt tables seat)
AreStoredAt-prop tables None = Unit-prop
AreStoredAt-prop tables (Some seat) = AreStoredIn-prop tables seat.phase

pub each_stored-prop : (tables : List TableDef) (seats : List Seat) → IsProp (AreEachStored tables seats)
each_stored-prop tables seats = Π_prop (λ s. AreStoredAt-prop tables (slice_get seats s))

pub all_stored-prop : (tables : List TableDef) (sets : List ChangeSet) → IsProp (AreAllStored tables sets)
all_stored-prop tables sets = Prim.hlevel (props, value_code)

pub index-prop : (index : Index) (log : List ChangeSet) → IsProp (IsIndexOf index log)
index-prop index log = ×_prop le_prop (Π_prop (λ mark. Prim.hlevel (props, rows_code)))
