-- Changes and sets of changes that leave each row in its table, under its own key.
use Rattle.std.specs.Prelude.{◌≡◌, List, All, Some, slice_get}
use Rattle.std.specs.FinMap as fin
use Rattle.schema.specs.declared.catalogue.TableDef.{TableDef}
use Rattle.sql_eval.specs.declared.row.Row.{Row}
use Rattle.sql_eval.specs.declared.effect.Change.{Change}
use Rattle.backend_trait.specs.Typed.{IsStored}
use Rattle.backend_trait.specs.Keys.{Place}
use Rattle.backend_trait.specs.Rows.{Changes}
use Rattle.backend_trait.specs.Effect.{changes_of}
use Rattle.outcomes.specs.declared.change.ChangeSet.{ChangeSet}

-- each row that is left at a place stands there
abbrev pub AreLeftStored : List TableDef → Changes → Type 0
AreLeftStored tables changes = (p : Place) (row : Row) → fin.get changes p ≡ Some (Some row) → IsStored (slice_get tables p.table) p.key row

-- of two changes at one place the later counts
abbrev pub AreStored : List TableDef → List Change → Type 0
AreStored tables changes = AreLeftStored tables (changes_of changes)

abbrev pub IsSetStored : List TableDef → ChangeSet → Type 0
IsSetStored tables set = AreStored tables set.changes.items

abbrev pub AreAllStored : List TableDef → List ChangeSet → Type 0
AreAllStored tables sets = All (IsSetStored tables) sets
