-- What answers leave of a transaction.
use Rattle.std.specs.Prelude.{◌≡◌, ℕ, Option, Some, None}
use Rattle.outcomes.specs.declared.change.ChangeSet.{ChangeSet}
use Rattle.backend_trait.specs.Effect.{Given, both_wants}
use Rattle.backend_trait.specs.Store.{Live, given_to, table_lock}
use Rattle.plain_store.specs.declared.data.Phase.{Phase}
use Rattle.plain_store.specs.declared.data.Phase.TheVariants as phases

-- it has run a statement that gives that
abbrev pub gave : Option Given → Live → Live
gave None t = t
gave (Some given) t = given_to given t

-- it has taken the lock of a table
abbrev pub locked : ℕ → Live → Live
locked table t = record t { held = both_wants (table_lock table) t.held }

-- the set of its changes
abbrev pub IsSetIn : Phase → Option ChangeSet → Type 0
IsSetIn phases.Absent set = set ≡ None
IsSetIn (phases.Alive work) None = ⊥
IsSetIn (phases.Alive work) (Some set) = set.changes.items ≡ work.own.changes.items
IsSetIn phases.Dead set = set ≡ None
