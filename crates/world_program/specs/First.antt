-- The program's data before the first event.
use Rattle.std.specs.Prelude.{◌≡◌, ℕ, suc, List, [], ◌∷◌, None}
use Rattle.schema.specs.declared.catalogue.TableDef.{TableDef}
use Rattle.backend_trait.specs.Store.{prepared}
use Rattle.plain_store.specs.Blanks.{AllAre}
use Rattle.plain_store.specs.Meaning.{store_of}
use Rattle.session_machine.specs.declared.machine.ReadPolicy.{ReadPolicy}
use Rattle.session_machine.specs.Rules.{new_machine}
use Rattle.session_engine.specs.declared.session.Core.{Core}
use Rattle.session_engine.specs.Cores.{machine_in}
use Rattle.one_copy_model.specs.Numbers.{session_of}
use Rattle.world_program.specs.declared.data.Replica.{Replica}

-- cores of the sessions from a number on, each at its start
abbrev pub AreNew : ReadPolicy → ℕ → List Core → Type 0
AreNew policy n [] = Unit {0}
AreNew policy n (core ∷ cores) = (machine_in core ≡ new_machine (session_of n) policy) × AreNew policy (suc n) cores

-- a backend that nobody has asked
pub record IsPrepared (tables : List TableDef) (r : Replica) : Type 0 where
  pub store : store_of r.store ≡ prepared tables
  pub mail : AllAre None r.mail.items

abbrev pub ArePrepared : List TableDef → List Replica → Type 0
ArePrepared tables [] = Unit {0}
ArePrepared tables (r ∷ rs) = IsPrepared tables r × ArePrepared tables rs
