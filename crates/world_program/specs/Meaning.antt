-- The world that the program's data mean.
use Rattle.std.specs.Prelude.{ℕ, List, Option, Some, None, slice_get}
use Rattle.schema.specs.declared.catalogue.TableDef.{TableDef}
use Rattle.backend_trait.specs.declared.answer.Answer.{Answer}
use Rattle.backend_trait.specs.Store.{Store, prepared}
use Rattle.plain_store.specs.Meaning.{store_of}
use Rattle.session_machine.specs.declared.machine.ReadPolicy.{ReadPolicy}
use Rattle.session_machine.specs.declared.machine.Machine.{Machine}
use Rattle.session_machine.specs.Rules.{new_machine}
use Rattle.session_engine.specs.declared.session.Core.{Core}
use Rattle.session_engine.specs.Cores.{machine_in}
use Rattle.snapshot_gate.specs.declared.state.GateState.{GateState}
use Rattle.one_copy_model.specs.Numbers.{session_of}
use Rattle.one_copy_model.specs.World.{World}
use Rattle.world_program.specs.declared.data.Replica.{Replica}
use Rattle.world_program.specs.declared.data.Replicas.{Replicas}

abbrev pub machine_at : ReadPolicy → ℕ → Option Core → Machine
machine_at policy s None = new_machine (session_of s) policy
machine_at policy s (Some core) = machine_in core

abbrev pub store_in : List TableDef → Option Replica → Store
store_in tables None = prepared tables
store_in tables (Some r) = store_of r.store

abbrev pub answer_at : Option (Option Answer) → Option Answer
answer_at None = None
answer_at (Some answer) = answer

abbrev pub mail_in : Option Replica → ℕ → Option Answer
mail_in None s = None
mail_in (Some r) s = answer_at (slice_get r.mail.items s)

abbrev pub world_in : List TableDef → ReadPolicy → GateState → List Core → List Replica → World
world_in tables policy gate cores backends = record {
  tables = tables;
  gate = gate;
  machine = λ s. machine_at policy s (slice_get cores s);
  store = λ b. store_in tables (slice_get backends b);
  mail = λ s b. mail_in (slice_get backends b) s;
}

abbrev pub world_of : Replicas → World
world_of w = world_in w.catalogue w.policy w.gate.state w.cores.items w.backends.items
