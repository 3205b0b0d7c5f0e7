-- The calls of a session, by where it stands.
use Rattle.std.specs.Prelude.{◌≡◌}
use Rattle.atomic_table.specs.Seated.{TableId}
use Rattle.pool_base.specs.declared.gate_call.GateCall.{GateCall}
use Rattle.pool_base.specs.declared.gate_call.GateCall.TheVariants.{EnterSnapshot, LeaveSnapshot, EnterCommit, LeaveCommit}
use Rattle.shared_gate.specs.History.{Known, Stand, Out, InSnapshot, Live, InCommit, IsOut}

-- a pass of this gate that is in no snapshot, transaction or recovery
abbrev pub IsOutAt : TableId → Known → Type 0
IsOutAt gate pass = (pass.gate ≡ gate) × IsOut pass

-- the call that a transaction makes next
abbrev pub MayWork : Stand → GateCall → Type 0
MayWork s EnterSnapshot = s ≡ Out
MayWork s LeaveSnapshot = s ≡ InSnapshot
MayWork s (EnterCommit tables) = s ≡ Live
MayWork s LeaveCommit = s ≡ InCommit
MayWork s _ = ⊥
