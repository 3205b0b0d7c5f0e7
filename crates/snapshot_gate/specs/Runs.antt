-- Runs of the gate: lists of calls, each of which meets its condition where it stands.
use Rattle.std.specs.Prelude.{◌≡◌, List, [], ◌∷◌, ◌⊎◌}
use Rattle.pool_base.specs.declared.gate_call.GateCall.{GateCall}
use Rattle.snapshot_gate.specs.declared.state.GateState.{GateState}
use Rattle.snapshot_gate.specs.Function.{step, MayCall}

-- the state after these calls
abbrev pub state_after : GateState → List GateCall → GateState
state_after g [] = g
state_after g (call ∷ calls) = state_after (step g call).0 calls

-- each call meets its condition on the state that the calls before it leave
abbrev pub IsRun : GateState → List GateCall → Type 0
IsRun g [] = Unit {0}
IsRun g (call ∷ calls) = MayCall g call × IsRun (step g call).0 calls

-- no session takes a snapshot, or none is in a commit
abbrev pub AreApart : GateState → Type 0
AreApart g = (g.snaps ≡ 0) ⊎ (g.commits ≡ 0)
