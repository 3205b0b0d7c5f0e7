-- A history is a run of its calls.
use Rattle.std.proofs.Common.{◌≡◌, List, [], ◌∷◌, refl, sym, subst}
use Rattle.pool_base.specs.declared.backend_set.BackendSet.{BackendSet}
use Rattle.pool_base.specs.declared.gate_call.GateCall.{GateCall}
use Rattle.snapshot_gate.specs.declared.state.GateState.{GateState}
use Rattle.snapshot_gate.specs.Function.{first, step}
use Rattle.snapshot_gate.specs.Runs.{AreApart, IsRun}
use Rattle.snapshot_gate.specs.Runs as runs
use Rattle.snapshot_gate.proofs.Apart.{always_apart}
use Rattle.shared_gate.specs.declared.history.Entry.{Entry}
use Rattle.shared_gate.specs.History.{IsReplay, state_after}

calls_of : List Entry → List GateCall
calls_of [] = []
calls_of (e ∷ es) = e.call ∷ calls_of es

runs_so : (s : GateState) (log : List Entry) → IsReplay s log → IsRun s (calls_of log)
unfolding calls_of
runs_so s [] r = tt
runs_so s (e ∷ es) r = (r.0, runs_so (step s e.call).0 es r.2)

ends_so : (s : GateState) (log : List Entry) → state_after s log ≡ runs.state_after s (calls_of log)
unfolding calls_of
ends_so s [] = refl
ends_so s (e ∷ es) = ends_so (step s e.call).0 es

pub replay_apart : (attached : BackendSet) (log : List Entry) → IsReplay (first attached) log → AreApart (state_after (first attached) log)
replay_apart attached log r = subst AreApart (sym (ends_so (first attached) log)) (always_apart attached (calls_of log) (runs_so (first attached) log r))
