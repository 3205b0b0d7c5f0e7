-- Snapshots and commits stay apart over every list of steps.
use Rattle.std.proofs.Common.{List, subst}
use Rattle.pool_base.specs.declared.backend_set.BackendSet.{BackendSet}
use Rattle.session_machine.specs.declared.machine.ReadPolicy.{ReadPolicy}
use Rattle.snapshot_gate.specs.declared.state.GateState.{GateState}
use Rattle.snapshot_gate.specs.Runs.{AreApart}
use Rattle.snapshot_gate.proofs.Apart.{always_apart}
use Rattle.online_recovery.specs.declared.layout.Layout.{Layout}
use Rattle.recovery_laws.specs.declared.step.Step.{Step}
use Rattle.recovery_laws.specs.Pool.{first_pool, IsPlayed, pool_all}
use Rattle.recovery_laws.proofs.Calls.{calls_of, runs, leads}

pub together_never : (layout : Layout) (policy : ReadPolicy) (attached : BackendSet) (es : List Step) → IsPlayed (first_pool layout policy attached) es
    → AreApart (pool_all (first_pool layout policy attached) es).gate
together_never layout policy attached es played =
    subst (λ (g : GateState). AreApart g) (leads (first_pool layout policy attached) es)
    (always_apart attached (calls_of es) (runs (first_pool layout policy attached) es played))
