-- The gate counts the sessions, as their own gate does, and the recoveries; all else of the two gates is the same.
use Rattle.std.specs.Prelude.{◌≡◌, ℕ, ◌+◌, ◌≤◌, Bool, true, false}
use Rattle.snapshot_gate.specs.declared.state.GateState.{GateState}
use Rattle.online_recovery.specs.declared.standing.GateStanding.{GateStanding}
use Rattle.online_recovery.specs.declared.standing.GateStanding.TheVariants.{Out, InSnapshot, Live}
use Rattle.online_recovery.specs.Runs.{Phase}
use Rattle.one_copy_model.specs.Invariant.{count_below}

abbrev pub is_in_snapshot : GateStanding → Bool
is_in_snapshot Out = false
is_in_snapshot InSnapshot = true
is_in_snapshot Live = false

abbrev pub is_live : GateStanding → Bool
is_live Out = false
is_live InSnapshot = false
is_live Live = true

abbrev pub with_counts : GateState → ℕ → ℕ → GateState
with_counts g snaps live = record g { snaps = snaps; live = live }

pub record CountsBoth (whole own : GateState) (phases : ℕ → Phase) : Type 0 where
  pub same : own ≡ with_counts whole own.snaps own.live
  pub snaps : whole.snaps ≡ own.snaps + count_below (λ s. is_in_snapshot (phases s).gate) 65
  pub live : whole.live ≡ own.live + count_below (λ s. is_live (phases s).gate) 65
  pub commits : own.commits ≤ own.live
