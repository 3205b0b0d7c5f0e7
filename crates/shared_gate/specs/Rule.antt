-- The rule of the shared gate: there is one history, which leaves this state, and in which each pass's calls stand.
use Rattle.std.specs.Prelude.{◌≡◌, ◌⊎◌, ℕ, ◌+◌, ◌≤◌, true, false, List, [], ◌∷◌, length, MatchBool}
use mathlib.Core.Option.{some}
use lib.ListN.{get_elem?}
use Rattle.pool_base.specs.Sets.{has}
use Rattle.pool_base.specs.declared.gate_call.GateCall.{GateCall}
use Rattle.shared_gate.specs.declared.stored.Stored.{Stored}
use Rattle.snapshot_gate.specs.declared.state.GateState.{GateState}
use Rattle.shared_gate.specs.declared.history.Entry.{Entry}
use Rattle.shared_gate.specs.declared.history.Knows.{Knows}
use Rattle.snapshot_gate.specs.Function.{step, MayCall, first, set_of}
use Rattle.shared_gate.specs.History.{Stand, Copy, Out, InSnapshot, Live, InCommit, Idle, Copying, Asked, Entered, state_after, IsReplay, IsOrderly, calls_by, StartsWith, stand_of, copy_of, is_grant, Extends, longer, Hears, IsAtRest}

abbrev pub in_snapshot : Stand → ℕ
in_snapshot Out = 0
in_snapshot InSnapshot = 1
in_snapshot Live = 0
in_snapshot InCommit = 0

abbrev pub in_commit : Stand → ℕ
in_commit Out = 0
in_commit InSnapshot = 0
in_commit Live = 0
in_commit InCommit = 1

abbrev pub is_live : Stand → ℕ
is_live Out = 0
is_live InSnapshot = 0
is_live Live = 1
is_live InCommit = 1

abbrev pub stage : Copy → ℕ
stage Idle = 0
stage Copying = 1
stage Asked = 2
stage Entered = 3

abbrev pub copies : Copy → ℕ
copies Idle = 0
copies Copying = 1
copies Asked = 1
copies Entered = 1

abbrev pub total : (Knows → ℕ) → List Knows → ℕ
total f [] = 0
total f (v ∷ vs) = f v + total f vs

-- the counts of the gate are those of the passes' phases
pub record Counts (s : GateState) (views : List Knows) : Type 0 where
  pub snaps : s.snaps ≡ total (λ v. in_snapshot (stand_of v.mine)) views
  pub commits : s.commits ≡ total (λ v. in_commit (stand_of v.mine)) views
  pub live : s.live ≡ total (λ v. is_live (stand_of v.mine)) views
  pub quiet : s.quiet ≡ total (λ v. stage (copy_of v.mine)) views
  pub copiers : total (λ v. copies (copy_of v.mine)) views ≤ 1

-- what a pass knows is so
pub record Fits (start : GateState) (log : List Entry) (count : ℕ) (s : GateState) (by : ℕ) (v : Knows) : Type 0 where
  pub alone : v.fresh ≡ true → count ≡ 1
  pub old : v.admitted ≡ true → v.fresh ≡ false
  pub begun : v.admitted ≡ true → v.first ≡ start
  pub seen : v.admitted ≡ true → StartsWith log v.seen
  pub told : v.admitted ≡ true → StartsWith log v.told
  pub mine : v.admitted ≡ true → calls_by by log ≡ v.mine
  pub own : v.admitted ≡ true → calls_by by v.seen ≡ v.mine
  -- while this pass is in the quiet, nothing is attached by others after what it has seen
  pub quiet : v.admitted ≡ true → copy_of v.mine ≡ Entered → (mid : List Entry) → StartsWith log mid → StartsWith mid v.seen → (b : ℕ) → b ≤ 7 → has s.attached.bits b ≡ true → has (state_after start mid).attached.bits b ≡ true

pub record Kept (x : Stored) (views : List Knows) : Type 0 where
  pub start : GateState
  pub log : List Entry
  pub replays : IsReplay start log
  pub orderly : IsOrderly start [] log
  pub stands : state_after start log ≡ x.gate.state
  pub fits : (by : ℕ) (v : Knows) → get_elem? views by ≡ some v → Fits start log (length views) x.gate.state by v
  pub nobody : (by : ℕ) → length views ≤ by → calls_by by log ≡ []
  pub counts : Counts x.gate.state views

abbrev pub nothing : GateState
nothing = first (set_of 0)

-- the first pass, before the gate is opened
abbrev pub unborn : Knows
unborn = record { fresh = true; admitted = false; first = nothing; seen = []; told = []; mine = [] }

-- a pass that was joined into another
abbrev pub spent : Knows
spent = record { fresh = false; admitted = false; first = nothing; seen = []; told = []; mine = [] }

abbrev pub told_of : Knows → Knows → Knows
told_of v w = record v { told = w.seen }

abbrev pub heard : Knows → Knows
heard v = record v { seen = longer v.seen v.told; told = [] }

-- a load by which a pass takes in what it was told of
abbrev pub Listens : ℕ → Knows → Stored → Stored → Knows → Type 0
Listens by v x y w = (w ≡ heard v) × Hears by v w

-- the gate is opened, with an empty history
abbrev pub Opens : Knows → Stored → Stored → Knows → Type 0
Opens v x y w = w ≡ record { fresh = false; admitted = true; first = y.gate.state; seen = []; told = []; mine = [] }

-- a load: the call's condition holds, and a refused call is made
abbrev pub Reads : ℕ → GateCall → Knows → Stored → Stored → Knows → Type 0
Reads by call v x y w = MayCall x.gate.state call × MatchBool (is_grant (step x.gate.state call).1) (w ≡ v) (IsAtRest w × Extends v by call (step x.gate.state call).1 w)

-- an exchange: the call's condition holds, and the call is made or nothing changes
abbrev pub Makes : ℕ → GateCall → Knows → Stored → Stored → Knows → Type 0
Makes by call v x y w =
    MayCall x.gate.state call
    × (((w ≡ v) × (y.gate.state ≡ x.gate.state))
    ⊎ ((is_grant (step x.gate.state call).1 ≡ true) × (y.gate.state ≡ (step x.gate.state call).0) × IsAtRest w × Extends v by call (step x.gate.state call).1 w))
