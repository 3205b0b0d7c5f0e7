-- The gate: one function from a state and a call to a state and an answer.
use Rattle.std.specs.Prelude.{◌≡◌, ℕ, ◌+◌, ◌-◌, ◌<◌, ◌^◌, false, ◌==◌, ◌||◌, nat_lt, nat_le, bit_or, if◌then◌else◌}
use Rattle.pool_base.specs.Sets.{has, with_one, without}
use Rattle.pool_base.specs.declared.backend_set.BackendSet.{BackendSet}
use Rattle.pool_base.specs.declared.gate_call.View.{View}
use Rattle.pool_base.specs.declared.gate_call.GateCall.{GateCall}
use Rattle.pool_base.specs.declared.gate_call.GateCall.TheVariants.{Look, EnterSnapshot, LeaveSnapshot, EnterCommit, LeaveCommit, Finish, Detach, StartCopy, AskQuiet, EnterQuiet, Attach, LeaveQuiet}
use Rattle.pool_base.specs.declared.gate_call.GateAnswer.{GateAnswer}
use Rattle.pool_base.specs.declared.gate_call.GateAnswer.TheVariants.{Seen, Granted, Held, Spent}
use Rattle.snapshot_gate.specs.declared.state.GateState.{GateState}

abbrev pub first : BackendSet → GateState
first attached = record { attached = attached; epoch = 0; snaps = 0; commits = 0; live = 0; quiet = 0; done = 0; touched = 0 }

abbrev pub view_of : GateState → View
view_of g = record { attached = g.attached; epoch = g.epoch; touched = g.touched; done = g.done }

abbrev pub set_of : ℕ → BackendSet
set_of bits = record { bits = bits }

abbrev pub with_quiet : GateState → ℕ → GateState
with_quiet g quiet = record g { quiet = quiet }

-- what a granted call changes
abbrev pub granted : GateState → GateCall → GateState
granted g Look = g
granted g EnterSnapshot = record g { snaps = g.snaps + 1 }
granted g LeaveSnapshot = record g { snaps = g.snaps - 1; live = g.live + 1 }
granted g (EnterCommit tables) = record g { commits = g.commits + 1; touched = bit_or g.touched tables }
granted g LeaveCommit = record g { commits = g.commits - 1; live = g.live - 1; done = g.done + 1 }
granted g Finish = record g { live = g.live - 1 }
granted g (Detach b) = record g { attached = set_of (without g.attached.bits b.number); epoch = g.epoch + 1 }
granted g StartCopy = record g { quiet = 1; touched = 0 }
granted g AskQuiet = record g { quiet = 2 }
granted g EnterQuiet = record g { quiet = 3 }
granted g (Attach b) = record g { attached = set_of (with_one g.attached.bits b.number); epoch = g.epoch + 1 }
granted g LeaveQuiet = record g { quiet = 0 }

abbrev pub Turn : Type 0
Turn = GateState × GateAnswer

abbrev pub grant : GateState → GateCall → Turn
grant g call = (granted g call, Granted (view_of (granted g call)))

abbrev pub refuse : GateState → GateAnswer → Turn
refuse g answer = (g, answer)

abbrev pub enter_snapshot : GateState → Turn
enter_snapshot g =
    if nat_lt 0 g.commits then refuse g (Held g.commits)
    else if nat_le 2 g.quiet then refuse g (Held g.quiet)
    else if ((g.snaps + g.live == 65535) || (g.done + g.snaps + g.live == 2 ^ 63)) then refuse g Spent
    else grant g EnterSnapshot

abbrev pub step : GateState → GateCall → Turn
step g Look = refuse g (Seen (view_of g))
step g EnterSnapshot = enter_snapshot g
step g LeaveSnapshot = grant g LeaveSnapshot
step g (EnterCommit tables) = if nat_lt 0 g.snaps then refuse g (Held g.snaps) else grant g (EnterCommit tables)
step g LeaveCommit = grant g LeaveCommit
step g Finish = grant g Finish
step g (Detach b) = if has g.attached.bits b.number then grant g (Detach b) else refuse g (Seen (view_of g))
step g StartCopy = if nat_lt 0 g.quiet then refuse g (Held g.quiet) else grant g StartCopy
step g AskQuiet = grant g AskQuiet
step g EnterQuiet = if nat_lt 0 (g.snaps + g.live) then refuse g (Held (g.snaps + g.live)) else grant g EnterQuiet
step g (Attach b) = if nat_le 4294967280 g.epoch then refuse g Spent else grant g (Attach b)
step g LeaveQuiet = grant g LeaveQuiet

-- the conditions on the state
abbrev pub MayCall : GateState → GateCall → Type 0
MayCall g Look = Unit {0}
MayCall g EnterSnapshot = Unit {0}
MayCall g LeaveSnapshot = 0 < g.snaps
MayCall g (EnterCommit tables) = g.commits < g.live
MayCall g LeaveCommit = 0 < g.commits
MayCall g Finish = g.commits < g.live
MayCall g (Detach b) = Unit {0}
MayCall g StartCopy = Unit {0}
MayCall g AskQuiet = g.quiet ≡ 1
MayCall g EnterQuiet = g.quiet ≡ 2
MayCall g (Attach b) = (g.quiet ≡ 3) × (has g.attached.bits b.number ≡ false)
MayCall g LeaveQuiet = 0 < g.quiet
