-- Which calls a session makes of the gate, by where its pass stands, and which answers cut it off.
use Rattle.std.specs.Prelude.{Bool, true, false, ◌&&◌, nat_eq, if◌then◌else◌}
use Rattle.pool_base.specs.declared.gate_call.GateCall.{GateCall}
use Rattle.pool_base.specs.declared.gate_call.GateCall.TheVariants.{Look, EnterSnapshot, LeaveSnapshot, EnterCommit, LeaveCommit, Finish, Detach, StartCopy, AskQuiet, EnterQuiet, Attach, LeaveQuiet}
use Rattle.pool_base.specs.declared.gate_call.GateAnswer.{GateAnswer}
use Rattle.pool_base.specs.declared.gate_call.GateAnswer.TheVariants.{Seen, Granted, Held, Spent}
use Rattle.shared_gate.specs.History.{Stand, Out, InSnapshot, Live, InCommit, stand_by}
use Rattle.pool_server.specs.declared.footing.Phase.{Phase}
use Rattle.pool_server.specs.declared.footing.Phase.TheVariants as phases

abbrev pub stand_in : Phase → Stand
stand_in phases.Out = Out
stand_in phases.InSnapshot = InSnapshot
stand_in phases.Live = Live
stand_in phases.InCommit = InCommit

abbrev pub is_out : Stand → Bool
is_out Out = true
is_out InSnapshot = false
is_out Live = false
is_out InCommit = false

abbrev pub is_in_snapshot : Stand → Bool
is_in_snapshot Out = false
is_in_snapshot InSnapshot = true
is_in_snapshot Live = false
is_in_snapshot InCommit = false

abbrev pub is_live : Stand → Bool
is_live Out = false
is_live InSnapshot = false
is_live Live = true
is_live InCommit = false

abbrev pub is_in_commit : Stand → Bool
is_in_commit Out = false
is_in_commit InSnapshot = false
is_in_commit Live = false
is_in_commit InCommit = true

-- a call of a session that its pass may make there; the calls of a recovery are no session's
abbrev pub may_make : Stand → GateCall → Bool
may_make stand Look = true
may_make stand EnterSnapshot = is_out stand
may_make stand LeaveSnapshot = is_in_snapshot stand
may_make stand (EnterCommit tables) = is_live stand
may_make stand LeaveCommit = is_in_commit stand
may_make stand Finish = is_live stand
may_make stand (Detach b) = true
may_make stand StartCopy = false
may_make stand AskQuiet = false
may_make stand EnterQuiet = false
may_make stand (Attach b) = false
may_make stand LeaveQuiet = false

-- the calls by which a pass goes out
abbrev pub is_leave : GateCall → Bool
is_leave Look = false
is_leave EnterSnapshot = false
is_leave LeaveSnapshot = true
is_leave (EnterCommit tables) = false
is_leave LeaveCommit = true
is_leave Finish = true
is_leave (Detach b) = false
is_leave StartCopy = false
is_leave AskQuiet = false
is_leave EnterQuiet = false
is_leave (Attach b) = false
is_leave LeaveQuiet = false

-- where a call by which a pass goes out leaves it, if it may be made there
abbrev pub left_by : Stand → GateCall → Stand
left_by stand call = if may_make stand call then stand_by stand call else stand

-- an answer shows that no backend is left
abbrev pub shows_none : GateAnswer → Bool
shows_none (Seen view) = nat_eq view.attached.bits 0
shows_none (Granted view) = nat_eq view.attached.bits 0
shows_none (Held count) = false
shows_none Spent = false

-- .. to a pass that stands in a commit
abbrev pub cuts : Stand → GateAnswer → Bool
cuts stand answer = is_in_commit stand && shows_none answer
