-- What a call of a pass needs.
use Rattle.std.proofs.Common.{◌≡◌, true, refl}
use Rattle.pool_base.specs.declared.gate_call.GateCall.{GateCall}
use Rattle.pool_base.specs.declared.gate_call.GateCall.TheVariants.{Look, EnterSnapshot, LeaveSnapshot, EnterCommit, LeaveCommit, Finish, Detach, StartCopy, AskQuiet, EnterQuiet, Attach, LeaveQuiet}
use Rattle.pool_base.specs.declared.gate_call.GateAnswer.{GateAnswer}
use Rattle.pool_base.specs.declared.gate_call.GateAnswer.TheVariants.{Seen, Granted, Held, Spent}
use Rattle.snapshot_gate.specs.declared.state.GateState.{GateState}
use Rattle.shared_gate.specs.History.{MayStand, Stand, Out, InSnapshot, Live, InCommit, Copy, Idle, copy_next, copy_by}
use Rattle.pool_server.specs.Passes.{may_make}

-- a call that a session may make is one that a pass may make
pub may_stand : (s : Stand) (c : Copy) (g : GateState) (call : GateCall) → may_make s call ≡ true → MayStand s c g call
may_stand s c g Look h = tt
may_stand Out c g EnterSnapshot h = refl
may_stand InSnapshot c g EnterSnapshot h = absurd (cc)
may_stand Live c g EnterSnapshot h = absurd (cc)
may_stand InCommit c g EnterSnapshot h = absurd (cc)
may_stand Out c g LeaveSnapshot h = absurd (cc)
may_stand InSnapshot c g LeaveSnapshot h = refl
may_stand Live c g LeaveSnapshot h = absurd (cc)
may_stand InCommit c g LeaveSnapshot h = absurd (cc)
may_stand Out c g (EnterCommit tables) h = absurd (cc)
may_stand InSnapshot c g (EnterCommit tables) h = absurd (cc)
may_stand Live c g (EnterCommit tables) h = refl
may_stand InCommit c g (EnterCommit tables) h = absurd (cc)
may_stand Out c g LeaveCommit h = absurd (cc)
may_stand InSnapshot c g LeaveCommit h = absurd (cc)
may_stand Live c g LeaveCommit h = absurd (cc)
may_stand InCommit c g LeaveCommit h = refl
may_stand Out c g Finish h = absurd (cc)
may_stand InSnapshot c g Finish h = absurd (cc)
may_stand Live c g Finish h = refl
may_stand InCommit c g Finish h = absurd (cc)
may_stand s c g (Detach b) h = tt
may_stand s c g StartCopy h = absurd (cc)
may_stand s c g AskQuiet h = absurd (cc)
may_stand s c g EnterQuiet h = absurd (cc)
may_stand s c g (Attach b) h = absurd (cc)
may_stand s c g LeaveQuiet h = absurd (cc)

-- such a call is none of a recovery
by_call : (s : Stand) (call : GateCall) → may_make s call ≡ true → copy_by Idle call ≡ Idle
by_call s Look h = refl
by_call s EnterSnapshot h = refl
by_call s LeaveSnapshot h = refl
by_call s (EnterCommit tables) h = refl
by_call s LeaveCommit h = refl
by_call s Finish h = refl
by_call s (Detach b) h = refl
by_call s StartCopy h = absurd (cc)
by_call s AskQuiet h = absurd (cc)
by_call s EnterQuiet h = absurd (cc)
by_call s (Attach b) h = absurd (cc)
by_call s LeaveQuiet h = absurd (cc)

pub stays_idle : (s : Stand) (call : GateCall) (answer : GateAnswer) → may_make s call ≡ true → copy_next Idle call answer ≡ Idle
stays_idle s call (Granted view) h = by_call s call h
stays_idle s call (Seen view) h = refl
stays_idle s call (Held count) h = refl
stays_idle s call Spent h = refl
