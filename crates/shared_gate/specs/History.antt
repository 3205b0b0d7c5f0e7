-- The one history of the gate: what it replays to, and what a pass knows of it.
use Rattle.std.specs.Prelude.{◌≡◌, ℕ, Bool, true, false, ◌==◌, if◌then◌else◌, List, [], ◌∷◌, ◌++◌, filter, length, nat_lt}
use Rattle.atomic_table.specs.Seated.{TableId}
use Rattle.pool_base.specs.Sets.{has}
use Rattle.pool_base.specs.declared.gate_call.GateCall.{GateCall}
use Rattle.pool_base.specs.declared.gate_call.GateCall.TheVariants.{Look, EnterSnapshot, LeaveSnapshot, EnterCommit, LeaveCommit, Finish, Detach, StartCopy, AskQuiet, EnterQuiet, Attach, LeaveQuiet}
use Rattle.pool_base.specs.declared.gate_call.GateAnswer.{GateAnswer}
use Rattle.pool_base.specs.declared.gate_call.GateAnswer.TheVariants.{Seen, Granted, Held, Spent}
use Rattle.snapshot_gate.specs.declared.state.GateState.{GateState}
use Rattle.shared_gate.specs.declared.history.Entry.{Entry}
use Rattle.shared_gate.specs.declared.history.Knows.{Knows}
use Rattle.snapshot_gate.specs.Function.{step, MayCall, view_of}

abbrev pub entry : ℕ → GateCall → GateAnswer → Entry
entry by call answer = record { by = by; call = call; answer = answer }

-- the state after all calls
abbrev pub state_after : GateState → List Entry → GateState
state_after s [] = s
state_after s (e ∷ es) = state_after (step s e.call).0 es

-- each call met its condition and got the gate's answer
abbrev pub IsReplay : GateState → List Entry → Type 0
IsReplay s [] = Unit {0}
IsReplay s (e ∷ es) = MayCall s e.call × ((step s e.call).1 ≡ e.answer) × IsReplay (step s e.call).0 es

abbrev pub calls_by : ℕ → List Entry → List Entry
calls_by by log = filter (λ e. e.by == by) log

abbrev pub StartsWith : List Entry → List Entry → Type 0
StartsWith log seen = (rest : List Entry) × (log ≡ seen ++ rest)

-- where a session stands, and where a recovery does
pub data Stand : Type 0 where
  Out : Stand
  InSnapshot : Stand
  Live : Stand
  InCommit : Stand

pub data Copy : Type 0 where
  Idle : Copy
  Copying : Copy
  Asked : Copy
  Entered : Copy

abbrev pub is_grant : GateAnswer → Bool
is_grant (Seen view) = false
is_grant (Granted view) = true
is_grant (Held count) = false
is_grant Spent = false

abbrev pub stand_by : Stand → GateCall → Stand
stand_by s EnterSnapshot = InSnapshot
stand_by s LeaveSnapshot = Live
stand_by s (EnterCommit tables) = InCommit
stand_by s LeaveCommit = Out
stand_by s Finish = Out
stand_by s _ = s

abbrev pub copy_by : Copy → GateCall → Copy
copy_by c StartCopy = Copying
copy_by c AskQuiet = Asked
copy_by c EnterQuiet = Entered
copy_by c LeaveQuiet = Idle
copy_by c _ = c

abbrev pub stand_next : Stand → GateCall → GateAnswer → Stand
stand_next s call answer = if is_grant answer then stand_by s call else s

abbrev pub copy_next : Copy → GateCall → GateAnswer → Copy
copy_next c call answer = if is_grant answer then copy_by c call else c

abbrev pub stand_from : Stand → List Entry → Stand
stand_from s [] = s
stand_from s (e ∷ es) = stand_from (stand_next s e.call e.answer) es

abbrev pub copy_from : Copy → List Entry → Copy
copy_from c [] = c
copy_from c (e ∷ es) = copy_from (copy_next c e.call e.answer) es

-- the phase of a pass, counted from its own granted calls
abbrev pub stand_of : List Entry → Stand
stand_of mine = stand_from Out mine

abbrev pub copy_of : List Entry → Copy
copy_of mine = copy_from Idle mine

abbrev pub is_copying : Copy → Bool
is_copying Idle = false
is_copying Copying = true
is_copying Asked = true
is_copying Entered = true

-- the condition of the caller, on its phase and, for Attach, on the state after what it has seen
abbrev pub MayStand : Stand → Copy → GateState → GateCall → Type 0
MayStand s c seen Look = Unit {0}
MayStand s c seen EnterSnapshot = s ≡ Out
MayStand s c seen LeaveSnapshot = s ≡ InSnapshot
MayStand s c seen (EnterCommit tables) = s ≡ Live
MayStand s c seen LeaveCommit = s ≡ InCommit
MayStand s c seen Finish = s ≡ Live
MayStand s c seen (Detach b) = Unit {0}
MayStand s c seen StartCopy = Unit {0}
MayStand s c seen AskQuiet = c ≡ Copying
MayStand s c seen EnterQuiet = c ≡ Asked
MayStand s c seen (Attach b) = (c ≡ Entered) × (has seen.attached.bits b.number ≡ false)
MayStand s c seen LeaveQuiet = is_copying c ≡ true

abbrev pub MayStep : Knows → GateCall → Type 0
MayStep v call = MayStand (stand_of v.mine) (copy_of v.mine) (state_after v.first v.seen) call

-- each caller met its condition, by its own calls before
abbrev pub IsOrderly : GateState → List Entry → List Entry → Type 0
IsOrderly s before [] = Unit {0}
IsOrderly s before (e ∷ es) =
    MayStand (stand_of (calls_by e.by before)) (copy_of (calls_by e.by before)) (state_after s before) e.call × IsOrderly s (before ++ e ∷ []) es

-- a pass of a gate that is open, between its calls
abbrev pub IsAtRest : Knows → Type 0
IsAtRest v = (v.admitted ≡ true) × (v.told ≡ [])

-- the history after a call: it begins with all that the pass had seen, ends with the call, and of this pass it has just its own calls, each once
pub record Extends (v : Knows) (by : ℕ) (call : GateCall) (answer : GateAnswer) (w : Knows) : Type 0 where
  pub first : w.first ≡ v.first
  pub between : List Entry
  pub seen : w.seen ≡ (v.seen ++ between) ++ entry by call answer ∷ []
  pub mine : w.mine ≡ v.mine ++ entry by call answer ∷ []
  pub own : calls_by by w.seen ≡ w.mine
  pub replays : IsReplay w.first w.seen
  pub orderly : IsOrderly w.first [] w.seen

-- the view in an answer is that of the state
abbrev pub Shows : GateAnswer → GateState → Type 0
Shows (Seen view) s = view ≡ view_of s
Shows (Granted view) s = view ≡ view_of s
Shows (Held count) s = Unit {0}
Shows Spent s = Unit {0}

-- a pass that has seen what another has, and has no calls of its own
abbrev pub newcomer : Knows → Knows
newcomer v = record { fresh = false; admitted = true; first = v.first; seen = v.seen; told = []; mine = [] }

abbrev pub longer : List Entry → List Entry → List Entry
longer xs ys = if nat_lt (length xs) (length ys) then ys else xs

-- a pass that takes in what it was told of: the longer of two beginnings of the history, which begins with both
pub record Hears (by : ℕ) (v w : Knows) : Type 0 where
  pub first : w.first ≡ v.first
  pub seen : w.seen ≡ longer v.seen v.told
  pub mine : w.mine ≡ v.mine
  pub this : StartsWith w.seen v.seen
  pub that : StartsWith w.seen v.told
  pub own : calls_by by w.seen ≡ w.mine
  pub replays : IsReplay w.first w.seen
  pub orderly : IsOrderly w.first [] w.seen

-- what contracts see of a pass: its gate, its number, the first state, the beginning of the history that it has seen, and its own calls
pub record Known : Type 0 where
  pub gate : TableId
  pub number : ℕ
  pub first : GateState
  pub seen : List Entry
  pub mine : List Entry

abbrev pub known : TableId → ℕ → Knows → Known
known gate number v = record { gate = gate; number = number; first = v.first; seen = v.seen; mine = v.mine }

-- the condition of the caller
abbrev pub MayMake : Known → GateCall → Type 0
MayMake v call = MayStand (stand_of v.mine) (copy_of v.mine) (state_after v.first v.seen) call

-- in no snapshot, transaction or recovery
abbrev pub IsOut : Known → Type 0
IsOut v = (stand_of v.mine ≡ Out) × (copy_of v.mine ≡ Idle)

-- of one gate, with one number and one first state
abbrev pub IsSame : Known → Known → Type 0
IsSame v w = (w.gate ≡ v.gate) × (w.number ≡ v.number) × (w.first ≡ v.first)

-- the history after a call: it begins with all that the pass had seen, ends with the call, and of this pass it has just its own calls, each once
pub record Made (v : Known) (call : GateCall) (answer : GateAnswer) (w : Known) : Type 0 where
  pub same : IsSame v w
  pub between : List Entry
  pub seen : w.seen ≡ (v.seen ++ between) ++ entry v.number call answer ∷ []
  pub mine : w.mine ≡ v.mine ++ entry v.number call answer ∷ []
  pub own : calls_by v.number w.seen ≡ w.mine
  pub replays : IsReplay w.first w.seen
  pub orderly : IsOrderly w.first [] w.seen

-- the phase after the call, and what its answer shows
pub record Tells (v : Known) (call : GateCall) (answer : GateAnswer) (w : Known) : Type 0 where
  pub stand : stand_of w.mine ≡ stand_next (stand_of v.mine) call answer
  pub copy : copy_of w.mine ≡ copy_next (copy_of v.mine) call answer
  pub shows : Shows answer (state_after w.first w.seen)

-- the pass that took in another: it has seen the longer of the two beginnings of the history, in which the calls of both stand, each once
pub record Joined (v u w : Known) : Type 0 where
  pub same : IsSame v w
  pub seen : w.seen ≡ longer v.seen u.seen
  pub mine : w.mine ≡ v.mine
  pub this : StartsWith w.seen v.seen
  pub that : StartsWith w.seen u.seen
  pub own : calls_by v.number w.seen ≡ v.mine
  pub theirs : calls_by u.number u.seen ≡ u.mine
  pub replays : IsReplay w.first w.seen
  pub orderly : IsOrderly w.first [] w.seen
