-- By induction over the events of a machine: each detachment that may come next has its cause.
use Rattle.std.proofs.Common.{◌≡◌, ◌≢◌, ℕ, ◌+◌, ◌<◌, ◌≤◌, ℤ, Bool, true, false, List, [], ◌∷◌, refl, sym, ◌∙◌, subst, arith, inl, inr}
use Rattle.std.specs.Prelude.{◌++◌, ◌&&◌, ◌==◌, not, if◌then◌else◌, Option, Some, None}
use Rattle.std.proofs.lemmas.Bool.Decides.{eqb_tells}
use Rattle.pool_base.specs.Outside.{Rose}
use Rattle.pool_base.specs.Sets.{has}
use Rattle.pool_base.specs.declared.backend_id.BackendId.{BackendId}
use Rattle.pool_base.specs.declared.backend_set.BackendSet.{BackendSet}
use Rattle.pool_base.specs.declared.session_id.SessionId.{SessionId}
use Rattle.pool_base.specs.declared.gate_call.View.{View}
use Rattle.pool_base.specs.declared.gate_call.GateCall.{GateCall}
use Rattle.pool_base.specs.declared.gate_call.GateCall.TheVariants as calls
use Rattle.pool_base.specs.declared.gate_call.GateAnswer.{GateAnswer}
use Rattle.pool_base.specs.declared.gate_call.GateAnswer.TheVariants.{Seen, Granted, Held, Spent}
use Rattle.backend_trait.specs.declared.answer.Answer.{Answer}
use Rattle.session_orders.specs.declared.order.OrderBody.{OrderBody}
use Rattle.session_orders.specs.declared.order.OrderBody.TheVariants as orders
use Rattle.session_orders.specs.declared.outcome.Tag.TheVariants as tags
use Rattle.session_orders.specs.declared.outcome.Outcome.{Outcome}
use Rattle.session_orders.specs.declared.outcome.Outcome.TheVariants as outcomes
use Rattle.session_machine.specs.declared.status.Status.{Status}
use Rattle.session_machine.specs.declared.status.Status.TheVariants.{Idle, InBlock, Failed}
use Rattle.session_machine.specs.declared.action.Action.TheVariants as actions
use Rattle.session_machine.specs.declared.action.Cause.{Cause}
use Rattle.session_machine.specs.declared.action.Cause.TheVariants.{Fault, Differs}
use Rattle.session_machine.specs.declared.action.SessionEvent.{SessionEvent}
use Rattle.session_machine.specs.declared.action.SessionEvent.TheVariants as events
use Rattle.session_machine.specs.declared.work.Class.{Class}
use Rattle.session_machine.specs.declared.work.Class.TheVariants as classes
use Rattle.session_machine.specs.declared.work.Work.{Work}
use Rattle.session_machine.specs.declared.machine.ReadPolicy.{ReadPolicy}
use Rattle.session_machine.specs.declared.machine.Heard.{Heard}
use Rattle.session_machine.specs.declared.machine.GatePhase.{GatePhase}
use Rattle.session_machine.specs.declared.machine.GatePhase.TheVariants.{Out, InSnapshot, Live, InCommit}
use Rattle.session_machine.specs.declared.machine.Stage.{Stage}
use Rattle.session_machine.specs.declared.machine.Stage.TheVariants.{Opening, Reading, Running, Locking, Inserting, Committing, Closing, RollingBack}
use Rattle.session_machine.specs.declared.machine.Point.{Point}
use Rattle.session_machine.specs.declared.machine.Point.TheVariants.{Resting, EnterDue, LookDue, PostDue, Waiting, LostDue, SplitDue, ChooseDue, ShowDue, LeaveSnapshotDue, UnwindDue, EnterCommitDue, LeaveCommitDue, FinishDue, ReplyDue, EndDue}
use Rattle.session_machine.specs.declared.machine.Session.{Session}
use Rattle.session_machine.specs.declared.machine.Machine.{Machine}
use Rattle.session_machine.specs.Allowed.{MayHappen}
use Rattle.session_machine.specs.Answers.{has_answered, first_other}
use Rattle.session_machine.specs.Classes.{work_in}
use Rattle.session_machine.specs.Rules as rules
use Rattle.session_machine.specs.Rules.{due, primary, with_view, action_at, after, after_at, new_machine, heard_more}
use Rattle.one_copy_model.specs.Chains.{AreBelow, goes_up}
use Rattle.one_copy_model.specs.Statement.{HasCause}
use Rattle.one_copy_model.proofs.Livings.{and_true}
use Rattle.one_copy_laws.proofs.ChainsTaking.{rising_more}
use Rattle.one_copy_laws.specs.Causes.{ShowsNobodyNew, LetsNobodyIn, MayTake, behind_all, DetachesWithCause, AlwaysWithCause}
use Rattle.one_copy_laws.proofs.CausesSteps.{IsOpenTo, IsClimbing, IsNext, IsSplit, HoldsAt, Holds, fresh, refuses, ends, strands, strands_in, splits, other_differs, other_heard, looks, chooses}

-- Orders.

starts_as : (session : Session) (work : Work) (class : Class) → Holds (rules.started_as session work class)
starts_as session work classes.Read = tt
starts_as session work classes.LockingRead = λ up. fresh session
starts_as session work (classes.Write verb) = λ up. fresh session
starts_as session work (classes.SerialInsert table) = λ up. fresh session

enters : (session : Session) (phase : GatePhase) (work : Work) → Holds (rules.entering session phase work)
enters session Out work = tt
enters session InSnapshot work = starts_as session work work.class
enters session (Live changed tables) work = starts_as session work work.class
enters session InCommit work = starts_as session work work.class

states : (session : Session) (moment : ℤ) (o : Option Work) → Holds (rules.stated session moment o)
states session moment None = refuses false session _
states session moment (Some work) = enters (record session { moment = moment }) session.gate work

begins : (session : Session) (moment : ℤ) (status : Status) → Holds (rules.block_begun session moment status)
unfolding rules.block_begun
begins session moment Idle = tt
begins session moment InBlock = tt
begins session moment Failed = tt

commits_at : (session : Session) (phase : GatePhase) (outcome : Outcome) → Holds (rules.committing session phase outcome)
commits_at session Out outcome = tt
commits_at session InSnapshot outcome = tt
commits_at session (Live true tables) outcome = tt
commits_at session (Live false tables) outcome = λ up. fresh session
commits_at session InCommit outcome = tt

commits : (session : Session) (status : Status) → Holds (rules.block_committed session status)
unfolding rules.block_committed
commits session Idle = tt
commits session InBlock = commits_at session session.gate (rules.done_with tags.Commit)
commits session Failed = tt

rolls_at : (session : Session) (phase : GatePhase) → Holds (rules.rolled_back session phase)
rolls_at session Out = tt
rolls_at session InSnapshot = λ up. fresh (rules.idle session)
rolls_at session (Live changed tables) = λ up. fresh (rules.idle session)
rolls_at session InCommit = λ up. fresh (rules.idle session)

rolls : (session : Session) (status : Status) → Holds (rules.block_rolled_back session status)
unfolding rules.block_rolled_back
rolls session Idle = tt
rolls session InBlock = rolls_at session session.gate
rolls session Failed = tt

settles : (session : Session) (status : Status) → Holds (rules.settled session status)
unfolding rules.settled
settles session Idle = commits_at session session.gate outcomes.Settled
settles session InBlock = tt
settles session Failed = tt

leaves_at : (session : Session) (phase : GatePhase) → Holds (rules.leaving session phase)
leaves_at session Out = tt
leaves_at session InSnapshot = λ up. fresh session
leaves_at session (Live changed tables) = λ up. fresh session
leaves_at session InCommit = λ up. fresh session

leaves_in : (session : Session) (stage : Stage) → (goes_up stage ≡ true → IsClimbing session) → Holds (rules.left_in session stage)
leaves_in session (RollingBack ending) climbs = λ up. climbs refl
leaves_in session (Opening work) climbs = leaves_at session session.gate
leaves_in session (Reading work ticket) climbs = leaves_at session session.gate
leaves_in session (Running work) climbs = leaves_at session session.gate
leaves_in session (Locking work table) climbs = leaves_at session session.gate
leaves_in session (Inserting work posted) climbs = leaves_at session session.gate
leaves_in session Committing climbs = leaves_at session session.gate
leaves_in session Closing climbs = leaves_at session session.gate

leaves_lost : (session : Session) (stage : Stage) (b : BackendId) (before more : ℕ) → (goes_up stage ≡ true → IsClimbing session) → Rose before more
    → Holds (rules.left_lost session stage b before more)
leaves_lost session (RollingBack ending) b before more climbs rose = (λ up. climbs refl, rose)
leaves_lost session (Opening work) b before more climbs rose = (λ up. fresh session, rose)
leaves_lost session (Reading work ticket) b before more climbs rose = (λ up. fresh session, rose)
leaves_lost session (Running work) b before more climbs rose = (λ up. fresh session, rose)
leaves_lost session (Locking work table) b before more climbs rose = (λ up. fresh session, rose)
leaves_lost session (Inserting work posted) b before more climbs rose = (λ up. fresh session, rose)
leaves_lost session Committing b before more climbs rose = (λ up. fresh session, rose)
leaves_lost session Closing b before more climbs rose = (λ up. fresh session, rose)

leaves : (session : Session) (point : Point) → HoldsAt session point → Holds (rules.left session point)
unfolding rules.left
leaves session (LookDue stage) h = leaves_in session stage h
leaves session (PostDue stage b) h = leaves_in session stage (λ up. (h up).climbs)
leaves session (Waiting stage b) h = leaves_in session stage (λ up. (h up).climbs)
leaves session (LostDue stage b before more) h = leaves_lost session stage b before more h.0 h.1
leaves session (SplitDue stage best own among more) h = leaves_in session stage (λ up. h.0)
leaves session Resting h = leaves_at session session.gate
leaves session (EnterDue work) h = leaves_at session session.gate
leaves session (ChooseDue work) h = leaves_at session session.gate
leaves session ShowDue h = leaves_at session session.gate
leaves session (LeaveSnapshotDue work) h = leaves_at session session.gate
leaves session (UnwindDue ending) h = tt
leaves session EnterCommitDue h = leaves_at session session.gate
leaves session (LeaveCommitDue ending) h = tt
leaves session (FinishDue ending) h = tt
leaves session (ReplyDue outcome) h = leaves_at session session.gate
leaves session EndDue h = leaves_at session session.gate

orders_hold : (session : Session) (point : Point) (moment : ℤ) (body : OrderBody) → HoldsAt session point → Holds (rules.ordered session point moment body)
unfolding rules.ordered rules.stated_at
orders_hold session point moment (orders.Statement checked) h = states session (rules.moment_at session.status session.gate session.moment moment) (rules.rewritten (rules.moment_at session.status session.gate session.moment moment) (work_in checked))
orders_hold session point moment orders.Begin h = begins session moment session.status
orders_hold session point moment orders.Commit h = commits session session.status
orders_hold session point moment orders.Rollback h = rolls session session.status
orders_hold session point moment orders.Settle h = settles session session.status
orders_hold session point moment orders.ShowNodes h = tt
orders_hold session point moment (orders.Recover b) h = tt
orders_hold session point moment (orders.Refuse code name) h = refuses false session _
orders_hold session point moment orders.Leave h = leaves session point h

-- A view that shows nobody new.

both : (a b : Bool) → a ≡ true → b ≡ true → (a && b) ≡ true
both true b e f = f
both false b e f = absurd (let z : false ≡ true = e in cc)

filled : (h : Heard) (hs : List Heard) → (h ∷ hs) ≢ []
filled h hs e = let z : (h ∷ hs) ≡ [] = e in cc

climbs_on : (session : Session) (view : View) → (session.heard ≢ [] → (b : BackendId) → has view.attached.bits b.number ≡ true → has session.view.attached.bits b.number ≡ true)
    → IsClimbing session → IsClimbing (with_view session view)
climbs_on session view keeps climbs = record { rising = climbs.rising; above = λ k is. by session.heard refl k is }
  where
    by : (hs : List Heard) → session.heard ≡ hs → (k : BackendId) → IsOpenTo (with_view session view) k → AreBelow k.number session.heard
    by [] e k is = subst (AreBelow k.number) (sym e) tt
    by (h ∷ hs) e k is =
        let two = and_true (has view.attached.bits k.number) (not (has_answered session.heard k)) is in
        climbs.above k (both (has session.view.attached.bits k.number) (not (has_answered session.heard k)) (keeps (λ n. filled h hs (sym e ∙ n)) k two.0) two.1)

-- The gate's answers.

looks_at : (session : Session) (stage : Stage) (o : Option BackendId) → (goes_up stage ≡ true → IsClimbing session) → Holds (rules.looked_at session stage o)
looks_at session stage None climbs = strands_in session stage
looks_at session stage (Some b) climbs = looks session stage climbs

snapshot_enters : (session : Session) (work : Work) (o : Option BackendId) → Holds (rules.snapshot_entered session work o)
snapshot_enters session work None = strands session
snapshot_enters session work (Some b) = λ up. fresh session

snapshot_leaves : (session : Session) (work : Work) (o : Option BackendId) → Holds (rules.snapshot_left session work o)
snapshot_leaves session work None = strands session
snapshot_leaves session work (Some b) = starts_as session work work.class

commit_enters : (session : Session) (o : Option BackendId) → Holds (rules.commit_entered session o)
commit_enters session None = tt
commit_enters session (Some b) = λ up. fresh session

first_chooses : (session : Session) (work : Work) (o : Option BackendId) → Holds (rules.first_chosen session work o)
first_chooses session work None = strands session
first_chooses session work (Some b) = chooses (rules.counted_read session) work (rules.ticket_of session session.policy.per_statement)

shows : (session : Session) (o : Option BackendId) → Holds (rules.shown session o)
shows session None = strands session
shows session (Some b) = tt

grants : (session : Session) (point : Point) (view : View) (call : GateCall) → HoldsAt session point → action_at session point ≡ actions.Gate call
    → ShowsNobodyNew (due session point) view → Holds (rules.granted (with_view session view) point)
unfolding rules.granted
grants session (LookDue stage) view call h e keeps =
    looks_at (with_view session view) stage (primary (with_view session view)) (λ up. climbs_on session view (keeps stage refl) (h up))
grants session (PostDue stage b) view call h e keeps = absurd (let z : actions.Post b (rules.request_of stage) ≡ actions.Gate call = e in cc)
grants session (Waiting stage b) view call h e keeps = absurd (let z : actions.WaitFor b ≡ actions.Gate call = e in cc)
grants session (LostDue stage b before more) view call h e keeps = absurd (let z : actions.Detach b (Fault before more) ≡ actions.Gate call = e in cc)
grants session (SplitDue stage best own among more) view call h e keeps = absurd (let z : actions.Detach own.b (Differs best.answer own.answer) ≡ actions.Gate call = e in cc)
grants session Resting view call h e keeps = tt
grants session (EnterDue work) view call h e keeps = snapshot_enters (rules.in_phase (with_view session view) InSnapshot) work (primary (with_view session view))
grants session (ChooseDue work) view call h e keeps = first_chooses (with_view session view) work (primary (with_view session view))
grants session ShowDue view call h e keeps = shows (with_view session view) (primary (with_view session view))
grants session (LeaveSnapshotDue work) view call h e keeps = snapshot_leaves (rules.in_phase (with_view session view) (Live false 0)) work (primary (with_view session view))
grants session (UnwindDue ending) view call h e keeps = tt
grants session EnterCommitDue view call h e keeps = commit_enters (rules.in_phase (with_view session view) InCommit) (primary (with_view session view))
grants session (LeaveCommitDue ending) view call h e keeps = ends (rules.in_phase (with_view session view) Out) ending
grants session (FinishDue ending) view call h e keeps = ends (rules.in_phase (with_view session view) Out) ending
grants session (ReplyDue outcome) view call h e keeps = tt
grants session EndDue view call h e keeps = tt

calls_hold : (session : Session) (point : Point) (call : GateCall) (answer : GateAnswer) → HoldsAt session point → action_at session point ≡ actions.Gate call
    → LetsNobodyIn (due session point) (events.Called call answer) → Holds (rules.called session point answer)
unfolding rules.called
calls_hold session point call (Seen view) h e keeps = grants session point view call h e keeps
calls_hold session point call (Granted view) h e keeps = grants session point view call h e keeps
calls_hold session point call (Held count) h e keeps = h
calls_hold session point call Spent h e keeps = refuses false session _

-- Posts, answers, losses.

posts_on : (session : Session) (stage : Stage) (b : BackendId) → (goes_up stage ≡ true → IsNext session b) → goes_up (rules.stage_posted stage) ≡ true → IsNext session b
posts_on session (Opening work) b h = h
posts_on session (Reading work ticket) b h = h
posts_on session (Running work) b h = h
posts_on session (Locking work table) b h = h
posts_on session (Inserting work posted) b h = h
posts_on session Committing b h = h
posts_on session Closing b h = h
posts_on session (RollingBack ending) b h = h

posts_hold : (session : Session) (point : Point) → HoldsAt session point → Holds (rules.posted session point)
posts_hold session (PostDue stage b) h = posts_on session stage b h
posts_hold session point h = h

not_more : (hs : List Heard) (x : Heard) (k : BackendId) → not (has_answered (hs ++ x ∷ []) k) ≡ true → (not (has_answered hs k) ≡ true) × ((x.b.number == k.number) ≡ false)
not_more [] x k e = by (x.b.number == k.number) refl e
  where
    by : (v : Bool) → (x.b.number == k.number) ≡ v → not (if v then true else false) ≡ true → (true ≡ true) × ((x.b.number == k.number) ≡ false)
    by true is e = absurd (let z : false ≡ true = e in cc)
    by false is e = (refl, is)
not_more (y ∷ hs) x k e = by (y.b.number == k.number) e (not_more hs x k)
  where
    by : (v : Bool) → not (if v then true else has_answered (hs ++ x ∷ []) k) ≡ true
        → (not (has_answered (hs ++ x ∷ []) k) ≡ true → (not (has_answered hs k) ≡ true) × ((x.b.number == k.number) ≡ false))
        → (not (if v then true else has_answered hs k) ≡ true) × ((x.b.number == k.number) ≡ false)
    by true e rest = absurd (let z : false ≡ true = e in cc)
    by false e rest = rest e

apart_of : (a b : ℕ) → (a == b) ≡ false → a ≢ b
apart_of a b e same = elim (eqb_tells a b) [ inl p ↦ (let z : true ≡ false = sym p.0 ∙ e in cc) | inr p ↦ p.1 same ]

below_more : (k : ℕ) (hs : List Heard) (x : Heard) → AreBelow k hs → x.b.number < k → AreBelow k (hs ++ x ∷ [])
below_more k [] x below less = (less, tt)
below_more k (y ∷ hs) x below less = (below.0, below_more k hs x below.1 less)

hears : (session : Session) (b : BackendId) (answer : Answer) → IsNext session b → IsClimbing (heard_more session b answer)
hears session b answer next = record {
  rising = rising_more session.heard b answer next.climbs.rising next.below;
  above = λ k is.
      let x : Heard = record { b = b; answer = answer } in
      let two = and_true (has session.view.attached.bits k.number) (not (has_answered (session.heard ++ x ∷ []) k)) is in
      let old = not_more session.heard x k two.1 in
      let open_k : IsOpenTo session k = both (has session.view.attached.bits k.number) (not (has_answered session.heard k)) two.0 old.0 in
      let low : b.number ≤ k.number = next.least k open_k in
      let other : b.number ≢ k.number = apart_of b.number k.number old.1 in
      below_more k.number session.heard x (next.climbs.above k open_k) (let z : b.number < k.number = omega (arith, low, other) in z);
}

takes_hold : (session : Session) (point : Point) (b : BackendId) (answer : Answer) → HoldsAt session point → action_at session point ≡ actions.WaitFor b
    → Holds (rules.taken session b answer point)
takes_hold session (Waiting stage asked) b answer h e =
    let same : asked ≡ b = (let z : actions.WaitFor asked ≡ actions.WaitFor b = e in cc) in
    λ up. hears session b answer (subst (IsNext session) same (h up))
takes_hold session point b answer h e = h

faults_hold : (session : Session) (point : Point) (before more : ℕ) → HoldsAt session point → Rose before more → Holds (rules.faulted session before more point)
faults_hold session (Waiting stage b) before more h rose = (λ up. (h up).climbs, rose)
faults_hold session point before more h rose = h

loses_one : (session : Session) (stage : Stage) (o : Option BackendId) → (goes_up stage ≡ true → IsClimbing session) → Holds (rules.lost_one session stage o)
loses_one session stage None climbs = strands_in session stage
loses_one session stage (Some b) climbs = climbs

parts : (session : Session) (stage : Stage) (best own : Heard) (among : BackendSet) (more : Bool) (o : Option BackendId) → IsClimbing session
    → IsSplit session best own among → Holds (rules.parted session stage best own among more o)
parts session stage best own among more None climbs was = strands_in session stage
parts session stage best own among more (Some b) climbs was =
    splits false session stage best among more (first_other among.bits best.answer (own.b.number + 1) session.heard) climbs
    (λ mine differs. record {
      holds = was.holds;
      kept_is = was.kept_is;
      own_is = other_heard session.heard climbs.rising among best mine (own.b.number + 1) differs;
      differ = other_differs session.heard climbs.rising among best mine (own.b.number + 1) differs;
    })

split_seen : (session : Session) (view : View) (best own : Heard) (among : BackendSet) → IsSplit session best own among → IsSplit (with_view session view) best own among
split_seen session view best own among was = record { holds = was.holds; kept_is = was.kept_is; own_is = was.own_is; differ = was.differ }

parts_at : (session : Session) (point : Point) (view : View) (b : BackendId) (cause : Cause) → HoldsAt session point → action_at session point ≡ actions.Detach b cause
    → ShowsNobodyNew (due session point) view → Holds (rules.parted_at (with_view session view) point)
parts_at session (LostDue stage at before more) view b cause h e keeps =
    loses_one (with_view session view) stage (primary (with_view session view)) (λ up. climbs_on session view (keeps stage refl) (h.0 up))
parts_at session (SplitDue stage best own among more) view b cause h e keeps =
    parts (with_view session view) stage best own among more (primary (with_view session view)) (climbs_on session view (keeps stage refl) h.0) (split_seen session view best own among h.1)
parts_at session (LookDue stage) view b cause h e keeps = absurd (let z : actions.Gate calls.Look ≡ actions.Detach b cause = e in cc)
parts_at session (PostDue stage at) view b cause h e keeps = absurd (let z : actions.Post at (rules.request_of stage) ≡ actions.Detach b cause = e in cc)
parts_at session (Waiting stage at) view b cause h e keeps = absurd (let z : actions.WaitFor at ≡ actions.Detach b cause = e in cc)
parts_at session point view b cause h e keeps = tt

detaches_hold : (session : Session) (point : Point) (b : BackendId) (cause : Cause) (answer : GateAnswer) → HoldsAt session point
    → action_at session point ≡ actions.Detach b cause → LetsNobodyIn (due session point) (events.Detached b cause answer)
    → Holds (rules.detached session point answer)
unfolding rules.detached
detaches_hold session point b cause (Seen view) h e keeps = parts_at session point view b cause h e keeps
detaches_hold session point b cause (Granted view) h e keeps = parts_at session point view b cause h e keeps
detaches_hold session point b cause (Held count) h e keeps = h
detaches_hold session point b cause Spent h e keeps = h

-- Every event, and the induction.

event_holds : (m : Machine) (event : SessionEvent) → Holds m → MayHappen m event → LetsNobodyIn m event → Holds (after m event)
unfolding after_at
event_holds m (events.Ordered order) h may keeps = orders_hold m.session m.point order.moment order.body h
event_holds m (events.Called call answer) h may keeps = calls_hold m.session m.point call answer h may.0 keeps
event_holds m (events.Posted b request) h may keeps = posts_hold m.session m.point h
event_holds m (events.Taken b answer) h may keeps = takes_hold m.session m.point b answer h may.0
event_holds m (events.Faulted b before more) h may keeps = faults_hold m.session m.point before more h may.1
event_holds m (events.Detached b cause answer) h may keeps = detaches_hold m.session m.point b cause answer h may.0 keeps
event_holds m (events.Swapped b) h may keeps = absurd may
event_holds m (events.Replied outcome status) h may keeps = tt
event_holds m events.Ended h may keeps = tt

cause_at : (m : Machine) (point : Point) → m.point ≡ point → HoldsAt m.session point → (b : BackendId) (cause : Cause)
    → action_at m.session point ≡ actions.Detach b cause → HasCause m b cause
cause_at m (LostDue stage at before more) is h b cause e =
    let z : actions.Detach at (Fault before more) ≡ actions.Detach b cause = e in
    let one : at ≡ b = cc in
    let two : Fault before more ≡ cause = cc in
    subst (λ y. HasCause m y cause) one (subst (HasCause m at) two (record { stage = stage; due = is; rose = h.1 }))
cause_at m (SplitDue stage best own among more) is h b cause e =
    let z : actions.Detach own.b (Differs best.answer own.answer) ≡ actions.Detach b cause = e in
    let one : own.b ≡ b = cc in
    let two : Differs best.answer own.answer ≡ cause = cc in
    subst (λ y. HasCause m y cause) one (subst (HasCause m own.b) two (record {
      stage = stage;
      best = best;
      mine = own;
      among = among;
      goes_on = more;
      due = is;
      holder = h.1.holds;
      kept_is = h.1.kept_is;
      own_is = h.1.own_is;
      differ = h.1.differ;
    }))
cause_at m Resting is h b cause e = absurd (let z : actions.Rest ≡ actions.Detach b cause = e in cc)
cause_at m (PostDue stage at) is h b cause e = absurd (let z : actions.Post at (rules.request_of stage) ≡ actions.Detach b cause = e in cc)
cause_at m (Waiting stage at) is h b cause e = absurd (let z : actions.WaitFor at ≡ actions.Detach b cause = e in cc)
cause_at m (ReplyDue outcome) is h b cause e = absurd (let z : actions.Reply outcome m.session.status ≡ actions.Detach b cause = e in cc)
cause_at m EndDue is h b cause e = absurd (let z : actions.End ≡ actions.Detach b cause = e in cc)
cause_at m (EnterDue work) is h b cause e = absurd (let z : actions.Gate calls.EnterSnapshot ≡ actions.Detach b cause = e in cc)
cause_at m (LookDue stage) is h b cause e = absurd (let z : actions.Gate calls.Look ≡ actions.Detach b cause = e in cc)
cause_at m (ChooseDue work) is h b cause e = absurd (let z : actions.Gate calls.Look ≡ actions.Detach b cause = e in cc)
cause_at m ShowDue is h b cause e = absurd (let z : actions.Gate calls.Look ≡ actions.Detach b cause = e in cc)
cause_at m (LeaveSnapshotDue work) is h b cause e = absurd (let z : actions.Gate calls.LeaveSnapshot ≡ actions.Detach b cause = e in cc)
cause_at m (UnwindDue ending) is h b cause e = absurd (let z : actions.Gate calls.LeaveSnapshot ≡ actions.Detach b cause = e in cc)
cause_at m EnterCommitDue is h b cause e = absurd (let z : actions.Gate (calls.EnterCommit (rules.tables_of m.session.gate)) ≡ actions.Detach b cause = e in cc)
cause_at m (LeaveCommitDue ending) is h b cause e = absurd (let z : actions.Gate calls.LeaveCommit ≡ actions.Detach b cause = e in cc)
cause_at m (FinishDue ending) is h b cause e = absurd (let z : actions.Gate calls.Finish ≡ actions.Detach b cause = e in cc)

from_there : (m : Machine) (es : List SessionEvent) → Holds m → MayTake m es → DetachesWithCause (behind_all m es)
from_there m [] h may = λ b cause answer comes. cause_at m m.point refl h b cause comes.0
from_there m (e ∷ es) h may = from_there (after m e) es (event_holds m e h may.0 may.1) may.2

pub with_cause : (id : SessionId) (policy : ReadPolicy) (es : List SessionEvent) → AlwaysWithCause id policy es
with_cause id policy es = λ may. from_there (new_machine id policy) es tt may
