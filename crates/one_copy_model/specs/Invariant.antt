-- What holds at every moment of every schedule: named facts. "Here" is an attached backend, lost or not; "there" is the single run.
use Rattle.std.specs.Prelude.{◌≡◌, ◌≢◌, ◌⊎◌, ℕ, zero, suc, ◌+◌, ◌<◌, ◌≤◌, ℤ, Bool, true, false, ◌==◌, is_some, if◌then◌else◌, List, [], ◌∷◌, length, codes, Option, Some, None}
use Rattle.std.specs.FinMap as fin
use Rattle.pool_base.specs.Sets.{has}
use Rattle.pool_base.specs.declared.code.Code.{Code}
use Rattle.pool_base.specs.declared.backend_id.BackendId.{BackendId}
use Rattle.pool_base.specs.declared.backend_set.BackendSet.{BackendSet}
use Rattle.schema.specs.declared.catalogue.TableDef.{TableDef}
use Rattle.backend_trait.specs.declared.request.Request.{Request}
use Rattle.backend_trait.specs.declared.request.Request.TheVariants as requests
use Rattle.backend_trait.specs.declared.answer.Answer.{Answer}
use Rattle.backend_trait.specs.declared.answer.Answer.TheVariants as answers
use Rattle.backend_trait.specs.Keys.{Place}
use Rattle.backend_trait.specs.Rows.{no_changes}
use Rattle.backend_trait.specs.Effect.{has_place, Conflicts, table_in}
use Rattle.backend_trait.specs.Store.{Live, Transaction, Absent, Alive, Dead, Pending, Store, WhereLive, drawn_by, held_by, table_lock, is_refusal}
use Rattle.backend_trait.specs.Acts.{MayRefuse, IsOf, IsOutOfMemory, given_of}
use Rattle.session_machine.specs.declared.work.Class.TheVariants as classes
use Rattle.session_machine.specs.declared.work.Work.{Work}
use Rattle.session_orders.specs.declared.outcome.Outcome.{Outcome}
use Rattle.session_machine.specs.declared.action.Cause.{Cause}
use Rattle.session_machine.specs.declared.action.Action.TheVariants as actions
use Rattle.session_machine.specs.declared.machine.GatePhase.{GatePhase}
use Rattle.session_machine.specs.declared.machine.GatePhase.TheVariants as phases
use Rattle.session_machine.specs.declared.machine.Heard.{Heard}
use Rattle.session_machine.specs.declared.machine.Stage.{Stage}
use Rattle.session_machine.specs.declared.machine.Stage.TheVariants.{Opening, Reading, Running, Locking, Inserting, Committing, Closing, RollingBack}
use Rattle.session_machine.specs.declared.machine.Point.{Point}
use Rattle.session_machine.specs.declared.machine.Point.TheVariants.{Resting, EnterDue, Waiting, SplitDue, ChooseDue, ShowDue, LeaveSnapshotDue, UnwindDue, EnterCommitDue, LeaveCommitDue, FinishDue, ReplyDue, EndDue}
use Rattle.session_machine.specs.declared.machine.Machine.{Machine}
use Rattle.session_machine.specs.Rules.{next_action, request_of, commit_outcome}
use Rattle.one_copy_model.specs.declared.deed.Entry.{Entry}
use Rattle.one_copy_model.specs.SingleRun.{store_after, IsRun, is_fall}
use Rattle.one_copy_model.specs.World.{World}
use Rattle.one_copy_model.specs.Places.{asks_of}
use Rattle.one_copy_model.specs.Deaths.{is_live, is_alive, stage_at, heard_from, answer_from}
use Rattle.one_copy_model.specs.declared.event.Event.{Event}
use Rattle.one_copy_model.specs.Tracking.{Told, Tracked, in_commit, single, tracked_after}
use Rattle.one_copy_model.specs.Replies.{given, IsRight}
use Rattle.one_copy_model.specs.Statement.{HasCause}
use Rattle.one_copy_model.specs.Chains.{IsInOrder, IsParting, IsKept, IsHeard, AreShaped, asked_in, is_unposted}
use Rattle.one_copy_model.specs.Orders.{OrderAt, reply_in, is_of_commit, IsClassedAt}
use Rattle.one_copy_model.specs.Standing.{Leaving, Stands, standing_of, leaving_of}

abbrev pub IsHere : World → ℕ → Type 0
IsHere w b = has w.gate.attached.bits b ≡ true

-- The gate's counts.

abbrev pub count_below : (ℕ → Bool) → ℕ → ℕ
count_below p zero = 0
count_below p (suc n) = count_below p n + (if p n then 1 else 0)

abbrev pub in_snapshot : GatePhase → Bool
in_snapshot phases.InSnapshot = true
in_snapshot phase = false

abbrev pub in_transaction : GatePhase → Bool
in_transaction phases.Out = false
in_transaction phases.InSnapshot = false
in_transaction (phases.Live changed tables) = true
in_transaction phases.InCommit = true

pub record Counted (w : World) : Type 0 where
  pub snaps : w.gate.snaps ≡ count_below (λ s. in_snapshot (w.machine s).session.gate) 65
  pub commits : w.gate.commits ≡ count_below (λ s. in_commit (w.machine s).session.gate) 65
  pub live : w.gate.live ≡ count_below (λ s. in_transaction (w.machine s).session.gate) 65
  pub apart : (w.gate.snaps ≡ 0) ⊎ (w.gate.commits ≡ 0)
  pub quiet : w.gate.quiet ≡ 3 → (w.gate.snaps ≡ 0) × (w.gate.live ≡ 0)

-- A number that no session has is at rest everywhere.

abbrev pub IsStranger : ℕ → Type 0
IsStranger s = (s ≡ 0) ⊎ (65 ≤ s)

pub record IsAtRest (t : Tracked) (s : ℕ) : Type 0 where
  pub point : (t.world.machine s).point ≡ Resting
  pub out : (t.world.machine s).session.gate ≡ phases.Out
  pub asks : (b : ℕ) → (t.world.store b).pending s ≡ None
  pub none : (b : ℕ) → (t.world.store b).transaction s ≡ Absent
  pub told : (b : ℕ) → t.world.mail s b ≡ None
  pub none_there : (single t).transaction s ≡ Absent

-- Inside: what is under way fits where the session stands at the gate.

abbrev pub fits_stage : Stage → GatePhase → Bool
fits_stage (Opening work) phase = in_snapshot phase
fits_stage (Reading work ticket) (phases.Live changed tables) = true
fits_stage (Running work) (phases.Live changed tables) = true
fits_stage (Locking work table) (phases.Live changed tables) = true
fits_stage (Inserting work posted) (phases.Live changed tables) = true
fits_stage Committing phase = in_commit phase
fits_stage Closing (phases.Live false tables) = true
fits_stage (RollingBack ending) phases.InSnapshot = true
fits_stage (RollingBack ending) (phases.Live changed tables) = true
fits_stage stage phase = false

abbrev pub fits_point : Point → GatePhase → Bool
fits_point (EnterDue work) phases.Out = true
fits_point (ChooseDue work) (phases.Live changed tables) = true
fits_point (LeaveSnapshotDue work) phase = in_snapshot phase
fits_point (UnwindDue ending) phase = in_snapshot phase
fits_point EnterCommitDue (phases.Live true tables) = true
fits_point (LeaveCommitDue ending) phase = in_commit phase
fits_point (FinishDue ending) (phases.Live changed tables) = true
fits_point EndDue phases.Out = true
fits_point Resting phases.Out = true
fits_point Resting (phases.Live changed tables) = true
fits_point ShowDue phases.Out = true
fits_point ShowDue (phases.Live changed tables) = true
fits_point (ReplyDue outcome) phases.Out = true
fits_point (ReplyDue outcome) (phases.Live changed tables) = true
fits_point point phase = false

abbrev pub FitsPoint : Option Stage → Point → GatePhase → Type 0
FitsPoint (Some stage) point phase = fits_stage stage phase ≡ true
FitsPoint None point phase = fits_point point phase ≡ true

-- The line: what waits at a backend, and an answer that was not taken, are of the request that the session waits for there. A serial
-- insert's run that waits is posted: its first post turns the flag.

pub record IsInLine (m : Machine) (b : ℕ) (request : Request) : Type 0 where
  pub stage : Stage
  pub at : BackendId
  pub waits : m.point ≡ Waiting stage at
  pub number : at.number ≡ b
  pub asks : request ≡ request_of stage
  pub posted : is_unposted stage ≡ false

pub record HasLine (w : World) (s b : ℕ) : Type 0 where
  pub asked : (p : Pending) → (w.store b).lost ≡ false → (w.store b).pending s ≡ Some p → IsInLine (w.machine s) b p.request
  pub untold : (p : Pending) → (w.store b).pending s ≡ Some p → w.mail s b ≡ None
  pub told : (answer : Answer) → w.mail s b ≡ Some answer → (request : Request) × IsInLine (w.machine s) b request × IsOf request answer

-- A store is sound: no two hold what conflicts, what is changed is held, and what is held is not stale.

pub record IsSound (st : Store) : Type 0 where
  pub apart : (s o : ℕ) → s ≢ o → ¬ (Conflicts (held_by (st.transaction s)) (held_by (st.transaction o)))
  pub changed : (s : ℕ) (t : Live) (p : Place) → st.transaction s ≡ Alive t → is_some (fin.get t.changes p) ≡ true → has_place t.held p ≡ true
  pub fresh : (s : ℕ) (t : Live) (p : Place) → st.transaction s ≡ Alive t → has_place t.held p ≡ true → t.stale p ≡ false

-- The single run has no dead transaction: who is refused there has none any more.

abbrev pub is_dead : Transaction → Bool
is_dead Absent = false
is_dead (Alive t) = false
is_dead Dead = true

-- A session leaves here with a change of a place: it has committed that there and not yet here.

pub record Leaves (t : Tracked) (o b : ℕ) (p : Place) : Type 0 where
  pub leaves : standing_of t.world o b ≡ Leaving
  pub last : Live
  pub was : leaving_of t.world.tables o t.history ≡ Alive last
  pub changes : is_some (fin.get last.changes p) ≡ true

-- Stale places, here and there.

pub record KnowsStale (t : Tracked) (s b : ℕ) (l u : Live) (p : Place) : Type 0 where
  pub here : u.stale p ≡ true → (l.stale p ≡ true) ⊎ ((o : ℕ) × Leaves t o b p)
  pub there : l.stale p ≡ true → u.stale p ≡ true

-- What waits there is the statement under way of a live transaction, and nothing else.

abbrev pub asks_at : Stage → Option Request
asks_at (Reading work ticket) = Some (asks_of work)
asks_at (Running work) = Some (asks_of work)
asks_at (Locking work table) = Some (asks_of work)
asks_at (Inserting work posted) = Some (asks_of work)
asks_at stage = None

abbrev pub wants_of : Point → Option Stage → Option Request
wants_of point (Some stage) = asks_at stage
wants_of (ChooseDue work) None = Some (asks_of work)
wants_of point None = None

abbrev pub where_live : Bool → Option Request → Option Request
where_live true asks = asks
where_live false asks = None

abbrev pub request_in : Option Pending → Option Request
request_in None = None
request_in (Some p) = Some p.request

-- The code that a backend has given is one that the single run may give now, or could give at the session's death: its latest deed,
-- which came since the order, when the run had so many entries. A deadlock is told by the mark alone, since marks stay. A snapshot is
-- refused for want of memory alone.

abbrev pub MayRefuseTo : Store → ℕ → Type 0 → Request → Code → Type 0
MayRefuseTo st s crossed requests.TakeSnapshot code = ⊥
MayRefuseTo st s crossed (requests.Run checked) code = WhereLive (st.transaction s) (λ t. MayRefuse crossed t (table_in checked) code (given_of st checked t))
MayRefuseTo st s crossed (requests.Lock table) code = (code.bytes ≡ codes "40P01") × crossed
MayRefuseTo st s crossed requests.Commit code = ⊥
MayRefuseTo st s crossed requests.Rollback code = ⊥
MayRefuseTo st s crossed (requests.ReadSerial table) code = ⊥
MayRefuseTo st s crossed (requests.SetSerial table n) code = ⊥

abbrev pub MayCode : List TableDef → List Entry → ℕ → Code → Type 0
MayCode tables history s code =
    (p : Pending) × ((store_after tables history).pending s ≡ Some p) × MayRefuseTo (store_after tables history) s (p.crossed ≡ true) p.request code

abbrev pub AtDeathIf : List TableDef → Bool → ℕ → Code → ℕ → Entry → List Entry → Type 0 → Type 0
AtDeathIf tables true s code since e history before = (is_fall e.deed ≡ true) × (since ≤ length history) × MayCode tables history s code
AtDeathIf tables false s code since e history before = before

abbrev pub AtDeath : List TableDef → ℕ → Code → ℕ → List Entry → Type 0
AtDeath tables s code since [] = ⊥
AtDeath tables s code since (e ∷ es) = AtDeathIf tables (e.session == s) s code since e es (AtDeath tables s code since es)

-- a serial insert's run comes behind its lock there, which keeps it from a deadlock
abbrev pub MayCodeIn : List TableDef → Stage → ℕ → Code → List Entry → Type 0
MayCodeIn tables (Inserting work posted) s code history = MayRefuseTo (store_after tables history) s ⊥ (requests.Run work.statement) code
MayCodeIn tables stage s code history = MayCode tables history s code

abbrev pub NowOrAtDeath : List TableDef → Stage → ℕ → Code → ℕ → List Entry → Type 0
NowOrAtDeath tables stage s code since history = MayCodeIn tables stage s code history ⊎ AtDeath tables s code since history

abbrev pub HasReason : List TableDef → Stage → ℕ → Code → ℕ → List Entry → Type 0
HasReason tables (Opening work) s code since history = IsOutOfMemory code
HasReason tables (Reading work ticket) s code since history = NowOrAtDeath tables (Reading work ticket) s code since history
HasReason tables (Running work) s code since history = NowOrAtDeath tables (Running work) s code since history
HasReason tables (Locking work table) s code since history = NowOrAtDeath tables (Locking work table) s code since history
HasReason tables (Inserting work posted) s code since history = NowOrAtDeath tables (Inserting work posted) s code since history
HasReason tables Committing s code since history = Unit {0}
HasReason tables Closing s code since history = Unit {0}
HasReason tables (RollingBack ending) s code since history = Unit {0}

-- the answers that may decide, where a backend is attached: one of an attached backend; or the kept one where answers differ, also when
-- its backend has left
abbrev pub Decides : World → ℕ → Answer → Type 0
Decides w s answer = ((b : ℕ) × IsHere w b × (answer_from w s b ≡ Some answer)) ⊎ (IsKept (w.machine s).point answer × ((b : ℕ) × IsHere w b))

-- Serial numbers: where a serial insert under way, whose session is live there, has been answered here, they are those there behind its
-- run, and else those there. One that has died there has had its run there.

abbrev pub inserted_in : Option Stage → Option Answer → Option Work
inserted_in (Some (Inserting work true)) (Some answer) = Some work
inserted_in stage told = None

pub record HasInserted (t : Tracked) (s b table : ℕ) (work : Work) : Type 0 where
  pub live : is_live ((single t).transaction s) ≡ true
  pub inserted : inserted_in (stage_at (t.world.machine s).point) (answer_from t.world s b) ≡ Some work
  pub at : work.class ≡ classes.SerialInsert table

abbrev pub drawn_where : List TableDef → (ℕ → Option ℤ) → Work → Transaction → ℕ → Option ℤ
drawn_where tables next work Absent = next
drawn_where tables next work (Alive t) = drawn_by tables work.statement next
drawn_where tables next work Dead = next

abbrev pub numbers_behind : Store → ℕ → Work → ℕ → Option ℤ
numbers_behind st s work = drawn_where st.tables st.next work (st.transaction s)

-- The lock of a serial insert under way, whose session is live there, is placed there with its run. Until then nobody else who is live
-- there has a serial insert of that table under way, or holds there what the lock conflicts with.

abbrev pub inserting_in : Option Stage → Option Work
inserting_in (Some (Inserting work posted)) = Some work
inserting_in stage = None

pub record Inserts (m : Machine) (table : ℕ) : Type 0 where
  pub work : Work
  pub inserting : inserting_in (stage_at m.point) ≡ Some work
  pub at : work.class ≡ classes.SerialInsert table

pub record HaveLocks (st : Store) (machine : ℕ → Machine) : Type 0 where
  pub alone : (s o table : ℕ) → is_live (st.transaction s) ≡ true → is_live (st.transaction o) ≡ true → Inserts (machine s) table → Inserts (machine o) table
      → s ≡ o
  pub free : (s o table : ℕ) → s ≢ o → is_live (st.transaction s) ≡ true → Inserts (machine s) table
      → ¬ (Conflicts (table_lock table) (held_by (st.transaction o)))

-- An order is under way exactly where the session does not rest.

abbrev pub IsUnderWay : Point → Option Told → Type 0
IsUnderWay Resting told = told ≡ None
IsUnderWay point told = is_some told ≡ true

-- The invariant.

pub record Invariant (t : Tracked) : Type 0 where
  pub few : t.world.gate.attached.bits < 256
  pub tables : (b : ℕ) → (t.world.store b).tables ≡ t.world.tables
  pub counts : Counted t.world
  pub strangers : (s : ℕ) → IsStranger s → IsAtRest t s
  pub inside : (s : ℕ) → FitsPoint (stage_at (t.world.machine s).point) (t.world.machine s).point (t.world.machine s).session.gate
  pub classed : (s : ℕ) → IsClassedAt t.world.tables (t.world.machine s).point
  pub line : (s b : ℕ) → HasLine t.world s b
  pub in_order : (s : ℕ) (stage : Stage) → stage_at (t.world.machine s).point ≡ Some stage
      → IsInOrder t.world.gate.attached.bits (t.world.machine s) stage
  pub heard : (s b : ℕ) (stage : Stage) (answer : Answer) → IsHere t.world b → stage_at (t.world.machine s).point ≡ Some stage
      → answer_from t.world s b ≡ Some answer → IsHeard (single t) s stage answer
  pub parting : (s : ℕ) (stage : Stage) (best own : Heard) (among : BackendSet) (more : Bool)
      → (t.world.machine s).point ≡ SplitDue stage best own among more
      → IsParting t.world.gate.attached.bits (t.world.machine s) best own among more
  pub causes : (s : ℕ) (b : BackendId) (cause : Cause) → next_action (t.world.machine s) ≡ actions.Detach b cause
      → HasCause (t.world.machine s) b cause
  pub stands : (s b : ℕ) → IsHere t.world b
      → Stands (single t) s (leaving_of t.world.tables s t.history) (standing_of t.world s b) ((t.world.store b).transaction s) ((single t).transaction s)
  pub sound : (b : ℕ) → IsHere t.world b → IsSound (t.world.store b)
  pub shaped : (b : ℕ) → AreShaped (t.world.store b)
  pub sound_there : IsSound (single t)
  pub undead : (s : ℕ) → is_dead ((single t).transaction s) ≡ false
  pub stale : (o s : ℕ) (p : Place) (last u : Live) → in_commit (t.world.machine o).session.gate ≡ true
      → leaving_of t.world.tables o t.history ≡ Alive last → is_some (fin.get last.changes p) ≡ true
      → (single t).transaction s ≡ Alive u → u.stale p ≡ true
  pub stale_known : (s b : ℕ) (l u : Live) (p : Place) → IsHere t.world b
      → (t.world.store b).transaction s ≡ Alive l → (single t).transaction s ≡ Alive u → KnowsStale t s b l u p
  pub crossed_there : (s b : ℕ) (p q : Pending) → IsHere t.world b → (t.world.store b).lost ≡ false
      → (t.world.store b).pending s ≡ Some p → (single t).pending s ≡ Some q → p.crossed ≡ true → q.crossed ≡ true
  pub unchanged : (s : ℕ) (u : Live) (tables : ℕ) → (t.world.machine s).session.gate ≡ phases.Live false tables
      → (single t).transaction s ≡ Alive u → u.changes ≡ no_changes
  pub closes : (s b : ℕ) (l : Live) → IsHere t.world b → stage_at (t.world.machine s).point ≡ Some Closing
      → (t.world.store b).transaction s ≡ Alive l → l.changes ≡ no_changes
  pub rows_same : (b : ℕ) (p : Place) → IsHere t.world b → ((o : ℕ) → ¬ (Leaves t o b p))
      → fin.get (t.world.store b).rows p ≡ fin.get (single t).rows p
  pub rows_left : (o b : ℕ) (p : Place) (last : Live) → IsHere t.world b → Leaves t o b p
      → leaving_of t.world.tables o t.history ≡ Alive last → fin.get last.changes p ≡ Some (fin.get (single t).rows p)
  pub numbers : (b table : ℕ) → IsHere t.world b → ((s : ℕ) (work : Work) → ¬ (HasInserted t s b table work))
      → (t.world.store b).next table ≡ (single t).next table
  pub numbers_ahead : (s b table : ℕ) (work : Work) → IsHere t.world b → HasInserted t s b table work
      → (t.world.store b).next table ≡ numbers_behind (single t) s work table
  pub locks : HaveLocks (single t) t.world.machine
  pub alive : (s : ℕ) → is_live ((single t).transaction s) ≡ true → is_alive t.world s ≡ true
  pub reasons : (s : ℕ) (stage : Stage) (told : Told) (code : Code) → stage_at (t.world.machine s).point ≡ Some stage
      → t.orders s ≡ Some told → Decides t.world s (answers.Refused code) → HasReason t.world.tables stage s code told.entries t.history
  pub run : IsRun t.world.tables t.history
  pub posts : (s : ℕ) → request_in ((single t).pending s)
      ≡ where_live (is_live ((single t).transaction s)) (wants_of (t.world.machine s).point (stage_at (t.world.machine s).point))
  pub replies : (s : ℕ) (told : Told) (outcome : Outcome) → t.orders s ≡ Some told
      → reply_in (t.world.machine s).point ≡ Some outcome → IsRight t s told outcome
  pub orders : (s : ℕ) → IsUnderWay (t.world.machine s).point (t.orders s)
  pub order_is : (s : ℕ) (told : Told) → t.orders s ≡ Some told → OrderAt (t.world.machine s).session (t.world.machine s).point told
  pub since : (s : ℕ) (told : Told) → t.orders s ≡ Some told → told.entries ≤ length t.history
  pub commits : (s b : ℕ) (told : Told) → IsHere t.world b → t.orders s ≡ Some told
      → is_of_commit (stage_at (t.world.machine s).point) ≡ true
      → given t s told ≡ Some (commit_outcome (t.world.machine s).session.status)
  pub done_first : (s b : ℕ) (told : Told) → t.orders s ≡ Some told → told.entered ≡ true → IsHere t.world b
      → standing_of t.world s b ≢ Leaving → t.done s b ≡ true

-- Beside it, in schedules in which no backend refuses for want of memory, so that the answers to one request never differ: nobody is
-- crossed at a backend while a lower one is attached, but a serial insert that has its lock; and where a refusal stops the chain it is
-- that of the lowest attached backend, and nobody is asked behind it.

abbrev pub stops : Stage → Bool
stops (Running work) = true
stops (Locking work table) = true
stops stage = false

abbrev pub may_cross : Stage → Bool
may_cross (Reading work ticket) = true
may_cross (Running work) = true
may_cross (Locking work table) = true
may_cross stage = false

pub record AnswersAlike (t : Tracked) : Type 0 where
  pub uncrossed : (s b lower : ℕ) (p : Pending) (stage : Stage) → IsHere t.world b → IsHere t.world lower → lower < b
      → stage_at (t.world.machine s).point ≡ Some stage → may_cross stage ≡ true
      → (t.world.store b).lost ≡ false → (t.world.store b).pending s ≡ Some p → p.crossed ≡ false
  pub lowest : (s b lower : ℕ) (stage : Stage) (code : Code) → IsHere t.world b → IsHere t.world lower
      → stage_at (t.world.machine s).point ≡ Some stage → stops stage ≡ true
      → answer_from t.world s b ≡ Some (answers.Refused code) → b ≤ lower
  pub stopped : (s b c : ℕ) (stage : Stage) (answer : Answer) → IsHere t.world c
      → stage_at (t.world.machine s).point ≡ Some stage → stops stage ≡ true → asked_in (t.world.machine s).point ≡ Some b
      → heard_from (t.world.machine s).session.heard c ≡ Some answer → is_refusal answer ≡ false

-- it holds at every moment of a list of events
abbrev pub AlwaysHolds : Tracked → List Event → Type 0
AlwaysHolds t [] = Invariant t
AlwaysHolds t (e ∷ es) = Invariant t × AlwaysHolds (tracked_after t e) es
