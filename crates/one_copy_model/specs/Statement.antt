-- What is to be proved of schedules: one copy, agreement, acknowledged commits; causes of detachments; blocked sessions.
use Rattle.std.specs.Prelude.{◌≡◌, ◌≢◌, ◌⊎◌, ℕ, ◌+◌, ◌≤◌, ◌<◌, Bool, true, false, if◌then◌else◌, List, Option, Some, None}
use Rattle.pool_base.specs.Outside.{Rose}
use Rattle.pool_base.specs.Sets.{has}
use Rattle.pool_base.specs.declared.backend_id.BackendId.{BackendId}
use Rattle.pool_base.specs.declared.backend_set.BackendSet.{BackendSet}
use Rattle.schema.specs.declared.catalogue.TableDef.{TableDef}
use Rattle.backend_trait.specs.declared.answer.Answer.{Answer}
use Rattle.backend_trait.specs.Effect.{Conflicts}
use Rattle.backend_trait.specs.Store.{Store, held_by}
use Rattle.backend_trait.specs.Acts.{asked_by, WhereSome}
use Rattle.write_path.specs.Kept.{IsHolder}
use Rattle.session_machine.specs.declared.action.Cause.{Cause}
use Rattle.session_machine.specs.declared.action.Cause.TheVariants.{Fault, Differs}
use Rattle.session_machine.specs.declared.machine.ReadPolicy.{ReadPolicy}
use Rattle.session_machine.specs.declared.machine.GatePhase.TheVariants.{InCommit}
use Rattle.session_machine.specs.declared.machine.Heard.{Heard}
use Rattle.session_machine.specs.declared.machine.Stage.{Stage}
use Rattle.session_machine.specs.declared.machine.Stage.TheVariants.{Inserting}
use Rattle.session_machine.specs.declared.machine.Point.TheVariants.{EnterDue, LostDue, SplitDue}
use Rattle.session_machine.specs.declared.machine.Machine.{Machine}
use Rattle.session_machine.specs.declared.work.Work.{Work}
use Rattle.session_machine.specs.Answers.{is_same}
use Rattle.one_copy_model.specs.declared.event.Event.{Event}
use Rattle.one_copy_model.specs.World.{World, first_world, IsSchedule}
use Rattle.one_copy_model.specs.SingleRun.{IsRun}
use Rattle.one_copy_model.specs.Deaths.{stage_at, heard_from}
use Rattle.one_copy_model.specs.Tracking.{Tracked, first_tracked, tracked_all, single, single_run}
use Rattle.one_copy_model.specs.Replies.{RepliesMatch, AllAcknowledged}

-- one copy: the acts at their places are a run of one store, and each reply is its order's answer there
pub record IsOneCopy (tables : List TableDef) (policy : ReadPolicy) (attached : BackendSet) (events : List Event) : Type 0 where
  pub run : IsRun tables (single_run tables policy attached events)
  pub replies : RepliesMatch (first_tracked tables policy attached) events

abbrev pub OneCopy : List TableDef → ReadPolicy → BackendSet → List Event → Type 0
OneCopy tables policy attached events = IsSchedule (first_world tables policy attached) events → IsOneCopy tables policy attached events

-- each acknowledged commit is done by every attached backend
abbrev pub CommitsAreDone : List TableDef → ReadPolicy → BackendSet → List Event → Type 0
CommitsAreDone tables policy attached events =
    IsSchedule (first_world tables policy attached) events → AllAcknowledged (first_tracked tables policy attached) events

-- agreement: where no session is in a commit, every attached store has the committed rows of the single run, and its next serial
-- numbers where no serial insert is under way either
abbrev pub NobodyCommits : World → Type 0
NobodyCommits w = (s : ℕ) → 1 ≤ s → s ≤ 64 → (w.machine s).session.gate ≢ InCommit

abbrev pub IsInserting : Option Stage → Type 0
IsInserting (Some (Inserting work true)) = Unit {0}
IsInserting stage = ⊥

abbrev pub NobodyInserts : World → Type 0
NobodyInserts w = (s : ℕ) → 1 ≤ s → s ≤ 64 → ¬ (IsInserting (stage_at (w.machine s).point))

pub record HasSame (here there : Store) (settled : Type 0) : Type 0 where
  pub rows : here.rows ≡ there.rows
  pub numbers : settled → (table : ℕ) → here.next table ≡ there.next table

abbrev pub ReplicasAgree : Tracked → Type 0
ReplicasAgree t =
    NobodyCommits t.world → (b : ℕ) → has t.world.gate.attached.bits b ≡ true
    → HasSame (t.world.store b) (single t) (NobodyInserts t.world)

abbrev pub AlwaysAgree : List TableDef → ReadPolicy → BackendSet → List Event → Type 0
AlwaysAgree tables policy attached events =
    IsSchedule (first_world tables policy attached) events → ReplicasAgree (tracked_all (first_tracked tables policy attached) events)

-- the cause of a detachment: two counts of a call that shows the loss, the first below the second; or the kept answer and the
-- backend's own, which differ. Kept is the answer of the largest group among the backends in the view with which the chain was
-- judged; of two as large, of the one with the lowest number in it
abbrev pub answers_among : BackendSet → List Heard → ℕ → Option Answer
answers_among among heard b = if has among.bits b then heard_from heard b else None

pub record IsJudged (m : Machine) (b : BackendId) (kept own : Answer) : Type 0 where
  pub stage : Stage
  pub best : Heard
  pub mine : Heard
  pub among : BackendSet
  pub goes_on : Bool
  pub due : m.point ≡ SplitDue stage best mine among goes_on
  pub holder : IsHolder is_same (answers_among among m.session.heard) best.b.number
  pub kept_is : answers_among among m.session.heard best.b.number ≡ Some kept
  pub own_is : answers_among among m.session.heard b.number ≡ Some own
  pub differ : is_same own kept ≡ false

pub record IsLostBy (m : Machine) (b : BackendId) (before more : ℕ) : Type 0 where
  pub stage : Stage
  pub due : m.point ≡ LostDue stage b before more
  pub rose : Rose before more

abbrev pub HasCause : Machine → BackendId → Cause → Type 0
HasCause m b (Fault before more) = IsLostBy m b before more
HasCause m b (Differs kept own) = IsJudged m b kept own

-- a session is blocked: what its request wants in the single run another transaction holds there; or it waits at the gate for
-- the end of a quiet that others with open transactions hold off
abbrev pub WaitsThere : Store → ℕ → Type 0
WaitsThere st s =
    (o : ℕ) × (o ≢ s) × WhereSome (st.pending s) (λ p. Conflicts (asked_by st s p.request) (held_by (st.transaction o)))

abbrev pub IsBlocked : Tracked → ℕ → Type 0
IsBlocked t s =
    WaitsThere (single t) s
    ⊎ ((work : Work) × ((t.world.machine s).point ≡ EnterDue work) × (t.world.gate.quiet ≡ 2) × (0 < t.world.gate.snaps + t.world.gate.live))
