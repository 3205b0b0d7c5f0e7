-- The facts of the invariant by the parts that they read: those of one session, and the rest. A step keeps what it does not touch.
use Rattle.std.specs.Prelude.{◌≡◌, ◌≢◌, ◌⊎◌, ℕ, ◌<◌, ◌≤◌, Bool, true, false, List, length, Option, Some, None}
use Rattle.pool_base.specs.Sets.{has}
use Rattle.pool_base.specs.declared.code.Code.{Code}
use Rattle.pool_base.specs.declared.backend_id.BackendId.{BackendId}
use Rattle.pool_base.specs.declared.backend_set.BackendSet.{BackendSet}
use Rattle.schema.specs.declared.catalogue.TableDef.{TableDef}
use Rattle.backend_trait.specs.declared.request.Request.{Request}
use Rattle.backend_trait.specs.declared.answer.Answer.{Answer}
use Rattle.backend_trait.specs.declared.answer.Answer.TheVariants as answers
use Rattle.backend_trait.specs.Rows.{no_changes}
use Rattle.backend_trait.specs.Store.{Live, Absent, Alive, Pending, Store}
use Rattle.backend_trait.specs.Acts.{IsOf}
use Rattle.session_machine.specs.Codes.{moment_out_of_range, counts_spent, no_backend}
use Rattle.session_orders.specs.declared.order.OrderBody.TheVariants as orders
use Rattle.session_orders.specs.declared.outcome.Outcome.{Outcome}
use Rattle.session_orders.specs.declared.outcome.Outcome.TheVariants as outcomes
use Rattle.session_machine.specs.declared.action.Cause.{Cause}
use Rattle.session_machine.specs.declared.action.Action.TheVariants as actions
use Rattle.session_machine.specs.declared.machine.GatePhase.TheVariants as phases
use Rattle.session_machine.specs.declared.machine.Heard.{Heard}
use Rattle.session_machine.specs.declared.machine.Stage.TheVariants.{Closing}
use Rattle.session_machine.specs.declared.machine.Stage.{Stage}
use Rattle.session_machine.specs.declared.machine.Point.TheVariants.{Resting, SplitDue}
use Rattle.session_machine.specs.declared.machine.Machine.{Machine}
use Rattle.session_machine.specs.Rules.{next_action, commit_outcome, error_of}
use Rattle.one_copy_model.specs.declared.deed.Entry.{Entry}
use Rattle.one_copy_model.specs.SingleRun.{store_after, deeds_since}
use Rattle.one_copy_model.specs.Deaths.{stage_at, heard_from, mail_or}
use Rattle.one_copy_model.specs.Tracking.{Told}
use Rattle.one_copy_model.specs.Replies.{reply_to, IsUnwritten}
use Rattle.one_copy_model.specs.Statement.{HasCause}
use Rattle.one_copy_model.specs.Chains.{IsInOrder, IsParting, IsKept, IsHeard}
use Rattle.one_copy_model.specs.Orders.{OrderAt, reply_in, is_of_commit, IsClassedAt}
use Rattle.one_copy_model.specs.Standing.{Standing, Leaving, Stands, standing_by, leaving_of}
use Rattle.one_copy_model.specs.Invariant.{IsStranger, FitsPoint, IsInLine, where_live, wants_of, request_in, HasReason, IsUnderWay}

-- what a backend has answered in the chain under way, and how the transaction stands there
abbrev pub told_by : Machine → (ℕ → Option Answer) → ℕ → Option Answer
told_by m mail b = mail_or (mail b) (heard_from m.session.heard b)

abbrev pub stand : Machine → (ℕ → Option Answer) → ℕ → Standing
stand m mail b = standing_by m.session.gate m.point (stage_at m.point) (told_by m mail b)

abbrev pub IsIn : ℕ → ℕ → Type 0
IsIn attached b = has attached b ≡ true

abbrev pub Speaks : ℕ → Machine → (ℕ → Option Answer) → Answer → Type 0
Speaks attached m mail answer = ((b : ℕ) × IsIn attached b × (told_by m mail b ≡ Some answer)) ⊎ (IsKept m.point answer × ((b : ℕ) × IsIn attached b))

abbrev pub given_by : ℕ → Told → List Entry → Option Outcome
given_by s told history = reply_to told.order.body told.status told.begun (deeds_since s told.entries history)

-- the pool's own reply
pub data IsPools (attached : ℕ) (m : Machine) (told : Told) (live : Bool) (outcome : Outcome) : Type 0 where
  pools_moment : IsUnwritten told told.order.body → live ≡ false → outcome ≡ error_of moment_out_of_range → IsPools attached m told live outcome
  pools_counts : told.spent ≡ true → live ≡ false → outcome ≡ error_of counts_spent → IsPools attached m told live outcome
  pools_backends : ((b : ℕ) → b < 8 → has attached b ≡ false) → live ≡ false → outcome ≡ error_of no_backend → IsPools attached m told live outcome
  pools_refusal : (code : Code) (name : List ℕ) → told.order.body ≡ orders.Refuse code name → live ≡ false → outcome ≡ outcomes.Error code name
      → IsPools attached m told live outcome
  pools_nodes : told.order.body ≡ orders.ShowNodes → outcome ≡ outcomes.Nodes m.session.view.attached → IsPools attached m told live outcome

abbrev pub IsRightBy : ℕ → Machine → Bool → ℕ → List Entry → Told → Outcome → Type 0
IsRightBy attached m live s history told outcome = (given_by s told history ≡ Some outcome) ⊎ IsPools attached m told live outcome

-- a number that no session has is at rest
pub record Rests (tables : List TableDef) (history : List Entry) (here : ℕ → Store) (m : Machine) (mail : ℕ → Option Answer) (s : ℕ) : Type 0 where
  pub point : m.point ≡ Resting
  pub out : m.session.gate ≡ phases.Out
  pub asks : (b : ℕ) → (here b).pending s ≡ None
  pub none : (b : ℕ) → (here b).transaction s ≡ Absent
  pub told : (b : ℕ) → mail b ≡ None
  pub none_there : (store_after tables history).transaction s ≡ Absent

-- what holds of one session: of its machine, its answers that wait, its order and who has done its commit
pub record Own (tables : List TableDef) (attached : ℕ) (history : List Entry) (here : ℕ → Store) (m : Machine) (mail : ℕ → Option Answer) (told : Option Told)
    (done : ℕ → Bool) (live : Bool) (s : ℕ) : Type 0 where
  pub stranger : IsStranger s → Rests tables history here m mail s
  pub inside : FitsPoint (stage_at m.point) m.point m.session.gate
  pub classed : IsClassedAt tables m.point
  pub asked : (b : ℕ) (p : Pending) → (here b).lost ≡ false → (here b).pending s ≡ Some p → IsInLine m b p.request
  pub untold : (b : ℕ) (p : Pending) → (here b).pending s ≡ Some p → mail b ≡ None
  pub answer : (b : ℕ) (answer : Answer) → mail b ≡ Some answer → (request : Request) × IsInLine m b request × IsOf request answer
  pub in_order : (stage : Stage) → stage_at m.point ≡ Some stage → IsInOrder attached m stage
  pub heard : (b : ℕ) (stage : Stage) (answer : Answer) → IsIn attached b → stage_at m.point ≡ Some stage
      → told_by m mail b ≡ Some answer → IsHeard (store_after tables history) s stage answer
  pub parting : (stage : Stage) (best own : Heard) (among : BackendSet) (more : Bool) → m.point ≡ SplitDue stage best own among more
      → IsParting attached m best own among more
  pub causes : (b : BackendId) (cause : Cause) → next_action m ≡ actions.Detach b cause → HasCause m b cause
  pub stands : (b : ℕ) → IsIn attached b
      → Stands (store_after tables history) s (leaving_of tables s history) (stand m mail b) ((here b).transaction s) ((store_after tables history).transaction s)
  pub crossed : (b : ℕ) (p q : Pending) → IsIn attached b → (here b).lost ≡ false → (here b).pending s ≡ Some p
      → (store_after tables history).pending s ≡ Some q → p.crossed ≡ true → q.crossed ≡ true
  pub unchanged : (u : Live) (written : ℕ) → m.session.gate ≡ phases.Live false written → (store_after tables history).transaction s ≡ Alive u → u.changes ≡ no_changes
  pub closes : (b : ℕ) (l : Live) → IsIn attached b → stage_at m.point ≡ Some Closing → (here b).transaction s ≡ Alive l → l.changes ≡ no_changes
  pub reasons : (stage : Stage) (by : Told) (code : Code) → stage_at m.point ≡ Some stage → told ≡ Some by
      → Speaks attached m mail (answers.Refused code) → HasReason tables stage s code by.entries history
  pub posts : request_in ((store_after tables history).pending s) ≡ where_live live (wants_of m.point (stage_at m.point))
  pub replies : (by : Told) (outcome : Outcome) → told ≡ Some by → reply_in m.point ≡ Some outcome → IsRightBy attached m live s history by outcome
  pub orders : IsUnderWay m.point told
  pub order_is : (by : Told) → told ≡ Some by → OrderAt m.session m.point by
  pub since : (by : Told) → told ≡ Some by → by.entries ≤ length history
  pub commits : (b : ℕ) (by : Told) → IsIn attached b → told ≡ Some by → is_of_commit (stage_at m.point) ≡ true
      → given_by s by history ≡ Some (commit_outcome m.session.status)
  pub done_first : (b : ℕ) (by : Told) → told ≡ Some by → by.entered ≡ true → IsIn attached b → stand m mail b ≢ Leaving → done b ≡ true
