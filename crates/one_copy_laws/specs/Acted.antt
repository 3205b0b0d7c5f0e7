-- A world in which one store has answered and has not marked yet what is crossed at it; and what is to be shown of an answer.
use Rattle.std.specs.Prelude.{◌≡◌, ◌≢◌, ◌⊎◌, ℕ, Bool, true, false, if◌then◌else◌, Some, None}
use Rattle.std.specs.FinMap as fin
use Rattle.pool_base.specs.declared.code.Code.{Code}
use Rattle.pool_base.specs.declared.session_id.SessionId.{SessionId}
use Rattle.pool_base.specs.declared.backend_id.BackendId.{BackendId}
use Rattle.backend_trait.specs.declared.answer.Answer.{Answer}
use Rattle.backend_trait.specs.declared.answer.Answer.TheVariants as answers
use Rattle.backend_trait.specs.Keys.{Place}
use Rattle.backend_trait.specs.Rows.{with_at, no_changes}
use Rattle.backend_trait.specs.Store.{Live, Absent, Alive, Store}
use Rattle.backend_trait.specs.Acts.{IsOf}
use Rattle.session_machine.specs.declared.work.Work.{Work}
use Rattle.session_machine.specs.declared.machine.Stage.{Stage}
use Rattle.session_machine.specs.declared.machine.Stage.TheVariants.{Closing}
use Rattle.session_machine.specs.Rules.{request_of}
use Rattle.one_copy_model.specs.World.{with_mail}
use Rattle.one_copy_model.specs.Tracking.{Told, Tracked, single, waits_for_commit}
use Rattle.one_copy_model.specs.Chains.{IsHeard, AreShaped, is_unposted}
use Rattle.one_copy_model.specs.Standing.{Stands, standing_in, standing_of, leaving_of}
use Rattle.one_copy_model.specs.Invariant.{IsHere, IsSound, HasReason, numbers_behind}
use Rattle.one_copy_model.specs.Facts.{Going, Inserted}

-- who has done its commit
abbrev pub done_by_act : Bool → (ℕ → ℕ → Bool) → ℕ → ℕ → ℕ → ℕ → Bool
done_by_act v done s b = if v then with_at done s (with_at (done s) b true) else done

abbrev pub with_answer : Tracked → ℕ → ℕ → Answer → Store → Tracked
with_answer t s b answer x = record {
  world = record {
    tables = t.world.tables;
    gate = t.world.gate;
    machine = t.world.machine;
    store = with_at t.world.store b x;
    mail = with_mail t.world.mail s b (Some answer);
  };
  history = t.history;
  orders = t.orders;
  done = done_by_act (waits_for_commit ((t.world.store b).pending s)) t.done s b;
}

-- what the session that is answered and the others have in a store behind the answer, which waits to be taken
abbrev pub GoingBehind : Tracked → ℕ → ℕ → Answer → ℕ → Place → Type 0
GoingBehind t s b answer o p = Going t.world.tables t.history (t.world.machine o) (with_mail t.world.mail s b (Some answer) o) o b p

abbrev pub InsertedBehind : Tracked → ℕ → ℕ → Answer → ℕ → ℕ → Work → Type 0
InsertedBehind t s b answer o table work = Inserted t.world.tables t.history (t.world.machine o) (with_mail t.world.mail s b (Some answer) o) o b table work

-- what an answer of a store leaves in its own parts, and how those stand to the single run
pub record IsAct (t : Tracked) (s : SessionId) (b : BackendId) (stage : Stage) (answer : Answer) (x : Store) : Type 0 where
  pub tables : x.tables ≡ (t.world.store b.number).tables
  pub lost : x.lost ≡ (t.world.store b.number).lost
  pub pending : x.pending ≡ with_at (t.world.store b.number).pending s.number None
  pub none : (o : ℕ) → o ≢ s.number → (t.world.store b.number).transaction o ≡ Absent → x.transaction o ≡ Absent
  pub form : IsOf (request_of stage) answer
  pub posted : is_unposted stage ≡ false
  pub shaped : AreShaped x
  pub closes : IsHere t.world b.number → (l : Live) → stage ≡ Closing → x.transaction s.number ≡ Alive l → l.changes ≡ no_changes
  pub same_changes : (o : ℕ) (l : Live) → o ≢ s.number → x.transaction o ≡ Alive l
      → (k : Live) × ((t.world.store b.number).transaction o ≡ Alive k) × (k.changes ≡ l.changes)
  pub heard : IsHere t.world b.number → IsHeard (single t) s.number stage answer
  pub stands : IsHere t.world b.number
      → Stands (single t) s.number (leaving_of t.world.tables s.number t.history) (standing_in stage (Some answer)) (x.transaction s.number) ((single t).transaction s.number)
  pub others : IsHere t.world b.number → (o : ℕ) → o ≢ s.number
      → Stands (single t) o (leaving_of t.world.tables o t.history) (standing_of t.world o b.number) (x.transaction o) ((single t).transaction o)
  pub reasons : IsHere t.world b.number → (by : Told) (code : Code) → t.orders s.number ≡ Some by → answer ≡ answers.Refused code
      → HasReason t.world.tables stage s.number code by.entries t.history
  pub sound : IsHere t.world b.number → IsSound x
  pub stale_here : IsHere t.world b.number → (o : ℕ) (l u : Live) (p : Place) → x.transaction o ≡ Alive l → (single t).transaction o ≡ Alive u
      → u.stale p ≡ true → (l.stale p ≡ true) ⊎ ((k : ℕ) × GoingBehind t s.number b.number answer k p)
  pub stale_there : IsHere t.world b.number → (o : ℕ) (l u : Live) (p : Place) → x.transaction o ≡ Alive l → (single t).transaction o ≡ Alive u
      → l.stale p ≡ true → u.stale p ≡ true
  pub rows : IsHere t.world b.number → (p : Place) → ((o : ℕ) → ¬ (GoingBehind t s.number b.number answer o p)) → fin.get x.rows p ≡ fin.get (single t).rows p
  pub numbers : IsHere t.world b.number → (table : ℕ) → ((o : ℕ) (work : Work) → ¬ (InsertedBehind t s.number b.number answer o table work))
      → x.next table ≡ (single t).next table
  pub ahead : IsHere t.world b.number → (o table : ℕ) (work : Work) → InsertedBehind t s.number b.number answer o table work
      → x.next table ≡ numbers_behind (single t) o work table
