-- What the single run asks for an order.
use Rattle.std.specs.Prelude.{◌≡◌, ℕ, ℤ, List, [], ◌∷◌, Some}
use Rattle.catalogue.specs.declared.checked.Checked.{Checked}
use Rattle.backend_trait.specs.declared.request.Request.{Request}
use Rattle.backend_trait.specs.declared.request.Request.TheVariants as requests
use Rattle.session_machine.specs.declared.status.Status.{Status}
use Rattle.session_machine.specs.declared.work.Class.TheVariants as classes
use Rattle.session_machine.specs.declared.work.Work.{Work}
use Rattle.session_machine.specs.Classes.{work_in}
use Rattle.session_machine.specs.Rules.{rewritten}
use Rattle.session_orders.specs.declared.order.OrderBody.{OrderBody}
use Rattle.session_orders.specs.declared.order.OrderBody.TheVariants as orders
use Rattle.one_copy_model.specs.declared.deed.Deed.{Deed}
use Rattle.one_copy_model.specs.declared.deed.Deed.TheVariants.{Asks, Gets, Falls}
use Rattle.one_copy_model.specs.SingleRun.{deeds_since}
use Rattle.one_copy_model.specs.Orders.{Commits}
use Rattle.one_copy_model.specs.Tracking.{Told, Tracked}
use Rattle.recovery_laws.specs.declared.step.Step.{Step}
use Rattle.recovery_laws.specs.Pool.{Pool, after}

-- a statement is ordered, and so it is written at its moment
pub record Writes (body : OrderBody) (moment : ℤ) (work : Work) : Type 0 where
  pub checked : Checked
  pub is : body ≡ orders.Statement checked
  pub written : rewritten moment (work_in checked) ≡ Some work

-- for a statement a snapshot, the lock of its table, and itself; for the end of a transaction a COMMIT; for any order a ROLLBACK
abbrev pub AsksFor : OrderBody → Status → ℤ → Request → Type 0
AsksFor body status moment requests.TakeSnapshot = (work : Work) × Writes body moment work
AsksFor body status moment (requests.Run checked) = (work : Work) × Writes body moment work × (checked ≡ work.statement)
AsksFor body status moment (requests.Lock table) = (work : Work) × Writes body moment work × (work.class ≡ classes.SerialInsert table)
AsksFor body status moment requests.Commit = Commits status body
AsksFor body status moment requests.Rollback = Unit {0}
AsksFor body status moment (requests.ReadSerial table) = ⊥
AsksFor body status moment (requests.SetSerial table n) = ⊥

abbrev pub IsFor : OrderBody → Status → ℤ → Deed → Type 0
IsFor body status moment (Asks request) = AsksFor body status moment request
IsFor body status moment (Gets answer) = Unit {0}
IsFor body status moment (Falls code) = Unit {0}

abbrev pub AreFor : OrderBody → Status → ℤ → List Deed → Type 0
AreFor body status moment [] = Unit {0}
AreFor body status moment (deed ∷ deeds) = IsFor body status moment deed × AreFor body status moment deeds

-- all that was asked since for the orders under way
abbrev pub AsksAt : Tracked → Type 0
AsksAt t = (s : ℕ) (told : Told) → t.orders s ≡ Some told → AreFor told.order.body told.status told.moment (deeds_since s told.entries t.history)

-- so it is at each step
abbrev pub AlwaysAsks : Pool → List Step → Type 0
AlwaysAsks p [] = AsksAt p.tracked
AlwaysAsks p (e ∷ es) = AsksAt p.tracked × AlwaysAsks (after p e) es
