-- An order by the point to which it leads: nothing happens there, the transaction ends there, or a statement is asked there.
use Rattle.std.proofs.Common.{◌≡◌, ℕ, Bool, true, false, List, [], length, refl, sym, ap, ◌∙◌, subst}
use Rattle.std.specs.Prelude.{Option, Some, None, if◌then◌else◌}
use Rattle.pool_base.specs.declared.session_id.SessionId.{SessionId}
use Rattle.backend_trait.specs.Rows.{with_at}
use Rattle.session_machine.specs.declared.action.SessionEvent.TheVariants.{Ordered}
use Rattle.session_machine.specs.declared.work.Work.{Work}
use Rattle.session_orders.specs.declared.order.Order.{Order}
use Rattle.session_orders.specs.declared.order.OrderBody.{OrderBody}
use Rattle.session_orders.specs.declared.order.OrderBody.TheVariants as orders
use Rattle.session_machine.specs.declared.status.Status.{Status}
use Rattle.session_machine.specs.declared.status.Status.TheVariants.{Idle, InBlock, Failed}
use Rattle.session_machine.specs.declared.machine.GatePhase.{GatePhase}
use Rattle.session_machine.specs.declared.machine.GatePhase.TheVariants as phases
use Rattle.session_machine.specs.declared.machine.Machine.{Machine}
use Rattle.session_machine.specs.declared.machine.Session.{Session}
use Rattle.session_machine.specs.Classes.{work_in}
use Rattle.session_machine.specs.Rules.{after_at, ordered, moment_at, rewritten}
use Rattle.one_copy_model.specs.declared.deed.Deed.{Deed}
use Rattle.one_copy_model.specs.declared.deed.Entry.{Entry}
use Rattle.one_copy_model.specs.declared.event.Event.TheVariants.{Of}
use Rattle.one_copy_model.specs.World.{after}
use Rattle.one_copy_model.specs.Places.{at_order, at_statement, at_block_commit, at_commit, at_rollback, at_settle, code_in}
use Rattle.one_copy_model.specs.Deaths.{recorded, fallen, is_alive}
use Rattle.one_copy_model.specs.Tracking.{Told, Tracked, tracked_after, told_at, placed, opened_if, with_code}
use Rattle.one_copy_model.specs.Invariant.{Invariant}
use Rattle.one_copy_model.proofs.Turning.{live_there}
use Rattle.one_copy_model.proofs.Landing.{lands}

pub only : (P : Told → Type 0) (told : Told) → P told → (is : Told) → Some told ≡ Some is → P is
only P told h is e = subst P (let same : told ≡ is = cc in same) h

commit_codes : (phase : GatePhase) → code_in (at_commit phase) ≡ None
commit_codes phases.Out = refl
commit_codes phases.InSnapshot = refl
commit_codes (phases.Live true written) = refl
commit_codes (phases.Live false written) = refl
commit_codes phases.InCommit = refl

block_codes : (status : Status) (phase : GatePhase) → code_in (at_block_commit status phase) ≡ None
block_codes Idle phase = refl
block_codes InBlock phase = commit_codes phase
block_codes Failed phase = refl

settle_codes : (status : Status) (phase : GatePhase) → code_in (at_settle status phase) ≡ None
settle_codes Idle phase = commit_codes phase
settle_codes InBlock phase = refl
settle_codes Failed phase = refl

rollback_codes : (status : Status) → code_in (at_rollback status) ≡ None
rollback_codes Idle = refl
rollback_codes InBlock = refl
rollback_codes Failed = refl

statement_codes : (work : Option Work) → code_in (at_statement work) ≡ None
statement_codes None = refl
statement_codes (Some work) = refl

-- an order takes no code
codes_none : (order : Order) (session : Session) → (body : OrderBody) → code_in (at_order session order.moment body) ≡ None
codes_none order session (orders.Statement checked) = statement_codes (rewritten (moment_at session.status session.gate session.moment order.moment) (work_in checked))
codes_none order session orders.Begin = refl
codes_none order session orders.Commit = block_codes session.status session.gate
codes_none order session orders.Rollback = rollback_codes session.status
codes_none order session orders.Settle = settle_codes session.status session.gate
codes_none order session orders.ShowNodes = refl
codes_none order session (orders.Recover b) = refl
codes_none order session (orders.Refuse code name) = refl
codes_none order session orders.Leave = refl

abbrev pub if_live : Bool → ℕ → List Deed → List Entry → List Entry
if_live live s deeds history = if live then recorded s deeds history else history

opens_nothing : (alive : Bool) (s : ℕ) (history : List Entry) → opened_if alive s [] history ≡ history
opens_nothing true s history = refl
opens_nothing false s history = refl

pub if_none : (live : Bool) (s : ℕ) (history : List Entry) → if_live live s [] history ≡ history
if_none true s history = refl
if_none false s history = refl

module _ (t : Tracked) (s : SessionId) (order : Order) where
  abbrev pub its : Machine
  its = t.world.machine s.number

  abbrev pub told_now : Told
  told_now = told_at its.session order (length t.history)

  placed_is : (live : Bool) → placed live t.world s.number its (Ordered order) t.history ≡ if_live live s.number (at_order its.session order.moment order.body) t.history
  placed_is true = refl
  placed_is false =
      opens_nothing (is_alive t.world s.number) s.number (with_code s.number (code_in (at_order its.session order.moment order.body)) t.history)
      ∙ ap (λ c. with_code s.number c t.history) (codes_none order its.session order.body)

  abbrev pub ordered_to : Machine → List Entry → Tracked
  ordered_to n mid = record {
    world = record { tables = t.world.tables; gate = t.world.gate; machine = with_at t.world.machine s.number n; store = t.world.store; mail = t.world.mail };
    history = mid;
    orders = with_at t.orders s.number (Some told_now);
    done = with_at t.done s.number (t.done s.number);
  }

  pub lands_order : (n : Machine) (mid : List Entry) → ordered its.session its.point order.moment order.body ≡ n
      → if_live (live_there t s.number) s.number (at_order its.session order.moment order.body) t.history ≡ mid
      → Invariant (ordered_to n mid) → Invariant (tracked_after t (Of s (Ordered order)))
  unfolding after_at
  lands_order n mid to is holds =
      lands t (Of s (Ordered order)) mid
      (ap (λ (x : List Entry). fallen (after t.world (Of s (Ordered order))) x 65) (placed_is (live_there t s.number) ∙ is))
      (subst (λ (x : Machine). Invariant (ordered_to x mid)) (sym to) holds)
