-- The order of a statement, by where the session stands at the gate and by the class of the statement.
use Rattle.std.proofs.Common.{◌≡◌, ℕ, Bool, true, false, [], refl, sym, ap, ◌∙◌, subst, inl, inr}
use Rattle.std.specs.Prelude.{Option, Some, None}
use Rattle.pool_base.specs.declared.session_id.SessionId.{SessionId}
use Rattle.backend_trait.specs.declared.answer.Answer.{Answer}
use Rattle.session_machine.specs.declared.action.SessionEvent.TheVariants.{Ordered}
use Rattle.session_machine.specs.declared.work.Work.{Work}
use Rattle.session_orders.specs.declared.order.Order.{Order}
use Rattle.session_orders.specs.declared.order.OrderBody.TheVariants as orders
use Rattle.session_machine.specs.declared.work.Class.{Class}
use Rattle.session_machine.specs.declared.work.Class.TheVariants as classes
use Rattle.session_machine.specs.declared.machine.GatePhase.TheVariants as phases
use Rattle.session_machine.specs.declared.machine.Machine.{Machine}
use Rattle.session_machine.specs.declared.machine.Session.{Session}
use Rattle.session_machine.specs.declared.machine.Stage.{Stage}
use Rattle.session_machine.specs.Rules.{ordered, moment_at, rewritten}
use Rattle.one_copy_model.specs.declared.event.Event.TheVariants.{Of}
use Rattle.one_copy_model.specs.Places.{at_order, at_statement}
use Rattle.one_copy_model.specs.Tracking.{Told, Tracked, tracked_after}
use Rattle.one_copy_model.specs.Orders.{IsStatement, OrderAt, reply_in, is_of_commit, IsClassed, IsClassedAt}
use Rattle.one_copy_model.specs.Chains.{IsInOrder}
use Rattle.one_copy_model.specs.Invariant.{Invariant, FitsPoint, wants_of, inserting_in}
use Rattle.session_machine.specs.Rules.{due, error_of}
use Rattle.session_machine.specs.declared.machine.Point.TheVariants.{Resting, LookDue, EnterDue}
use Rattle.session_machine.specs.declared.machine.Stage.TheVariants.{Running, Locking}
use Rattle.one_copy_model.specs.Standing.{standing_open, standing_in}
use Rattle.one_copy_model.proofs.Beginning.{begun_order}
use Rattle.one_copy_laws.proofs.OrdersOrdering.{its, told_now}
use Rattle.session_machine.specs.Rules.{stated_at, stated}
use Rattle.session_machine.specs.Allowed.{fits}
use Rattle.session_machine.specs.Codes.{moment_out_of_range}
use Rattle.one_copy_model.specs.Replies.{IsUnwritten}
use Rattle.one_copy_model.specs.Own.{pools_moment}
use Rattle.one_copy_laws.proofs.OrdersResting.{RestsIn, phase_is, out_same, rest_goes}
use Rattle.std.proofs.Common.{ℤ}
use Rattle.session_machine.specs.Rules.{entering, started_as}
use Rattle.catalogue.specs.declared.checked.Checked.{Checked}
use Rattle.session_machine.specs.Classes.{work_in}
use Rattle.one_copy_model.specs.World.{IsOrderable}
use Rattle.session_machine.specs.declared.machine.Point.TheVariants.{ChooseDue}
use Rattle.one_copy_model.specs.Places.{asks_of}
use Rattle.one_copy_model.specs.Standing.{same as as_there}
use Rattle.one_copy_model.specs.Orders.{runs_at_once}
use Rattle.one_copy_laws.proofs.OrdersAnswering.{refuses}
use Rattle.one_copy_laws.proofs.OrdersStarting.{starts}
use Rattle.one_copy_laws.proofs.OrdersWritten.{made_classed}

module _ (t : Tracked) (h : Invariant t) (s : SessionId) (order : Order) (rest : (its t s order).point ≡ Resting)
    (checked : Checked) (is : order.body ≡ orders.Statement checked)
    (can : IsOrderable t.world.tables (t.world.machine s.number).session order.moment order.body) where
  abbrev m : Machine
  m = t.world.machine s.number

  abbrev told : Told
  told = told_now t s order

  abbrev attached : ℕ
  attached = t.world.gate.attached.bits

  abbrev Kept : Type 0
  Kept = Invariant (tracked_after t (Of s (Ordered order)))

  -- the moment of its transaction
  abbrev moment : ℤ
  moment = moment_at m.session.status m.session.gate m.session.moment order.moment

  abbrev by_then : Session
  by_then = record m.session { moment = moment }

  goes_to : (found : Option Work) → rewritten moment (work_in checked) ≡ found → ordered m.session m.point order.moment order.body ≡ stated m.session moment found
  unfolding ordered stated_at
  goes_to found e = ap (ordered m.session m.point order.moment) is ∙ ap (stated m.session moment) e

  does_then : (found : Option Work) → rewritten moment (work_in checked) ≡ found → at_order m.session order.moment order.body ≡ at_statement found
  does_then found e = ap (at_order m.session order.moment) is ∙ ap at_statement e

  unwritten : rewritten moment (work_in checked) ≡ None → Kept
  unwritten e =
      refuses t h s order rest (error_of moment_out_of_range) refl (goes_to None e) (does_then None e)
      (λ n x dead. pools_moment (subst (IsUnwritten told) (sym is) e) dead refl)

  module _ (work : Work) (e : rewritten moment (work_in checked) ≡ Some work) where
    classed : IsClassed t.world.tables work
    classed = made_classed t.world.tables moment checked work e (subst (IsOrderable t.world.tables m.session order.moment) is can)

    stated_so : (session : Session) → session.status ≡ m.session.status → IsStatement session told work
    stated_so session same = record { checked = checked; body = is; written = e; status = same }

    enters : m.session.gate ≡ phases.Out → Kept
    enters out =
        rest_goes t h s order rest by_then (EnterDue work) refl refl
        (goes_to (Some work) e ∙ ap (λ g. entering by_then g work) out)
        (out_same t h s order rest (at_order m.session order.moment order.body) out)
        (subst (λ g. FitsPoint None (EnterDue work) g) (sym out) refl) classed refl (λ x. refl) refl refl refl
        (stated_so by_then refl)

    module _ (changed : Bool) (written : ℕ) (at : m.session.gate ≡ phases.Live changed written) where
      abbrev empty : Session
      empty = record by_then { heard = [] }

      to_start : (class : Class) → work.class ≡ class → ordered m.session m.point order.moment order.body ≡ started_as by_then work class
      to_start class c = goes_to (Some work) e ∙ ap (λ g. entering by_then g work) at ∙ ap (started_as by_then work) c

      begins : (stage : Stage) → (fits : FitsPoint (Some stage) (LookDue stage) m.session.gate) → IsClassedAt t.world.tables (LookDue stage)
          → ((told : Option Answer) → told ≡ None → standing_in stage told ≡ as_there)
          → wants_of (LookDue stage) (Some stage) ≡ Some (asks_of work) → reply_in (LookDue stage) ≡ None → OrderAt empty (LookDue stage) told → is_of_commit (Some stage) ≡ false → inserting_in (Some stage) ≡ None
          → ordered m.session m.point order.moment order.body ≡ due empty (LookDue stage) → Kept
      begins stage fits of_class stands wants reply order_at off idle to =
          starts t h s order rest changed written at (due empty (LookDue stage)) work classed refl refl refl fits of_class
          (λ other f. subst (IsInOrder attached (due empty (LookDue stage))) (let same : stage ≡ other = (let x : Some stage ≡ Some other = f in cc) in same) (begun_order attached empty stage stage refl))
          stands wants reply refl order_at off idle to (does_then (Some work) e)

      runs : runs_at_once work.class ≡ true → ordered m.session m.point order.moment order.body ≡ due empty (LookDue (Running work)) → Kept
      runs once to =
          begins (Running work) (subst (λ g. FitsPoint (Some (Running work)) (LookDue (Running work)) g) (sym at) refl) (classed, once)
          (λ x none. ap (standing_in (Running work)) none) refl refl (stated_so empty refl) refl refl to

      starts_in : (class : Class) → work.class ≡ class → Kept
      starts_in classes.Read c =
          starts t h s order rest changed written at (due empty (ChooseDue work)) work classed refl refl refl
          (subst (λ g. FitsPoint None (ChooseDue work) g) (sym at) refl) (classed, c)
          (λ stage f. absurd (let x : None ≡ Some stage = f in cc))
          (λ x none. ap standing_open at) refl refl refl (stated_so empty refl) refl refl
          (to_start classes.Read c) (does_then (Some work) e)
      starts_in classes.LockingRead c = runs (ap runs_at_once c) (to_start classes.LockingRead c)
      starts_in (classes.Write verb) c = runs (ap runs_at_once c) (to_start (classes.Write verb) c)
      starts_in (classes.SerialInsert table) c =
          begins (Locking work table) (subst (λ g. FitsPoint (Some (Locking work table)) (LookDue (Locking work table)) g) (sym at) refl) (classed, c)
          (λ x none. ap (standing_in (Locking work table)) none) refl refl (stated_so empty refl) refl refl
          (to_start (classes.SerialInsert table) c)

    written_in : RestsIn m.session.gate → Kept
    written_in (inl out) = enters out
    written_in (inr (changed, written, at)) = starts_in changed written at work.class refl

  by_moment : (found : Option Work) → rewritten moment (work_in checked) ≡ found → Kept
  by_moment None e = unwritten e
  by_moment (Some work) e = written_in work e (phase_is t h s order rest)

  pub statement_kept : Kept
  statement_kept = by_moment (rewritten moment (work_in checked)) refl
