-- Worlds that are alike may take the same events, and lead to worlds that are alike.
use Rattle.std.proofs.Common.{◌≡◌, ◌==◌, ℕ, ℤ, Bool, true, false, List, refl, sym, ap, ◌∙◌, subst}
use Rattle.std.specs.Prelude.{◌↔◌, if◌then◌else◌}
use Rattle.schema.specs.declared.catalogue.TableDef.{TableDef}
use Rattle.session_orders.specs.declared.order.OrderBody.{OrderBody}
use Rattle.session_orders.specs.declared.order.OrderBody.TheVariants as orders
use Rattle.session_machine.specs.declared.action.SessionEvent.{SessionEvent}
use Rattle.session_machine.specs.declared.action.SessionEvent.TheVariants as events
use Rattle.session_machine.specs.declared.machine.Point.{Point}
use Rattle.session_machine.specs.declared.machine.Point.TheVariants.{Resting, EnterDue, LookDue, PostDue, Waiting, LostDue, SplitDue, ChooseDue, ShowDue, LeaveSnapshotDue, UnwindDue, EnterCommitDue, LeaveCommitDue, FinishDue, ReplyDue, EndDue}
use Rattle.session_machine.specs.declared.machine.Session.{Session}
use Rattle.session_machine.specs.declared.machine.Machine.{Machine}
use Rattle.session_machine.specs.Allowed.{MayHappen as MachineMay}
use Rattle.session_machine.specs.Rules.{after as machine_after}
use Rattle.session_engine.specs.Tidying.{bare, tidied_at, tidied}
use Rattle.session_engine.proofs.Tidying.{may_tidied, after_tidied}
use Rattle.one_copy_model.specs.declared.event.Event.{Event}
use Rattle.one_copy_model.specs.declared.event.Event.TheVariants.{Of, Act, Lost}
use Rattle.one_copy_model.specs.World.{World, after, IsOrderable, Lets, MayHappen}
use Rattle.world_program.specs.Alike.{tidy, AreAlike}

-- a tidied session stands at the same point, and is tidied
pub point_is : (s : Session) (p : Point) → (tidied_at s p).point ≡ p
point_is s Resting = refl
point_is s (EnterDue work) = refl
point_is s (LookDue stage) = refl
point_is s (PostDue stage b) = refl
point_is s (Waiting stage b) = refl
point_is s (LostDue stage b before later) = refl
point_is s (SplitDue stage best own among more) = refl
point_is s (ChooseDue work) = refl
point_is s ShowDue = refl
point_is s (LeaveSnapshotDue work) = refl
point_is s (UnwindDue ending) = refl
point_is s EnterCommitDue = refl
point_is s (LeaveCommitDue ending) = refl
point_is s (FinishDue ending) = refl
point_is s (ReplyDue outcome) = refl
point_is s EndDue = refl

twice_at : (s : Session) (p : Point) → tidied (tidied_at s p) ≡ tidied_at s p
twice_at s Resting = refl
twice_at s (EnterDue work) = refl
twice_at s (LookDue stage) = refl
twice_at s (PostDue stage b) = refl
twice_at s (Waiting stage b) = refl
twice_at s (LostDue stage b before later) = refl
twice_at s (SplitDue stage best own among more) = refl
twice_at s (ChooseDue work) = refl
twice_at s ShowDue = refl
twice_at s (LeaveSnapshotDue work) = refl
twice_at s (UnwindDue ending) = refl
twice_at s EnterCommitDue = refl
twice_at s (LeaveCommitDue ending) = refl
twice_at s (FinishDue ending) = refl
twice_at s (ReplyDue outcome) = refl
twice_at s EndDue = refl

twice : (m : Machine) → tidied (tidied m) ≡ tidied m
twice m = twice_at m.session m.point

-- it takes the same orders
module _ (tables : List TableDef) (moment : ℤ) where
  bare_orders : (s : Session) (body : OrderBody) → IsOrderable tables (bare s) moment body ≡ IsOrderable tables s moment body
  bare_orders s (orders.Statement checked) = refl
  bare_orders s orders.Begin = refl
  bare_orders s orders.Commit = refl
  bare_orders s orders.Rollback = refl
  bare_orders s orders.Settle = refl
  bare_orders s orders.ShowNodes = refl
  bare_orders s (orders.Recover b) = refl
  bare_orders s (orders.Refuse code name) = refl
  bare_orders s orders.Leave = refl

  same_orders : (s : Session) (p : Point) (body : OrderBody) → IsOrderable tables (tidied_at s p).session moment body ≡ IsOrderable tables s moment body
  same_orders s Resting body = bare_orders s body
  same_orders s (EnterDue work) body = bare_orders s body
  same_orders s (LookDue stage) body = refl
  same_orders s (PostDue stage b) body = refl
  same_orders s (Waiting stage b) body = refl
  same_orders s (LostDue stage b before later) body = refl
  same_orders s (SplitDue stage best own among more) body = refl
  same_orders s (ChooseDue work) body = bare_orders s body
  same_orders s ShowDue body = bare_orders s body
  same_orders s (LeaveSnapshotDue work) body = bare_orders s body
  same_orders s (UnwindDue ending) body = bare_orders s body
  same_orders s EnterCommitDue body = bare_orders s body
  same_orders s (LeaveCommitDue ending) body = bare_orders s body
  same_orders s (FinishDue ending) body = bare_orders s body
  same_orders s (ReplyDue outcome) body = bare_orders s body
  same_orders s EndDue body = bare_orders s body

cast : {P Q : Type 0} → P ≡ Q → P → Q
cast e p = subst (λ (X : Type 0). X) e p

-- the rest of the world says the same of an event
lets_tidied : (w : World) (s : ℕ) (event : SessionEvent) → MachineMay (w.machine s) event → Lets (tidy w) s event ↔ Lets w s event
lets_tidied w s (events.Ordered order) may =
    let same = same_orders w.tables order.moment (w.machine s).session (w.machine s).point order.body in (cast same, cast (sym same))
lets_tidied w s (events.Called call answer) may = (λ h. h, λ h. h)
lets_tidied w s (events.Posted b request) may = (λ h. h, λ h. h)
lets_tidied w s (events.Taken b answer) may = (λ h. h, λ h. h)
lets_tidied w s (events.Faulted b before later) may = (λ h. h, λ h. h)
lets_tidied w s (events.Detached b cause answer) may = (λ h. h, λ h. h)
lets_tidied w s (events.Swapped b) may = absurd may
lets_tidied w s (events.Replied outcome status) may = (λ h. h, λ h. h)
lets_tidied w s events.Ended may = (λ h. h, λ h. h)

pub may_tidy : (w : World) (e : Event) → MayHappen (tidy w) e ↔ MayHappen w e
may_tidy w (Of s event) =
    let may = may_tidied (w.machine s.number) event in (
      λ h. let m = may.0 h.0 in (m, (lets_tidied w s.number event m).0 h.1),
      λ h. (may.1 h.0, (lets_tidied w s.number event h.0).1 h.1),
    )
may_tidy w (Act s b answer) = (λ h. h, λ h. h)
may_tidy w (Lost b) = (λ h. h, λ h. h)

pub may_alike : (v w : World) (e : Event) → AreAlike v w → MayHappen v e → MayHappen w e
may_alike v w e alike may = (may_tidy w e).0 (subst (λ (x : World). MayHappen x e) alike ((may_tidy v e).1 may))

-- it leads where the session leads
led_at : (t : Bool) (m : Machine) (n : Machine) (event : SessionEvent) → tidied (if t then machine_after (tidied m) event else tidied n) ≡ tidied (if t then machine_after m event else n)
led_at true m n event = after_tidied m event
led_at false m n event = twice n

after_tidy : (w : World) (e : Event) → tidy (after (tidy w) e) ≡ tidy (after w e)
after_tidy w (Of s event) = λ i. record {
  tables = w.tables;
  gate = (after w (Of s event)).gate;
  machine = λ o. led_at (o == s.number) (w.machine s.number) (w.machine o) event i;
  store = (after w (Of s event)).store;
  mail = (after w (Of s event)).mail;
}
after_tidy w (Act s b answer) = λ i. record {
  tables = w.tables;
  gate = w.gate;
  machine = λ o. twice (w.machine o) i;
  store = (after w (Act s b answer)).store;
  mail = (after w (Act s b answer)).mail;
}
after_tidy w (Lost b) = λ i. record {
  tables = w.tables;
  gate = w.gate;
  machine = λ o. twice (w.machine o) i;
  store = (after w (Lost b)).store;
  mail = w.mail;
}

pub after_alike : (v w : World) (e : Event) → AreAlike v w → AreAlike (after v e) (after w e)
after_alike v w e alike = sym (after_tidy v e) ∙ (ap (λ (x : World). tidy (after x e)) alike ∙ after_tidy w e)
