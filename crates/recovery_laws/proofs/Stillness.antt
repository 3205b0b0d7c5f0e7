-- While the quiet is entered nothing is added to the single run.
use Rattle.std.proofs.Common.{◌≡◌, ℕ, Bool, true, false, List, [], refl, ap, subst, ◌∙◌}
use Rattle.std.specs.Prelude.{ℤ, Option, Some, None}
use Rattle.pool_base.specs.declared.code.Code.{Code}
use Rattle.pool_base.specs.declared.gate_call.GateAnswer.{GateAnswer}
use Rattle.pool_base.specs.declared.gate_call.GateAnswer.TheVariants.{Seen, Granted, Held, Spent}
use Rattle.session_orders.specs.declared.order.OrderBody.{OrderBody}
use Rattle.session_orders.specs.declared.order.OrderBody.TheVariants as orders
use Rattle.session_machine.specs.declared.work.Work.{Work}
use Rattle.session_machine.specs.declared.status.Status.{Status}
use Rattle.session_machine.specs.declared.status.Status.TheVariants.{Idle, InBlock, Failed}
use Rattle.session_machine.specs.declared.action.SessionEvent.{SessionEvent}
use Rattle.session_machine.specs.declared.action.SessionEvent.TheVariants as events
use Rattle.session_machine.specs.declared.machine.GatePhase.{GatePhase}
use Rattle.session_machine.specs.declared.machine.GatePhase.TheVariants as phases
use Rattle.session_machine.specs.declared.machine.Session.{Session}
use Rattle.session_machine.specs.declared.machine.Point.{Point}
use Rattle.session_machine.specs.declared.machine.Point.TheVariants.{Resting, EnterDue, LookDue, PostDue, Waiting, LostDue, SplitDue, ChooseDue, ShowDue, LeaveSnapshotDue, UnwindDue, EnterCommitDue, LeaveCommitDue, FinishDue, ReplyDue, EndDue}
use Rattle.session_machine.specs.Classes.{work_in}
use Rattle.session_machine.specs.Rules.{with_view, moment_at, rewritten}
use Rattle.one_copy_model.specs.declared.deed.Deed.{Deed}
use Rattle.one_copy_model.specs.declared.deed.Entry.{Entry}
use Rattle.one_copy_model.specs.declared.event.Event.{Event}
use Rattle.one_copy_model.specs.declared.event.Event.TheVariants.{Of, Act, Lost}
use Rattle.one_copy_model.specs.World.{World, after}
use Rattle.one_copy_model.specs.SingleRun.{store_after}
use Rattle.one_copy_model.specs.Places.{at_commit, at_block_commit, at_settle, at_rollback, at_statement, at_order, at_granted, at_call, at_parted, at_detach, place_of, opening_granted, opening_of, refused_look, refused_parted, refused_opening, code_in}
use Rattle.one_copy_model.specs.Deaths.{is_live, is_alive, stage_at, recorded, fallen}
use Rattle.one_copy_model.specs.Tracking.{Tracked, single, with_code, opened_if, placed, deaths_first, tracked_after}
use Rattle.one_copy_model.specs.Invariant.{Invariant, FitsPoint}
use Rattle.one_copy_model.proofs.LossLaws.{none_fall}
use Rattle.recovery_laws.proofs.Attaching.{calm, fits_out, dead}

-- No order gives a code.

commit_code : (phase : GatePhase) → code_in (at_commit phase) ≡ None
commit_code phases.Out = refl
commit_code phases.InSnapshot = refl
commit_code (phases.Live true tables) = refl
commit_code (phases.Live false tables) = refl
commit_code phases.InCommit = refl

block_code : (status : Status) (phase : GatePhase) → code_in (at_block_commit status phase) ≡ None
block_code Idle phase = refl
block_code InBlock phase = commit_code phase
block_code Failed phase = refl

settle_code : (status : Status) (phase : GatePhase) → code_in (at_settle status phase) ≡ None
settle_code Idle phase = commit_code phase
settle_code InBlock phase = refl
settle_code Failed phase = refl

rollback_code : (status : Status) → code_in (at_rollback status) ≡ None
rollback_code Idle = refl
rollback_code InBlock = refl
rollback_code Failed = refl

statement_code : (work : Option Work) → code_in (at_statement work) ≡ None
statement_code None = refl
statement_code (Some work) = refl

order_code : (session : Session) (moment : ℤ) (body : OrderBody) → code_in (at_order session moment body) ≡ None
order_code session moment (orders.Statement checked) = statement_code (rewritten (moment_at session.status session.gate session.moment moment) (work_in checked))
order_code session moment orders.Begin = refl
order_code session moment orders.Commit = block_code session.status session.gate
order_code session moment orders.Rollback = rollback_code session.status
order_code session moment orders.Settle = settle_code session.status session.gate
order_code session moment orders.ShowNodes = refl
order_code session moment (orders.Recover b) = refl
order_code session moment (orders.Refuse code name) = refl
order_code session moment orders.Leave = refl

-- Nor does a call or a detachment without a chain.

granted_code : (session : Session) (point : Point) → stage_at point ≡ None → code_in (at_granted session point) ≡ None
granted_code session (LookDue stage) calm = absurd (cc)
granted_code session (PostDue stage b) calm = refl
granted_code session (Waiting stage b) calm = refl
granted_code session (LostDue stage b before more) calm = refl
granted_code session (SplitDue stage best own among more) calm = refl
granted_code session Resting calm = refl
granted_code session (EnterDue work) calm = refl
granted_code session (ChooseDue work) calm = refl
granted_code session ShowDue calm = refl
granted_code session (LeaveSnapshotDue work) calm = refl
granted_code session (UnwindDue ending) calm = refl
granted_code session EnterCommitDue calm = refl
granted_code session (LeaveCommitDue ending) calm = refl
granted_code session (FinishDue ending) calm = refl
granted_code session (ReplyDue outcome) calm = refl
granted_code session EndDue calm = refl

call_code : (session : Session) (point : Point) (answer : GateAnswer) → stage_at point ≡ None → code_in (at_call session point answer) ≡ None
call_code session point (Seen view) calm = granted_code (with_view session view) point calm
call_code session point (Granted view) calm = granted_code (with_view session view) point calm
call_code session point (Held count) calm = refl
call_code session point Spent calm = refl

parted_none : (session : Session) (point : Point) → stage_at point ≡ None → at_parted session point ≡ []
parted_none session (SplitDue stage best own among more) calm = absurd (cc)
parted_none session point calm = refl

detach_none : (session : Session) (point : Point) (answer : GateAnswer) → stage_at point ≡ None → at_detach session point answer ≡ []
detach_none session point (Seen view) calm = parted_none (with_view session view) point calm
detach_none session point (Granted view) calm = parted_none (with_view session view) point calm
detach_none session point (Held count) calm = refl
detach_none session point Spent calm = refl

place_code : (session : Session) (point : Point) (event : SessionEvent) → stage_at point ≡ None → code_in (place_of session point event) ≡ None
place_code session point (events.Ordered order) calm = order_code session order.moment order.body
place_code session point (events.Called call answer) calm = call_code session point answer calm
place_code session point (events.Posted b request) calm = refl
place_code session point (events.Taken b answer) calm = refl
place_code session point (events.Faulted b before more) calm = refl
place_code session point (events.Detached b cause answer) calm = ap code_in (detach_none session point answer calm)
place_code session point (events.Swapped b) calm = refl
place_code session point (events.Replied outcome status) calm = refl
place_code session point events.Ended calm = refl

-- No transaction begins.

opening_none : (point : Point) → FitsPoint (stage_at point) point phases.Out → opening_granted point ≡ []
opening_none (LeaveSnapshotDue work) fits = absurd (let z : false ≡ true = fits in cc)
opening_none point fits = refl

opens_not : (point : Point) (event : SessionEvent) → FitsPoint (stage_at point) point phases.Out → opening_of point event ≡ []
opens_not point (events.Called call (Granted view)) fits = opening_none point fits
opens_not point event fits = refl

look_none : (session : Session) (point : Point) → stage_at point ≡ None → refused_look session point ≡ []
look_none session (LookDue stage) calm = absurd (cc)
look_none session point calm = refl

refused_none : (session : Session) (point : Point) → stage_at point ≡ None → refused_parted session point ≡ []
refused_none session (SplitDue stage best own among more) calm = absurd (cc)
refused_none session point calm = refl

refuses_not : (session : Session) (point : Point) (event : SessionEvent) → stage_at point ≡ None → refused_opening session point event ≡ []
refuses_not session point (events.Called call (Seen view)) calm = look_none (with_view session view) point calm
refuses_not session point (events.Detached b cause (Seen view)) calm = refused_none (with_view session view) point calm
refuses_not session point (events.Detached b cause (Granted view)) calm = refused_none (with_view session view) point calm
refuses_not session point (events.Detached b cause (Held count)) calm = refl
refuses_not session point (events.Detached b cause Spent) calm = refl
refuses_not session point event calm = refl

first_none : (w : World) (session : Session) (point : Point) (event : SessionEvent) (history : List Entry) → stage_at point ≡ None
    → deaths_first w event (place_of session point event) history ≡ history
first_none w session point (events.Detached b cause answer) history calm = ap (λ (d : List Deed). deaths_first w (events.Detached b cause answer) d history) (detach_none session point answer calm)
first_none w session point event history calm = refl

opened_none : (alive : Bool) (s : ℕ) (history : List Entry) → opened_if alive s [] history ≡ history
opened_none true s history = refl
opened_none false s history = refl

tables_after : (w : World) (e : Event) → (after w e).tables ≡ w.tables
tables_after w (Of s event) = refl
tables_after w (Act s b answer) = refl
tables_after w (Lost b) = refl

module _ (t : Tracked) (h : Invariant t) (still : t.world.gate.quiet ≡ 3) where
  not_live : (s : ℕ) → is_live ((single t).transaction s) ≡ false
  not_live s = by (is_live ((single t).transaction s)) refl
    where
      by : (v : Bool) → is_live ((single t).transaction s) ≡ v → v ≡ false
      by true e = absurd (dead t h still s e)
      by false e = refl

  -- nobody falls
  pub falls_none : (w : World) → w.tables ≡ t.world.tables → fallen w t.history 65 ≡ t.history
  falls_none w tables =
      none_fall w t.history
      (λ s live. absurd (dead t h still s (subst (λ ts. is_live ((store_after ts t.history).transaction s) ≡ true) tables live))) 65

  placed_none : (w : World) (s : ℕ) (event : SessionEvent) (history : List Entry) → placed false w s (t.world.machine s) event history ≡ history
  placed_none w s event history =
      let m = t.world.machine s in
      ap (λ (d : List Deed). recorded s d (opened_if (is_alive w s) s (opening_of m.point event) (with_code s (code_in (place_of m.session m.point event)) history)))
      (refuses_not m.session m.point event (calm t h still s))
      ∙ ap (λ (d : List Deed). opened_if (is_alive w s) s d (with_code s (code_in (place_of m.session m.point event)) history)) (opens_not m.point event (fits_out t h still s))
      ∙ opened_none (is_alive w s) s (with_code s (code_in (place_of m.session m.point event)) history)
      ∙ ap (λ (c : Option Code). with_code s c history) (place_code m.session m.point event (calm t h still s))

  pub adds_nothing : (e : Event) → (tracked_after t e).history ≡ t.history
  adds_nothing (Of s event) =
      let new = after t.world (Of s event) in
      let m = t.world.machine s.number in
      ap (λ (v : Bool). fallen new (placed v t.world s.number m event (deaths_first new event (place_of m.session m.point event) t.history)) 65) (not_live s.number)
      ∙ ap (λ (g : List Entry). fallen new (placed false t.world s.number m event g) 65) (first_none new m.session m.point event t.history (calm t h still s.number))
      ∙ ap (λ (g : List Entry). fallen new g 65) (placed_none t.world s.number event t.history)
      ∙ falls_none new refl
  adds_nothing (Act s b answer) = falls_none (after t.world (Act s b answer)) refl
  adds_nothing (Lost b) = falls_none (after t.world (Lost b)) refl
