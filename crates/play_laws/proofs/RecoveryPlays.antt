-- What takes place in a play with recoveries is a list of steps of the world with them.
use Rattle.std.proofs.Common.{◌≡◌, ◌<◌, ℕ, List, [], ◌∷◌, length, refl, sym, ap, ◌∙◌, subst, true, inl}
use Rattle.pool_base.specs.declared.backend_set.BackendSet.{BackendSet}
use Rattle.pool_base.specs.declared.session_id.SessionId.{SessionId}
use Rattle.pool_base.specs.declared.gate_call.GateCall.TheVariants as calls
use Rattle.schema.specs.declared.catalogue.TableDef.{TableDef}
use Rattle.schema.specs.Allowed.{AreAllowed}
use Rattle.backend_trait.specs.Store.{Store}
use Rattle.session_machine.specs.declared.action.SessionEvent.{SessionEvent}
use Rattle.session_machine.specs.declared.action.SessionEvent.TheVariants as events
use Rattle.session_machine.specs.declared.machine.Session.{Session}
use Rattle.session_machine.specs.declared.machine.ReadPolicy.{ReadPolicy}
use Rattle.session_machine.specs.Rules.{new_machine}
use Rattle.session_engine.specs.Tidying.{tidied}
use Rattle.session_seat.specs.Shared.{first_shared}
use Rattle.online_recovery.specs.declared.layout.Layout.{Layout}
use Rattle.online_recovery.specs.State.{new_standing}
use Rattle.online_recovery.specs.Runs.{Phase}
use Rattle.one_copy_model.specs.declared.event.Event.TheVariants.{Of as OfSession, Act, Lost}
use Rattle.one_copy_model.specs.World.{GateGives, IsPending, IsOrderable}
use Rattle.one_copy_laws.proofs.InductionCalls.{call_met}
use Rattle.play_laws.proofs.Orders.{can_order}
use Rattle.recovery_laws.specs.declared.step.Step.{Step}
use Rattle.recovery_laws.specs.declared.step.Step.TheVariants.{Serve, Recover, Answer as AnswersTo}
use Rattle.recovery_laws.specs.Pool.{Pool, first_pool, world_of, after, MayStep}
use Rattle.recovery_laws.specs.Phases.{phases_after, all_outside, MeetsAt}
use Rattle.recovery_laws.specs.Steps.{IsFit}
use Rattle.recovery_laws.proofs.Stepping.{Holds, first_holds}
use Rattle.recovery_seat.specs.Schedule.{Entry, Of, Recovers, Loses, State, first_state, lines, Moved, Proceeds, Comes, IsSchedule}
use Rattle.play_laws.specs.RecoveryFollowing.{served_before, recovered_before, put_before, steps_of}
use Rattle.play_laws.proofs.Courses.{new_tidy}
use Rattle.play_laws.proofs.Gates.{are_small, gives_own, gone_own}
use Rattle.play_laws.proofs.Room.{Room, rest_room, has_room}
use Rattle.play_laws.proofs.Going.{Goes, HasRoom, Ends, GoesOn, one_step, two_steps, itself}
use Rattle.play_laws.proofs.Serving.{gives, may_move, plain_may, plain_goes, post_may, post_goes, loss_may, loss_goes, wait_due}
use Rattle.play_laws.proofs.Taking.{act_may, take_may, take_goes}
use Rattle.play_laws.proofs.Moving.{does_meet, order_may, order_goes, called_may, called_goes}
use Rattle.play_laws.proofs.Ending.{ask_may, ask_goes, fault_may, fault_goes, reply_may, reply_goes}
use Rattle.play_laws.proofs.Swapping.{detach_may, detach_goes, swap_may, swap_goes}
use Rattle.play_laws.proofs.Telling.{tell_may, hear_may, hear_goes}

module _ (K : Pool → (ℕ → Phase) → List Step → Type 0)
    (fit : (p : Pool) (phases : ℕ → Phase) (e : Step) (es : List Step) → Holds p phases → K p phases (e ∷ es) → MayStep p e → MeetsAt phases e → IsFit p e × K (after p e) (phases_after phases e) es)
    (tables : List TableDef) (last : State) where
  module _ (old new : State) (p : Pool) (phases : ℕ → Phase) (g : Goes tables old p phases) (rest : List Step) (go : GoesOn K fit tables last new rest) where
    -- one event of a session that is one step
    plain : (s : SessionId) (event : SessionEvent) → MayStep p (Serve (OfSession s event)) → (Holds (after p (Serve (OfSession s event))) phases → Goes tables new (after p (Serve (OfSession s event))) phases)
        → K p phases (Serve (OfSession s event) ∷ rest) → Ends K fit tables last p phases (Serve (OfSession s event) ∷ rest)
    plain s event may goes known = one_step K fit tables last p phases (Serve (OfSession s event)) rest new g.holds may tt goes go known

    served : AreAllowed tables → HasRoom old → (s : SessionId) (event : SessionEvent) → Moved tables s old event new → K p phases (served_before s event rest)
        → Ends K fit tables last p phases (served_before s event rest)
    served allowed room s (events.Ordered order) h known =
        let event = events.Ordered order in
        let session : Session = ((world_of p).machine s.number).session in
        let allows = subst (λ (ts : List TableDef). IsOrderable ts session order.moment order.body) (sym g.follows.catalogue) (can_order tables session order.moment order.body allowed h.moves.serves.0) in
        plain s event (plain_may tables old new p phases g s event h tt tt allows h.moves.serves.1 refl refl) (plain_goes tables old new p phases g s event h tt tt allows h.moves.serves.1 refl refl) known
    served allowed room s (events.Called call answer) h known =
        let event = events.Called call answer in
        let lets = gives p.gate old.shared.gate new.shared.gate call answer g.follows.gate h.moves.answered.0 h.moves.answered.1 in
        let may = may_move tables old new p phases g s event h in
        let few = subst (λ k. k.done < 4611686018427387904) (sym g.follows.gate) room in
        let small = are_small (world_of p) p.gate phases g.holds.counts g.holds.invariant.counts few in
        let allows : GateGives (world_of p).gate call answer = (call_met p.tracked s call g.holds.invariant may.0, gives_own p.gate (world_of p).gate g.holds.counts.same small call answer may.1 lets.1) in
        plain s event (plain_may tables old new p phases g s event h tt lets allows h.moves.serves refl refl) (plain_goes tables old new p phases g s event h tt lets allows h.moves.serves refl refl) known
    served allowed room s (events.Posted b request) h known =
        plain s (events.Posted b request) (post_may tables old new p phases g s b request h) (post_goes tables old new p phases g s b request h) known
    served allowed room s (events.Taken b answer) h known =
        two_steps K fit tables last p phases (Serve (Act s b answer)) (Serve (OfSession s (events.Taken b answer))) rest new g.holds
        (act_may tables old new p phases g s b answer h) tt (take_may tables old new p phases g s b answer h) tt (take_goes tables old new p phases g s b answer h) go known
    served allowed room s (events.Faulted b before later) h known =
        let event = events.Faulted b before later in
        let w = world_of p in
        let due = wait_due (w.machine s.number).session (w.machine s.number).point b (may_move tables old new p phases g s event h).0 in
        let allows : ((w.store b.number).lost ≡ true) × IsPending (w.store b.number) s.number = (sym (ap (λ (st : Store). st.lost) (g.follows.stores b.number).same) ∙ h.moves.serves.0, g.facts.waits s.number due.0 b due.1) in
        plain s event (plain_may tables old new p phases g s event h tt tt allows h.moves.serves.1.1 refl refl) (plain_goes tables old new p phases g s event h tt tt allows h.moves.serves.1.1 refl refl) known
    served allowed room s (events.Detached b cause answer) h known =
        let event = events.Detached b cause answer in
        let lets = gives p.gate old.shared.gate new.shared.gate (calls.Detach b) answer g.follows.gate tt h.moves.answered in
        let allows : GateGives (world_of p).gate (calls.Detach b) answer = (tt, gone_own p.gate (world_of p).gate b answer g.holds.counts.same lets.1) in
        plain s event (plain_may tables old new p phases g s event h tt lets allows h.moves.serves refl refl) (plain_goes tables old new p phases g s event h tt lets allows h.moves.serves refl refl) known
    served allowed room s (events.Swapped b) h known = absurd h.moves.may
    served allowed room s (events.Replied outcome status) h known =
        let event = events.Replied outcome status in
        plain s event (plain_may tables old new p phases g s event h tt tt tt h.moves.serves refl refl) (plain_goes tables old new p phases g s event h tt tt tt h.moves.serves refl refl) known
    served allowed room s events.Ended h known =
        plain s events.Ended (plain_may tables old new p phases g s events.Ended h tt tt tt h.moves.serves refl refl) (plain_goes tables old new p phases g s events.Ended h tt tt tt h.moves.serves refl refl) known

    -- one of a recovery
    moved : (s : SessionId) (event : SessionEvent) → Proceeds tables s old event new → MayStep p (Recover s event)
        → ((behind : ℕ → Phase) → Holds (after p (Recover s event)) behind → Goes tables new (after p (Recover s event)) behind) → K p phases (Recover s event ∷ rest)
        → Ends K fit tables last p phases (Recover s event ∷ rest)
    moved s event h may goes known =
        one_step K fit tables last p phases (Recover s event) rest new g.holds may (does_meet tables old new p phases g s event may.0) (goes (phases_after phases (Recover s event))) go known

    recovered : (s : SessionId) (event : SessionEvent) → Proceeds tables s old event new → K p phases (recovered_before s event rest) → Ends K fit tables last p phases (recovered_before s event rest)
    recovered s (events.Ordered order) h known =
        moved s (events.Ordered order) h (order_may tables old new p phases g s order h) (order_goes tables old new p phases g s order h) known
    recovered s (events.Called call answer) h known =
        moved s (events.Called call answer) h (called_may tables old new p phases g s call answer h) (called_goes tables old new p phases g s call answer h) known
    recovered s (events.Posted b request) h known =
        moved s (events.Posted b request) h (ask_may tables old new p phases g s b request h) (ask_goes tables old new p phases g s b request h) known
    recovered s (events.Taken b answer) h known =
        two_steps K fit tables last p phases (AnswersTo s b answer) (Recover s (events.Taken b answer)) rest new g.holds
        (tell_may tables old new p phases g s b answer h) tt (hear_may tables old new p phases g s b answer h) tt
        (hear_goes tables old new p phases g s b answer h (phases_after (phases_after phases (AnswersTo s b answer)) (Recover s (events.Taken b answer)))) go known
    recovered s (events.Faulted b before later) h known =
        moved s (events.Faulted b before later) h (fault_may tables old new p phases g s b before later h) (fault_goes tables old new p phases g s b before later h) known
    recovered s (events.Detached b cause answer) h known =
        moved s (events.Detached b cause answer) h (detach_may tables old new p phases g s b cause answer h) (detach_goes tables old new p phases g s b cause answer h) known
    recovered s (events.Swapped b) h known = moved s (events.Swapped b) h (swap_may tables old new p phases g s b h) (swap_goes tables old new p phases g s b h) known
    recovered s (events.Replied outcome status) h known =
        moved s (events.Replied outcome status) h (reply_may tables old new p phases g s outcome status h) (reply_goes tables old new p phases g s outcome status h) known
    recovered s events.Ended h known = absurd h.lets

    entry_comes : AreAllowed tables → HasRoom old → (entry : Entry) → Comes tables old entry new → K p phases (put_before entry rest) → Ends K fit tables last p phases (put_before entry rest)
    entry_comes allowed room (Of s event) h known = served allowed room s event h known
    entry_comes allowed room (Recovers s event) h known = recovered s event h known
    entry_comes allowed room (Loses b) h known =
        one_step K fit tables last p phases (Serve (Lost b)) rest new g.holds (loss_may tables old new p phases g b h) tt (loss_goes tables old new p phases g b h) go known

  pub all_come : AreAllowed tables → (entries : List Entry) (old : State) (p : Pool) (phases : ℕ → Phase) → Goes tables old p phases → Room old.shared.gate (length (lines tables entries))
      → IsSchedule tables old entries last → K p phases (steps_of entries) → Ends K fit tables last p phases (steps_of entries)
  all_come allowed [] old p phases g room play known = (tt, subst (λ (x : State). Goes tables x p phases) (sym play) g)
  all_come allowed (entry ∷ entries) old p phases g room play known =
      entry_comes old play.0 p phases g (steps_of entries)
      (λ q ψ goes knows. all_come allowed entries play.0 q ψ goes (rest_room tables old play.0 entry entries play.1 room) play.2 knows)
      allowed (has_room old.shared.gate (length (lines tables (entry ∷ entries))) room) entry play.1 known

-- Before a play.

pub goes_first : (policy : ReadPolicy) (layout : Layout) (attached : BackendSet) → AreAllowed layout.tables → attached.bits < 256
    → Goes layout.tables (first_state policy layout (first_shared layout.tables attached)) (first_pool layout policy attached) all_outside
goes_first policy layout attached allowed few = record {
  follows = record {
    catalogue = refl;
    gate = refl;
    machines = λ s. ap (λ (x : SessionId). tidied (new_machine x policy)) (itself s);
    recoveries = λ s. ap (λ (x : SessionId). new_standing x layout) (itself s);
    stores = λ b. record { same = refl; transactions = λ s. refl; posed = λ s. inl refl };
    mail = λ s b. refl;
    told = λ s b. refl;
  };
  holds = first_holds layout policy attached allowed few;
  facts = record {
    tidy = λ s. new_tidy ((first_pool layout policy attached).recovery s) refl refl refl;
    waits = λ s stage b e. absurd (cc);
    asks = λ s b e. absurd e;
    clear = λ s copy. absurd (cc);
    keeps = λ s b. inl refl;
    sources = λ s has_one. absurd (cc);
    apart = λ s has_one. absurd (cc);
  };
  exact = λ s copy. absurd (cc);
  strange = λ s strange. refl;
}
