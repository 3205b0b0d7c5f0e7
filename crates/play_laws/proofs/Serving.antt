-- What a session does in a play it may do in the world with recoveries, and the world follows on.
use Rattle.std.proofs.Common.{◌≡◌, ◌<◌, ℕ, true, false, List, refl, sym, ap, ◌∙◌, subst, is_some}
use Rattle.std.specs.Prelude.{Option, Some, None}
use Rattle.pool_base.specs.Sets.{has}
use Rattle.pool_base.specs.declared.backend_id.BackendId.{BackendId}
use Rattle.pool_base.specs.declared.session_id.SessionId.{SessionId}
use Rattle.pool_base.specs.declared.gate_call.GateAnswer.{GateAnswer}
use Rattle.pool_base.specs.declared.gate_call.GateCall.{GateCall}
use Rattle.pool_base.specs.declared.gate_call.GateCall.TheVariants as calls
use Rattle.schema.specs.declared.catalogue.TableDef.{TableDef}
use Rattle.backend_trait.specs.declared.request.Request.{Request}
use Rattle.backend_trait.specs.declared.answer.Answer.{Answer}
use Rattle.backend_trait.specs.Rows.{with_at}
use Rattle.backend_trait.specs.Store.{Store, posted, lost_by}
use Rattle.session_machine.specs.declared.action.Action.TheVariants as actions
use Rattle.session_machine.specs.declared.action.SessionEvent.{SessionEvent}
use Rattle.session_machine.specs.declared.action.SessionEvent.TheVariants as events
use Rattle.session_machine.specs.declared.machine.Machine.{Machine}
use Rattle.session_machine.specs.declared.machine.Point.{Point}
use Rattle.session_machine.specs.declared.machine.Session.{Session}
use Rattle.session_machine.specs.declared.machine.Stage.{Stage}
use Rattle.session_machine.specs.declared.machine.Point.TheVariants.{PostDue, Waiting}
use Rattle.session_machine.specs.Allowed.{MayHappen as MachineMay}
use Rattle.session_machine.specs.Rules.{action_at, stage_posted, posted as machine_posted, after_at, after as machine_after}
use Rattle.snapshot_gate.specs.declared.state.GateState.{GateState}
use Rattle.snapshot_gate.specs.Function.{step, MayCall}
use Rattle.session_engine.specs.Tidying.{tidied}
use Rattle.online_recovery.specs.declared.standing.Due.TheVariants.{Resting}
use Rattle.online_recovery.specs.declared.standing.Standing.{Standing}
use Rattle.online_recovery.specs.Runs.{Phase}
use Rattle.one_copy_model.specs.declared.event.Event.TheVariants.{Of, Lost}
use Rattle.one_copy_model.specs.Marks.{marked}
use Rattle.one_copy_model.specs.World.{World, GateGives, Lets as WorldLets, stores_after, mail_after}
use Rattle.one_copy_model.proofs.Places.{with_at-same, each_at, each_at2}
use Rattle.one_copy_model.proofs.Finding.{one_of_eight}
use Rattle.one_copy_laws.proofs.FallsLeaving.{few_left, fewer_in}
use Rattle.play_laws.proofs.Marks.{unmarked_marked}
use Rattle.play_laws.proofs.Answers.{waits_still}
use Rattle.recovery_laws.specs.declared.step.Step.TheVariants.{Serve}
use Rattle.recovery_laws.specs.Pool.{Pool, world_of, call_in, gate_after, after, GateLets, MayStep}
use Rattle.play_laws.proofs.Aims.{Aims, IsNoPost, event_aims}
use Rattle.recovery_laws.proofs.Freeing.{Shows, ShowsIn}
use Rattle.recovery_laws.proofs.Stepping.{Holds}
use Rattle.recovery_laws.proofs.Targets.{session_steady, steady_leaves}
use Rattle.recovery_seat.specs.Schedule.{State, Moved, Lost as LostAt}
use Rattle.play_laws.specs.Joined.{IsWhole}
use Rattle.play_laws.specs.RecoveryFollowing.{Follows}
use Rattle.play_laws.proofs.Apart.{Facts, session_facts, post_facts, loses}
use Rattle.play_laws.proofs.Joining.{marked_whole, lost_whole, posted_whole, unposed}
use Rattle.play_laws.proofs.Going.{AllFacts, Goes, may_alike, machines_alike, gate_moves}

-- fewer backends are attached behind a detachment
pub gone_fewer : (g : GateState) (b : BackendId) → g.attached.bits < 256 → (k : ℕ) → has (step g (calls.Detach b)).0.attached.bits k ≡ true → has g.attached.bits k ≡ true
gone_fewer g b few k e =
    fewer_in g b (has g.attached.bits b.number) few k
    (one_of_eight (step g (calls.Detach b)).0.attached.bits k (few_left g b (has g.attached.bits b.number) few) e) e

pub same_fewer : (g n : GateState) → n.attached ≡ g.attached → (k : ℕ) → has n.attached.bits k ≡ true → has g.attached.bits k ≡ true
same_fewer g n e k = subst (λ a. has a.bits k ≡ true → has g.attached.bits k ≡ true) (sym e) (λ h. h)

-- an event of a session leaves no backend more attached, and its answer shows those that are
event_fewer : (g : GateState) (event : SessionEvent) (m : Machine) → g.attached.bits < 256 → MachineMay m event → (k : ℕ) → has (gate_after g (call_in event)).attached.bits k ≡ true → has g.attached.bits k ≡ true
event_fewer g (events.Ordered order) m few may k e = e
event_fewer g (events.Called call answer) m few may k e = same_fewer g (step g call).0 (steady_leaves g call (session_steady call answer may.1)).0 k e
event_fewer g (events.Posted b request) m few may k e = e
event_fewer g (events.Taken b answer) m few may k e = e
event_fewer g (events.Faulted b before later) m few may k e = e
event_fewer g (events.Detached b cause answer) m few may k e = gone_fewer g b few k e
event_fewer g (events.Swapped b) m few may k e = e
event_fewer g (events.Replied outcome status) m few may k e = e
event_fewer g events.Ended m few may k e = e

event_shows : (p : Pool) (event : SessionEvent) (m : Machine) → MachineMay m event → GateLets p event → ShowsIn event (gate_after p.gate (call_in event)).attached.bits
event_shows p (events.Ordered order) m may lets = tt
event_shows p (events.Called call answer) m may lets =
    subst (λ (a : GateAnswer). Shows a (step p.gate call).0.attached.bits) lets.1 (steady_leaves p.gate call (session_steady call answer may.1)).1
event_shows p (events.Posted b request) m may lets = tt
event_shows p (events.Taken b answer) m may lets = tt
event_shows p (events.Faulted b before later) m may lets = tt
event_shows p (events.Detached b cause answer) m may lets = tt
event_shows p (events.Swapped b) m may lets = tt
event_shows p (events.Replied outcome status) m may lets = tt
event_shows p events.Ended m may lets = tt

-- what is due, by the point
post_due : (session : Session) (point : Point) (b : BackendId) (request : Request) → action_at session point ≡ actions.Post b request → (stage : Stage) × (point ≡ PostDue stage b)
post_due session (PostDue stage c) b request e = (stage, ap (PostDue stage) (let z : c ≡ b = cc in z))
post_due session point b request e = absurd (cc)

pub wait_due : (session : Session) (point : Point) (b : BackendId) → action_at session point ≡ actions.WaitFor b → (stage : Stage) × (point ≡ Waiting stage b)
wait_due session (Waiting stage c) b e = (stage, ap (Waiting stage) (let z : c ≡ b = cc in z))
wait_due session point b e = absurd (cc)

posted_point : (session : Session) (point : Point) (stage : Stage) (b : BackendId) → point ≡ PostDue stage b → (machine_posted session point).point ≡ Waiting (stage_posted stage) b
posted_point session point stage b e = ap (λ (x : Point). (machine_posted session x).point) e

behind_post : (m : Machine) (stage : Stage) (b : BackendId) (request : Request) → m.point ≡ PostDue stage b → (machine_after m (events.Posted b request)).point ≡ Waiting (stage_posted stage) b
unfolding after_at
behind_post m stage b request e = posted_point m.session m.point stage b e

-- what the gate gives
pub gives : (g old new : GateState) (call : GateCall) (answer : GateAnswer) → g ≡ old → MayCall old call → (new, answer) ≡ step old call → GateGives g call answer
gives g old new call answer is may h = subst (λ (x : GateState). GateGives x call answer) (sym is) (may, ap (λ (p : GateState × GateAnswer). p.1) (sym h))

module _ (tables : List TableDef) (old new : State) (p : Pool) (phases : ℕ → Phase) (g : Goes tables old p phases) (s : SessionId) (event : SessionEvent) (h : Moved tables s old event new) where
  abbrev f : Follows tables old p
  f = g.follows

  pub rests_here : (p.recovery s.number).due ≡ Resting
  rests_here = ap (λ (r : Standing). r.due) (f.recoveries s) ∙ h.rests

  pub may_move : MachineMay ((world_of p).machine s.number) event
  may_move = may_alike ((world_of p).machine s.number) (old.machines s) event (f.machines s) h.moves.may

  pub gate_goes : gate_after p.gate (call_in event) ≡ new.shared.gate
  gate_goes = gate_moves p.gate old.shared.gate new.shared.gate event f.gate h.moves.answered

  pub machines_go : (t : SessionId) → tidied (with_at (world_of p).machine s.number (machine_after ((world_of p).machine s.number) event) t.number) ≡ tidied (new.machines t)
  machines_go t = machines_alike (world_of p).machine old.machines new.machines s event f.machines h.moves.leads h.machines t

  pub recoveries_go : (t : SessionId) → p.recovery t.number ≡ new.recoveries t
  recoveries_go t = f.recoveries t ∙ ap (λ (r : SessionId → Standing). r t) (sym h.recoveries)

  few : p.gate.attached.bits < 256
  few = subst (λ a. a.bits < 256) (ap (λ (x : GateState). x.attached) g.holds.counts.same) g.holds.invariant.few

  abbrev n : ℕ
  n = (gate_after p.gate (call_in event)).attached.bits

  aims_go : GateLets p event → IsNoPost event → Aims n (machine_after ((world_of p).machine s.number) event)
  aims_go lets kind = event_aims ((world_of p).machine s.number) event n may_move kind (event_shows p event ((world_of p).machine s.number) may_move lets)

  -- an event that moves no store
  module _ (kind : IsNoPost event) (lets : GateLets p event) (allows : WorldLets (world_of p) s.number event) (same : new.shared.stores ≡ old.shared.stores)
      (stays : stores_after (world_of p).tables (world_of p).store s.number event ≡ (world_of p).store) (mailed : mail_after (world_of p).mail s.number event ≡ (world_of p).mail) where
    pub plain_may : MayStep p (Serve (Of s event))
    plain_may = ((may_move, allows), (rests_here, lets))

    plain_facts : AllFacts (after p (Serve (Of s event)))
    plain_facts =
        subst (λ (st : ℕ → Store). Facts n (with_at (world_of p).machine s.number (machine_after ((world_of p).machine s.number) event)) st p.recovery p.transaction p.asked) (sym stays)
        (session_facts p.gate.attached.bits (world_of p).machine (world_of p).store p.recovery p.transaction p.asked g.facts n (event_fewer p.gate event ((world_of p).machine s.number) few may_move)
        s.number (machine_after ((world_of p).machine s.number) event) rests_here (aims_go lets kind) (world_of p).store
        (λ o other b e. e) (λ b none o. none o) (λ o b other e. e) (λ b none o e. e))

    pub plain_goes : Holds (after p (Serve (Of s event))) phases → Goes tables new (after p (Serve (Of s event))) phases
    plain_goes holds = record {
      follows = record {
        catalogue = f.catalogue;
        gate = gate_goes;
        machines = machines_go;
        recoveries = recoveries_go;
        stores = λ b.
            subst (λ (st : ℕ → Store). IsWhole (st b) (λ o. p.transaction o b) (λ o. p.asked o b) (new.shared.stores b)) (sym stays)
            (subst (λ (st : ℕ → Store). IsWhole ((world_of p).store b) (λ o. p.transaction o b) (λ o. p.asked o b) (st b)) (sym same) (f.stores b));
        mail = λ o b. ap (λ (x : ℕ → ℕ → Option Answer). x o b) mailed ∙ f.mail o b;
        told = f.told;
      };
      holds = holds;
      facts = plain_facts;
      exact = λ o copy. ap (λ (st : ℕ → Store). (st (p.recovery o).held.target.number).transaction o) same ∙ g.exact o copy;
      strange = g.strange;
    }

-- a post
module _ (tables : List TableDef) (old new : State) (p : Pool) (phases : ℕ → Phase) (g : Goes tables old p phases) (s : SessionId) (b : BackendId) (request : Request)
    (h : Moved tables s old (events.Posted b request) new) where
  abbrev w : World
  w = world_of p

  abbrev posts : Store
  posts = posted (w.store b.number) s.number request

  abbrev m : Machine
  m = w.machine s.number

  none_waits_there : (old.shared.stores b.number).pending s.number ≡ None
  none_waits_there = h.moves.serves.0

  pub post_may : MayStep p (Serve (Of s (events.Posted b request)))
  post_may =
      let posed = (g.follows.stores b.number).posed s.number in (
        (
          may_move tables old new p phases g s (events.Posted b request) h,
          (unposed (w.store b.number).lost (p.asked s.number b.number) ((w.store b.number).pending s.number) ((old.shared.stores b.number).pending s.number) posed none_waits_there).1,
        ),
        (rests_here tables old new p phases g s (events.Posted b request) h, tt),
      )

  here : (stage : Stage) × (m.point ≡ PostDue stage b)
  here = post_due m.session m.point b request (may_move tables old new p phases g s (events.Posted b request) h)

  -- who waited waits still
  still_waits : (o : ℕ) → is_some ((w.store b.number).pending o) ≡ true → is_some ((marked posts).pending o) ≡ true
  still_waits o e =
      sym (waits_still ((marked posts).pending o)) ∙ (ap (λ (x : Store). is_some (x.pending o)) (unmarked_marked posts) ∙ (waits_still (posts.pending o)
      ∙ each_at (λ k x. is_some ((w.store b.number).pending k) ≡ true → is_some x ≡ true) (w.store b.number).pending s.number (Some (record { request = request; crossed = false })) (λ z. refl) (λ k other z. z) o e))

  own_waits : is_some ((marked posts).pending s.number) ≡ true
  own_waits =
      sym (waits_still ((marked posts).pending s.number)) ∙ (ap (λ (x : Store). is_some (x.pending s.number)) (unmarked_marked posts) ∙ (waits_still (posts.pending s.number)
      ∙ ap is_some (with_at-same (w.store b.number).pending s.number (Some (record { request = request; crossed = false })))))

  pub post_goes : Holds (after p (Serve (Of s (events.Posted b request)))) phases → Goes tables new (after p (Serve (Of s (events.Posted b request)))) phases
  post_goes holds = record {
    follows = record {
      catalogue = g.follows.catalogue;
      gate = gate_goes tables old new p phases g s (events.Posted b request) h;
      machines = machines_go tables old new p phases g s (events.Posted b request) h;
      recoveries = recoveries_go tables old new p phases g s (events.Posted b request) h;
      stores = λ k.
          subst (λ (st : ℕ → Store). IsWhole (with_at w.store b.number (marked posts) k) (λ o. p.transaction o k) (λ o. p.asked o k) (st k)) (sym h.moves.serves.1)
          (each_at2 (λ j x y. IsWhole x (λ o. p.transaction o j) (λ o. p.asked o j) y) w.store old.shared.stores b.number (marked posts) (posted (old.shared.stores b.number) s.number request)
          (marked_whole posts (posted (old.shared.stores b.number) s.number request) (λ o. p.transaction o b.number) (λ o. p.asked o b.number)
          (posted_whole (w.store b.number) (old.shared.stores b.number) (λ o. p.transaction o b.number) (λ o. p.asked o b.number) (g.follows.stores b.number) s.number request none_waits_there))
          (λ j other. g.follows.stores j) k);
      mail = g.follows.mail;
      told = g.follows.told;
    };
    holds = holds;
    facts = post_facts p.gate.attached.bits w.machine w.store p.recovery p.transaction p.asked g.facts s.number b here.0 (machine_after m (events.Posted b request)) here.1
        (stage_posted here.0, behind_post m here.0 b request here.1) (marked posts) refl own_waits still_waits;
    exact = λ o copy.
        let k = (p.recovery o).held.target.number in
        ap (λ (st : ℕ → Store). (st k).transaction o) h.moves.serves.1
        ∙ (each_at (λ j x. x.transaction o ≡ (old.shared.stores j).transaction o) old.shared.stores b.number (posted (old.shared.stores b.number) s.number request) refl (λ j other. refl) k
        ∙ g.exact o copy);
    strange = g.strange;
  }

-- the loss of a backend
module _ (tables : List TableDef) (old new : State) (p : Pool) (phases : ℕ → Phase) (g : Goes tables old p phases) (b : BackendId) (h : LostAt old b new) where
  abbrev v : World
  v = world_of p

  pub loss_may : MayStep p (Serve (Lost b))
  loss_may = (sym (ap (λ (st : Store). st.lost) (g.follows.stores b.number).same) ∙ h.loss.not_lost, tt)

  loss_facts : AllFacts (after p (Serve (Lost b)))
  loss_facts = loses p.gate.attached.bits v.machine v.store p.recovery p.transaction p.asked g.facts b.number

  pub loss_goes : Holds (after p (Serve (Lost b))) phases → Goes tables new (after p (Serve (Lost b))) phases
  loss_goes holds = record {
    follows = record {
      catalogue = g.follows.catalogue;
      gate = g.follows.gate ∙ sym h.loss.gate;
      machines = λ t. g.follows.machines t ∙ ap (λ (x : SessionId → Machine). tidied (x t)) (sym h.machines);
      recoveries = λ t. g.follows.recoveries t ∙ ap (λ (r : SessionId → Standing). r t) (sym h.recoveries);
      stores = λ k.
          subst (λ (st : ℕ → Store). IsWhole (with_at v.store b.number (lost_by (v.store b.number)) k) (λ o. p.transaction o k) (λ o. p.asked o k) (st k)) (sym h.loss.stores)
          (each_at2 (λ j x y. IsWhole x (λ o. p.transaction o j) (λ o. p.asked o j) y) v.store old.shared.stores b.number (lost_by (v.store b.number)) (lost_by (old.shared.stores b.number))
          (lost_whole (v.store b.number) (old.shared.stores b.number) (λ o. p.transaction o b.number) (λ o. p.asked o b.number) (g.follows.stores b.number))
          (λ j other. g.follows.stores j) k);
      mail = g.follows.mail;
      told = g.follows.told;
    };
    holds = holds;
    facts = loss_facts;
    exact = λ o copy.
        let k = (p.recovery o).held.target.number in
        ap (λ (st : ℕ → Store). (st k).transaction o) h.loss.stores
        ∙ (each_at (λ j x. x.transaction o ≡ (old.shared.stores j).transaction o) old.shared.stores b.number (lost_by (old.shared.stores b.number)) refl (λ j other. refl) k
        ∙ g.exact o copy);
    strange = g.strange;
  }
