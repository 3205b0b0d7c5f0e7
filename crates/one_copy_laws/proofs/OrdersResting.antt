-- Orders at rest: where nothing is to be ended, and where the transaction ends.
use Rattle.std.proofs.Common.{◌≡◌, ◌≢◌, ℕ, Bool, true, false, List, [], refl, sym, ap, ◌∙◌, subst, inl, inr}
use Rattle.std.specs.Prelude.{◌⊎◌, Option, Some, None}
use Rattle.pool_base.specs.declared.session_id.SessionId.{SessionId}
use Rattle.backend_trait.specs.declared.request.Request.{Request}
use Rattle.backend_trait.specs.declared.answer.Answer.{Answer}
use Rattle.session_machine.specs.declared.action.SessionEvent.TheVariants.{Ordered}
use Rattle.session_orders.specs.declared.order.Order.{Order}
use Rattle.session_orders.specs.declared.outcome.Outcome.{Outcome}
use Rattle.session_machine.specs.declared.machine.GatePhase.{GatePhase}
use Rattle.session_machine.specs.declared.machine.GatePhase.TheVariants as phases
use Rattle.session_machine.specs.declared.machine.Machine.{Machine}
use Rattle.session_machine.specs.declared.machine.Session.{Session}
use Rattle.session_machine.specs.declared.machine.Stage.{Stage}
use Rattle.session_machine.specs.declared.machine.Point.{Point}
use Rattle.session_machine.specs.Rules.{ordered}
use Rattle.one_copy_model.specs.declared.deed.Deed.{Deed}
use Rattle.one_copy_model.specs.declared.event.Event.TheVariants.{Of}
use Rattle.one_copy_model.specs.Places.{at_order, rolls_back}
use Rattle.one_copy_model.specs.Deaths.{stage_at}
use Rattle.one_copy_model.specs.Tracking.{Told, Tracked, tracked_after, in_commit}
use Rattle.one_copy_model.specs.Orders.{OrderAt, reply_in, IsClassedAt, ends_listing}
use Rattle.one_copy_model.specs.Standing.{Leaving, Ending}
use Rattle.one_copy_model.specs.Invariant.{Invariant, FitsPoint, wants_of, IsUnderWay}
use Rattle.one_copy_model.specs.Own.{told_by, stand, IsIn, IsRightBy}
use Rattle.one_copy_model.proofs.Calm.{free_of, is_waiting}
use Rattle.one_copy_model.proofs.Turning.{facts_of, live_there}
use Rattle.one_copy_model.proofs.Quiet.{real}
use Rattle.one_copy_model.proofs.Beginning.{none_told}
use Rattle.one_copy_model.proofs.Ending.{IsAside}
use Rattle.session_machine.specs.Rules.{due}
use Rattle.session_machine.specs.declared.machine.Point.TheVariants.{Resting, LookDue, ReplyDue}
use Rattle.session_machine.specs.declared.machine.Stage.TheVariants.{Opening, Reading, Running, Locking, Inserting, Committing, RollingBack, Closing}
use Rattle.session_machine.specs.declared.machine.Ending.{Ending as MachineEnding}
use Rattle.one_copy_model.specs.Standing.{Nowhere, Ahead, standing_by, standing_open, standing_in}
use Rattle.one_copy_model.proofs.InvariantLaws.{open_stays}
use Rattle.one_copy_model.proofs.Calm.{inserts_none}
use Rattle.one_copy_model.specs.Invariant.{inserted_in}
use Rattle.one_copy_model.proofs.Beginning.{begun_order}
use Rattle.one_copy_model.proofs.Livings.{not_live}
use Rattle.one_copy_laws.proofs.OrdersOrdering.{if_live, its, told_now, lands_order}
use Rattle.one_copy_laws.proofs.OrdersLeading.{leads_quietly, leads_to_end, rolls}

abbrev pub RestsIn : GatePhase → Type 0
RestsIn phase = (phase ≡ phases.Out) ⊎ ((changed : Bool) × (written : ℕ) × (phase ≡ phases.Live changed written))

rests_in : (point : Point) (phase : GatePhase) → point ≡ Resting → FitsPoint (stage_at point) point phase → RestsIn phase
rests_in point phase is fits = by phase (subst (λ (p : Point). FitsPoint (stage_at p) p phase) is fits)
  where
    by : (phase : GatePhase) → FitsPoint None Resting phase → RestsIn phase
    by phases.Out e = inl refl
    by phases.InSnapshot e = absurd (cc)
    by (phases.Live changed written) e = inr (changed, written, refl)
    by phases.InCommit e = absurd (cc)

-- a serial insert that is not answered
untold_in : (stage : Stage) → inserted_in (Some stage) None ≡ None
untold_in (Opening work) = refl
untold_in (Reading work ticket) = refl
untold_in (Running work) = refl
untold_in (Locking work table) = refl
untold_in (Inserting work true) = refl
untold_in (Inserting work false) = refl
untold_in Committing = refl
untold_in Closing = refl
untold_in (RollingBack ending) = refl

untold_at : (stage : Option Stage) → inserted_in stage None ≡ None
untold_at None = refl
untold_at (Some stage) = untold_in stage

pub untold_inserts : (stage : Option Stage) (told : Option Answer) → told ≡ None → inserted_in stage told ≡ None
untold_inserts stage told e = ap (inserted_in stage) e ∙ untold_at stage

not_ahead : (asked : List Request) → Nowhere ≡ Ahead asked → ⊥
not_ahead asked e = cc

module _ (t : Tracked) (h : Invariant t) (s : SessionId) (order : Order) (rest : (its t s order).point ≡ Resting) where
  abbrev m : Machine
  m = t.world.machine s.number

  abbrev told : Told
  told = told_now t s order

  abbrev attached : ℕ
  attached = t.world.gate.attached.bits

  abbrev mail : ℕ → Option Answer
  mail = t.world.mail s.number

  abbrev live : Bool
  live = live_there t s.number

  abbrev Kept : Type 0
  Kept = Invariant (tracked_after t (Of s (Ordered order)))

  free : is_waiting m.point ≡ false
  free = ap is_waiting rest

  pub phase_is : RestsIn m.session.gate
  phase_is = rests_in m.point m.session.gate rest (h.inside s.number)

  pub opened : (b : ℕ) → stand m mail b ≡ standing_open m.session.gate
  opened b = ap (λ (p : Point). standing_by m.session.gate p (stage_at p) (told_by m mail b)) rest

  pub no_stage : stage_at m.point ≡ None
  no_stage = ap stage_at rest

  pub wants_none : wants_of m.point (stage_at m.point) ≡ None
  wants_none = ap (λ (p : Point). wants_of p (stage_at p)) rest

  pub out_dead : m.session.gate ≡ phases.Out → live ≡ false
  out_dead out = not_live t h s.number (λ b asked at e. not_ahead asked (ap standing_open (sym out) ∙ sym (opened b) ∙ e))

  pub out_same : (deeds : List Deed) → m.session.gate ≡ phases.Out → if_live live s.number deeds t.history ≡ t.history
  out_same deeds out = ap (λ x. if_live x s.number deeds t.history) (out_dead out)

  fits_rest : (phase : GatePhase) → RestsIn phase → (point : Point) → FitsPoint None point phases.Out → ((changed : Bool) (written : ℕ) → FitsPoint None point (phases.Live changed written)) → FitsPoint None point phase
  fits_rest phase (inl out) point at_out at_live = subst (FitsPoint None point) (sym out) at_out
  fits_rest phase (inr (changed, written, is)) point at_out at_live = subst (FitsPoint None point) (sym is) (at_live changed written)

  -- an answer at once
  pub rest_replies : (session : Session) (outcome : Outcome) → session.gate ≡ m.session.gate
      → ordered m.session m.point order.moment order.body ≡ due session (ReplyDue outcome)
      → if_live live s.number (at_order m.session order.moment order.body) t.history ≡ t.history
      → IsRightBy attached (due session (ReplyDue outcome)) live s.number t.history told outcome
      → Kept
  rest_replies session outcome gate to mid right =
      lands_order t s order (due session (ReplyDue outcome)) t.history to mid
      (leads_quietly t h s order free (due session (ReplyDue outcome)) refl no_stage
      (fits_rest session.gate (subst RestsIn (sym gate) phase_is) (ReplyDue outcome) refl (λ changed written. refl)) tt
      (λ b at. ap standing_open gate ∙ sym (opened b)) gate (sym wants_none)
      (λ other e. subst (λ x. IsRightBy attached (due session (ReplyDue outcome)) live s.number t.history told x) (let same : outcome ≡ other = (let x : Some outcome ≡ Some other = e in cc) in same) right)
      refl tt)

  -- what is due at the gate
  pub rest_goes : (session : Session) (point : Point) → session.gate ≡ m.session.gate → stage_at point ≡ None
      → ordered m.session m.point order.moment order.body ≡ due session point
      → if_live live s.number (at_order m.session order.moment order.body) t.history ≡ t.history
      → FitsPoint (stage_at point) point session.gate → IsClassedAt t.world.tables point
      → standing_by session.gate point (stage_at point) None ≡ standing_open session.gate
      → ((told : Option Answer) → standing_by session.gate point (stage_at point) told ≡ standing_by session.gate point (stage_at point) None)
      → wants_of point (stage_at point) ≡ None → reply_in point ≡ None
      → IsUnderWay point (Some told) → OrderAt session point told
      → Kept
  rest_goes session point gate calm to mid fits classed stands alike wants reply under order_at =
      lands_order t s order (due session point) t.history to mid
      (leads_quietly t h s order free (due session point) calm no_stage fits classed
      (λ b at. alike (told_by (due session point) mail b) ∙ stands ∙ ap standing_open gate ∙ sym (opened b)) gate (wants ∙ sym wants_none)
      (λ outcome e. absurd (let n : None ≡ Some outcome = sym reply ∙ e in cc))
      under order_at)

  pub nobody_leaves : (b : ℕ) → IsIn attached b → stand m mail b ≢ Leaving
  nobody_leaves b at e = open_stays m.session.gate (sym (opened b) ∙ e)

  pub aside : (n : Machine) → ((b : ℕ) → told_by n mail b ≡ None) → in_commit n.session.gate ≡ false → ((b : ℕ) → IsIn attached b → stand n mail b ≡ Ending) → IsAside attached m n mail mail
  aside n untold outside ending = record {
    stays = nobody_leaves;
    lasts = λ b at e. let n : Ending ≡ Leaving = sym (ending b at) ∙ e in cc;
    outside = outside;
    idle = λ b work at e. let n : None ≡ Some work = sym (inserts_none (stage_at m.point) (told_by m mail b) no_stage) ∙ e in cc;
    idles = λ b work at e. let n : None ≡ Some work = sym (untold_inserts (stage_at n.point) (told_by n mail b) (untold b)) ∙ e in cc;
  }

  pub outside_commit : (phase : GatePhase) → RestsIn phase → in_commit phase ≡ false
  outside_commit phase (inl out) = ap in_commit out
  outside_commit phase (inr (changed, written, is)) = ap in_commit is

  -- a rollback
  pub rest_rolls : (session : Session) (ending : MachineEnding) (changed : Bool) (written : ℕ) → session.gate ≡ m.session.gate → session.heard ≡ [] → m.session.gate ≡ phases.Live changed written → ends_listing ending ≡ false
      → ordered m.session m.point order.moment order.body ≡ due session (LookDue (RollingBack ending))
      → at_order m.session order.moment order.body ≡ rolls_back
      → ((outcome : Outcome) → reply_in (LookDue (RollingBack ending)) ≡ Some outcome → IsRightBy attached (due session (LookDue (RollingBack ending))) false s.number (if_live live s.number rolls_back t.history) told outcome)
      → Kept
  rest_rolls session ending changed written gate empty phase unlisted to deeds replies =
      let n : Machine = due session (LookDue (RollingBack ending)) in
      let untold : (b : ℕ) → told_by n mail b ≡ None = none_told t.world.tables attached t.history t.history t.world.store m mail (t.orders s.number) (t.done s.number) live s.number (real s) (free_of m.point free) ((facts_of t h).own s.number) n empty in
      let ends_at : (b : ℕ) → IsIn attached b → stand n mail b ≡ Ending = λ b at. ap (standing_in (RollingBack ending)) (untold b) in
      lands_order t s order n (if_live live s.number rolls_back t.history) to (ap (λ d. if_live live s.number d t.history) deeds)
      (leads_to_end t h s order free n (if_live live s.number rolls_back t.history) (RollingBack ending) refl refl (rolls t h s order free live refl)
      (aside n untold (outside_commit session.gate (subst RestsIn (sym gate) phase_is)) ends_at)
      (subst (λ x. FitsPoint (Some (RollingBack ending)) (LookDue (RollingBack ending)) x) (sym (gate ∙ phase)) refl) unlisted gate
      (begun_order attached session (RollingBack ending) (RollingBack ending) empty)
      untold ends_at (λ b l here e. absurd (let z : Some (RollingBack ending) ≡ Some Closing = e in cc)) replies refl tt (λ b at e. absurd (let n : false ≡ true = e in cc)))
