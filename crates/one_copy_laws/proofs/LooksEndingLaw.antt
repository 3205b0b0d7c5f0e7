-- The law of a Look that closes the chain of an ending: of a commit, with changes or without, and of a rollback.
use Rattle.std.proofs.Common.{◌≡◌, ℕ, Bool, true, false, refl, sym, ap, ◌∙◌, subst, inl, inr}
use Rattle.std.specs.Prelude.{Option, Some, None, is_some}
use Rattle.pool_base.specs.Sets.{has}
use Rattle.pool_base.specs.declared.session_id.SessionId.{SessionId}
use Rattle.pool_base.specs.declared.gate_call.View.{View}
use Rattle.pool_base.specs.declared.gate_call.GateCall.TheVariants as calls
use Rattle.pool_base.specs.declared.gate_call.GateAnswer.{GateAnswer}
use Rattle.pool_base.specs.declared.gate_call.GateAnswer.TheVariants.{Seen}
use Rattle.backend_trait.specs.declared.answer.Answer.{Answer}
use Rattle.snapshot_gate.specs.Function.{view_of}
use Rattle.session_machine.specs.declared.action.Action.TheVariants as actions
use Rattle.session_machine.specs.declared.action.SessionEvent.TheVariants.{Called}
use Rattle.session_orders.specs.declared.outcome.Outcome.{Outcome}
use Rattle.session_machine.specs.declared.machine.GatePhase.{GatePhase}
use Rattle.session_machine.specs.declared.machine.GatePhase.TheVariants as phases
use Rattle.session_machine.specs.declared.machine.Machine.{Machine}
use Rattle.session_machine.specs.declared.machine.Session.{Session}
use Rattle.session_machine.specs.declared.machine.Ending.{Ending as MachineEnding}
use Rattle.session_machine.specs.declared.machine.Ending.TheVariants.{Replies}
use Rattle.session_machine.specs.declared.machine.Stage.{Stage}
use Rattle.session_machine.specs.declared.machine.Stage.TheVariants.{Opening, Reading, Running, Locking, Inserting, Committing, Closing, RollingBack}
use Rattle.session_machine.specs.declared.machine.Point.{Point}
use Rattle.session_machine.specs.declared.machine.Point.TheVariants.{LookDue, SplitDue, LeaveCommitDue, FinishDue}
use Rattle.session_machine.specs.Rules.{due, called, granted, with_view, primary}
use Rattle.one_copy_model.specs.declared.event.Event.TheVariants.{Of}
use Rattle.one_copy_model.specs.World.{MayHappen}
use Rattle.one_copy_model.specs.Deaths.{is_live, stage_at}
use Rattle.one_copy_model.specs.Tracking.{Told, Tracked, tracked_after, in_commit}
use Rattle.one_copy_model.specs.Orders.{reply_of, is_of_commit, lists, ends_listing}
use Rattle.one_copy_model.specs.Standing.{standing_in, Nowhere, Ahead, Leaving, standing_by}
use Rattle.one_copy_model.specs.Invariant.{Invariant, FitsPoint, where_live, wants_of, request_in}
use Rattle.one_copy_model.specs.Own.{told_by, stand, IsIn, Own, IsRightBy}
use Rattle.one_copy_model.proofs.Counts.{still}
use Rattle.one_copy_model.proofs.Turning.{facts_of, live_there}
use Rattle.one_copy_model.proofs.Landing.{places_none}
use Rattle.one_copy_model.proofs.Quiet.{real, quiet_holds}
use Rattle.pool_base.specs.declared.backend_id.BackendId.{BackendId}
use Rattle.session_machine.specs.Rules.{commit_outcome}
use Rattle.one_copy_model.specs.Chains.{IsInOrder}
use Rattle.one_copy_model.specs.Invariant.{inserted_in, inserting_in}
use Rattle.one_copy_model.proofs.Quiet.{stands_silent}
use Rattle.one_copy_model.proofs.Calm.{free_of, is_waiting}
use Rattle.one_copy_model.proofs.Livings.{not_live, clear_dead}
use Rattle.one_copy_model.proofs.Finding.{nobody_attached, one_of_eight}
use Rattle.one_copy_laws.proofs.GateCalling.{called_to, lands_call, seen_view, right_moves}
use Rattle.one_copy_laws.proofs.GateGoing.{goes_on}
use Rattle.backend_trait.specs.declared.answer.Answer.TheVariants as answers
use Rattle.session_machine.specs.declared.machine.Heard.{Heard}
use Rattle.one_copy_model.specs.Orders.{IsClassedIn, reply_of_stage}
use Rattle.one_copy_model.specs.Chains.{has_told}
use Rattle.one_copy_model.specs.Deaths.{heard_from, mail_or}
use Rattle.one_copy_laws.proofs.ChainsChaining.{chain_own, stand_same, inserts_same}
use Rattle.std.specs.Prelude.{not, ◌&&◌}
use Rattle.session_machine.specs.Answers.{lowest, is_attached, has_answered, is_open, first_open, next_of}
use Rattle.session_machine.specs.Rules.{kind_of, asked, looked_at}
use Rattle.one_copy_model.specs.Places.{closing_look, at_granted, refused_look}
use Rattle.one_copy_model.proofs.Finding.{is_found}
use Rattle.one_copy_model.proofs.Livings.{and_true}
use Rattle.one_copy_laws.proofs.GateStranding.{released_point, released_is, releases}
use Rattle.one_copy_model.specs.Orders.{reply_of}
use Rattle.one_copy_laws.proofs.ChainsChaining.{class_in, reply_is, unlisted_in}
use Rattle.one_copy_laws.proofs.LooksShowing.{seen_is}
use Rattle.one_copy_laws.proofs.LooksNexts.{answered_is, looked_is}
use Rattle.session_machine.specs.Answers.{kept, first_other, goes_on as chain_goes_on, counts, is_other, is_kept, is_largest, group_size, is_same}
use Rattle.session_machine.specs.Rules.{closed, judged, split, idle}
use Rattle.backend_trait.specs.Store.{is_refusal}
use Rattle.one_copy_laws.proofs.GateGoing.{goes_on}
use Rattle.one_copy_model.proofs.Finding.{none_found}
use Rattle.one_copy_laws.proofs.LooksNexts.{closed_is}
use Rattle.one_copy_laws.proofs.LooksSames.{done_same}
use Rattle.std.specs.Prelude.{nat_le}
use Rattle.session_machine.specs.declared.status.Status.{Status}
use Rattle.session_machine.specs.declared.status.Status.TheVariants.{Idle, InBlock, Failed}
use Rattle.one_copy_model.proofs.Beginning.{no_mail}
use Rattle.one_copy_laws.proofs.GateStranding.{Releases}
use Rattle.one_copy_laws.specs.Ends.{is_ending}
use Rattle.one_copy_laws.proofs.LooksLooking.{awake, old, seen_bits, goes_on_kept, strands_kept}
use Rattle.one_copy_laws.proofs.LooksEndings.{IsAmong, found_among, none_among, among_heard, ending_up, ending_form, ending_stands, ending_places, ending_refused, ending_inserts, ending_open, released_nowhere, and_none, told_is}

module _ (t : Tracked) (h : Invariant t) (s : SessionId) (view : View) (seen : view ≡ view_of t.world.gate) (stage : Stage) (at : (t.world.machine s.number).point ≡ LookDue stage)
    (ends : is_ending stage ≡ true) (shut : next_of (kind_of stage) t.world.gate.attached.bits (t.world.machine s.number).session.heard ≡ None)
    (first : BackendId) (there : lowest t.world.gate.attached.bits ≡ Some first) where
  abbrev m : Machine
  m = t.world.machine s.number

  abbrev attached : ℕ
  attached = t.world.gate.attached.bits

  abbrev mail : ℕ → Option Answer
  mail = t.world.mail s.number

  abbrev looks : Session
  looks = with_view m.session view

  abbrev Looked_to : Machine → Type 0
  Looked_to n = Invariant (called_to t s calls.Look (Seen view) t.world.gate n t.history (t.orders s.number) (t.done s.number))

  own_was : Own t.world.tables attached t.history t.world.store m mail (t.orders s.number) (t.done s.number) (live_there t s.number) s.number
  own_was = old t h s view seen stage at

  free : is_waiting m.point ≡ false
  free = ap is_waiting at

  open_none : first_open attached m.session.heard ≡ None
  open_none = sym (ending_open stage attached m.session.heard ends) ∙ shut

  -- each attached backend has answered, and it is done
  answered : (b : ℕ) → IsIn attached b → has_told m b ≡ true
  answered b here =
      let at_b : BackendId = record { number = b; below_8 = one_of_eight attached b h.few here } in
      sym (answered_is m.session.heard at_b) ∙ closed_is (has attached b) (has_answered m.session.heard at_b) here (none_found (is_open attached m.session.heard) open_none at_b)

  mail_none : (b : ℕ) → mail b ≡ None
  mail_none b = no_mail t.world.tables attached t.history t.history t.world.store m mail (t.orders s.number) (t.done s.number) (live_there t s.number) s.number (real s) (free_of m.point free) own_was b

  told_heard : (b : ℕ) → told_by m mail b ≡ heard_from m.session.heard b
  told_heard b = ap (λ x. mail_or x (heard_from m.session.heard b)) (mail_none b)

  done_of : (b : ℕ) (answer : Answer) → IsIn attached b → heard_from m.session.heard b ≡ Some answer → answer ≡ answers.Done
  done_of b answer here e = ending_form stage answer ends (own_was.heard b stage answer here (ap stage_at at) (told_heard b ∙ e)).form

  told_done : (b : ℕ) → IsIn attached b → told_by m mail b ≡ Some answers.Done
  told_done b here =
      let a = told_is (heard_from m.session.heard b) (answered b here) in
      told_heard b ∙ a.1 ∙ ap Some (done_of b a.0 here a.1)

  nowhere : (b : ℕ) → IsIn attached b → stand m mail b ≡ Nowhere
  nowhere b here =
      ap (λ (p : Point). standing_by m.session.gate p (stage_at p) (told_by m mail b)) at
      ∙ ap (standing_in stage) (told_done b here) ∙ ending_stands stage ends

  dead : live_there t s.number ≡ false
  dead = not_live t h s.number (λ b asked here e. let z : Nowhere ≡ Ahead asked = sym (nowhere b here) ∙ e in cc)

  order : IsInOrder attached m stage
  order = own_was.in_order stage (ap stage_at at)

  counted_done : (x : Heard) → IsAmong x m.session.heard → counts attached x ≡ true → x.answer ≡ answers.Done
  counted_done x among here = done_of x.b.number x.answer here (among_heard m.session.heard x order.rising among)

  -- so nobody differs
  other_none : (best : Answer) → best ≡ answers.Done → first_other attached best 0 m.session.heard ≡ None
  other_none best is = none_among (is_other attached best 0) m.session.heard (λ x among. by x among (counts attached x) refl)
    where
      by : (x : Heard) → IsAmong x m.session.heard → (v : Bool) → counts attached x ≡ v → is_other attached best 0 x ≡ false
      by x among false e = ap (λ v. v && (nat_le 0 x.b.number && not (is_same x.answer best))) e
      by x among true e =
          let same : is_same x.answer best ≡ true = ap (λ a. is_same a best) (counted_done x among e) ∙ ap (is_same answers.Done) is ∙ done_same in
          ap (λ v. v && (nat_le 0 x.b.number && not (is_same x.answer best))) e
          ∙ ap (λ v. nat_le 0 x.b.number && not v) same ∙ and_none (nat_le 0 x.b.number)

  -- the end of the chain
  module _ (session : Session) (ending : MachineEnding) (gate : session.gate ≡ m.session.gate) (unlisted : ends_listing ending ≡ false)
      (right : (told : Told) (outcome : Outcome) → t.orders s.number ≡ Some told → reply_of ending ≡ Some outcome → IsRightBy attached (due session (released_point session.gate ending)) (live_there t s.number) s.number t.history told outcome) where
    pub ends_at : Looked_to (due session (released_point session.gate ending))
    ends_at =
        let n : Machine = due session (released_point session.gate ending) in
        let r : Releases t.world.tables session.gate ending = releases t.world.tables session.gate ending in
        goes_on t h s n t.world.gate free (awake t h s view seen stage at) r.plain
        (λ b x here e. absurd (let z : None ≡ Some x = sym r.calm ∙ e in cc)) r.fits (r.classed unlisted)
        (λ x e. absurd (let z : None ≡ Some x = sym r.calm ∙ e in cc))
        (λ b here. released_nowhere session.gate ending (told_by n mail b) ∙ sym (nowhere b here))
        (λ b here e. let z : Nowhere ≡ Leaving = sym (nowhere b here) ∙ e in cc)
        (λ u written e alive. absurd (let z : true ≡ false = sym (ap is_live alive) ∙ dead in cc))
        (ap request_in (clear_dead t h s.number dead) ∙ sym (ap (λ x. where_live x (wants_of n.point (stage_at n.point))) dead))
        (λ told outcome e f. right told outcome e (sym r.replies ∙ f))
        (λ is. r.under (t.orders s.number) is)
        (λ told e. r.order_at session told)
        (ap is_of_commit r.calm)
        refl (still t.world.gate t.world.machine m.session.gate session.gate gate (facts_of t h).counts) (λ x. ap in_commit (sym gate) ∙ x)
        (λ b here. ap (λ (p : Point). inserted_in (stage_at p) (told_by m mail b)) at ∙ ending_inserts stage (told_by m mail b) ends ∙ sym (ap (λ x. inserted_in x (told_by n mail b)) r.calm))
        (ap inserting_in r.calm)

  first_here : IsIn attached first.number
  first_here = is_found (is_attached attached) first there

  -- what a commit replies the single run has answered
  commit_right : (session : Session) (ending : MachineEnding) → is_of_commit (Some stage) ≡ true → ending ≡ Replies (commit_outcome m.session.status)
      → (told : Told) (outcome : Outcome) → t.orders s.number ≡ Some told → reply_of ending ≡ Some outcome → IsRightBy attached (due session (released_point session.gate ending)) (live_there t s.number) s.number t.history told outcome
  commit_right session ending commits is told outcome e f =
      inl (own_was.commits first.number told first_here e (ap (λ (p : Point). is_of_commit (stage_at p)) at ∙ commits) ∙ ap reply_of (sym is) ∙ f)

  commit_unlisted : (status : Status) → lists (commit_outcome status) ≡ false
  commit_unlisted Idle = refl
  commit_unlisted InBlock = refl
  commit_unlisted Failed = refl

  phase_of : (x : Stage) → stage ≡ x → FitsPoint (Some x) (LookDue x) m.session.gate
  phase_of x is = subst (λ (y : Stage). FitsPoint (Some y) (LookDue y) m.session.gate) is (subst (λ (p : Point). FitsPoint (stage_at p) p m.session.gate) at (h.inside s.number))

  commit_point : (phase : GatePhase) (ending : MachineEnding) → FitsPoint (Some Committing) (LookDue Committing) phase → released_point phase ending ≡ LeaveCommitDue ending
  commit_point phases.InCommit ending f = refl
  commit_point phases.Out ending f = absurd (cc)
  commit_point phases.InSnapshot ending f = absurd (cc)
  commit_point (phases.Live changed written) ending f = absurd (cc)

  close_point : (phase : GatePhase) (ending : MachineEnding) → FitsPoint (Some Closing) (LookDue Closing) phase → released_point phase ending ≡ FinishDue ending
  close_point (phases.Live changed written) ending f = refl
  close_point phases.InCommit ending f = absurd (cc)
  close_point phases.Out ending f = absurd (cc)
  close_point phases.InSnapshot ending f = absurd (cc)

  closes_in : (x : Stage) → stage ≡ x → (answer : Answer) → Looked_to (closed true looks x answer)
  closes_in Committing is answer =
      let ending : MachineEnding = Replies (commit_outcome m.session.status) in
      subst (λ p. Looked_to (due (idle looks) p)) (commit_point m.session.gate ending (phase_of Committing is))
      (ends_at (idle looks) ending refl (commit_unlisted m.session.status) (commit_right (idle looks) ending (ap (λ y. is_of_commit (Some y)) is) refl))
  closes_in Closing is answer =
      let ending : MachineEnding = Replies (commit_outcome m.session.status) in
      subst (λ p. Looked_to (due (idle looks) p)) (close_point m.session.gate ending (phase_of Closing is))
      (ends_at (idle looks) ending refl (commit_unlisted m.session.status) (commit_right (idle looks) ending (ap (λ y. is_of_commit (Some y)) is) refl))
  closes_in (RollingBack ending) is answer =
      let unlisted : ends_listing ending ≡ false = subst (IsClassedIn t.world.tables) is (class_in t.world.tables m.point stage (ap stage_at at) (h.classed s.number)) in
      subst Looked_to (sym (released_is looks m.session.gate ending))
      (ends_at looks ending refl unlisted
      (λ told outcome e f. right_moves attached m _ (live_there t s.number) s.number t.history told outcome (unlisted_in t.world.tables (RollingBack ending) outcome unlisted f)
      (own_was.replies told outcome e (reply_is m.point stage (ap stage_at at) ∙ ap reply_of_stage is ∙ f))))
  closes_in (Opening work) is answer = absurd (let z : false ≡ true = ap is_ending (sym is) ∙ ends in cc)
  closes_in (Reading work ticket) is answer = absurd (let z : false ≡ true = ap is_ending (sym is) ∙ ends in cc)
  closes_in (Running work) is answer = absurd (let z : false ≡ true = ap is_ending (sym is) ∙ ends in cc)
  closes_in (Locking work table) is answer = absurd (let z : false ≡ true = ap is_ending (sym is) ∙ ends in cc)
  closes_in (Inserting work posted) is answer = absurd (let z : false ≡ true = ap is_ending (sym is) ∙ ends in cc)

  -- nobody's answer is kept: the Look is due again
  stays_due : Looked_to (due looks (LookDue stage))
  stays_due =
      let n : Machine = due looks (LookDue stage) in
      quiet_holds t h s n t.world.gate (t.orders s.number) (t.done s.number) refl
      (still t.world.gate t.world.machine m.session.gate m.session.gate refl (facts_of t h).counts)
      (stands_silent t.world.tables attached t.history m n mail mail
      (λ c here. stand_same t.world.tables attached t.history t.world.store m mail mail (t.orders s.number) (t.done s.number) (live_there t s.number) s.number (real s) own_was n stage (ap stage_at at) refl refl refl (λ c. refl) c)
      (λ c here. ap (λ x. inserted_in x (told_by m mail c)) (ap stage_at at)) (inserts_same m n stage (ap stage_at at) refl) (λ e. e))
      (chain_own t.world.tables attached t.history t.world.store m mail mail (t.orders s.number) (t.done s.number) (live_there t s.number) s.number (real s) own_was n stage (ap stage_at at) refl refl refl (λ c. refl)
      (λ c p sound e. absurd (let line = own_was.asked c p sound e in free_of m.point free line.stage line.at line.waits))
      own_was.untold
      (λ c answer e. absurd (let line = (own_was.answer c answer e).1 in free_of m.point free line.stage line.at line.waits))
      (record {
        rising = order.rising;
        above = λ c e. absurd (let z : None ≡ Some c = e in cc);
        below = λ c d climbs here under_it told. order.below c d climbs here under_it (elim told [ inl e ↦ absurd (let z : None ≡ Some d = e in cc) | inr e ↦ inr e ]);
        one = λ single. absurd (let z : true ≡ false = sym (ending_up stage ends) ∙ single in cc);
      })
      (λ x best own among onward e. absurd (let z : LookDue stage ≡ SplitDue x best own among onward = e in cc))
      (λ c cause e. absurd (let z : actions.Gate calls.Look ≡ actions.Detach c cause = e in cc))
      (λ answer is any. absurd is))

  abbrev judged_by : Option Heard → Machine
  judged_by found = judged looks stage found

  kept_counts : (x : Heard) → is_kept attached m.session.heard x ≡ true → counts attached x ≡ true
  unfolding is_kept
  kept_counts x e = (and_true (counts attached x) (is_largest attached m.session.heard (group_size attached m.session.heard x.answer)) e).0

  judges : (found : Option Heard) → kept attached m.session.heard ≡ found
      → Looked_to (judged_by found)
  judges None e = stays_due
  judges (Some best) e =
      let k = found_among (is_kept attached m.session.heard) m.session.heard best e in
      let here : counts attached best ≡ true = kept_counts best k.0 in
      let is : best.answer ≡ answers.Done = counted_done best k.1 here in
      subst Looked_to
      (sym (ap (λ a. split true looks stage best view.attached (chain_goes_on a m.session.heard best.answer) (first_other a best.answer 0 m.session.heard)) (ap (λ (v : View). v.attached.bits) seen)
      ∙ ap (λ v. split true looks stage best view.attached v (first_other attached best.answer 0 m.session.heard)) (ap (λ (x : Option BackendId). not (is_refusal best.answer) && is_some x) open_none ∙ and_none (not (is_refusal best.answer)))
      ∙ ap (split true looks stage best view.attached false) (other_none best.answer is)))
      (closes_in stage refl best.answer)

  seen_same : view.attached.bits ≡ attached
  seen_same = seen_bits t h s view seen stage at

  shut_seen : next_of (kind_of stage) view.attached.bits m.session.heard ≡ None
  shut_seen = ap (λ k. next_of (kind_of stage) k m.session.heard) seen_same ∙ shut

  there_seen : lowest view.attached.bits ≡ Some first
  there_seen = ap lowest seen_same ∙ there

  pub look_closes : Invariant (tracked_after t (Of s (Called calls.Look (Seen view))))
  unfolding called granted asked
  look_closes =
      lands_call t s calls.Look (Seen view) t.world.gate (judged looks stage (kept attached m.session.heard)) t.history (t.orders s.number) (t.done s.number) refl refl
      (ap (granted looks) at ∙ ap (looked_at looks stage) there_seen ∙ looked_is looks stage (ending_up stage ends) ∙ ap (asked looks stage) shut_seen
      ∙ ap (λ k. judged looks stage (kept k m.session.heard)) seen_same)
      (places_none (live_there t s.number) t.world s.number m (Called calls.Look (Seen view)) t.history
      (ap (at_granted looks) at ∙ ending_places stage (closing_look looks stage (primary looks)) ends) refl
      (ap (refused_look looks) at ∙ ending_refused looks stage ends))
      refl refl (judges (kept attached m.session.heard) refl)

pub closes_kept : (t : Tracked) (s : SessionId) (answer : GateAnswer) (stage : Stage) (first : BackendId) → Invariant t → (t.world.machine s.number).point ≡ LookDue stage → is_ending stage ≡ true
    → next_of (kind_of stage) t.world.gate.attached.bits (t.world.machine s.number).session.heard ≡ None
    → lowest t.world.gate.attached.bits ≡ Some first
    → MayHappen t.world (Of s (Called calls.Look answer)) → Invariant (tracked_after t (Of s (Called calls.Look answer)))
closes_kept t s answer stage first h at ends shut there may =
    let v = seen_view answer may.0.1 in
    subst (λ (a : GateAnswer). Invariant (tracked_after t (Of s (Called calls.Look a)))) (sym v.1)
    (look_closes t h s v.0 (seen_is (view_of t.world.gate) v.0 (may.1.1 ∙ v.1)) stage at ends shut first there)

-- a Look of the chain of an ending: it shows no backend, the chain goes on, or closes
pub ending_kept : (t : Tracked) (s : SessionId) (answer : GateAnswer) (stage : Stage) → Invariant t → (t.world.machine s.number).point ≡ LookDue stage → is_ending stage ≡ true
    → MayHappen t.world (Of s (Called calls.Look answer)) → Invariant (tracked_after t (Of s (Called calls.Look answer)))
ending_kept t s answer stage h at ends may = by_first (lowest t.world.gate.attached.bits) refl
  where
    by_next : (first : BackendId) → lowest t.world.gate.attached.bits ≡ Some first → (next : Option BackendId) → next_of (kind_of stage) t.world.gate.attached.bits (t.world.machine s.number).session.heard ≡ next → Invariant (tracked_after t (Of s (Called calls.Look answer)))
    by_next first there None e = closes_kept t s answer stage first h at ends e there may
    by_next first there (Some b) e = goes_on_kept t s answer stage b h at (ending_up stage ends) e may

    by_first : (first : Option BackendId) → lowest t.world.gate.attached.bits ≡ first → Invariant (tracked_after t (Of s (Called calls.Look answer)))
    by_first None e = strands_kept t s answer stage h at (nobody_attached t.world.gate.attached.bits h.few e) may
    by_first (Some first) e = by_next first e (next_of (kind_of stage) t.world.gate.attached.bits (t.world.machine s.number).session.heard) refl
