-- A Look at which a read has no answer of an attached backend: the choice is made again.
use Rattle.std.proofs.Common.{◌≡◌, ℕ, Bool, true, false, List, [], ◌∷◌, refl, sym, ap, ◌∙◌, subst}
use Rattle.std.specs.Prelude.{Option, Some, None, if◌then◌else◌}
use Rattle.pool_base.specs.declared.session_id.SessionId.{SessionId}
use Rattle.pool_base.specs.declared.backend_id.BackendId.{BackendId}
use Rattle.pool_base.specs.declared.gate_call.GateCall.TheVariants as calls
use Rattle.pool_base.specs.declared.gate_call.GateAnswer.{GateAnswer}
use Rattle.pool_base.specs.declared.gate_call.GateAnswer.TheVariants.{Seen}
use Rattle.backend_trait.specs.declared.answer.Answer.{Answer}
use Rattle.snapshot_gate.specs.Function.{view_of}
use Rattle.session_machine.specs.declared.action.SessionEvent.TheVariants.{Called}
use Rattle.session_machine.specs.declared.work.Work.{Work}
use Rattle.session_machine.specs.declared.machine.GatePhase.TheVariants as phases
use Rattle.session_machine.specs.declared.machine.Heard.{Heard}
use Rattle.session_machine.specs.declared.machine.Machine.{Machine}
use Rattle.session_machine.specs.declared.machine.Session.{Session}
use Rattle.session_machine.specs.declared.machine.Stage.{Stage}
use Rattle.session_machine.specs.declared.machine.Stage.TheVariants.{Reading}
use Rattle.session_machine.specs.declared.machine.Point.{Point}
use Rattle.session_machine.specs.declared.machine.Point.TheVariants.{Resting, LookDue, PostDue}
use Rattle.session_machine.specs.Answers.{lowest, counts, reader}
use Rattle.session_machine.specs.Rules.{due, called, granted, with_view, primary, looked_at, closed, read, chosen, reading_at}
use Rattle.one_copy_model.specs.declared.event.Event.TheVariants.{Of}
use Rattle.one_copy_model.specs.World.{MayHappen}
use Rattle.one_copy_model.specs.Places.{at_granted, where_decided, closing_look, closing_read, read_answer, refused_look}
use Rattle.one_copy_model.specs.Deaths.{stage_at, heard_from, mail_or}
use Rattle.one_copy_model.specs.Tracking.{Told, Tracked, tracked_after}
use Rattle.one_copy_model.specs.Chains.{IsInOrder}
use Rattle.one_copy_model.specs.Orders.{OrderAt, IsStatement, IsClassedAt}
use Rattle.one_copy_model.specs.Standing.{Ahead, Leaving, same as as_there, standing_in, standing_by}
use Rattle.one_copy_model.specs.Invariant.{Invariant, FitsPoint, where_live, wants_of, inserted_in}
use Rattle.one_copy_model.specs.Own.{told_by, stand, IsIn, Own}
use Rattle.one_copy_model.proofs.Counts.{still}
use Rattle.one_copy_model.proofs.Turning.{facts_of, live_there}
use Rattle.one_copy_model.proofs.Landing.{places_none}
use Rattle.one_copy_model.proofs.Calm.{free_of, is_waiting}
use Rattle.one_copy_model.proofs.Quiet.{real}
use Rattle.one_copy_model.proofs.Beginning.{no_mail}
use Rattle.one_copy_laws.proofs.GateCalling.{called_to, lands_call}
use Rattle.one_copy_laws.proofs.GateGoing.{goes_on}
use Rattle.one_copy_laws.proofs.LooksChoosing.{reader_some}
use Rattle.one_copy_laws.proofs.LooksEndings.{same_test}
use Rattle.one_copy_laws.proofs.ResultsRefusing.{dies_open, look_at}

-- who has answered and counts would be heard
first_counts : (attached : ℕ) (x : Heard) (xs : List Heard) → ((b : ℕ) → IsIn attached b → heard_from (x ∷ xs) b ≡ None) → counts attached x ≡ false
first_counts attached x xs none = by (counts attached x) refl
  where
    by : (v : Bool) → counts attached x ≡ v → v ≡ false
    by false e = refl
    by true e = absurd (let z : Some x.answer ≡ None = sym (ap (λ (v : Bool). if v then Some x.answer else heard_from xs x.b.number) (same_test x.b.number)) ∙ none x.b.number e in cc)

read_again : (session : Session) (work : Work) (ticket : ℕ) (hs : List Heard) → ((b : ℕ) → IsIn session.view.attached.bits b → heard_from hs b ≡ None) → read session work ticket hs ≡ chosen session work ticket
read_again session work ticket [] none = refl
read_again session work ticket (x ∷ xs) none =
    ap (λ (v : Bool). if v then closed true session (Reading work ticket) x.answer else chosen session work ticket) (first_counts session.view.attached.bits x xs none)

reads_nothing : (session : Session) (hs : List Heard) → ((b : ℕ) → IsIn session.view.attached.bits b → heard_from hs b ≡ None) → closing_read session hs ≡ None
reads_nothing session [] none = refl
reads_nothing session (x ∷ xs) none = ap (λ (v : Bool). read_answer v x.answer) (first_counts session.view.attached.bits x xs none)

module _ (t : Tracked) (h : Invariant t) (s : SessionId) (work : Work) (ticket : ℕ) (at : (t.world.machine s.number).point ≡ LookDue (Reading work ticket))
    (first : BackendId) (there : lowest t.world.gate.attached.bits ≡ Some first)
    (none : (b : ℕ) → IsIn t.world.gate.attached.bits b → heard_from (t.world.machine s.number).session.heard b ≡ None) where
  abbrev m : Machine
  m = t.world.machine s.number

  abbrev attached : ℕ
  attached = t.world.gate.attached.bits

  abbrev mail : ℕ → Option Answer
  mail = t.world.mail s.number

  abbrev stage : Stage
  stage = Reading work ticket

  abbrev looks : Session
  looks = with_view m.session (view_of t.world.gate)

  own_was : Own t.world.tables attached t.history t.world.store m mail (t.orders s.number) (t.done s.number) (live_there t s.number) s.number
  own_was = (facts_of t h).own s.number

  reads : (b : BackendId) × (reader looks.policy attached ticket ≡ Some b)
  reads = reader_some looks.policy attached ticket first there

  abbrev n : Machine
  n = due (record looks { heard = [] }) (PostDue stage reads.0)

  mail_none : (b : ℕ) → mail b ≡ None
  mail_none b = no_mail t.world.tables attached t.history t.history t.world.store m mail (t.orders s.number) (t.done s.number) (live_there t s.number) s.number (real s) (free_of m.point (ap is_waiting at)) own_was b

  untold : (b : ℕ) → told_by n mail b ≡ None
  untold b = ap (λ x. mail_or x None) (mail_none b)

  as_was : (b : ℕ) → IsIn attached b → stand m mail b ≡ as_there
  as_was b here =
      ap (λ (p : Point). standing_by m.session.gate p (stage_at p) (told_by m mail b)) at
      ∙ ap (standing_in stage) (ap (λ x. mail_or x (heard_from m.session.heard b)) (mail_none b) ∙ none b here)

  inside : (changed : Bool) × (written : ℕ) × (m.session.gate ≡ phases.Live changed written)
  inside = dies_open stage (LookDue stage) m.session.gate work refl (subst (λ (p : Point). FitsPoint (stage_at p) p m.session.gate) at own_was.inside)

  order : (other : Stage) → stage_at n.point ≡ Some other → IsInOrder attached n other
  order other e = subst (IsInOrder attached n) (let z : Some stage ≡ Some other = e in let same : stage ≡ other = cc in same)
      (record { rising = tt; above = λ c e. tt; below = λ c d up here under_it told. absurd (let z : false ≡ true = up in cc); one = λ single. refl })

  statement : (told : Told) → t.orders s.number ≡ Some told → IsStatement n.session told work
  statement told e =
      let o : IsStatement m.session told work = subst (λ (p : Point). OrderAt m.session p told) at (own_was.order_is told e) in
      record { checked = o.checked; body = o.body; written = o.written; status = o.status }

  reads_on : Invariant (called_to t s calls.Look (Seen (view_of t.world.gate)) t.world.gate n t.history (t.orders s.number) (t.done s.number))
  reads_on =
      goes_on t h s n t.world.gate (ap is_waiting at) (λ rest. let z : LookDue stage ≡ Resting = sym at ∙ rest in cc) refl
      (λ c x here e. untold c)
      (subst (FitsPoint (Some stage) n.point) (sym inside.2) refl)
      (subst (IsClassedAt t.world.tables) at own_was.classed)
      order
      (λ c here. ap (standing_in stage) (untold c) ∙ sym (as_was c here))
      (λ c here e. let z : Ahead [] ≡ Leaving = sym (as_was c here) ∙ e in cc)
      own_was.unchanged
      (own_was.posts ∙ ap (λ (p : Point). where_live (live_there t s.number) (wants_of p (stage_at p))) at)
      (λ told outcome e f. absurd (let z : None ≡ Some outcome = f in cc))
      (λ is. is)
      statement
      refl refl (still t.world.gate t.world.machine m.session.gate m.session.gate refl (facts_of t h).counts) (λ x. x)
      (λ c here. ap (λ (p : Point). inserted_in (stage_at p) (told_by m mail c)) at)
      refl

  leads : looked_at looks stage (primary looks) ≡ n
  leads = ap (looked_at looks stage) there ∙ read_again looks work ticket m.session.heard none ∙ ap (reading_at looks work ticket) reads.1

  decides : closing_look looks stage (primary looks) ≡ None
  decides = ap (closing_look looks stage) there ∙ reads_nothing looks m.session.heard none

  reread_looked : Invariant (tracked_after t (Of s (Called calls.Look (Seen (view_of t.world.gate)))))
  unfolding called granted
  reread_looked =
      lands_call t s calls.Look (Seen (view_of t.world.gate)) t.world.gate n t.history (t.orders s.number) (t.done s.number) refl refl
      (ap (granted looks) at ∙ leads)
      (places_none (live_there t s.number) t.world s.number m (Called calls.Look (Seen (view_of t.world.gate))) t.history
      (ap (at_granted looks) at ∙ ap (where_decided stage) decides) refl (ap (refused_look looks) at))
      refl refl reads_on

pub reread_kept : (t : Tracked) (s : SessionId) (answer : GateAnswer) (work : Work) (ticket : ℕ) → Invariant t
    → (t.world.machine s.number).point ≡ LookDue (Reading work ticket)
    → ((b : ℕ) → IsIn t.world.gate.attached.bits b → heard_from (t.world.machine s.number).session.heard b ≡ None)
    → MayHappen t.world (Of s (Called calls.Look answer)) → Invariant (tracked_after t (Of s (Called calls.Look answer)))
reread_kept t s answer work ticket h at none may = look_at t s answer (Reading work ticket) h at may (λ first there. reread_looked t h s work ticket at first there none)
