-- A view without attached backends: what is due at the gate, and 57P03.
use Rattle.std.proofs.Common.{◌≡◌, ℕ, Bool, true, false, List, refl, sym, ap, ◌∙◌, inr}
use Rattle.std.specs.Prelude.{Option, Some, None, is_some}
use Rattle.pool_base.specs.Sets.{has}
use Rattle.pool_base.specs.declared.session_id.SessionId.{SessionId}
use Rattle.schema.specs.declared.catalogue.TableDef.{TableDef}
use Rattle.backend_trait.specs.Rows.{with_at}
use Rattle.backend_trait.specs.Store.{Live, Transaction, Alive}
use Rattle.snapshot_gate.specs.declared.state.GateState.{GateState}
use Rattle.session_orders.specs.declared.outcome.Outcome.{Outcome}
use Rattle.session_machine.specs.declared.machine.GatePhase.{GatePhase}
use Rattle.session_machine.specs.declared.machine.GatePhase.TheVariants as phases
use Rattle.session_machine.specs.declared.machine.Machine.{Machine}
use Rattle.session_machine.specs.declared.machine.Session.{Session}
use Rattle.session_machine.specs.declared.machine.Ending.{Ending as MachineEnding}
use Rattle.session_machine.specs.declared.machine.Ending.TheVariants.{Replies, Leaves as EndsWith}
use Rattle.session_machine.specs.declared.machine.Stage.{Stage}
use Rattle.session_machine.specs.declared.machine.Point.{Point}
use Rattle.session_machine.specs.declared.machine.Point.TheVariants.{Resting, UnwindDue, LeaveCommitDue, FinishDue, ReplyDue, EndDue}
use Rattle.session_machine.specs.Rules.{due}
use Rattle.one_copy_model.specs.declared.deed.Entry.{Entry}
use Rattle.one_copy_model.specs.Deaths.{is_live, stage_at}
use Rattle.one_copy_model.specs.Tracking.{Told, Tracked, single, in_commit}
use Rattle.one_copy_model.specs.Orders.{OrderAt, reply_in, reply_of, is_of_commit, IsClassedAt, ends_listing}
use Rattle.one_copy_model.specs.Invariant.{Invariant, FitsPoint, where_live, wants_of, request_in, IsUnderWay, inserting_in}
use Rattle.one_copy_model.specs.Own.{IsIn, IsRightBy, pools_backends}
use Rattle.one_copy_model.proofs.Counts.{Moves}
use Rattle.one_copy_model.proofs.Turning.{live_there}
use Rattle.one_copy_model.proofs.Calm.{is_waiting}
use Rattle.one_copy_model.proofs.Beginning.{is_plain}
use Rattle.one_copy_model.proofs.Livings.{clear_dead}
use Rattle.one_copy_model.proofs.Livings.{none_of}
use Rattle.one_copy_laws.proofs.GateGoing.{goes_on, none_lives}
use Rattle.session_machine.specs.Codes.{no_backend}
use Rattle.session_machine.specs.Rules.{released, error_of}

abbrev pub released_point : GatePhase → MachineEnding → Point
released_point phases.Out (Replies outcome) = ReplyDue outcome
released_point phases.Out EndsWith = EndDue
released_point phases.InSnapshot ending = UnwindDue ending
released_point (phases.Live changed written) ending = FinishDue ending
released_point phases.InCommit ending = LeaveCommitDue ending

pub released_is : (session : Session) (phase : GatePhase) (ending : MachineEnding) → released session phase ending ≡ due session (released_point phase ending)
released_is session phases.Out (Replies outcome) = refl
released_is session phases.Out EndsWith = refl
released_is session phases.InSnapshot ending = refl
released_is session (phases.Live changed written) ending = refl
released_is session phases.InCommit ending = refl

pub record Releases (tables : List TableDef) (phase : GatePhase) (ending : MachineEnding) : Type 0 where
  pub plain : is_plain (released_point phase ending) ≡ true
  pub calm : stage_at (released_point phase ending) ≡ None
  pub fits : FitsPoint (stage_at (released_point phase ending)) (released_point phase ending) phase
  pub classed : ends_listing ending ≡ false → IsClassedAt tables (released_point phase ending)
  pub under : (told : Option Told) → is_some told ≡ true → IsUnderWay (released_point phase ending) told
  pub order_at : (session : Session) (told : Told) → OrderAt session (released_point phase ending) told
  pub replies : reply_in (released_point phase ending) ≡ reply_of ending
  pub wants : wants_of (released_point phase ending) (stage_at (released_point phase ending)) ≡ None

pub releases : (tables : List TableDef) → (phase : GatePhase) (ending : MachineEnding) → Releases tables phase ending
releases tables phases.Out (Replies outcome) = record { plain = refl; calm = refl; fits = refl; classed = λ e. tt; under = λ told is. is; order_at = λ session told. tt; replies = refl; wants = refl }
releases tables phases.Out EndsWith = record { plain = refl; calm = refl; fits = refl; classed = λ e. tt; under = λ told is. is; order_at = λ session told. tt; replies = refl; wants = refl }
releases tables phases.InSnapshot ending = record { plain = refl; calm = refl; fits = refl; classed = λ e. e; under = λ told is. is; order_at = λ session told. tt; replies = refl; wants = refl }
releases tables (phases.Live changed written) ending = record { plain = refl; calm = refl; fits = refl; classed = λ e. e; under = λ told is. is; order_at = λ session told. tt; replies = refl; wants = refl }
releases tables phases.InCommit ending = record { plain = refl; calm = refl; fits = refl; classed = λ e. e; under = λ told is. is; order_at = λ session told. tt; replies = refl; wants = refl }

alive_dead : (x : Transaction) (u : Live) → is_live x ≡ false → x ≡ Alive u → ⊥
alive_dead x u e f = let z : true ≡ false = sym (ap is_live f) ∙ e in cc

no_stage : (found : Option Stage) (stage : Stage) → found ≡ None → found ≡ Some stage → ⊥
no_stage found stage e f = let z : None ≡ Some stage = sym e ∙ f in cc

-- nobody is attached: what is due at the gate stays due, and nothing is asked there any more
module _ (t : Tracked) (h : Invariant t) (s : SessionId) (session : Session) (next : GateState) (ending : MachineEnding)
    (free : is_waiting (t.world.machine s.number).point ≡ false)
    (awake : (t.world.machine s.number).point ≡ Resting → ⊥)
    (none : (b : ℕ) → IsIn t.world.gate.attached.bits b → ⊥)
    (unlisted : ends_listing ending ≡ false)
    (right : (told : Told) (outcome : Outcome) → t.orders s.number ≡ Some told → reply_of ending ≡ Some outcome
    → IsRightBy t.world.gate.attached.bits (due session (released_point session.gate ending)) (live_there t s.number) s.number t.history told outcome) where
  pub strands : next.attached ≡ t.world.gate.attached
      → Moves t.world.gate next (t.world.machine s.number).session.gate session.gate
      → (in_commit session.gate ≡ true → in_commit (t.world.machine s.number).session.gate ≡ true)
      → Invariant (record { world = record { tables = t.world.tables; gate = next; machine = with_at t.world.machine s.number (due session (released_point session.gate ending)); store = t.world.store; mail = t.world.mail }; history = t.history; orders = with_at t.orders s.number (t.orders s.number); done = with_at t.done s.number (t.done s.number) })
  strands attached moves commits =
      let n : Machine = due session (released_point session.gate ending) in
      let r : Releases t.world.tables session.gate ending = releases t.world.tables session.gate ending in
      let dead : live_there t s.number ≡ false = none_lives t h s.number none in
      goes_on t h s n next free awake r.plain
      (λ b stage at e. absurd (none b at)) r.fits (r.classed unlisted)
      (λ stage e. absurd (no_stage (stage_at n.point) stage r.calm e))
      (λ b at. absurd (none b at)) (λ b at e. none b at)
      (λ u written e alive. absurd (alive_dead ((single t).transaction s.number) u dead alive))
      (ap request_in (clear_dead t h s.number dead) ∙ sym (ap (λ x. where_live x (wants_of n.point (stage_at n.point))) dead))
      (λ told outcome e f. right told outcome e (sym r.replies ∙ f))
      (λ is. r.under (t.orders s.number) is)
      (λ told e. r.order_at session told)
      (ap is_of_commit r.calm)
      attached moves commits (λ b at. absurd (none b at)) (ap inserting_in r.calm)

-- the pool's own reply then
pub right_nobody : (attached : ℕ) (m : Machine) (live : Bool) (s : ℕ) (history : List Entry) (told : Told) (outcome : Outcome) → ((b : ℕ) → IsIn attached b → ⊥) → live ≡ false
    → Some (error_of no_backend) ≡ Some outcome → IsRightBy attached m live s history told outcome
right_nobody attached m live s history told outcome none dead e =
    inr (pools_backends (λ b below. none_of (has attached b) (none b)) dead (let z : outcome ≡ error_of no_backend = sym (same (error_of no_backend) outcome e) in z))
  where
    same : (a b : Outcome) → Some a ≡ Some b → a ≡ b
    same a b e = cc
