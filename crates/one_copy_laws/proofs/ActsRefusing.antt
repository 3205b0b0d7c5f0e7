-- A store refuses: the transaction dies here, and with the last one that is alive there.
use Rattle.std.proofs.Common.{◌≡◌, ℕ, zero, suc, ℤ, Bool, true, false, List, refl, sym, ap, ◌∙◌, subst, inl, inr}
use Rattle.std.specs.Prelude.{◌&&◌, not, if◌then◌else◌, Option, Some, None}
use Rattle.pool_base.specs.Sets.{has}
use Rattle.pool_base.specs.declared.code.Code.{Code}
use Rattle.pool_base.specs.declared.session_id.SessionId.{SessionId}
use Rattle.pool_base.specs.declared.backend_id.BackendId.{BackendId}
use Rattle.backend_trait.specs.declared.answer.Answer.{Answer}
use Rattle.backend_trait.specs.declared.answer.Answer.TheVariants as answers
use Rattle.backend_trait.specs.declared.request.Request.{Request}
use Rattle.backend_trait.specs.Store.{Live, Transaction, Alive, Dead, Pending, Store, drawn, held_by}
use Rattle.backend_trait.specs.Acts.{IsOf}
use Rattle.session_machine.specs.Answers.{lowest}
use Rattle.session_machine.specs.declared.machine.Stage.{Stage}
use Rattle.session_machine.specs.declared.machine.Stage.TheVariants.{Opening, Reading, Running, Locking, Inserting, Committing, Closing, RollingBack}
use Rattle.session_machine.specs.declared.machine.Point.TheVariants.{Waiting}
use Rattle.session_machine.specs.declared.work.Work.{Work}
use Rattle.session_machine.specs.Rules.{request_of}
use Rattle.one_copy_model.specs.declared.deed.Deed.{Deed}
use Rattle.one_copy_model.specs.declared.deed.Entry.{Entry}
use Rattle.one_copy_model.specs.declared.event.Event.TheVariants.{Act}
use Rattle.one_copy_model.specs.Marks.{marked}
use Rattle.one_copy_model.specs.World.{World, after}
use Rattle.one_copy_model.specs.SingleRun.{store_after, after_answer}
use Rattle.one_copy_model.specs.Deaths.{is_live, is_alive, is_alive_at, stage_at, code_of_lowest, death_of, death_in, recorded, fell, fallen}
use Rattle.one_copy_model.specs.Tracking.{Told, Tracked, single, tracked_after}
use Rattle.one_copy_model.specs.Chains.{is_unposted}
use Rattle.one_copy_model.specs.Standing.{Fallen, Stands, standing_in, leaving_of}
use Rattle.one_copy_model.specs.Invariant.{Invariant, IsHere, HasReason, numbers_behind}
use Rattle.one_copy_model.proofs.Places.{same_or_other, with_at-same, with_at-other}
use Rattle.one_copy_model.proofs.Turning.{FactsOf}
use Rattle.one_copy_laws.proofs.PostsStoring.{below_same}
use Rattle.one_copy_laws.proofs.FallsDying.{falls_kept}
use Rattle.one_copy_laws.specs.Acted.{with_answer, InsertedBehind}
use Rattle.one_copy_laws.proofs.ActsActing.{is_leaving, facts_behind, marks_behind, act_lands}
use Rattle.one_copy_laws.proofs.ActsSettling.{none_held, settles, IsSettled, settled_acts}
use Rattle.one_copy_laws.proofs.ActsBeginning.{acted_is}

-- who dies is read off who is alive, and off what was answered: the marks of a store have no part in it
module _ (w : World) (f : ℕ → Store) (same : (s : ℕ) → is_alive (record { tables = w.tables; gate = w.gate; machine = w.machine; store = f; mail = w.mail }) s ≡ is_alive w s) where
  abbrev v : World
  v = record { tables = w.tables; gate = w.gate; machine = w.machine; store = f; mail = w.mail }

  lowest_same : (s : ℕ) (b : Option BackendId) → code_of_lowest v s b ≡ code_of_lowest w s b
  lowest_same s None = refl
  lowest_same s (Some b) = refl

  death_same : (s : ℕ) (stage : Option Stage) → death_in v s stage ≡ death_in w s stage
  death_same s (Some (Inserting work posted)) = ap (death_of work) (lowest_same s (lowest w.gate.attached.bits))
  death_same s (Some (Opening work)) = refl
  death_same s (Some (Reading work ticket)) = refl
  death_same s (Some (Running work)) = refl
  death_same s (Some (Locking work table)) = refl
  death_same s (Some Committing) = refl
  death_same s (Some Closing) = refl
  death_same s (Some (RollingBack ending)) = refl
  death_same s None = refl

  fell_same : (s : ℕ) (h : List Entry) → fell v s h ≡ fell w s h
  fell_same s h =
      ap (λ a. if is_live ((store_after w.tables h).transaction s) && not a then recorded s (death_in v s (stage_at (w.machine s).point)) h else h) (same s)
      ∙ ap (λ (d : List Deed). if is_live ((store_after w.tables h).transaction s) && not (is_alive w s) then recorded s d h else h) (death_same s (stage_at (w.machine s).point))

  pub fallen_same : (h : List Entry) (n : ℕ) → fallen v h n ≡ fallen w h n
  unfolding fallen
  fallen_same h zero = refl
  fallen_same h (suc n) = ap (fell_v n) (fallen_same h n) ∙ fell_same n (fallen w h n)
    where
      fell_v : ℕ → List Entry → List Entry
      fell_v s g = fell v s g

-- the store marks behind the deaths, which is the same as before them
module _ (t : Tracked) (s : SessionId) (b : BackendId) (answer : Answer) (x : Store) (is : x ≡ after_answer (t.world.store b.number) s.number answer) where
  abbrev mid : Tracked
  mid = with_answer t s.number b.number answer x

  abbrev behind : World
  behind = after t.world (Act s b answer)

  transactions : (k : ℕ) → (behind.store k).transaction ≡ (mid.world.store k).transaction
  transactions k = elim (same_or_other k b.number) [
    | inl here ↦ ap (λ j. (behind.store j).transaction) here
        ∙ ap (λ (y : Store). y.transaction) (with_at-same t.world.store b.number (marked (after_answer (t.world.store b.number) s.number answer)))
        ∙ sym (ap (λ (y : Store). y.transaction) is)
        ∙ sym (ap (λ (y : Store). y.transaction) (with_at-same t.world.store b.number x))
        ∙ ap (λ j. (mid.world.store j).transaction) (sym here)
    | inr off ↦ ap (λ (y : Store). y.transaction) (with_at-other t.world.store b.number (marked (after_answer (t.world.store b.number) s.number answer)) k off)
        ∙ sym (ap (λ (y : Store). y.transaction) (with_at-other t.world.store b.number x k off))
  ]

  alive_marked : (o : ℕ) → is_alive behind o ≡ is_alive mid.world o
  unfolding is_alive
  alive_marked o = below_same (is_alive_at behind o) (is_alive_at mid.world o) (λ k. ap (λ (g : ℕ → Transaction). has t.world.gate.attached.bits k && is_live (g o)) (transactions k)) 8

  pub falls_behind : (first : ℕ) → FactsOf mid → IsHere t.world first → Invariant (tracked_after t (Act s b answer))
  falls_behind first facts there =
      subst (λ (history : List Entry). Invariant (record { world = behind; history = history; orders = t.orders; done = mid.done }))
      (sym (fallen_same mid.world behind.store alive_marked t.history 65))
      (marks_behind t s b answer x is (fallen mid.world t.history 65) (falls_kept mid.world t.history t.orders mid.done first facts there))

no_live : {A : Type 0} (l : Live) → Dead ≡ Alive l → A
no_live l e = absurd (cc)

module _ (t : Tracked) (h : Invariant t) (s : SessionId) (b : BackendId) (p : Pending) (waits : (t.world.store b.number).pending s.number ≡ Some p)
    (stage : Stage) (at : BackendId) (waiting : (t.world.machine s.number).point ≡ Waiting stage at) (number : at.number ≡ b.number)
    (request : Request) (is : p.request ≡ request) (asks : request ≡ request_of stage) (code : Code)
    (still : is_leaving (standing_in stage None) ≡ false) (form : IsOf (request_of stage) (answers.Refused code)) (posted : is_unposted stage ≡ false)
    (stands : standing_in stage (Some (answers.Refused code)) ≡ Fallen) where
  abbrev st : Store
  st = t.world.store b.number

  abbrev answer_is : Answer
  answer_is = answers.Refused code

  abbrev next : ℕ → Option ℤ
  next = drawn st.tables st.next request

  abbrev y : Store
  y = settles st s.number Dead next

  leaves_is : y ≡ after_answer st s.number answer_is
  leaves_is = acted_is st s.number answer_is p request waits is

  module _ (reasons : IsHere t.world b.number → (by : Told) → t.orders s.number ≡ Some by → HasReason t.world.tables stage s.number code by.entries t.history)
      (numbers : IsHere t.world b.number → (table : ℕ) → ((o : ℕ) (work : Work) → ¬ (InsertedBehind t s.number b.number answer_is o table work)) → next table ≡ (single t).next table)
      (ahead : IsHere t.world b.number → (o table : ℕ) (work : Work) → InsertedBehind t s.number b.number answer_is o table work → next table ≡ numbers_behind (single t) o work table) where
    refused_settled : IsSettled t s b stage answer_is Dead
    refused_settled = record {
      still = still;
      form = form;
      posted = posted;
      bases = λ l e. no_live l e;
      changes = λ l q row e. no_live l e;
      closes = λ in_it l e is. no_live l is;
      heard = λ in_it. record { form = form; posted = posted; result = λ e. absurd (let z : true ≡ false = e in cc) };
      stands = λ in_it. subst (λ z. Stands (single t) s.number (leaving_of t.world.tables s.number t.history) z Dead ((single t).transaction s.number)) (sym stands) refl;
      reasons = λ in_it by c e f. subst (λ c. HasReason t.world.tables stage s.number c by.entries t.history) (let same_code : code ≡ c = cc in same_code) (reasons in_it by e);
      apart = λ in_it o other c. none_held (held_by (st.transaction o)) c;
      changed = λ in_it l q e. no_live l e;
      fresh = λ in_it l q e. no_live l e;
      stale = λ in_it l u e. no_live l e;
    }

    refused_facts : FactsOf (with_answer t s.number b.number answer_is y)
    refused_facts =
        facts_behind t h s b p waits stage at waiting number answer_is (is ∙ asks) y
        (settled_acts t h s b p waits stage at waiting number answer_is Dead next refused_settled numbers ahead)

    pub refused_holds : Invariant (tracked_after t (Act s b answer_is))
    refused_holds = by (has t.world.gate.attached.bits b.number) refl
      where
        by : (v : Bool) → has t.world.gate.attached.bits b.number ≡ v → Invariant (tracked_after t (Act s b answer_is))
        by false off = act_lands t s b answer_is y h leaves_is refused_facts (λ in_it. absurd (let z : true ≡ false = sym in_it ∙ off in cc))
        by true in_it = falls_behind t s b answer_is y leaves_is b.number refused_facts in_it
