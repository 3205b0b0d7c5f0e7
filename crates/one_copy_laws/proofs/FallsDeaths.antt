-- A death in the single run: what it leaves, and that a death before it leaves nobody live.
use Rattle.std.proofs.Common.{◌≡◌, ◌≢◌, ℕ, ◌≤◌, Bool, true, false, List, [], ◌∷◌, length, refl, sym, ap, ◌∙◌, ℤ, subst, arith, inl, inr}
use Rattle.std.specs.Prelude.{◌==◌, Option, Some, None, if◌then◌else◌}
use Rattle.std.proofs.lemmas.Bool.Decides.{eqb_tells}
use Rattle.pool_base.specs.declared.code.Code.{Code}
use Rattle.schema.specs.declared.catalogue.TableDef.{TableDef}
use Rattle.backend_trait.specs.declared.request.Request.{Request}
use Rattle.backend_trait.specs.declared.request.Request.TheVariants as requests
use Rattle.backend_trait.specs.declared.answer.Answer.{Answer}
use Rattle.catalogue.specs.declared.checked.Checked.{Checked}
use Rattle.classifier.specs.Classes.{lock_of}
use Rattle.backend_trait.specs.Effect.{nothing}
use Rattle.backend_trait.specs.Rows.{with_at}
use Rattle.backend_trait.specs.Store.{Live, Transaction, Absent, Alive, Dead, Pending, Store, IsLocked, where_live, made_stale, settled, committed_by, answered, refused, is_refusal, drawn, drawn_by, request_in as waiting_in}
use Rattle.backend_trait.specs.Acting.{acted_by, drawn_waiting}
use Rattle.session_machine.specs.declared.work.Class.{Class}
use Rattle.session_machine.specs.declared.work.Class.TheVariants as classes
use Rattle.session_machine.specs.declared.work.Work.{Work}
use Rattle.session_machine.specs.declared.machine.Stage.{Stage}
use Rattle.session_machine.specs.declared.machine.Stage.TheVariants.{Opening, Reading, Running, Locking, Inserting, Committing, Closing, RollingBack}
use Rattle.session_machine.specs.declared.machine.Point.{Point}
use Rattle.session_machine.specs.declared.machine.Point.TheVariants.{Resting, EnterDue, LookDue, PostDue, Waiting, LostDue, SplitDue, ChooseDue, ShowDue, LeaveSnapshotDue, UnwindDue, EnterCommitDue, LeaveCommitDue, FinishDue, ReplyDue, EndDue}
use Rattle.one_copy_model.specs.declared.deed.Deed.{Deed}
use Rattle.one_copy_model.specs.declared.deed.Deed.TheVariants.{Asks, Gets, Falls}
use Rattle.one_copy_model.specs.declared.deed.Entry.{Entry}
use Rattle.one_copy_model.specs.Marks.{with_mark, marked}
use Rattle.one_copy_model.specs.SingleRun.{store_after, after_death, done_by, IsRun, is_fall}
use Rattle.one_copy_model.specs.Places.{asks_as, asks_of}
use Rattle.one_copy_model.specs.Orders.{IsClassed, IsClassedIn, IsClassedAt}
use Rattle.one_copy_model.specs.Deaths.{is_live, stage_at}
use Rattle.one_copy_model.specs.Invariant.{AtDeath, AtDeathIf, asks_at, wants_of, request_in}
use Rattle.one_copy_model.proofs.Places.{with_at-same, with_at-other}
use Rattle.one_copy_model.proofs.Deeds.{entry, deed_passes}
use Rattle.one_copy_model.proofs.Endings.{Ends}
use Rattle.backend_trait.proofs.Moved.{IsMovedBy, run_moved}
use Rattle.one_copy_laws.proofs.MarksWanting.{unlocked}

-- what a work asks for there draws nothing: a serial insert asks for its table's lock, and another draws no number
no_numbers : (tables : List TableDef) (next : ℕ → Option ℤ) (checked : Checked) → lock_of checked.body ≡ None → drawn_by tables checked next ≡ next
no_numbers tables next checked none =
    let moved : IsMovedBy nothing next (drawn_by tables checked next) = run_moved tables nothing next checked (subst (IsLocked nothing) (sym none) tt) in
    λ i t. moved.same t refl i

asks_none_as : (tables : List TableDef) (next : ℕ → Option ℤ) (work : Work) (class : Class) → work.class ≡ class → IsClassed tables work
    → drawn tables next (asks_as work.statement class) ≡ next
asks_none_as tables next work classes.Read is c = no_numbers tables next work.statement (unlocked tables work classes.Read c is refl)
asks_none_as tables next work classes.LockingRead is c = no_numbers tables next work.statement (unlocked tables work classes.LockingRead c is refl)
asks_none_as tables next work (classes.Write verb) is c = no_numbers tables next work.statement (unlocked tables work (classes.Write verb) c is refl)
asks_none_as tables next work (classes.SerialInsert table) is c = refl

asks_none : (tables : List TableDef) (next : ℕ → Option ℤ) (work : Work) → IsClassed tables work → drawn tables next (asks_of work) ≡ next
asks_none tables next work c = asks_none_as tables next work work.class refl c

stage_asks : (tables : List TableDef) (next : ℕ → Option ℤ) (stage : Stage) → IsClassedIn tables stage → drawn_waiting tables next (asks_at stage) ≡ next
stage_asks tables next (Opening work) c = refl
stage_asks tables next (Reading work ticket) c = asks_none tables next work c.0
stage_asks tables next (Running work) c = asks_none tables next work c.0
stage_asks tables next (Locking work table) c = asks_none tables next work c.0
stage_asks tables next (Inserting work posted) c = asks_none tables next work c.0
stage_asks tables next Committing c = refl
stage_asks tables next Closing c = refl
stage_asks tables next (RollingBack ending) c = refl

-- nor does what a session waits for there
pub point_asks : (tables : List TableDef) (next : ℕ → Option ℤ) (point : Point) → IsClassedAt tables point → drawn_waiting tables next (wants_of point (stage_at point)) ≡ next
point_asks tables next (LookDue stage) c = stage_asks tables next stage c
point_asks tables next (PostDue stage b) c = stage_asks tables next stage c
point_asks tables next (Waiting stage b) c = stage_asks tables next stage c
point_asks tables next (LostDue stage b before more) c = stage_asks tables next stage c
point_asks tables next (SplitDue stage best own among more) c = stage_asks tables next stage c
point_asks tables next (ChooseDue work) c = asks_none tables next work c.0
point_asks tables next Resting c = refl
point_asks tables next (EnterDue work) c = refl
point_asks tables next ShowDue c = refl
point_asks tables next (LeaveSnapshotDue work) c = refl
point_asks tables next (UnwindDue ending) c = refl
point_asks tables next EnterCommitDue c = refl
point_asks tables next (LeaveCommitDue ending) c = refl
point_asks tables next (FinishDue ending) c = refl
point_asks tables next (ReplyDue outcome) c = refl
point_asks tables next EndDue c = refl

pub same_in : (x : Option Pending) → waiting_in x ≡ request_in x
same_in None = refl
same_in (Some p) = refl

-- a death ends the session's transaction, where what waits there draws nothing
pub dies : (tables : List TableDef) → (s : ℕ) (h : List Entry)
    → drawn_waiting (store_after tables h).tables (store_after tables h).next (waiting_in ((store_after tables h).pending s)) ≡ (store_after tables h).next
    → IsRun tables h → Ends tables s h (entry s (Falls None) ∷ h)
dies tables s h draws run =
    let x : Store = settled (store_after tables h) s Absent in
    let falls : after_death (store_after tables h) s ≡ x = (λ i. record x { next = draws i }) in
    record {
      passes = λ o other. deed_passes tables s o other (Falls None) h x (ap marked falls) refl refl
          (with_at-other (store_after tables h).transaction s Absent o other) (with_at-other (store_after tables h).pending s None o other);
      rows = ap (λ (y : Store). y.rows) falls;
      next = ap (λ (y : Store). y.next) falls;
      none = ap (λ (y : Store). y.transaction s) falls ∙ with_at-same (store_after tables h).transaction s Absent;
      clear = ap (λ (y : Store). with_mark y s (y.pending s)) falls ∙ ap (with_mark x s) (with_at-same (store_after tables h).pending s None);
      run = (tt, run);
      longer = (let z : length h ≤ length (entry s (Falls None) ∷ h) = omega arith in z);
    }

-- deeds of others leave it live, or not
stale_live : (f : Live → Live) (x : Transaction) → is_live (where_live f x) ≡ is_live x
stale_live f Absent = refl
stale_live f (Alive t) = refl
stale_live f Dead = refl

module _ (st : Store) (s o : ℕ) (other : o ≢ s) where
  settled_live : (x : Transaction) → is_live ((settled st s x).transaction o) ≡ is_live (st.transaction o)
  settled_live x = ap is_live (with_at-other st.transaction s x o other)

  committed_live : (x : Transaction) → is_live ((committed_by st s x).transaction o) ≡ is_live (st.transaction o)
  committed_live Absent = settled_live Absent
  committed_live (Alive t) = ap is_live (with_at-other (λ a. where_live (made_stale t.changes) (st.transaction a)) s Absent o other) ∙ stale_live (made_stale t.changes) (st.transaction o)
  committed_live Dead = settled_live Absent

  answered_live : (request : Request) → is_live ((answered st s request).transaction o) ≡ is_live (st.transaction o)
  answered_live requests.TakeSnapshot = settled_live _
  answered_live (requests.Run checked) = settled_live _
  answered_live (requests.Lock table) = settled_live _
  answered_live requests.Commit = committed_live (st.transaction s)
  answered_live requests.Rollback = settled_live _
  answered_live (requests.ReadSerial table) = settled_live _
  answered_live (requests.SetSerial table n) = settled_live _

  refused_live : (is : Bool) (request : Request) → is_live ((if is then refused st s request else answered st s request).transaction o) ≡ is_live (st.transaction o)
  refused_live true request = settled_live Dead
  refused_live false request = answered_live request

  acted_live : (answer : Answer) (x : Option Pending) → is_live ((acted_by st s answer x).transaction o) ≡ is_live (st.transaction o)
  acted_live answer None = refl
  acted_live answer (Some p) = refused_live (is_refusal answer) p.request

  pub done_live : (deed : Deed) → is_live ((done_by st s deed).transaction o) ≡ is_live (st.transaction o)
  done_live (Asks request) = refl
  done_live (Gets answer) = acted_live answer (st.pending s)
  done_live (Falls code) = settled_live Absent

fall_dead : (st : Store) (a s : ℕ) (deed : Deed) → a ≡ s → is_fall deed ≡ true → is_live ((done_by st a deed).transaction s) ≡ false
fall_dead st a s (Falls code) same e =
    ap is_live (ap (with_at st.transaction a Absent) (sym same) ∙ with_at-same st.transaction a Absent)
fall_dead st a s (Asks request) same e = absurd (let z : false ≡ true = e in cc)
fall_dead st a s (Gets answer) same e = absurd (let z : false ≡ true = e in cc)

-- whose latest deed is a death is not live
pub dead_at_death : (tables : List TableDef) → (s : ℕ) (code : Code) (since : ℕ) (h : List Entry) → AtDeath tables s code since h → is_live ((store_after tables h).transaction s) ≡ false
dead_at_death tables s code since [] d = absurd d
dead_at_death tables s code since (e ∷ es) d = by (e.session == s) refl (dead_at_death tables s code since es) d
  where
    number : (v : Bool) → (e.session == s) ≡ v → v ≡ true → e.session ≡ s
    number v is f = elim (eqb_tells e.session s) [ inl p ↦ p.1 | inr p ↦ absurd (let z : false ≡ true = sym p.0 ∙ is ∙ f in cc) ]

    another : (v : Bool) → (e.session == s) ≡ v → v ≡ false → s ≢ e.session
    another v is f same = elim (eqb_tells e.session s) [ inl p ↦ (let z : true ≡ false = sym p.0 ∙ is ∙ f in cc) | inr p ↦ p.1 (sym same) ]

    by : (v : Bool) → (e.session == s) ≡ v → (AtDeath tables s code since es → is_live ((store_after tables es).transaction s) ≡ false)
        → AtDeathIf tables v s code since e es (AtDeath tables s code since es) → is_live ((done_by (store_after tables es) e.session e.deed).transaction s) ≡ false
    by true is rest f = fall_dead (store_after tables es) e.session s e.deed (number true is refl) f.0
    by false is rest f = done_live (store_after tables es) e.session s (another false is refl) e.deed ∙ rest f
