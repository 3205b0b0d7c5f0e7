-- Every refusal: its code is one that the single run may give.
use Rattle.std.proofs.Common.{List, ◌≡◌, ℕ, true, false, refl, sym, ap, ◌∙◌, subst, inl, inr}
use Rattle.std.specs.Prelude.{◌==◌, Option, Some, None, codes}
use Rattle.pool_base.specs.declared.code.Code.{Code}
use Rattle.pool_base.specs.declared.session_id.SessionId.{SessionId}
use Rattle.pool_base.specs.declared.backend_id.BackendId.{BackendId}
use Rattle.catalogue.specs.declared.checked.Checked.{Checked}
use Rattle.catalogue.specs.declared.checked.CheckedBody.{CheckedBody}
use Rattle.catalogue.specs.declared.checked.CheckedBody.TheVariants as body
use Rattle.catalogue.specs.declared.checked.ColumnDesc.{ColumnDesc}
use Rattle.classifier.specs.Classes.{lock_of}
use Rattle.backend_trait.specs.declared.answer.Answer.{Answer}
use Rattle.backend_trait.specs.declared.answer.Answer.TheVariants as answers
use Rattle.backend_trait.specs.declared.request.Request.{Request}
use Rattle.backend_trait.specs.declared.request.Request.TheVariants as requests
use Rattle.backend_trait.specs.Effect.{Wants, Given, Fails, Gives, these_places, has_lock_of, table_in}
use Rattle.backend_trait.specs.Runnable.{is_given}
use Rattle.backend_trait.specs.Store.{Live, Alive, Pending, Store, WhereLive, drawn_by}
use Rattle.backend_trait.specs.Acts.{IsStale, Crosses, IsCrossed, MayAnswer, MayRefuse, IsOutOfMemory, given_of}
use Rattle.session_machine.specs.declared.work.Class.TheVariants as classes
use Rattle.session_machine.specs.declared.machine.Stage.{Stage}
use Rattle.session_machine.specs.declared.machine.Stage.TheVariants.{Opening, Reading, Running, Locking, Inserting, Committing, Closing, RollingBack}
use Rattle.session_machine.specs.declared.machine.Point.TheVariants.{Waiting}
use Rattle.session_machine.specs.declared.work.Work.{Work}
use Rattle.one_copy_model.specs.declared.event.Event.TheVariants.{Act}
use Rattle.one_copy_model.specs.Places.{asks_as}
use Rattle.session_machine.specs.Rules.{request_of}
use Rattle.one_copy_model.specs.World.{MayHappen}
use Rattle.one_copy_model.specs.Deaths.{is_live, stage_at}
use Rattle.one_copy_model.specs.Tracking.{Tracked, single, tracked_after}
use Rattle.one_copy_model.specs.Chains.{is_unposted}
use Rattle.one_copy_model.specs.Orders.{IsClassedIn}
use Rattle.one_copy_model.specs.Standing.{Alike}
use Rattle.one_copy_model.specs.Invariant.{Invariant, IsHere, IsInLine, MayCode, MayRefuseTo, asks_at, request_in, where_live as wanted_where, wants_of}
use Rattle.one_copy_model.proofs.Tables.{tables_there}
use Rattle.one_copy_laws.proofs.ChainsChaining.{class_in as class_of}
use Rattle.one_copy_laws.proofs.MarksCrossings.{carried}
use Rattle.one_copy_laws.proofs.MarksMarking.{marked_there}
use Rattle.one_copy_laws.proofs.MarksWanting.{unlocked}
use Rattle.one_copy_laws.proofs.ActsActing.{stands_was}
use Rattle.one_copy_laws.proofs.ActsSettling.{calm_numbers, calm_ahead}
use Rattle.one_copy_laws.proofs.ActsBeginning.{answers_of}
use Rattle.one_copy_model.proofs.Livings.{alike_live}
use Rattle.one_copy_laws.proofs.ActsHolding.{or_first, live_of}
use Rattle.one_copy_laws.proofs.ActsEffects.{no_numbers, given_alike}
use Rattle.one_copy_laws.proofs.ActsRunning.{alike_of, runs_plain, runs_as, itself}
use Rattle.one_copy_laws.proofs.ActsInserting.{insert_class, insert_own, insert_there, insert_lives, insert_given, insert_numbers, insert_ahead}
use Rattle.one_copy_laws.proofs.ActsRefusing.{refused_holds}

refused_form : (b : CheckedBody) (columns : List ColumnDesc) (code : Code) → is_given b columns (answers.Refused code) ≡ true
refused_form (body.Read read) columns code = refl
refused_form (body.Insert insert) columns code = refl
refused_form (body.Change change) columns code = refl
refused_form (body.Remove remove) columns code = refl

-- a refusal of one transaction is one of another that has the same effect, where what is stale and what is crossed is so there
refused_as : (c d : Type 0) (u k : Live) (table : Option ℕ) (code : Code) (given : Given) → ((wants : Wants) → IsStale wants u → IsStale wants k)
    → (c → has_lock_of u.held table ≡ false → d × (has_lock_of k.held table ≡ false)) → MayRefuse c u table code given → MayRefuse d k table code given
refused_as c d u k table code (Fails bytes) stale crossed may = may
refused_as c d u k table code (Gives result changes places) stale crossed may = elim may [
  | inl old ↦ inl (old.0, stale (these_places places) old.1)
  | inr more ↦ elim more [
    | inl lock ↦ inr (inl (lock.0, (crossed lock.1 lock.2).0, (crossed lock.1 lock.2).1))
    | inr memory ↦ inr (inr memory)
  ]
]

waiting_there : (x : Option Pending) (request : Request) → request_in x ≡ Some request → (q : Pending) × (x ≡ Some q) × (q.request ≡ request)
waiting_there (Some q) request e = (q, refl, (let z : Some q.request ≡ Some request = e in let same : q.request ≡ request = cc in same))
waiting_there None request e = absurd (let z : None ≡ Some request = e in cc)

module _ (t : Tracked) (h : Invariant t) (s : SessionId) (b : BackendId) (p : Pending) (waits : (t.world.store b.number).pending s.number ≡ Some p)
    (sound : (t.world.store b.number).lost ≡ false) (in_it : IsHere t.world b.number)
    (stage : Stage) (at : BackendId) (waiting : (t.world.machine s.number).point ≡ Waiting stage at) (k : Live) (there : (single t).transaction s.number ≡ Alive k) where
  abbrev st : Store
  st = t.world.store b.number

  posted_there : (request : Request) → asks_at stage ≡ Some request → (q : Pending) × ((single t).pending s.number ≡ Some q) × (q.request ≡ request)
  posted_there request asks =
      waiting_there ((single t).pending s.number) request
      (h.posts s.number ∙ ap (λ x. wanted_where x (wants_of (t.world.machine s.number).point (stage_at (t.world.machine s.number).point))) (ap is_live there)
      ∙ ap (λ pt. wants_of pt (stage_at pt)) waiting ∙ asks)

  crossed_on : (q : Pending) → (single t).pending s.number ≡ Some q → IsCrossed st s.number p → q.crossed ≡ true
  crossed_on q posted (inl mark) = h.crossed_there s.number b.number p q in_it sound waits posted mark
  crossed_on q posted (inr crosses) = marked_there t s.number q h posted (carried t b.number s.number p q h in_it sound waits posted crosses)

  stale_on : (u : Live) → st.transaction s.number ≡ Alive u → (wants : Wants) → IsStale wants u → IsStale wants k
  stale_on u live wants e = (e.0, e.1, (h.stale_known s.number b.number u k e.0 in_it live there).there e.2)

  -- a run that is asked there as here
  pub run_code : (checked : Checked) (code : Code) (u : Live) → asks_at stage ≡ Some (requests.Run checked) → st.transaction s.number ≡ Alive u → u.held ≡ k.held
      → given_of st checked u ≡ given_of (single t) checked k → MayRefuse (IsCrossed st s.number p) u (table_in checked) code (given_of st checked u) → MayCode t.world.tables t.history s.number code
  run_code checked code u asks live held given may =
      let q = posted_there (requests.Run checked) asks in (
        q.0,
        q.1,
        subst (λ r. MayRefuseTo (single t) s.number (q.0.crossed ≡ true) r code) (sym q.2)
            (subst (λ z. WhereLive z (λ l. MayRefuse (q.0.crossed ≡ true) l (table_in checked) code (given_of (single t) checked l))) (sym there)
            (subst (MayRefuse (q.0.crossed ≡ true) k (table_in checked) code) given
            (refused_as (IsCrossed st s.number p) (q.0.crossed ≡ true) u k (table_in checked) code (given_of st checked u) (stale_on u live)
            (λ c lock. (crossed_on q.0 q.1 c, ap (λ w. has_lock_of w (table_in checked)) (sym held) ∙ lock)) may))),
      )

  -- a lock
  pub lock_code : (table : ℕ) (code : Code) → asks_at stage ≡ Some (requests.Lock table) → (code.bytes ≡ codes "40P01") × IsCrossed st s.number p → MayCode t.world.tables t.history s.number code
  lock_code table code asks may =
      let q = posted_there (requests.Lock table) asks in
      (q.0, q.1, subst (λ r. MayRefuseTo (single t) s.number (q.0.crossed ≡ true) r code) (sym q.2) (may.0, crossed_on q.0 q.1 may.1))

  -- a serial insert's run, which has its lock
  pub insert_code : (checked : Checked) (code : Code) (u : Live) → st.transaction s.number ≡ Alive u → has_lock_of u.held (table_in checked) ≡ true
      → given_of st checked u ≡ given_of (single t) checked k → MayRefuse (IsCrossed st s.number p) u (table_in checked) code (given_of st checked u)
      → MayRefuseTo (single t) s.number ⊥ (requests.Run checked) code
  insert_code checked code u live locked given may =
      subst (λ z. WhereLive z (λ l. MayRefuse ⊥ l (table_in checked) code (given_of (single t) checked l))) (sym there)
      (subst (MayRefuse ⊥ k (table_in checked) code) given
      (refused_as (IsCrossed st s.number p) ⊥ u k (table_in checked) code (given_of st checked u) (stale_on u live)
      (λ c lock. absurd (let z : true ≡ false = sym locked ∙ lock in cc)) may))

-- a refused snapshot
module _ (t : Tracked) (h : Invariant t) (s : SessionId) (b : BackendId) (p : Pending) (waits : (t.world.store b.number).pending s.number ≡ Some p)
    (at : BackendId) (number : at.number ≡ b.number) (code : Code) (sound : (t.world.store b.number).lost ≡ false) where
  abbrev here : Store
  here = t.world.store b.number

  abbrev told : Answer
  told = answers.Refused code

  snapshot_refused : (work : Work) → (t.world.machine s.number).point ≡ Waiting (Opening work) at → p.request ≡ requests.TakeSnapshot → IsOutOfMemory code → Invariant (tracked_after t (Act s b told))
  snapshot_refused work waiting is memory =
      refused_holds t h s b p waits (Opening work) at waiting number requests.TakeSnapshot is refl code refl (inr (code, refl)) refl refl
      (λ in_it by e. memory)
      (calm_numbers t h s b p waits (Opening work) at waiting number told refl) (calm_ahead t h s b p waits (Opening work) at waiting number told refl)

  lock_refused : (work : Work) (table : ℕ) → (t.world.machine s.number).point ≡ Waiting (Locking work table) at → p.request ≡ requests.Lock table
      → (code.bytes ≡ codes "40P01") × IsCrossed here s.number p → Invariant (tracked_after t (Act s b told))
  lock_refused work table waiting is may =
      let stage : Stage = Locking work table in
      let c : IsClassedIn t.world.tables stage = class_of t.world.tables (t.world.machine s.number).point stage (ap stage_at waiting) (h.classed s.number) in
      refused_holds t h s b p waits stage at waiting number (requests.Lock table) is refl code refl (inr (code, refl)) refl refl
      (λ in_it by e. let k = alike_live (here.transaction s.number) ((single t).transaction s.number) (stands_was t h s b p waits stage at waiting number told in_it) in
      inl (lock_code t h s b p waits sound in_it stage at waiting k.1 k.3 table code (ap (λ x. Some (asks_as work.statement x)) c.1) may))
      (calm_numbers t h s b p waits stage at waiting number told refl) (calm_ahead t h s b p waits stage at waiting number told refl)

  -- a run
  module _ (u : Live) (live : here.transaction s.number ≡ Alive u) where
    read_refused : (work : Work) (ticket : ℕ) → (t.world.machine s.number).point ≡ Waiting (Reading work ticket) at → p.request ≡ requests.Run work.statement
        → MayRefuse (IsCrossed here s.number p) u (table_in work.statement) code (given_of here work.statement u) → Invariant (tracked_after t (Act s b told))
    read_refused work ticket waiting is may =
        let stage : Stage = Reading work ticket in
        let c : IsClassedIn t.world.tables stage = class_of t.world.tables (t.world.machine s.number).point stage (ap stage_at waiting) (h.classed s.number) in
        let free : lock_of work.statement.body ≡ None = unlocked t.world.tables work classes.Read c.0 c.1 refl in
        let still : drawn_by here.tables work.statement here.next ≡ here.next = no_numbers here.tables here.next work.statement free in
        refused_holds t h s b p waits stage at waiting number (requests.Run work.statement) is refl code refl (refused_form work.statement.body work.statement.columns code) refl refl
        (λ in_it by e. let k = alike_of u ((single t).transaction s.number) (subst (λ z. Alike z ((single t).transaction s.number)) live (stands_was t h s b p waits stage at waiting number told in_it)) in
        inl (run_code t h s b p waits sound in_it stage at waiting k.0 k.1 work.statement code u (ap (λ x. Some (asks_as work.statement x)) c.1) live k.2.2
        (given_alike here (single t) work.statement u k.0 (h.tables b.number ∙ sym (tables_there t.world.tables t.history)) free k.2.0 k.2.1) may))
        (λ in_it table none. ap (λ f. f table) still ∙ calm_numbers t h s b p waits stage at waiting number told refl in_it table none)
        (λ in_it o table other i. ap (λ f. f table) still ∙ calm_ahead t h s b p waits stage at waiting number told refl in_it o table other i)

    run_refused : (work : Work) → (t.world.machine s.number).point ≡ Waiting (Running work) at → p.request ≡ requests.Run work.statement
        → MayRefuse (IsCrossed here s.number p) u (table_in work.statement) code (given_of here work.statement u) → Invariant (tracked_after t (Act s b told))
    run_refused work waiting is may =
        let stage : Stage = Running work in
        let c : IsClassedIn t.world.tables stage = class_of t.world.tables (t.world.machine s.number).point stage (ap stage_at waiting) (h.classed s.number) in
        let free : lock_of work.statement.body ≡ None = runs_plain t.world.tables work work.class c.0 refl c.1 in
        let still : drawn_by here.tables work.statement here.next ≡ here.next = no_numbers here.tables here.next work.statement free in
        refused_holds t h s b p waits stage at waiting number (requests.Run work.statement) is refl code refl (refused_form work.statement.body work.statement.columns code) refl refl
        (λ in_it by e. let k = alike_of u ((single t).transaction s.number) (subst (λ z. Alike z ((single t).transaction s.number)) live (stands_was t h s b p waits stage at waiting number told in_it)) in
        inl (run_code t h s b p waits sound in_it stage at waiting k.0 k.1 work.statement code u (ap Some (runs_as work work.class refl c.1)) live k.2.2
        (given_alike here (single t) work.statement u k.0 (h.tables b.number ∙ sym (tables_there t.world.tables t.history)) free k.2.0 k.2.1) may))
        (λ in_it table none. ap (λ f. f table) still ∙ calm_numbers t h s b p waits stage at waiting number told refl in_it table none)
        (λ in_it o table other i. ap (λ f. f table) still ∙ calm_ahead t h s b p waits stage at waiting number told refl in_it o table other i)

    insert_refused : (work : Work) → (t.world.machine s.number).point ≡ Waiting (Inserting work true) at → p.request ≡ requests.Run work.statement
        → MayRefuse (IsCrossed here s.number p) u (table_in work.statement) code (given_of here work.statement u) → Invariant (tracked_after t (Act s b told))
    insert_refused work waiting is may =
        let stage : Stage = Inserting work true in
        let c = insert_class t h s b p waits at number told work waiting is u live in
        let own = insert_own t h s b p waits at number told work waiting is u live in
        let lives = insert_lives t h s b p waits at number told work waiting is u live in
        refused_holds t h s b p waits stage at waiting number (requests.Run work.statement) is refl code refl (refused_form work.statement.body work.statement.columns code) refl refl
        (λ in_it by e. let k = insert_there t h s b p waits at number told work waiting is u live in_it in
        inl (insert_code t h s b p waits sound in_it stage at waiting k.0 k.1 work.statement code u live
        (ap (has_lock_of u.held) (sym own) ∙ ap (λ (w : Wants). w.tables c.1.0) k.2.2 ∙ or_first (c.1.0 == c.1.0) (k.0.held.tables c.1.0) (itself c.1.0))
        (insert_given t h s b p waits at number told work waiting is u live in_it) may))
        (insert_numbers t h s b p waits work at waiting number told c.1.0 c.1.1 own lives) (insert_ahead t h s b p waits work at waiting number told c.1.0 c.1.1 own lives)

-- who crosses a request crosses what it is
crossed_is : (x : Store) (s : ℕ) (p : Pending) (request : Request) → p.request ≡ request → IsCrossed x s (record { request = request; crossed = p.crossed }) → IsCrossed x s p
crossed_is x s p request is (inl mark) = inl mark
crossed_is x s p request is (inr crosses) = inr (subst (Crosses x s) (sym is) crosses)

never : {A : Type 0} (code : Code) → answers.Refused code ≡ answers.Done → A
never code e = absurd (cc)

-- an end is never refused
pub refusal_kept : (t : Tracked) (s : SessionId) (b : BackendId) (code : Code) (p : Pending) → Invariant t → (t.world.store b.number).pending s.number ≡ Some p
    → MayHappen t.world (Act s b (answers.Refused code)) → Invariant (tracked_after t (Act s b (answers.Refused code)))
refusal_kept t s b code p h waits may =
    let line : IsInLine (t.world.machine s.number) b.number p.request = (h.line s.number b.number).asked p may.0 waits in
    by line.at line.number line.stage line.posted line.waits line.asks (answers_of (t.world.store b.number) s.number (answers.Refused code) p (request_of line.stage) waits line.asks may)
  where
    run_as : (checked : Checked) (u : Live) → p.request ≡ requests.Run checked
        → MayRefuse (IsCrossed (t.world.store b.number) s.number (record { request = requests.Run checked; crossed = p.crossed })) u (table_in checked) code (given_of (t.world.store b.number) checked u)
        → MayRefuse (IsCrossed (t.world.store b.number) s.number p) u (table_in checked) code (given_of (t.world.store b.number) checked u)
    run_as checked u is m =
        refused_as (IsCrossed (t.world.store b.number) s.number (record { request = requests.Run checked; crossed = p.crossed })) (IsCrossed (t.world.store b.number) s.number p) u u (table_in checked) code
        (given_of (t.world.store b.number) checked u) (λ wants e. e) (λ c lock. (crossed_is (t.world.store b.number) s.number p (requests.Run checked) is c, lock)) m

    live_at : (checked : Checked) → WhereLive ((t.world.store b.number).transaction s.number) (λ k. MayRefuse (IsCrossed (t.world.store b.number) s.number (record { request = requests.Run checked; crossed = p.crossed })) k (table_in checked) code (given_of (t.world.store b.number) checked k))
        → (u : Live) × ((t.world.store b.number).transaction s.number ≡ Alive u) × MayRefuse (IsCrossed (t.world.store b.number) s.number (record { request = requests.Run checked; crossed = p.crossed })) u (table_in checked) code (given_of (t.world.store b.number) checked u)
    live_at checked m = live_of ((t.world.store b.number).transaction s.number) (λ k. MayRefuse (IsCrossed (t.world.store b.number) s.number (record { request = requests.Run checked; crossed = p.crossed })) k (table_in checked) code (given_of (t.world.store b.number) checked k)) m

    by : (at : BackendId) → at.number ≡ b.number → (stage : Stage) → is_unposted stage ≡ false → (t.world.machine s.number).point ≡ Waiting stage at → p.request ≡ request_of stage
        → MayAnswer (t.world.store b.number) s.number (record { request = request_of stage; crossed = p.crossed }) (answers.Refused code) → Invariant (tracked_after t (Act s b (answers.Refused code)))
    by at number (Opening work) posted w is m = snapshot_refused t h s b p waits at number code may.0 work w is m
    by at number (Reading work ticket) posted w is m =
        let u = live_at work.statement m in read_refused t h s b p waits at number code may.0 u.0 u.1 work ticket w is (run_as work.statement u.0 is u.2)
    by at number (Running work) posted w is m =
        let u = live_at work.statement m in run_refused t h s b p waits at number code may.0 u.0 u.1 work w is (run_as work.statement u.0 is u.2)
    by at number (Locking work table) posted w is m = lock_refused t h s b p waits at number code may.0 work table w is (m.0, crossed_is (t.world.store b.number) s.number p (requests.Lock table) is m.1)
    by at number (Inserting work true) posted w is m =
        let u = live_at work.statement m in insert_refused t h s b p waits at number code may.0 u.0 u.1 work w is (run_as work.statement u.0 is u.2)
    by at number (Inserting work false) posted w is m = absurd (let z : true ≡ false = posted in cc)
    by at number Committing posted w is m = never code (live_of ((t.world.store b.number).transaction s.number) (λ k. answers.Refused code ≡ answers.Done) m).2
    by at number Closing posted w is m = never code (live_of ((t.world.store b.number).transaction s.number) (λ k. answers.Refused code ≡ answers.Done) m).2
    by at number (RollingBack ending) posted w is m = never code m
