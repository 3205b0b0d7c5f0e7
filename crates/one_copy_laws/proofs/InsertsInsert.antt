-- A session whose serial insert's run is under way, and which waits for nothing: what holds of it over the backends that are attached, and
-- what holds of all where it moves on.
use Rattle.std.proofs.Common.{◌≡◌, ◌≢◌, ℕ, Bool, true, false, List, [], ◌∷◌, refl, sym, ap, ◌∙◌, subst}
use Rattle.std.specs.Prelude.{Option, Some, None, if◌then◌else◌}
use Rattle.pool_base.specs.declared.session_id.SessionId.{SessionId}
use Rattle.backend_trait.specs.declared.request.Request.TheVariants as requests
use Rattle.backend_trait.specs.declared.answer.Answer.{Answer}
use Rattle.backend_trait.specs.Effect.{Conflicts}
use Rattle.backend_trait.specs.Rows.{with_at}
use Rattle.backend_trait.specs.Store.{Live, Absent, Alive, Store, is_refusal, held_by, table_lock}
use Rattle.session_machine.specs.declared.work.Work.{Work}
use Rattle.session_machine.specs.declared.machine.GatePhase.{GatePhase}
use Rattle.session_machine.specs.declared.machine.GatePhase.TheVariants as phases
use Rattle.session_machine.specs.declared.machine.Machine.{Machine}
use Rattle.session_machine.specs.declared.machine.Stage.{Stage}
use Rattle.session_machine.specs.declared.machine.Stage.TheVariants.{Inserting}
use Rattle.session_machine.specs.declared.machine.Point.TheVariants.{Resting}
use Rattle.one_copy_model.specs.declared.deed.Entry.{Entry}
use Rattle.one_copy_model.specs.SingleRun.{store_after}
use Rattle.one_copy_model.specs.Places.{asks_of}
use Rattle.one_copy_model.specs.Deaths.{is_live, stage_at, heard_from, mail_or}
use Rattle.one_copy_model.specs.Tracking.{Told, Tracked, single, in_commit}
use Rattle.one_copy_model.specs.Chains.{is_unposted}
use Rattle.one_copy_model.specs.Orders.{IsStatement, IsClassedIn}
use Rattle.one_copy_model.specs.Standing.{Ahead, Leaving, Fallen, standing_in, standing_by}
use Rattle.one_copy_model.specs.Invariant.{IsSound, is_dead, HaveLocks, FitsPoint, fits_stage, Inserts, inserting_in, inserted_in, where_live, wants_of, request_in, numbers_behind}
use Rattle.one_copy_model.specs.Own.{told_by, stand, IsIn, Own}
use Rattle.one_copy_model.specs.Facts.{Facts, Inserted, Shared}
use Rattle.one_copy_model.proofs.Places.{each_at}
use Rattle.one_copy_model.proofs.Counts.{Moves, counted}
use Rattle.one_copy_model.proofs.Turning.{FactsOf, live_there}
use Rattle.one_copy_model.proofs.Turns.{sound_ended, undead_ended, was_live}
use Rattle.one_copy_model.proofs.Landing.{with_at-self}
use Rattle.one_copy_model.proofs.Locks.{locks_ended}
use Rattle.one_copy_model.proofs.Passing.{own_passes}
use Rattle.one_copy_model.proofs.Calm.{free_of, is_waiting}
use Rattle.one_copy_model.proofs.Quiet.{real, below_65}
use Rattle.one_copy_model.proofs.Beginning.{no_mail}
use Rattle.one_copy_model.proofs.Endings.{Ends}
use Rattle.one_copy_laws.proofs.GateFinishing.{under_way}
use Rattle.one_copy_laws.proofs.ChainsChaining.{class_in, order_in}
use Rattle.one_copy_laws.proofs.ResultsRefusing.{told_of}
use Rattle.one_copy_laws.proofs.DrawsDrawing.{own_draws}
use Rattle.one_copy_laws.proofs.DrawsSharing.{shared_draws, shared_dead}
use Rattle.one_copy_laws.proofs.DrawsInserting.{Drawn}

insert_open : (work : Work) (posted : Bool) (phase : GatePhase) → fits_stage (Inserting work posted) phase ≡ true → (changed : Bool) × (written : ℕ) × (phase ≡ phases.Live changed written)
insert_open work posted (phases.Live changed written) e = (changed, written, refl)
insert_open work posted phases.Out e = absurd (let z : false ≡ true = e in cc)
insert_open work posted phases.InSnapshot e = absurd (let z : false ≡ true = e in cc)
insert_open work posted phases.InCommit e = absurd (let z : false ≡ true = e in cc)

told_stays : (work : Work) (posted : Bool) (told : Option Answer) → standing_in (Inserting work posted) told ≡ Leaving → ⊥
told_stays work posted None e = let z : Ahead (asks_of work ∷ []) ≡ Leaving = e in cc
told_stays work posted (Some answer) e = by (is_refusal answer) e
  where
    by : (v : Bool) → (if v then Fallen else Ahead (requests.Run work.statement ∷ asks_of work ∷ [])) ≡ Leaving → ⊥
    by true f = let z : Fallen ≡ Leaving = f in cc
    by false f = let z : Ahead (requests.Run work.statement ∷ asks_of work ∷ []) ≡ Leaving = f in cc

posted_in : (work : Work) (posted : Bool) (answer : Answer) → is_unposted (Inserting work posted) ≡ false → inserted_in (Some (Inserting work posted)) (Some answer) ≡ Some work
posted_in work true answer e = refl
posted_in work false answer e = absurd (let z : true ≡ false = e in cc)

module _ (t : Tracked) (f : FactsOf t) (s : SessionId) (work : Work) (posted : Bool)
    (in_stage : stage_at (t.world.machine s.number).point ≡ Some (Inserting work posted)) (free : is_waiting (t.world.machine s.number).point ≡ false) where
  abbrev pub m : Machine
  m = t.world.machine s.number

  abbrev pub attached : ℕ
  attached = t.world.gate.attached.bits

  abbrev pub mail : ℕ → Option Answer
  mail = t.world.mail s.number

  abbrev pub stage : Stage
  stage = Inserting work posted

  pub own_was : Own t.world.tables attached t.history t.world.store m mail (t.orders s.number) (t.done s.number) (live_there t s.number) s.number
  own_was = f.own s.number

  pub awake : m.point ≡ Resting → ⊥
  awake rest = let z : None ≡ Some stage = sym (ap stage_at rest) ∙ in_stage in cc

  pub classed : IsClassedIn t.world.tables stage
  classed = class_in t.world.tables m.point stage in_stage own_was.classed

  abbrev pub table : ℕ
  table = classed.1.0

  pub inserts : Inserts m table
  inserts = record { work = work; inserting = ap inserting_in in_stage; at = classed.1.1 }

  pub inside : (changed : Bool) × (written : ℕ) × (m.session.gate ≡ phases.Live changed written)
  inside = insert_open work posted m.session.gate (subst (λ (x : Option Stage). FitsPoint x m.point m.session.gate) in_stage own_was.inside)

  pub mail_none : (b : ℕ) → mail b ≡ None
  mail_none b = no_mail t.world.tables attached t.history t.history t.world.store m mail (t.orders s.number) (t.done s.number) (live_there t s.number) s.number (real s) (free_of m.point free) own_was b

  pub told_heard : (b : ℕ) → told_by m mail b ≡ heard_from m.session.heard b
  told_heard b = ap (λ x. mail_or x (heard_from m.session.heard b)) (mail_none b)

  pub says : (told : Told) → t.orders s.number ≡ Some told → IsStatement m.session told work
  says told e = order_in m.session m.point stage told in_stage (own_was.order_is told e)

  pub its : (told : Told) × (t.orders s.number ≡ Some told)
  its = told_of (t.orders s.number) (under_way m.point (t.orders s.number) awake own_was.orders)

  pub stand_is : (b : ℕ) → stand m mail b ≡ standing_in stage (told_by m mail b)
  stand_is b = ap (λ (x : Option Stage). standing_by m.session.gate m.point x (told_by m mail b)) in_stage

  pub stays : (b : ℕ) → stand m mail b ≢ Leaving
  stays b e = told_stays work posted (told_by m mail b) (sym (stand_is b) ∙ e)

  abbrev pub Turned_to : Machine → List Entry → Type 0
  Turned_to n mid = Facts t.world.tables t.world.gate (with_at t.world.machine s.number n) t.world.store t.world.mail mid t.orders t.done (λ o. is_live ((store_after t.world.tables mid).transaction o))

  abbrev pub Own_behind : Machine → List Entry → Bool → Type 0
  Own_behind n mid live = Own t.world.tables attached mid t.world.store n mail (t.orders s.number) (t.done s.number) live s.number

  -- it is live in the single run
  module _ (k : Live) (alive : (single t).transaction s.number ≡ Alive k) where
    pub live : live_there t s.number ≡ true
    live = ap is_live alive

    pub asks : request_in ((single t).pending s.number) ≡ Some (asks_of work)
    asks = own_was.posts ∙ ap (λ (v : Bool). where_live v (wants_of m.point (stage_at m.point))) live ∙ ap (wants_of m.point) in_stage

    pub lock_free : (o : ℕ) → s.number ≢ o → ¬ (Conflicts (table_lock table) (held_by ((single t).transaction o)))
    lock_free o apart c = f.shared.locks.free s.number o table apart live inserts c

    pub apart : (o : ℕ) → o ≢ s.number → live_there t o ≡ true → Inserts (t.world.machine o) table → ⊥
    apart o other there i = other (f.shared.locks.alone o s.number table there live i inserts)

    -- a backend that has answered has drawn its numbers
    pub drawn_here : (b : ℕ) (answer : Answer) → IsIn attached b → told_by m mail b ≡ Some answer → (t.world.store b).next table ≡ numbers_behind (single t) s.number work table
    drawn_here b answer in_it told = f.shared.numbers_ahead s.number b table work in_it (record {
      live = live;
      inserted = ap (λ (x : Option Stage). inserted_in x (told_by m mail b)) in_stage ∙ ap (inserted_in (Some stage)) told
          ∙ posted_in work posted answer (own_was.heard b stage answer in_it in_stage told).posted;
      at = classed.1.1;
    })

    -- its insert has its place there, and each attached backend has answered
    module _ (n : Machine) (mid : List Entry) (d : Drawn t.world.tables s.number table work t.history mid)
        (all : (b : ℕ) → IsIn attached b → (answer : Answer) × (told_by m mail b ≡ Some answer))
        (lasts : (b : ℕ) → IsIn attached b → stand n mail b ≢ Leaving)
        (outside : in_commit n.session.gate ≡ false)
        (gone : (b other : ℕ) (more : Work) → IsIn attached b → Inserted t.world.tables mid n mail s.number b other more → ⊥)
        (moves : Moves t.world.gate t.world.gate m.session.gate n.session.gate) where
      abbrev new : Store
      new = store_after t.world.tables mid

      pub draws_facts : IsSound new
          → ((o : ℕ) → is_dead (new.transaction o) ≡ false)
          → ((a : ℕ) (u : Live) → new.transaction a ≡ Alive u → (v : Live) × ((single t).transaction a ≡ Alive v) × (u.stale ≡ v.stale))
          → HaveLocks new (with_at t.world.machine s.number n)
          → Own_behind n mid (is_live (new.transaction s.number))
          → Turned_to n mid
      draws_facts sound undead was locks own = record {
        own = each_at (λ o y. Own t.world.tables attached mid t.world.store y (t.world.mail o) (t.orders o) (t.done o) (is_live (new.transaction o)) o) t.world.machine s.number n own
            (λ o other. own_draws t.world.tables table o t.history mid (d.draws o other) attached t.world.store (t.world.machine o) (t.world.mail o) (t.orders o) (t.done o) (live_there t o) (is_live (new.transaction o))
            (ap is_live (d.draws o other).transaction) (apart o other) (f.own o));
        shared =
            subst (λ (post : ℕ → ℕ → Option Answer). Shared t.world.tables attached mid t.world.store (with_at t.world.machine s.number n) post) (with_at-self t.world.mail s.number)
            (shared_draws t.world.tables attached t.history mid t.world.store t.world.machine t.world.mail s.number n mail table d.draws live inserts (λ b in_it. stays b) lasts outside gone
            d.rows (λ b in_it. let a = all b in_it in drawn_here b a.0 in_it a.1 ∙ sym d.next) sound undead d.run was locks (λ o. (f.own o).classed) f.shared);
        counts = counted t.world.machine s.number n (below_65 s) t.world.gate t.world.gate moves f.counts;
      }

      -- it dies by it
      pub falls_facts : new.transaction s.number ≡ Absent → Own_behind n mid false → Turned_to n mid
      falls_facts none own =
          let others : (o : ℕ) → o ≢ s.number → new.transaction o ≡ (single t).transaction o = λ o other. (d.draws o other).transaction in
          draws_facts
          (sound_ended (single t) new s.number others none f.shared.sound_there)
          (undead_ended (single t) new s.number others none f.shared.undead)
          (λ a u is. let v = was_live (single t) new s.number others none a u is in (u, v.1, refl))
          (locks_ended (single t) new t.world.machine s.number n others none f.shared.locks)
          (subst (Own_behind n mid) (sym (ap is_live none)) own)

  -- it has died there before
  module _ (dead : live_there t s.number ≡ false) (n : Machine) (mid : List Entry) (e : Ends t.world.tables s.number t.history mid)
      (lasts : (b : ℕ) → IsIn attached b → stand n mail b ≢ Leaving)
      (outside : in_commit n.session.gate ≡ false)
      (moves : Moves t.world.gate t.world.gate m.session.gate n.session.gate) where
    pub dead_facts : Own_behind n mid false → Turned_to n mid
    dead_facts own =
        let old : Store = single t in
        let new : Store = store_after t.world.tables mid in
        let others : (o : ℕ) → o ≢ s.number → new.transaction o ≡ old.transaction o = λ o other. (e.passes o other).transaction in
        record {
          own = each_at (λ o y. Own t.world.tables attached mid t.world.store y (t.world.mail o) (t.orders o) (t.done o) (is_live (new.transaction o)) o) t.world.machine s.number n
              (subst (Own_behind n mid) (sym (ap is_live e.none)) own)
              (λ o other. own_passes t.world.tables o t.history mid (e.passes o other) attached t.world.store (t.world.machine o) (t.world.mail o) (t.orders o) (t.done o) (live_there t o) (is_live (new.transaction o)) (ap is_live (others o other)) (f.own o));
          shared =
              subst (λ (post : ℕ → ℕ → Option Answer). Shared t.world.tables attached mid t.world.store (with_at t.world.machine s.number n) post) (with_at-self t.world.mail s.number)
              (shared_dead t.world.tables attached t.history mid t.world.store t.world.machine t.world.mail s.number n mail e.passes dead (ap is_live e.none) (λ b in_it. stays b) lasts outside
              e.rows e.next (sound_ended old new s.number others e.none f.shared.sound_there) (undead_ended old new s.number others e.none f.shared.undead) e.run
              (λ a u is. let v = was_live old new s.number others e.none a u is in (u, v.1, refl)) (locks_ended old new t.world.machine s.number n others e.none f.shared.locks) f.shared);
          counts = counted t.world.machine s.number n (below_65 s) t.world.gate t.world.gate moves f.counts;
        }
