-- Every attached backend has answered a run with its result: it has its place in the single run, which stands then as each of them does.
use Rattle.std.proofs.Common.{◌≡◌, ◌≢◌, ℕ, ◌≤◌, Bool, true, false, List, [], ◌∷◌, length, ℤ, refl, sym, ap, ◌∙◌, subst, arith, inl, inr, le_trans}
use Rattle.std.specs.Prelude.{◌⊎◌, Option, Some, None, is_some, if◌then◌else◌, bit_or}
use Rattle.std.specs.FinMap as fin
use Rattle.pool_base.specs.declared.session_id.SessionId.{SessionId}
use Rattle.schema.specs.declared.catalogue.TableDef.{TableDef}
use Rattle.catalogue.specs.declared.checked.Checked.{Checked}
use Rattle.sql_eval.specs.declared.row.Row.{Row}
use Rattle.backend_trait.specs.declared.request.Request.{Request}
use Rattle.backend_trait.specs.declared.request.Request.TheVariants as requests
use Rattle.backend_trait.specs.declared.answer.Answer.{Answer}
use Rattle.backend_trait.specs.declared.answer.Answer.TheVariants as answers
use Rattle.backend_trait.specs.Keys.{Place}
use Rattle.backend_trait.specs.Rows.{Changes, no_changes, joined_changes, with_at}
use Rattle.backend_trait.specs.Effect.{Wants, nothing, Given, Gives, Conflicts, same_place, same_table, table_left, table_right, has_place, these_places, is_among, table_in}
use Rattle.backend_trait.specs.Store.{Live, Transaction, Absent, Alive, Dead, Pending, Store, WhereLive, is_refusal, held_by, given_to, with_places, view_of as seen_by_it, next_for, drawn}
use Rattle.backend_trait.specs.Acts.{MayAnswer, given_of}
use Rattle.backend_trait.specs.Acting.{drawn_waiting}
use Rattle.backend_trait.proofs.Telling.{or_right}
use Rattle.backend_trait.proofs.Among.{among_both}
use Rattle.session_machine.specs.declared.work.Work.{Work}
use Rattle.session_machine.specs.declared.work.Class.{Class}
use Rattle.session_machine.specs.declared.work.Class.TheVariants as classes
use Rattle.session_machine.specs.Classes.{class_in as own_class, work_in}
use Rattle.session_orders.specs.declared.outcome.Outcome.{Outcome}
use Rattle.session_orders.specs.declared.outcome.Outcome.TheVariants as outcomes
use Rattle.session_orders.specs.declared.outcome.Tag.TheVariants as tags
use Rattle.session_machine.specs.declared.machine.GatePhase.{GatePhase}
use Rattle.session_machine.specs.declared.machine.GatePhase.TheVariants as phases
use Rattle.session_machine.specs.declared.machine.Machine.{Machine}
use Rattle.session_machine.specs.declared.machine.Session.{Session}
use Rattle.session_machine.specs.declared.machine.Stage.{Stage}
use Rattle.session_machine.specs.declared.machine.Stage.TheVariants.{Running}
use Rattle.session_machine.specs.declared.machine.Point.TheVariants.{Resting, ReplyDue}
use Rattle.session_machine.specs.Rules.{due, closed, phase_changed, done_with, tag_of, rewritten, work_at, is_moment}
use Rattle.one_copy_model.specs.declared.deed.Entry.{Entry}
use Rattle.one_copy_model.specs.SingleRun.{store_after, deeds_since}
use Rattle.one_copy_model.specs.Places.{asks_as, asks_of}
use Rattle.one_copy_model.specs.Deaths.{is_live, stage_at}
use Rattle.one_copy_model.specs.Tracking.{Told, Tracked, single}
use Rattle.one_copy_model.specs.Replies.{reply_to, statement_reply}
use Rattle.one_copy_model.specs.Chains.{IsResult}
use Rattle.one_copy_model.specs.Orders.{IsStatement, IsClassedIn, IsClassedAt, is_of_commit, runs_at_once}
use Rattle.one_copy_model.specs.Standing.{Standing, Ahead, Leaving, Fallen, Alike, Stands, standing_of, standing_in, standing_by, leaving_of}
use Rattle.one_copy_model.specs.Invariant.{Invariant, IsSound, is_dead, HaveLocks, Leaves, where_live, wants_of, request_in, inserted_in}
use Rattle.one_copy_model.specs.Own.{told_by, stand, IsIn, Own}
use Rattle.one_copy_model.specs.Facts.{CountedBy}
use Rattle.one_copy_model.proofs.Counts.{Moves, counted}
use Rattle.one_copy_model.proofs.Turning.{FactsOf, facts_of, live_there}
use Rattle.one_copy_model.proofs.Turns.{turned}
use Rattle.one_copy_model.proofs.Landing.{moved, moved_holds}
use Rattle.one_copy_model.proofs.Locks.{calm_inserts, no_right}
use Rattle.one_copy_model.proofs.Made.{made_by, ahead_made}
use Rattle.one_copy_model.proofs.Passing.{Passes, own_passes}
use Rattle.one_copy_model.proofs.Places.{same_or_other}
use Rattle.one_copy_model.proofs.Calm.{free_of, is_waiting}
use Rattle.one_copy_model.proofs.Quiet.{real, below_65}
use Rattle.one_copy_model.proofs.Tables.{tables_there}
use Rattle.one_copy_model.proofs.Beginning.{free_own}
use Rattle.one_copy_laws.proofs.GateFinishing.{under_way}
use Rattle.one_copy_laws.proofs.LooksLockSets.{swapped, alike_held, alike_holds, backed_where, locks_grown}
use Rattle.one_copy_laws.proofs.FallsDeaths.{point_asks}
use Rattle.one_copy_laws.proofs.RunsGiving.{IsResultWith, gives_rows, gives_count, given_forms, joined_none, result_is}
use Rattle.one_copy_laws.proofs.RunsPlaced.{may_give, ran_since, ran_to, ran_there, ran_others, ran_next, ran_rows, ran_clear, ran_passes, ran_run}

-- a transaction that is like a live one
like_live : (x : Transaction) (v : Live) → Alike x (Alive v) → (l : Live) × (x ≡ Alive l) × (l.base ≡ v.base) × (l.changes ≡ v.changes) × (l.held ≡ v.held)
like_live (Alive l) v a = (l, refl, a.0, a.1, a.2)
like_live Absent v a = absurd a
like_live Dead v a = absurd a

pub live_where : (x : Transaction) (P : Live → Type 0) → WhereLive x P → (u : Live) × (x ≡ Alive u) × P u
live_where (Alive u) P r = (u, refl, r)
live_where Absent P r = absurd r
live_where Dead P r = absurd r

live_or_idle : (x : Transaction) → (is_live x ≡ true) ⊎ (held_by x ≡ nothing)
live_or_idle Absent = inr refl
live_or_idle (Alive t) = inl refl
live_or_idle Dead = inr refl

waiting_there : (x : Option Pending) (request : Request) → request_in x ≡ Some request → (q : Pending) × (x ≡ Some q) × (q.request ≡ request)
waiting_there (Some q) request e = (q, refl, (let z : Some q.request ≡ Some request = e in let same : q.request ≡ request = cc in same))
waiting_there None request e = absurd (let z : None ≡ Some request = e in cc)

-- what is wanted is held behind it
wanted_held : (held other : Wants) (places : List Place) → Conflicts (these_places places) other → Conflicts (with_places held places) other
wanted_held held other places (same_place p x y) = same_place p (among_both held.places places p ∙ or_right (is_among held.places p) (is_among places p) x) y
wanted_held held other places (same_table t x y) = absurd (let z : false ≡ true = x in cc)
wanted_held held other places (table_left p x y) = absurd (let z : false ≡ true = x in cc)
wanted_held held other places (table_right p x y) = table_right p (among_both held.places places p ∙ or_right (is_among held.places p) (is_among places p) x) y

-- it is asked there as here
runs_as : (work : Work) (class : Class) → work.class ≡ class → runs_at_once class ≡ true → asks_of work ≡ requests.Run work.statement
runs_as work classes.LockingRead c e = ap (asks_as work.statement) c
runs_as work (classes.Write verb) c e = ap (asks_as work.statement) c
runs_as work classes.Read c e = absurd (let z : false ≡ true = e in cc)
runs_as work (classes.SerialInsert table) c e = absurd (let z : false ≡ true = e in cc)

-- what is written at its moment has the class of the statement
class_written : (moment : ℤ) (checked : Checked) (work : Work) → rewritten moment (work_in checked) ≡ Some work → work.class ≡ own_class checked.body
class_written moment checked work = by (is_moment moment)
  where
    by : (w : Bool) → (if w then Some (work_at moment (work_in checked)) else None) ≡ Some work → work.class ≡ own_class checked.body
    by true e = let same : work_at moment (work_in checked) ≡ work = cc in ap (λ (x : Work). x.class) (sym same)
    by false e = absurd (let z : None ≡ Some work = e in cc)

-- a transaction is open before and behind
open_moves : (t : Tracked) (old : GatePhase) (changed more : Bool) (written wrote : ℕ) → old ≡ phases.Live changed written → CountedBy t.world.gate t.world.machine
    → Moves t.world.gate t.world.gate old (phases.Live more wrote)
open_moves t old changed more written wrote is h =
    subst (λ (g : GatePhase). Moves t.world.gate t.world.gate g (phases.Live more wrote)) (sym is)
    (record { snaps = refl; commits = refl; live = refl; apart = h.apart; quiet = h.quiet; few = h.few })

-- a session whose run every attached backend has answered with a result; that of one of them decides
pub record HasRun (t : Tracked) (s : ℕ) (work : Work) (best : Answer) : Type 0 where
  pub in_stage : stage_at (t.world.machine s).point ≡ Some (Running work)
  pub free : is_waiting (t.world.machine s).point ≡ false
  pub awake : (t.world.machine s).point ≡ Resting → ⊥
  pub wants : wants_of (t.world.machine s).point (stage_at (t.world.machine s).point) ≡ Some (asks_of work)
  pub classed : IsClassedIn t.world.tables (Running work)
  pub phase : (changed : Bool) × (written : ℕ) × ((t.world.machine s).session.gate ≡ phases.Live changed written)
  pub statement : (told : Told) → t.orders s ≡ Some told → IsStatement (t.world.machine s).session told work
  pub plain : is_refusal best ≡ false
  pub by : ℕ
  pub here : IsIn t.world.gate.attached.bits by
  pub says : told_by (t.world.machine s) (t.world.mail s) by ≡ Some best
  pub all : (b : ℕ) → IsIn t.world.gate.attached.bits b → (answer : Answer) × (told_by (t.world.machine s) (t.world.mail s) b ≡ Some answer) × (is_refusal answer ≡ false)

module _ (t : Tracked) (h : Invariant t) (s : SessionId) (work : Work) (best : Answer) (r : HasRun t s.number work best) where
  abbrev m : Machine
  m = t.world.machine s.number

  abbrev attached : ℕ
  attached = t.world.gate.attached.bits

  abbrev mail : ℕ → Option Answer
  mail = t.world.mail s.number

  abbrev here : ℕ → Transaction
  here b = (t.world.store b).transaction s.number

  own_was : Own t.world.tables attached t.history t.world.store m mail (t.orders s.number) (t.done s.number) (live_there t s.number) s.number
  own_was = (facts_of t h).own s.number

  pub lives : (u : Live) × ((single t).transaction s.number ≡ Alive u) × IsResult best (given_of (single t) work.statement u)
  lives = live_where ((single t).transaction s.number) (λ u. IsResult best (given_of (single t) work.statement u)) ((own_was.heard r.by (Running work) best r.here r.in_stage r.says).result r.plain)

  abbrev u : Live
  u = lives.0

  pub gave : (changes : Changes) × (places : List Place) × (given_of (single t) work.statement u ≡ Gives best changes places)
  gave = result_is (given_of (single t) work.statement u) best lives.2

  abbrev changes : Changes
  changes = gave.0

  abbrev places : List Place
  places = gave.1

  form : IsResultWith best changes
  form = given_forms (single t).tables work.statement (seen_by_it u) (next_for (single t).next (table_in work.statement)) best changes places gave.2

  abbrev v : Live
  v = given_to (Gives best changes places) u

  pub live : live_there t s.number ≡ true
  live = ap is_live lives.1

  asks : asks_of work ≡ requests.Run work.statement
  asks = runs_as work work.class refl r.classed.1

  pub waits : (q : Pending) × ((single t).pending s.number ≡ Some q) × (q.request ≡ requests.Run work.statement)
  waits = waiting_there ((single t).pending s.number) (requests.Run work.statement)
      (own_was.posts ∙ ap (λ (x : Bool). where_live x (wants_of m.point (stage_at m.point))) live ∙ r.wants ∙ ap Some asks)

  pub draws : drawn (single t).tables (single t).next (requests.Run work.statement) ≡ (single t).next
  draws =
      ap (drawn (single t).tables (single t).next) (sym asks) ∙ ap (drawn_waiting (single t).tables (single t).next) (sym r.wants)
      ∙ point_asks (single t).tables (single t).next m.point (subst (λ (ts : List TableDef). IsClassedAt ts m.point) (sym (tables_there t.world.tables t.history)) own_was.classed)

  -- how it stands here
  ahead : (b : ℕ) → IsIn attached b → stand m mail b ≡ Ahead (requests.Run work.statement ∷ [])
  ahead b in_it =
      let a = r.all b in_it in
      ap (λ (x : Option Stage). standing_by m.session.gate m.point x (told_by m mail b)) r.in_stage ∙ ap (standing_in (Running work)) a.1
      ∙ ap (λ (w : Bool). if w then Fallen else Ahead (requests.Run work.statement ∷ [])) a.2

  not_leaving : (b : ℕ) → IsIn attached b → stand m mail b ≢ Leaving
  not_leaving b in_it e = let z : Ahead (requests.Run work.statement ∷ []) ≡ Leaving = sym (ahead b in_it) ∙ e in cc

  alike : (b : ℕ) → IsIn attached b → Alike (here b) (Alive v)
  alike b in_it =
      subst (Alike (here b))
      (ahead_made (single t) s.number (requests.Run work.statement ∷ []) ((single t).transaction s.number)
      ∙ ap (made_by (single t).tables (single t).rows (single t).next (requests.Run work.statement)) lives.1
      ∙ ap (λ (g : Given). Alive (given_to g u)) gave.2)
      (subst (λ (x : Standing). Stands (single t) s.number (leaving_of t.world.tables s.number t.history) x (here b) ((single t).transaction s.number)) (ahead b in_it) (own_was.stands b in_it))

  held_here : (b : ℕ) → IsIn attached b → held_by (here b) ≡ v.held
  held_here b in_it = alike_held (here b) (Alive v) (alike b in_it)

  its : (l : Live) × (here r.by ≡ Alive l) × (l.base ≡ v.base) × (l.changes ≡ v.changes) × (l.held ≡ v.held)
  its = like_live (here r.by) v (alike r.by r.here)

  pub here_lives : (b : ℕ) → IsIn attached b → is_live (here b) ≡ true
  here_lives b in_it = ap is_live (like_live (here b) v (alike b in_it)).1

  -- nobody else holds there what it holds behind its run
  nobody : (o : ℕ) → o ≢ s.number → Conflicts v.held (held_by ((single t).transaction o)) → ⊥
  nobody o other c = elim (live_or_idle ((single t).transaction o)) [
    | inl there ↦
        let x = backed_where t h o there in
        (h.sound x.0 x.1).apart s.number o (λ e. other (sym e))
        (subst (λ (w : Wants). Conflicts w (held_by ((t.world.store x.0).transaction o))) (sym (held_here x.0 x.1)) (x.2.holds v.held c))
    | inr none ↦ no_right v.held (subst (Conflicts v.held) none c)
  ]

  -- another that leaves here with a change of a place holds it here
  no_leaver : (o : ℕ) (p : Place) → Leaves t o r.by p → has_place v.held p ≡ true → ⊥
  no_leaver o p x e =
      let stands : Alike ((t.world.store r.by).transaction o) (leaving_of t.world.tables o t.history) × ((single t).transaction o ≡ Absent) =
      subst (λ (y : Standing). Stands (single t) o (leaving_of t.world.tables o t.history) y ((t.world.store r.by).transaction o) ((single t).transaction o)) x.leaves (h.stands o r.by r.here) in
      let k = like_live ((t.world.store r.by).transaction o) x.last (subst (Alike ((t.world.store r.by).transaction o)) x.was stands.0) in
      let holds : has_place k.0.held p ≡ true = (h.sound r.by r.here).changed o k.0 p k.1 (ap (λ (c : Changes). is_some (fin.get c p)) k.3 ∙ x.changes) in
      (h.sound r.by r.here).apart s.number o
      (λ same. let z : Ahead (requests.Run work.statement ∷ []) ≡ Leaving = sym (ahead r.by r.here) ∙ subst (λ j. standing_of t.world j r.by ≡ Leaving) (sym same) x.leaves in cc)
      (same_place p (ap (λ (w : Wants). has_place w p) (held_here r.by r.here) ∙ e) (ap (λ (y : Transaction). has_place (held_by y) p) k.1 ∙ holds))

  fresh : (p : Place) → has_place v.held p ≡ true → u.stale p ≡ false
  fresh p e = by (u.stale p) refl
    where
      by : (w : Bool) → u.stale p ≡ w → w ≡ false
      by false is = refl
      by true is = absurd (elim ((h.stale_known s.number r.by its.0 u p r.here its.1 lives.1).here is) [
        | inl stale ↦
            let not_so : its.0.stale p ≡ false = (h.sound r.by r.here).fresh s.number its.0 p its.1 (ap (λ (w : Wants). has_place w p) its.4 ∙ e) in
            let z : false ≡ true = sym not_so ∙ stale in cc
        | inr o ↦ no_leaver o.0 p o.1 e
      ])

  may : MayAnswer (single t) s.number waits.0 best
  may =
      may_give (single t) s.number work.statement u best changes places lives.1 gave.2 form
      (λ p e. fresh p (among_both u.held.places places p ∙ or_right (is_among u.held.places p) (is_among places p) e))
      (λ o other c. nobody o other (wanted_held u.held (held_by ((single t).transaction o)) places c))
      waits.0 waits.2

  -- the single run behind it
  abbrev pub mid : List Entry
  mid = ran_to t.world.tables s.number t.history work.statement u best changes places waits.0 lives.1 waits.1 waits.2 gave.2 r.plain draws

  abbrev new : Store
  new = store_after t.world.tables mid

  there : new.transaction s.number ≡ Alive v
  there = ran_there t.world.tables s.number t.history work.statement u best changes places waits.0 lives.1 waits.1 waits.2 gave.2 r.plain draws

  others : (o : ℕ) → o ≢ s.number → new.transaction o ≡ (single t).transaction o
  others o other = ran_others t.world.tables s.number t.history work.statement u best changes places waits.0 lives.1 waits.1 waits.2 gave.2 r.plain draws o other

  apart : (a o : ℕ) → a ≢ o → Conflicts (held_by (new.transaction a)) (held_by (new.transaction o)) → ⊥
  apart a o differ c = elim (same_or_other a s.number) [
    | inl is ↦
        let other : o ≢ s.number = (λ e. differ (is ∙ sym e)) in
        nobody o other (subst (λ (x : Transaction). Conflicts v.held (held_by x)) (others o other) (subst (λ (x : Transaction). Conflicts (held_by x) (held_by (new.transaction o))) (ap new.transaction is ∙ there) c))
    | inr other ↦ elim (same_or_other o s.number) [
      | inl is ↦
          nobody a other
          (subst (λ (x : Transaction). Conflicts v.held (held_by x)) (others a other)
          (swapped (held_by (new.transaction a)) v.held (subst (λ (x : Transaction). Conflicts (held_by (new.transaction a)) (held_by x)) (ap new.transaction is ∙ there) c)))
      | inr another ↦
          h.sound_there.apart a o differ
          (subst (λ (x : Transaction). Conflicts (held_by x) (held_by ((single t).transaction o))) (others a other) (subst (λ (x : Transaction). Conflicts (held_by (new.transaction a)) (held_by x)) (others o another) c))
    ]
  ]

  its_own : (o : ℕ) (w : Live) → o ≡ s.number → new.transaction o ≡ Alive w → v ≡ w
  its_own o w e is = let z : Alive v ≡ Alive w = sym there ∙ ap new.transaction (sym e) ∙ is in let same : v ≡ w = cc in same

  sound : IsSound new
  sound = record {
    apart = apart;
    changed = λ o w p is some. elim (same_or_other o s.number) [
      | inl e ↦
          subst (λ (x : Live). is_some (fin.get x.changes p) ≡ true → has_place x.held p ≡ true) (its_own o w e is)
          (λ f. ap (λ (x : Wants). has_place x p) (sym its.4) ∙ (h.sound r.by r.here).changed s.number its.0 p its.1 (ap (λ (c : Changes). is_some (fin.get c p)) its.3 ∙ f)) some
      | inr other ↦ h.sound_there.changed o w p (sym (others o other) ∙ is) some
    ];
    fresh = λ o w p is held. elim (same_or_other o s.number) [
      | inl e ↦ subst (λ (x : Live). has_place x.held p ≡ true → x.stale p ≡ false) (its_own o w e is) (λ f. fresh p f) held
      | inr other ↦ h.sound_there.fresh o w p (sym (others o other) ∙ is) held
    ];
  }

  lives_before : (o : ℕ) → is_live (new.transaction o) ≡ true → is_live ((single t).transaction o) ≡ true
  lives_before o there_now = elim (same_or_other o s.number) [
    | inl e ↦ ap (λ j. is_live ((single t).transaction j)) e ∙ live
    | inr other ↦ sym (ap is_live (others o other)) ∙ there_now
  ]

  -- where it is led: to its reply, and a write has changed something
  module _ (looks : Session) (more : Bool) (wrote : ℕ) (outcome : Outcome)
      (unchanged : more ≡ false → v.changes ≡ no_changes)
      (replied : (told : Told) (o : IsStatement m.session told work) → statement_reply (own_class o.checked.body) (Some best) ≡ Some outcome) where
    abbrev n : Machine
    n = due (record looks { gate = phases.Live more wrote }) (ReplyDue outcome)

    longer : length t.history ≤ length mid
    longer = omega arith

    locks : HaveLocks new (with_at t.world.machine s.number n)
    locks =
        locks_grown (single t) new attached t.world.store t.world.machine s.number n others h.sound (λ o other lives_there. backed_where t h o lives_there)
        (λ b w in_it c. alike_holds (here b) (new.transaction s.number) (subst (Alike (here b)) (sym there) (alike b in_it)) w c)
        (λ table lives_on i. absurd (calm_inserts n table refl i)) h.locks

    ran_own : Own t.world.tables attached mid t.world.store n mail (t.orders s.number) (t.done s.number) true s.number
    ran_own =
        free_own t.world.tables attached t.history mid t.world.store m mail (t.orders s.number) (t.done s.number) (live_there t s.number) s.number
        (real s) (free_of m.point r.free) own_was n (t.orders s.number) (t.done s.number) true refl
        refl
        tt
        (λ x e. absurd (let z : None ≡ Some x = e in cc))
        (λ b x in_it e. absurd (let z : None ≡ Some x = e in cc))
        (λ b in_it. subst (Alike (here b)) (sym there) (alike b in_it))
        (λ w written e is. ap (λ (x : Live). x.changes) (sym (its_own s.number w refl is)) ∙ unchanged (let z : phases.Live more wrote ≡ phases.Live false written = e in let same : more ≡ false = cc in same))
        (λ b l in_it e is. absurd (let z : false ≡ true = ap is_of_commit e in cc))
        (ap request_in (ran_clear t.world.tables s.number t.history work.statement u best changes places waits.0 lives.1 waits.1 waits.2 gave.2 r.plain draws))
        (λ told other e f. inl (
        let o : IsStatement m.session told work = r.statement told e in
        ap (λ x. reply_to x told.status told.begun (deeds_since s.number told.entries mid)) o.body
        ∙ ap (statement_reply (own_class o.checked.body)) (ran_since s.number told.entries t.history best (own_was.since told e)) ∙ replied told o ∙ f))
        (under_way m.point (t.orders s.number) r.awake own_was.orders)
        (λ told e. tt)
        (λ told e. le_trans (own_was.since told e) longer)
        (λ b told in_it e f. absurd (let z : false ≡ true = f in cc))
        (λ b told e entered in_it f. own_was.done_first b told e entered in_it (not_leaving b in_it))

    pub ran_moved : Invariant (moved t s.number n t.world.gate mail mid (t.orders s.number) (t.done s.number))
    ran_moved =
        let f : FactsOf t = facts_of t h in
        moved_holds t s.number n t.world.gate mail mid (t.orders s.number) (t.done s.number) refl
        (subst (λ (x : Bool). Own t.world.tables attached mid t.world.store n mail (t.orders s.number) (t.done s.number) x s.number) (sym (ap is_live there)) ran_own)
        (λ o other. own_passes t.world.tables o t.history mid (passes o other) attached t.world.store (t.world.machine o) (t.world.mail o) (t.orders o) (t.done o) (live_there t o) (is_live (new.transaction o)) (ap is_live (others o other)) (f.own o))
        (turned t.world.tables attached t.history mid t.world.store t.world.machine t.world.mail s.number n mail passes
        not_leaving (λ b in_it e. let z : Ahead [] ≡ Leaving = e in cc) refl
        (λ b other in_it e. let z : None ≡ Some other = sym (ap (λ (x : Option Stage). inserted_in x (told_by m mail b)) r.in_stage) ∙ e in cc)
        (λ b other in_it e. let z : None ≡ Some other = e in cc)
        (ran_rows t.world.tables s.number t.history work.statement u best changes places waits.0 lives.1 waits.1 waits.2 gave.2 r.plain draws)
        (ran_next t.world.tables s.number t.history work.statement u best changes places waits.0 lives.1 waits.1 waits.2 gave.2 r.plain draws)
        sound
        (λ o. elim (same_or_other o s.number) [ inl e ↦ ap is_dead (ap new.transaction e ∙ there) | inr other ↦ ap is_dead (others o other) ∙ h.undead o ])
        (ran_run t.world.tables s.number t.history work.statement u best changes places waits.0 lives.1 waits.1 waits.2 gave.2 r.plain draws may h.run)
        (λ a w is. elim (same_or_other a s.number) [
          | inl e ↦ (u, ap (single t).transaction e ∙ lives.1, sym (ap (λ (x : Live). x.stale) (its_own a w e is)))
          | inr other ↦ (w, sym (others a other) ∙ is, refl)
        ])
        locks f.shared)
        (counted t.world.machine s.number n (below_65 s) t.world.gate t.world.gate (open_moves t m.session.gate r.phase.0 more r.phase.1 wrote r.phase.2 f.counts) f.counts)
        (λ o lives_now. h.alive o (lives_before o lives_now))
      where
        passes : (o : ℕ) → o ≢ s.number → Passes t.world.tables o t.history mid
        passes o other = ran_passes t.world.tables s.number t.history work.statement u best changes places waits.0 lives.1 waits.1 waits.2 gave.2 r.plain draws o other

  -- it goes to its reply, whatever the session has seen meanwhile
  module _ (looks : Session) (gate : looks.gate ≡ m.session.gate) where
    pub record Replies : Type 0 where
      pub more : Bool
      pub wrote : ℕ
      pub outcome : Outcome
      pub leads : (behind : Bool) → closed behind looks (Running work) best ≡ due (record looks { gate = phases.Live more wrote }) (ReplyDue outcome)
      pub holds : Invariant (moved t s.number (due (record looks { gate = phases.Live more wrote }) (ReplyDue outcome)) t.world.gate mail mid (t.orders s.number) (t.done s.number))

    opens : looks.gate ≡ phases.Live r.phase.0 r.phase.1
    opens = gate ∙ r.phase.2

    -- rows change nothing
    reads : (rows : List Row) → best ≡ answers.Rows rows → changes ≡ no_changes → Replies
    reads rows is none =
        let outcome : Outcome = outcomes.Rows rows (tags.Select (length rows)) in
        record {
          more = r.phase.0;
          wrote = r.phase.1;
          outcome = outcome;
          leads = λ behind. ap (closed behind looks (Running work)) is ∙ ap (λ (g : GatePhase). due (record looks { gate = g }) (ReplyDue outcome)) opens;
          holds = ran_moved looks r.phase.0 r.phase.1 outcome
              (λ e.
              ap (λ (c : Changes). joined_changes c u.changes) none ∙ joined_none u.changes
              ∙ own_was.unchanged u r.phase.1 (r.phase.2 ∙ ap (λ (x : Bool). phases.Live x r.phase.1) e) lives.1)
              (λ told o. ap (λ (a : Answer). statement_reply (own_class o.checked.body) (Some a)) is);
        }

    -- a count is of a write
    writes : (count : ℕ) → best ≡ answers.Count count → Replies
    writes count is =
        let outcome : Outcome = done_with (tag_of work.class count) in
        record {
          more = true;
          wrote = bit_or r.phase.1 work.tables;
          outcome = outcome;
          leads = λ behind. ap (closed behind looks (Running work)) is ∙ ap (λ (g : GatePhase). due (record looks { gate = phase_changed g work.tables }) (ReplyDue outcome)) opens;
          holds = ran_moved looks true (bit_or r.phase.1 work.tables) outcome
              (λ e. absurd (let z : true ≡ false = e in cc))
              (λ told o.
              ap (λ (a : Answer). statement_reply (own_class o.checked.body) (Some a)) is
              ∙ ap (λ (c : Class). Some (done_with (tag_of c count))) (sym (class_written told.moment o.checked work o.written)));
        }

    pub ran_replies : Replies
    ran_replies = by form
      where
        by : IsResultWith best changes → Replies
        by (gives_rows rows is none) = reads rows is none
        by (gives_count count is) = writes count is
