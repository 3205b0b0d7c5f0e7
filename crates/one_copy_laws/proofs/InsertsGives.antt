-- The run of a serial insert has its result at each attached backend: it has its place in the single run, with its lock, which stands then
-- as each of them does.
use Rattle.std.proofs.Common.{◌≡◌, ◌≢◌, ℕ, ◌≤◌, Bool, true, false, ◌||◌, List, [], ◌∷◌, length, refl, sym, ap, ◌∙◌, subst, arith, inl, inr}
use Rattle.std.specs.Prelude.{◌⊎◌, ◌==◌, Option, Some, None, is_some, if◌then◌else◌, bit_or}
use Rattle.std.specs.FinMap as fin
use Rattle.std.proofs.lemmas.Bool.Decides.{eqb_tells}
use Rattle.pool_base.specs.declared.session_id.SessionId.{SessionId}
use Rattle.backend_trait.specs.declared.request.Request.{Request}
use Rattle.backend_trait.specs.declared.request.Request.TheVariants as requests
use Rattle.backend_trait.specs.declared.answer.Answer.{Answer}
use Rattle.backend_trait.specs.declared.answer.Answer.TheVariants as answers
use Rattle.backend_trait.specs.Keys.{Place}
use Rattle.backend_trait.specs.Rows.{Changes, with_at}
use Rattle.backend_trait.specs.Effect.{Wants, Given, Gives, Conflicts, same_place, same_table, table_left, table_right, has_place, these_places, is_among, table_in}
use Rattle.backend_trait.specs.Store.{Live, Transaction, Absent, Alive, Dead, Store, WhereLive, is_refusal, held_by, table_lock, given_to, view_of, next_for}
use Rattle.backend_trait.specs.Acts.{IsOf, given_of, wants_in}
use Rattle.backend_trait.proofs.Telling.{or_right}
use Rattle.backend_trait.proofs.Among.{among_both}
use Rattle.session_machine.specs.declared.work.Class.{Class}
use Rattle.session_machine.specs.declared.work.Work.{Work}
use Rattle.session_machine.specs.Classes.{class_in as own_class}
use Rattle.session_orders.specs.declared.outcome.Outcome.{Outcome}
use Rattle.session_machine.specs.declared.machine.GatePhase.{GatePhase}
use Rattle.session_machine.specs.declared.machine.GatePhase.TheVariants as phases
use Rattle.session_machine.specs.declared.machine.Machine.{Machine}
use Rattle.session_machine.specs.declared.machine.Session.{Session}
use Rattle.session_machine.specs.declared.machine.Stage.{Stage}
use Rattle.session_machine.specs.declared.machine.Stage.TheVariants.{Inserting}
use Rattle.session_machine.specs.declared.machine.Point.TheVariants.{ReplyDue}
use Rattle.session_machine.specs.Rules.{due, closed, phase_changed, done_with, tag_of}
use Rattle.one_copy_model.specs.declared.deed.Deed.TheVariants.{Asks, Gets}
use Rattle.one_copy_model.specs.declared.deed.Entry.{Entry}
use Rattle.one_copy_model.specs.SingleRun.{store_after, deeds_since, answer_in}
use Rattle.one_copy_model.specs.Places.{asks_of, decided_by}
use Rattle.one_copy_model.specs.Deaths.{is_live, stage_at, recorded}
use Rattle.one_copy_model.specs.Tracking.{Tracked, single}
use Rattle.one_copy_model.specs.Replies.{reply_to, statement_reply}
use Rattle.one_copy_model.specs.Chains.{IsResult}
use Rattle.one_copy_model.specs.Orders.{IsClassedIn, is_of_commit}
use Rattle.one_copy_model.specs.Standing.{Standing, Ahead, Leaving, Fallen, Alike, Stands, standing_in, leaving_of}
use Rattle.one_copy_model.specs.Invariant.{IsSound, is_dead, HaveLocks, Inserts, request_in}
use Rattle.one_copy_model.specs.Own.{told_by, stand, IsIn}
use Rattle.one_copy_model.specs.Facts.{Going, CountedBy}
use Rattle.one_copy_model.proofs.Counts.{Moves}
use Rattle.one_copy_model.proofs.Turning.{FactsOf, live_there}
use Rattle.one_copy_model.proofs.Places.{same_or_other, each_at}
use Rattle.one_copy_model.proofs.Locks.{calm_inserts}
use Rattle.one_copy_model.proofs.Made.{made_by, ahead_made}
use Rattle.one_copy_model.proofs.Calm.{free_of, is_waiting}
use Rattle.one_copy_model.proofs.Quiet.{real}
use Rattle.one_copy_model.proofs.Beginning.{free_own}
use Rattle.one_copy_model.proofs.Deeds.{entry}
use Rattle.one_copy_laws.proofs.GateFinishing.{under_way}
use Rattle.one_copy_laws.proofs.LooksLockSets.{swapped}
use Rattle.one_copy_laws.proofs.MarksWanting.{wants_within}
use Rattle.one_copy_laws.proofs.RunsGiving.{result_is}
use Rattle.one_copy_laws.proofs.RunsPlaced.{ran_since}
use Rattle.one_copy_laws.proofs.DrawsStatements.{serial_table, asks_lock}
use Rattle.one_copy_laws.proofs.DrawsInserting.{Drawn, locked_by, insert_gives, insert_lives, insert_placed}
use Rattle.one_copy_laws.proofs.InsertsCounting.{insert_counts, class_written}
use Rattle.one_copy_laws.proofs.InsertsInsert as insert

or_true : (a b : Bool) → (a || b) ≡ true → (a ≡ true) ⊎ (b ≡ true)
or_true true b e = inl refl
or_true false b e = inr e

itself : (n : ℕ) → (n == n) ≡ true
itself n = elim (eqb_tells n n) [ inl p ↦ p.0 | inr p ↦ absurd (p.1 refl) ]

equal_of : (a b : ℕ) → (a == b) ≡ true → a ≡ b
equal_of a b e = elim (eqb_tells a b) [ inl p ↦ p.1 | inr p ↦ absurd (let z : false ≡ true = sym p.0 ∙ e in cc) ]

like_live : (x : Transaction) (v : Live) → Alike x (Alive v) → (l : Live) × (x ≡ Alive l) × (l.base ≡ v.base) × (l.changes ≡ v.changes) × (l.held ≡ v.held)
like_live (Alive l) v a = (l, refl, a.0, a.1, a.2)
like_live Absent v a = absurd a
like_live Dead v a = absurd a

live_where : (x : Transaction) (P : Live → Type 0) → WhereLive x P → (u : Live) × (x ≡ Alive u) × P u
live_where (Alive u) P r = (u, refl, r)
live_where Absent P r = absurd r
live_where Dead P r = absurd r

-- locks of two tables are in nobody's way
locks_meet : (a b : ℕ) → Conflicts (table_lock a) (table_lock b) → a ≡ b
locks_meet a b (same_table t x y) = sym (equal_of t a x) ∙ equal_of t b y
locks_meet a b (same_place p x y) = absurd (let z : false ≡ true = x in cc)
locks_meet a b (table_left p x y) = absurd (let z : false ≡ true = y in cc)
locks_meet a b (table_right p x y) = absurd (let z : false ≡ true = x in cc)

-- what a transaction holds behind its table's lock and its run, which wants places of that table alone
module _ (table : ℕ) (k : Live) (answer : Answer) (changes : Changes) (places : List Place) (within : (p : Place) → is_among places p ≡ true → p.table ≡ table) where
  abbrev pub holds : Wants
  holds = (given_to (Gives answer changes places) (locked_by table k)).held

  locked : (p : Place) → p.table ≡ table → (table_lock table).tables p.table ≡ true
  locked p e = ap (λ (x : ℕ). x == table) e ∙ itself table

  held_either : (p : Place) → has_place holds p ≡ true → (has_place k.held p ≡ true) ⊎ (is_among places p ≡ true)
  held_either p e = or_true (is_among k.held.places p) (is_among places p) (sym (among_both k.held.places places p) ∙ e)

  pub held_wanted : (p : Place) → is_among places p ≡ true → has_place holds p ≡ true
  held_wanted p e = among_both k.held.places places p ∙ or_right (is_among k.held.places p) (is_among places p) e

  -- who is in its way was so before, or is in the way of the lock
  pub held_splits : (w : Wants) → Conflicts holds w → Conflicts k.held w ⊎ Conflicts (table_lock table) w
  held_splits w (same_place p x y) = elim (held_either p x) [ inl old ↦ inl (same_place p old y) | inr wanted ↦ inr (table_left p (locked p (within p wanted)) y) ]
  held_splits w (same_table t x y) = elim (or_true (t == table) (k.held.tables t) x) [ inl lock ↦ inr (same_table t lock y) | inr old ↦ inl (same_table t old y) ]
  held_splits w (table_left p x y) = elim (or_true (p.table == table) (k.held.tables p.table) x) [ inl lock ↦ inr (table_left p lock y) | inr old ↦ inl (table_left p old y) ]
  held_splits w (table_right p x y) = elim (held_either p x) [ inl old ↦ inl (table_right p old y) | inr wanted ↦ inr (same_table p.table (locked p (within p wanted)) y) ]

  -- the lock covers what the run wants
  pub wants_locked : (w : Wants) → Conflicts (these_places places) w → Conflicts (table_lock table) w
  wants_locked w (same_place p x y) = table_left p (locked p (within p x)) y
  wants_locked w (same_table t x y) = absurd (let z : false ≡ true = x in cc)
  wants_locked w (table_left p x y) = absurd (let z : false ≡ true = x in cc)
  wants_locked w (table_right p x y) = same_table p.table (locked p (within p x)) y

open_moves : (t : Tracked) (old : GatePhase) (changed more : Bool) (written wrote : ℕ) → old ≡ phases.Live changed written → CountedBy t.world.gate t.world.machine
    → Moves t.world.gate t.world.gate old (phases.Live more wrote)
open_moves t old changed more written wrote is h =
    subst (λ (g : GatePhase). Moves t.world.gate t.world.gate g (phases.Live more wrote)) (sym is)
    (record { snaps = refl; commits = refl; live = refl; apart = h.apart; quiet = h.quiet; few = h.few })

-- the result of one attached backend decides
pub record HasResult (t : Tracked) (s : ℕ) (work : Work) (best : Answer) : Type 0 where
  pub plain : is_refusal best ≡ false
  pub form : IsOf (requests.Run work.statement) best
  pub by : ℕ
  pub here : IsIn t.world.gate.attached.bits by
  pub says : told_by (t.world.machine s) (t.world.mail s) by ≡ Some best
  pub all : (b : ℕ) → IsIn t.world.gate.attached.bits b → (answer : Answer) × (told_by (t.world.machine s) (t.world.mail s) b ≡ Some answer) × (is_refusal answer ≡ false)

module _ (t : Tracked) (f : FactsOf t) (s : SessionId) (work : Work) (posted : Bool)
    (in_stage : stage_at (t.world.machine s.number).point ≡ Some (Inserting work posted)) (free : is_waiting (t.world.machine s.number).point ≡ false)
    (best : Answer) (r : HasResult t s.number work best) where
  abbrev m : Machine
  m = t.world.machine s.number

  abbrev attached : ℕ
  attached = t.world.gate.attached.bits

  abbrev mail : ℕ → Option Answer
  mail = t.world.mail s.number

  abbrev stage : Stage
  stage = Inserting work posted

  abbrev here : ℕ → Transaction
  here b = (t.world.store b).transaction s.number

  abbrev c : IsClassedIn t.world.tables stage
  c = insert.classed t f s work posted in_stage free

  abbrev table : ℕ
  table = c.1.0

  lives : (k : Live) × ((single t).transaction s.number ≡ Alive k) × IsResult best (given_of (single t) work.statement k)
  lives = live_where ((single t).transaction s.number) (λ u. IsResult best (given_of (single t) work.statement u)) (((f.own s.number).heard r.by stage best r.here in_stage r.says).result r.plain)

  abbrev k : Live
  k = lives.0

  pub live : live_there t s.number ≡ true
  live = ap is_live lives.1

  gave : (changes : Changes) × (places : List Place) × (given_of (single t) work.statement k ≡ Gives best changes places)
  gave = result_is (given_of (single t) work.statement k) best lives.2

  abbrev changes : Changes
  changes = gave.0

  abbrev places : List Place
  places = gave.1

  within : (p : Place) → is_among places p ≡ true → p.table ≡ table
  within p e =
      let at : Some p.table ≡ table_in work.statement =
      wants_within (single t).tables work.statement (view_of k) (next_for (single t).next (table_in work.statement)) p (ap (λ (g : Given). has_place (wants_in g) p) gave.2 ∙ e) in
      let z : Some p.table ≡ Some table = at ∙ sym (serial_table t.world.tables work table c.0 c.1.1) in
      let same : p.table ≡ table = cc in same

  abbrev v : Live
  v = given_to (Gives best changes places) (locked_by table k)

  -- how it stands here
  ahead : (b : ℕ) → IsIn attached b → stand m mail b ≡ Ahead (requests.Run work.statement ∷ asks_of work ∷ [])
  ahead b in_it =
      let a = r.all b in_it in
      insert.stand_is t f s work posted in_stage free b ∙ ap (standing_in stage) a.1
      ∙ ap (λ (w : Bool). if w then Fallen else Ahead (requests.Run work.statement ∷ asks_of work ∷ [])) a.2

  alike : (b : ℕ) → IsIn attached b → Alike (here b) (Alive v)
  alike b in_it =
      subst (Alike (here b))
      (ahead_made (single t) s.number (requests.Run work.statement ∷ asks_of work ∷ []) ((single t).transaction s.number)
      ∙ ap (λ (q : Request). made_by (single t).tables (single t).rows (single t).next (requests.Run work.statement) (made_by (single t).tables (single t).rows (single t).next q ((single t).transaction s.number))) (asks_lock work table c.1.1)
      ∙ ap (λ (x : Transaction). made_by (single t).tables (single t).rows (single t).next (requests.Run work.statement) (made_by (single t).tables (single t).rows (single t).next (requests.Lock table) x)) lives.1
      ∙ ap (λ (g : Given). Alive (given_to g (locked_by table k))) gave.2)
      (subst (λ (x : Standing). Stands (single t) s.number (leaving_of t.world.tables s.number t.history) x (here b) ((single t).transaction s.number)) (ahead b in_it) ((f.own s.number).stands b in_it))

  its : (l : Live) × (here r.by ≡ Alive l) × (l.base ≡ v.base) × (l.changes ≡ v.changes) × (l.held ≡ v.held)
  its = like_live (here r.by) v (alike r.by r.here)

  -- nobody else is in its way there
  nobody : (o : ℕ) → o ≢ s.number → Conflicts v.held (held_by ((single t).transaction o)) → ⊥
  nobody o other x = elim (held_splits table k best changes places within (held_by ((single t).transaction o)) x) [
    | inl old ↦ f.shared.sound_there.apart s.number o (λ e. other (sym e)) (subst (λ (y : Transaction). Conflicts (held_by y) (held_by ((single t).transaction o))) (sym lives.1) old)
    | inr lock ↦ insert.lock_free t f s work posted in_stage free k lives.1 o (λ e. other (sym e)) lock
  ]

  -- another that leaves here with a change of a place holds it here
  no_leaver : (o : ℕ) (p : Place) → Going t.world.tables t.history (t.world.machine o) (t.world.mail o) o r.by p → has_place v.held p ≡ true → ⊥
  no_leaver o p x e =
      let stands : Alike ((t.world.store r.by).transaction o) (leaving_of t.world.tables o t.history) × ((single t).transaction o ≡ Absent) =
      subst (λ (y : Standing). Stands (single t) o (leaving_of t.world.tables o t.history) y ((t.world.store r.by).transaction o) ((single t).transaction o)) x.leaves ((f.own o).stands r.by r.here) in
      let q = like_live ((t.world.store r.by).transaction o) x.last (subst (Alike ((t.world.store r.by).transaction o)) x.was stands.0) in
      let holds_it : has_place q.0.held p ≡ true = (f.shared.sound r.by r.here).changed o q.0 p q.1 (ap (λ (y : Changes). is_some (fin.get y p)) q.3 ∙ x.changes) in
      (f.shared.sound r.by r.here).apart s.number o
      (λ same. insert.stays t f s work posted in_stage free r.by (subst (λ j. stand (t.world.machine j) (t.world.mail j) r.by ≡ Leaving) (sym same) x.leaves))
      (same_place p (ap (λ (y : Transaction). has_place (held_by y) p) its.1 ∙ ap (λ (w : Wants). has_place w p) its.4 ∙ e) (ap (λ (y : Transaction). has_place (held_by y) p) q.1 ∙ holds_it))

  fresh : (p : Place) → has_place v.held p ≡ true → k.stale p ≡ false
  fresh p e = by (k.stale p) refl
    where
      by : (w : Bool) → k.stale p ≡ w → w ≡ false
      by false is = refl
      by true is = absurd (elim (f.shared.stale_here s.number r.by its.0 k p r.here its.1 lives.1 is) [
        | inl stale ↦
            let not_so : its.0.stale p ≡ false = (f.shared.sound r.by r.here).fresh s.number its.0 p its.1 (ap (λ (w : Wants). has_place w p) its.4 ∙ e) in
            let z : false ≡ true = sym not_so ∙ stale in cc
        | inr o ↦ no_leaver o.0 p o.1 e
      ])

  -- the single run behind it
  abbrev runs : List Entry
  runs = entry s.number (Asks (requests.Run work.statement)) ∷ entry s.number (Gets answers.Locked) ∷ t.history

  abbrev pub mid : List Entry
  mid = recorded s.number (decided_by stage best) t.history

  abbrev new : Store
  new = store_after t.world.tables mid

  drawn : Drawn t.world.tables s.number table work t.history mid
  drawn =
      insert_gives t.world.tables s.number table t.history work k c.0 c.1.1 lives.1
      (insert.asks t f s work posted in_stage free k lives.1) (insert.lock_free t f s work posted in_stage free k lives.1) f.shared.run
      best changes places posted r.form r.plain gave.2
      (λ p e. fresh p (held_wanted table k best changes places within p e))
      (λ o other x. insert.lock_free t f s work posted in_stage free k lives.1 o (λ e. other (sym e)) (wants_locked table k best changes places within (held_by ((single t).transaction o)) x))

  there : new.transaction s.number ≡ Alive v
  there =
      insert_lives t.world.tables s.number table t.history work k c.0 c.1.1 lives.1
      (insert.asks t f s work posted in_stage free k lives.1) (insert.lock_free t f s work posted in_stage free k lives.1) f.shared.run
      best changes places posted r.form r.plain gave.2

  placed_is : mid ≡ entry s.number (Gets best) ∷ runs
  placed_is =
      insert_placed t.world.tables s.number table t.history work k c.0 c.1.1 lives.1
      (insert.asks t f s work posted in_stage free k lives.1) (insert.lock_free t f s work posted in_stage free k lives.1) f.shared.run
      best changes places posted r.form r.plain gave.2

  pub others : (o : ℕ) → o ≢ s.number → new.transaction o ≡ (single t).transaction o
  others o other = (drawn.draws o other).transaction

  its_own : (o : ℕ) (w : Live) → o ≡ s.number → new.transaction o ≡ Alive w → v ≡ w
  its_own o w e is = let z : Alive v ≡ Alive w = sym there ∙ ap new.transaction (sym e) ∙ is in let same : v ≡ w = cc in same

  apart : (a o : ℕ) → a ≢ o → Conflicts (held_by (new.transaction a)) (held_by (new.transaction o)) → ⊥
  apart a o differ x = elim (same_or_other a s.number) [
    | inl is ↦
        let other : o ≢ s.number = (λ e. differ (is ∙ sym e)) in
        nobody o other (subst (λ (y : Transaction). Conflicts v.held (held_by y)) (others o other) (subst (λ (y : Transaction). Conflicts (held_by y) (held_by (new.transaction o))) (ap new.transaction is ∙ there) x))
    | inr other ↦ elim (same_or_other o s.number) [
      | inl is ↦
          nobody a other
          (subst (λ (y : Transaction). Conflicts v.held (held_by y)) (others a other)
          (swapped (held_by (new.transaction a)) v.held (subst (λ (y : Transaction). Conflicts (held_by (new.transaction a)) (held_by y)) (ap new.transaction is ∙ there) x)))
      | inr another ↦
          f.shared.sound_there.apart a o differ
          (subst (λ (y : Transaction). Conflicts (held_by y) (held_by ((single t).transaction o))) (others a other) (subst (λ (y : Transaction). Conflicts (held_by (new.transaction a)) (held_by y)) (others o another) x))
    ]
  ]

  sound : IsSound new
  sound = record {
    apart = apart;
    changed = λ o w p is some. elim (same_or_other o s.number) [
      | inl e ↦
          subst (λ (x : Live). is_some (fin.get x.changes p) ≡ true → has_place x.held p ≡ true) (its_own o w e is)
          (λ g. ap (λ (x : Wants). has_place x p) (sym its.4) ∙ (f.shared.sound r.by r.here).changed s.number its.0 p its.1 (ap (λ (x : Changes). is_some (fin.get x p)) its.3 ∙ g)) some
      | inr other ↦ f.shared.sound_there.changed o w p (sym (others o other) ∙ is) some
    ];
    fresh = λ o w p is held. elim (same_or_other o s.number) [
      | inl e ↦ subst (λ (x : Live). has_place x.held p ≡ true → x.stale p ≡ false) (its_own o w e is) (λ g. fresh p g) held
      | inr other ↦ f.shared.sound_there.fresh o w p (sym (others o other) ∙ is) held
    ];
  }

  pub lives_before : (o : ℕ) → is_live (new.transaction o) ≡ true → live_there t o ≡ true
  lives_before o now = elim (same_or_other o s.number) [
    | inl e ↦ ap (live_there t) e ∙ live
    | inr other ↦ sym (ap is_live (others o other)) ∙ now
  ]

  -- it goes to its reply: a write has changed something
  module _ (looks : Session) (phase : looks.gate ≡ m.session.gate) where
    pub counted_as : (n : ℕ) × (best ≡ answers.Count n)
    counted_as = insert_counts work.statement.body table work.statement.columns best (sym c.0.class ∙ c.1.1) r.form r.plain

    pub inside : (changed : Bool) × (written : ℕ) × (m.session.gate ≡ phases.Live changed written)
    inside = insert.inside t f s work posted in_stage free

    abbrev wrote : ℕ
    wrote = bit_or inside.1 work.tables

    abbrev outcome : Outcome
    outcome = done_with (tag_of work.class counted_as.0)

    abbrev pub replies_to : Machine
    replies_to = due (record looks { gate = phases.Live true wrote }) (ReplyDue outcome)

    pub closes_to : (behind : Bool) → closed behind looks stage best ≡ replies_to
    closes_to behind =
        ap (closed behind looks stage) counted_as.1
        ∙ ap (λ (g : GatePhase). due (record looks { gate = phase_changed g work.tables }) (ReplyDue outcome)) (phase ∙ inside.2)

    -- another insert under way is of another table, which its lock and its run do not touch
    other_insert : HaveLocks (single t) t.world.machine → (a other : ℕ) → a ≢ s.number → live_there t a ≡ true → Inserts (t.world.machine a) other
        → Conflicts (table_lock other) v.held → ⊥
    other_insert h a other differ there_live i x = elim (held_splits table k best changes places within (table_lock other) (swapped (table_lock other) v.held x)) [
      | inl old ↦
          h.free a s.number other differ there_live i
          (subst (λ (y : Transaction). Conflicts (table_lock other) (held_by y)) (sym lives.1) (swapped k.held (table_lock other) old))
      | inr lock ↦
          differ (h.alone a s.number other there_live live i (subst (Inserts m) (locks_meet table other lock) (insert.inserts t f s work posted in_stage free)))
    ]

    insert_from : (a other : ℕ) → is_live (new.transaction a) ≡ true → Inserts (with_at t.world.machine s.number replies_to a) other
        → (a ≢ s.number) × (live_there t a ≡ true) × Inserts (t.world.machine a) other
    insert_from a other = each_at (λ o x. is_live (new.transaction o) ≡ true → Inserts x other → (o ≢ s.number) × (live_there t o ≡ true) × Inserts (t.world.machine o) other) t.world.machine s.number replies_to
        (λ now i. absurd (calm_inserts replies_to other refl i))
        (λ o apart_of now i. (apart_of, sym (ap is_live (others o apart_of)) ∙ now, i))
        a

    locks : HaveLocks new (with_at t.world.machine s.number replies_to)
    locks =
        let h : HaveLocks (single t) t.world.machine = f.shared.locks in
        record {
          alone = λ a o other now later i j.
              let x = insert_from a other now i in
              let y = insert_from o other later j in
              h.alone a o other x.1 y.1 x.2 y.2;
          free = λ a o other differ now i z.
              let x = insert_from a other now i in
              elim (same_or_other o s.number) [
                | inl e ↦ other_insert h a other x.0 x.1 x.2 (subst (λ (y : Transaction). Conflicts (table_lock other) (held_by y)) (ap new.transaction e ∙ there) z)
                | inr apart_of ↦ h.free a o other differ x.1 x.2 (subst (λ (y : Transaction). Conflicts (table_lock other) (held_by y)) (others o apart_of) z)
              ];
        }

    own : insert.Own_behind t f s work posted in_stage free replies_to mid true
    own =
        let old = f.own s.number in
        free_own t.world.tables attached t.history mid t.world.store m mail (t.orders s.number) (t.done s.number) (live_there t s.number) s.number
        (real s) (free_of m.point free) old replies_to (t.orders s.number) (t.done s.number) true refl
        refl
        tt
        (λ x e. absurd (let z : None ≡ Some x = e in cc))
        (λ b x in_it e. absurd (let z : None ≡ Some x = e in cc))
        (λ b in_it. subst (Alike (here b)) (sym there) (alike b in_it))
        (λ w written e is. absurd (let z : phases.Live true wrote ≡ phases.Live false written = e in cc))
        (λ b l in_it e is. absurd (let z : false ≡ true = ap is_of_commit e in cc))
        (ap request_in drawn.clear)
        (λ told other e g. inl (
        let o = insert.says t f s work posted in_stage free told e in
        let since : told.entries ≤ length t.history = old.since told e in
        ap (λ x. reply_to x told.status told.begun (deeds_since s.number told.entries mid)) o.body
        ∙ ap (λ (x : List Entry). statement_reply (own_class o.checked.body) (answer_in (deeds_since s.number told.entries x))) placed_is
        ∙ ap (statement_reply (own_class o.checked.body)) (ran_since s.number told.entries runs best (let z : told.entries ≤ length runs = omega (arith, since) in z))
        ∙ ap (λ (a : Answer). statement_reply (own_class o.checked.body) (Some a)) counted_as.1
        ∙ ap (λ (x : Class). Some (done_with (tag_of x counted_as.0))) (sym (class_written told.moment o.checked work o.written)) ∙ g))
        (under_way m.point (t.orders s.number) (insert.awake t f s work posted in_stage free) old.orders)
        (λ told e. tt)
        (λ told e. let most = old.since told e in let longer = drawn.longer in omega (arith, most, longer))
        (λ b told in_it e g. absurd (let z : false ≡ true = g in cc))
        (λ b told e entered in_it g. old.done_first b told e entered in_it (insert.stays t f s work posted in_stage free b))

    pub gives_facts : insert.Turned_to t f s work posted in_stage free replies_to mid
    gives_facts =
        insert.draws_facts t f s work posted in_stage free k lives.1 replies_to mid drawn
        (λ b in_it. let a = r.all b in_it in (a.0, a.1))
        (λ b in_it e. let z : Ahead [] ≡ Leaving = e in cc) refl
        (λ b other more in_it i. let z : None ≡ Some more = i.inserted in cc)
        (open_moves t m.session.gate inside.0 true inside.1 wrote inside.2 f.counts)
        sound
        (λ o. elim (same_or_other o s.number) [ inl e ↦ ap is_dead (ap new.transaction e ∙ there) | inr other ↦ ap is_dead (others o other) ∙ f.shared.undead o ])
        (λ a w is. elim (same_or_other a s.number) [
          | inl e ↦ (k, ap (single t).transaction e ∙ lives.1, sym (ap (λ (x : Live). x.stale) (its_own a w e is)))
          | inr other ↦ (w, sym (others a other) ∙ is, refl)
        ])
        locks
        (subst (insert.Own_behind t f s work posted in_stage free replies_to mid) (sym (ap is_live there)) own)
