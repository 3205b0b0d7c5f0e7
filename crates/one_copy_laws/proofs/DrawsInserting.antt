-- A serial insert has its lock, and then its run, at one place of the single run: what its death and its result leave there.
use Rattle.std.proofs.Common.{◌≡◌, ◌≢◌, ℕ, suc, ℤ, ◌-◌, ◌≤◌, Bool, true, false, ◌||◌, List, ◌∷◌, length, take, refl, sym, ap, ◌∙◌, subst, arith, inl, inr}
use Rattle.std.specs.Prelude.{◌==◌, ◌&&◌, Option, Some, None, if◌then◌else◌}
use Rattle.std.proofs.lemmas.Bool.Decides.{eqb_tells}
use Rattle.pool_base.specs.declared.code.Code.{Code}
use Rattle.schema.specs.declared.catalogue.TableDef.{TableDef}
use Rattle.catalogue.specs.declared.checked.Checked.{Checked}
use Rattle.catalogue.specs.declared.checked.ColumnDesc.{ColumnDesc}
use Rattle.catalogue.specs.declared.checked.CheckedBody.{CheckedBody}
use Rattle.catalogue.specs.declared.checked.CheckedBody.TheVariants as body
use Rattle.backend_trait.specs.declared.request.Request.{Request}
use Rattle.backend_trait.specs.declared.request.Request.TheVariants as requests
use Rattle.backend_trait.specs.declared.answer.Answer.{Answer}
use Rattle.backend_trait.specs.declared.answer.Answer.TheVariants as answers
use Rattle.backend_trait.specs.Keys.{Place}
use Rattle.backend_trait.specs.Rows.{Changes}
use Rattle.backend_trait.specs.Effect.{Conflicts, both_wants, these_places, table_in, Given, Fails, Gives, effect_of}
use Rattle.backend_trait.specs.Runnable.{IsRunnable, is_given}
use Rattle.backend_trait.specs.Store.{Live, Transaction, Absent, Alive, Pending, Store, WhereLive, IsLocked, MayRunIn, view_of, next_for, held_by, table_lock, given_to, where_live, settled, acted, answered, refused, is_refusal, drawn_by, request_in as waiting_in}
use Rattle.backend_trait.specs.Acts.{IsFree, IsFresh, IsOf, IsCrossed, MayRefuse, MayGive, MayRun, MayAnswer, WhereSome, given_of}
use Rattle.backend_trait.specs.Acting.{drawn_waiting}
use Rattle.session_machine.specs.declared.work.Class.TheVariants as classes
use Rattle.session_machine.specs.declared.work.Work.{Work}
use Rattle.session_machine.specs.declared.machine.Stage.TheVariants.{Inserting}
use Rattle.one_copy_model.specs.declared.deed.Deed.{Deed}
use Rattle.one_copy_model.specs.declared.deed.Deed.TheVariants.{Asks, Gets, Falls}
use Rattle.one_copy_model.specs.declared.deed.Entry.{Entry}
use Rattle.one_copy_model.specs.Marks.{is_crossed, with_mark, marked}
use Rattle.one_copy_model.specs.SingleRun.{after_answer, after_death, done_by, store_after, deeds_of, deeds_since, of_session, IsRun, MayDo}
use Rattle.one_copy_model.specs.Places.{asks_of, decided_by}
use Rattle.one_copy_model.specs.Deaths.{death_of, recorded}
use Rattle.one_copy_model.specs.Orders.{IsClassed}
use Rattle.one_copy_model.specs.Standing.{leaving_of, asks_commit}
use Rattle.one_copy_model.specs.Invariant.{AtDeath, AtDeathIf, MayRefuseTo, MayCode, request_in, drawn_where, numbers_behind}
use Rattle.one_copy_model.proofs.Places.{with_at-same, with_at-other}
use Rattle.one_copy_model.proofs.Passing.{WaitsOn}
use Rattle.one_copy_model.proofs.Tables.{tables_there, tables_same}
use Rattle.one_copy_model.proofs.Deeds.{entry, deed_passes, gets_is}
use Rattle.one_copy_model.proofs.Endings.{asked, asked_passes, its, waits}
use Rattle.one_copy_laws.proofs.DrawsStatements.{serial_table, serial_lock, asks_lock}
use Rattle.one_copy_laws.proofs.DrawsDrawing.{Draws, passes_draws, draws_trans}
use Rattle.one_copy_laws.proofs.DrawsSharing.{drawn_off}

unequal : (a b : ℕ) → a ≢ b → (a == b) ≡ false
unequal a b other = elim (eqb_tells a b) [ inl p ↦ absurd (other p.1) | inr p ↦ p.0 ]

itself : (n : ℕ) → (n == n) ≡ true
itself n = elim (eqb_tells n n) [ inl p ↦ p.0 | inr p ↦ absurd (p.1 refl) ]

or_left : (a b : Bool) → a ≡ true → (a || b) ≡ true
or_left true b e = e
or_left false b e = absurd (cc)

marked_waits : (st : Store) (o : ℕ) (p : Option Pending) → WaitsOn p (with_mark st o p)
marked_waits st o None = refl
marked_waits st o (Some p) = (record { request = p.request; crossed = p.crossed || is_crossed st o p.request }, refl, refl, or_left p.crossed (is_crossed st o p.request))

-- a deed of another session that draws numbers of a table
module _ (tables : List TableDef) (table s o : ℕ) (other : o ≢ s) (deed : Deed) (es : List Entry) where
  not_same : (s == o) ≡ false
  not_same = unequal s o (λ e. other (sym e))

  deeds_draw : (n : ℕ) → n ≤ length es → deeds_since o n (entry s deed ∷ es) ≡ deeds_since o n es
  deeds_draw n most =
      let more : suc (length es) - n ≡ suc (length es - n) = omega (arith, most) in
      ap (λ k. deeds_of o (take k (entry s deed ∷ es))) more ∙ ap (λ b. of_session b deed (deeds_of o (take (length es - n) es))) not_same

  pub deed_draws : (x : Store) → done_by (store_after tables es) s deed ≡ marked x
      → x.rows ≡ (store_after tables es).rows → ((k : ℕ) → k ≢ table → x.next k ≡ (store_after tables es).next k)
      → x.transaction o ≡ (store_after tables es).transaction o → x.pending o ≡ (store_after tables es).pending o
      → Draws tables table o es (entry s deed ∷ es)
  deed_draws x is rows next transaction pending = record {
    rows = ap (λ (y : Store). y.rows) is ∙ rows;
    next = λ k off. ap (λ (y : Store). y.next k) is ∙ next k off;
    transaction = ap (λ (y : Store). y.transaction o) is ∙ transaction;
    waits = subst (λ (y : Option Pending). WaitsOn ((store_after tables es).pending o) y) (sym (ap (λ (y : Store). y.pending o) is)) (subst (λ (y : Option Pending). WaitsOn y (with_mark x o (x.pending o))) pending (marked_waits x o (x.pending o)));
    leaving = ap (λ b. if b && asks_commit deed then (store_after tables es).transaction o else leaving_of tables o es) not_same;
    longer = (let z : length es ≤ suc (length es) = omega arith in z);
    deeds = deeds_draw;
    deaths = λ code since d. subst (λ b. AtDeathIf tables b o code since (entry s deed) es (AtDeath tables o code since es)) (sym not_same) d;
  }

pub record Drawn (tables : List TableDef) (s table : ℕ) (work : Work) (old new : List Entry) : Type 0 where
  pub draws : (o : ℕ) → o ≢ s → Draws tables table o old new
  pub rows : (store_after tables new).rows ≡ (store_after tables old).rows
  pub next : (store_after tables new).next table ≡ numbers_behind (store_after tables old) s work table
  pub clear : (store_after tables new).pending s ≡ None
  pub run : IsRun tables new
  pub longer : length old ≤ length new

-- a transaction behind its table's lock
abbrev pub locked_by : ℕ → Live → Live
locked_by table k = record k { held = both_wants (table_lock table) k.held }

waiting : (x : Option Pending) (request : Request) → request_in x ≡ Some request → (p : Pending) × (x ≡ Some p) × (p.request ≡ request)
waiting None request e = absurd (let z : None ≡ Some request = e in cc)
waiting (Some p) request e = (p, refl, (let one : p.request ≡ request = cc in one))

may_locked : (st : Store) (s : ℕ) (p : Pending) (table : ℕ) → p.request ≡ requests.Lock table → WhereLive (st.transaction s) (λ t. IsFree st s (table_lock table)) → MayAnswer st s p answers.Locked
may_locked st s p table asks free = by p.request p.crossed asks
  where
    by : (r : Request) (crossed : Bool) → r ≡ requests.Lock table → MayAnswer st s (record { request = r; crossed = crossed }) answers.Locked
    by r crossed e = subst (λ (x : Request). MayAnswer st s (record { request = x; crossed = crossed }) answers.Locked) (sym e) free

-- a refusal that no crossing told
refused_locked : (crossed : Type 0) (table : ℕ) (t : Live) (of : Option ℕ) (code : Code) (given : Given) → MayRefuse ⊥ t of code given → MayRefuse crossed (locked_by table t) of code given
refused_locked crossed table t of code (Fails bytes) h = h
refused_locked crossed table t of code (Gives result changes places) (inl h) = inl h
refused_locked crossed table t of code (Gives result changes places) (inr (inl h)) = absurd h.1
refused_locked crossed table t of code (Gives result changes places) (inr (inr h)) = inr (inr h)

-- a result of the form of a run
given_may : (st : Store) (s : ℕ) (crossed : Type 0) (checked : Checked) (b : CheckedBody) (columns : List ColumnDesc) (answer : Answer) → is_given b columns answer ≡ true → is_refusal answer ≡ false
    → WhereLive (st.transaction s) (λ t. MayGive st s t answer (given_of st checked t)) → MayRun st s crossed checked answer
given_may st s crossed checked b columns (answers.Rows rows) form plain may = may
given_may st s crossed checked b columns (answers.Count n) form plain may = may
given_may st s crossed checked b columns (answers.Refused code) form plain may = absurd (let z : true ≡ false = plain in cc)
given_may st s crossed checked (body.Read read) columns answers.Began form plain may = absurd (let z : false ≡ true = form in cc)
given_may st s crossed checked (body.Insert insert) columns answers.Began form plain may = absurd (let z : false ≡ true = form in cc)
given_may st s crossed checked (body.Change change) columns answers.Began form plain may = absurd (let z : false ≡ true = form in cc)
given_may st s crossed checked (body.Remove remove) columns answers.Began form plain may = absurd (let z : false ≡ true = form in cc)
given_may st s crossed checked (body.Read read) columns answers.Locked form plain may = absurd (let z : false ≡ true = form in cc)
given_may st s crossed checked (body.Insert insert) columns answers.Locked form plain may = absurd (let z : false ≡ true = form in cc)
given_may st s crossed checked (body.Change change) columns answers.Locked form plain may = absurd (let z : false ≡ true = form in cc)
given_may st s crossed checked (body.Remove remove) columns answers.Locked form plain may = absurd (let z : false ≡ true = form in cc)
given_may st s crossed checked (body.Read read) columns answers.Done form plain may = absurd (let z : false ≡ true = form in cc)
given_may st s crossed checked (body.Insert insert) columns answers.Done form plain may = absurd (let z : false ≡ true = form in cc)
given_may st s crossed checked (body.Change change) columns answers.Done form plain may = absurd (let z : false ≡ true = form in cc)
given_may st s crossed checked (body.Remove remove) columns answers.Done form plain may = absurd (let z : false ≡ true = form in cc)
given_may st s crossed checked (body.Read read) columns (answers.Serial n) form plain may = absurd (let z : false ≡ true = form in cc)
given_may st s crossed checked (body.Insert insert) columns (answers.Serial n) form plain may = absurd (let z : false ≡ true = form in cc)
given_may st s crossed checked (body.Change change) columns (answers.Serial n) form plain may = absurd (let z : false ≡ true = form in cc)
given_may st s crossed checked (body.Remove remove) columns (answers.Serial n) form plain may = absurd (let z : false ≡ true = form in cc)

module _ (tables : List TableDef) (s table : ℕ) (h : List Entry) (work : Work) (k : Live)
    (classed : IsClassed tables work) (at : work.class ≡ classes.SerialInsert table)
    (is : (store_after tables h).transaction s ≡ Alive k)
    (asks : request_in ((store_after tables h).pending s) ≡ Some (asks_of work))
    (free : (o : ℕ) → s ≢ o → ¬ (Conflicts (table_lock table) (held_by ((store_after tables h).transaction o))))
    (run : IsRun tables h) where
  abbrev st : Store
  st = store_after tables h

  abbrev checked : Checked
  checked = work.statement

  own : Some table ≡ table_in checked
  own = serial_table tables work table classed at

  -- its lock
  asked_lock : (p : Pending) × (st.pending s ≡ Some p) × (p.request ≡ requests.Lock table)
  asked_lock = waiting (st.pending s) (requests.Lock table) (asks ∙ ap Some (asks_lock work table at))

  abbrev locked_store : Store
  locked_store = settled st s (Alive (locked_by table k))

  abbrev locked : List Entry
  locked = entry s (Gets answers.Locked) ∷ h

  locks : after_answer st s answers.Locked ≡ locked_store
  locks =
      let p = asked_lock in
      gets_is st s answers.Locked p.0 p.1 ∙ ap (λ (r : Request). acted st s r answers.Locked) p.2
      ∙ ap (λ (x : Transaction). settled st s (where_live (locked_by table) x)) is

  may_lock : MayDo st s (Gets answers.Locked)
  may_lock =
      let p = asked_lock in
      subst (λ (x : Option Pending). WhereSome x (λ q. MayAnswer st s q answers.Locked)) (sym p.1)
      (may_locked st s p.0 table p.2
      (subst (λ (x : Transaction). WhereLive x (λ t. IsFree st s (table_lock table))) (sym is) (λ o other c. free o (λ e. other (sym e)) c)))

  locked_draws : (o : ℕ) → o ≢ s → Draws tables table o h locked
  locked_draws o other =
      passes_draws tables table o h locked
      (deed_passes tables s o other (Gets answers.Locked) h locked_store (ap marked locks) refl refl
      (with_at-other st.transaction s (Alive (locked_by table k)) o other) (with_at-other st.pending s None o other))

  locked_clear : (store_after tables locked).pending s ≡ None
  locked_clear = ap (λ (y : Store). with_mark y s (y.pending s)) locks ∙ ap (with_mark locked_store s) (with_at-same st.pending s None)

  locked_live : (store_after tables locked).transaction s ≡ Alive (locked_by table k)
  locked_live = ap (λ (y : Store). y.transaction s) locks ∙ with_at-same st.transaction s (Alive (locked_by table k))

  -- its run is asked for
  abbrev pub insert_runs : List Entry
  insert_runs = asked tables s locked (requests.Run checked)

  abbrev r : Store
  r = store_after tables insert_runs

  may_ask : MayDo (store_after tables locked) s (Asks (requests.Run checked))
  may_ask = (
    subst (λ (x : Transaction). WhereLive x (MayRunIn (store_after tables locked) checked)) (sym locked_live) (
      subst (λ (ts : List TableDef). IsRunnable ts checked) (sym (tables_there tables locked)) classed.runnable,
      subst (IsLocked (locked_by table k).held) (sym (serial_lock tables work table classed at)) (or_left (table == table) (k.held.tables table) (itself table)),
    ),
    locked_clear,
  )

  runs_draw : (o : ℕ) → o ≢ s → Draws tables table o h insert_runs
  runs_draw o other =
      draws_trans tables table o h locked insert_runs (locked_draws o other)
      (passes_draws tables table o locked insert_runs (asked_passes tables s locked (requests.Run checked) o other))

  pub runs_wait : r.pending s ≡ Some (its tables s locked (requests.Run checked))
  runs_wait = waits tables s locked (requests.Run checked)

  pub runs_live : r.transaction s ≡ Alive (locked_by table k)
  runs_live = locked_live

  runs_next : r.next ≡ st.next
  runs_next = ap (λ (y : Store). y.next) locks

  pub runs_given : (t : Live) → given_of st checked t ≡ given_of r checked (locked_by table t)
  runs_given t =
      ap (λ (f : ℕ → Option ℤ). (effect_of st.tables checked (view_of t) (next_for f (table_in checked))).given) (sym runs_next)
      ∙ ap (λ (ts : List TableDef). (effect_of ts checked (view_of t) (next_for r.next (table_in checked))).given) (tables_same tables h insert_runs)

  -- what it draws
  runs_off : (other : ℕ) → other ≢ table → drawn_by r.tables checked r.next other ≡ r.next other
  runs_off other off = drawn_off r.tables checked r.next table other own off

  drawn_then : drawn_by r.tables checked r.next table ≡ numbers_behind st s work table
  drawn_then =
      ap (λ (ts : List TableDef). drawn_by ts checked r.next table) (tables_same tables insert_runs h)
      ∙ ap (λ (f : ℕ → Option ℤ). drawn_by st.tables checked f table) runs_next
      ∙ ap (λ (x : Transaction). drawn_where st.tables st.next work x table) (sym is)

  -- its death
  module _ (code : Code) where
    abbrev died : List Entry
    died = entry s (Falls (Some code)) ∷ insert_runs

    abbrev dead_store : Store
    dead_store = record (settled r s Absent) { next = drawn_by r.tables checked r.next }

    falls : after_death r s ≡ dead_store
    falls = ap (λ (x : Option Pending). record (settled r s Absent) { next = drawn_waiting r.tables r.next (waiting_in x) }) runs_wait

    pub insert_code : MayRefuseTo st s ⊥ (requests.Run checked) code → MayCode tables insert_runs s code
    insert_code may = (
      its tables s locked (requests.Run checked),
      runs_wait,
      subst (λ (x : Transaction). WhereLive x (λ t. MayRefuse ((its tables s locked (requests.Run checked)).crossed ≡ true) t (table_in checked) code (given_of r checked t))) (sym runs_live)
          (subst (MayRefuse ((its tables s locked (requests.Run checked)).crossed ≡ true) (locked_by table k) (table_in checked) code) (runs_given k)
          (refused_locked ((its tables s locked (requests.Run checked)).crossed ≡ true) table k (table_in checked) code (given_of st checked k)
          (subst (λ (x : Transaction). WhereLive x (λ t. MayRefuse ⊥ t (table_in checked) code (given_of st checked t))) is may))),
    )

    may_fall : MayRefuseTo st s ⊥ (requests.Run checked) code → MayDo r s (Falls (Some code))
    may_fall may =
        subst (λ (x : Option Pending). WhereSome x (λ p. MayAnswer r s p (answers.Refused code))) (sym runs_wait)
        (subst (λ (x : Transaction). WhereLive x (λ t. MayRefuse (IsCrossed r s (its tables s locked (requests.Run checked))) t (table_in checked) code (given_of r checked t))) (sym runs_live)
        (subst (MayRefuse (IsCrossed r s (its tables s locked (requests.Run checked))) (locked_by table k) (table_in checked) code) (runs_given k)
        (refused_locked (IsCrossed r s (its tables s locked (requests.Run checked))) table k (table_in checked) code (given_of st checked k)
        (subst (λ (x : Transaction). WhereLive x (λ t. MayRefuse ⊥ t (table_in checked) code (given_of st checked t))) is may))))

    pub insert_ended : (store_after tables (recorded s (death_of work (Some code)) h)).transaction s ≡ Absent
    insert_ended = ap (λ (y : Store). y.transaction s) falls ∙ with_at-same r.transaction s Absent

    pub insert_falls : MayRefuseTo st s ⊥ (requests.Run checked) code → Drawn tables s table work h (recorded s (death_of work (Some code)) h)
    insert_falls may = record {
      draws = λ o other. draws_trans tables table o h insert_runs died (runs_draw o other)
          (deed_draws tables table s o other (Falls (Some code)) insert_runs dead_store (ap marked falls) refl runs_off
          (with_at-other r.transaction s Absent o other) (with_at-other r.pending s None o other));
      rows = ap (λ (y : Store). y.rows) falls ∙ ap (λ (y : Store). y.rows) locks;
      next = ap (λ (y : Store). y.next table) falls ∙ drawn_then;
      clear = ap (λ (y : Store). with_mark y s (y.pending s)) falls ∙ ap (with_mark dead_store s) (with_at-same r.pending s None);
      run = (may_fall may, (may_ask, (may_lock, run)));
      longer = (let z : length h ≤ length died = omega arith in z);
    }

  -- its result
  module _ (answer : Answer) (changes : Changes) (places : List Place) (posted : Bool) (form : IsOf (requests.Run checked) answer) (plain : is_refusal answer ≡ false)
      (gives : given_of st checked k ≡ Gives answer changes places) where
    abbrev ran : List Entry
    ran = entry s (Gets answer) ∷ insert_runs

    abbrev given : Live
    given = given_to (Gives answer changes places) (locked_by table k)

    abbrev ran_store : Store
    ran_store = record (settled r s (Alive given)) { next = drawn_by r.tables checked r.next }

    results : after_answer r s answer ≡ ran_store
    results =
        gets_is r s answer (its tables s locked (requests.Run checked)) runs_wait
        ∙ ap (λ (v : Bool). if v then refused r s (requests.Run checked) else answered r s (requests.Run checked)) plain
        ∙ ap (λ (x : Transaction). record (settled r s (where_live (λ t. given_to (given_of r checked t) t) x)) { next = drawn_by r.tables checked r.next }) runs_live
        ∙ ap (λ (g : Given). record (settled r s (Alive (given_to g (locked_by table k)))) { next = drawn_by r.tables checked r.next }) (sym (runs_given k) ∙ gives)

    decided : (a : Answer) → is_refusal a ≡ false → recorded s (decided_by (Inserting work posted) a) h ≡ entry s (Gets a) ∷ insert_runs
    decided answers.Began e = refl
    decided (answers.Rows rows) e = refl
    decided (answers.Count n) e = refl
    decided answers.Locked e = refl
    decided answers.Done e = refl
    decided (answers.Serial n) e = refl
    decided (answers.Refused code) e = absurd (let z : true ≡ false = e in cc)

    pub insert_placed : recorded s (decided_by (Inserting work posted) answer) h ≡ ran
    insert_placed = decided answer plain

    may_give : IsFresh (these_places places) k → ((o : ℕ) → o ≢ s → ¬ (Conflicts (these_places places) (held_by (st.transaction o)))) → MayDo r s (Gets answer)
    may_give fresh wants =
        subst (λ (x : Option Pending). WhereSome x (λ p. MayAnswer r s p answer)) (sym runs_wait)
        (given_may r s (IsCrossed r s (its tables s locked (requests.Run checked))) checked checked.body checked.columns answer form plain
        (subst (λ (x : Transaction). WhereLive x (λ t. MayGive r s t answer (given_of r checked t))) (sym runs_live)
        (subst (MayGive r s (locked_by table k) answer) (sym gives ∙ runs_given k)
        (refl, fresh, λ o other c. wants o other (subst (λ (x : Transaction). Conflicts (these_places places) (held_by x)) (runs_draw o other).transaction c)))))

    ran_drawn : MayDo r s (Gets answer) → Drawn tables s table work h ran
    ran_drawn may = record {
      draws = λ o other. draws_trans tables table o h insert_runs ran (runs_draw o other)
          (deed_draws tables table s o other (Gets answer) insert_runs ran_store (ap marked results) refl runs_off
          (with_at-other r.transaction s (Alive given) o other) (with_at-other r.pending s None o other));
      rows = ap (λ (y : Store). y.rows) results ∙ ap (λ (y : Store). y.rows) locks;
      next = ap (λ (y : Store). y.next table) results ∙ drawn_then;
      clear = ap (λ (y : Store). with_mark y s (y.pending s)) results ∙ ap (with_mark ran_store s) (with_at-same r.pending s None);
      run = (may, (may_ask, (may_lock, run)));
      longer = (let z : length h ≤ length ran = omega arith in z);
    }

    pub insert_gives : IsFresh (these_places places) k → ((o : ℕ) → o ≢ s → ¬ (Conflicts (these_places places) (held_by (st.transaction o))))
        → Drawn tables s table work h (recorded s (decided_by (Inserting work posted) answer) h)
    insert_gives fresh wants = subst (Drawn tables s table work h) (sym insert_placed) (ran_drawn (may_give fresh wants))

    pub insert_lives : (store_after tables (recorded s (decided_by (Inserting work posted) answer) h)).transaction s ≡ Alive given
    insert_lives =
        ap (λ (hs : List Entry). (store_after tables hs).transaction s) insert_placed
        ∙ ap (λ (y : Store). y.transaction s) results ∙ with_at-same r.transaction s (Alive given)
