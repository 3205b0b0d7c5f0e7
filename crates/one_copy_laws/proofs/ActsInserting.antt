-- A serial insert gives its result.
use Rattle.std.proofs.Common.{◌≡◌, ◌≢◌, ℕ, ℤ, true, false, List, [], ◌∷◌, refl, sym, ap, ◌∙◌, subst, inl, inr}
use Rattle.std.specs.Prelude.{if◌then◌else◌, Option, Some, None}
use Rattle.pool_base.specs.declared.session_id.SessionId.{SessionId}
use Rattle.pool_base.specs.declared.backend_id.BackendId.{BackendId}
use Rattle.schema.specs.declared.catalogue.TableDef.{TableDef}
use Rattle.schema.specs.Allowed.{AreAllowed}
use Rattle.catalogue.specs.declared.checked.Checked.{Checked}
use Rattle.backend_trait.specs.declared.answer.Answer.{Answer}
use Rattle.backend_trait.specs.declared.request.Request.TheVariants as requests
use Rattle.backend_trait.specs.Effect.{table_in, draws_of}
use Rattle.backend_trait.specs.Store.{Live, Transaction, Absent, Alive, Dead, Pending, Store, numbered, with_draws, next_for, given_to, drawn_by, where_live, is_refusal}
use Rattle.backend_trait.specs.Acts.{given_of}
use Rattle.session_machine.specs.declared.work.Class.TheVariants as classes
use Rattle.session_machine.specs.declared.machine.Stage.{Stage}
use Rattle.session_machine.specs.declared.machine.Stage.TheVariants.{Opening, Reading, Running, Locking, Inserting, Committing, Closing, RollingBack}
use Rattle.session_machine.specs.declared.machine.Point.TheVariants.{Waiting}
use Rattle.session_machine.specs.declared.work.Work.{Work}
use Rattle.one_copy_model.specs.declared.event.Event.TheVariants.{Act}
use Rattle.one_copy_model.specs.Places.{asks_as, asks_of}
use Rattle.one_copy_model.specs.Deaths.{is_live, stage_at}
use Rattle.one_copy_model.specs.Tracking.{Tracked, single, tracked_after}
use Rattle.one_copy_model.specs.Orders.{IsClassedIn}
use Rattle.one_copy_model.specs.Standing.{Fallen, Ahead, Alike, Stands, ahead_by, leaving_of}
use Rattle.one_copy_model.specs.Invariant.{Invariant, IsHere, inserted_in, inserting_in, drawn_where, numbers_behind}
use Rattle.one_copy_model.specs.Own.{told_by}
use Rattle.one_copy_model.specs.Facts.{Inserted}
use Rattle.one_copy_model.proofs.Made.{ahead_made, made_by}
use Rattle.one_copy_model.proofs.Places.{same_or_other, with_at-same, with_at-other}
use Rattle.one_copy_model.proofs.Tables.{tables_there}
use Rattle.one_copy_model.proofs.Turning.{facts_of}
use Rattle.one_copy_laws.proofs.ChainsChaining.{class_in as class_of}
use Rattle.one_copy_laws.proofs.MarksWanting.{serial_table}
use Rattle.one_copy_laws.specs.Acted.{InsertedBehind}
use Rattle.one_copy_laws.proofs.ActsActing.{stands_was, inserted_forth, inserted_back, inserted_mine, uninserted}
use Rattle.one_copy_laws.proofs.ActsLocking.{locked_by}
use Rattle.one_copy_laws.proofs.ActsEffects.{given_numbered}
use Rattle.one_copy_laws.proofs.ActsRunning.{given_more, Results, alike_given, result_there, form_run, result_holds}

-- what is drawn is drawn of the statement's table
pub drawn_at : (tables : List TableDef) (checked : Checked) (next : ℕ → Option ℤ) (table : ℕ) → Some table ≡ table_in checked
    → drawn_by tables checked next table ≡ numbered (draws_of tables checked (next table)) (next table)
drawn_at tables checked next table e =
    ap (λ o. with_draws next o (draws_of tables checked (next_for next o)) table) (sym e) ∙ with_at-same next table (numbered (draws_of tables checked (next table)) (next table))

pub drawn_off : (tables : List TableDef) (checked : Checked) (next : ℕ → Option ℤ) (table other : ℕ) → Some table ≡ table_in checked → other ≢ table
    → drawn_by tables checked next other ≡ next other
drawn_off tables checked next table other e off =
    ap (λ o. with_draws next o (draws_of tables checked (next_for next o)) other) (sym e) ∙ with_at-other next table (numbered (draws_of tables checked (next table)) (next table)) other off

-- one table of a class
pub one_table : (work : Work) (table other : ℕ) → work.class ≡ classes.SerialInsert table → work.class ≡ classes.SerialInsert other → other ≡ table
one_table work table other c d = let z : classes.SerialInsert other ≡ classes.SerialInsert table = sym d ∙ c in let same_table : other ≡ table = cc in same_table

-- behind its lock the transaction here is alike the one there
behind_lock : (table : ℕ) (u : Live) (z : Transaction) → Alike (Alive u) (where_live (locked_by table) z) → (k : Live) × (z ≡ Alive k) × Alike (Alive u) (Alive (locked_by table k))
behind_lock table u (Alive k) a = (k, refl, a)
behind_lock table u Absent a = absurd a
behind_lock table u Dead a = absurd a

-- who has inserted has its insert under way
inserts_of : (found : Option Stage) (told : Option Answer) (work : Work) → inserted_in found told ≡ Some work → inserting_in found ≡ Some work
inserts_of (Some (Inserting work true)) (Some answer) other e = e
inserts_of (Some (Inserting work true)) None other e = absurd (let z : None ≡ Some other = e in cc)
inserts_of (Some (Inserting work false)) told other e = absurd (let z : None ≡ Some other = e in cc)
inserts_of (Some (Opening work)) told other e = absurd (let z : None ≡ Some other = e in cc)
inserts_of (Some (Reading work ticket)) told other e = absurd (let z : None ≡ Some other = e in cc)
inserts_of (Some (Running work)) told other e = absurd (let z : None ≡ Some other = e in cc)
inserts_of (Some (Locking work table)) told other e = absurd (let z : None ≡ Some other = e in cc)
inserts_of (Some Committing) told other e = absurd (let z : None ≡ Some other = e in cc)
inserts_of (Some Closing) told other e = absurd (let z : None ≡ Some other = e in cc)
inserts_of (Some (RollingBack ending)) told other e = absurd (let z : None ≡ Some other = e in cc)
inserts_of None told other e = absurd (let z : None ≡ Some other = e in cc)

-- the numbers of a serial insert that is answered
module _ (t : Tracked) (h : Invariant t) (s : SessionId) (b : BackendId) (p : Pending) (waits : (t.world.store b.number).pending s.number ≡ Some p)
    (work : Work) (at : BackendId) (waiting : (t.world.machine s.number).point ≡ Waiting (Inserting work true) at) (number : at.number ≡ b.number) (answer : Answer)
    (table : ℕ) (class : work.class ≡ classes.SerialInsert table) (own : Some table ≡ table_in work.statement)
    (lives : IsHere t.world b.number → (k : Live) × ((single t).transaction s.number ≡ Alive k)) where
  abbrev stage : Stage
  stage = Inserting work true

  abbrev st : Store
  st = t.world.store b.number

  abbrev next : ℕ → Option ℤ
  next = drawn_by st.tables work.statement st.next

  -- nobody else who is live there has an insert of that table under way
  none_other : IsHere t.world b.number → (o : ℕ) (other : Work) → o ≢ s.number → Inserted t.world.tables t.history (t.world.machine o) (t.world.mail o) o b.number table other → ⊥
  none_other in_it o other apart i =
      apart (h.locks.alone o s.number table i.live (ap is_live (lives in_it).1)
      (record {
        work = other;
        inserting = inserts_of (stage_at (t.world.machine o).point) (told_by (t.world.machine o) (t.world.mail o) b.number) other i.inserted;
        at = i.at;
      })
      (record { work = work; inserting = ap (λ pt. inserting_in (stage_at pt)) waiting; at = class }))

  pub same_next : IsHere t.world b.number → st.next table ≡ (single t).next table
  same_next in_it = (facts_of t h).shared.numbers b.number table in_it (λ o other i. elim (same_or_other o s.number) [
    | inl is ↦ uninserted t h s b p waits stage at waiting number answer table other (subst (λ j. Inserted t.world.tables t.history (t.world.machine j) (t.world.mail j) j b.number table other) is i)
    | inr apart ↦ none_other in_it o other apart i
  ])

  pub insert_numbers : IsHere t.world b.number → (other : ℕ) → ((o : ℕ) (more : Work) → ¬ (InsertedBehind t s.number b.number answer o other more)) → next other ≡ (single t).next other
  insert_numbers in_it other none = elim (same_or_other other table) [
    | inl is ↦ absurd (none s.number work (inserted_mine t h s b p waits stage at waiting number answer other work (ap is_live (lives in_it).1) refl (class ∙ ap classes.SerialInsert (sym is))))
    | inr off ↦ drawn_off st.tables work.statement st.next table other own off
        ∙ (facts_of t h).shared.numbers b.number other in_it (λ o more i. none o more (inserted_forth t h s b p waits stage at waiting number answer o other more i))
  ]

  same_tables : st.tables ≡ (single t).tables
  same_tables = h.tables b.number ∙ sym (tables_there t.world.tables t.history)

  pub insert_ahead : IsHere t.world b.number → (o other : ℕ) (more : Work)
      → InsertedBehind t s.number b.number answer o other more → next other ≡ numbers_behind (single t) o more other
  insert_ahead in_it o other more i = elim (inserted_back t h s b p waits stage at waiting number answer o other more i) [
    | inl mine ↦ by_mine mine.0 (let z : Some work ≡ Some more = mine.1 in let same_work : work ≡ more = cc in same_work)
    | inr theirs ↦ elim (same_or_other other table) [
      | inl is ↦ absurd (none_other in_it o more theirs.0 (subst (λ j. Inserted t.world.tables t.history (t.world.machine o) (t.world.mail o) o b.number j more) is theirs.1))
      | inr off ↦ drawn_off st.tables work.statement st.next table other own off ∙ (facts_of t h).shared.numbers_ahead o b.number other more in_it theirs.1
    ]
  ]
    where
      drawn_there : Work → Transaction → ℕ → Option ℤ
      drawn_there m z j = drawn_where (single t).tables (single t).next m z j

      by_mine : o ≡ s.number → work ≡ more → next other ≡ numbers_behind (single t) o more other
      by_mine is same_work =
          let at_table : other ≡ table = one_table work table other class (ap (λ (z : Work). z.class) same_work ∙ i.at) in
          let k = lives in_it in
          let n : Option ℤ = (single t).next table in
          ap next at_table
          ∙ drawn_at st.tables work.statement st.next table own
          ∙ ap (λ m. numbered (draws_of st.tables work.statement m) m) (same_next in_it)
          ∙ ap (λ (ts : List TableDef). numbered (draws_of ts work.statement n) n) same_tables
          ∙ sym (drawn_at (single t).tables work.statement (single t).next table own)
          ∙ ap (λ z. drawn_there work z table) (sym k.1)
          ∙ ap (λ j. drawn_there work ((single t).transaction s.number) j) (sym at_table)
          ∙ ap (λ j. drawn_there work ((single t).transaction j) other) (sym is)
          ∙ ap (λ m. drawn_there m ((single t).transaction o) other) same_work

-- a serial insert's run
module _ (t : Tracked) (h : Invariant t) (s : SessionId) (b : BackendId) (p : Pending) (waits : (t.world.store b.number).pending s.number ≡ Some p)
    (at : BackendId) (number : at.number ≡ b.number) (answer : Answer) (work : Work) (waiting : (t.world.machine s.number).point ≡ Waiting (Inserting work true) at)
    (is : p.request ≡ requests.Run work.statement) (u : Live) (live : (t.world.store b.number).transaction s.number ≡ Alive u) where
  abbrev inserts : Stage
  inserts = Inserting work true

  abbrev here : Store
  here = t.world.store b.number

  pub insert_class : IsClassedIn t.world.tables inserts
  insert_class = class_of t.world.tables (t.world.machine s.number).point inserts (ap stage_at waiting) (h.classed s.number)

  abbrev of_table : ℕ
  of_table = insert_class.1.0

  pub insert_own : Some of_table ≡ table_in work.statement
  insert_own = serial_table t.world.tables work of_table insert_class.0 insert_class.1.1

  -- there it has no lock yet
  pub insert_there : IsHere t.world b.number → (k : Live) × ((single t).transaction s.number ≡ Alive k) × Alike (Alive u) (Alive (locked_by of_table k))
  insert_there in_it =
      behind_lock of_table u ((single t).transaction s.number)
      (subst (Alike (Alive u)) (ahead_made (single t) s.number (asks_of work ∷ []) ((single t).transaction s.number)
      ∙ ap (λ r. made_by (single t).tables (single t).rows (single t).next r ((single t).transaction s.number)) (ap (asks_as work.statement) insert_class.1.1))
      (subst (λ z. Alike z (ahead_by (single t) s.number (asks_of work ∷ []) ((single t).transaction s.number))) live (stands_was t h s b p waits inserts at waiting number answer in_it)))

  pub insert_lives : IsHere t.world b.number → (k : Live) × ((single t).transaction s.number ≡ Alive k)
  insert_lives in_it = let k = insert_there in_it in (k.0, k.1)

  pub insert_given : (in_it : IsHere t.world b.number) → given_of here work.statement u ≡ given_of (single t) work.statement (insert_there in_it).0
  insert_given in_it =
      let k = insert_there in_it in
      given_numbered here (single t) work.statement u k.0 (h.tables b.number ∙ sym (tables_there t.world.tables t.history))
      (ap (next_for here.next) (sym insert_own) ∙ same_next t h s b p waits work at waiting number answer of_table insert_class.1.1 insert_own insert_lives in_it ∙ ap (next_for (single t).next) insert_own)
      k.2.0 k.2.1

  pub insert_result : is_refusal answer ≡ false → AreAllowed t.world.tables → Results here s.number work.statement answer u → Invariant (tracked_after t (Act s b answer))
  insert_result plain allowed r =
      let form = form_run t h s b p waits inserts at waiting number work.statement is refl answer plain allowed insert_class.0.runnable u live r refl in
      result_holds t h s b p waits inserts at waiting number work.statement is refl answer plain allowed insert_class.0.runnable u live r refl form refl
      (λ in_it. let k = insert_there in_it in
      record { form = form; posted = refl; result = λ e. result_there (single t) s.number work.statement answer k.0 r.changes r.places k.1 (sym (insert_given in_it) ∙ r.gives) })
      (λ in_it. subst (λ z. Stands (single t) s.number (leaving_of t.world.tables s.number t.history) z (Alive (given_more r.changes r.places u)) ((single t).transaction s.number))
      (sym (ap (λ v. if v then Fallen else Ahead (requests.Run work.statement ∷ asks_of work ∷ [])) plain))
      (ahead_there in_it))
      (insert_numbers t h s b p waits work at waiting number answer of_table insert_class.1.1 insert_own insert_lives)
      (insert_ahead t h s b p waits work at waiting number answer of_table insert_class.1.1 insert_own insert_lives)
    where
      ahead_there : IsHere t.world b.number → Alike (Alive (given_more r.changes r.places u)) (ahead_by (single t) s.number (requests.Run work.statement ∷ asks_of work ∷ []) ((single t).transaction s.number))
      ahead_there in_it =
          let k = insert_there in_it in
          subst (Alike (Alive (given_more r.changes r.places u)))
          (sym (ahead_made (single t) s.number (requests.Run work.statement ∷ asks_of work ∷ []) ((single t).transaction s.number)
          ∙ ap (λ q. made_by (single t).tables (single t).rows (single t).next (requests.Run work.statement) (made_by (single t).tables (single t).rows (single t).next q ((single t).transaction s.number))) (ap (asks_as work.statement) insert_class.1.1)
          ∙ ap (λ z. made_by (single t).tables (single t).rows (single t).next (requests.Run work.statement) (made_by (single t).tables (single t).rows (single t).next (requests.Lock of_table) z)) k.1
          ∙ ap (λ g. Alive (given_to g (locked_by of_table k.0))) (sym (insert_given in_it) ∙ r.gives)))
          (alike_given r.changes r.places u (locked_by of_table k.0) k.2)
