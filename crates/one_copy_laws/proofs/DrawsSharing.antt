-- The single run goes on by deeds of one session that change no committed row and draw the numbers of its serial insert's table; the
-- stores stay: what is of all sessions together.
use Rattle.std.proofs.Common.{◌≡◌, ◌≢◌, ℕ, suc, ℤ, true, false, List, arith, refl, sym, ap, ◌∙◌, subst, inl, inr}
use Rattle.std.specs.Prelude.{Option, Some, None}
use Rattle.std.specs.FinMap as fin
use Rattle.schema.specs.declared.catalogue.TableDef.{TableDef}
use Rattle.catalogue.specs.declared.checked.Checked.{Checked}
use Rattle.backend_trait.specs.declared.answer.Answer.{Answer}
use Rattle.backend_trait.specs.Keys.{Place}
use Rattle.backend_trait.specs.Rows.{Rows, with_at}
use Rattle.backend_trait.specs.Effect.{table_in, draws_of}
use Rattle.backend_trait.specs.Store.{Live, Transaction, Absent, Alive, Dead, Store, numbered, with_draws, next_for, drawn_by}
use Rattle.session_machine.specs.declared.work.Class.TheVariants as classes
use Rattle.session_machine.specs.declared.work.Work.{Work}
use Rattle.session_machine.specs.declared.machine.Machine.{Machine}
use Rattle.session_machine.specs.declared.machine.Stage.{Stage}
use Rattle.session_machine.specs.declared.machine.Stage.TheVariants.{Inserting}
use Rattle.one_copy_model.specs.declared.deed.Entry.{Entry}
use Rattle.one_copy_model.specs.SingleRun.{store_after, IsRun}
use Rattle.one_copy_model.specs.Deaths.{is_live, stage_at}
use Rattle.one_copy_model.specs.Tracking.{in_commit}
use Rattle.one_copy_model.specs.Orders.{IsClassed, IsClassedIn, IsClassedAt}
use Rattle.one_copy_model.specs.Standing.{Leaving, leaving_of}
use Rattle.one_copy_model.specs.Invariant.{IsSound, is_dead, inserted_in, inserting_in, drawn_where, numbers_behind, Inserts, HaveLocks}
use Rattle.one_copy_model.specs.Own.{told_by, stand, IsIn}
use Rattle.one_copy_model.specs.Facts.{Going, Inserted, Shared}
use Rattle.one_copy_model.proofs.Places.{same_or_other, with_at-same, with_at-other, each_at, each_at2}
use Rattle.one_copy_model.proofs.Tables.{tables_same}
use Rattle.one_copy_model.proofs.Passing.{Passes}
use Rattle.one_copy_model.proofs.Turns.{behind_same}
use Rattle.one_copy_laws.proofs.DrawsStatements.{serial_table}
use Rattle.one_copy_laws.proofs.DrawsDrawing.{Draws, classed_in}

-- what is drawn is drawn of the statement's table
pub drawn_at : (tables : List TableDef) (checked : Checked) (next : ℕ → Option ℤ) (table : ℕ) → Some table ≡ table_in checked
    → drawn_by tables checked next table ≡ numbered (draws_of tables checked (next table)) (next table)
drawn_at tables checked next table e =
    ap (λ o. with_draws next o (draws_of tables checked (next_for next o)) table) (sym e) ∙ with_at-same next table (numbered (draws_of tables checked (next table)) (next table))

pub drawn_off : (tables : List TableDef) (checked : Checked) (next : ℕ → Option ℤ) (table other : ℕ) → Some table ≡ table_in checked → other ≢ table
    → drawn_by tables checked next other ≡ next other
drawn_off tables checked next table other e off =
    ap (λ o. with_draws next o (draws_of tables checked (next_for next o)) other) (sym e) ∙ with_at-other next table (numbered (draws_of tables checked (next table)) (next table)) other off

-- an insert that has been answered is under way
inserted_inserting : (stage : Option Stage) (told : Option Answer) (work : Work) → inserted_in stage told ≡ Some work → inserting_in stage ≡ Some work
inserted_inserting (Some (Inserting work true)) (Some answer) other e = e
inserted_inserting (Some (Inserting work true)) None other e = absurd (let z : None ≡ Some other = e in cc)
inserted_inserting stage told other e = absurd (let z : None ≡ Some other = e in cc)

pub inserted_inserts : (tables : List TableDef) (history : List Entry) (m : Machine) (mail : ℕ → Option Answer) (o b table : ℕ) (work : Work)
    → Inserted tables history m mail o b table work → Inserts m table
inserted_inserts tables history m mail o b table work i =
    record { work = work; inserting = inserted_inserting (stage_at m.point) (told_by m mail b) work i.inserted; at = i.at }

-- under way is one insert, and of one table
pub one_insert : (m : Machine) (table other : ℕ) → Inserts m table → Inserts m other → other ≡ table
one_insert m table other i j =
    let z : Some i.work ≡ Some j.work = sym i.inserting ∙ j.inserting in
    let same : i.work ≡ j.work = cc in
    let of : classes.SerialInsert other ≡ classes.SerialInsert table = sym j.at ∙ sym (ap (λ (w : Work). w.class) same) ∙ i.at in
    let one : other ≡ table = cc in one

-- the numbers behind an insert of another table
stage_class : (tables : List TableDef) (found : Option Stage) (work : Work) → inserting_in found ≡ Some work
    → ((stage : Stage) → found ≡ Some stage → IsClassedIn tables stage) → IsClassed tables work
stage_class tables (Some (Inserting more posted)) work e c = subst (IsClassed tables) (let z : Some more ≡ Some work = e in let same : more ≡ work = cc in same) (c (Inserting more posted) refl).0
stage_class tables found work e c = absurd (let z : None ≡ Some work = e in cc)

behind_off : (old new : Store) (o : ℕ) (work : Work) (table : ℕ) → Some table ≡ table_in work.statement → new.tables ≡ old.tables → new.transaction o ≡ old.transaction o
    → new.next table ≡ old.next table → numbers_behind new o work table ≡ numbers_behind old o work table
behind_off old new o work table own tables transaction next =
    ap (λ (ts : List TableDef). drawn_where ts new.next work (new.transaction o) table) tables
    ∙ ap (λ (x : Transaction). drawn_where old.tables new.next work x table) transaction
    ∙ by (old.transaction o)
  where
    by : (x : Transaction) → drawn_where old.tables new.next work x table ≡ drawn_where old.tables old.next work x table
    by Absent = next
    by Dead = next
    by (Alive t) =
        drawn_at old.tables work.statement new.next table own
        ∙ ap (λ (n : Option ℤ). numbered (draws_of old.tables work.statement n) n) next
        ∙ sym (drawn_at old.tables work.statement old.next table own)

-- the session moves on, whose transaction leaves nowhere, before and behind; the numbers are given
module _ (tables : List TableDef) (attached : ℕ) (old new : List Entry) (here : ℕ → Store) (machine : ℕ → Machine) (mail : ℕ → ℕ → Option Answer)
    (s : ℕ) (n : Machine) (post : ℕ → Option Answer)
    (leaving : (o : ℕ) → o ≢ s → leaving_of tables o new ≡ leaving_of tables o old)
    (stays : (b : ℕ) → IsIn attached b → stand (machine s) (mail s) b ≢ Leaving)
    (lasts : (b : ℕ) → IsIn attached b → stand n post b ≢ Leaving)
    (outside : in_commit n.session.gate ≡ false) where
  going_to : (b : ℕ) (p : Place) → IsIn attached b → (o : ℕ) → Going tables old (machine o) (mail o) o b p → Going tables new (with_at machine s n o) (with_at mail s post o) o b p
  going_to b p at = each_at2 (λ o x y. Going tables old (machine o) (mail o) o b p → Going tables new x y o b p) machine mail s n post
      (λ g. absurd (stays b at g.leaves))
      (λ o other g. record { leaves = g.leaves; last = g.last; was = leaving o other ∙ g.was; changes = g.changes })

  going_from : (b : ℕ) (p : Place) → IsIn attached b → (o : ℕ) → Going tables new (with_at machine s n o) (with_at mail s post o) o b p → (o ≢ s) × Going tables old (machine o) (mail o) o b p
  going_from b p at = each_at2 (λ o x y. Going tables new x y o b p → (o ≢ s) × Going tables old (machine o) (mail o) o b p) machine mail s n post
      (λ g. absurd (lasts b at g.leaves))
      (λ o other g. (other, record { leaves = g.leaves; last = g.last; was = sym (leaving o other) ∙ g.was; changes = g.changes }))

  commit_from : (o : ℕ) → in_commit (with_at machine s n o).session.gate ≡ true → (o ≢ s) × (in_commit (machine o).session.gate ≡ true)
  commit_from = each_at (λ o x. in_commit x.session.gate ≡ true → (o ≢ s) × (in_commit (machine o).session.gate ≡ true)) machine s n
      (λ e. absurd (let z : false ≡ true = sym outside ∙ e in cc))
      (λ o other e. (other, e))

  pub shared_on : (store_after tables new).rows ≡ (store_after tables old).rows
      → ((b table : ℕ) → IsIn attached b → ((o : ℕ) (work : Work) → ¬ (Inserted tables new (with_at machine s n o) (with_at mail s post o) o b table work))
      → (here b).next table ≡ (store_after tables new).next table)
      → ((o b table : ℕ) (work : Work) → IsIn attached b → Inserted tables new (with_at machine s n o) (with_at mail s post o) o b table work
      → (here b).next table ≡ numbers_behind (store_after tables new) o work table)
      → IsSound (store_after tables new)
      → ((o : ℕ) → is_dead ((store_after tables new).transaction o) ≡ false)
      → IsRun tables new
      → ((a : ℕ) (u : Live) → (store_after tables new).transaction a ≡ Alive u → (v : Live) × ((store_after tables old).transaction a ≡ Alive v) × (u.stale ≡ v.stale))
      → HaveLocks (store_after tables new) (with_at machine s n)
      → Shared tables attached old here machine mail → Shared tables attached new here (with_at machine s n) (with_at mail s post)
  shared_on rows numbers ahead sound undead run was locks h = record {
    tables_here = h.tables_here;
    sound = h.sound;
    shaped = h.shaped;
    sound_there = sound;
    undead = undead;
    stale = λ o a p last u comm left changes is.
        let v = was a u is in
        let c = commit_from o comm in
        ap (λ f. f p) v.2 ∙ h.stale o a p last v.0 c.1 (sym (leaving o c.0) ∙ left) changes v.1;
    stale_here = λ a b l u p at is_l is_u e.
        let v = was a u is_u in
        elim (h.stale_here a b l v.0 p at is_l v.1 (sym (ap (λ f. f p) v.2) ∙ e)) [ inl is ↦ inl is | inr o ↦ inr (o.0, going_to b p at o.0 o.1) ];
    stale_there = λ a b l u p at is_l is_u e.
        let v = was a u is_u in
        ap (λ f. f p) v.2 ∙ h.stale_there a b l v.0 p at is_l v.1 e;
    rows_same = λ b p at none. h.rows_same b p at (λ o g. none o (going_to b p at o g)) ∙ ap (λ (r : Rows). fin.get r p) (sym rows);
    rows_left = λ o b p last at g left.
        let c = going_from b p at o g in
        h.rows_left o b p last at c.1 (sym (leaving o c.0) ∙ left) ∙ ap (λ (r : Rows). Some (fin.get r p)) (sym rows);
    numbers = numbers;
    numbers_ahead = ahead;
    locks = locks;
    run = run;
  }

-- its insert is done behind it, and has drawn the numbers of its table
module _ (tables : List TableDef) (attached : ℕ) (old new : List Entry) (here : ℕ → Store) (machine : ℕ → Machine) (mail : ℕ → ℕ → Option Answer)
    (s : ℕ) (n : Machine) (post : ℕ → Option Answer) (table : ℕ)
    (draws : (o : ℕ) → o ≢ s → Draws tables table o old new)
    (lives : is_live ((store_after tables old).transaction s) ≡ true)
    (inserts : Inserts (machine s) table)
    (stays : (b : ℕ) → IsIn attached b → stand (machine s) (mail s) b ≢ Leaving)
    (lasts : (b : ℕ) → IsIn attached b → stand n post b ≢ Leaving)
    (outside : in_commit n.session.gate ≡ false)
    (gone : (b other : ℕ) (work : Work) → IsIn attached b → Inserted tables new n post s b other work → ⊥) where
  inserted_to : (b other : ℕ) (work : Work) → other ≢ table → (o : ℕ) → Inserted tables old (machine o) (mail o) o b other work
      → Inserted tables new (with_at machine s n o) (with_at mail s post o) o b other work
  inserted_to b other work off = each_at2 (λ o x y. Inserted tables old (machine o) (mail o) o b other work → Inserted tables new x y o b other work) machine mail s n post
      (λ i. absurd (off (one_insert (machine s) table other inserts (inserted_inserts tables old (machine s) (mail s) s b other work i))))
      (λ o apart i. record { live = ap is_live (draws o apart).transaction ∙ i.live; inserted = i.inserted; at = i.at })

  inserted_from : (b other : ℕ) (work : Work) → IsIn attached b → (o : ℕ) → Inserted tables new (with_at machine s n o) (with_at mail s post o) o b other work
      → (o ≢ s) × Inserted tables old (machine o) (mail o) o b other work
  inserted_from b other work at = each_at2 (λ o x y. Inserted tables new x y o b other work → (o ≢ s) × Inserted tables old (machine o) (mail o) o b other work) machine mail s n post
      (λ i. absurd (gone b other work at i))
      (λ o apart i. (apart, record { live = ap is_live (sym (draws o apart).transaction) ∙ i.live; inserted = i.inserted; at = i.at }))

  -- who else is live there inserts into another table
  other_table : HaveLocks (store_after tables old) machine → (o b other : ℕ) (work : Work) → o ≢ s → Inserted tables old (machine o) (mail o) o b other work → other ≢ table
  other_table locks o b other work apart i same =
      apart (sym (locks.alone s o table lives i.live inserts
      (subst (Inserts (machine o)) same (inserted_inserts tables old (machine o) (mail o) o b other work i))))

  next_off : (other : ℕ) → other ≢ table → (store_after tables new).next other ≡ (store_after tables old).next other
  next_off = (draws (suc s) (λ e. omega (arith, e))).next

  numbers_now : Shared tables attached old here machine mail → (b other : ℕ) → IsIn attached b → (here b).next table ≡ (store_after tables new).next table
      → ((o : ℕ) (work : Work) → ¬ (Inserted tables new (with_at machine s n o) (with_at mail s post o) o b other work))
      → (here b).next other ≡ (store_after tables new).next other
  numbers_now h b other at drawn none = elim (same_or_other other table) [
    | inl same ↦ ap (here b).next same ∙ drawn ∙ ap (store_after tables new).next (sym same)
    | inr off ↦ h.numbers b other at (λ o work i. none o work (inserted_to b other work off o i)) ∙ sym (next_off other off)
  ]

  own_table : ((o : ℕ) → IsClassedAt tables (machine o).point) → (o b other : ℕ) (work : Work) → Inserted tables old (machine o) (mail o) o b other work → Some other ≡ table_in work.statement
  own_table classed o b other work i =
      serial_table tables work other
      (stage_class tables (stage_at (machine o).point) work (inserted_inserting (stage_at (machine o).point) (told_by (machine o) (mail o) b) work i.inserted)
      (λ stage at. classed_in tables (machine o).point stage at (classed o))) i.at

  numbers_then : Shared tables attached old here machine mail → ((o : ℕ) → IsClassedAt tables (machine o).point) → (o b other : ℕ) (work : Work) → IsIn attached b
      → Inserted tables new (with_at machine s n o) (with_at mail s post o) o b other work → (here b).next other ≡ numbers_behind (store_after tables new) o work other
  numbers_then h classed o b other work at i =
      let c = inserted_from b other work at o i in
      h.numbers_ahead o b other work at c.1
      ∙ sym (behind_off (store_after tables old) (store_after tables new) o work other (own_table classed o b other work c.1) (tables_same tables new old) (draws o c.0).transaction
      (next_off other (other_table h.locks o b other work c.0 c.1)))

  pub shared_draws : (store_after tables new).rows ≡ (store_after tables old).rows
      → ((b : ℕ) → IsIn attached b → (here b).next table ≡ (store_after tables new).next table)
      → IsSound (store_after tables new)
      → ((o : ℕ) → is_dead ((store_after tables new).transaction o) ≡ false)
      → IsRun tables new
      → ((a : ℕ) (u : Live) → (store_after tables new).transaction a ≡ Alive u → (v : Live) × ((store_after tables old).transaction a ≡ Alive v) × (u.stale ≡ v.stale))
      → HaveLocks (store_after tables new) (with_at machine s n)
      → ((o : ℕ) → IsClassedAt tables (machine o).point)
      → Shared tables attached old here machine mail → Shared tables attached new here (with_at machine s n) (with_at mail s post)
  shared_draws rows drawn sound undead run was locks classed h =
      shared_on tables attached old new here machine mail s n post (λ o other. (draws o other).leaving) stays lasts outside
      rows (λ b other at none. numbers_now h b other at (drawn b at) none) (λ o b other work at i. numbers_then h classed o b other work at i) sound undead run was locks h

-- it is not live there before and behind, whatever its insert has been answered
module _ (tables : List TableDef) (attached : ℕ) (old new : List Entry) (here : ℕ → Store) (machine : ℕ → Machine) (mail : ℕ → ℕ → Option Answer)
    (s : ℕ) (n : Machine) (post : ℕ → Option Answer)
    (passes : (o : ℕ) → o ≢ s → Passes tables o old new)
    (dead : is_live ((store_after tables old).transaction s) ≡ false)
    (still : is_live ((store_after tables new).transaction s) ≡ false)
    (stays : (b : ℕ) → IsIn attached b → stand (machine s) (mail s) b ≢ Leaving)
    (lasts : (b : ℕ) → IsIn attached b → stand n post b ≢ Leaving)
    (outside : in_commit n.session.gate ≡ false) where
  dead_to : (b table : ℕ) (work : Work) → (o : ℕ) → Inserted tables old (machine o) (mail o) o b table work → Inserted tables new (with_at machine s n o) (with_at mail s post o) o b table work
  dead_to b table work = each_at2 (λ o x y. Inserted tables old (machine o) (mail o) o b table work → Inserted tables new x y o b table work) machine mail s n post
      (λ i. absurd (let z : false ≡ true = sym dead ∙ i.live in cc))
      (λ o other i. record { live = ap is_live (passes o other).transaction ∙ i.live; inserted = i.inserted; at = i.at })

  dead_from : (b table : ℕ) (work : Work) → (o : ℕ) → Inserted tables new (with_at machine s n o) (with_at mail s post o) o b table work → (o ≢ s) × Inserted tables old (machine o) (mail o) o b table work
  dead_from b table work = each_at2 (λ o x y. Inserted tables new x y o b table work → (o ≢ s) × Inserted tables old (machine o) (mail o) o b table work) machine mail s n post
      (λ i. absurd (let z : false ≡ true = sym still ∙ i.live in cc))
      (λ o other i. (other, record { live = ap is_live (sym (passes o other).transaction) ∙ i.live; inserted = i.inserted; at = i.at }))

  pub shared_dead : (store_after tables new).rows ≡ (store_after tables old).rows → (store_after tables new).next ≡ (store_after tables old).next
      → IsSound (store_after tables new)
      → ((o : ℕ) → is_dead ((store_after tables new).transaction o) ≡ false)
      → IsRun tables new
      → ((a : ℕ) (u : Live) → (store_after tables new).transaction a ≡ Alive u → (v : Live) × ((store_after tables old).transaction a ≡ Alive v) × (u.stale ≡ v.stale))
      → HaveLocks (store_after tables new) (with_at machine s n)
      → Shared tables attached old here machine mail → Shared tables attached new here (with_at machine s n) (with_at mail s post)
  shared_dead rows next sound undead run was locks h =
      shared_on tables attached old new here machine mail s n post (λ o other. (passes o other).leaving) stays lasts outside rows
      (λ b table at none. h.numbers b table at (λ o work i. none o work (dead_to b table work o i)) ∙ ap (λ (f : ℕ → Option ℤ). f table) (sym next))
      (λ o b table work at i.
      let c = dead_from b table work o i in
      h.numbers_ahead o b table work at c.1 ∙ sym (behind_same (store_after tables old) (store_after tables new) o work table (tables_same tables new old) (passes o c.0).transaction next))
      sound undead run was locks h
