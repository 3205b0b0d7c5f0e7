-- A crossing at an attached backend that is not lost is one in the single run.
use Rattle.backend_trait.specs.Keys.{Place}
use Rattle.std.proofs.Common.{◌≡◌, ℕ, Bool, true, false, ◌||◌, ◌==◌, List, [], ◌∷◌, refl, sym, ap, ◌∙◌, subst, inl, inr}
use Rattle.std.specs.Prelude.{Option, Some, None}
use Rattle.std.proofs.lemmas.Bool.Decides.{eqb_tells}
use Rattle.schema.specs.declared.catalogue.TableDef.{TableDef}
use Rattle.catalogue.specs.declared.checked.Checked.{Checked}
use Rattle.backend_trait.specs.declared.request.Request.{Request}
use Rattle.backend_trait.specs.declared.request.Request.TheVariants as requests
use Rattle.backend_trait.specs.Rows.{Rows, Changes, laid_over}
use Rattle.backend_trait.specs.Effect.{Wants, nothing, Conflicts, same_place, same_table, table_left, table_right, both_wants, has_place, has_lock_of, effect_of, table_in}
use Rattle.backend_trait.specs.Store.{Transaction, Absent, Alive, Dead, Pending, Store, held_by, view_of, next_for, table_lock}
use Rattle.backend_trait.specs.Acts.{Crosses, asked_by, has_lock, may_be_crossed, wants_of_run, given_of, wants_in}
use Rattle.session_machine.specs.declared.work.Work.{Work}
use Rattle.session_machine.specs.declared.work.Class.{Class}
use Rattle.session_machine.specs.declared.work.Class.TheVariants as classes
use Rattle.session_machine.specs.declared.machine.Stage.{Stage}
use Rattle.session_machine.specs.declared.machine.Stage.TheVariants.{Opening, Reading, Running, Locking, Inserting, Committing, Closing, RollingBack}
use Rattle.session_machine.specs.Rules.{request_of}
use Rattle.one_copy_model.specs.Places.{asks_as, asks_of}
use Rattle.one_copy_model.specs.Deaths.{is_live, stage_at, answer_from, heard_from, mail_or}
use Rattle.one_copy_model.specs.Tracking.{Tracked, single}
use Rattle.one_copy_model.specs.Chains.{IsInOrder, asked_in}
use Rattle.backend_trait.specs.Alone.{given_on}
use Rattle.classifier.specs.Classes.{lock_of}
use Rattle.one_copy_model.specs.Orders.{IsClassed, IsClassedIn, runs_at_once}
use Rattle.one_copy_model.specs.Standing.{Standing, standing_by, standing_in, Stands, Alike, leaving_of}
use Rattle.one_copy_model.specs.Invariant.{Invariant, IsHere, IsInLine, request_in, where_live, wants_of, asks_at}
use Rattle.one_copy_model.proofs.Made.{ahead_made, made_by}
use Rattle.one_copy_laws.proofs.ChainsChaining.{class_in}
use Rattle.one_copy_laws.proofs.ChainsTaking.{none_below}
use Rattle.one_copy_model.proofs.Tables.{tables_there}
use Rattle.backend_trait.proofs.Undrawn.{numbers_apart}
use Rattle.one_copy_laws.proofs.MarksWanting.{wants_within, wants_no_lock, serial_table, unlocked, under_lock}

-- a statement that takes no lock first; another request asks for the same whatever the numbers
abbrev IsPlain : Request → Type 0
IsPlain (requests.Run checked) = lock_of checked.body ≡ None
IsPlain request = Unit {0}

-- what is asked and held is read off the transaction
asked_same : (st there : Store) (s : ℕ) (request : Request) → st.tables ≡ there.tables → IsPlain request → Alike (st.transaction s) (there.transaction s) → asked_by st s request ≡ asked_by there s request
asked_same st there s (requests.Run checked) tables plain alike = by (st.transaction s) (there.transaction s) alike
  where
    by : (x y : Transaction) → Alike x y → wants_of_run st checked x ≡ wants_of_run there checked y
    by (Alive l) (Alive u) a =
        ap (λ (r : Rows). wants_in (effect_of st.tables checked (laid_over l.changes r) (next_for st.next (table_in checked))).given) a.0
        ∙ ap (λ (c : Changes). wants_in (effect_of st.tables checked (laid_over c u.base) (next_for st.next (table_in checked))).given) a.1
        ∙ ap wants_in (numbers_apart st.tables checked (view_of u) (next_for st.next (table_in checked)) plain
        ∙ ap (λ (ts : List TableDef). given_on ts (view_of u) checked) tables
        ∙ sym (numbers_apart there.tables checked (view_of u) (next_for there.next (table_in checked)) plain))
    by x y a = absurd a
asked_same st there s requests.TakeSnapshot tables plain alike = refl
asked_same st there s (requests.Lock table) tables plain alike = refl
asked_same st there s requests.Commit tables plain alike = refl
asked_same st there s requests.Rollback tables plain alike = refl
asked_same st there s (requests.ReadSerial table) tables plain alike = refl
asked_same st there s (requests.SetSerial table n) tables plain alike = refl

held_same : (x y : Transaction) → Alike x y → held_by x ≡ held_by y
held_same (Alive l) (Alive u) a = a.2
held_same x y a = absurd a

there_live : (x y : Transaction) → Alike x y → is_live y ≡ true
there_live (Alive l) (Alive u) a = refl
there_live x y a = absurd a

lock_same : (st there : Store) (s : ℕ) (request : Request) → held_by (st.transaction s) ≡ held_by (there.transaction s) → has_lock st s request ≡ has_lock there s request
lock_same st there s (requests.Run checked) e = ap (λ (w : Wants). has_lock_of w (table_in checked)) e
lock_same st there s (requests.Lock table) e = ap (λ (w : Wants). w.tables table) e
lock_same st there s requests.TakeSnapshot e = refl
lock_same st there s requests.Commit e = refl
lock_same st there s requests.Rollback e = refl
lock_same st there s (requests.ReadSerial table) e = refl
lock_same st there s (requests.SetSerial table n) e = refl

none_asked : (w : Wants) → Conflicts nothing w → ⊥
none_asked w (same_place p x y) = let e : false ≡ true = x in cc
none_asked w (same_table t x y) = let e : false ≡ true = x in cc
none_asked w (table_left p x y) = let e : false ≡ true = x in cc
none_asked w (table_right p x y) = let e : false ≡ true = x in cc

-- a statement that is no serial insert's is asked there as it is here
runs_as : (work : Work) (class : Class) → work.class ≡ class → runs_at_once class ≡ true → asks_of work ≡ requests.Run work.statement
runs_as work classes.LockingRead c e = ap (asks_as work.statement) c
runs_as work (classes.Write verb) c e = ap (asks_as work.statement) c
runs_as work classes.Read c e = absurd (let z : false ≡ true = e in cc)
runs_as work (classes.SerialInsert table) c e = absurd (let z : false ≡ true = e in cc)

itself : (n : ℕ) → (n == n) ≡ true
itself n = elim (eqb_tells n n) [ inl p ↦ p.0 | inr p ↦ absurd (p.1 refl) ]

module _ (t : Tracked) (h : Invariant t) (b : ℕ) (here : IsHere t.world b) (sound : (t.world.store b).lost ≡ false) where
  abbrev st : Store
  st = t.world.store b

  abbrev there : Store
  there = single t

  -- of a request that waits here: where its session stands
  record Waits (s : ℕ) (request : Request) : Type 0 where
    stage : Stage
    at : stage_at (t.world.machine s).point ≡ Some stage
    is : request ≡ request_of stage
    classed : IsClassedIn t.world.tables stage
    stands : Stands there s (leaving_of t.world.tables s t.history) (standing_in stage None) (st.transaction s) (there.transaction s)

  waits_here : (s : ℕ) (p : Pending) → st.pending s ≡ Some p → Waits s p.request
  waits_here s p e =
      let line : IsInLine (t.world.machine s) b p.request = (h.line s b).asked p sound e in
      let at : stage_at (t.world.machine s).point ≡ Some line.stage = ap stage_at line.waits in
      let order : IsInOrder t.world.gate.attached.bits (t.world.machine s) line.stage = h.in_order s line.stage at in
      let untold : answer_from t.world s b ≡ None = ap (λ x. mail_or x (heard_from (t.world.machine s).session.heard b)) ((h.line s b).untold p e)
      ∙ none_below b (t.world.machine s).session.heard (order.above b (ap asked_in line.waits ∙ ap Some line.number)) in
      record {
        stage = line.stage;
        at = at;
        is = line.asks;
        classed = class_in t.world.tables (t.world.machine s).point line.stage at (h.classed s);
        stands = subst (λ (x : Standing). Stands there s (leaving_of t.world.tables s t.history) x (st.transaction s) (there.transaction s))
            (ap (λ x. standing_by (t.world.machine s).session.gate (t.world.machine s).point x (answer_from t.world s b)) at ∙ ap (standing_in line.stage) untold)
            (h.stands s b here);
      }

  posted_there : (s : ℕ) (stage : Stage) (request : Request) → stage_at (t.world.machine s).point ≡ Some stage → is_live (there.transaction s) ≡ true → asks_at stage ≡ Some request → request_in (there.pending s) ≡ Some request
  posted_there s stage request at live asks =
      h.posts s ∙ ap (λ x. where_live x (wants_of (t.world.machine s).point (stage_at (t.world.machine s).point))) live
      ∙ ap (wants_of (t.world.machine s).point) at ∙ asks

  -- it is the same there, or a serial insert's run, which has its lock
  data IsAsThere (s : ℕ) (request : Request) : Type 0 where
    as_there : IsPlain request → Alike (st.transaction s) (there.transaction s) → request_in (there.pending s) ≡ Some request → IsAsThere s request
    behind_lock : (work : Work) (table : ℕ) → IsClassed t.world.tables work → work.class ≡ classes.SerialInsert table → request ≡ requests.Run work.statement
        → Alike (st.transaction s) (made_by there.tables there.rows there.next (requests.Lock table) (there.transaction s)) → request_in (there.pending s) ≡ Some (requests.Lock table) → IsAsThere s request
    asks_nothing : asked_by st s request ≡ nothing → may_be_crossed request ≡ false → IsAsThere s request

  runs_plain : (work : Work) (class : Class) → IsClassed t.world.tables work → work.class ≡ class → runs_at_once class ≡ true → lock_of work.statement.body ≡ None
  runs_plain work classes.LockingRead c is once = unlocked t.world.tables work classes.LockingRead c is refl
  runs_plain work (classes.Write verb) c is once = unlocked t.world.tables work (classes.Write verb) c is refl
  runs_plain work classes.Read c is once = absurd (let z : false ≡ true = once in cc)
  runs_plain work (classes.SerialInsert table) c is once = absurd (let z : false ≡ true = once in cc)

  same_tables : st.tables ≡ there.tables
  same_tables = h.tables b ∙ sym (tables_there t.world.tables t.history)

  made_live : (table : ℕ) (x y : Transaction) → Alike x (made_by there.tables there.rows there.next (requests.Lock table) y) → is_live y ≡ true
  made_live table (Alive l) (Alive u) a = refl
  made_live table (Alive l) Absent a = absurd a
  made_live table (Alive l) Dead a = absurd a
  made_live table Absent y a = absurd a
  made_live table Dead y a = absurd a

  as_there_at : (s : ℕ) (stage : Stage) → stage_at (t.world.machine s).point ≡ Some stage → IsClassedIn t.world.tables stage → Stands there s (leaving_of t.world.tables s t.history) (standing_in stage None) (st.transaction s) (there.transaction s) → IsAsThere s (request_of stage)
  as_there_at s (Reading work ticket) at c a = as_there (unlocked t.world.tables work classes.Read c.0 c.1 refl) a (posted_there s (Reading work ticket) (requests.Run work.statement) at (there_live (st.transaction s) (there.transaction s) a) (ap (λ x. Some (asks_as work.statement x)) c.1))
  as_there_at s (Running work) at c a = as_there (runs_plain work work.class c.0 refl c.1) a (posted_there s (Running work) (requests.Run work.statement) at (there_live (st.transaction s) (there.transaction s) a) (ap Some (runs_as work work.class refl c.1)))
  as_there_at s (Locking work table) at c a = as_there tt a (posted_there s (Locking work table) (requests.Lock table) at (there_live (st.transaction s) (there.transaction s) a) (ap (λ x. Some (asks_as work.statement x)) c.1))
  as_there_at s (Inserting work posted) at c a =
      let table : ℕ = c.1.0 in
      let asks : asks_of work ≡ requests.Lock table = ap (asks_as work.statement) c.1.1 in
      let alike : Alike (st.transaction s) (made_by there.tables there.rows there.next (requests.Lock table) (there.transaction s)) =
      subst (Alike (st.transaction s)) (ahead_made there s (asks_of work ∷ []) (there.transaction s) ∙ ap (λ r. made_by there.tables there.rows there.next r (there.transaction s)) asks) a in
      behind_lock work table c.0 c.1.1 refl alike (posted_there s (Inserting work posted) (requests.Lock table) at (made_live table (st.transaction s) (there.transaction s) alike) (ap Some asks))
  as_there_at s (Opening work) at c a = asks_nothing refl refl
  as_there_at s Committing at c a = asks_nothing refl refl
  as_there_at s Closing at c a = asks_nothing refl refl
  as_there_at s (RollingBack ending) at c a = asks_nothing refl refl

  as_there_of : (s : ℕ) (p : Pending) → st.pending s ≡ Some p → IsAsThere s p.request
  as_there_of s p e = let w = waits_here s p e in subst (IsAsThere s) (sym w.is) (as_there_at s w.stage w.at w.classed w.stands)

  -- what waits there
  waiting_there : (x : Option Pending) (request : Request) → request_in x ≡ Some request → (q : Pending) × (x ≡ Some q) × (q.request ≡ request)
  waiting_there (Some q) request e = (q, refl, (let z : Some q.request ≡ Some request = e in let same : q.request ≡ request = cc in same))
  waiting_there None request e = absurd (let z : None ≡ Some request = e in cc)

  -- who crosses here asks for the same there
  record Asks (other : ℕ) (its : Request) : Type 0 where
    asks : Pending
    waits : there.pending other ≡ Some asks
    unlocked : has_lock there other asks.request ≡ false
    same : asked_by st other its ≡ asked_by there other asks.request

  made_held : (table : ℕ) (x y : Transaction) → Alike x (made_by there.tables there.rows there.next (requests.Lock table) y) → held_by x ≡ both_wants (table_lock table) (held_by y)
  made_held table (Alive l) (Alive u) a = a.2
  made_held table (Alive l) Absent a = absurd a
  made_held table (Alive l) Dead a = absurd a
  made_held table Absent y a = absurd a
  made_held table Dead y a = absurd a

  or_first : (a c : Bool) → a ≡ true → (a || c) ≡ true
  or_first true c e = refl
  or_first false c e = absurd (let z : false ≡ true = e in cc)

  asks_there : (other : ℕ) (its : Request) (w : Wants) → has_lock st other its ≡ false → Conflicts (asked_by st other its) w → IsAsThere other its → Asks other its
  asks_there other its w unlocked conflict (as_there plain alike pending) =
      let q = waiting_there (there.pending other) its pending in
      record {
        asks = q.0;
        waits = q.1;
        unlocked = ap (has_lock there other) q.2 ∙ sym (lock_same st there other its (held_same (st.transaction other) (there.transaction other) alike)) ∙ unlocked;
        same = asked_same st there other its same_tables plain alike ∙ ap (asked_by there other) (sym q.2);
      }
  asks_there other its w unlocked conflict (behind_lock work table classed class is alike pending) =
      let at : Some table ≡ table_in work.statement = serial_table t.world.tables work table classed class in
      let held : has_lock_of (held_by (st.transaction other)) (table_in work.statement) ≡ true =
      ap (has_lock_of (held_by (st.transaction other))) (sym at)
      ∙ ap (λ (x : Wants). x.tables table) (made_held table (st.transaction other) (there.transaction other) alike)
      ∙ or_first (table == table) ((held_by (there.transaction other)).tables table) (itself table) in
      absurd (let z : true ≡ false = sym held ∙ sym (ap (has_lock st other) is) ∙ unlocked in cc)
  asks_there other its w unlocked conflict (asks_nothing none kind) = absurd (none_asked w (subst (λ x. Conflicts x w) none conflict))

  -- what it crosses is crossed there
  run_wants : (checked : Checked) (x : Transaction) (p : Place) → has_place (wants_of_run st checked x) p ≡ true → Some p.table ≡ table_in checked
  run_wants checked (Alive l) p e = wants_within st.tables checked (view_of l) (next_for st.next (table_in checked)) p e
  run_wants checked Absent p e = absurd (let z : false ≡ true = e in cc)
  run_wants checked Dead p e = absurd (let z : false ≡ true = e in cc)

  run_tables : (checked : Checked) (x : Transaction) (k : ℕ) → (wants_of_run st checked x).tables k ≡ true → ⊥
  run_tables checked (Alive l) k e = wants_no_lock (given_of st checked l) k e
  run_tables checked Absent k e = let z : false ≡ true = e in cc
  run_tables checked Dead k e = let z : false ≡ true = e in cc

  same_some : (a c : ℕ) → Some a ≡ Some c → a ≡ c
  same_some a c e = cc

  crossed_there_by : (s : ℕ) (request asked : Request) (a : Wants) → may_be_crossed request ≡ true → request_in (there.pending s) ≡ Some asked → IsAsThere s request
      → Conflicts a (both_wants (asked_by st s request) (held_by (st.transaction s)))
      → (may_be_crossed asked ≡ true) × Conflicts a (both_wants (asked_by there s asked) (held_by (there.transaction s)))
  crossed_there_by s request asked a kind pending (as_there plain alike waits) conflict =
      let same : request ≡ asked = (let z : Some request ≡ Some asked = sym waits ∙ pending in cc) in (
        ap may_be_crossed (sym same) ∙ kind,
        subst (λ r. Conflicts a (both_wants (asked_by there s r) (held_by (there.transaction s)))) same
            (subst (λ w. Conflicts a (both_wants w (held_by (there.transaction s)))) (asked_same st there s request same_tables plain alike)
            (subst (λ w. Conflicts a (both_wants (asked_by st s request) w)) (held_same (st.transaction s) (there.transaction s) alike) conflict)),
      )
  crossed_there_by s request asked a kind pending (behind_lock work table classed class is alike waits) conflict =
      let same : requests.Lock table ≡ asked = (let z : Some (requests.Lock table) ≡ Some asked = sym waits ∙ pending in cc) in
      let at : Some table ≡ table_in work.statement = serial_table t.world.tables work table classed class in
      let run : Wants = wants_of_run st work.statement (st.transaction s) in
      let held : Wants = held_by (there.transaction s) in
      let here_it : Conflicts a (both_wants run (both_wants (table_lock table) held)) =
      subst (λ w. Conflicts a (both_wants run w)) (made_held table (st.transaction s) (there.transaction s) alike)
      (subst (λ r. Conflicts a (both_wants (asked_by st s r) (held_by (st.transaction s)))) is conflict) in (
        ap may_be_crossed (sym same),
        subst (λ r. Conflicts a (both_wants (asked_by there s r) held)) same
            (under_lock table run held (λ p e. same_some p.table table (run_wants work.statement (st.transaction s) p e ∙ sym at)) (λ k e. run_tables work.statement (st.transaction s) k e) (itself table) a here_it),
      )
  crossed_there_by s request asked a kind pending (asks_nothing none off) conflict = absurd (let z : true ≡ false = sym kind ∙ off in cc)

  pub carried_at : (s : ℕ) (p q : Pending) → st.pending s ≡ Some p → there.pending s ≡ Some q → Crosses st s p.request → Crosses there s q.request
  carried_at s p q e f c =
      let asks : Asks c.other c.its.request = asks_there c.other c.its.request (both_wants (asked_by st s p.request) (held_by (st.transaction s))) c.unlocked c.conflict (as_there_of c.other c.its c.waits) in
      let crossed = crossed_there_by s p.request q.request (asked_by st c.other c.its.request) c.kind (ap request_in f) (as_there_of s p e) c.conflict in
      record {
        kind = crossed.0;
        other = c.other;
        another = c.another;
        its = asks.asks;
        waits = asks.waits;
        unlocked = asks.unlocked;
        conflict = subst (λ w. Conflicts w (both_wants (asked_by there s q.request) (held_by (there.transaction s)))) asks.same crossed.1;
      }

pub carried : (t : Tracked) (b s : ℕ) (p q : Pending) → Invariant t → IsHere t.world b → (t.world.store b).lost ≡ false → (t.world.store b).pending s ≡ Some p → (single t).pending s ≡ Some q
    → Crosses (t.world.store b) s p.request → Crosses (single t) s q.request
carried t b s p q h here sound e f c = carried_at t h b here sound s p q e f c
