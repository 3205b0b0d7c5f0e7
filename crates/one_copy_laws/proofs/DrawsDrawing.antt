-- The single run grows by deeds of others that draw numbers of one table, and none of them is a commit with changes: what holds of a
-- session holds on, where it has no serial insert of that table under way.
use Rattle.std.proofs.Common.{◌≡◌, ◌≢◌, ℕ, ℤ, ◌≤◌, Bool, true, false, List, [], ◌∷◌, length, refl, sym, ap, ◌∙◌, subst, inl, inr, le_trans}
use Rattle.std.specs.Prelude.{if◌then◌else◌, Option, Some, None}
use Rattle.pool_base.specs.declared.code.Code.{Code}
use Rattle.schema.specs.declared.catalogue.TableDef.{TableDef}
use Rattle.catalogue.specs.declared.checked.Checked.{Checked}
use Rattle.backend_trait.specs.declared.request.Request.{Request}
use Rattle.backend_trait.specs.declared.request.Request.TheVariants as requests
use Rattle.backend_trait.specs.declared.answer.Answer.{Answer}
use Rattle.backend_trait.specs.Rows.{Rows}
use Rattle.backend_trait.specs.Effect.{Given, Fails, Gives, table_in}
use Rattle.backend_trait.specs.Store.{Live, Transaction, Absent, Alive, Dead, Pending, Store, begun, is_refusal}
use Rattle.backend_trait.specs.Acts.{MayRefuse}
use Rattle.session_orders.specs.declared.outcome.Outcome.{Outcome}
use Rattle.session_machine.specs.declared.machine.GatePhase.{GatePhase}
use Rattle.session_machine.specs.declared.machine.GatePhase.TheVariants as phases
use Rattle.session_machine.specs.declared.machine.Machine.{Machine}
use Rattle.session_machine.specs.declared.machine.Stage.{Stage}
use Rattle.session_machine.specs.declared.machine.Stage.TheVariants.{Opening, Reading, Running, Locking, Inserting, Committing, Closing, RollingBack}
use Rattle.session_machine.specs.declared.machine.Point.{Point}
use Rattle.session_machine.specs.declared.machine.Point.TheVariants.{LookDue, PostDue, Waiting, LostDue, SplitDue, LeaveSnapshotDue, UnwindDue, LeaveCommitDue, FinishDue}
use Rattle.session_machine.specs.declared.work.Class.TheVariants as classes
use Rattle.session_machine.specs.declared.work.Work.{Work}
use Rattle.one_copy_model.specs.declared.deed.Entry.{Entry}
use Rattle.one_copy_model.specs.SingleRun.{store_after, deeds_since}
use Rattle.one_copy_model.specs.Places.{asks_of}
use Rattle.one_copy_model.specs.Tracking.{Told}
use Rattle.one_copy_model.specs.Replies.{reply_to}
use Rattle.one_copy_model.specs.Chains.{IsHeard, IsResult, IsResultOf, ResultIn}
use Rattle.one_copy_model.specs.Orders.{IsClassed, IsClassedIn, IsClassedAt}
use Rattle.one_copy_model.specs.Standing.{Standing, Nowhere, Fresh, Ahead, Leaving, Fallen, Ending, same, Alike, Stands, ahead_by, told_in, standing_in, standing_open, standing_at, standing_by, leaving_of}
use Rattle.one_copy_model.specs.Deaths.{is_live, stage_at}
use Rattle.one_copy_model.specs.Invariant.{where_live, wants_of, asks_at, request_in, MayRefuseTo, MayCode, AtDeath, MayCodeIn, NowOrAtDeath, HasReason, Inserts, inserting_in}
use Rattle.one_copy_model.specs.Own.{Own, IsPools, IsRightBy, told_by, stand}
use Rattle.one_copy_model.proofs.Made.{made_by, made_all, ahead_made}
use Rattle.one_copy_model.proofs.Tables.{tables_same}
use Rattle.one_copy_model.proofs.Passing.{WaitsOn, Passes}
use Rattle.one_copy_laws.proofs.DrawsStatements.{is_serial_class, runs_plain, unlocked, serial_table, asks_run, asks_lock, IsElsewhere, run_off, where_given}

pub record Draws (tables : List TableDef) (table o : ℕ) (old new : List Entry) : Type 0 where
  pub rows : (store_after tables new).rows ≡ (store_after tables old).rows
  pub next : (other : ℕ) → other ≢ table → (store_after tables new).next other ≡ (store_after tables old).next other
  pub transaction : (store_after tables new).transaction o ≡ (store_after tables old).transaction o
  pub waits : WaitsOn ((store_after tables old).pending o) ((store_after tables new).pending o)
  pub leaving : leaving_of tables o new ≡ leaving_of tables o old
  pub longer : length old ≤ length new
  pub deeds : (n : ℕ) → n ≤ length old → deeds_since o n new ≡ deeds_since o n old
  pub deaths : (code : Code) (since : ℕ) → AtDeath tables o code since old → AtDeath tables o code since new

-- deeds that draw nothing
pub passes_draws : (tables : List TableDef) (table o : ℕ) (old new : List Entry) → Passes tables o old new → Draws tables table o old new
passes_draws tables table o old new p = record {
  rows = p.rows;
  next = λ other off. ap (λ (f : ℕ → Option ℤ). f other) p.next;
  transaction = p.transaction;
  waits = p.waits;
  leaving = p.leaving;
  longer = p.longer;
  deeds = p.deeds;
  deaths = p.deaths;
}

waits_trans : (x y z : Option Pending) → WaitsOn x y → WaitsOn y z → WaitsOn x z
waits_trans None y z a b = subst (λ (v : Option Pending). WaitsOn v z) a b
waits_trans (Some p) y z a b =
    let c = subst (λ (v : Option Pending). WaitsOn v z) a.1 b in
    (c.0, c.1, c.2 ∙ a.2, λ e. c.3 (a.3 e))

pub draws_trans : (tables : List TableDef) (table o : ℕ) (a b c : List Entry) → Draws tables table o a b → Draws tables table o b c → Draws tables table o a c
draws_trans tables table o a b c p q = record {
  rows = q.rows ∙ p.rows;
  next = λ other off. q.next other off ∙ p.next other off;
  transaction = q.transaction ∙ p.transaction;
  waits = waits_trans ((store_after tables a).pending o) ((store_after tables b).pending o) ((store_after tables c).pending o) p.waits q.waits;
  leaving = q.leaving ∙ p.leaving;
  longer = le_trans p.longer q.longer;
  deeds = λ n most. q.deeds n (le_trans most p.longer) ∙ p.deeds n most;
  deaths = λ code since d. q.deaths code since (p.deaths code since d);
}

requests_same : (x y : Option Pending) → WaitsOn x y → request_in y ≡ request_in x
requests_same None y w = ap request_in w
requests_same (Some p) y w = ap request_in w.1 ∙ ap Some w.2

mark_was : (x y : Option Pending) (q : Pending) → WaitsOn x y → y ≡ Some q → (p : Pending) × (x ≡ Some p) × (p.crossed ≡ true → q.crossed ≡ true)
mark_was None y q w e = absurd (let n : None ≡ Some q = sym w ∙ e in cc)
mark_was (Some p) y q w e = (p, refl, λ c. let same : w.0 ≡ q = (let h : Some w.0 ≡ Some q = sym w.1 ∙ e in cc) in ap (λ (z : Pending). z.crossed) (sym same) ∙ w.3 c)

refuse_mono : (crossed more : Type 0) (t : Live) (table : Option ℕ) (code : Code) (given : Given) → (crossed → more) → MayRefuse crossed t table code given → MayRefuse more t table code given
refuse_mono crossed more t table code (Fails bytes) f h = h
refuse_mono crossed more t table code (Gives result changes wants) f (inl h) = inl h
refuse_mono crossed more t table code (Gives result changes wants) f (inr (inl h)) = inr (inl (h.0, f h.1, h.2))
refuse_mono crossed more t table code (Gives result changes wants) f (inr (inr h)) = inr (inr h)

-- the work of a chain has the class that its point says
pub classed_in : (tables : List TableDef) (point : Point) (stage : Stage) → stage_at point ≡ Some stage → IsClassedAt tables point → IsClassedIn tables stage
classed_in tables (LookDue x) stage e c = subst (IsClassedIn tables) (let z : Some x ≡ Some stage = e in let same : x ≡ stage = cc in same) c
classed_in tables (PostDue x b) stage e c = subst (IsClassedIn tables) (let z : Some x ≡ Some stage = e in let same : x ≡ stage = cc in same) c
classed_in tables (Waiting x b) stage e c = subst (IsClassedIn tables) (let z : Some x ≡ Some stage = e in let same : x ≡ stage = cc in same) c
classed_in tables (LostDue x b before more) stage e c = subst (IsClassedIn tables) (let z : Some x ≡ Some stage = e in let same : x ≡ stage = cc in same) c
classed_in tables (SplitDue x best own among more) stage e c = subst (IsClassedIn tables) (let z : Some x ≡ Some stage = e in let same : x ≡ stage = cc in same) c
classed_in tables point stage e c = absurd (let z : None ≡ Some stage = e in cc)

-- between chains a transaction is ahead by nothing
open_same : (phase : GatePhase) (asked : List Request) → standing_open phase ≡ Ahead asked → asked ≡ []
open_same phases.Out asked e = absurd (let z : Nowhere ≡ Ahead asked = e in cc)
open_same phases.InSnapshot asked e = absurd (let z : Nowhere ≡ Ahead asked = e in cc)
open_same (phases.Live changed written) asked e = let z : Ahead [] ≡ Ahead asked = e in let none : [] ≡ asked = cc in sym none
open_same phases.InCommit asked e = absurd (let z : Nowhere ≡ Ahead asked = e in cc)

at_same : (phase : GatePhase) (point : Point) (asked : List Request) → standing_at phase point ≡ Ahead asked → asked ≡ []
at_same phase (LeaveSnapshotDue work) asked e = absurd (let z : Fresh ≡ Ahead asked = e in cc)
at_same phase (UnwindDue ending) asked e = absurd (let z : Nowhere ≡ Ahead asked = e in cc)
at_same phase (LeaveCommitDue ending) asked e = absurd (let z : Nowhere ≡ Ahead asked = e in cc)
at_same phase (FinishDue ending) asked e = absurd (let z : Nowhere ≡ Ahead asked = e in cc)
at_same phase point asked e = open_same phase asked e

-- what is said of the requests that a transaction is ahead by
ahead_is : (P : List Request → Type 0) (here asked : List Request) → P here → Ahead here ≡ Ahead asked → P asked
ahead_is P here asked h e = subst P (let one : here ≡ asked = cc in one) h

told_ahead : (P : List Request → Type 0) (before behind : Standing) (told : Option Answer)
    → ((a : List Request) → before ≡ Ahead a → P a) → ((a : List Request) → behind ≡ Ahead a → P a) → (asked : List Request) → told_in before behind told ≡ Ahead asked → P asked
told_ahead P before behind None f g asked e = f asked e
told_ahead P before behind (Some answer) f g asked e = by (is_refusal answer) e
  where
    by : (v : Bool) → (if v then Fallen else behind) ≡ Ahead asked → P asked
    by true h = absurd (let z : Fallen ≡ Ahead asked = h in cc)
    by false h = g asked h

wanted : (live : Bool) (wants : Option Request) (request : Request) → Some request ≡ where_live live wants → wants ≡ Some request
wanted true wants request e = sym e
wanted false wants request e = absurd (let z : Some request ≡ None = e in cc)

module _ (tables : List TableDef) (table o : ℕ) (old new : List Entry) (p : Draws tables table o old new) (m : Machine)
    (apart : is_live ((store_after tables old).transaction o) ≡ true → Inserts m table → ⊥) (classed : IsClassedAt tables m.point) where
  abbrev before : Store
  before = store_after tables old

  abbrev now : Store
  now = store_after tables new

  abbrev lives : Type 0
  lives = is_live (before.transaction o) ≡ true

  plain_off : (work : Work) → IsClassed tables work → is_serial_class work.class ≡ false → IsElsewhere table work.statement
  plain_off work c plain = inl (unlocked tables work c plain)

  -- a serial insert under way is of another table
  insert_off : (work : Work) (posted : Bool) → stage_at m.point ≡ Some (Inserting work posted) → lives → IsElsewhere table work.statement
  insert_off work posted at live =
      let c : IsClassedIn tables (Inserting work posted) = classed_in tables m.point (Inserting work posted) at classed in
      inr (
        c.1.0,
        serial_table tables work c.1.0 c.0 c.1.1,
        λ e. apart live (record { work = work; inserting = ap inserting_in at; at = c.1.1 ∙ ap classes.SerialInsert e }),
      )

  result_off : (checked : Checked) (answer : Answer) → (lives → IsElsewhere table checked) → IsResultOf before o checked answer → IsResultOf now o checked answer
  result_off checked answer off h =
      where_given before now o table (tables_same tables new old) p.transaction p.next (λ u g. IsResult answer g) (λ u g. IsResult answer g) checked off (λ u g is. is) h

  result_in : (stage : Stage) (answer : Answer) → stage_at m.point ≡ Some stage → ResultIn before o stage answer → ResultIn now o stage answer
  result_in (Reading work ticket) answer at h =
      let c : IsClassedIn tables (Reading work ticket) = classed_in tables m.point (Reading work ticket) at classed in
      result_off work.statement answer (λ live. plain_off work c.0 (ap is_serial_class c.1)) h
  result_in (Running work) answer at h =
      let c : IsClassedIn tables (Running work) = classed_in tables m.point (Running work) at classed in
      result_off work.statement answer (λ live. plain_off work c.0 (runs_plain work.class c.1)) h
  result_in (Inserting work posted) answer at h = result_off work.statement answer (insert_off work posted at) h
  result_in (Opening work) answer at h = h
  result_in (Locking work of) answer at h = h
  result_in Committing answer at h = h
  result_in Closing answer at h = h
  result_in (RollingBack ending) answer at h = h

  heard_draws : (stage : Stage) (answer : Answer) → stage_at m.point ≡ Some stage → IsHeard before o stage answer → IsHeard now o stage answer
  heard_draws stage answer at h = record { form = h.form; posted = h.posted; result = λ no. result_in stage answer at (h.result no) }

  -- the code of a request
  refuses_off : (crossed more : Type 0) (request : Request) (code : Code) → ((checked : Checked) → request ≡ requests.Run checked → lives → IsElsewhere table checked)
      → (crossed → more) → MayRefuseTo before o crossed request code → MayRefuseTo now o more request code
  refuses_off crossed more (requests.Run checked) code off f h =
      where_given before now o table (tables_same tables new old) p.transaction p.next
      (λ u g. MayRefuse crossed u (table_in checked) code g) (λ u g. MayRefuse more u (table_in checked) code g) checked (off checked refl)
      (λ u g is. refuse_mono crossed more u (table_in checked) code g f is) h
  refuses_off crossed more (requests.Lock of) code off f h = (h.0, f h.1)
  refuses_off crossed more requests.TakeSnapshot code off f h = h
  refuses_off crossed more requests.Commit code off f h = h
  refuses_off crossed more requests.Rollback code off f h = h
  refuses_off crossed more (requests.ReadSerial of) code off f h = h
  refuses_off crossed more (requests.SetSerial of n) code off f h = h

  asks_off : (work : Work) (checked : Checked) → IsClassed tables work → Some (asks_of work) ≡ Some (requests.Run checked) → IsElsewhere table checked
  asks_off work checked c e = inl (asks_run tables work checked c (let one : asks_of work ≡ requests.Run checked = cc in one))

  -- what a session waits for there is no run of a serial insert
  stage_off : (stage : Stage) (checked : Checked) → IsClassedIn tables stage → asks_at stage ≡ Some (requests.Run checked) → IsElsewhere table checked
  stage_off (Reading work ticket) checked c e = asks_off work checked c.0 e
  stage_off (Running work) checked c e = asks_off work checked c.0 e
  stage_off (Locking work of) checked c e = asks_off work checked c.0 e
  stage_off (Inserting work posted) checked c e = asks_off work checked c.0 e
  stage_off (Opening work) checked c e = absurd (let z : None ≡ Some (requests.Run checked) = e in cc)
  stage_off Committing checked c e = absurd (let z : None ≡ Some (requests.Run checked) = e in cc)
  stage_off Closing checked c e = absurd (let z : None ≡ Some (requests.Run checked) = e in cc)
  stage_off (RollingBack ending) checked c e = absurd (let z : None ≡ Some (requests.Run checked) = e in cc)

  module _ (live : Bool) (posts : request_in (before.pending o) ≡ where_live live (wants_of m.point (stage_at m.point))) where
    waits_off : (stage : Stage) (q : Pending) (checked : Checked) → stage_at m.point ≡ Some stage → before.pending o ≡ Some q → q.request ≡ requests.Run checked → IsElsewhere table checked
    waits_off stage q checked at is e =
        let asks : Some (requests.Run checked) ≡ where_live live (wants_of m.point (stage_at m.point)) = ap Some (sym e) ∙ sym (ap request_in is) ∙ posts in
        stage_off stage checked (classed_in tables m.point stage at classed)
        (sym (ap (wants_of m.point) at) ∙ wanted live (wants_of m.point (stage_at m.point)) (requests.Run checked) asks)

    code_draws : (stage : Stage) (code : Code) → stage_at m.point ≡ Some stage → MayCode tables old o code → MayCode tables new o code
    code_draws stage code at h =
        let was : WaitsOn (Some h.0) (now.pending o) = subst (λ (x : Option Pending). WaitsOn x (now.pending o)) h.1 p.waits in (
          was.0,
          was.1,
          subst (λ (r : Request). MayRefuseTo now o (was.0.crossed ≡ true) r code) (sym was.2)
              (refuses_off (h.0.crossed ≡ true) (was.0.crossed ≡ true) h.0.request code (λ checked e alive. waits_off stage h.0 checked at h.1 e) was.3 h.2),
        )

    code_in_draws : (stage : Stage) (code : Code) → stage_at m.point ≡ Some stage → MayCodeIn tables stage o code old → MayCodeIn tables stage o code new
    code_in_draws (Inserting work posted) code at h =
        refuses_off ⊥ ⊥ (requests.Run work.statement) code
        (λ checked e alive. subst (IsElsewhere table) (let one : work.statement ≡ checked = cc in one) (insert_off work posted at alive)) (λ x. x) h
    code_in_draws (Opening work) code at h = code_draws (Opening work) code at h
    code_in_draws (Reading work ticket) code at h = code_draws (Reading work ticket) code at h
    code_in_draws (Running work) code at h = code_draws (Running work) code at h
    code_in_draws (Locking work of) code at h = code_draws (Locking work of) code at h
    code_in_draws Committing code at h = code_draws Committing code at h
    code_in_draws Closing code at h = code_draws Closing code at h
    code_in_draws (RollingBack ending) code at h = code_draws (RollingBack ending) code at h

    now_draws : (stage : Stage) (code : Code) (since : ℕ) → stage_at m.point ≡ Some stage → NowOrAtDeath tables stage o code since old → NowOrAtDeath tables stage o code since new
    now_draws stage code since at (inl is) = inl (code_in_draws stage code at is)
    now_draws stage code since at (inr death) = inr (p.deaths code since death)

    reason_draws : (stage : Stage) (code : Code) (since : ℕ) → stage_at m.point ≡ Some stage → HasReason tables stage o code since old → HasReason tables stage o code since new
    reason_draws (Opening work) code since at h = h
    reason_draws (Reading work ticket) code since at h = now_draws (Reading work ticket) code since at h
    reason_draws (Running work) code since at h = now_draws (Running work) code since at h
    reason_draws (Locking work of) code since at h = now_draws (Locking work of) code since at h
    reason_draws (Inserting work posted) code since at h = now_draws (Inserting work posted) code since at h
    reason_draws Committing code since at h = h
    reason_draws Closing code since at h = h
    reason_draws (RollingBack ending) code since at h = h

  -- what it is ahead by makes the same of its transaction there
  abbrev there : Transaction
  there = before.transaction o

  abbrev Same : List Request → Type 0
  Same asked = made_all before.tables before.rows now.next asked there ≡ made_all before.tables before.rows before.next asked there

  run_same : (checked : Checked) → (lives → IsElsewhere table checked) → Same (requests.Run checked ∷ [])
  run_same checked off = run_off before.next now.next table p.next before.tables before.rows checked there off

  inserts_same : (work : Work) (posted : Bool) (told : Option Answer) → stage_at m.point ≡ Some (Inserting work posted)
      → (asked : List Request) → standing_in (Inserting work posted) told ≡ Ahead asked → Same asked
  inserts_same work posted told at =
      told_ahead Same (Ahead (asks_of work ∷ [])) (Ahead (requests.Run work.statement ∷ asks_of work ∷ [])) told
      (λ a. ahead_is Same (asks_of work ∷ []) a (subst (λ (r : Request). Same (r ∷ [])) (sym lock) refl))
      (λ a. ahead_is Same (requests.Run work.statement ∷ asks_of work ∷ []) a
      (subst (λ (r : Request). Same (requests.Run work.statement ∷ r ∷ [])) (sym lock)
      (run_off before.next now.next table p.next before.tables before.rows work.statement (made_by before.tables before.rows before.next (requests.Lock c.1.0) there)
      (λ live. insert_off work posted at (locks_live there live)))))
    where
      c : IsClassedIn tables (Inserting work posted)
      c = classed_in tables m.point (Inserting work posted) at classed

      lock : asks_of work ≡ requests.Lock c.1.0
      lock = asks_lock work c.1.0 c.1.1

      locks_live : (x : Transaction) → is_live (made_by before.tables before.rows before.next (requests.Lock c.1.0) x) ≡ true → is_live x ≡ true
      locks_live (Alive t) e = refl
      locks_live Absent e = e
      locks_live Dead e = e

  stage_same : (stage : Stage) (told : Option Answer) → stage_at m.point ≡ Some stage → (asked : List Request) → standing_in stage told ≡ Ahead asked → Same asked
  stage_same (Reading work ticket) told at = told_ahead Same same same told (λ a. ahead_is Same [] a refl) (λ a. ahead_is Same [] a refl)
  stage_same (Running work) told at =
      let c : IsClassedIn tables (Running work) = classed_in tables m.point (Running work) at classed in
      told_ahead Same same (Ahead (requests.Run work.statement ∷ [])) told (λ a. ahead_is Same [] a refl)
      (λ a. ahead_is Same (requests.Run work.statement ∷ []) a (run_same work.statement (λ live. plain_off work c.0 (runs_plain work.class c.1))))
  stage_same (Locking work of) told at =
      told_ahead Same same (Ahead (requests.Lock of ∷ [])) told (λ a. ahead_is Same [] a refl) (λ a. ahead_is Same (requests.Lock of ∷ []) a refl)
  stage_same (Inserting work posted) told at = inserts_same work posted told at
  stage_same (Opening work) told at =
      told_ahead Same Nowhere Fresh told (λ a e. absurd (let z : Nowhere ≡ Ahead a = e in cc)) (λ a e. absurd (let z : Fresh ≡ Ahead a = e in cc))
  stage_same Committing told at =
      told_ahead Same Leaving Nowhere told (λ a e. absurd (let z : Leaving ≡ Ahead a = e in cc)) (λ a e. absurd (let z : Nowhere ≡ Ahead a = e in cc))
  stage_same Closing told at =
      told_ahead Same Ending Nowhere told (λ a e. absurd (let z : Ending ≡ Ahead a = e in cc)) (λ a e. absurd (let z : Nowhere ≡ Ahead a = e in cc))
  stage_same (RollingBack ending) told at =
      told_ahead Same Ending Nowhere told (λ a e. absurd (let z : Ending ≡ Ahead a = e in cc)) (λ a e. absurd (let z : Nowhere ≡ Ahead a = e in cc))

  found_same : (found : Option Stage) (told : Option Answer) → stage_at m.point ≡ found → (asked : List Request) → standing_by m.session.gate m.point found told ≡ Ahead asked → Same asked
  found_same (Some stage) told at asked e = stage_same stage told at asked e
  found_same None told at asked e = subst Same (sym (at_same m.session.gate m.point asked e)) refl

  ahead_draws : (asked : List Request) → Same asked → ahead_by now o asked (now.transaction o) ≡ ahead_by before o asked there
  ahead_draws asked is =
      ahead_made now o asked (now.transaction o)
      ∙ ap (λ (ts : List TableDef). made_all ts now.rows now.next asked (now.transaction o)) (tables_same tables new old)
      ∙ ap (λ (r : Rows). made_all before.tables r now.next asked (now.transaction o)) p.rows
      ∙ ap (λ (x : Transaction). made_all before.tables before.rows now.next asked x) p.transaction
      ∙ is
      ∙ sym (ahead_made before o asked there)

  stands_with : (standing : Standing) (here : Transaction) → ((asked : List Request) → standing ≡ Ahead asked → Same asked)
      → Stands before o (leaving_of tables o old) standing here there → Stands now o (leaving_of tables o new) standing here (now.transaction o)
  stands_with Nowhere here f h = (h.0, p.transaction ∙ h.1)
  stands_with Fresh here f h = (h.0 ∙ ap (λ (r : Rows). Alive (begun r)) (sym p.rows), p.transaction ∙ h.1)
  stands_with (Ahead asked) here f h = subst (Alike here) (sym (ahead_draws asked (f asked refl))) h
  stands_with Leaving here f h = (subst (Alike here) (sym p.leaving) h.0, p.transaction ∙ h.1)
  stands_with Fallen here f h = h
  stands_with Ending here f h = p.transaction ∙ h

  stands_draws : (mail : ℕ → Option Answer) (b : ℕ) (here : Transaction) → Stands before o (leaving_of tables o old) (stand m mail b) here there
      → Stands now o (leaving_of tables o new) (stand m mail b) here (now.transaction o)
  stands_draws mail b here h = stands_with (stand m mail b) here (found_same (stage_at m.point) (told_by m mail b) refl) h

module _ (tables : List TableDef) (table o : ℕ) (old new : List Entry) (p : Draws tables table o old new) where
  given_draws : (told : Told) → told.entries ≤ length old
      → reply_to told.order.body told.status told.begun (deeds_since o told.entries new) ≡ reply_to told.order.body told.status told.begun (deeds_since o told.entries old)
  given_draws told since = ap (reply_to told.order.body told.status told.begun) (p.deeds told.entries since)

  right_draws : (attached : ℕ) (m : Machine) (live more : Bool) (told : Told) (outcome : Outcome) → told.entries ≤ length old → more ≡ live
      → IsRightBy attached m live o old told outcome → IsRightBy attached m more o new told outcome
  right_draws attached m live more told outcome since alike (inl given) = inl (given_draws told since ∙ given)
  right_draws attached m live more told outcome since alike (inr own) = inr (subst (λ (x : Bool). IsPools attached m told x outcome) (sym alike) own)

pub own_draws : (tables : List TableDef) (table o : ℕ) (old new : List Entry) → Draws tables table o old new
    → (attached : ℕ) (here : ℕ → Store) (m : Machine) (mail : ℕ → Option Answer) (told : Option Told) (done : ℕ → Bool) (live more : Bool) → more ≡ live
    → (is_live ((store_after tables old).transaction o) ≡ true → Inserts m table → ⊥)
    → Own tables attached old here m mail told done live o → Own tables attached new here m mail told done more o
own_draws tables table o old new p attached here m mail told done live more same apart h = record {
  stranger = λ is. let r = h.stranger is in record { point = r.point; out = r.out; asks = r.asks; none = r.none; told = r.told; none_there = p.transaction ∙ r.none_there };
  inside = h.inside;
  classed = h.classed;
  asked = h.asked;
  untold = h.untold;
  answer = h.answer;
  in_order = h.in_order;
  heard = λ b stage answer at is says. heard_draws tables table o old new p m apart h.classed stage answer is (h.heard b stage answer at is says);
  parting = h.parting;
  causes = h.causes;
  stands = λ b at. stands_draws tables table o old new p m apart h.classed mail b ((here b).transaction o) (h.stands b at);
  crossed = λ b x y at sound is there e. let was = mark_was ((store_after tables old).pending o) ((store_after tables new).pending o) y p.waits there in was.2 (h.crossed b x was.0 at sound is was.1 e);
  unchanged = λ u written is alive. h.unchanged u written is (sym p.transaction ∙ alive);
  closes = h.closes;
  reasons = λ stage by code at is says. reason_draws tables table o old new p m apart h.classed live h.posts stage code by.entries at (h.reasons stage by code at is says);
  posts = requests_same ((store_after tables old).pending o) ((store_after tables new).pending o) p.waits ∙ h.posts ∙ ap (λ (x : Bool). where_live x (wants_of m.point (stage_at m.point))) (sym same);
  replies = λ by outcome is reply. right_draws tables table o old new p attached m live more by outcome (h.since by is) same (h.replies by outcome is reply);
  orders = h.orders;
  order_is = h.order_is;
  since = λ by is. le_trans (h.since by is) p.longer;
  commits = λ b by at is in_it. given_draws tables table o old new p by (h.since by is) ∙ h.commits b by at is in_it;
  done_first = h.done_first;
}
