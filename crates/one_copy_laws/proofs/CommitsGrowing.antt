-- The single run goes on by a COMMIT of another session: a transaction grows stale at what was changed, and what holds of its session holds on.
use Rattle.std.proofs.Common.{◌≡◌, ℕ, ◌≤◌, Bool, true, false, ◌||◌, List, length, refl, sym, ap, ◌∙◌, subst, inl, inr, le_trans}
use Rattle.std.specs.Prelude.{Option, Some, None, is_some}
use Rattle.std.specs.FinMap as fin
use Rattle.pool_base.specs.declared.code.Code.{Code}
use Rattle.schema.specs.declared.catalogue.TableDef.{TableDef}
use Rattle.catalogue.specs.declared.checked.Checked.{Checked}
use Rattle.backend_trait.specs.declared.request.Request.{Request}
use Rattle.backend_trait.specs.declared.request.Request.TheVariants as requests
use Rattle.backend_trait.specs.declared.answer.Answer.{Answer}
use Rattle.backend_trait.specs.Rows.{Changes, no_changes}
use Rattle.backend_trait.specs.Effect.{Given, Fails, Gives, table_in}
use Rattle.backend_trait.specs.Store.{Live, Transaction, Absent, Alive, Dead, Pending, Store, WhereLive, made_stale}
use Rattle.backend_trait.specs.Acts.{MayRefuse, given_of}
use Rattle.session_orders.specs.declared.outcome.Outcome.{Outcome}
use Rattle.session_machine.specs.declared.machine.Machine.{Machine}
use Rattle.session_machine.specs.declared.machine.Stage.{Stage}
use Rattle.session_machine.specs.declared.machine.Stage.TheVariants.{Opening, Reading, Running, Locking, Inserting, Committing, Closing, RollingBack}
use Rattle.one_copy_model.specs.declared.deed.Entry.{Entry}
use Rattle.one_copy_model.specs.SingleRun.{store_after, deeds_since}
use Rattle.one_copy_model.specs.Deaths.{stage_at}
use Rattle.one_copy_model.specs.Tracking.{Told}
use Rattle.one_copy_model.specs.Replies.{reply_to}
use Rattle.one_copy_model.specs.Chains.{IsHeard, IsResult, ResultIn}
use Rattle.one_copy_model.specs.Standing.{leaving_of, Stands}
use Rattle.one_copy_model.specs.Invariant.{where_live, wants_of, request_in, MayRefuseTo, MayCode, AtDeath, MayCodeIn, NowOrAtDeath, HasReason, in_snapshot}
use Rattle.one_copy_model.specs.Own.{told_by, stand, Own, IsPools, IsRightBy}
use Rattle.one_copy_model.proofs.Passing.{WaitsOn, heard_same, refuses_same}
use Rattle.one_copy_model.proofs.Tables.{tables_same}
use Rattle.one_copy_laws.proofs.CommitsSteady.{grown, stands_grown, steady}

pub record Grows (tables : List TableDef) (c : Changes) (o : ℕ) (old new : List Entry) : Type 0 where
  pub next : (store_after tables new).next ≡ (store_after tables old).next
  pub transaction : (store_after tables new).transaction o ≡ grown c ((store_after tables old).transaction o)
  pub waits : WaitsOn ((store_after tables old).pending o) ((store_after tables new).pending o)
  pub leaving : leaving_of tables o new ≡ leaving_of tables o old
  pub longer : length old ≤ length new
  pub deeds : (n : ℕ) → n ≤ length old → deeds_since o n new ≡ deeds_since o n old
  pub deaths : (code : Code) (since : ℕ) → AtDeath tables o code since old → AtDeath tables o code since new

requests_same : (x y : Option Pending) → WaitsOn x y → request_in y ≡ request_in x
requests_same None y w = ap request_in w
requests_same (Some p) y w = ap request_in w.1 ∙ ap Some w.2

mark_was : (x y : Option Pending) (q : Pending) → WaitsOn x y → y ≡ Some q → (p : Pending) × (x ≡ Some p) × (p.crossed ≡ true → q.crossed ≡ true)
mark_was None y q w e = absurd (let n : None ≡ Some q = sym w ∙ e in cc)
mark_was (Some p) y q w e = (p, refl, λ c. let same : w.0 ≡ q = (let h : Some w.0 ≡ Some q = sym w.1 ∙ e in cc) in ap (λ (z : Pending). z.crossed) (sym same) ∙ w.3 c)

or_right : (a b : Bool) → b ≡ true → (a || b) ≡ true
or_right true b e = refl
or_right false b e = e

no_change : (x : Transaction) (u : Live) (c : Changes) → ((v : Live) → x ≡ Alive v → v.changes ≡ no_changes) → grown c x ≡ Alive u → u.changes ≡ no_changes
no_change Absent u c h e = absurd (let z : Absent ≡ Alive u = e in cc)
no_change (Alive v) u c h e = let same : made_stale c v ≡ u = (let z : Alive (made_stale c v) ≡ Alive u = e in cc) in ap (λ (x : Live). x.changes) (sym same) ∙ h v refl
no_change Dead u c h e = absurd (let z : Dead ≡ Alive u = e in cc)

-- what a statement gives a transaction does not look at what is stale to it; a stale place stays stale
module _ (st : Store) (o : ℕ) (x : Transaction) (c : Changes) where
  abbrev before : Store
  before = record st { transaction = λ a. x }

  abbrev behind : Store
  behind = record st { transaction = λ a. grown c x }

  result_grown : (y : Transaction) (checked : Checked) (answer : Answer) → WhereLive y (λ u. IsResult answer (given_of st checked u)) → WhereLive (grown c y) (λ u. IsResult answer (given_of st checked u))
  result_grown Absent checked answer h = h
  result_grown (Alive t) checked answer h = h
  result_grown Dead checked answer h = h

  result_in : (stage : Stage) (answer : Answer) → ResultIn before o stage answer → ResultIn behind o stage answer
  result_in (Reading work ticket) answer h = result_grown x work.statement answer h
  result_in (Running work) answer h = result_grown x work.statement answer h
  result_in (Inserting work posted) answer h = result_grown x work.statement answer h
  result_in (Opening work) answer h = h
  result_in (Locking work table) answer h = h
  result_in Committing answer h = h
  result_in Closing answer h = h
  result_in (RollingBack ending) answer h = h

  heard_grown : (stage : Stage) (answer : Answer) → IsHeard before o stage answer → IsHeard behind o stage answer
  heard_grown stage answer h = record { form = h.form; posted = h.posted; result = λ no. result_in stage answer (h.result no) }

  refuse_grown : (crossed : Type 0) (t : Live) (table : Option ℕ) (code : Code) (given : Given) → MayRefuse crossed t table code given → MayRefuse crossed (made_stale c t) table code given
  refuse_grown crossed t table code (Fails bytes) h = h
  refuse_grown crossed t table code (Gives result changes wants) (inl h) = inl (h.0, (h.1.0, h.1.1, or_right (is_some (fin.get c h.1.0)) (t.stale h.1.0) h.1.2))
  refuse_grown crossed t table code (Gives result changes wants) (inr (inl h)) = inr (inl h)
  refuse_grown crossed t table code (Gives result changes wants) (inr (inr h)) = inr (inr h)

  run_grown : (y : Transaction) (crossed : Type 0) (checked : Checked) (code : Code)
      → WhereLive y (λ t. MayRefuse crossed t (table_in checked) code (given_of st checked t)) → WhereLive (grown c y) (λ t. MayRefuse crossed t (table_in checked) code (given_of st checked t))
  run_grown Absent crossed checked code h = h
  run_grown (Alive t) crossed checked code h = refuse_grown crossed t (table_in checked) code (given_of st checked t) h
  run_grown Dead crossed checked code h = h

  refuses_grown : (crossed : Type 0) (request : Request) (code : Code) → MayRefuseTo before o crossed request code → MayRefuseTo behind o crossed request code
  refuses_grown crossed (requests.Run checked) code h = run_grown x crossed checked code h
  refuses_grown crossed (requests.Lock table) code h = h
  refuses_grown crossed requests.TakeSnapshot code h = h
  refuses_grown crossed requests.Commit code h = h
  refuses_grown crossed requests.Rollback code h = h
  refuses_grown crossed (requests.ReadSerial table) code h = h
  refuses_grown crossed (requests.SetSerial table n) code h = h

module _ (tables : List TableDef) (c : Changes) (o : ℕ) (old new : List Entry) (p : Grows tables c o old new) where
  abbrev was : Store
  was = store_after tables old

  abbrev now : Store
  now = store_after tables new

  -- between them the tables and the numbers are those behind, and the transaction is as before
  abbrev between : Store
  between = record now { transaction = λ a. was.transaction o }

  abbrev grew : Store
  grew = record now { transaction = λ a. grown c (was.transaction o) }

  heard_on : (stage : Stage) (answer : Answer) → IsHeard was o stage answer → IsHeard now o stage answer
  heard_on stage answer h =
      heard_same grew now o refl p.transaction refl stage answer
      (heard_grown now o (was.transaction o) c stage answer
      (heard_same was between o (tables_same tables new old) refl p.next stage answer h))

  refuses_on : (crossed more : Type 0) (request : Request) (code : Code) → (crossed → more) → MayRefuseTo was o crossed request code → MayRefuseTo now o more request code
  refuses_on crossed more request code f h =
      refuses_same grew now o refl p.transaction refl more more request code (λ x. x)
      (refuses_grown now o (was.transaction o) c more request code
      (refuses_same was between o (tables_same tables new old) refl p.next crossed more request code f h))

  code_on : (code : Code) → MayCode tables old o code → MayCode tables new o code
  code_on code h =
      let w : WaitsOn (Some h.0) (now.pending o) = subst (λ (x : Option Pending). WaitsOn x (now.pending o)) h.1 p.waits in (
        w.0,
        w.1,
        subst (λ (r : Request). MayRefuseTo now o (w.0.crossed ≡ true) r code) (sym w.2)
            (refuses_on (h.0.crossed ≡ true) (w.0.crossed ≡ true) h.0.request code w.3 h.2),
      )

  code_in_on : (stage : Stage) (code : Code) → MayCodeIn tables stage o code old → MayCodeIn tables stage o code new
  code_in_on (Inserting work posted) code h = refuses_on ⊥ ⊥ (requests.Run work.statement) code (λ x. x) h
  code_in_on (Opening work) code h = code_on code h
  code_in_on (Reading work ticket) code h = code_on code h
  code_in_on (Running work) code h = code_on code h
  code_in_on (Locking work table) code h = code_on code h
  code_in_on Committing code h = code_on code h
  code_in_on Closing code h = code_on code h
  code_in_on (RollingBack ending) code h = code_on code h

  now_on : (stage : Stage) (code : Code) (since : ℕ) → NowOrAtDeath tables stage o code since old → NowOrAtDeath tables stage o code since new
  now_on stage code since (inl now) = inl (code_in_on stage code now)
  now_on stage code since (inr death) = inr (p.deaths code since death)

  reason_on : (stage : Stage) (code : Code) (since : ℕ) → HasReason tables stage o code since old → HasReason tables stage o code since new
  reason_on (Opening work) code since h = h
  reason_on (Reading work ticket) code since h = now_on (Reading work ticket) code since h
  reason_on (Running work) code since h = now_on (Running work) code since h
  reason_on (Locking work table) code since h = now_on (Locking work table) code since h
  reason_on (Inserting work posted) code since h = now_on (Inserting work posted) code since h
  reason_on Committing code since h = h
  reason_on Closing code since h = h
  reason_on (RollingBack ending) code since h = h

  given_on : (told : Told) → told.entries ≤ length old → reply_to told.order.body told.status told.begun (deeds_since o told.entries new) ≡ reply_to told.order.body told.status told.begun (deeds_since o told.entries old)
  given_on told since = ap (reply_to told.order.body told.status told.begun) (p.deeds told.entries since)

  right_on : (attached : ℕ) (m : Machine) (live more : Bool) (told : Told) (outcome : Outcome) → told.entries ≤ length old → more ≡ live
      → IsRightBy attached m live o old told outcome → IsRightBy attached m more o new told outcome
  right_on attached m live more told outcome since same (inl given) = inl (given_on told since ∙ given)
  right_on attached m live more told outcome since same (inr own) = inr (subst (λ (x : Bool). IsPools attached m told x outcome) (sym same) own)

  -- who is in no snapshot
  pub own_grows : (attached : ℕ) (here : ℕ → Store) (m : Machine) (mail : ℕ → Option Answer) (told : Option Told) (done : ℕ → Bool) (live more : Bool) → more ≡ live
      → in_snapshot m.session.gate ≡ false
      → Own tables attached old here m mail told done live o → Own tables attached new here m mail told done more o
  own_grows attached here m mail told done live more same out h = record {
    stranger = λ is. let r = h.stranger is in record { point = r.point; out = r.out; asks = r.asks; none = r.none; told = r.told; none_there = p.transaction ∙ ap (grown c) r.none_there };
    inside = h.inside;
    classed = h.classed;
    asked = h.asked;
    untold = h.untold;
    answer = h.answer;
    in_order = h.in_order;
    heard = λ b stage answer at is says. heard_on stage answer (h.heard b stage answer at is says);
    parting = h.parting;
    causes = h.causes;
    stands = λ b at. subst (λ x. Stands now o (leaving_of tables o new) (stand m mail b) ((here b).transaction o) x) (sym p.transaction)
        (stands_grown was now o c (tables_same tables new old) p.next (leaving_of tables o new) (leaving_of tables o old) p.leaving (stand m mail b)
        (steady (stage_at m.point) m.point m.session.gate (told_by m mail b) h.inside out)
        ((here b).transaction o) (was.transaction o) (h.stands b at));
    crossed = λ b x y at sound is there e. let w = mark_was (was.pending o) (now.pending o) y p.waits there in w.2 (h.crossed b x w.0 at sound is w.1 e);
    unchanged = λ u written is alive. no_change (was.transaction o) u c (λ v e. h.unchanged v written is e) (sym p.transaction ∙ alive);
    closes = h.closes;
    reasons = λ stage by code at is says. reason_on stage code by.entries (h.reasons stage by code at is says);
    posts = requests_same (was.pending o) (now.pending o) p.waits ∙ h.posts ∙ ap (λ (x : Bool). where_live x (wants_of m.point (stage_at m.point))) (sym same);
    replies = λ by outcome is reply. right_on attached m live more by outcome (h.since by is) same (h.replies by outcome is reply);
    orders = h.orders;
    order_is = h.order_is;
    since = λ by is. le_trans (h.since by is) p.longer;
    commits = λ b by at is in_it. given_on by (h.since by is) ∙ h.commits b by at is in_it;
    done_first = h.done_first;
  }
