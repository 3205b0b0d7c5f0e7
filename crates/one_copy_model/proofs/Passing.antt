-- The single run grows by deeds of others, and none of them is a commit with changes: what holds of a session holds on.
use Rattle.std.proofs.Common.{◌≡◌, ℕ, ◌≤◌, Bool, true, List, length, ℤ, refl, sym, ap, ◌∙◌, subst, inl, inr, le_trans}
use Rattle.std.specs.Prelude.{Option, Some, None}
use Rattle.pool_base.specs.declared.code.Code.{Code}
use Rattle.schema.specs.declared.catalogue.TableDef.{TableDef}
use Rattle.catalogue.specs.declared.checked.Checked.{Checked}
use Rattle.backend_trait.specs.declared.request.Request.{Request}
use Rattle.backend_trait.specs.declared.request.Request.TheVariants as requests
use Rattle.backend_trait.specs.declared.answer.Answer.{Answer}
use Rattle.backend_trait.specs.Effect.{Given, Fails, Gives, effect_of, table_in}
use Rattle.backend_trait.specs.Store.{Live, Transaction, Alive, Pending, Store, WhereLive, view_of, next_for}
use Rattle.backend_trait.specs.Acts.{MayRefuse}
use Rattle.session_orders.specs.declared.outcome.Outcome.{Outcome}
use Rattle.session_machine.specs.declared.machine.Machine.{Machine}
use Rattle.session_machine.specs.declared.machine.Stage.{Stage}
use Rattle.session_machine.specs.declared.machine.Stage.TheVariants.{Opening, Reading, Running, Locking, Inserting, Committing, Closing, RollingBack}
use Rattle.one_copy_model.specs.declared.deed.Entry.{Entry}
use Rattle.one_copy_model.specs.SingleRun.{store_after, deeds_since}
use Rattle.one_copy_model.specs.Tracking.{Told}
use Rattle.one_copy_model.specs.Replies.{reply_to}
use Rattle.one_copy_model.specs.Chains.{IsHeard, IsResult, IsResultOf, ResultIn}
use Rattle.one_copy_model.specs.Standing.{leaving_of}
use Rattle.one_copy_model.specs.Deaths.{stage_at}
use Rattle.one_copy_model.specs.Invariant.{where_live, wants_of, request_in, MayRefuseTo, MayCode, AtDeath, MayCodeIn, NowOrAtDeath, HasReason}
use Rattle.one_copy_model.specs.Own.{Own, IsPools, IsRightBy}
use Rattle.one_copy_model.proofs.Made.{stands_same}
use Rattle.one_copy_model.proofs.Tables.{tables_same}

-- a request that waits waits on, and its mark stays
abbrev pub WaitsOn : Option Pending → Option Pending → Type 0
WaitsOn None new = new ≡ None
WaitsOn (Some p) new = (q : Pending) × (new ≡ Some q) × (q.request ≡ p.request) × (p.crossed ≡ true → q.crossed ≡ true)

pub record Passes (tables : List TableDef) (o : ℕ) (old new : List Entry) : Type 0 where
  pub rows : (store_after tables new).rows ≡ (store_after tables old).rows
  pub next : (store_after tables new).next ≡ (store_after tables old).next
  pub transaction : (store_after tables new).transaction o ≡ (store_after tables old).transaction o
  pub waits : WaitsOn ((store_after tables old).pending o) ((store_after tables new).pending o)
  pub leaving : leaving_of tables o new ≡ leaving_of tables o old
  pub longer : length old ≤ length new
  pub deeds : (n : ℕ) → n ≤ length old → deeds_since o n new ≡ deeds_since o n old
  pub deaths : (code : Code) (since : ℕ) → AtDeath tables o code since old → AtDeath tables o code since new

waits_trans : (x y z : Option Pending) → WaitsOn x y → WaitsOn y z → WaitsOn x z
waits_trans None y z a b = subst (λ (v : Option Pending). WaitsOn v z) a b
waits_trans (Some p) y z a b =
    let c = subst (λ (v : Option Pending). WaitsOn v z) a.1 b in
    (c.0, c.1, c.2 ∙ a.2, λ e. c.3 (a.3 e))

pub passes_trans : (tables : List TableDef) → (o : ℕ) (a b c : List Entry) → Passes tables o a b → Passes tables o b c → Passes tables o a c
passes_trans tables o a b c p q = record {
  rows = q.rows ∙ p.rows;
  next = q.next ∙ p.next;
  transaction = q.transaction ∙ p.transaction;
  waits = waits_trans ((store_after tables a).pending o) ((store_after tables b).pending o) ((store_after tables c).pending o) p.waits q.waits;
  leaving = q.leaving ∙ p.leaving;
  longer = le_trans p.longer q.longer;
  deeds = λ n most. q.deeds n (le_trans most p.longer) ∙ p.deeds n most;
  deaths = λ code since d. q.deaths code since (p.deaths code since d);
}

waits_same : (x : Option Pending) → WaitsOn x x
waits_same None = refl
waits_same (Some p) = (p, refl, refl, λ e. e)

pub passes_same : (tables : List TableDef) → (o : ℕ) (a : List Entry) → (n : length a ≤ length a) → Passes tables o a a
passes_same tables o a n = record {
  rows = refl;
  next = refl;
  transaction = refl;
  waits = waits_same ((store_after tables a).pending o);
  leaving = refl;
  longer = n;
  deeds = λ k most. refl;
  deaths = λ code since d. d;
}

requests_same : (x y : Option Pending) → WaitsOn x y → request_in y ≡ request_in x
requests_same None y w = ap request_in w
requests_same (Some p) y w = ap request_in w.1 ∙ ap Some w.2

-- the mark that waits now was set, or not, before
mark_was : (x y : Option Pending) (q : Pending) → WaitsOn x y → y ≡ Some q → (p : Pending) × (x ≡ Some p) × (p.crossed ≡ true → q.crossed ≡ true)
mark_was None y q w e = absurd (let n : None ≡ Some q = sym w ∙ e in cc)
mark_was (Some p) y q w e = (p, refl, λ c. let same : w.0 ≡ q = (let h : Some w.0 ≡ Some q = sym w.1 ∙ e in cc) in ap (λ (z : Pending). z.crossed) (sym same) ∙ w.3 c)

-- what a statement gives is read off the transaction and the serial numbers
module _ (old new : Store) (o : ℕ) (tables : new.tables ≡ old.tables) (transaction : new.transaction o ≡ old.transaction o) (next : new.next ≡ old.next) where
  result_same : (checked : Checked) (answer : Answer) → IsResultOf old o checked answer → IsResultOf new o checked answer
  result_same checked answer k =
      let h = subst (λ (ts : List TableDef). WhereLive (old.transaction o) (λ u. IsResult answer (effect_of ts checked (view_of u) (next_for old.next (table_in checked))).given)) (sym tables) k in
      subst (λ (x : Transaction). WhereLive x (λ u. IsResult answer (effect_of new.tables checked (view_of u) (next_for new.next (table_in checked))).given)) (sym transaction)
      (subst (λ (f : ℕ → Option ℤ). WhereLive (old.transaction o) (λ u. IsResult answer (effect_of new.tables checked (view_of u) (next_for f (table_in checked))).given)) (sym next) h)

  result_in : (stage : Stage) (answer : Answer) → ResultIn old o stage answer → ResultIn new o stage answer
  result_in (Reading work ticket) answer h = result_same work.statement answer h
  result_in (Running work) answer h = result_same work.statement answer h
  result_in (Inserting work posted) answer h = result_same work.statement answer h
  result_in (Opening work) answer h = h
  result_in (Locking work table) answer h = h
  result_in Committing answer h = h
  result_in Closing answer h = h
  result_in (RollingBack ending) answer h = h

  pub heard_same : (stage : Stage) (answer : Answer) → IsHeard old o stage answer → IsHeard new o stage answer
  heard_same stage answer h = record { form = h.form; posted = h.posted; result = λ no. result_in stage answer (h.result no) }

  refuse_mono : (crossed more : Type 0) (t : Live) (table : Option ℕ) (code : Code) (given : Given) → (crossed → more) → MayRefuse crossed t table code given → MayRefuse more t table code given
  refuse_mono crossed more t table code (Fails bytes) f h = h
  refuse_mono crossed more t table code (Gives result changes wants) f (inl h) = inl h
  refuse_mono crossed more t table code (Gives result changes wants) f (inr (inl h)) = inr (inl (h.0, f h.1, h.2))
  refuse_mono crossed more t table code (Gives result changes wants) f (inr (inr h)) = inr (inr h)

  where_mono : (crossed more : Type 0) (x : Transaction) (checked : Checked) (code : Code) → (crossed → more)
      → WhereLive x (λ u. MayRefuse crossed u (table_in checked) code (effect_of old.tables checked (view_of u) (next_for old.next (table_in checked))).given)
      → WhereLive x (λ u. MayRefuse more u (table_in checked) code (effect_of old.tables checked (view_of u) (next_for old.next (table_in checked))).given)
  where_mono crossed more (Alive t) checked code f h = refuse_mono crossed more t (table_in checked) code (effect_of old.tables checked (view_of t) (next_for old.next (table_in checked))).given f h
  where_mono crossed more x checked code f h = h

  pub refuses_same : (crossed more : Type 0) (request : Request) (code : Code) → (crossed → more) → MayRefuseTo old o crossed request code → MayRefuseTo new o more request code
  refuses_same crossed more (requests.Run checked) code f h =
      subst (λ (x : Transaction). WhereLive x (λ u. MayRefuse more u (table_in checked) code (effect_of new.tables checked (view_of u) (next_for new.next (table_in checked))).given)) (sym transaction)
      (subst (λ (g : ℕ → Option ℤ). WhereLive (old.transaction o) (λ u. MayRefuse more u (table_in checked) code (effect_of new.tables checked (view_of u) (next_for g (table_in checked))).given)) (sym next)
      (subst (λ (ts : List TableDef). WhereLive (old.transaction o) (λ u. MayRefuse more u (table_in checked) code (effect_of ts checked (view_of u) (next_for old.next (table_in checked))).given)) (sym tables)
      (where_mono crossed more (old.transaction o) checked code f h)))
  refuses_same crossed more (requests.Lock table) code f h = (h.0, f h.1)
  refuses_same crossed more requests.TakeSnapshot code f h = h
  refuses_same crossed more requests.Commit code f h = h
  refuses_same crossed more requests.Rollback code f h = h
  refuses_same crossed more (requests.ReadSerial table) code f h = h
  refuses_same crossed more (requests.SetSerial table n) code f h = h

module _ (tables : List TableDef) (o : ℕ) (old new : List Entry) (p : Passes tables o old new) where
  code_passes : (code : Code) → MayCode tables old o code → MayCode tables new o code
  code_passes code h =
      let was : WaitsOn (Some h.0) ((store_after tables new).pending o) = subst (λ (x : Option Pending). WaitsOn x ((store_after tables new).pending o)) h.1 p.waits in (
        was.0,
        was.1,
        subst (λ (r : Request). MayRefuseTo (store_after tables new) o (was.0.crossed ≡ true) r code) (sym was.2)
            (refuses_same (store_after tables old) (store_after tables new) o (tables_same tables new old) p.transaction p.next (h.0.crossed ≡ true) (was.0.crossed ≡ true) h.0.request code was.3 h.2),
      )

  insert_passes : (work_request : Request) (code : Code) → MayRefuseTo (store_after tables old) o ⊥ work_request code → MayRefuseTo (store_after tables new) o ⊥ work_request code
  insert_passes request code h = refuses_same (store_after tables old) (store_after tables new) o (tables_same tables new old) p.transaction p.next ⊥ ⊥ request code (λ x. x) h

  code_in_passes : (stage : Stage) (code : Code) → MayCodeIn tables stage o code old → MayCodeIn tables stage o code new
  code_in_passes (Inserting work posted) code h = insert_passes (requests.Run work.statement) code h
  code_in_passes (Opening work) code h = code_passes code h
  code_in_passes (Reading work ticket) code h = code_passes code h
  code_in_passes (Running work) code h = code_passes code h
  code_in_passes (Locking work table) code h = code_passes code h
  code_in_passes Committing code h = code_passes code h
  code_in_passes Closing code h = code_passes code h
  code_in_passes (RollingBack ending) code h = code_passes code h

  now_passes : (stage : Stage) (code : Code) (since : ℕ) → NowOrAtDeath tables stage o code since old → NowOrAtDeath tables stage o code since new
  now_passes stage code since (inl now) = inl (code_in_passes stage code now)
  now_passes stage code since (inr death) = inr (p.deaths code since death)

  reason_passes : (stage : Stage) (code : Code) (since : ℕ) → HasReason tables stage o code since old → HasReason tables stage o code since new
  reason_passes (Opening work) code since h = h
  reason_passes (Reading work ticket) code since h = now_passes (Reading work ticket) code since h
  reason_passes (Running work) code since h = now_passes (Running work) code since h
  reason_passes (Locking work table) code since h = now_passes (Locking work table) code since h
  reason_passes (Inserting work posted) code since h = now_passes (Inserting work posted) code since h
  reason_passes Committing code since h = h
  reason_passes Closing code since h = h
  reason_passes (RollingBack ending) code since h = h

  given_passes : (told : Told) → told.entries ≤ length old → reply_to told.order.body told.status told.begun (deeds_since o told.entries new) ≡ reply_to told.order.body told.status told.begun (deeds_since o told.entries old)
  given_passes told since = ap (reply_to told.order.body told.status told.begun) (p.deeds told.entries since)

  pools_live : (attached : ℕ) (m : Machine) (told : Told) (live more : Bool) (outcome : Outcome) → more ≡ live → IsPools attached m told live outcome → IsPools attached m told more outcome
  pools_live attached m told live more outcome same h = subst (λ (x : Bool). IsPools attached m told x outcome) (sym same) h

  right_passes : (attached : ℕ) (m : Machine) (live more : Bool) (told : Told) (outcome : Outcome) → told.entries ≤ length old → more ≡ live
      → IsRightBy attached m live o old told outcome → IsRightBy attached m more o new told outcome
  right_passes attached m live more told outcome since same (inl given) = inl (given_passes told since ∙ given)
  right_passes attached m live more told outcome since same (inr own) = inr (pools_live attached m told live more outcome same own)

  pub own_passes : (attached : ℕ) (here : ℕ → Store) (m : Machine) (mail : ℕ → Option Answer) (told : Option Told) (done : ℕ → Bool) (live more : Bool) → more ≡ live
      → Own tables attached old here m mail told done live o → Own tables attached new here m mail told done more o
  own_passes attached here m mail told done live more same h = record {
    stranger = λ is. let r = h.stranger is in record { point = r.point; out = r.out; asks = r.asks; none = r.none; told = r.told; none_there = p.transaction ∙ r.none_there };
    inside = h.inside;
    classed = h.classed;
    asked = h.asked;
    untold = h.untold;
    answer = h.answer;
    in_order = h.in_order;
    heard = λ b stage answer at is says. heard_same (store_after tables old) (store_after tables new) o (tables_same tables new old) p.transaction p.next stage answer (h.heard b stage answer at is says);
    parting = h.parting;
    causes = h.causes;
    stands = λ b at. stands_same (store_after tables old) (store_after tables new) o (tables_same tables new old) p.rows p.next (leaving_of tables o new) (leaving_of tables o old) _ _ ((store_after tables new).transaction o) ((store_after tables old).transaction o) p.leaving p.transaction (h.stands b at);
    crossed = λ b x y at sound is there e. let was = mark_was ((store_after tables old).pending o) ((store_after tables new).pending o) y p.waits there in was.2 (h.crossed b x was.0 at sound is was.1 e);
    unchanged = λ u written is alive. h.unchanged u written is (sym p.transaction ∙ alive);
    closes = h.closes;
    reasons = λ stage by code at is says. reason_passes stage code by.entries (h.reasons stage by code at is says);
    posts = requests_same ((store_after tables old).pending o) ((store_after tables new).pending o) p.waits ∙ h.posts ∙ ap (λ (x : Bool). where_live x (wants_of m.point (stage_at m.point))) (sym same);
    replies = λ by outcome is reply. right_passes attached m live more by outcome (h.since by is) same (h.replies by outcome is reply);
    orders = h.orders;
    order_is = h.order_is;
    since = λ by is. le_trans (h.since by is) p.longer;
    commits = λ b by at is in_it. given_passes by (h.since by is) ∙ h.commits b by at is in_it;
    done_first = h.done_first;
  }
