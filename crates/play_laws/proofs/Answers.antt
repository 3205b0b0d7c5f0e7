-- With its marks a store may give each answer that it may give without.
use Rattle.std.proofs.Common.{◌≡◌, ℕ, Bool, true, false, refl, sym, ap, ◌∙◌, subst, inl, inr, is_some}
use Rattle.std.specs.Prelude.{Option, Some, None}
use Rattle.pool_base.specs.declared.code.Code.{Code}
use Rattle.catalogue.specs.declared.checked.Checked.{Checked}
use Rattle.backend_trait.specs.declared.request.Request.{Request}
use Rattle.backend_trait.specs.declared.request.Request.TheVariants as requests
use Rattle.backend_trait.specs.declared.answer.Answer.{Answer}
use Rattle.backend_trait.specs.declared.answer.Answer.TheVariants as answers
use Rattle.backend_trait.specs.Effect.{Wants, both_wants, Conflicts, Given, Fails, Gives, table_in}
use Rattle.backend_trait.specs.Store.{Live, Transaction, Absent, Alive, Dead, Pending, Store, WhereLive, held_by, acted}
use Rattle.backend_trait.specs.Acts.{MayRefuse, MayRun, MayLock, MayAnswer, Crosses, IsCrossed, Answers, WhereSome, given_of, wants_of_run, asked_by, has_lock}
use Rattle.backend_trait.specs.Acting.{MayAct, acted_by}
use Rattle.one_copy_model.specs.Marks.{marked}
use Rattle.one_copy_model.specs.SingleRun.{after_answer}
use Rattle.play_laws.specs.Unmarked.{unmark, unmarked}
use Rattle.play_laws.proofs.Marks.{unmarked_marked, unmarked_acted}

-- what waits without its mark waits with one

abbrev bare : Pending → Pending
bare p = record { request = p.request; crossed = false }

pub record IsMarkedAs (x : Option Pending) (its : Pending) : Type 0 where
  pub own : Pending
  pub waits : x ≡ Some own
  pub same : bare own ≡ its

pub marked_as : (x : Option Pending) (its : Pending) → unmark x ≡ Some its → IsMarkedAs x its
marked_as None its e = absurd (let n : None ≡ Some its = e in cc)
marked_as (Some p) its e = record { own = p; waits = refl; same = (let h : Some (bare p) ≡ Some its = e in cc) }

pub none_waits : (x : Option Pending) → unmark x ≡ None → x ≡ None
none_waits None e = refl
none_waits (Some p) e = absurd (let n : Some (bare p) ≡ None = e in cc)

pub waits_still : (x : Option Pending) → is_some (unmark x) ≡ is_some x
waits_still None = refl
waits_still (Some p) = refl

-- what a session asks for is read off no mark

run_asks : (st : Store) (checked : Checked) (t : Transaction) → wants_of_run (unmarked st) checked t ≡ wants_of_run st checked t
run_asks st checked Absent = refl
run_asks st checked (Alive t) = refl
run_asks st checked Dead = refl

asks_same : (st : Store) (s : ℕ) (request : Request) → asked_by (unmarked st) s request ≡ asked_by st s request
asks_same st s requests.TakeSnapshot = refl
asks_same st s (requests.Run checked) = run_asks st checked (st.transaction s)
asks_same st s (requests.Lock table) = refl
asks_same st s requests.Commit = refl
asks_same st s requests.Rollback = refl
asks_same st s (requests.ReadSerial table) = refl
asks_same st s (requests.SetSerial table n) = refl

lock_same : (st : Store) (s : ℕ) (request : Request) → has_lock (unmarked st) s request ≡ has_lock st s request
lock_same st s requests.TakeSnapshot = refl
lock_same st s (requests.Run checked) = refl
lock_same st s (requests.Lock table) = refl
lock_same st s requests.Commit = refl
lock_same st s requests.Rollback = refl
lock_same st s (requests.ReadSerial table) = refl
lock_same st s (requests.SetSerial table n) = refl

crosses_still : (st : Store) (s : ℕ) (request : Request) → Crosses (unmarked st) s request → Crosses st s request
crosses_still st s request c =
    let as_marked = marked_as (st.pending c.other) c.its c.waits in
    let same : as_marked.own.request ≡ c.its.request = ap (λ (p : Pending). p.request) as_marked.same in
    let held : Wants = held_by (st.transaction s) in
    let asks : asked_by (unmarked st) c.other c.its.request ≡ asked_by st c.other as_marked.own.request =
    asks_same st c.other c.its.request ∙ ap (asked_by st c.other) (sym same) in
    record {
      kind = c.kind;
      other = c.other;
      another = c.another;
      its = as_marked.own;
      waits = as_marked.waits;
      unlocked = ap (has_lock st c.other) same ∙ (sym (lock_same st c.other c.its.request) ∙ c.unlocked);
      conflict =
          subst (λ (a : Wants). Conflicts a (both_wants (asked_by st s request) held)) asks
          (subst (λ (b : Wants). Conflicts (asked_by (unmarked st) c.other c.its.request) (both_wants b held)) (asks_same st s request) c.conflict);
    }

crossed_still : (st : Store) (s : ℕ) (request : Request) (mark : Bool) → IsCrossed (unmarked st) s (record { request = request; crossed = false }) → IsCrossed st s (record { request = request; crossed = mark })
crossed_still st s request mark (inl h) = absurd (let n : false ≡ true = h in cc)
crossed_still st s request mark (inr h) = inr (crosses_still st s request h)

-- more requests that are crossed only allow more

module _ (crossed more : Type 0) (f : crossed → more) where
  refuse_more : (t : Live) (table : Option ℕ) (code : Code) (given : Given) → MayRefuse crossed t table code given → MayRefuse more t table code given
  refuse_more t table code (Fails bytes) h = h
  refuse_more t table code (Gives result changes places) (inl h) = inl h
  refuse_more t table code (Gives result changes places) (inr (inl h)) = inr (inl (h.0, f h.1, h.2))
  refuse_more t table code (Gives result changes places) (inr (inr h)) = inr (inr h)

  refuse_where : (st : Store) (checked : Checked) (code : Code) (t : Transaction) → WhereLive t (λ u. MayRefuse crossed u (table_in checked) code (given_of st checked u))
      → WhereLive t (λ u. MayRefuse more u (table_in checked) code (given_of st checked u))
  refuse_where st checked code Absent h = h
  refuse_where st checked code (Alive u) h = refuse_more u (table_in checked) code (given_of st checked u) h
  refuse_where st checked code Dead h = h

  run_more : (st : Store) (s : ℕ) (checked : Checked) (answer : Answer) → MayRun (unmarked st) s crossed checked answer → MayRun st s more checked answer
  run_more st s checked answers.Began h = h
  run_more st s checked (answers.Rows rows) h = h
  run_more st s checked (answers.Count n) h = h
  run_more st s checked answers.Locked h = h
  run_more st s checked answers.Done h = h
  run_more st s checked (answers.Serial n) h = h
  run_more st s checked (answers.Refused code) h = refuse_where st checked code (st.transaction s) h

  lock_more : (st : Store) (s : ℕ) (table : ℕ) (answer : Answer) → MayLock (unmarked st) s crossed table answer → MayLock st s more table answer
  lock_more st s table answers.Began h = h
  lock_more st s table (answers.Rows rows) h = h
  lock_more st s table (answers.Count n) h = h
  lock_more st s table answers.Locked h = h
  lock_more st s table answers.Done h = h
  lock_more st s table (answers.Serial n) h = h
  lock_more st s table (answers.Refused code) h = (h.0, f h.1)

answer_at : (st : Store) (s : ℕ) (request : Request) (mark : Bool) (answer : Answer) → MayAnswer (unmarked st) s (record { request = request; crossed = false }) answer
    → MayAnswer st s (record { request = request; crossed = mark }) answer
answer_at st s requests.TakeSnapshot mark answer h = h
answer_at st s (requests.Run checked) mark answer h =
    let request = requests.Run checked in
    run_more (IsCrossed (unmarked st) s (record { request = request; crossed = false })) (IsCrossed st s (record { request = request; crossed = mark })) (crossed_still st s request mark) st s checked answer h
answer_at st s (requests.Lock table) mark answer h =
    let request = requests.Lock table in
    lock_more (IsCrossed (unmarked st) s (record { request = request; crossed = false })) (IsCrossed st s (record { request = request; crossed = mark })) (crossed_still st s request mark) st s table answer h
answer_at st s requests.Commit mark answer h = h
answer_at st s requests.Rollback mark answer h = h
answer_at st s (requests.ReadSerial table) mark answer h = h
answer_at st s (requests.SetSerial table n) mark answer h = h

-- an answer of a store without its marks: with them it may come too, and leads to the same but for marks

pub act_may : (st : Store) (s : ℕ) (answer : Answer) (new : Store) → Answers (unmarked st) s answer new → MayAct st s answer
act_may st s answer new h =
    let as_marked = marked_as (st.pending s) h.pending h.was in
    let own = as_marked.own in
    let may = subst (λ (p : Pending). MayAnswer (unmarked st) s p answer) (sym as_marked.same) h.may in
    (h.not_lost, subst (λ (x : Option Pending). WhereSome x (λ p. MayAnswer st s p answer)) (sym as_marked.waits) (answer_at st s own.request own.crossed answer may))

pub act_leads : (st : Store) (s : ℕ) (answer : Answer) (new : Store) → Answers (unmarked st) s answer new → unmarked (marked (after_answer st s answer)) ≡ new
act_leads st s answer new h =
    let as_marked = marked_as (st.pending s) h.pending h.was in
    let own = as_marked.own in
    let same : own.request ≡ h.pending.request = ap (λ (p : Pending). p.request) as_marked.same in
    unmarked_marked (after_answer st s answer)
    ∙ (ap (λ (x : Option Pending). unmarked (acted_by st s answer x)) as_marked.waits
    ∙ (unmarked_acted st s own.request answer
    ∙ (ap (λ (r : Request). acted (unmarked st) s r answer) same
    ∙ sym h.leaves)))
