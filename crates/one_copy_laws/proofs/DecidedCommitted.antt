-- Whose latest deeds are a COMMIT and its Done has no live transaction; so a death takes no answer back from whoever is live.
use Rattle.std.proofs.Common.{◌≡◌, ◌≢◌, ℕ, zero, suc, ◌-◌, ◌≤◌, Bool, true, false, List, [], ◌∷◌, length, take, refl, sym, ap, ◌∙◌, arith, inl, inr}
use Rattle.std.specs.Prelude.{◌==◌, Option, Some, None, if◌then◌else◌}
use Rattle.std.proofs.lemmas.Bool.Decides.{eqb_tells}
use Rattle.schema.specs.declared.catalogue.TableDef.{TableDef}
use Rattle.backend_trait.specs.declared.request.Request.{Request}
use Rattle.backend_trait.specs.declared.request.Request.TheVariants as requests
use Rattle.backend_trait.specs.declared.answer.Answer.{Answer}
use Rattle.backend_trait.specs.declared.answer.Answer.TheVariants as answers
use Rattle.backend_trait.specs.Store.{Transaction, Absent, Alive, Dead, Pending, Store, posted, committed_by, answered, refused, is_refusal, where_live, made_stale}
use Rattle.backend_trait.specs.Acting.{acted_by}
use Rattle.session_orders.specs.declared.order.OrderBody.{OrderBody}
use Rattle.session_orders.specs.declared.order.OrderBody.TheVariants as orders
use Rattle.session_orders.specs.declared.outcome.Outcome.{Outcome}
use Rattle.session_machine.specs.declared.status.Status.{Status}
use Rattle.session_machine.specs.declared.status.Status.TheVariants.{Idle, InBlock, Failed}
use Rattle.one_copy_model.specs.declared.deed.Deed.{Deed}
use Rattle.one_copy_model.specs.declared.deed.Deed.TheVariants.{Asks, Gets, Falls}
use Rattle.one_copy_model.specs.declared.deed.Entry.{Entry}
use Rattle.one_copy_model.specs.Marks.{with_mark}
use Rattle.one_copy_model.specs.SingleRun.{store_after, done_by, of_session, deeds_of, deeds_since, after_death}
use Rattle.one_copy_model.specs.Deaths.{is_live}
use Rattle.one_copy_model.specs.Replies.{has_committed, where_begun, reply_to}
use Rattle.one_copy_model.specs.Tracking.{Told}
use Rattle.one_copy_model.specs.Invariant.{request_in}
use Rattle.one_copy_model.specs.Own.{given_by}
use Rattle.one_copy_model.proofs.Places.{with_at-same, with_at-other}
use Rattle.one_copy_model.proofs.Deeds.{entry, asked_waits}
use Rattle.one_copy_laws.proofs.FallsDeaths.{done_live}

-- a deed of another session leaves what it waits for
marked_asks : (st : Store) (s : ℕ) (p : Option Pending) → request_in (with_mark st s p) ≡ request_in p
marked_asks st s None = refl
marked_asks st s (Some p) = refl

module _ (st : Store) (a s : ℕ) (other : s ≢ a) where
  posted_asks : (request : Request) → (posted st a request).pending s ≡ st.pending s
  posted_asks request = with_at-other st.pending a (Some (record { request = request; crossed = false })) s other

  committed_asks : (x : Transaction) → (committed_by st a x).pending s ≡ st.pending s
  committed_asks Absent = with_at-other st.pending a None s other
  committed_asks (Alive t) = with_at-other st.pending a None s other
  committed_asks Dead = with_at-other st.pending a None s other

  answered_asks : (request : Request) → (answered st a request).pending s ≡ st.pending s
  answered_asks requests.TakeSnapshot = with_at-other st.pending a None s other
  answered_asks (requests.Run checked) = with_at-other st.pending a None s other
  answered_asks (requests.Lock table) = with_at-other st.pending a None s other
  answered_asks requests.Commit = committed_asks (st.transaction a)
  answered_asks requests.Rollback = with_at-other st.pending a None s other
  answered_asks (requests.ReadSerial table) = with_at-other st.pending a None s other
  answered_asks (requests.SetSerial table n) = with_at-other st.pending a None s other

  either_asks : (is : Bool) (request : Request) → (if is then refused st a request else answered st a request).pending s ≡ st.pending s
  either_asks true request = with_at-other st.pending a None s other
  either_asks false request = answered_asks request

  acted_asks : (answer : Answer) (p : Option Pending) → (acted_by st a answer p).pending s ≡ st.pending s
  acted_asks answer None = refl
  acted_asks answer (Some p) = either_asks (is_refusal answer) p.request

  done_asks : (deed : Deed) → request_in ((done_by st a deed).pending s) ≡ request_in (st.pending s)
  done_asks (Asks request) = marked_asks (posted st a request) s ((posted st a request).pending s) ∙ ap request_in (posted_asks request)
  done_asks (Gets answer) = marked_asks (acted_by st a answer (st.pending a)) s ((acted_by st a answer (st.pending a)).pending s) ∙ ap request_in (acted_asks answer (st.pending a))
  done_asks (Falls code) = marked_asks (after_death st a) s ((after_death st a).pending s) ∙ ap request_in (with_at-other st.pending a None s other)

number_is : (a s : ℕ) (v : Bool) → (a == s) ≡ v → v ≡ true → a ≡ s
number_is a s v is f = elim (eqb_tells a s) [ inl p ↦ p.1 | inr p ↦ absurd (let z : false ≡ true = sym p.0 ∙ is ∙ f in cc) ]

another_is : (a s : ℕ) (v : Bool) → (a == s) ≡ v → v ≡ false → s ≢ a
another_is a s v is f same = elim (eqb_tells a s) [ inl p ↦ (let z : true ≡ false = sym p.0 ∙ is ∙ f in cc) | inr p ↦ p.1 (sym same) ]

asks_own : (st : Store) (a s : ℕ) (deed : Deed) (request : Request) → a ≡ s → deed ≡ Asks request → request_in ((done_by st a deed).pending s) ≡ Some request
asks_own st a s deed request same is =
    ap (λ (d : Deed). request_in ((done_by st a d).pending s)) is
    ∙ ap (λ k. request_in ((done_by st k (Asks request)).pending s)) same
    ∙ ap request_in (asked_waits st s request)

-- the request that came latest waits
asked_latest : (tables : List TableDef) → (s : ℕ) (k : ℕ) (h : List Entry) (request : Request) (rest : List Deed) → deeds_of s (take k h) ≡ Asks request ∷ rest
    → request_in ((store_after tables h).pending s) ≡ Some request
asked_latest tables s zero h request rest e = absurd (let z : [] ≡ Asks request ∷ rest = e in cc)
asked_latest tables s (suc k) [] request rest e = absurd (let z : [] ≡ Asks request ∷ rest = e in cc)
asked_latest tables s (suc k) (x ∷ xs) request rest e = by (x.session == s) refl (asked_latest tables s k xs request rest) e
  where
    by : (v : Bool) → (x.session == s) ≡ v → (deeds_of s (take k xs) ≡ Asks request ∷ rest → request_in ((store_after tables xs).pending s) ≡ Some request)
        → of_session v x.deed (deeds_of s (take k xs)) ≡ Asks request ∷ rest → request_in ((done_by (store_after tables xs) x.session x.deed).pending s) ≡ Some request
    by true is more f = asks_own (store_after tables xs) x.session s x.deed request (number_is x.session s true is refl) (let z : x.deed ∷ deeds_of s (take k xs) ≡ Asks request ∷ rest = f in let first : x.deed ≡ Asks request = cc in first)
    by false is more f = done_asks (store_after tables xs) x.session s (another_is x.session s false is refl) x.deed ∙ more f

-- which two deeds are a commit
commits_are : (d : Deed) (deeds : List Deed) → has_committed (d ∷ deeds) ≡ true → (rest : List Deed) × (d ≡ Gets answers.Done) × (deeds ≡ Asks requests.Commit ∷ rest)
commits_are (Gets answers.Done) (Asks requests.Commit ∷ rest) e = (rest, refl, refl)
commits_are d deeds e = absurd (let z : false ≡ true = e in cc)

commit_ends : (st : Store) (s : ℕ) (x : Transaction) → is_live ((committed_by st s x).transaction s) ≡ false
commit_ends st s Absent = ap is_live (with_at-same st.transaction s Absent)
commit_ends st s (Alive t) = ap is_live (with_at-same (λ o. where_live (made_stale t.changes) (st.transaction o)) s Absent)
commit_ends st s Dead = ap is_live (with_at-same st.transaction s Absent)

done_ends : (st : Store) (s : ℕ) (p : Option Pending) → request_in p ≡ Some requests.Commit → is_live ((acted_by st s answers.Done p).transaction s) ≡ false
done_ends st s None e = absurd (let z : None ≡ Some requests.Commit = e in cc)
done_ends st s (Some p) e =
    ap (λ (r : Request). is_live ((answered st s r).transaction s)) (let z : Some p.request ≡ Some requests.Commit = e in let same : p.request ≡ requests.Commit = cc in same)
    ∙ commit_ends st s (st.transaction s)

commit_own : (st : Store) (a s : ℕ) (deed : Deed) → a ≡ s → deed ≡ Gets answers.Done → request_in (st.pending s) ≡ Some requests.Commit → is_live ((done_by st a deed).transaction s) ≡ false
commit_own st a s deed same is asks =
    ap (λ (d : Deed). is_live ((done_by st a d).transaction s)) is
    ∙ ap (λ k. is_live ((done_by st k (Gets answers.Done)).transaction s)) same
    ∙ done_ends st s (st.pending s) asks

pub committed_gone : (tables : List TableDef) → (s : ℕ) (k : ℕ) (h : List Entry) → has_committed (deeds_of s (take k h)) ≡ true → is_live ((store_after tables h).transaction s) ≡ false
committed_gone tables s zero h e = absurd (let z : false ≡ true = e in cc)
committed_gone tables s (suc k) [] e = absurd (let z : false ≡ true = e in cc)
committed_gone tables s (suc k) (x ∷ xs) e = by (x.session == s) refl (committed_gone tables s k xs) e
  where
    by : (v : Bool) → (x.session == s) ≡ v → (has_committed (deeds_of s (take k xs)) ≡ true → is_live ((store_after tables xs).transaction s) ≡ false)
        → has_committed (of_session v x.deed (deeds_of s (take k xs))) ≡ true → is_live ((done_by (store_after tables xs) x.session x.deed).transaction s) ≡ false
    by true is more f =
        let c = commits_are x.deed (deeds_of s (take k xs)) f in
        commit_own (store_after tables xs) x.session s x.deed (number_is x.session s true is refl) c.1 (asked_latest tables s k xs requests.Commit c.0 c.2)
    by false is more f = done_live (store_after tables xs) x.session s (another_is x.session s false is refl) x.deed ∙ more f

-- a death with no code answers nothing, and takes back a commit alone
begun_falls : (begun : Bool) (outcome : Outcome) (deeds : List Deed) (says : Outcome) → (has_committed deeds ≡ true → ⊥) → where_begun begun outcome deeds ≡ Some says → where_begun begun outcome (Falls None ∷ deeds) ≡ Some says
begun_falls false outcome deeds says kept e = e
begun_falls true outcome deeds says kept e = absurd (by (has_committed deeds) refl e)
  where
    by : (v : Bool) → has_committed deeds ≡ v → (if v then Some outcome else None) ≡ Some says → ⊥
    by true is f = kept is
    by false is f = let z : None ≡ Some says = f in cc

commit_falls : (status : Status) (begun : Bool) (deeds : List Deed) (says : Outcome) → (has_committed deeds ≡ true → ⊥) → reply_to orders.Commit status begun deeds ≡ Some says → reply_to orders.Commit status begun (Falls None ∷ deeds) ≡ Some says
commit_falls Idle begun deeds says kept e = e
commit_falls InBlock begun deeds says kept e = begun_falls begun _ deeds says kept e
commit_falls Failed begun deeds says kept e = e

settle_falls : (status : Status) (begun : Bool) (deeds : List Deed) (says : Outcome) → (has_committed deeds ≡ true → ⊥) → reply_to orders.Settle status begun deeds ≡ Some says → reply_to orders.Settle status begun (Falls None ∷ deeds) ≡ Some says
settle_falls Idle begun deeds says kept e = begun_falls begun _ deeds says kept e
settle_falls InBlock begun deeds says kept e = e
settle_falls Failed begun deeds says kept e = e

reply_falls : (body : OrderBody) (status : Status) (begun : Bool) (deeds : List Deed) (says : Outcome) → (has_committed deeds ≡ true → ⊥) → reply_to body status begun deeds ≡ Some says → reply_to body status begun (Falls None ∷ deeds) ≡ Some says
reply_falls (orders.Statement checked) status begun deeds says kept e = e
reply_falls orders.Begin status begun deeds says kept e = e
reply_falls orders.Commit status begun deeds says kept e = commit_falls status begun deeds says kept e
reply_falls orders.Rollback status begun deeds says kept e = e
reply_falls orders.Settle status begun deeds says kept e = settle_falls status begun deeds says kept e
reply_falls orders.ShowNodes status begun deeds says kept e = e
reply_falls (orders.Recover b) status begun deeds says kept e = e
reply_falls (orders.Refuse code name) status begun deeds says kept e = e
reply_falls orders.Leave status begun deeds says kept e = e

-- so what the single run has answered whoever is live there it has answered still behind a death
pub given_falls : (tables : List TableDef) → (s : ℕ) (told : Told) (h : List Entry) (says : Outcome) → told.entries ≤ length h → is_live ((store_after tables h).transaction s) ≡ true
    → given_by s told h ≡ Some says → given_by s told (entry s (Falls None) ∷ h) ≡ Some says
given_falls tables s told h says most lives e =
    let more : suc (length h) - told.entries ≡ suc (length h - told.entries) = omega (arith, most) in
    let kept : has_committed (deeds_since s told.entries h) ≡ true → ⊥ = (λ is. let z : false ≡ true = sym (committed_gone tables s (length h - told.entries) h is) ∙ lives in cc) in
    ap (λ k. reply_to told.order.body told.status told.begun (deeds_of s (take k (entry s (Falls None) ∷ h)))) more
    ∙ ap (λ v. reply_to told.order.body told.status told.begun (of_session v (Falls None) (deeds_since s told.entries h))) (own_number s)
    ∙ reply_falls told.order.body told.status told.begun (deeds_since s told.entries h) says kept e
  where
    own_number : (n : ℕ) → (n == n) ≡ true
    own_number n = elim (eqb_tells n n) [ inl p ↦ p.0 | inr p ↦ absurd (p.1 refl) ]
