-- What a store may answer another may answer too that differs in transactions of others and requests of others, where these are no more.
use Rattle.std.proofs.Common.{◌≡◌, ◌≢◌, ℕ, Bool, true, false, List, refl, sym, ap, ◌∙◌, subst, inl, inr}
use Rattle.std.specs.Prelude.{◌⊎◌, Option, Some}
use Rattle.pool_base.specs.declared.code.Code.{Code}
use Rattle.catalogue.specs.declared.checked.Checked.{Checked}
use Rattle.backend_trait.specs.declared.request.Request.{Request}
use Rattle.backend_trait.specs.declared.request.Request.TheVariants as requests
use Rattle.backend_trait.specs.declared.answer.Answer.{Answer}
use Rattle.backend_trait.specs.declared.answer.Answer.TheVariants as answers
use Rattle.backend_trait.specs.Keys.{Place}
use Rattle.backend_trait.specs.Rows.{Changes}
use Rattle.backend_trait.specs.Effect.{Wants, nothing, both_wants, these_places, has_lock_of, Conflicts, Given, Fails, Gives, table_in}
use Rattle.backend_trait.specs.Store.{Live, Transaction, Absent, Alive, Dead, Pending, Store, WhereLive, held_by, table_lock}
use Rattle.backend_trait.specs.Acts.{IsFree, IsFresh, IsStale, MayGive, MayRefuse, MayRun, MayLock, IsDone, MayAnswer, Crosses, IsCrossed, given_of, wants_in, wants_of_run, asked_by, has_lock}
use Rattle.one_copy_model.proofs.Locks.{no_right}
use Rattle.play_laws.specs.Joined.{SameLive, SameOwn}

-- what others hold is the same, or nothing
abbrev pub HeldLess : Transaction → Transaction → Type 0
HeldLess x y = (held_by y ≡ held_by x) ⊎ (held_by y ≡ nothing)

true_or : (x : Bool) → (x ≡ true → ⊥) → x ≡ false
true_or true f = absurd (f refl)
true_or false f = refl

fresh_more : (t u : Live) (wants : Wants) → SameLive t u → IsFresh wants t → IsFresh wants u
fresh_more t u wants same fresh p wanted =
    true_or (u.stale p) (λ stale. let z : false ≡ true = sym (fresh p wanted) ∙ same.stale p stale in cc)

module _ (base : Store) (T U : ℕ → Transaction) (P Q : ℕ → Option Pending) (s : ℕ) where
  abbrev from : Store
  from = record base { transaction = T; pending = P }

  abbrev to : Store
  to = record base { transaction = U; pending = Q }

  -- who waits in the one waits in the other with the same transaction, or asks for nothing
  pub record WaitsToo (o : ℕ) (request : Request) : Type 0 where
    pub its : Pending
    pub waits : Q o ≡ Some its
    pub same : its.request ≡ request
    pub transaction : U o ≡ T o

  abbrev pub AreWaiting : Type 0
  AreWaiting = (o : ℕ) (its : Pending) → o ≢ s → P o ≡ Some its → WaitsToo o its.request ⊎ ((w : Wants) → Conflicts (asked_by from o its.request) w → ⊥)

  module _ (own : SameOwn (T s) (U s)) (others : (o : ℕ) → o ≢ s → HeldLess (T o) (U o)) where
    free_less : (wants : Wants) → IsFree from s wants → IsFree to s wants
    free_less wants free o other conflict =
        elim (others o other) [
          | inl same ↦ free o other (subst (Conflicts wants) same conflict)
          | inr none ↦ no_right wants (subst (Conflicts wants) none conflict)
        ]

    given_alike : (checked : Checked) (t u : Live) → SameLive t u → given_of from checked t ≡ given_of to checked u
    given_alike checked t u same =
        ap (λ (x : Live). given_of from checked x) (λ i. record { base = sym same.base i; changes = sym same.changes i; held = u.held; stale = u.stale })

    give_more : (t u : Live) (answer : Answer) (given : Given) → SameLive t u → MayGive from s t answer given → MayGive to s u answer given
    give_more t u answer (Fails code) same h = h
    give_more t u answer (Gives result changes places) same h =
        (h.0, fresh_more t u (these_places places) same h.1, free_less (these_places places) h.2)

    -- a result
    gives_to : (checked : Checked) (answer : Answer) (x y : Transaction) → SameOwn x y → WhereLive x (λ t. MayGive from s t answer (given_of from checked t))
        → WhereLive y (λ t. MayGive to s t answer (given_of to checked t))
    gives_to checked answer Absent y same h = absurd h
    gives_to checked answer Dead y same h = absurd h
    gives_to checked answer (Alive t) y same h =
        let u = same.0 in
        subst (λ (z : Transaction). WhereLive z (λ v. MayGive to s v answer (given_of to checked v))) (sym same.1)
        (subst (λ (g : Given). MayGive to s u answer g) (given_alike checked t u same.2) (give_more t u answer (given_of from checked t) same.2 h))

    lives_to : (A B : Type 0) (x y : Transaction) → SameOwn x y → (A → B) → WhereLive x (λ t. A) → WhereLive y (λ t. B)
    lives_to A B Absent y same f h = absurd h
    lives_to A B Dead y same f h = absurd h
    lives_to A B (Alive t) y same f h = subst (λ (z : Transaction). WhereLive z (λ v. B)) (sym same.1) (f h)

    -- what is stale of a transaction stays so where a statement wants it
    abbrev pub StaysStale : Live → Live → Given → Type 0
    StaysStale t u given = (result : Answer) (changes : Changes) (places : List Place) → given ≡ Gives result changes places → IsStale (these_places places) t → IsStale (these_places places) u

    module _ (crossed more : Type 0) (crossing : crossed → more) where
      refuse_more : (t u : Live) (table : Option ℕ) (code : Code) (given : Given) → SameLive t u → StaysStale t u given → MayRefuse crossed t table code given → MayRefuse more u table code given
      refuse_more t u table code (Fails bytes) same stays h = h
      refuse_more t u table code (Gives result changes places) same stays (inl h) = inl (h.0, stays result changes places refl h.1)
      refuse_more t u table code (Gives result changes places) same stays (inr (inl h)) =
          inr (inl (h.0, crossing h.1, ap (λ (w : Wants). has_lock_of w table) same.held ∙ h.2))
      refuse_more t u table code (Gives result changes places) same stays (inr (inr h)) = inr (inr h)

      refuses_to : (checked : Checked) (code : Code) (x y : Transaction) → SameOwn x y → ((t u : Live) → x ≡ Alive t → y ≡ Alive u → StaysStale t u (given_of from checked t))
          → WhereLive x (λ t. MayRefuse crossed t (table_in checked) code (given_of from checked t)) → WhereLive y (λ t. MayRefuse more t (table_in checked) code (given_of to checked t))
      refuses_to checked code Absent y same stays h = absurd h
      refuses_to checked code Dead y same stays h = absurd h
      refuses_to checked code (Alive t) y same stays h =
          let u = same.0 in
          subst (λ (z : Transaction). WhereLive z (λ v. MayRefuse more v (table_in checked) code (given_of to checked v))) (sym same.1)
          (subst (λ (g : Given). MayRefuse more u (table_in checked) code g) (given_alike checked t u same.2)
          (refuse_more t u (table_in checked) code (given_of from checked t) same.2 (stays t u refl same.1) h))

      run_to : (checked : Checked) (answer : Answer) → ((t u : Live) → T s ≡ Alive t → U s ≡ Alive u → StaysStale t u (given_of from checked t))
          → MayRun from s crossed checked answer → MayRun to s more checked answer
      run_to checked answers.Began stays h = h
      run_to checked (answers.Rows rows) stays h = gives_to checked (answers.Rows rows) (T s) (U s) own h
      run_to checked (answers.Count n) stays h = gives_to checked (answers.Count n) (T s) (U s) own h
      run_to checked answers.Locked stays h = h
      run_to checked answers.Done stays h = h
      run_to checked (answers.Serial n) stays h = h
      run_to checked (answers.Refused code) stays h = refuses_to checked code (T s) (U s) own stays h

      lock_to : (table : ℕ) (answer : Answer) → MayLock from s crossed table answer → MayLock to s more table answer
      lock_to table answers.Began h = h
      lock_to table (answers.Rows rows) h = h
      lock_to table (answers.Count n) h = h
      lock_to table answers.Locked h = lives_to (IsFree from s (table_lock table)) (IsFree to s (table_lock table)) (T s) (U s) own (free_less (table_lock table)) h
      lock_to table answers.Done h = h
      lock_to table (answers.Serial n) h = h
      lock_to table (answers.Refused code) h = (h.0, crossing h.1)

    -- what another asks for it asks for in both, where its transaction is the same
    asks_alike : (o : ℕ) (request : Request) → U o ≡ T o → asked_by to o request ≡ asked_by from o request
    asks_alike o requests.TakeSnapshot same = refl
    asks_alike o (requests.Run checked) same = ap (λ (x : Transaction). wants_of_run from checked x) same
    asks_alike o (requests.Lock table) same = refl
    asks_alike o requests.Commit same = refl
    asks_alike o requests.Rollback same = refl
    asks_alike o (requests.ReadSerial table) same = refl
    asks_alike o (requests.SetSerial table n) same = refl

    lock_alike : (o : ℕ) (request : Request) → U o ≡ T o → has_lock to o request ≡ has_lock from o request
    lock_alike o requests.TakeSnapshot same = refl
    lock_alike o (requests.Run checked) same = ap (λ (x : Transaction). has_lock_of (held_by x) (table_in checked)) same
    lock_alike o (requests.Lock table) same = ap (λ (x : Transaction). (held_by x).tables table) same
    lock_alike o requests.Commit same = refl
    lock_alike o requests.Rollback same = refl
    lock_alike o (requests.ReadSerial table) same = refl
    lock_alike o (requests.SetSerial table n) same = refl

    -- and so does the session itself
    own_held : (x y : Transaction) → SameOwn x y → held_by y ≡ held_by x
    own_held Absent y same = ap held_by same
    own_held Dead y same = ap held_by same
    own_held (Alive t) y same = ap held_by same.1 ∙ same.2.held

    own_wants : (checked : Checked) (x y : Transaction) → SameOwn x y → wants_of_run to checked y ≡ wants_of_run from checked x
    own_wants checked Absent y same = ap (wants_of_run to checked) same
    own_wants checked Dead y same = ap (wants_of_run to checked) same
    own_wants checked (Alive t) y same = ap (wants_of_run to checked) same.1 ∙ ap wants_in (sym (given_alike checked t same.0 same.2))

    own_asks : (request : Request) → asked_by to s request ≡ asked_by from s request
    own_asks requests.TakeSnapshot = refl
    own_asks (requests.Run checked) = own_wants checked (T s) (U s) own
    own_asks (requests.Lock table) = refl
    own_asks requests.Commit = refl
    own_asks requests.Rollback = refl
    own_asks (requests.ReadSerial table) = refl
    own_asks (requests.SetSerial table n) = refl

    crosses_to : AreWaiting → (request : Request) → Crosses from s request → Crosses to s request
    crosses_to all request c =
        elim (all c.other c.its c.another c.waits) [
          | inl too ↦ record {
            kind = c.kind;
            other = c.other;
            another = c.another;
            its = too.its;
            waits = too.waits;
            unlocked = ap (has_lock to c.other) too.same ∙ (lock_alike c.other c.its.request too.transaction ∙ c.unlocked);
            conflict =
                subst (λ (a : Wants). Conflicts a (both_wants (asked_by to s request) (held_by (U s)))) (sym (ap (asked_by to c.other) too.same ∙ asks_alike c.other c.its.request too.transaction))
                (subst (λ (a : Wants). Conflicts (asked_by from c.other c.its.request) (both_wants a (held_by (U s)))) (sym (own_asks request))
                (subst (λ (a : Wants). Conflicts (asked_by from c.other c.its.request) (both_wants (asked_by from s request) a)) (sym (own_held (T s) (U s) own)) c.conflict));
          }
          | inr none ↦ absurd (none (both_wants (asked_by from s request) (held_by (T s))) c.conflict)
        ]

    crossed_to : AreWaiting → (request : Request) (mark : Bool) → IsCrossed from s (record { request = request; crossed = false }) → IsCrossed to s (record { request = request; crossed = mark })
    crossed_to all request mark (inl h) = absurd (let n : false ≡ true = h in cc)
    crossed_to all request mark (inr h) = inr (crosses_to all request h)

    abbrev pub StaysStaleAt : Request → Type 0
    StaysStaleAt (requests.Run checked) = (t u : Live) → T s ≡ Alive t → U s ≡ Alive u → StaysStale t u (given_of from checked t)
    StaysStaleAt request = Unit {0}

    pub answer_to : AreWaiting → (request : Request) (mark : Bool) (answer : Answer) → StaysStaleAt request → MayAnswer from s (record { request = request; crossed = false }) answer
        → MayAnswer to s (record { request = request; crossed = mark }) answer
    answer_to all requests.TakeSnapshot mark answer stays h = h
    answer_to all (requests.Run checked) mark answer stays h =
        let request = requests.Run checked in
        run_to (IsCrossed from s (record { request = request; crossed = false })) (IsCrossed to s (record { request = request; crossed = mark })) (crossed_to all request mark) checked answer stays h
    answer_to all (requests.Lock table) mark answer stays h =
        let request = requests.Lock table in
        lock_to (IsCrossed from s (record { request = request; crossed = false })) (IsCrossed to s (record { request = request; crossed = mark })) (crossed_to all request mark) table answer h
    answer_to all requests.Commit mark answer stays h = lives_to (IsDone answer) (IsDone answer) (T s) (U s) own (λ d. d) h
    answer_to all requests.Rollback mark answer stays h = h
    answer_to all (requests.ReadSerial table) mark answer stays h = h
    answer_to all (requests.SetSerial table n) mark answer stays h = h
