-- The program finds exactly the requests that are crossed.
use Rattle.std.proofs.Common.{◌≡◌, ◌≢◌, ℕ, zero, suc, ◌<◌, ◌≤◌, Bool, true, false, ◌||◌, ◌==◌, List, length, refl, sym, ap, ◌∙◌, subst, arith, inl, inr, eqb-true, eq-eqb}
use Rattle.std.specs.Prelude.{◌⊎◌, ◌&&◌, not, Option, Some, None, slice_get}
use Rattle.std.proofs.lemmas.Bool.Decides.{leb_tells}
use Rattle.std.proofs.lemmas.Option.{slice_get_past}
use Rattle.catalogue.specs.declared.checked.Checked.{Checked}
use Rattle.backend_trait.specs.declared.request.Request.{Request}
use Rattle.backend_trait.specs.declared.request.Request.TheVariants as requests
use Rattle.backend_trait.specs.Effect.{Wants, nothing, both_wants, Given, Fails, Gives, table_in, has_lock_of, Conflicts}
use Rattle.backend_trait.specs.Store.{Transaction, Absent, Alive, Dead, Pending, Store, held_by}
use Rattle.backend_trait.specs.Acts.{given_of, wants_in, wants_of_run, asked_by, may_be_crossed, Crosses, WhereSome}
use Rattle.backend_trait.specs.Acts as acts
use Rattle.plain_store.specs.declared.data.Work.{Work}
use Rattle.plain_store.specs.declared.data.Phase.{Phase}
use Rattle.plain_store.specs.declared.data.Phase.TheVariants as phases
use Rattle.plain_store.specs.declared.data.Database.{Database}
use Rattle.plain_store.specs.Phases.{Claim, wants_one, transaction_of, transaction_in, request_at, mark_in, pending_of}
use Rattle.plain_store.specs.Meaning.{store_of}
use Rattle.plain_store.specs.Giving.{given_run, given_by, given_to}
use Rattle.backend_trait.specs.Acting.{IsCrossedNow}
use Rattle.plain_store.specs.States.{States, states_in, phase_in, phase_at}
use Rattle.plain_store.specs.Deciding.{wants_given, wants_by, locks_table, has_lock, is_locked, clash_wanted, meets, crossed_by, crosses_at, some_below, crosses, crosses_if, crosses_waiting}
use Rattle.backend_trait.proofs.Telling.{Tells, or_true, or_left, or_right, both_told, either_told, not_told, told_as, itself, never, is_false}
use Rattle.plain_store.proofs.HeldLaws.{no_conflict, nothing_conflicts, split, clash_to, clash_from, phase_told}
use Rattle.backend_trait.proofs.Among.{to_left, to_right}
use Rattle.plain_store.proofs.SessionLaws.{phase_same}

-- what is wanted, if anything
abbrev pub wants_maybe : Option Claim → Wants
wants_maybe None = nothing
wants_maybe (Some c) = wants_one c

given_wants : (given : Given) → wants_in given ≡ wants_maybe (wants_given (Some given))
given_wants (Fails code) = refl
given_wants (Gives answer changes places) = refl

run_wants : (st : Store) (checked : Checked) (x : Transaction) → wants_of_run st checked x ≡ wants_maybe (wants_given (given_run st checked x))
run_wants st checked Absent = refl
run_wants st checked (Alive t) = given_wants (given_of st checked t)
run_wants st checked Dead = refl

request_wants : (st : Store) (s : ℕ) (request : Request) → asked_by st s request ≡ wants_maybe (wants_by (given_by st (st.transaction s) (Some request)) request)
request_wants st s requests.TakeSnapshot = refl
request_wants st s (requests.Run checked) = run_wants st checked (st.transaction s)
request_wants st s (requests.Lock table) = refl
request_wants st s requests.Commit = refl
request_wants st s requests.Rollback = refl
request_wants st s (requests.ReadSerial table) = refl
request_wants st s (requests.SetSerial table n) = refl

-- the lock of the request's table
pub locks_are : (x : Option Phase) (table : ℕ) → (held_by (transaction_in x)).tables table ≡ locks_table (phase_in x) table
locks_are None table = refl
locks_are (Some phases.Absent) table = refl
locks_are (Some (phases.Alive work)) table = refl
locks_are (Some phases.Dead) table = refl

pub lock_same : (x : Option Phase) (table : Option ℕ) → has_lock_of (held_by (transaction_in x)) table ≡ has_lock (phase_in x) table
lock_same x None = refl
lock_same x (Some table) = locks_are x table

-- what is wanted against what another wants and holds
wanted_told : (c : Claim) (other : Option Claim) → Tells (clash_wanted c other) (Conflicts (wants_one c) (wants_maybe other))
wanted_told c None = never _ (no_conflict (wants_one c))
wanted_told c (Some other) = (clash_to c other, clash_from c other)

meets_told : (o wants : Option Claim) (phase : Phase) → Tells (meets o wants phase) (Conflicts (wants_maybe o) (both_wants (wants_maybe wants) (held_by (transaction_of phase))))
meets_told None wants phase = never _ (nothing_conflicts _)
meets_told (Some c) wants phase =
    told_as _ _ _ (either_told _ _ _ _ (wanted_told c wants) (phase_told c phase))
    (λ h. elim h [
      | inl k ↦ to_left (wants_one c) (wants_maybe wants) (held_by (transaction_of phase)) k
      | inr k ↦ to_right (wants_one c) (wants_maybe wants) (held_by (transaction_of phase)) k
    ])
    (split (wants_one c) (wants_maybe wants) (held_by (transaction_of phase)))

-- somebody of the sessions below a number
pub below_told : (p : ℕ → Bool) (P : ℕ → Type 0) → ((o : ℕ) → Tells (p o) (P o)) → (n : ℕ) → Tells (some_below p n) ((o : ℕ) × (o < n) × P o)
below_told p P told zero = never _ (λ (o, below, h). omega (arith, below))
below_told p P told (suc n) = (
  λ e. elim (or_true (p n) (some_below p n) e) [
    | inl h ↦ (n, (let z : n < suc n = omega arith in z), (told n).0 h)
    | inr h ↦ let (o, below, found) = (below_told p P told n).0 h in (o, (let z : o < suc n = omega (arith, below) in z), found)
  ],
  λ (o, below, found). elim (leb_tells n o) [
    | inl q ↦ or_left (p n) (some_below p n) ((told n).1 (subst P (let z : o ≡ n = omega (arith, below, q.1) in z) found))
    | inr q ↦ or_right (p n) (some_below p n) ((below_told p P told n).1 (o, (let z : o < n = omega (arith, q.1) in z), found))
  ],
)

pub some_there : (P : Pending → Type 0) (x : Option Pending) → WhereSome x P → (p : Pending) × (x ≡ Some p) × P p
some_there P None h = absurd h
some_there P (Some p) h = (p, refl, h)

pub other_told : (o s : ℕ) → Tells (not (o == s)) (o ≢ s)
other_told o s = not_told (o == s) (o ≡ s) (eqb-true o s, eq-eqb o s)

module _ (d : Database) where
  abbrev here : Store
  here = store_of d

  abbrev states : States
  states = states_in d

  -- the request that waits, if it is that
  abbrev Waits : ℕ → Option Request → Type 0
  Waits s waits = request_at (slice_get d.requests.items s) ≡ waits

  asked_here : (s : ℕ) (request : Request) → Waits s (Some request) → asked_by here s request ≡ wants_maybe (wants_by (states.given s) request)
  asked_here s request waits =
      request_wants here s request
      ∙ ap (λ (x : Option Request). wants_maybe (wants_by (given_by here (here.transaction s) x) request)) (sym waits)

  lock_is : (s : ℕ) (request : Request) → acts.has_lock here s request ≡ is_locked (phase_at states s) request
  lock_is s requests.TakeSnapshot = refl
  lock_is s (requests.Run checked) = lock_same (slice_get d.phases.items s) (table_in checked)
  lock_is s (requests.Lock table) = locks_are (slice_get d.phases.items s) table
  lock_is s requests.Commit = refl
  lock_is s requests.Rollback = refl
  lock_is s (requests.ReadSerial table) = refl
  lock_is s (requests.SetSerial table n) = refl

  -- a session's request crosses one of another session
  abbrev CrossesAs : ℕ → Request → ℕ → Pending → Type 0
  CrossesAs s request o p = (acts.has_lock here o p.request ≡ false) × Conflicts (asked_by here o p.request) (both_wants (asked_by here s request) (held_by (here.transaction s)))

  as_told : (s : ℕ) (request : Request) (o : ℕ) (its : Request) (mark : Bool) → Waits s (Some request) → Waits o (Some its)
      → Tells (crossed_by states s request o (Some its)) (CrossesAs s request o (record { request = its; crossed = mark }))
  as_told s request o its mark waits its_waits =
      both_told _ _ _ _
      (told_as _ _ _ (is_false (is_locked (phase_at states o) its))
      (λ e. lock_is o its ∙ e)
      (λ e. sym (lock_is o its) ∙ e))
      (told_as _ _ _ (meets_told (wants_by (states.given o) its) (wants_by (states.given s) request) (phase_at states s))
      (λ c. subst (λ (T : Type 0). T) (sym same) c)
      (λ c. subst (λ (T : Type 0). T) same c))
    where
      same : Conflicts (asked_by here o its) (both_wants (asked_by here s request) (held_by (here.transaction s)))
          ≡ Conflicts (wants_maybe (wants_by (states.given o) its)) (both_wants (wants_maybe (wants_by (states.given s) request)) (held_by (transaction_of (phase_at states s))))
      same =
          ap (λ (w : Wants). Conflicts w (both_wants (asked_by here s request) (held_by (here.transaction s)))) (asked_here o its its_waits)
          ∙ ap (λ (w : Wants). Conflicts (wants_maybe (wants_by (states.given o) its)) (both_wants w (held_by (here.transaction s)))) (asked_here s request waits)
          ∙ ap (λ (x : Transaction). Conflicts (wants_maybe (wants_by (states.given o) its)) (both_wants (wants_maybe (wants_by (states.given s) request)) (held_by x))) (phase_same (slice_get d.phases.items s))

  by_told : (s : ℕ) (request : Request) (o : ℕ) (asks : Option Request) (mark : Bool) → Waits s (Some request) → Waits o asks
      → Tells (crossed_by states s request o asks) (WhereSome (pending_of asks mark) (CrossesAs s request o))
  by_told s request o None mark waits its_waits = never _ (λ h. h)
  by_told s request o (Some its) mark waits its_waits = as_told s request o its mark waits its_waits

  abbrev CrossesFrom : ℕ → Request → ℕ → Type 0
  CrossesFrom s request o = (o ≢ s) × WhereSome (here.pending o) (CrossesAs s request o)

  from_told : (s : ℕ) (request : Request) (o : ℕ) → Waits s (Some request) → Tells (crosses_at states s request o) (CrossesFrom s request o)
  from_told s request o waits =
      both_told _ _ _ _ (other_told o s) (by_told s request o (request_at (slice_get d.requests.items o)) (mark_in (slice_get d.crossed.items o)) waits refl)

  to_crosses : (s : ℕ) (request : Request) (o : ℕ) → may_be_crossed request ≡ true → CrossesFrom s request o → Crosses here s request
  to_crosses s request o kind h =
      let (its, is, so) = some_there (CrossesAs s request o) (here.pending o) h.1 in
      record { kind = kind; other = o; another = h.0; its = its; waits = is; unlocked = so.0; conflict = so.1 }

  from_crosses : (s : ℕ) (request : Request) (c : Crosses here s request) → CrossesFrom s request c.other
  from_crosses s request c = (c.another, subst (λ (x : Option Pending). WhereSome x (CrossesAs s request c.other)) (sym c.waits) (c.unlocked, c.conflict))

  -- only sessions below the length have a request that waits
  pub is_below : (o : ℕ) (P : Pending → Type 0) → WhereSome (here.pending o) P → o < 65
  is_below o P h = elim (leb_tells 65 o) [
    | inl q ↦ absurd (subst (λ (x : Option (Option Request)). WhereSome (pending_of (request_at x) (mark_in (slice_get d.crossed.items o))) P)
        (slice_get_past d.requests.items o (let z : length d.requests.items ≤ o = omega (arith, d.requested, q.1) in z)) h)
    | inr q ↦ (let z : o < 65 = omega (arith, q.1) in z)
  ]

  pub crosses_told : (s : ℕ) (request : Request) → Waits s (Some request) → Tells (crosses states s request) (Crosses here s request)
  unfolding crosses
  crosses_told s request waits =
      told_as _ _ _
      (both_told _ _ _ _ (itself (may_be_crossed request)) (below_told (crosses_at states s request) (CrossesFrom s request) (λ o. from_told s request o waits) 65))
      (λ (kind, found). let (o, below, h) = found in to_crosses s request o kind h)
      (λ c. (c.kind, (c.other, is_below c.other (CrossesAs s request c.other) (from_crosses s request c).1, from_crosses s request c)))

  waiting_told : (s : ℕ) (waits : Option Request) (mark : Bool) → Waits s waits → Tells (crosses_if states s waits) (WhereSome (pending_of waits mark) (λ p. Crosses here s p.request))
  waiting_told s None mark is = never _ (λ h. h)
  waiting_told s (Some request) mark is = crosses_told s request is

  pub now_told : (s : ℕ) → Tells (crosses_waiting states s) (IsCrossedNow here s)
  now_told s = waiting_told s (request_at (slice_get d.requests.items s)) (mark_in (slice_get d.crossed.items s)) refl

-- with the sessions as the program has them
pub crossed_as : (d : Database) (s : ℕ) (all : States) (b : Bool) → all ≡ states_in d → b ≡ crosses_waiting all s → Tells b (IsCrossedNow (store_of d) s)
crossed_as d s all b same is =
    subst (λ (t : Bool). Tells t (IsCrossedNow (store_of d) s)) (sym (is ∙ ap (λ (a : States). crosses_waiting a s) same)) (now_told d s)
