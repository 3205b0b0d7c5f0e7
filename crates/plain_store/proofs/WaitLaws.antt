-- Which requests wait, for whom, and the walk along waits from one session on.
use Rattle.std.proofs.Common.{◌≡◌, ◌≢◌, ◌⊎◌, ℕ, ℤ, zero, suc, ◌+◌, ◌<◌, ◌≤◌, Bool, true, false, not, ◌||◌, ◌==◌, List, [], ◌∷◌, ◌++◌, length, get_or, set, replicate, refl, sym, ap, ◌∙◌, subst, arith, inl, inr}
use Rattle.std.specs.Prelude.{◌&&◌, Option, Some, None, slice_get, cond, if◌then◌else◌, ◌↔◌}
use Rattle.std.specs.List.{count_by}
use Rattle.std.proofs.lemmas.Bool.Decides.{eqb_tells, leb_tells}
use Rattle.std.proofs.lemmas.Option.{slice_get_past}
use Rattle.std.proofs.lemmas.List.{get_or-set_same, get_or-set_other}
use Rattle.std.proofs.lemmas.List.Sums.{sum_by-set}
use Rattle.catalogue.specs.declared.checked.Checked.{Checked}
use Rattle.backend_trait.specs.declared.request.Request.{Request}
use Rattle.backend_trait.specs.declared.request.Request.TheVariants as requests
use Rattle.backend_trait.specs.Keys.{Place}
use Rattle.backend_trait.specs.Effect.{Wants, these_places, Conflicts, Given, Fails, Gives}
use Rattle.backend_trait.specs.Store.{Live, Transaction, Absent, Alive, Dead, Pending, Store, WhereLive, held_by, table_lock}
use Rattle.backend_trait.specs.Acts.{IsFresh, IsTaken, MustWaitRun, MustWait, WhereSome, WaitsInRun, WaitsIn, WaitsFor, IsPath, IsInCycle, given_of}
use Rattle.plain_store.specs.declared.data.Work.{Work}
use Rattle.plain_store.specs.declared.data.Phase.{Phase}
use Rattle.plain_store.specs.declared.data.Phase.TheVariants as phases
use Rattle.plain_store.specs.declared.data.Database.{Database}
use Rattle.plain_store.specs.Phases.{Claim, Places, Lock, wants_one, live_of, transaction_of, transaction_in, request_at, mark_in, pending_of}
use Rattle.plain_store.specs.Meaning.{store_of}
use Rattle.plain_store.specs.Giving.{given_run, given_by}
use Rattle.backend_trait.specs.Acting.{IsHeldUp}
use Rattle.plain_store.specs.States.{States, states_in, phase_in, phase_at}
use Rattle.plain_store.specs.Deciding.{are_stale, holds_phase, taken_from, wish_fresh, wish_run, wish_lock, wish_of, wish_at, taken_wish, holds_wish, waits_for, IsWay, LeadsBack}
use Rattle.backend_trait.proofs.Telling.{Tells, both_told, told_as, never}
use Rattle.plain_store.proofs.HeldLaws.{phase_told, taken_told}
use Rattle.plain_store.proofs.SessionLaws.{phase_same}
use Rattle.plain_store.proofs.CrossLaws.{other_told}
use Rattle.plain_store.proofs.AnswerLaws.{fresh_told}

-- What a request is kept from, where F says of wants that they are held.

module _ (F : Wants → Type 0) where
  abbrev KeptFrom : Live → Given → Type 0
  KeptFrom t (Fails code) = ⊥
  KeptFrom t (Gives result changes places) = IsFresh (these_places places) t × F (these_places places)

  abbrev Wishes : Option Claim → Type 0
  Wishes wish = WhereSome wish (λ c. F (wants_one c))

  fresh_wish : (work : Work) (places : List Place) (stale : Bool) → are_stale work places ≡ stale
      → Wishes (if stale then None else Some (Places places)) ↔ (IsFresh (these_places places) (live_of work) × F (these_places places))
  fresh_wish work places true is = (
    λ h. absurd h,
    λ h. let f : false ≡ true = sym (ap not is) ∙ (fresh_told work places).1 h.0 in absurd (cc),
  )
  fresh_wish work places false is = (λ h. ((fresh_told work places).0 (ap not is), h), λ h. h.1)

  given_wish : (work : Work) (given : Given) → Wishes (wish_fresh work (Some given)) ↔ KeptFrom (live_of work) given
  given_wish work (Fails code) = (λ h. h, λ h. h)
  given_wish work (Gives result changes places) = fresh_wish work places (are_stale work places) refl

  run_wish : (st : Store) (checked : Checked) (x : Option Phase)
      → Wishes (wish_run (phase_in x) (given_run st checked (transaction_in x))) ↔ WhereLive (transaction_in x) (λ t. KeptFrom t (given_of st checked t))
  run_wish st checked None = (λ h. h, λ h. h)
  run_wish st checked (Some phases.Absent) = (λ h. h, λ h. h)
  run_wish st checked (Some (phases.Alive work)) = given_wish work (given_of st checked (live_of work))
  run_wish st checked (Some phases.Dead) = (λ h. h, λ h. h)

  lock_wish : (table : ℕ) (x : Option Phase) → Wishes (wish_lock table (phase_in x)) ↔ WhereLive (transaction_in x) (λ t. F (table_lock table))
  lock_wish table None = (λ h. h, λ h. h)
  lock_wish table (Some phases.Absent) = (λ h. h, λ h. h)
  lock_wish table (Some (phases.Alive work)) = (λ h. h, λ h. h)
  lock_wish table (Some phases.Dead) = (λ h. h, λ h. h)

  -- a request that is kept from something
  abbrev Keeps : Store → Transaction → Request → Type 0
  Keeps st x requests.TakeSnapshot = ⊥
  Keeps st x (requests.Run checked) = WhereLive x (λ t. KeptFrom t (given_of st checked t))
  Keeps st x (requests.Lock table) = WhereLive x (λ t. F (table_lock table))
  Keeps st x requests.Commit = ⊥
  Keeps st x requests.Rollback = ⊥
  Keeps st x (requests.ReadSerial table) = ⊥
  Keeps st x (requests.SetSerial table n) = ⊥

  request_wish : (st : Store) (x : Option Phase) (request : Request) → Wishes (wish_of (phase_in x) (given_by st (transaction_in x) (Some request)) (Some request)) ↔ Keeps st (transaction_in x) request
  request_wish st x requests.TakeSnapshot = (λ h. h, λ h. h)
  request_wish st x (requests.Run checked) = run_wish st checked x
  request_wish st x (requests.Lock table) = lock_wish table x
  request_wish st x requests.Commit = (λ h. h, λ h. h)
  request_wish st x requests.Rollback = (λ h. h, λ h. h)
  request_wish st x (requests.ReadSerial table) = (λ h. h, λ h. h)
  request_wish st x (requests.SetSerial table n) = (λ h. h, λ h. h)

where_same : (x : Transaction) (P Q : Live → Type 0) → ((t : Live) → P t ↔ Q t) → WhereLive x P ↔ WhereLive x Q
where_same Absent P Q h = (λ p. p, λ q. q)
where_same (Alive t) P Q h = h t
where_same Dead P Q h = (λ p. p, λ q. q)

-- it waits for what another holds
held_given : (held : Wants) (t : Live) (given : Given) → KeptFrom (λ w. Conflicts w held) t given ↔ WaitsInRun held t given
held_given held t (Fails code) = (λ h. h, λ h. h)
held_given held t (Gives result changes places) = (λ h. h, λ h. h)

held_wish : (st : Store) (s : ℕ) (held : Wants) (request : Request) → Keeps (λ w. Conflicts w held) st (st.transaction s) request ↔ WaitsIn st s held request
held_wish st s held requests.TakeSnapshot = (λ h. h, λ h. h)
held_wish st s held (requests.Run checked) =
    where_same (st.transaction s) (λ t. KeptFrom (λ w. Conflicts w held) t (given_of st checked t)) (λ t. WaitsInRun held t (given_of st checked t))
    (λ t. held_given held t (given_of st checked t))
held_wish st s held (requests.Lock table) = (λ h. h, λ h. h)
held_wish st s held requests.Commit = (λ h. h, λ h. h)
held_wish st s held requests.Rollback = (λ h. h, λ h. h)
held_wish st s held (requests.ReadSerial table) = (λ h. h, λ h. h)
held_wish st s held (requests.SetSerial table n) = (λ h. h, λ h. h)

-- it has to wait, where some other holds it
taken_given : (st : Store) (s : ℕ) (t : Live) (given : Given) → KeptFrom (IsTaken st s) t given ↔ MustWaitRun st s t given
taken_given st s t (Fails code) = (λ h. h, λ h. h)
taken_given st s t (Gives result changes places) = (λ h. h, λ h. h)

must_wish : (st : Store) (s : ℕ) (request : Request) → Keeps (IsTaken st s) st (st.transaction s) request ↔ MustWait st s request
must_wish st s requests.TakeSnapshot = (λ h. h, λ h. h)
must_wish st s (requests.Run checked) =
    where_same (st.transaction s) (λ t. KeptFrom (IsTaken st s) t (given_of st checked t)) (λ t. MustWaitRun st s t (given_of st checked t))
    (λ t. taken_given st s t (given_of st checked t))
must_wish st s (requests.Lock table) = (λ h. h, λ h. h)
must_wish st s requests.Commit = (λ h. h, λ h. h)
must_wish st s requests.Rollback = (λ h. h, λ h. h)
must_wish st s (requests.ReadSerial table) = (λ h. h, λ h. h)
must_wish st s (requests.SetSerial table n) = (λ h. h, λ h. h)

module _ (d : Database) where
  abbrev here : Store
  here = store_of d

  abbrev states : States
  states = states_in d

  abbrev Waits : ℕ → Option Request → Type 0
  Waits s waits = request_at (slice_get d.requests.items s) ≡ waits

  -- what the request of a session is kept from
  wish_same : (s : ℕ) (request : Request) → Waits s (Some request)
      → wish_of (phase_at states s) (given_by here (here.transaction s) (Some request)) (Some request) ≡ wish_of (phase_at states s) (states.given s) (Some request)
  wish_same s request waits = ap (λ (x : Option Request). wish_of (phase_at states s) (given_by here (here.transaction s) x) (Some request)) (sym waits)

  -- has to wait
  taken_wish_told : (s : ℕ) (wish : Option Claim) → Tells (taken_wish states s wish) (WhereSome wish (λ c. IsTaken here s (wants_one c)))
  taken_wish_told s None = never _ (λ h. h)
  taken_wish_told s (Some c) = taken_told s c d.phases.items

  request_taken : (s : ℕ) (request : Request) → Waits s (Some request) → Tells (taken_wish states s (wish_of (phase_at states s) (states.given s) (Some request))) (MustWait here s request)
  request_taken s request waits =
      let at = request_wish (IsTaken here s) here (slice_get d.phases.items s) request in
      let must = must_wish here s request in
      subst (λ (w : Option Claim). Tells (taken_wish states s w) (MustWait here s request)) (wish_same s request waits)
      (told_as _ _ _ (taken_wish_told s (wish_of (phase_at states s) (given_by here (here.transaction s) (Some request)) (Some request)))
      (λ h. must.0 (at.0 h))
      (λ h. at.1 (must.1 h)))

  waiting_taken : (s : ℕ) (waits : Option Request) (mark : Bool) → Waits s waits → Tells (taken_wish states s (wish_of (phase_at states s) (states.given s) waits)) (WhereSome (pending_of waits mark) (λ p. MustWait here s p.request))
  waiting_taken s None mark is = never _ (λ h. h)
  waiting_taken s (Some request) mark is = request_taken s request is

  pub held_up_told : (s : ℕ) → Tells (taken_wish states s (wish_at states s)) (IsHeldUp here s)
  held_up_told s = waiting_taken s (request_at (slice_get d.requests.items s)) (mark_in (slice_get d.crossed.items s)) refl

  -- waits for another session
  holds_wish_told : (wish : Option Claim) (phase : Phase) → Tells (holds_wish wish phase) (WhereSome wish (λ c. Conflicts (wants_one c) (held_by (transaction_of phase))))
  holds_wish_told None phase = never _ (λ h. h)
  holds_wish_told (Some c) phase = phase_told c phase

  request_held : (s o : ℕ) (request : Request) → Waits s (Some request)
      → Tells (holds_wish (wish_of (phase_at states s) (states.given s) (Some request)) (phase_at states o)) (WaitsIn here s (held_by (here.transaction o)) request)
  request_held s o request waits =
      let held = held_by (transaction_of (phase_at states o)) in
      let at = request_wish (λ w. Conflicts w held) here (slice_get d.phases.items s) request in
      let in_held = held_wish here s held request in
      subst (λ (x : Transaction). Tells (holds_wish (wish_of (phase_at states s) (states.given s) (Some request)) (phase_at states o)) (WaitsIn here s (held_by x) request)) (sym (phase_same (slice_get d.phases.items o)))
      (subst (λ (w : Option Claim). Tells (holds_wish w (phase_at states o)) (WaitsIn here s held request)) (wish_same s request waits)
      (told_as _ _ _ (holds_wish_told (wish_of (phase_at states s) (given_by here (here.transaction s) (Some request)) (Some request)) (phase_at states o))
      (λ h. in_held.0 (at.0 h))
      (λ h. at.1 (in_held.1 h))))

  waiting_held : (s o : ℕ) (waits : Option Request) (mark : Bool) → Waits s waits
      → Tells (holds_wish (wish_of (phase_at states s) (states.given s) waits) (phase_at states o)) (WhereSome (pending_of waits mark) (λ p. WaitsIn here s (held_by (here.transaction o)) p.request))
  waiting_held s o None mark is = never _ (λ h. h)
  waiting_held s o (Some request) mark is = request_held s o request is

  pub waits_told : (s o : ℕ) → Tells (waits_for states s o) (WaitsFor here s o)
  waits_told s o =
      both_told _ _ _ _ (other_told o s) (waiting_held s o (request_at (slice_get d.requests.items s)) (mark_in (slice_get d.crossed.items s)) refl)

  -- a way of waits is a path of waits
  to_path : (first : ℕ) (between : List ℕ) (last : ℕ) → IsWay (waits_for states) first between last → IsPath here first between last
  to_path first [] last way = (waits_told first last).0 way
  to_path first (o ∷ between) last way = ((waits_told first o).0 way.0, to_path o between last way.1)

  from_path : (first : ℕ) (between : List ℕ) (last : ℕ) → IsPath here first between last → IsWay (waits_for states) first between last
  from_path first [] last path = (waits_told first last).1 path
  from_path first (o ∷ between) last path = ((waits_told first o).1 path.0, from_path o between last path.1)

  pub cycle_as : (s : ℕ) → LeadsBack (waits_for states) s ↔ IsInCycle here s
  cycle_as s = (λ (between, way). (between, to_path s between s way), λ (between, path). (between, from_path s between s path))

-- nobody past the sessions holds anything
none_held : (b : Bool) (wish : Option Claim) → (b && holds_wish wish phases.Absent) ≡ true → ⊥
none_held true None e = let f : false ≡ true = e in cc
none_held true (Some c) e = let f : false ≡ true = e in cc
none_held false wish e = let f : false ≡ true = e in cc

pub waits_within : (all : States) (s o : ℕ) → length all.phases ≡ 65 → waits_for all s o ≡ true → o < 65
waits_within all s o len e = elim (leb_tells 65 o) [
  | inl q ↦
      let past : slice_get all.phases o ≡ None = slice_get_past all.phases o (let z : length all.phases ≤ o = omega (arith, len, q.1) in z) in
      absurd (none_held (not (o == s)) (wish_at all s) (subst (λ (x : Option Phase). (not (o == s) && holds_wish (wish_at all s) (phase_in x)) ≡ true) past e))
  | inr q ↦ (let z : o < 65 = omega (arith, q.1) in z)
]

-- The walk.

-- a relation leads from one to another
abbrev pub LeadsTo : (ℕ → ℕ → Bool) → ℕ → ℕ → Type 0
LeadsTo r first last = (between : List ℕ) × IsWay r first between last

-- a session that is marked
abbrev pub IsOn : List Bool → ℕ → Type 0
IsOn marks o = get_or marks o false ≡ true

on_set : (marks : List Bool) (n o : ℕ) → n < length marks → IsOn (set marks n true) o → (o ≡ n) ⊎ IsOn marks o
on_set marks n o below e = elim (eqb_tells o n) [
  | inl p ↦ inl p.1
  | inr p ↦ inr (sym (get_or-set_other marks n o true false p.1) ∙ e)
]

pub on_length : (marks : List Bool) (n : ℕ) → length (set marks n true) ≡ length marks
on_length [] n = refl
on_length (x ∷ xs) zero = refl
on_length (x ∷ xs) (suc n) = ap suc (on_length xs n)

on_kept : (marks : List Bool) (n o : ℕ) → n < length marks → IsOn marks o → IsOn (set marks n true) o
on_kept marks n o below e = elim (eqb_tells o n) [
  | inl p ↦ subst (λ (k : ℕ). IsOn (set marks n true) k) (sym p.1) (get_or-set_same marks n true false below)
  | inr p ↦ get_or-set_other marks n o true false p.1 ∙ e
]

-- of the sessions below a number those for which a session waits are marked
pub record AreMarked (r : ℕ → ℕ → Bool) (s : ℕ) (old now : List Bool) (n : ℕ) : Type 0 where
  pub kept : (o : ℕ) → IsOn old o → IsOn now o
  pub next : (o : ℕ) → o < n → r s o ≡ true → IsOn now o
  pub only : (o : ℕ) → IsOn now o → IsOn old o ⊎ (r s o ≡ true)

pub none_marked : (r : ℕ → ℕ → Bool) (s : ℕ) (old : List Bool) → AreMarked r s old old 0
none_marked r s old = record { kept = λ o e. e; next = λ o below. absurd (omega (arith, below)); only = λ o e. inl e }

pub one_marked : (r : ℕ → ℕ → Bool) (s : ℕ) (old now : List Bool) (n : ℕ) → n < length now → r s n ≡ true → AreMarked r s old now n → AreMarked r s old (set now n true) (n + 1)
one_marked r s old now n below waits m = record {
  kept = λ o e. on_kept now n o below (m.kept o e);
  next = λ o less w. elim (eqb_tells o n) [
    | inl p ↦ subst (λ (k : ℕ). IsOn (set now n true) k) (sym p.1) (get_or-set_same now n true false below)
    | inr p ↦ on_kept now n o below (m.next o (omega (arith, less, p.1)) w)
  ];
  only = λ o e. elim (on_set now n o below e) [
    | inl is ↦ inr (subst (λ (k : ℕ). r s k ≡ true) (sym is) waits)
    | inr on ↦ m.only o on
  ];
}

pub one_skipped : (r : ℕ → ℕ → Bool) (s : ℕ) (old now : List Bool) (n : ℕ) → ¬ (r s n ≡ true) → AreMarked r s old now n → AreMarked r s old now (n + 1)
one_skipped r s old now n free m = record {
  kept = m.kept;
  next = λ o less w. elim (eqb_tells o n) [
    | inl p ↦ absurd (free (subst (λ (k : ℕ). r s k ≡ true) p.1 w))
    | inr p ↦ m.next o (omega (arith, less, p.1)) w
  ];
  only = m.only;
}

path_more : (r : ℕ → ℕ → Bool) (first : ℕ) (between : List ℕ) (mid last : ℕ) → IsWay r first between mid → r mid last ≡ true → IsWay r first (between ++ mid ∷ []) last
path_more r first [] mid last path w = (path, w)
path_more r first (o ∷ between) mid last path w = (path.0, path_more r o between mid last path.1 w)

-- all on the way to the marked sessions is found, from those on that were followed
pub record IsWalked (r : ℕ → ℕ → Bool) (at : ℕ) (found followed : List Bool) : Type 0 where
  pub sound : (o : ℕ) → IsOn found o → LeadsTo r at o
  pub start : (o : ℕ) → r at o ≡ true → IsOn found o
  pub closed : (m o : ℕ) → IsOn followed m → r m o ≡ true → IsOn found o
  pub all : length followed ≡ 65

pub walk_begun : (r : ℕ → ℕ → Bool) (at : ℕ) (none found followed : List Bool) → ((o : ℕ) → get_or none o false ≡ false) → ((o : ℕ) → get_or followed o false ≡ false) → length followed ≡ 65 → ((o : ℕ) → r at o ≡ true → IsOn found o) → ((o : ℕ) → IsOn found o → IsOn none o ⊎ (r at o ≡ true))
    → IsWalked r at found followed
walk_begun r at none found followed off not_followed all next only = record {
  sound = λ o e. elim (only o e) [ inl h ↦ absurd (let f : false ≡ true = sym (off o) ∙ h in cc) | inr w ↦ ([], w) ];
  start = next;
  closed = λ m o e w. absurd (let f : false ≡ true = sym (not_followed m) ∙ e in cc);
  all = all;
}

pub walk_on : (r : ℕ → ℕ → Bool) (at : ℕ) (found later followed : List Bool) (m : ℕ) → m < length followed → IsOn found m → ((o : ℕ) → IsOn found o → IsOn later o) → ((o : ℕ) → r m o ≡ true → IsOn later o)
    → ((o : ℕ) → IsOn later o → IsOn found o ⊎ (r m o ≡ true)) → IsWalked r at found followed → IsWalked r at later (set followed m true)
walk_on r at found later followed m below on kept next only walked = record {
  sound = λ o e. elim (only o e) [
    | inl h ↦ walked.sound o h
    | inr w ↦ let (between, path) = walked.sound m on in (between ++ m ∷ [], path_more r at between m o path w)
  ];
  start = λ o w. kept o (walked.start o w);
  closed = λ k o e w. elim (on_set followed m k below e) [
    | inl is ↦ next o (subst (λ (n : ℕ). r n o ≡ true) is w)
    | inr h ↦ kept o (walked.closed k o h w)
  ];
  all = on_length followed m ∙ walked.all;
}

reach : (r : ℕ → ℕ → Bool) (found : List Bool) → ((m o : ℕ) → IsOn found m → r m o ≡ true → IsOn found o) → (first : ℕ) (between : List ℕ) (last : ℕ) → ((o : ℕ) → r first o ≡ true → IsOn found o) → IsWay r first between last → IsOn found last
reach r found closed first [] last start path = start last path
reach r found closed first (o ∷ between) last start path = reach r found closed o between last (λ k w. closed o k (start o path.0) w) path.1

-- a walk that has followed all that it found has found all
pub walk_ended : (r : ℕ → ℕ → Bool) (at : ℕ) (found followed : List Bool) → ((o : ℕ) → IsOn found o → IsOn followed o) → IsWalked r at found followed → IsOn found at ↔ LeadsBack r at
walk_ended r at found followed all walked = (
  λ e. walked.sound at e,
  λ cycle. reach r found (λ m o e w. walked.closed m o (all m e) w) at cycle.0 at walked.start cycle.1,
)

-- fewer sessions are left to follow
pub fewer_left : (followed : List Bool) (m : ℕ) → m < length followed → get_or followed m false ≡ false → count_by not (set followed m true) < count_by not followed
fewer_left followed m below off =
    let one : count_by not (set followed m true) + 1 ≡ count_by not followed + 0 = ap (λ b. count_by not (set followed m true) + cond (not b) 1 0) (sym off) ∙ sum_by-set (λ b. cond (not b) 1 0) followed m true false below in
    omega (arith, one)

pub nothing_left : {A : Type 0} (r : Option A) → ((x : A) → r ≡ Some x → ⊥) → r ≡ None
nothing_left None none = refl
nothing_left (Some x) none = absurd (none x refl)

pub none_at : (n t : ℕ) → get_or (replicate n false) t false ≡ false
none_at zero t = refl
none_at (suc n) zero = refl
none_at (suc n) (suc t) = none_at n t

-- with the sessions as the program has them
pub held_up_as : (d : Database) (s : ℕ) (all : States) (wish : Option Claim) (b : Bool) → all ≡ states_in d → wish ≡ wish_at all s → b ≡ taken_wish all s wish → Tells b (IsHeldUp (store_of d) s)
held_up_as d s all wish b same wish_is is =
    subst (λ (t : Bool). Tells t (IsHeldUp (store_of d) s)) (sym (is ∙ (ap (taken_wish all s) wish_is ∙ ap (λ (a : States). taken_wish a s (wish_at a s)) same))) (held_up_told d s)

pub in_cycle_as : (d : Database) (s : ℕ) (all : States) (b : Bool) → all ≡ states_in d → Tells b (LeadsBack (waits_for all) s) → Tells b (IsInCycle (store_of d) s)
in_cycle_as d s all b same told =
    let here : Tells b (LeadsBack (waits_for (states_in d)) s) = subst (λ (a : States). Tells b (LeadsBack (waits_for a) s)) same told in
    let cycle = cycle_as d s in
    (λ e. cycle.0 (here.0 e), λ h. here.1 (cycle.1 h))
