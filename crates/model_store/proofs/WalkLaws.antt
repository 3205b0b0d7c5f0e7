-- The walk along waits, from one session on.
use Rattle.std.proofs.Common.{◌≡◌, ◌≢◌, ◌⊎◌, ℕ, zero, suc, ◌+◌, ◌<◌, ◌≤◌, Bool, true, false, not, List, [], ◌∷◌, ◌++◌, length, drop, get_or, set, refl, sym, ap, ◌∙◌, subst, arith, inl, inr}
use Rattle.std.specs.Prelude.{ℤ, Option, Some, None, slice_get, cond, ◌↔◌}
use Rattle.std.specs.List.{count_by, list_any}
use Rattle.std.proofs.lemmas.Bool.Decides.{eqb_tells, leb_tells}
use Rattle.std.proofs.lemmas.Option.{slice_get_read, slice_get_past}
use Rattle.std.proofs.lemmas.List.{get_or-set_same, get_or-set_other}
use Rattle.std.proofs.lemmas.List.Sums.{sum_by-set}
use Rattle.backend_trait.specs.declared.request.Request.TheVariants as requests
use Rattle.backend_trait.specs.declared.answer.Answer.{Answer}
use Rattle.backend_trait.specs.Keys.{Place}
use Rattle.backend_trait.specs.Rows.{Changes}
use Rattle.backend_trait.specs.Effect.{Wants, these_places, Conflicts, Given, Gives}
use Rattle.backend_trait.specs.Store.{Store, Transaction, Pending, WhereLive, held_by, table_lock}
use Rattle.backend_trait.specs.Acts.{WhereSome, WaitsInRun, WaitsIn, WaitsFor, IsPath, Leads, IsInCycle, given_of}
use Rattle.pool_base.specs.declared.code.Code.{Code}
use Rattle.outcomes.specs.declared.change.ChangeSet.{ChangeSet}
use Rattle.outcomes.specs.declared.outcome.Outcome.{Outcome}
use Rattle.outcomes.specs.declared.outcome.Outcome.TheVariants as outcomes
use Rattle.schema.specs.declared.catalogue.TableDef.{TableDef}
use Rattle.model_store.specs.declared.phase.Work.{Work}
use Rattle.model_store.specs.declared.phase.Phase.TheVariants as phases
use Rattle.model_store.specs.declared.phase.Waiting.{Waiting}
use Rattle.model_store.specs.declared.seat.Seat.{Seat}
use Rattle.model_store.specs.declared.conflict.Wanted.{Wanted}
use Rattle.outcomes.specs.Log.{has_changed}
use Rattle.outcomes.specs.Given.{given_in}
use Rattle.model_store.specs.declared.phase.Run.{Run}
use Rattle.model_store.specs.declared.phase.Waiting.TheVariants as waits
use Rattle.model_store.specs.Phases.{live_of, pending_of}
use Rattle.model_store.specs.Seats.{transaction_in, pending_in, store_of, AreGiven}
use Rattle.model_store.specs.Conflicts.{wants_of, held_in}
use Rattle.model_store.proofs.ConflictLaws.{no_conflict}
use Rattle.model_store.proofs.VerdictLaws.{held_same, fresh, stale, given_at, transaction_at}

module _ (log : List ChangeSet) (work : Work) (held : Wants) (result : Answer) (changes : Changes) (places : List Place) where
  -- places of which one is stale are not waited for
  pub stale_wants_none : list_any (has_changed (drop work.mark log)) places ≡ true → ⊥ ↔ WaitsInRun held (live_of log work) (Gives result changes places)
  stale_wants_none changed = (
    λ h. absurd h,
    λ h. let (p, among, is) = stale log work places changed in let f : true ≡ false = sym is ∙ h.0 p among in absurd (cc),
  )

  pub fresh_wants_places : list_any (has_changed (drop work.mark log)) places ≡ false → Conflicts (these_places places) held ↔ WaitsInRun held (live_of log work) (Gives result changes places)
  fresh_wants_places none = (λ h. (fresh log work places none, h), λ h. h.1)

-- a statement with a code waits for nobody
pub fails_want_none : (log : List ChangeSet) (work : Work) (held : Wants) (outcome : Outcome) (code : Code) → outcome ≡ outcomes.Fails code → ⊥ ↔ WaitsInRun held (live_of log work) (given_in outcome)
fails_want_none log work held outcome code is = subst (λ (g : Given). ⊥ ↔ WaitsInRun held (live_of log work) g) (sym (ap given_in is)) (λ h. h, λ h. h)

-- what waits of what is given by its parts
pub given_wants : (log : List ChangeSet) (work : Work) (held : Wants) (given : Given) (answer : Answer) (changes : Changes) (places read : List Place) (A : Type 0) → given ≡ Gives answer changes places → read ≡ places
    → A ↔ WaitsInRun held (live_of log work) (Gives answer changes read) → A ↔ WaitsInRun held (live_of log work) given
given_wants log work held given answer changes places read A is same h =
    subst (λ (g : Given). A ↔ WaitsInRun held (live_of log work) g) (sym is) (subst (λ (ps : List Place). A ↔ WaitsInRun held (live_of log work) (Gives answer changes ps)) same h)

-- the request of a seat that is there
pub wants_at : (seats : List Seat) (s : ℕ) (seat : Seat) (w : Option Waiting) (A : Type 0) (P : Pending → Type 0) → s < length seats → seat ≡ get_or seats s seat → seat.waiting ≡ w → A ↔ WhereSome (pending_of w) P
    → A ↔ WhereSome (pending_in (slice_get seats s)) P
wants_at seats s seat w A P below is waits h =
    subst (λ (x : Option Pending). A ↔ WhereSome x P) (sym (ap pending_in (slice_get_read seats (length seats) s seat refl below is) ∙ ap pending_of waits)) h

pub run_wants : (numbers : ℕ → Option ℤ) (tables : List TableDef) (log : List ChangeSet) (seats : List Seat) (s : ℕ) (seat : Seat) (work : Work) (run : Run) (held : Wants) (A : Type 0) → s < length seats → seat ≡ get_or seats s seat → seat.phase ≡ phases.Open work
    → seat.waiting ≡ Some (waits.Run run) → AreGiven numbers tables log seats
    → A ↔ WaitsInRun held (live_of log work) (given_in run.outcome) → A ↔ WaitsIn (store_of numbers tables log seats false) s held (requests.Run run.statement)
run_wants numbers tables log seats s seat work run held A below is open_is waits_is all h =
    let given = given_at numbers tables log seats s seat work run (slice_get_read seats (length seats) s seat refl below is) open_is waits_is all in
    let st = store_of numbers tables log seats false in
    subst (λ (x : Transaction). A ↔ WhereLive x (λ t. WaitsInRun held t (given_of st run.statement t))) (sym (transaction_at log seats s seat (phases.Open work) below is open_is))
    (subst (λ (g : Given). A ↔ WaitsInRun held (live_of log work) g) given.effect h)

pub lock_wants : (numbers : ℕ → Option ℤ) (tables : List TableDef) (log : List ChangeSet) (seats : List Seat) (s : ℕ) (seat : Seat) (work : Work) (table : ℕ) (held : Wants) → s < length seats → seat ≡ get_or seats s seat → seat.phase ≡ phases.Open work
    → Conflicts (table_lock table) held ↔ WaitsIn (store_of numbers tables log seats false) s held (requests.Lock table)
lock_wants numbers tables log seats s seat work table held below is open_is =
    subst (λ (x : Transaction). Conflicts (table_lock table) held ↔ WhereLive x (λ t. Conflicts (table_lock table) held)) (sym (transaction_at log seats s seat (phases.Open work) below is open_is)) (λ h. h, λ h. h)

-- a session that is marked
abbrev pub IsOn : List Bool → ℕ → Type 0
IsOn marks o = get_or marks o false ≡ true

on_set : (marks : List Bool) (n o : ℕ) → n < length marks → IsOn (set marks n true) o → (o ≡ n) ⊎ IsOn marks o
on_set marks n o below e = elim (eqb_tells o n) [
  | inl p ↦ inl p.1
  | inr p ↦ inr (sym (get_or-set_other marks n o true false p.1) ∙ e)
]

pub on_length : (marks : List Bool) (n : ℕ) → length (set marks n true) ≡ length marks
on_length [] n = refl
on_length (x ∷ xs) zero = refl
on_length (x ∷ xs) (suc n) = ap suc (on_length xs n)

on_kept : (marks : List Bool) (n o : ℕ) → n < length marks → IsOn marks o → IsOn (set marks n true) o
on_kept marks n o below e = elim (eqb_tells o n) [
  | inl p ↦ subst (λ (k : ℕ). IsOn (set marks n true) k) (sym p.1) (get_or-set_same marks n true false below)
  | inr p ↦ get_or-set_other marks n o true false p.1 ∙ e
]

-- of the sessions below a number those that hold what conflicts are marked
pub record AreMarked (seats : List Seat) (s : ℕ) (wants : Wants) (old now : List Bool) (n : ℕ) : Type 0 where
  pub kept : (o : ℕ) → IsOn old o → IsOn now o
  pub holders : (o : ℕ) → o < n → o ≢ s → Conflicts wants (held_in (slice_get seats o)) → IsOn now o
  pub only : (o : ℕ) → IsOn now o → IsOn old o ⊎ ((o ≢ s) × Conflicts wants (held_in (slice_get seats o)))

pub none_marked : (seats : List Seat) (s : ℕ) (wants : Wants) (old : List Bool) → AreMarked seats s wants old old 0
none_marked seats s wants old = record { kept = λ o e. e; holders = λ o below. absurd (omega (arith, below)); only = λ o e. inl e }

pub one_marked : (seats : List Seat) (s : ℕ) (wants : Wants) (old now : List Bool) (n : ℕ) → n < length now → (n ≢ s) × Conflicts wants (held_in (slice_get seats n)) → AreMarked seats s wants old now n
    → AreMarked seats s wants old (set now n true) (n + 1)
one_marked seats s wants old now n below held m = record {
  kept = λ o e. on_kept now n o below (m.kept o e);
  holders = λ o less other conflict. elim (eqb_tells o n) [
    | inl p ↦ subst (λ (k : ℕ). IsOn (set now n true) k) (sym p.1) (get_or-set_same now n true false below)
    | inr p ↦ on_kept now n o below (m.holders o (omega (arith, less, p.1)) other conflict)
  ];
  only = λ o e. elim (on_set now n o below e) [
    | inl is ↦ inr (subst (λ (k : ℕ). (k ≢ s) × Conflicts wants (held_in (slice_get seats k))) (sym is) held)
    | inr on ↦ m.only o on
  ];
}

pub one_skipped : (seats : List Seat) (s : ℕ) (wants : Wants) (old now : List Bool) (n : ℕ) → ¬ ((n ≢ s) × Conflicts wants (held_in (slice_get seats n))) → AreMarked seats s wants old now n → AreMarked seats s wants old now (n + 1)
one_skipped seats s wants old now n free m = record {
  kept = m.kept;
  holders = λ o less other conflict. elim (eqb_tells o n) [
    | inl p ↦ absurd (free (subst (λ (k : ℕ). (k ≢ s) × Conflicts wants (held_in (slice_get seats k))) p.1 (other, conflict)))
    | inr p ↦ m.holders o (omega (arith, less, p.1)) other conflict
  ];
  only = m.only;
}

-- nobody past the seats holds anything
pub all_marked : (seats : List Seat) (s : ℕ) (wants : Wants) (old now : List Bool) (n : ℕ) → length seats ≤ n → AreMarked seats s wants old now n → (o : ℕ) → o ≢ s → Conflicts wants (held_in (slice_get seats o)) → IsOn now o
all_marked seats s wants old now n end m o other conflict = elim (leb_tells (length seats) o) [
  | inl p ↦ absurd (no_conflict wants (subst (λ (x : Option Seat). Conflicts wants (held_in x)) (slice_get_past seats o p.1) conflict))
  | inr p ↦ m.holders o (omega (arith, p.1, end)) other conflict
]

-- the sessions for which a request waits hold what it wants
pub waits_iff : (numbers : ℕ → Option ℤ) (tables : List TableDef) (log : List ChangeSet) (seats : List Seat) (s o : ℕ) (A : Wants → Type 0) → ((held : Wants) → A held ↔ WhereSome (pending_in (slice_get seats s)) (λ p. WaitsIn (store_of numbers tables log seats false) s held p.request))
    → ((o ≢ s) × A (held_in (slice_get seats o))) ↔ WaitsFor (store_of numbers tables log seats false) s o
waits_iff numbers tables log seats s o A iff = (
  λ h. (h.0, (iff (held_by (transaction_in log (slice_get seats o)))).0 (subst A (sym (held_same log (slice_get seats o))) h.1)),
  λ w. (w.0, subst A (held_same log (slice_get seats o)) ((iff (held_by (transaction_in log (slice_get seats o)))).1 w.1)),
)

path_more : (st : Store) (first : ℕ) (between : List ℕ) (mid last : ℕ) → IsPath st first between mid → WaitsFor st mid last → IsPath st first (between ++ mid ∷ []) last
path_more st first [] mid last path w = (path, w)
path_more st first (o ∷ between) mid last path w = (path.0, path_more st o between mid last path.1 w)

-- all on the way to the marked sessions is found, from those on that were followed
pub record IsWalked (st : Store) (at : ℕ) (found followed : List Bool) : Type 0 where
  pub sound : (o : ℕ) → IsOn found o → Leads st at o
  pub start : (o : ℕ) → WaitsFor st at o → IsOn found o
  pub closed : (m o : ℕ) → IsOn followed m → WaitsFor st m o → IsOn found o
  pub all : length followed ≡ 65

pub walk_begun : (st : Store) (at : ℕ) (none found followed : List Bool) → ((o : ℕ) → get_or none o false ≡ false) → ((o : ℕ) → get_or followed o false ≡ false) → length followed ≡ 65 → ((o : ℕ) → WaitsFor st at o → IsOn found o) → ((o : ℕ) → IsOn found o → IsOn none o ⊎ WaitsFor st at o)
    → IsWalked st at found followed
walk_begun st at none found followed off not_followed all next only = record {
  sound = λ o e. elim (only o e) [ inl h ↦ absurd (let f : false ≡ true = sym (off o) ∙ h in cc) | inr w ↦ ([], w) ];
  start = next;
  closed = λ m o e w. absurd (let f : false ≡ true = sym (not_followed m) ∙ e in cc);
  all = all;
}

pub walk_on : (st : Store) (at : ℕ) (found later followed : List Bool) (m : ℕ) → m < length followed → IsOn found m → ((o : ℕ) → IsOn found o → IsOn later o) → ((o : ℕ) → WaitsFor st m o → IsOn later o)
    → ((o : ℕ) → IsOn later o → IsOn found o ⊎ WaitsFor st m o) → IsWalked st at found followed → IsWalked st at later (set followed m true)
walk_on st at found later followed m below on kept next only walked = record {
  sound = λ o e. elim (only o e) [
    | inl h ↦ walked.sound o h
    | inr w ↦ let (between, path) = walked.sound m on in (between ++ m ∷ [], path_more st at between m o path w)
  ];
  start = λ o w. kept o (walked.start o w);
  closed = λ k o e w. elim (on_set followed m k below e) [
    | inl is ↦ next o (subst (λ (n : ℕ). WaitsFor st n o) is w)
    | inr h ↦ kept o (walked.closed k o h w)
  ];
  all = on_length followed m ∙ walked.all;
}

reach : (st : Store) (found : List Bool) → ((m o : ℕ) → IsOn found m → WaitsFor st m o → IsOn found o) → (first : ℕ) (between : List ℕ) (last : ℕ) → ((o : ℕ) → WaitsFor st first o → IsOn found o) → IsPath st first between last → IsOn found last
reach st found closed first [] last start path = start last path
reach st found closed first (o ∷ between) last start path = reach st found closed o between last (λ k w. closed o k (start o path.0) w) path.1

-- a walk that has followed all that it found has found all
pub walk_ended : (st : Store) (at : ℕ) (found followed : List Bool) → ((o : ℕ) → IsOn found o → IsOn followed o) → IsWalked st at found followed → IsOn found at ↔ IsInCycle st at
walk_ended st at found followed all walked = (
  λ e. walked.sound at e,
  λ cycle. reach st found (λ m o e w. walked.closed m o (all m e) w) at cycle.0 at walked.start cycle.1,
)

-- fewer sessions are left to follow
pub fewer_left : (followed : List Bool) (m : ℕ) → m < length followed → get_or followed m false ≡ false → count_by not (set followed m true) < count_by not followed
fewer_left followed m below off =
    let one : count_by not (set followed m true) + 1 ≡ count_by not followed + 0 = ap (λ b. count_by not (set followed m true) + cond (not b) 1 0) (sym off) ∙ sum_by-set (λ b. cond (not b) 1 0) followed m true false below in
    omega (arith, one)

-- what a request is kept from, and for whom it waits
abbrev pub IsWish : (ℕ → Option ℤ) → List TableDef → List ChangeSet → List Seat → ℕ → Option Wanted → Type 0
IsWish numbers tables log seats s wish =
    (held : Wants) → WhereSome wish (λ wanted. Conflicts (wants_of wanted) held) ↔ WhereSome (pending_in (slice_get seats s)) (λ p. WaitsIn (store_of numbers tables log seats false) s held p.request)

pub wish_next : (numbers : ℕ → Option ℤ) (tables : List TableDef) (log : List ChangeSet) (seats : List Seat) (s : ℕ) (wish : Option Wanted) (wanted : Wanted) → wish ≡ Some wanted → IsWish numbers tables log seats s wish → (o : ℕ)
    → ((o ≢ s) × Conflicts (wants_of wanted) (held_in (slice_get seats o))) ↔ WaitsFor (store_of numbers tables log seats false) s o
wish_next numbers tables log seats s wish wanted is iff o =
    waits_iff numbers tables log seats s o (λ held. Conflicts (wants_of wanted) held) (subst (λ (w : Option Wanted). IsWish numbers tables log seats s w) is iff)

pub no_wish_next : (numbers : ℕ → Option ℤ) (tables : List TableDef) (log : List ChangeSet) (seats : List Seat) (s : ℕ) (wish : Option Wanted) → wish ≡ None → IsWish numbers tables log seats s wish → (o : ℕ) → ¬ (WaitsFor (store_of numbers tables log seats false) s o)
no_wish_next numbers tables log seats s wish is iff o w = ((waits_iff numbers tables log seats s o (λ held. ⊥) (subst (λ (x : Option Wanted). IsWish numbers tables log seats s x) is iff)).1 w).1

pub nothing_left : {A : Type 0} (r : Option A) → ((x : A) → r ≡ Some x → ⊥) → r ≡ None
nothing_left None none = refl
nothing_left (Some x) none = absurd (none x refl)
