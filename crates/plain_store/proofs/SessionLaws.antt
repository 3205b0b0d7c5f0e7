-- What the program has of all sessions is what its data say.
use Rattle.std.proofs.Common.{◌≡◌, ℕ, ℤ, zero, suc, ◌+◌, ◌<◌, ◌≤◌, List, [], ◌∷◌, ◌++◌, length, refl, sym, ap, ◌∙◌, subst, arith, inl, inr, length-append}
use Rattle.std.specs.Prelude.{Option, Some, None, Result, Ok, Err, IfOk, option_map, slice_get}
use Rattle.std.proofs.lemmas.Bool.Decides.{eqb_tells, leb_tells}
use Rattle.std.proofs.lemmas.Option.{slice_get_past}
use Rattle.pool_base.specs.declared.no_memory.NoMemory.{NoMemory}
use Rattle.schema.specs.declared.catalogue.TableDef.{TableDef}
use Rattle.catalogue.specs.declared.checked.Checked.{Checked}
use Rattle.sql_eval.specs.declared.effect.Change.{Change}
use Rattle.backend_trait.specs.Typed.{AreAllStored}
use Rattle.backend_trait.specs.declared.request.Request.{Request}
use Rattle.backend_trait.specs.Rows.{laid_over}
use Rattle.backend_trait.specs.Effect.{changes_of, effect_of, table_in}
use Rattle.backend_trait.specs.Store.{Live, next_for, view_of}
use Rattle.backend_trait.specs.Acts.{given_of}
use Rattle.outcomes.specs.declared.change.ChangeSet.{ChangeSet}
use Rattle.outcomes.specs.declared.outcome.Outcome.{Outcome}
use Rattle.outcomes.specs.Given.{given_in}
use Rattle.outcomes.specs.Log.{rows_of}
use Rattle.outcomes.specs.Next.{next_of}
use Rattle.plain_store.specs.declared.data.Work.{Work}
use Rattle.plain_store.specs.declared.data.Phase.{Phase}
use Rattle.plain_store.specs.declared.data.Database.{Database}
use Rattle.plain_store.specs.declared.sessions.Sessions.{Sessions}
use Rattle.plain_store.specs.Phases.{live_of, transaction_of, transaction_in, request_at}
use Rattle.plain_store.specs.Meaning.{store_of}
use Rattle.plain_store.specs.Giving.{given_by, given_to, shown, AreGivenBelow, AreGiven}
use Rattle.plain_store.specs.States.{states_of, states_in, AreAll, phase_in}

-- the phase of a session
pub phase_same : (x : Option Phase) → transaction_in x ≡ transaction_of (phase_in x)
phase_same None = refl
phase_same (Some phase) = refl

-- what is read at an index
pub phase_read : (xs : List Phase) (s : ℕ) (x : Phase) → slice_get xs s ≡ Some x → x ≡ phase_in (slice_get xs s)
phase_read xs s x is = sym (ap phase_in is)

pub asked_read : (xs : List (Option Request)) (s : ℕ) (x : Option Request) → slice_get xs s ≡ Some x → x ≡ request_at (slice_get xs s)
asked_read xs s x is = sym (ap request_at is)

pub given_read : (xs : List (Option Outcome)) (s : ℕ) (x : Option Outcome) → slice_get xs s ≡ Some x → option_map given_in x ≡ shown (slice_get xs s)
given_read xs s x is = sym (ap shown is)

-- nothing waits of a session past the last
pub given_past : (d : Database) (s : ℕ) → 65 ≤ s → given_to d s ≡ None
given_past d s past =
    let none : slice_get d.requests.items s ≡ None = slice_get_past d.requests.items s (let z : length d.requests.items ≤ s = omega (arith, d.requested, past) in z) in
    ap (λ (x : Option (Option Request)). given_by (store_of d) (transaction_in (slice_get d.phases.items s)) (request_at x)) none

pub given_same : (d : Database) (all : List (Option Outcome)) → AreGiven d all → (s : ℕ) → shown (slice_get all s) ≡ given_to d s
given_same d all given s = elim (leb_tells 65 s) [
  | inl p ↦ ap shown (slice_get_past all s (let z : length all ≤ s = omega (arith, given.len, p.1) in z)) ∙ sym (given_past d s p.1)
  | inr p ↦ given.each s (let z : s < 65 = omega (arith, p.1) in z)
]

-- the sessions of a store
pub states_same : (d : Database) (all : Sessions) → all.phases.now ≡ d.phases.items → all.requests.now ≡ d.requests.items → AreGiven d all.given.now → all.numbers.now ≡ d.numbers → states_of all ≡ states_in d
states_same d all phases requests given numbers = λ i. record { phases = phases i; requests = requests i; given = λ s. given_same d all.given.now given s i; next = next_of (numbers i) }

pub all_there : (d : Database) (all : Sessions) → all.phases.now ≡ d.phases.items → all.requests.now ≡ d.requests.items → AreGiven d all.given.now → AreAll all
all_there d all phases requests given = record {
  phased = ap (λ (xs : List Phase). length xs) phases ∙ d.phased;
  requested = ap (λ (xs : List (Option Request)). length xs) requests ∙ d.requested;
  given_to_all = given.len;
}

-- what each gives, one after another
pub none_given : (d : Database) → AreGivenBelow 0 d []
none_given d = record { len = refl; each = λ s below. absurd (omega (arith, below)) }

at_end : {A : Type 0} (xs : List A) (x : A) → slice_get (xs ++ x ∷ []) (length xs) ≡ Some x
at_end [] x = refl
at_end (y ∷ ys) x = at_end ys x

before_end : {A : Type 0} (xs : List A) (x : A) (n : ℕ) → n < length xs → slice_get (xs ++ x ∷ []) n ≡ slice_get xs n
before_end [] x n below = absurd (omega (arith, below))
before_end (y ∷ ys) x zero below = refl
before_end (y ∷ ys) x (suc n) below = before_end ys x n (omega (arith, below))

pub one_given : (d : Database) (all : List (Option Outcome)) (n : ℕ) (x : Option Outcome) → AreGivenBelow n d all → option_map given_in x ≡ given_to d n → AreGivenBelow (n + 1) d (all ++ x ∷ [])
one_given d all n x given is = record {
  len = simp length-append (omega (arith, given.len));
  each = λ s below. elim (eqb_tells s n) [
    | inl p ↦
        subst (λ (k : ℕ). shown (slice_get (all ++ x ∷ []) k) ≡ given_to d k) (sym p.1)
        (subst (λ (k : ℕ). shown (slice_get (all ++ x ∷ []) k) ≡ given_to d n) given.len (ap shown (at_end all x) ∙ is))
    | inr p ↦
        let less : s < n = omega (arith, below, p.1) in
        ap shown (before_end all x s (let z : s < length all = omega (arith, given.len, less) in z)) ∙ given.each s less
  ];
}

-- what the request of a session gives
pub given_here : (d : Database) (s : ℕ) (phase : Phase) (waits : Option Request) → slice_get d.phases.items s ≡ Some phase → slice_get d.requests.items s ≡ Some waits
    → given_by (store_of d) (transaction_of phase) waits ≡ given_to d s
given_here d s phase waits phase_is waits_is =
    sym (ap (λ (x : Option Phase). given_by (store_of d) (transaction_in x) (request_at (slice_get d.requests.items s))) phase_is
    ∙ ap (λ (x : Option (Option Request)). given_by (store_of d) (transaction_of phase) (request_at x)) waits_is)

pub given_live_as : (d : Database) (checked : Checked) (work : Work) (sets : List ChangeSet) (own : List Change) (next : Option ℤ) (r : Result Outcome NoMemory) → sets ≡ work.base.items → own ≡ work.own.changes.items
    → next ≡ next_for (next_of d.numbers) (table_in checked)
    → IfOk r (λ o. given_in o ≡ (effect_of d.catalogue checked (laid_over (changes_of own) (rows_of sets)) next).given) → IfOk r (λ o. given_in o ≡ given_of (store_of d) checked (live_of work))
given_live_as d checked work sets own next (Ok o) sets_is own_is next_is is =
    is
    ∙ (ap (λ (xs : List ChangeSet). (effect_of d.catalogue checked (laid_over (changes_of own) (rows_of xs)) next).given) sets_is
    ∙ (ap (λ (cs : List Change). (effect_of d.catalogue checked (laid_over (changes_of cs) (rows_of work.base.items)) next).given) own_is
    ∙ ap (λ (n : Option ℤ). (effect_of d.catalogue checked (view_of (live_of work)) n).given) next_is))
given_live_as d checked work sets own next (Err e) sets_is own_is next_is is = tt

pub seen_stored : (tables : List TableDef) (work : Work) (sets : List ChangeSet) (own : List Change) → sets ≡ work.base.items → own ≡ work.own.changes.items → AreAllStored tables (view_of (live_of work))
    → AreAllStored tables (laid_over (changes_of own) (rows_of sets))
seen_stored tables work sets own sets_is own_is stored =
    subst (λ (xs : List ChangeSet). AreAllStored tables (laid_over (changes_of own) (rows_of xs))) (sym sets_is)
    (subst (λ (cs : List Change). AreAllStored tables (laid_over (changes_of cs) (rows_of work.base.items))) (sym own_is) stored)

pub given_here_as : (d : Database) (s : ℕ) (phase : Phase) (waits : Option Request) (r : Result (Option Outcome) NoMemory) → slice_get d.phases.items s ≡ Some phase → slice_get d.requests.items s ≡ Some waits
    → IfOk r (λ g. option_map given_in g ≡ given_by (store_of d) (transaction_of phase) waits) → IfOk r (λ g. option_map given_in g ≡ given_to d s)
given_here_as d s phase waits (Ok g) phase_is waits_is is = is ∙ given_here d s phase waits phase_is waits_is
given_here_as d s phase waits (Err e) phase_is waits_is is = tt
