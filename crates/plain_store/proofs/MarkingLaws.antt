-- What marks the program sets: those of the requests that are crossed.
use Rattle.std.proofs.Common.{◌≡◌, ◌≢◌, ℕ, zero, suc, ◌<◌, ◌≤◌, Bool, true, false, ◌||◌, List, length, refl, sym, ap, ◌∙◌, subst, arith, inl, inr}
use Rattle.std.specs.Prelude.{Option, Some, None, slice_get, slice_set}
use Rattle.std.proofs.lemmas.Bool.Decides.{eqb_tells}
use Rattle.std.proofs.lemmas.List.{length-set}
use Rattle.backend_trait.specs.declared.request.Request.{Request}
use Rattle.backend_trait.specs.Store.{Pending, Store}
use Rattle.backend_trait.specs.Acts.{IsCrossed, WhereSome}
use Rattle.outcomes.specs.Next.{next_of}
use Rattle.plain_store.specs.declared.data.Database.{Database}
use Rattle.plain_store.specs.Phases.{mark_in, request_at, pending_of}
use Rattle.plain_store.specs.Meaning.{store_in, store_of}
use Rattle.backend_trait.specs.Acting.{IsMarkedAt, IsMarked}
use Rattle.plain_store.specs.States.{States, states_in}
use Rattle.plain_store.specs.Deciding.{crosses_if, crosses_waiting, marked_if, marks_below}
use Rattle.backend_trait.proofs.Telling.{Tells, either_told, itself}
use Rattle.plain_store.proofs.CrossLaws.{is_below, crosses_told}
use Rattle.plain_store.proofs.StepLaws.{set_same, set_other}

or_true_right : (b : Bool) → (b || true) ≡ true
or_true_right true = refl
or_true_right false = refl

or_false_right : (b : Bool) → (b || false) ≡ b
or_false_right true = refl
or_false_right false = refl

if_length : (t : Bool) (n : ℕ) (marks : List Bool) → length (marked_if t n marks) ≡ length marks
if_length true n marks = length-set marks n true
if_length false n marks = refl

if_other : (t : Bool) (n o : ℕ) (marks : List Bool) → o ≢ n → slice_get (marked_if t n marks) o ≡ slice_get marks o
if_other true n o marks other = set_other marks n o true other
if_other false n o marks other = refl

if_there : (t : Bool) (n : ℕ) (marks : List Bool) → n < length marks → mark_in (slice_get (marked_if t n marks) n) ≡ (mark_in (slice_get marks n) || t)
if_there true n marks below = ap mark_in (set_same marks n true below) ∙ sym (or_true_right (mark_in (slice_get marks n)))
if_there false n marks below = sym (or_false_right (mark_in (slice_get marks n)))

module _ (all : States) (marks : List Bool) where
  below_length : (n : ℕ) → length (marks_below all marks n) ≡ length marks
  below_length zero = refl
  below_length (suc n) = if_length (crosses_waiting all n) n (marks_below all marks n) ∙ below_length n

  below_over : (n o : ℕ) → n ≤ o → slice_get (marks_below all marks n) o ≡ slice_get marks o
  below_over zero o over = refl
  below_over (suc n) o over =
      if_other (crosses_waiting all n) n o (marks_below all marks n) (λ e. omega (arith, over, e)) ∙ below_over n o (let z : n ≤ o = omega (arith, over) in z)

  -- a mark tells whether it was set before, or the request is crossed
  below_mark : (n o : ℕ) → o < n → o < length marks → mark_in (slice_get (marks_below all marks n) o) ≡ (mark_in (slice_get marks o) || crosses_waiting all o)
  below_mark zero o below long = absurd (omega (arith, below))
  below_mark (suc n) o below long = elim (eqb_tells o n) [
    | inl p ↦
        let within : n < length (marks_below all marks n) = omega (arith, below_length n, long, p.1) in
        subst (λ (k : ℕ). mark_in (slice_get (marks_below all marks (suc n)) k) ≡ (mark_in (slice_get marks k) || crosses_waiting all k)) (sym p.1)
        (if_there (crosses_waiting all n) n (marks_below all marks n) within
        ∙ ap (λ (x : Option Bool). mark_in x || crosses_waiting all n) (below_over n n (let z : n ≤ n = omega arith in z)))
    | inr p ↦
        ap mark_in (if_other (crosses_waiting all n) n o (marks_below all marks n) p.1)
        ∙ below_mark n o (let z : o < n = omega (arith, below, p.1) in z) long
  ]

module _ (d : Database) where
  abbrev here : Store
  here = store_of d

  abbrev states : States
  states = states_in d

  abbrev later : List Bool
  later = marks_below states d.crossed.items 65

  abbrev waiting : ℕ → Request → Pending
  waiting o request = record { request = request; crossed = mark_in (slice_get d.crossed.items o) }

  mark_told : (o : ℕ) (request : Request) → o < 65 → request_at (slice_get d.requests.items o) ≡ Some request → Tells (mark_in (slice_get later o)) (IsCrossed here o (waiting o request))
  mark_told o request below is =
      subst (λ (t : Bool). Tells t (IsCrossed here o (waiting o request)))
      (sym (below_mark states d.crossed.items 65 o below (let z : o < length d.crossed.items = omega (arith, below, d.marked) in z)
      ∙ ap (λ (x : Option Request). mark_in (slice_get d.crossed.items o) || crosses_if states o x) is))
      (either_told _ _ _ _ (itself (mark_in (slice_get d.crossed.items o))) (crosses_told d o request is))

  is_within : (o : ℕ) (request : Request) → request_at (slice_get d.requests.items o) ≡ Some request → o < 65
  is_within o request is =
      is_below d o (λ p. Unit {0}) (subst (λ (x : Option Request). WhereSome (pending_of x (mark_in (slice_get d.crossed.items o))) (λ p. Unit {0})) (sym is) tt)

  marked_at : (o : ℕ) (x : Option Request) → request_at (slice_get d.requests.items o) ≡ x → IsMarkedAt here o (pending_of x (mark_in (slice_get d.crossed.items o))) (pending_of x (mark_in (slice_get later o)))
  marked_at o None is = refl
  marked_at o (Some request) is = (mark_in (slice_get later o), refl, mark_told o request (is_within o request is) is)

  pub marked_is : IsMarked here (store_in (next_of d.numbers) d.catalogue d.log.items d.phases.items d.requests.items later d.is_lost)
  marked_is = record {
    tables = refl;
    rows = refl;
    next = refl;
    transaction = refl;
    lost = refl;
    pending = λ o. marked_at o (request_at (slice_get d.requests.items o)) refl;
  }
