-- What sessions hold never conflicts.
use Rattle.std.proofs.Common.{◌≡◌, ◌≢◌, ◌⊎◌, ℕ, zero, suc, ◌<◌, false, List, [], ◌∷◌, length, refl, sym, ap, ◌∙◌, subst, inl, inr}
use Rattle.std.specs.Prelude.{ℤ, Option, Some, slice_get, slice_set}
use Rattle.std.proofs.lemmas.Bool.Decides.{eqb_tells}
use Rattle.backend_trait.specs.Effect.{Wants, nothing, Conflicts, Given, Fails, Gives}
use Rattle.backend_trait.specs.Store.{Store, Live, Transaction, Absent, Alive, Dead, WhereLive, held_by, table_lock, given_to}
use Rattle.backend_trait.specs.Acts.{IsFree, WhereSome, wants_in, given_of}
use Rattle.schema.specs.declared.catalogue.TableDef.{TableDef}
use Rattle.outcomes.specs.declared.change.ChangeSet.{ChangeSet}
use Rattle.model_store.specs.declared.phase.Phase.{Phase}
use Rattle.model_store.specs.declared.phase.Phase.TheVariants as phases
use Rattle.model_store.specs.declared.phase.Waiting.{Waiting}
use Rattle.model_store.specs.declared.phase.Waiting.TheVariants as waits
use Rattle.model_store.specs.declared.seat.Seat.{Seat}
use Rattle.model_store.specs.declared.verdict.Verdict.TheVariants as verdicts
use Rattle.outcomes.specs.Given.{given_in}
use Rattle.model_store.specs.declared.phase.Run.{Run}
use Rattle.model_store.specs.Phases.{live_of, transaction_of, request_of, held_of, held_by_phase, granted, IsGranted}
use Rattle.backend_trait.specs.declared.answer.Answer.{Answer}
use Rattle.model_store.specs.Seats.{transaction_in, pending_in, store_of, AreGiven}
use Rattle.model_store.specs.Conflicts.{held_in, AreApart}
use Rattle.model_store.specs.Verdicts.{MayGo, Fits}
use Rattle.model_store.proofs.VerdictLaws.{held_same, nothing_conflicts, given_at}
use Rattle.model_store.proofs.StoreLaws.{set_same, set_other}
use Rattle.model_store.proofs.CycleLaws.{conflict_swapped, conflict_either, conflict_places}
use Rattle.model_store.proofs.ActLaws.{waiting_there}
use Rattle.model_store.proofs.NewLaws.{AreAbsent}

conflict_moved : (a b c d : Wants) → a ≡ b → c ≡ d → Conflicts a c → Conflicts b d
conflict_moved a b c d p q h = subst (λ (w : Wants). Conflicts b w) q (subst (λ (w : Wants). Conflicts w c) p h)

-- one seat is new, and what it holds conflicts with no other
pub apart_set : (seats : List Seat) (at : ℕ) (new : Seat) → at < length seats → AreApart seats → ((o : ℕ) → o ≢ at → ¬ (Conflicts (held_by_phase new.phase) (held_in (slice_get seats o)))) → AreApart (slice_set seats at new)
apart_set seats at new below apart own a b other conflict = elim (eqb_tells a at) [
  | inl p ↦ own b (λ e. other (p.1 ∙ sym e)) (conflict_moved _ _ _ _ (here a p.1) (there b (λ e. other (p.1 ∙ sym e))) conflict)
  | inr p ↦ elim (eqb_tells b at) [
    | inl q ↦ own a p.1 (conflict_swapped _ _ (conflict_moved _ _ _ _ (there a p.1) (here b q.1) conflict))
    | inr q ↦ apart a b other (conflict_moved _ _ _ _ (there a p.1) (there b q.1) conflict)
  ]
]
  where
    here : (o : ℕ) → o ≡ at → held_in (slice_get (slice_set seats at new) o) ≡ held_by_phase new.phase
    here o e = ap (λ (k : ℕ). held_in (slice_get (slice_set seats at new) k)) e ∙ ap held_in (set_same seats at new below)

    there : (o : ℕ) → o ≢ at → held_in (slice_get (slice_set seats at new) o) ≡ held_in (slice_get seats o)
    there o e = ap held_in (set_other seats at o new e)

-- it holds what it held
pub apart_kept : (log : List ChangeSet) (seats : List Seat) (at : ℕ) (seat new : Seat) → at < length seats → slice_get seats at ≡ Some seat → transaction_of log new.phase ≡ transaction_of log seat.phase → AreApart seats → AreApart (slice_set seats at new)
apart_kept log seats at seat new below there same apart =
    let held : held_by_phase new.phase ≡ held_in (slice_get seats at) = sym (held_same log (Some new)) ∙ ap held_by same ∙ held_same log (Some seat) ∙ ap held_in (sym there) in
    apart_set seats at new below apart (λ o other conflict. apart at o (λ e. other (sym e)) (conflict_moved _ _ _ _ held refl conflict))

-- it holds nothing
pub apart_dead : (seats : List Seat) (at : ℕ) (new : Seat) → at < length seats → new.phase ≡ phases.Dead → AreApart seats → AreApart (slice_set seats at new)
apart_dead seats at new below dead apart = apart_set seats at new below apart (λ o other conflict. nothing_conflicts _ (conflict_moved _ _ _ _ (ap held_by_phase dead) refl conflict))

-- what a request gains once it is granted
abbrev gained : Waiting → Wants
gained waits.Snapshot = nothing
gained (waits.Run run) = wants_in (given_in run.outcome)
gained (waits.Lock table) = table_lock table
gained waits.Commit = nothing
gained waits.Rollback = nothing
gained (waits.ReadSerial table) = nothing
gained (waits.SetSerial table n) = nothing

given_or_held : (given : Given) (t : Live) (other : Wants) → Conflicts (given_to given t).held other → Conflicts (wants_in given) other ⊎ Conflicts t.held other
given_or_held (Fails code) t other c = inr c
given_or_held (Gives answer changes places) t other c = conflict_places t.held places other c

gained_or_held : (log : List ChangeSet) (phase : Phase) (waiting : Waiting) (other : Wants) → Conflicts (held_by (granted log phase waiting)) other → Conflicts (gained waiting) other ⊎ Conflicts (held_by_phase phase) other
gained_or_held log phase waits.Snapshot other c = inl c
gained_or_held log phases.Absent (waits.Run run) other c = inr c
gained_or_held log (phases.Open work) (waits.Run run) other c = given_or_held (given_in run.outcome) (live_of log work) other c
gained_or_held log phases.Dead (waits.Run run) other c = inr c
gained_or_held log phases.Absent (waits.Lock table) other c = inr c
gained_or_held log (phases.Open work) (waits.Lock table) other c = conflict_either (table_lock table) (held_of work) other c
gained_or_held log phases.Dead (waits.Lock table) other c = inr c
gained_or_held log phase waits.Commit other c = inl c
gained_or_held log phase waits.Rollback other c = inl c
gained_or_held log phases.Absent (waits.ReadSerial table) other c = inr c
gained_or_held log (phases.Open work) (waits.ReadSerial table) other c = inr c
gained_or_held log phases.Dead (waits.ReadSerial table) other c = inr c
gained_or_held log phases.Absent (waits.SetSerial table n) other c = inr c
gained_or_held log (phases.Open work) (waits.SetSerial table n) other c = inr c
gained_or_held log phases.Dead (waits.SetSerial table n) other c = inr c

none_free : (st : Store) (s : ℕ) → IsFree st s nothing
none_free st s o other c = nothing_conflicts (held_by (st.transaction o)) c

given_free : (st : Store) (s : ℕ) (t : Live) (given : Given) → MayGo st s t given → IsFree st s (wants_in given)
given_free st s t (Fails code) may = absurd may
given_free st s t (Gives answer changes places) may = may.1

abbrev pub MayGoOf : Store → ℕ → Run → Live → Type 0
MayGoOf st s run t = MayGo st s t (given_of st run.statement t)

run_free : (numbers : ℕ → Option ℤ) (tables : List TableDef) (log : List ChangeSet) (seats : List Seat) (at : ℕ) (seat : Seat) (run : Run) → slice_get seats at ≡ Some seat → seat.waiting ≡ Some (waits.Run run) → AreGiven numbers tables log seats
    → (phase : Phase) → seat.phase ≡ phase → WhereLive (transaction_of log seat.phase) (MayGoOf (store_of numbers tables log seats false) at run) → IsFree (store_of numbers tables log seats false) at (wants_in (given_in run.outcome))
run_free numbers tables log seats at seat run there waits_is all phases.Absent is h = absurd (subst (λ (p : Phase). WhereLive (transaction_of log p) (MayGoOf (store_of numbers tables log seats false) at run)) is h)
run_free numbers tables log seats at seat run there waits_is all phases.Dead is h = absurd (subst (λ (p : Phase). WhereLive (transaction_of log p) (MayGoOf (store_of numbers tables log seats false) at run)) is h)
run_free numbers tables log seats at seat run there waits_is all (phases.Open work) is h =
    let st = store_of numbers tables log seats false in
    let may : MayGoOf st at run (live_of log work) = subst (λ (p : Phase). WhereLive (transaction_of log p) (MayGoOf st at run)) is h in
    let same : given_in run.outcome ≡ given_of st run.statement (live_of log work) = (given_at numbers tables log seats at seat work run there is waits_is all).effect in
    subst (λ (g : Given). IsFree st at (wants_in g)) (sym same) (given_free st at (live_of log work) (given_of st run.statement (live_of log work)) may)

-- nobody holds what a request gains that goes
goes_free : (numbers : ℕ → Option ℤ) (tables : List TableDef) (log : List ChangeSet) (seats : List Seat) (at : ℕ) (seat : Seat) (waiting : Waiting) → slice_get seats at ≡ Some seat → seat.waiting ≡ Some waiting → AreGiven numbers tables log seats
    → Fits (store_of numbers tables log seats false) at (request_of waiting) verdicts.Goes → IsFree (store_of numbers tables log seats false) at (gained waiting)
goes_free numbers tables log seats at seat waits.Snapshot there waits_is all fit = none_free (store_of numbers tables log seats false) at
goes_free numbers tables log seats at seat (waits.Run run) there waits_is all fit = run_free numbers tables log seats at seat run there waits_is all seat.phase refl (subst (λ (x : Transaction). WhereLive x (MayGoOf (store_of numbers tables log seats false) at run)) (ap (transaction_in log) there) fit)
goes_free numbers tables log seats at seat (waits.Lock table) there waits_is all fit = go (transaction_in log (slice_get seats at)) fit
  where
    go : (x : Transaction) → WhereLive x (λ t. IsFree (store_of numbers tables log seats false) at (table_lock table)) → IsFree (store_of numbers tables log seats false) at (table_lock table)
    go Absent h = absurd h
    go (Alive t) h = h
    go Dead h = absurd h
goes_free numbers tables log seats at seat waits.Commit there waits_is all fit = none_free (store_of numbers tables log seats false) at
goes_free numbers tables log seats at seat waits.Rollback there waits_is all fit = none_free (store_of numbers tables log seats false) at
goes_free numbers tables log seats at seat (waits.ReadSerial table) there waits_is all fit = none_free (store_of numbers tables log seats false) at
goes_free numbers tables log seats at seat (waits.SetSerial table n) there waits_is all fit = none_free (store_of numbers tables log seats false) at

-- a request that is granted keeps sessions apart
pub apart_granted : (numbers : ℕ → Option ℤ) (tables : List TableDef) (log later : List ChangeSet) (seats : List Seat) (at : ℕ) (seat new : Seat) (answer : Answer) → at < length seats → slice_get seats at ≡ Some seat → AreApart seats → AreGiven numbers tables log seats
    → WhereSome (pending_in (slice_get seats at)) (λ p. Fits (store_of numbers tables log seats false) at p.request verdicts.Goes)
    → ((waiting : Waiting) → seat.waiting ≡ Some waiting → IsGranted numbers log seat.phase waiting answer later new.phase) → AreApart (slice_set seats at new)
apart_granted numbers tables log later seats at seat new answer below there apart all goes granted_is =
    let (waiting, waits_is, fit) = waiting_there seats at seat (λ r. Fits (store_of numbers tables log seats false) at r verdicts.Goes) there goes in
    let is : IsGranted numbers log seat.phase waiting answer later new.phase = granted_is waiting waits_is in
    apart_set seats at new below apart (λ o other conflict. elim (gained_or_held log seat.phase waiting (held_in (slice_get seats o)) (conflict_moved _ _ _ _ (sym (held_same log (Some new)) ∙ ap held_by is.next_is) refl conflict)) [
      | inl c ↦ goes_free numbers tables log seats at seat waiting there waits_is all fit o other (conflict_moved _ _ _ _ refl (sym (held_same log (slice_get seats o))) c)
      | inr c ↦ apart at o (λ e. other (sym e)) (conflict_moved _ _ _ _ (ap held_in (sym there)) refl c)
    ])

-- seats that nobody has taken are apart
absent_held : (xs : List Seat) → AreAbsent xs → (s : ℕ) → held_in (slice_get xs s) ≡ nothing
absent_held [] all s = refl
absent_held (x ∷ xs) all zero = ap held_by_phase all.0
absent_held (x ∷ xs) all (suc s) = absent_held xs all.2 s

pub apart_absent : (xs : List Seat) → AreAbsent xs → AreApart xs
apart_absent xs all a b other conflict = nothing_conflicts _ (conflict_moved _ _ _ _ (absent_held xs all a) refl conflict)
