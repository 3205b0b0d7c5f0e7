-- What the store keeps: all that it has committed or that a transaction has changed stands in its tables, and what waits gives its effect.
use Rattle.std.proofs.Common.{◌≡◌, ◌≢◌, ℕ, ◌<◌, ◌≤◌, Bool, true, false, List, [], ◌∷◌, ◌++◌, length, take, get_or, refl, sym, ap, ◌∙◌, subst, inl, inr}
use Rattle.std.specs.Prelude.{ℤ, is_some, IsSome, Option, Some, None, Result, Ok, Err, IfOk, slice_get, slice_set}
use Rattle.std.proofs.Math.Logic.{∥∥₁_elim}
use Rattle.std.proofs.lemmas.Bool.Decides.{eqb_tells}
use Rattle.std.proofs.lemmas.List.{take-append-le}
use Rattle.std.proofs.lemmas.List.Elements.{All-push}
use Rattle.std.specs.FinMap as fin
use Rattle.pool_base.specs.declared.no_memory.NoMemory.{NoMemory}
use Rattle.pg_values.specs.declared.value.Value.{Value}
use Rattle.schema.specs.declared.catalogue.TableDef.{TableDef}
use Rattle.schema.specs.Allowed.{AreAllowed}
use Rattle.catalogue.specs.declared.checked.Checked.{Checked}
use Rattle.checked_sql.specs.Sound.{are_fit}
use Rattle.sql_eval.specs.declared.row.Row.{Row}
use Rattle.sql_eval.specs.declared.effect.Change.{Change}
use Rattle.sql_eval.specs.Effects.{DrawsFew}
use Rattle.backend_trait.specs.Typed.{IsStored}
use Rattle.backend_trait.specs.declared.answer.Answer.{Answer}
use Rattle.backend_trait.specs.Keys.{Place}
use Rattle.backend_trait.specs.Rows.{Changes, laid_over, joined_changes}
use Rattle.classifier.specs.Classes.{lock_of}
use Rattle.backend_trait.specs.Effect.{Given, Fails, Gives, effect_of, changes_of, table_in}
use Rattle.backend_trait.specs.Store.{Store, Live, Transaction, Absent, Alive, Dead, Pending, IsLocked, blank, prepared, drawn, given_to, next_for, view_of, where_live}
use Rattle.backend_trait.specs.Acts.{WhereSome}
use Rattle.backend_trait.proofs.RowLaws.{change_over, get-joined_changes}
use Rattle.outcomes.specs.declared.change.ChangeSet.{ChangeSet}
use Rattle.outcomes.specs.declared.outcome.Outcome.{Outcome}
use Rattle.outcomes.specs.Given.{given_in}
use Rattle.outcomes.specs.Log.{rows_of}
use Rattle.outcomes.specs.Stored.{AreLeftStored, AreAllStored, IsSetStored}
use Rattle.outcomes.proofs.StoredRows.{left_stored, none_stored_left}
use Rattle.outcomes.proofs.Shaped.{rows_shaped}
use Rattle.model_store.specs.declared.phase.Work.{Work}
use Rattle.model_store.specs.declared.phase.Phase.{Phase}
use Rattle.model_store.specs.declared.phase.Phase.TheVariants as phases
use Rattle.model_store.specs.declared.phase.Run.{Run}
use Rattle.model_store.specs.declared.phase.Waiting.{Waiting}
use Rattle.model_store.specs.declared.phase.Waiting.TheVariants as waits
use Rattle.model_store.specs.declared.seat.Seat.{Seat}
use Rattle.model_store.specs.declared.verdict.Verdict.TheVariants as verdicts
use Rattle.model_store.specs.Phases.{live_of, transaction_of, request_of, fits, held_by_phase, numbered, mark_of, pending_of, granted, with_set, logged, with_lock, run_of, IsGivenIn, IsGivenRun, IsGivenAt, IsGranted}
use Rattle.model_store.specs.Seats.{pending_in, store_of, mark_in, AreGiven, IsGivenTo}
use Rattle.model_store.specs.Conflicts.{held_in, AreApart}
use Rattle.model_store.specs.Acting.{MayRunAt}
use Rattle.model_store.specs.Stored.{AreStoredIn, AreStoredIn-prop, AreStoredAt}
use Rattle.model_store.specs.Verdicts.{Fits}
use Rattle.model_store.proofs.VerdictLaws.{wants_live, live_there}
use Rattle.model_store.proofs.NumberLaws.{granted_moved, refused_moved, stays_beside}
use Rattle.backend_trait.proofs.Moved.{IsMovedBy}
use Rattle.model_store.proofs.ActLaws.{waiting_there}
use Rattle.model_store.proofs.FormedLaws.{seen_stored}
use Rattle.model_store.proofs.StoreLaws.{set_same, set_other}

-- ---- changes of a transaction

abbrev pub IsLiveStored : List TableDef → Transaction → Type 0
IsLiveStored tables Absent = Unit {0}
IsLiveStored tables (Alive t) = AreLeftStored tables t.changes
IsLiveStored tables Dead = Unit {0}

pub live_stored : (tables : List TableDef) (log : List ChangeSet) (phase : Phase) → AreStoredIn tables phase → IsLiveStored tables (transaction_of log phase)
live_stored tables log phases.Absent stored = tt
live_stored tables log (phases.Open work) stored = stored
live_stored tables log phases.Dead stored = tt

pub stored_live : (tables : List TableDef) (log : List ChangeSet) (phase : Phase) → IsLiveStored tables (transaction_of log phase) → AreStoredIn tables phase
stored_live tables log phases.Absent stored = tt
stored_live tables log (phases.Open work) stored = stored
stored_live tables log phases.Dead stored = tt

-- a transaction that stays is stored still
pub stored_stays : (tables : List TableDef) (log : List ChangeSet) (old new : Phase) → transaction_of log new ≡ transaction_of log old → AreStoredIn tables old → AreStoredIn tables new
stored_stays tables log old new same stored = stored_live tables log new (subst (IsLiveStored tables) (sym same) (live_stored tables log old stored))

either_stored : (tables : List TableDef) (p : Place) (row : Row) (new old : Option (Option Row)) → (new ≡ Some (Some row) → IsStored (slice_get tables p.table) p.key row)
    → (old ≡ Some (Some row) → IsStored (slice_get tables p.table) p.key row) → change_over new old ≡ Some (Some row) → IsStored (slice_get tables p.table) p.key row
either_stored tables p row None old left before is = before is
either_stored tables p row (Some new) old left before is = left is

joined_stored : (tables : List TableDef) (new old : Changes) → AreLeftStored tables new → AreLeftStored tables old → AreLeftStored tables (joined_changes new old)
joined_stored tables new old left before = λ p row there.
    either_stored tables p row (fin.get new p) (fin.get old p) (left p row) (before p row) (sym (get-joined_changes new old p) ∙ there)

-- what a statement gives its transaction is stored
given_stored : (tables : List TableDef) (t : Live) (given : Given) → AreLeftStored tables t.changes → ((answer : Answer) (changes : Changes) (places : List Place) → given ≡ Gives answer changes places → AreLeftStored tables changes)
    → AreLeftStored tables (given_to given t).changes
given_stored tables t (Fails code) before left = before
given_stored tables t (Gives answer changes places) before left = joined_stored tables changes t.changes (left answer changes places refl) before

run_stored : (numbers : ℕ → Option ℤ) (tables : List TableDef) (log : List ChangeSet) (work : Work) (run : Run) → AreAllowed tables → AreAllStored tables log → IsSetStored tables work.own → IsGivenIn numbers tables (live_of log work) run
    → AreLeftStored tables (given_to (given_in run.outcome) (live_of log work)).changes
run_stored numbers tables log work run allowed committed own given =
    given_stored tables (live_of log work) (given_in run.outcome) own (λ answer changes places is.
    left_stored tables (view_of (live_of log work)) changes
    (rows_shaped tables run.statement (view_of (live_of log work)) given.runnable (seen_stored tables log work committed own) allowed (next_for numbers (table_in run.statement)) answer changes places (sym given.effect ∙ is)))

lock_stored : (tables : List TableDef) (table : ℕ) (x : Transaction) → IsLiveStored tables x → IsLiveStored tables (where_live (with_lock table) x)
lock_stored tables table Absent stored = tt
lock_stored tables table (Alive t) stored = stored
lock_stored tables table Dead stored = tt

granted_stored : (numbers : ℕ → Option ℤ) (tables : List TableDef) (log : List ChangeSet) (phase : Phase) (waiting : Waiting) → AreAllowed tables → AreAllStored tables log → AreStoredIn tables phase → IsGivenAt numbers tables log phase (Some waiting)
    → IsLiveStored tables (granted log phase waiting)
granted_stored numbers tables log phase waits.Snapshot allowed committed stored given = none_stored_left tables
granted_stored numbers tables log phases.Absent (waits.Run run) allowed committed stored given = tt
granted_stored numbers tables log (phases.Open work) (waits.Run run) allowed committed stored given = run_stored numbers tables log work run allowed committed stored given
granted_stored numbers tables log phases.Dead (waits.Run run) allowed committed stored given = tt
granted_stored numbers tables log phase (waits.Lock table) allowed committed stored given = lock_stored tables table (transaction_of log phase) (live_stored tables log phase stored)
granted_stored numbers tables log phase waits.Commit allowed committed stored given = tt
granted_stored numbers tables log phase waits.Rollback allowed committed stored given = tt
granted_stored numbers tables log phase (waits.ReadSerial table) allowed committed stored given = live_stored tables log phase stored
granted_stored numbers tables log phase (waits.SetSerial table n) allowed committed stored given = live_stored tables log phase stored

-- ---- the log

with_set_stored : (tables : List TableDef) (log : List ChangeSet) (phase : Phase) → AreAllStored tables log → AreStoredIn tables phase → AreAllStored tables (with_set log phase)
with_set_stored tables log phases.Absent committed stored = committed
with_set_stored tables log (phases.Open work) committed stored = All-push (IsSetStored tables) log work.own committed stored
with_set_stored tables log phases.Dead committed stored = committed

logged_stored : (tables : List TableDef) (log : List ChangeSet) (phase : Phase) (waiting : Waiting) → AreAllStored tables log → AreStoredIn tables phase → AreAllStored tables (logged log phase waiting)
logged_stored tables log phase waits.Snapshot committed stored = committed
logged_stored tables log phase (waits.Run run) committed stored = committed
logged_stored tables log phase (waits.Lock table) committed stored = committed
logged_stored tables log phase waits.Commit committed stored = with_set_stored tables log phase committed stored
logged_stored tables log phase waits.Rollback committed stored = committed
logged_stored tables log phase (waits.ReadSerial table) committed stored = committed
logged_stored tables log phase (waits.SetSerial table n) committed stored = committed

-- ---- what waits

-- a set that another commits is behind the marks, so a transaction sees what it saw
given_behind : (numbers : ℕ → Option ℤ) (tables : List TableDef) (log : List ChangeSet) (set : ChangeSet) (work : Work) (run : Run) → work.mark ≤ length log → IsGivenIn numbers tables (live_of log work) run → IsGivenIn numbers tables (live_of (log ++ set ∷ []) work) run
given_behind numbers tables log set work run within given =
    let base : take work.mark (log ++ set ∷ []) ≡ take work.mark log = take-append-le work.mark log (set ∷ []) within in
    record {
      runnable = given.runnable;
      locked = given.locked;
      effect = given.effect
          ∙ ap (λ (l : List ChangeSet). (effect_of tables run.statement (laid_over (changes_of work.own.changes.items) (rows_of l)) (next_for numbers (table_in run.statement))).given) (sym base);
    }

run_behind : (numbers : ℕ → Option ℤ) (tables : List TableDef) (log : List ChangeSet) (set : ChangeSet) (phase : Phase) (run : Run) → mark_of phase ≤ length log → IsGivenRun numbers tables log phase run → IsGivenRun numbers tables (log ++ set ∷ []) phase run
run_behind numbers tables log set phases.Absent run within given = tt
run_behind numbers tables log set (phases.Open work) run within given = given_behind numbers tables log set work run within given
run_behind numbers tables log set phases.Dead run within given = tt

at_behind : (numbers : ℕ → Option ℤ) (tables : List TableDef) (log : List ChangeSet) (set : ChangeSet) (phase : Phase) (waiting : Option Waiting) → mark_of phase ≤ length log → IsGivenAt numbers tables log phase waiting → IsGivenAt numbers tables (log ++ set ∷ []) phase waiting
at_behind numbers tables log set phase None within given = tt
at_behind numbers tables log set phase (Some waits.Snapshot) within given = tt
at_behind numbers tables log set phase (Some (waits.Run run)) within given = run_behind numbers tables log set phase run within given
at_behind numbers tables log set phase (Some (waits.Lock table)) within given = tt
at_behind numbers tables log set phase (Some waits.Commit) within given = tt
at_behind numbers tables log set phase (Some waits.Rollback) within given = tt
at_behind numbers tables log set phase (Some (waits.ReadSerial table)) within given = given
at_behind numbers tables log set phase (Some (waits.SetSerial table n)) within given = given

to_behind : (numbers : ℕ → Option ℤ) (tables : List TableDef) (log : List ChangeSet) (set : ChangeSet) (x : Option Seat) → mark_in x ≤ length log → IsGivenTo numbers tables log x → IsGivenTo numbers tables (log ++ set ∷ []) x
to_behind numbers tables log set None within given = tt
to_behind numbers tables log set (Some seat) within given = at_behind numbers tables log set seat.phase seat.waiting within given

to_with_set : (numbers : ℕ → Option ℤ) (tables : List TableDef) (log : List ChangeSet) (phase : Phase) (x : Option Seat) → mark_in x ≤ length log → IsGivenTo numbers tables log x → IsGivenTo numbers tables (with_set log phase) x
to_with_set numbers tables log phases.Absent x within given = given
to_with_set numbers tables log (phases.Open work) x within given = to_behind numbers tables log work.own x within given
to_with_set numbers tables log phases.Dead x within given = given

to_logged : (numbers : ℕ → Option ℤ) (tables : List TableDef) (log : List ChangeSet) (phase : Phase) (waiting : Waiting) (x : Option Seat) → mark_in x ≤ length log → IsGivenTo numbers tables log x → IsGivenTo numbers tables (logged log phase waiting) x
to_logged numbers tables log phase waits.Snapshot x within given = given
to_logged numbers tables log phase (waits.Run run) x within given = given
to_logged numbers tables log phase (waits.Lock table) x within given = given
to_logged numbers tables log phase waits.Commit x within given = to_with_set numbers tables log phase x within given
to_logged numbers tables log phase waits.Rollback x within given = given
to_logged numbers tables log phase (waits.ReadSerial table) x within given = given
to_logged numbers tables log phase (waits.SetSerial table n) x within given = given

-- nothing waits in a seat any more
pub idle_given : (numbers : ℕ → Option ℤ) (tables : List TableDef) (log : List ChangeSet) (phase : Phase) (waiting : Option Waiting) → waiting ≡ None → IsGivenAt numbers tables log phase waiting
idle_given numbers tables log phase waiting none = subst (λ (w : Option Waiting). IsGivenAt numbers tables log phase w) (sym none) tt

-- ---- one seat is new

pub stored_set : (tables : List TableDef) (seats : List Seat) (at : ℕ) (new : Seat) → at < length seats → AreStoredIn tables new.phase → ((s : ℕ) → AreStoredAt tables (slice_get seats s)) → (s : ℕ) → AreStoredAt tables (slice_get (slice_set seats at new) s)
stored_set tables seats at new below own all s = elim (eqb_tells s at) [
  | inl p ↦ subst (AreStoredAt tables) (sym (ap (slice_get (slice_set seats at new)) p.1 ∙ set_same seats at new below)) own
  | inr p ↦ subst (AreStoredAt tables) (sym (set_other seats at s new p.1)) (all s)
]

pub given_set : (numbers : ℕ → Option ℤ) (tables : List TableDef) (log : List ChangeSet) (seats : List Seat) (at : ℕ) (new : Seat) → at < length seats → IsGivenAt numbers tables log new.phase new.waiting → ((s : ℕ) → s ≢ at → IsGivenTo numbers tables log (slice_get seats s))
    → AreGiven numbers tables log (slice_set seats at new)
given_set numbers tables log seats at new below own all s = elim (eqb_tells s at) [
  | inl p ↦ subst (IsGivenTo numbers tables log) (sym (ap (slice_get (slice_set seats at new)) p.1 ∙ set_same seats at new below)) own
  | inr p ↦ subst (IsGivenTo numbers tables log) (sym (set_other seats at s new p.1)) (all s p.1)
]

-- ---- a grant

module _ (numbers : ℕ → Option ℤ) (tables : List TableDef) (log later : List ChangeSet) (seats : List Seat) (at : ℕ) (seat new : Seat) (answer : Answer) (below : at < length seats) (there : slice_get seats at ≡ Some seat) (goes : WhereSome (pending_in (slice_get seats at)) (λ p. Fits (store_of numbers tables log seats false) at p.request verdicts.Goes)) (granted_is : (waiting : Waiting) → seat.waiting ≡ Some waiting → IsGranted numbers log seat.phase waiting answer later new.phase) where
  own_stored : ((s : ℕ) → AreStoredAt tables (slice_get seats s)) → AreStoredIn tables seat.phase
  own_stored stored = subst (AreStoredAt tables) there (stored at)

  own_given : AreGiven numbers tables log seats → (waiting : Waiting) → seat.waiting ≡ Some waiting → IsGivenAt numbers tables log seat.phase (Some waiting)
  own_given given waiting is = subst (λ (w : Option Waiting). IsGivenAt numbers tables log seat.phase w) is (subst (IsGivenTo numbers tables log) there (given at))

  pub committed_granted : AreAllStored tables log → ((s : ℕ) → AreStoredAt tables (slice_get seats s)) → AreAllStored tables later
  committed_granted committed stored =
      let (waiting, waits_is, fit) = waiting_there seats at seat (λ r. Fits (store_of numbers tables log seats false) at r verdicts.Goes) there goes in
      subst (AreAllStored tables) (sym (granted_is waiting waits_is).log_is) (logged_stored tables log seat.phase waiting committed (own_stored stored))

  new_stored : AreAllowed tables → AreAllStored tables log → ((s : ℕ) → AreStoredAt tables (slice_get seats s)) → AreGiven numbers tables log seats → AreStoredIn tables new.phase
  new_stored allowed committed stored given =
      let (waiting, waits_is, fit) = waiting_there seats at seat (λ r. Fits (store_of numbers tables log seats false) at r verdicts.Goes) there goes in
      stored_live tables log new.phase (subst (IsLiveStored tables) (sym (granted_is waiting waits_is).next_is)
      (granted_stored numbers tables log seat.phase waiting allowed committed (own_stored stored) (own_given given waiting waits_is)))

  pub stored_granted : ∥ AreAllowed tables ∥₁ → AreAllStored tables log → ((s : ℕ) → AreStoredAt tables (slice_get seats s)) → AreGiven numbers tables log seats → (s : ℕ) → AreStoredAt tables (slice_get (slice_set seats at new) s)
  stored_granted allowed committed stored given =
      stored_set tables seats at new below (∥∥₁_elim allowed (AreStoredIn-prop tables new.phase) (λ a. new_stored a committed stored given)) stored

  pub given_granted : (moved : ℕ → Option ℤ) → ((waiting : Waiting) → seat.waiting ≡ Some waiting → moved ≡ numbered tables numbers waiting) → AreApart seats → new.waiting ≡ None
      → ((s : ℕ) → mark_in (slice_get seats s) ≤ length log) → AreGiven numbers tables log seats → AreGiven moved tables later (slice_set seats at new)
  given_granted moved moved_is apart none marked given =
      let (waiting, waits_is, fit) = waiting_there seats at seat (λ r. Fits (store_of numbers tables log seats false) at r verdicts.Goes) there goes in
      let live : wants_live waiting ≡ true → (work : Work) × (seat.phase ≡ phases.Open work) = λ w. live_there seat.phase waiting w (ap (fits seat.phase) (sym waits_is) ∙ seat.fitting) in
      let by : IsMovedBy (held_by_phase seat.phase) numbers moved =
      subst (IsMovedBy (held_by_phase seat.phase) numbers) (sym (moved_is waiting waits_is)) (granted_moved numbers tables log seat.phase waiting live (own_given given waiting waits_is)) in
      given_set moved tables later seats at new below (idle_given moved tables later new.phase new.waiting none)
      (λ s other. stays_beside numbers moved tables later (held_by_phase seat.phase) by seats at apart (sym (ap held_in there)) s other
      (subst (λ (l : List ChangeSet). IsGivenTo numbers tables l (slice_get seats s)) (sym (granted_is waiting waits_is).log_is)
      (to_logged numbers tables log seat.phase waiting (slice_get seats s) (marked s) (given s))))

-- ---- a refusal

pub stored_refused : (tables : List TableDef) (seats : List Seat) (at : ℕ) (new : Seat) → at < length seats → new.phase ≡ phases.Dead → ((s : ℕ) → AreStoredAt tables (slice_get seats s)) → (s : ℕ) → AreStoredAt tables (slice_get (slice_set seats at new) s)
stored_refused tables seats at new below dead stored = stored_set tables seats at new below (subst (AreStoredIn tables) (sym dead) tt) stored

-- a statement that waits draws no more than are counted
pub few_there : (numbers : ℕ → Option ℤ) (tables : List TableDef) (log : List ChangeSet) (seats : List Seat) (at : ℕ) (seat : Seat) → slice_get seats at ≡ Some seat → AreGiven numbers tables log seats
    → (run : Run) → seat.waiting ≡ Some (waits.Run run) → DrawsFew run.statement.body
few_there numbers tables log seats at seat there given run is =
    let (work, open_is) = live_there seat.phase (waits.Run run) refl (ap (fits seat.phase) (sym is) ∙ seat.fitting) in
    let own : IsGivenAt numbers tables log seat.phase (Some (waits.Run run)) = subst (λ (w : Option Waiting). IsGivenAt numbers tables log seat.phase w) is (subst (IsGivenTo numbers tables log) there (given at)) in
    let here : IsGivenIn numbers tables (live_of log work) run = subst (λ (p : Phase). IsGivenRun numbers tables log p run) open_is own in
    here.runnable.few

pub some_waits : (x : Option Pending) (P : Pending → Type 0) → WhereSome x P → IsSome x
some_waits None P h = absurd h
some_waits (Some p) P h = refl

pub given_refused : (numbers moved : ℕ → Option ℤ) (tables : List TableDef) (log : List ChangeSet) (seats : List Seat) (at : ℕ) (seat new : Seat) → at < length seats → slice_get seats at ≡ Some seat → IsSome (pending_in (slice_get seats at))
    → ((waiting : Waiting) → seat.waiting ≡ Some waiting → moved ≡ drawn tables numbers (request_of waiting)) → AreApart seats → new.waiting ≡ None → AreGiven numbers tables log seats → AreGiven moved tables log (slice_set seats at new)
given_refused numbers moved tables log seats at seat new below there waits moved_is apart none given = go seat.waiting refl
  where
    go : (w : Option Waiting) → seat.waiting ≡ w → AreGiven moved tables log (slice_set seats at new)
    go None is = absurd (let f : false ≡ true = sym (ap (λ (x : Option Seat). is_some (pending_in x)) there ∙ ap (λ (x : Option Waiting). is_some (pending_of x)) is) ∙ waits in cc)
    go (Some waiting) is =
        let live : wants_live waiting ≡ true → (work : Work) × (seat.phase ≡ phases.Open work) = λ w. live_there seat.phase waiting w (ap (fits seat.phase) (sym is) ∙ seat.fitting) in
        let own : IsGivenAt numbers tables log seat.phase (Some waiting) = subst (λ (w : Option Waiting). IsGivenAt numbers tables log seat.phase w) is (subst (IsGivenTo numbers tables log) there (given at)) in
        let by : IsMovedBy (held_by_phase seat.phase) numbers moved =
        subst (IsMovedBy (held_by_phase seat.phase) numbers) (sym (moved_is waiting is)) (refused_moved numbers tables log seat.phase waiting live own) in
        given_set moved tables log seats at new below (idle_given moved tables log new.phase new.waiting none)
        (λ s other. stays_beside numbers moved tables log (held_by_phase seat.phase) by seats at apart (sym (ap held_in there)) s other (given s))

-- ---- a post

pub stored_posted : (tables : List TableDef) (log : List ChangeSet) (seats : List Seat) (at : ℕ) (seat new : Seat) → at < length seats → slice_get seats at ≡ Some seat → transaction_of log new.phase ≡ transaction_of log seat.phase
    → ((s : ℕ) → AreStoredAt tables (slice_get seats s)) → (s : ℕ) → AreStoredAt tables (slice_get (slice_set seats at new) s)
stored_posted tables log seats at seat new below there same stored =
    stored_set tables seats at new below (stored_stays tables log seat.phase new.phase same (subst (AreStoredAt tables) there (stored at))) stored

pub given_posted : (numbers : ℕ → Option ℤ) (tables : List TableDef) (log later read : List ChangeSet) (seats : List Seat) (at : ℕ) (new : Seat) → later ≡ log → read ≡ later → at < length seats → IsGivenAt numbers tables read new.phase new.waiting → AreGiven numbers tables log seats
    → AreGiven numbers tables later (slice_set seats at new)
given_posted numbers tables log later read seats at new log_is read_is below own given =
    given_set numbers tables later seats at new below (subst (λ (l : List ChangeSet). IsGivenAt numbers tables l new.phase new.waiting) read_is own)
    (λ s other. subst (λ (l : List ChangeSet). IsGivenTo numbers tables l (slice_get seats s)) (sym log_is) (given s))

pub stored_there : (tables : List TableDef) (seats : List Seat) (at : ℕ) (seat : Seat) → slice_get seats at ≡ Some seat → ((s : ℕ) → AreStoredAt tables (slice_get seats s)) → AreStoredIn tables seat.phase
stored_there tables seats at seat there stored = subst (AreStoredAt tables) there (stored at)

-- what a statement gives on what the code reads of the transaction's own changes, and of the next number of its table
pub seen_given : (numbers : ℕ → Option ℤ) (tables : List TableDef) (statement : Checked) (log : List ChangeSet) (work : Work) (read : List Change) (next : Option ℤ) (r : Result Outcome NoMemory) → read ≡ work.own.changes.items
    → next ≡ next_for numbers (table_in statement)
    → IfOk r (λ o. given_in o ≡ (effect_of tables statement (laid_over (changes_of read) (rows_of (take work.mark log))) next).given)
    → IfOk r (λ o. given_in o ≡ (effect_of tables statement (view_of (live_of log work)) (next_for numbers (table_in statement))).given)
seen_given numbers tables statement log work read next r same next_is h =
    subst (λ (n : Option ℤ). IfOk r (λ o. given_in o ≡ (effect_of tables statement (view_of (live_of log work)) n).given)) next_is
    (subst (λ (cs : List Change). IfOk r (λ o. given_in o ≡ (effect_of tables statement (laid_over (changes_of cs) (rows_of (take work.mark log))) next).given)) same h)

-- and what waits then
pub given_by_run : (numbers : ℕ → Option ℤ) (tables : List TableDef) (log : List ChangeSet) (statement : Checked) (phase : Phase) (old new : Work) (r : Result Outcome NoMemory) → phase ≡ phases.Open old → MayRunAt tables phase statement
    → live_of log new ≡ live_of log old → IfOk r (λ o. given_in o ≡ (effect_of tables statement (view_of (live_of log old)) (next_for numbers (table_in statement))).given)
    → IfOk r (λ o. IsGivenAt numbers tables log (phases.Open new) (run_of statement o))
given_by_run numbers tables log statement phase old new (Ok outcome) open_is may same given =
    let here : MayRunAt tables (phases.Open old) statement = subst (λ (p : Phase). MayRunAt tables p statement) open_is may in
    record {
      runnable = here.0;
      locked = subst (λ (t : Live). IsLocked t.held (lock_of statement.body)) (sym same) here.1;
      effect = given ∙ ap (λ (t : Live). (effect_of tables statement (view_of t) (next_for numbers (table_in statement))).given) (sym same);
    }
given_by_run numbers tables log statement phase old new (Err e) open_is may same given = tt

-- ---- tables for a store that is blank

no_row : (cells : List Value) (key : Value) → are_fit [] cells ≡ true → slice_get cells 0 ≡ Some key → ⊥
no_row [] key fit own = let f : None ≡ Some key = own in cc
no_row (v ∷ cells) key fit own = let f : false ≡ true = fit in cc

-- without tables nothing stands anywhere
nothing_left : (tables : List TableDef) (changes : Changes) → AreLeftStored [] changes → AreLeftStored tables changes
nothing_left tables changes left = λ p row there. let stored = left p row there in absurd (no_row row.cells p.key stored.columns stored.own)

pub prepared_committed : (old tables : List TableDef) (log : List ChangeSet) → old ≡ [] → AreAllStored old log → AreAllStored tables log
prepared_committed old tables log none committed = λ k d below.
    nothing_left tables (changes_of (get_or log k d).changes.items) (subst (λ (ts : List TableDef). AreLeftStored ts (changes_of (get_or log k d).changes.items)) none (committed k d below))

prepared_in : (old tables : List TableDef) (phase : Phase) → old ≡ [] → AreStoredIn old phase → AreStoredIn tables phase
prepared_in old tables phases.Absent none stored = tt
prepared_in old tables (phases.Open work) none stored =
    nothing_left tables (changes_of work.own.changes.items) (subst (λ (ts : List TableDef). AreLeftStored ts (changes_of work.own.changes.items)) none stored)
prepared_in old tables phases.Dead none stored = tt

pub prepared_stored : (old tables : List TableDef) (x : Option Seat) → old ≡ [] → AreStoredAt old x → AreStoredAt tables x
prepared_stored old tables None none stored = tt
prepared_stored old tables (Some seat) none stored = prepared_in old tables seat.phase none stored

idle_waiting : (waiting : Option Waiting) → pending_of waiting ≡ None → waiting ≡ None
idle_waiting None is = refl
idle_waiting (Some waiting) is = absurd (cc)

pub prepared_given : (numbers : ℕ → Option ℤ) (tables : List TableDef) (log : List ChangeSet) (x : Option Seat) → pending_in x ≡ None → IsGivenTo numbers tables log x
prepared_given numbers tables log None idle = tt
prepared_given numbers tables log (Some seat) idle = idle_given numbers tables log seat.phase seat.waiting (idle_waiting seat.waiting idle)

pub prepared_is : (numbers fresh : ℕ → Option ℤ) (old copy tables : List TableDef) (log : List ChangeSet) (seats : List Seat) (lost : Bool) → store_of numbers old log seats lost ≡ blank → copy ≡ tables → fresh ≡ (prepared tables).next
    → store_of fresh copy log seats lost ≡ prepared tables
prepared_is numbers fresh old copy tables log seats lost is same first =
    ap (λ (st : Store). record st { tables = copy; next = fresh }) is ∙ (ap (λ (n : ℕ → Option ℤ). record (prepared copy) { next = n }) first
    ∙ ap (λ (ts : List TableDef). record (prepared ts) { next = (prepared tables).next }) same)
