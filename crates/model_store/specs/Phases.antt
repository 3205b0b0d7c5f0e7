-- A session's part of the store: its transaction, and its request that waits.
use Rattle.std.specs.Prelude.{◌≡◌, ◌≤◌, ◌≤ℤ◌, is_some, ℕ, ℤ, pos, ◌+◌, Bool, true, false, if◌then◌else◌, ◌||◌, List, [], ◌∷◌, ◌++◌, map, Option, Some, None, take, drop, vec_capacity, vec_len, slice_index_or}
use Rattle.std.specs.Coded.{×_prop, Unit-prop, le_prop}
use Rattle.std.proofs.Props.{props}
use Rattle.schema.specs.declared.catalogue.TableDef.{TableDef}
use Rattle.catalogue.specs.declared.checked.Checked.{Checked}
use Rattle.catalogue.specs.declared.checked.CheckedBody.{CheckedBody}
use Rattle.catalogue.specs.declared.checked.CheckedBody.TheVariants as body
use Rattle.classifier.specs.Classes.{lock_of}
use Rattle.sql_eval.specs.declared.effect.Change.{Change}
use Rattle.sql_eval.specs.Effects.{DrawsFew}
use Rattle.backend_trait.specs.declared.request.Request.{Request}
use Rattle.backend_trait.specs.declared.request.Request.TheVariants as requests
use Rattle.backend_trait.specs.declared.answer.Answer.{Answer}
use Rattle.backend_trait.specs.declared.answer.Answer.TheVariants as answers
use Rattle.backend_trait.specs.Keys.{Place}
use Rattle.backend_trait.specs.Rows.{with_at}
use Rattle.backend_trait.specs.Effect.{Wants, nothing, both_wants, Gives, effect_of, changes_of, table_in}
use Rattle.backend_trait.specs.Store.{Live, Transaction, Absent, Alive, Dead, Pending, IsLocked, begun, drawn_by, given_to, next_for, table_lock, view_of, where_live}
use Rattle.backend_trait.specs.Runnable.{IsRunnable}
use Rattle.outcomes.specs.declared.change.ChangeSet.{ChangeSet}
use Rattle.model_store.specs.declared.phase.Work.{Work}
use Rattle.model_store.specs.declared.phase.Phase.{Phase}
use Rattle.model_store.specs.declared.phase.Phase.TheVariants as phases
use Rattle.outcomes.specs.declared.outcome.Outcome.{Outcome}
use Rattle.outcomes.specs.declared.outcome.Outcome.TheVariants as outcomes
use Rattle.model_store.specs.declared.phase.Run.{Run}
use Rattle.model_store.specs.declared.phase.Waiting.{Waiting}
use Rattle.model_store.specs.declared.phase.Waiting.TheVariants as waits
use Rattle.outcomes.specs.Log.{rows_of, has_changed}
use Rattle.outcomes.specs.Spots.{place_of}
use Rattle.outcomes.specs.Given.{given_in}
use Rattle.model_store.specs.Coding.{given_code}

-- ---- the transaction

-- it holds the places that its statements wanted, and the tables that it has locked
abbrev pub held_of : Work → Wants
held_of work = record { places = map place_of work.held.items; tables = λ t. slice_index_or work.locks t false }

abbrev pub held_by_phase : Phase → Wants
held_by_phase phases.Absent = nothing
held_by_phase (phases.Open work) = held_of work
held_by_phase phases.Dead = nothing

-- it sees the sets before its mark, and those behind it are stale to it
abbrev pub live_of : List ChangeSet → Work → Live
live_of log work = record { base = rows_of (take work.mark log); changes = changes_of work.own.changes.items; held = held_of work; stale = has_changed (drop work.mark log) }

abbrev pub transaction_of : List ChangeSet → Phase → Transaction
transaction_of log phases.Absent = Absent
transaction_of log (phases.Open work) = Alive (live_of log work)
transaction_of log phases.Dead = Dead

abbrev pub mark_of : Phase → ℕ
mark_of phases.Absent = 0
mark_of (phases.Open work) = work.mark
mark_of phases.Dead = 0

abbrev pub is_open : Phase → Bool
is_open phases.Absent = false
is_open (phases.Open work) = true
is_open phases.Dead = false

-- ---- the request that waits

abbrev pub request_of : Waiting → Request
request_of waits.Snapshot = requests.TakeSnapshot
request_of (waits.Run run) = requests.Run run.statement
request_of (waits.Lock table) = requests.Lock table
request_of waits.Commit = requests.Commit
request_of waits.Rollback = requests.Rollback
request_of (waits.ReadSerial table) = requests.ReadSerial table
request_of (waits.SetSerial table n) = requests.SetSerial table n

abbrev pub pending_of : Option Waiting → Option Pending
pending_of None = None
pending_of (Some waiting) = Some (record { request = request_of waiting; crossed = false })

-- what waits fits the transaction: a snapshot wants none, and runs, locks and commits want a live one, as does a number that is set
abbrev pub fits : Phase → Option Waiting → Bool
fits phase None = true
fits phases.Absent (Some waits.Snapshot) = true
fits phases.Absent (Some waits.Rollback) = true
fits phases.Absent (Some (waits.ReadSerial table)) = true
fits phases.Absent (Some waiting) = false
fits (phases.Open work) (Some waits.Snapshot) = false
fits (phases.Open work) (Some waiting) = true
fits phases.Dead (Some waits.Rollback) = true
fits phases.Dead (Some (waits.ReadSerial table)) = true
fits phases.Dead (Some waiting) = false

-- a statement that waits can be run, has the lock that it needs, and gives its effect on what its transaction sees and on the next
-- number of its table
pub record IsGivenIn (numbers : ℕ → Option ℤ) (tables : List TableDef) (t : Live) (run : Run) : Type 0 where
  pub runnable : IsRunnable tables run.statement
  pub locked : IsLocked t.held (lock_of run.statement.body)
  pub effect : given_in run.outcome ≡ (effect_of tables run.statement (view_of t) (next_for numbers (table_in run.statement))).given

abbrev pub IsGivenRun : (ℕ → Option ℤ) → List TableDef → List ChangeSet → Phase → Run → Type 0
IsGivenRun numbers tables log phases.Absent run = Unit {0}
IsGivenRun numbers tables log (phases.Open work) run = IsGivenIn numbers tables (live_of log work) run
IsGivenRun numbers tables log phases.Dead run = Unit {0}

-- a number that is to be set: the session has the table's lock, and the number is 1 at least
pub record MayBeSet (held : Wants) (table : ℕ) (n : ℤ) : Type 0 where
  pub locked : held.tables table ≡ true
  pub positive : pos 1 ≤ℤ n

abbrev pub IsGivenAt : (ℕ → Option ℤ) → List TableDef → List ChangeSet → Phase → Option Waiting → Type 0
IsGivenAt numbers tables log phase None = Unit {0}
IsGivenAt numbers tables log phase (Some waits.Snapshot) = Unit {0}
IsGivenAt numbers tables log phase (Some (waits.Run run)) = IsGivenRun numbers tables log phase run
IsGivenAt numbers tables log phase (Some (waits.Lock table)) = Unit {0}
IsGivenAt numbers tables log phase (Some waits.Commit) = Unit {0}
IsGivenAt numbers tables log phase (Some waits.Rollback) = Unit {0}
IsGivenAt numbers tables log phase (Some (waits.ReadSerial table)) = is_some (numbers table) ≡ true
IsGivenAt numbers tables log phase (Some (waits.SetSerial table n)) = MayBeSet (held_by_phase phase) table n

-- a statement that waits
abbrev pub run_of : Checked → Outcome → Option Waiting
run_of statement outcome = Some (waits.Run (record { statement = statement; outcome = outcome }))

few-prop : (statement : CheckedBody) → IsProp (DrawsFew statement)
few-prop (body.Read read) = Unit-prop
few-prop (body.Insert insert) = le_prop
few-prop (body.Change change) = Unit-prop
few-prop (body.Remove remove) = Unit-prop

locked-prop : (held : Wants) (table : Option ℕ) → IsProp (IsLocked held table)
locked-prop held None = Unit-prop
locked-prop held (Some table) = Prim.hlevel props

IsGivenRun-prop : (numbers : ℕ → Option ℤ) (tables : List TableDef) (log : List ChangeSet) (phase : Phase) (run : Run) → IsProp (IsGivenRun numbers tables log phase run)
IsGivenRun-prop numbers tables log phases.Absent run = Unit-prop
IsGivenRun-prop numbers tables log (phases.Open work) run = Prim.hlevel (props, few-prop, locked-prop, given_code)
IsGivenRun-prop numbers tables log phases.Dead run = Unit-prop

pub IsGivenAt-prop : (numbers : ℕ → Option ℤ) (tables : List TableDef) (log : List ChangeSet) (phase : Phase) (waiting : Option Waiting) → IsProp (IsGivenAt numbers tables log phase waiting)
IsGivenAt-prop numbers tables log phase None = Unit-prop
IsGivenAt-prop numbers tables log phase (Some waits.Snapshot) = Unit-prop
IsGivenAt-prop numbers tables log phase (Some (waits.Run run)) = IsGivenRun-prop numbers tables log phase run
IsGivenAt-prop numbers tables log phase (Some (waits.Lock table)) = Unit-prop
IsGivenAt-prop numbers tables log phase (Some waits.Commit) = Unit-prop
IsGivenAt-prop numbers tables log phase (Some waits.Rollback) = Unit-prop
IsGivenAt-prop numbers tables log phase (Some (waits.ReadSerial table)) = Prim.hlevel props
IsGivenAt-prop numbers tables log phase (Some (waits.SetSerial table n)) = Prim.hlevel props

-- ---- room

-- the transaction has room for what a statement gives
abbrev pub has_room_for : Work → Outcome → Type 0
has_room_for work (outcomes.Fails code) = Unit {0}
has_room_for work (outcomes.Gives answer changes places) =
    (vec_len work.own.changes + vec_len changes ≤ vec_capacity work.own.changes) × (vec_len work.held + vec_len places ≤ vec_capacity work.held)

abbrev pub has_room_run : Phase → Outcome → Type 0
has_room_run phases.Absent outcome = Unit {0}
has_room_run (phases.Open work) outcome = has_room_for work outcome
has_room_run phases.Dead outcome = Unit {0}

abbrev pub has_room_in : Phase → Option Waiting → Type 0
has_room_in phase None = Unit {0}
has_room_in phase (Some waits.Snapshot) = Unit {0}
has_room_in phase (Some (waits.Run run)) = has_room_run phase run.outcome
has_room_in phase (Some (waits.Lock table)) = Unit {0}
has_room_in phase (Some waits.Commit) = Unit {0}
has_room_in phase (Some waits.Rollback) = Unit {0}
has_room_in phase (Some (waits.ReadSerial table)) = Unit {0}
has_room_in phase (Some (waits.SetSerial table n)) = Unit {0}

has_room_for-prop : (work : Work) (outcome : Outcome) → IsProp (has_room_for work outcome)
has_room_for-prop work (outcomes.Fails code) = Unit-prop
has_room_for-prop work (outcomes.Gives answer changes places) = ×_prop le_prop le_prop

has_room_run-prop : (phase : Phase) (outcome : Outcome) → IsProp (has_room_run phase outcome)
has_room_run-prop phases.Absent outcome = Unit-prop
has_room_run-prop (phases.Open work) outcome = has_room_for-prop work outcome
has_room_run-prop phases.Dead outcome = Unit-prop

pub has_room_in-prop : (phase : Phase) (waiting : Option Waiting) → IsProp (has_room_in phase waiting)
has_room_in-prop phase None = Unit-prop
has_room_in-prop phase (Some waits.Snapshot) = Unit-prop
has_room_in-prop phase (Some (waits.Run run)) = has_room_run-prop phase run.outcome
has_room_in-prop phase (Some (waits.Lock table)) = Unit-prop
has_room_in-prop phase (Some waits.Commit) = Unit-prop
has_room_in-prop phase (Some waits.Rollback) = Unit-prop
has_room_in-prop phase (Some (waits.ReadSerial table)) = Unit-prop
has_room_in-prop phase (Some (waits.SetSerial table n)) = Unit-prop

abbrev pub begins : Option Waiting → Bool
begins (Some waits.Snapshot) = true
begins waiting = false

-- whether the log keeps room for one more set of the session
abbrev pub owed : Phase → Option Waiting → ℕ
owed phase waiting = if is_open phase || begins waiting then 1 else 0

-- ---- grants

-- whether it can be granted: all but a statement that is refused
abbrev pub is_result : Outcome → Bool
is_result (outcomes.Fails code) = false
is_result (outcomes.Gives answer changes places) = true

abbrev pub gives : Waiting → Bool
gives (waits.Run run) = is_result run.outcome
gives waiting = true

abbrev pub live_after : List Change → List Place → Live → Live
live_after changes places t = given_to (Gives answers.Done (changes_of changes) places) t

abbrev pub with_lock : ℕ → Live → Live
with_lock table t = record t { held = both_wants (table_lock table) t.held }

-- the transaction once its request has been granted
abbrev pub granted : List ChangeSet → Phase → Waiting → Transaction
granted log phase waits.Snapshot = Alive (begun (rows_of log))
granted log phase (waits.Run run) = where_live (given_to (given_in run.outcome)) (transaction_of log phase)
granted log phase (waits.Lock table) = where_live (with_lock table) (transaction_of log phase)
granted log phase waits.Commit = Absent
granted log phase waits.Rollback = Absent
granted log phase (waits.ReadSerial table) = transaction_of log phase
granted log phase (waits.SetSerial table n) = transaction_of log phase

-- the log then
abbrev pub with_set : List ChangeSet → Phase → List ChangeSet
with_set log phases.Absent = log
with_set log (phases.Open work) = log ++ work.own ∷ []
with_set log phases.Dead = log

abbrev pub logged : List ChangeSet → Phase → Waiting → List ChangeSet
logged log phase waits.Commit = with_set log phase
logged log phase waiting = log

-- the answer
abbrev pub answer_of : Outcome → Answer
answer_of (outcomes.Fails code) = answers.Refused code
answer_of (outcomes.Gives answer changes places) = answer

-- the next number of a table, which has one where it is told
abbrev pub number_told : Option ℤ → Answer
number_told None = answers.Done
number_told (Some n) = answers.Serial n

abbrev pub answer_to : (ℕ → Option ℤ) → Waiting → Answer
answer_to numbers waits.Snapshot = answers.Began
answer_to numbers (waits.Run run) = answer_of run.outcome
answer_to numbers (waits.Lock table) = answers.Locked
answer_to numbers waits.Commit = answers.Done
answer_to numbers waits.Rollback = answers.Done
answer_to numbers (waits.ReadSerial table) = number_told (numbers table)
answer_to numbers (waits.SetSerial table n) = answers.Done

-- the next numbers behind a request that is granted
abbrev pub numbered : List TableDef → (ℕ → Option ℤ) → Waiting → ℕ → Option ℤ
numbered tables numbers waits.Snapshot = numbers
numbered tables numbers (waits.Run run) = drawn_by tables run.statement numbers
numbered tables numbers (waits.Lock table) = numbers
numbered tables numbers waits.Commit = numbers
numbered tables numbers waits.Rollback = numbers
numbered tables numbers (waits.ReadSerial table) = numbers
numbered tables numbers (waits.SetSerial table n) = with_at numbers table (Some n)

-- a request has been granted
pub record IsGranted (numbers : ℕ → Option ℤ) (log : List ChangeSet) (phase : Phase) (waiting : Waiting) (answer : Answer) (later : List ChangeSet) (next : Phase) : Type 0 where
  pub log_is : later ≡ logged log phase waiting
  pub next_is : transaction_of log next ≡ granted log phase waiting
  pub answer_is : answer ≡ answer_to numbers waiting
