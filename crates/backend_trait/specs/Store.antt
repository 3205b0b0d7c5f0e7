-- A snapshot-isolation store: what it is, and what a post and an answer leave.
use Rattle.std.specs.Prelude.{◌≡◌, ◌≤ℤ◌, ℕ, ℤ, pos, ◌+ℤ◌, Bool, true, false, ◌||◌, ◌==◌, if◌then◌else◌, is_some, List, [], ◌++◌, Option, Some, None, slice_get}
use Rattle.std.specs.FinMap as fin
use Rattle.schema.specs.declared.catalogue.TableDef.{TableDef}
use Rattle.catalogue.specs.declared.checked.Checked.{Checked}
use Rattle.classifier.specs.Classes.{lock_of}
use Rattle.backend_trait.specs.declared.request.Request.{Request}
use Rattle.backend_trait.specs.declared.request.Request.TheVariants as requests
use Rattle.backend_trait.specs.declared.request.Posted.{Posted}
use Rattle.backend_trait.specs.declared.request.Posted.TheVariants as posts
use Rattle.backend_trait.specs.declared.answer.Answer.{Answer}
use Rattle.backend_trait.specs.declared.answer.Answer.TheVariants as answers
use Rattle.backend_trait.specs.Keys.{Place}
use Rattle.backend_trait.specs.Rows.{Rows, Changes, no_rows, no_changes, laid_over, joined_changes, with_at}
use Rattle.backend_trait.specs.Effect.{Wants, nothing, both_wants, Given, Fails, Gives, effect_of, table_in, draws_of}
use Rattle.backend_trait.specs.Runnable.{IsRunnable}

-- a live transaction: the rows at its snapshot, its own changes, what it holds, and the places that
-- other transactions have changed since its snapshot
pub record Live : Type 0 where
  pub base : Rows
  pub changes : Changes
  pub held : Wants
  pub stale : Place → Bool

pub data Transaction : Type 0 where
  Absent : Transaction
  Alive : Live → Transaction
  Dead : Transaction

-- a request that waits for its answer, and whether another has crossed it since its post
pub record Pending : Type 0 where
  pub request : Request
  pub crossed : Bool

pub record Store : Type 0 where
  pub tables : List TableDef
  pub rows : Rows
  pub next : ℕ → Option ℤ  -- the next number of each table's serial column
  pub transaction : ℕ → Transaction
  pub pending : ℕ → Option Pending
  pub lost : Bool

-- the first number of a table's serial column, where it has one
abbrev pub first_of : Option ℕ → Option ℤ
first_of None = None
first_of (Some column) = Some (pos 1)

abbrev pub first_number : Option TableDef → Option ℤ
first_number None = None
first_number (Some table) = first_of table.serial

-- a store before its first request, of these tables: no rows, and each serial column begins with its first number
abbrev pub prepared : List TableDef → Store
prepared tables = record {
  tables = tables;
  rows = no_rows;
  next = λ t. first_number (slice_get tables t);
  transaction = λ s. Absent;
  pending = λ s. None;
  lost = false;
}

-- and one that has no tables yet
abbrev pub blank : Store
blank = prepared []

-- what a transaction sees: its changes over its base
abbrev pub view_of : Live → Rows
view_of t = laid_over t.changes t.base

abbrev pub WhereLive : Transaction → (Live → Type 0) → Type 0
WhereLive Absent P = ⊥
WhereLive (Alive t) P = P t
WhereLive Dead P = ⊥

abbrev pub held_by : Transaction → Wants
held_by Absent = nothing
held_by (Alive t) = t.held
held_by Dead = nothing

-- the next number of a statement's table, where it has one
abbrev pub next_for : (ℕ → Option ℤ) → Option ℕ → Option ℤ
next_for next None = None
next_for next (Some table) = next table

-- a number that many numbers later
abbrev pub numbered : ℕ → Option ℤ → Option ℤ
numbered draws None = None
numbered draws (Some next) = Some (next +ℤ pos draws)

-- the next numbers where so many of a table's are drawn
abbrev pub with_draws : (ℕ → Option ℤ) → Option ℕ → ℕ → ℕ → Option ℤ
with_draws next None draws = next
with_draws next (Some table) draws = with_at next table (numbered draws (next table))

-- the next numbers once a statement has drawn its own
abbrev pub drawn_by : List TableDef → Checked → (ℕ → Option ℤ) → ℕ → Option ℤ
drawn_by tables checked next = with_draws next (table_in checked) (draws_of tables checked (next_for next (table_in checked)))

-- the table whose lock a statement needs is locked
abbrev pub IsLocked : Wants → Option ℕ → Type 0
IsLocked held None = Unit {0}
IsLocked held (Some table) = held.tables table ≡ true

-- a live transaction may run it
abbrev pub MayRunIn : Store → Checked → Live → Type 0
MayRunIn st checked t = IsRunnable st.tables checked × IsLocked t.held (lock_of checked.body)

-- a live transaction may set the next number of a table's serial column where it has the table's lock, so that nobody else draws or
-- sets one meanwhile; the numbers begin with 1
pub record MaySetIn (st : Store) (table : ℕ) (n : ℤ) (t : Live) : Type 0 where
  pub counted : is_some (st.next table) ≡ true
  pub locked : t.held.tables table ≡ true
  pub positive : pos 1 ≤ℤ n

-- what may be posted: only a live transaction runs, locks, sets a number and commits, and a snapshot wants none
abbrev pub MayPost : Store → ℕ → Request → Type 0
MayPost st s requests.TakeSnapshot = st.transaction s ≡ Absent
MayPost st s (requests.Run checked) = WhereLive (st.transaction s) (MayRunIn st checked)
MayPost st s (requests.Lock t) = WhereLive (st.transaction s) (λ t. Unit {0})
MayPost st s requests.Commit = WhereLive (st.transaction s) (λ t. Unit {0})
MayPost st s requests.Rollback = Unit {0}
MayPost st s (requests.ReadSerial t) = is_some (st.next t) ≡ true
MayPost st s (requests.SetSerial t n) = WhereLive (st.transaction s) (MaySetIn st t n)

abbrev pub posted : Store → ℕ → Request → Store
posted st s request = record st { pending = with_at st.pending s (Some (record { request = request; crossed = false })) }

-- what a post leaves
abbrev pub posted_by : Store → ℕ → Request → Posted → Store → Type 0
posted_by old s request posts.Accepted new = new ≡ posted old s request
posted_by old s request (posts.NoMemory back) new = (back ≡ request) × (new ≡ old)

abbrev pub lost_by : Store → Store
lost_by st = record st { lost = true }

-- places more are held
abbrev pub with_places : Wants → List Place → Wants
with_places held places = record { places = held.places ++ places; tables = held.tables }

-- a transaction begins, runs a statement, takes a lock, and sees another commit
abbrev pub begun : Rows → Live
begun rows = record { base = rows; changes = no_changes; held = nothing; stale = λ p. false }

abbrev pub given_to : Given → Live → Live
given_to (Fails code) t = t
given_to (Gives answer changes places) t =
    record { base = t.base; changes = joined_changes changes t.changes; held = with_places t.held places; stale = t.stale }

abbrev pub table_lock : ℕ → Wants
table_lock table = record { places = []; tables = λ t. t == table }

abbrev pub made_stale : Changes → Live → Live
made_stale changes t =
    record { base = t.base; changes = t.changes; held = t.held; stale = λ p. is_some (fin.get changes p) || t.stale p }

abbrev pub where_live : (Live → Live) → Transaction → Transaction
where_live f Absent = Absent
where_live f (Alive t) = Alive (f t)
where_live f Dead = Dead

-- the session's request is answered, and this is its transaction from now on
abbrev pub settled : Store → ℕ → Transaction → Store
settled st s transaction =
    record st { transaction = with_at st.transaction s transaction; pending = with_at st.pending s None }

-- the changes join the rows, and every other live transaction's stale places
abbrev pub committed_by : Store → ℕ → Transaction → Store
committed_by st s Absent = settled st s Absent
committed_by st s Dead = settled st s Absent
committed_by st s (Alive t) =
    record {
      tables = st.tables;
      rows = laid_over t.changes st.rows;
      next = st.next;
      transaction = with_at (λ o. where_live (made_stale t.changes) (st.transaction o)) s Absent;
      pending = with_at st.pending s None;
      lost = st.lost;
    }

-- the next numbers once a request has its answer: a run draws, whatever the answer, and no other request does
abbrev pub drawn : List TableDef → (ℕ → Option ℤ) → Request → ℕ → Option ℤ
drawn tables next requests.TakeSnapshot = next
drawn tables next (requests.Run checked) = drawn_by tables checked next
drawn tables next (requests.Lock table) = next
drawn tables next requests.Commit = next
drawn tables next requests.Rollback = next
drawn tables next (requests.ReadSerial table) = next
drawn tables next (requests.SetSerial table n) = next

-- what an answer that is no refusal leaves
abbrev pub answered : Store → ℕ → Request → Store
answered st s requests.TakeSnapshot = settled st s (Alive (begun st.rows))
answered st s (requests.Run checked) =
    record (settled st s (where_live (λ t. given_to (effect_of st.tables checked (view_of t) (next_for st.next (table_in checked))).given t) (st.transaction s))) {
      next = drawn st.tables st.next (requests.Run checked);
    }
answered st s (requests.Lock table) =
    settled st s (where_live (λ t. record t { held = both_wants (table_lock table) t.held }) (st.transaction s))
answered st s requests.Commit = committed_by st s (st.transaction s)
answered st s requests.Rollback = settled st s Absent
answered st s (requests.ReadSerial table) = settled st s (st.transaction s)
answered st s (requests.SetSerial table n) = record (settled st s (st.transaction s)) { next = with_at st.next table (Some n) }

abbrev pub is_refusal : Answer → Bool
is_refusal answers.Began = false
is_refusal (answers.Rows rows) = false
is_refusal (answers.Count n) = false
is_refusal answers.Locked = false
is_refusal answers.Done = false
is_refusal (answers.Serial n) = false
is_refusal (answers.Refused code) = true

-- a refusal leaves a dead transaction; what a run has drawn stays drawn
abbrev pub refused : Store → ℕ → Request → Store
refused st s request = record (settled st s Dead) { next = drawn st.tables st.next request }

-- what an answer leaves
abbrev pub acted : Store → ℕ → Request → Answer → Store
acted st s request answer = if is_refusal answer then refused st s request else answered st s request

-- what the conditions of posts ask for, of one session
pub data Standing : Type 0 where
  HasNone : Standing
  IsLive : Standing
  IsDead : Standing

pub record Line : Type 0 where
  pub standing : Standing
  pub locks : ℕ → Bool
  pub waits : Option Request

abbrev pub standing_of : Transaction → Standing
standing_of Absent = HasNone
standing_of (Alive t) = IsLive
standing_of Dead = IsDead

abbrev pub request_in : Option Pending → Option Request
request_in None = None
request_in (Some p) = Some p.request

abbrev pub line_of : Store → ℕ → Line
line_of st s = record { standing = standing_of (st.transaction s); locks = (held_by (st.transaction s)).tables; waits = request_in (st.pending s) }

-- what an answer makes of it
abbrev pub no_locks : ℕ → Bool
no_locks t = false

abbrev pub idle_line : Standing → (ℕ → Bool) → Line
idle_line standing locks = record { standing = standing; locks = locks; waits = None }

abbrev pub line_answered : Line → Request → Line
line_answered line requests.TakeSnapshot = idle_line IsLive no_locks
line_answered line (requests.Run checked) = idle_line line.standing line.locks
line_answered line (requests.Lock table) = idle_line line.standing (λ t. t == table || line.locks t)
line_answered line requests.Commit = idle_line HasNone no_locks
line_answered line requests.Rollback = idle_line HasNone no_locks
line_answered line (requests.ReadSerial table) = idle_line line.standing line.locks
line_answered line (requests.SetSerial table n) = idle_line line.standing line.locks

abbrev pub line_acted : Line → Request → Answer → Line
line_acted line request answer = if is_refusal answer then idle_line IsDead no_locks else line_answered line request
