-- What is known of a session at a backend, and what a post and an answer make of it.
use Rattle.std.specs.Prelude.{◌≡◌, ◌≤ℤ◌, ℕ, ℤ, pos, Bool, true, false, is_some, List, Option, None, Some, slice_get, if◌then◌else◌}
use Rattle.schema.specs.declared.catalogue.TableDef.{TableDef}
use Rattle.catalogue.specs.declared.checked.Checked.{Checked}
use Rattle.classifier.specs.Classes.{lock_of}
use Rattle.backend_trait.specs.declared.request.Request.{Request}
use Rattle.backend_trait.specs.declared.request.Request.TheVariants as requests
use Rattle.backend_trait.specs.declared.answer.Polled.{Polled}
use Rattle.backend_trait.specs.declared.answer.Polled.TheVariants as polls
use Rattle.backend_trait.specs.Runnable.{IsRunnable}
use Rattle.backend_trait.specs.Store.{Standing, HasNone, IsLive, IsDead, Line, Store, line_of, is_refusal}
use Rattle.backend_rolls.specs.declared.known.Holds.{Holds}
use Rattle.backend_rolls.specs.declared.known.Holds.TheVariants as holding
use Rattle.backend_rolls.specs.declared.known.Awaits.{Awaits}
use Rattle.backend_rolls.specs.declared.known.Awaits.TheVariants as awaiting
use Rattle.backend_rolls.specs.declared.known.Known.{Known}

abbrev pub holds_as : Standing → Holds
holds_as HasNone = holding.Nothing
holds_as IsLive = holding.Live
holds_as IsDead = holding.Dead

-- what is waited for, by what its answer leaves
abbrev pub awaits_as : Option Request → Awaits
awaits_as None = awaiting.Nothing
awaits_as (Some requests.TakeSnapshot) = awaiting.Begin
awaits_as (Some (requests.Run checked)) = awaiting.Work
awaits_as (Some (requests.Lock table)) = awaiting.Lock table
awaits_as (Some requests.Commit) = awaiting.End
awaits_as (Some requests.Rollback) = awaiting.End
awaits_as (Some (requests.ReadSerial table)) = awaiting.Work
awaits_as (Some (requests.SetSerial table n)) = awaiting.Work

abbrev pub known_as : Holds → Awaits → Option ℕ → Known
known_as holds awaits locked = record { holds = holds; awaits = awaits; locked = locked }

abbrev pub nothing_known : Known
nothing_known = known_as holding.Nothing awaiting.Nothing None

-- the table that is known to be locked is locked
abbrev pub IsLockOf : Option ℕ → (ℕ → Bool) → Type 0
IsLockOf locked locks = (t : ℕ) → locked ≡ Some t → locks t ≡ true

-- what is known of a session is so: its transaction, what it waits for, and the table that it has locked last
abbrev pub Tells : Known → Line → Type 0
Tells k line = (k.holds ≡ holds_as line.standing) × ((k.awaits ≡ awaits_as line.waits) × IsLockOf k.locked line.locks)

-- what is known of each session is what the store has of it
abbrev pub Knows : (ℕ → Known) → Store → Type 0
Knows all st = (s : ℕ) → Tells (all s) (line_of st s)

-- whether a table has a serial column
abbrev pub is_numbered : Option TableDef → Bool
is_numbered None = false
is_numbered (Some table) = is_some table.serial

abbrev pub has_serial : List TableDef → ℕ → Bool
has_serial tables table = is_numbered (slice_get tables table)

-- the store has a number of each serial column of these tables
abbrev pub Counts : List TableDef → Store → Type 0
Counts tables st = (table : ℕ) → has_serial tables table ≡ true → is_some (st.next table) ≡ true

-- the table whose lock a statement wants is the one that was locked last; or it wants none
abbrev pub HasLock : Option ℕ → Option ℕ → Type 0
HasLock locked None = Unit {0}
HasLock locked (Some table) = locked ≡ Some table

-- a live transaction may run a statement where it has the lock that the statement wants
abbrev pub MayRun : List TableDef → Known → Checked → Type 0
MayRun tables k checked = (k.holds ≡ holding.Live) × (HasLock k.locked (lock_of checked.body) × IsRunnable tables checked)

-- a live transaction may set the number of a table's serial column where it has locked that table last; the numbers begin with 1
abbrev pub MaySet : List TableDef → Known → ℕ → ℤ → Type 0
MaySet tables k table n = (k.holds ≡ holding.Live) × ((k.locked ≡ Some table) × ((has_serial tables table ≡ true) × (pos 1 ≤ℤ n)))

-- what a session of which this is known may post; whoever reads the number of a serial column needs no transaction
abbrev pub Admits : List TableDef → Known → Request → Type 0
Admits tables k requests.TakeSnapshot = k.holds ≡ holding.Nothing
Admits tables k (requests.Run checked) = MayRun tables k checked
Admits tables k (requests.Lock table) = k.holds ≡ holding.Live
Admits tables k requests.Commit = k.holds ≡ holding.Live
Admits tables k requests.Rollback = Unit {0}
Admits tables k (requests.ReadSerial table) = has_serial tables table ≡ true
Admits tables k (requests.SetSerial table n) = MaySet tables k table n

-- the session may post a request where it waits for nothing there and its transaction allows it
abbrev pub MayPostBy : List TableDef → Known → Request → Type 0
MayPostBy tables k request = (k.awaits ≡ awaiting.Nothing) × Admits tables k request

abbrev pub after_post : Known → Request → Known
after_post k request = known_as k.holds (awaits_as (Some request)) k.locked

-- whether there is a transaction behind an answer that is no refusal
abbrev pub holds_behind : Holds → Awaits → Holds
holds_behind holds awaiting.Nothing = holds
holds_behind holds awaiting.Begin = holding.Live
holds_behind holds awaiting.Work = holds
holds_behind holds (awaiting.Lock table) = holds
holds_behind holds awaiting.End = holding.Nothing

-- and the table that it has locked last
abbrev pub locked_behind : Option ℕ → Awaits → Option ℕ
locked_behind locked awaiting.Nothing = locked
locked_behind locked awaiting.Begin = None
locked_behind locked awaiting.Work = locked
locked_behind locked (awaiting.Lock table) = Some table
locked_behind locked awaiting.End = None

abbrev pub after_answer : Known → Bool → Known
after_answer k refused =
    if refused then known_as holding.Dead awaiting.Nothing None
    else known_as (holds_behind k.holds k.awaits) awaiting.Nothing (locked_behind k.locked k.awaits)

abbrev pub after_poll : Known → Polled → Known
after_poll k (polls.Answered answer) = after_answer k (is_refusal answer)
after_poll k polls.NotYet = k
after_poll k polls.Lost = k
after_poll k polls.NoMemory = k
