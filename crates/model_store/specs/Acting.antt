-- What a store in memory does at a poll, and which posts a seat admits.
use Rattle.std.specs.Prelude.{◌≡◌, ◌≤ℤ◌, is_some, ℕ, ℤ, pos, Bool, true, false, List, Option, Some, None}
use Rattle.schema.specs.declared.catalogue.TableDef.{TableDef}
use Rattle.catalogue.specs.declared.checked.Checked.{Checked}
use Rattle.classifier.specs.Classes.{lock_of}
use Rattle.backend_trait.specs.declared.request.Request.{Request}
use Rattle.backend_trait.specs.declared.request.Request.TheVariants as requests
use Rattle.backend_trait.specs.declared.request.Posted.{Posted}
use Rattle.backend_trait.specs.declared.request.Posted.TheVariants as posts
use Rattle.backend_trait.specs.declared.answer.Answer.{Answer}
use Rattle.backend_trait.specs.Effect.{Wants}
use Rattle.backend_trait.specs.Runnable.{IsRunnable}
use Rattle.backend_trait.specs.Store.{Store, Pending, IsLocked, line_of, line_acted}
use Rattle.backend_trait.specs.Acts.{Answers, IsPromptAnswer, IsDeadlock, IsInCycle, IsOf}
use Rattle.backend_trait.specs.Rows.{with_at}
use Rattle.model_store.specs.declared.phase.Phase.{Phase}
use Rattle.model_store.specs.declared.phase.Phase.TheVariants as phases
use Rattle.model_store.specs.declared.phase.Waiting.{Waiting}
use Rattle.model_store.specs.Phases.{is_open, held_of, held_by_phase, pending_of}

-- an answer that the table of answers allows, in the form of its request, and as a prompt store gives it
pub record IsActed (old : Store) (s : ℕ) (answer : Answer) (new : Store) : Type 0 where
  pub pending : Pending
  pub was : old.pending s ≡ Some pending
  pub answers : Answers old s answer new
  pub form : IsOf pending.request answer
  pub promptly : IsPromptAnswer answer × (IsDeadlock answer → IsInCycle old s)
  pub tables : new.tables ≡ old.tables
  pub lines : (o : ℕ) → line_of new o ≡ with_at (line_of old) s (line_acted (line_of old s) pending.request answer) o

abbrev pub is_absent : Phase → Bool
is_absent phases.Absent = true
is_absent (phases.Open work) = false
is_absent phases.Dead = false

-- a session's transaction may run a statement: it is live, and it has the lock that the statement needs
abbrev pub MayRunAt : List TableDef → Phase → Checked → Type 0
MayRunAt tables phases.Absent checked = ⊥
MayRunAt tables (phases.Open work) checked = IsRunnable tables checked × IsLocked (held_of work) (lock_of checked.body)
MayRunAt tables phases.Dead checked = ⊥

-- a session may set the next number of a table: the table has one, and the session the table's lock
pub record MaySetAt (next : Option ℤ) (held : Wants) (table : ℕ) (n : ℤ) : Type 0 where
  pub counted : is_some next ≡ true
  pub locked : held.tables table ≡ true
  pub positive : pos 1 ≤ℤ n

abbrev pub admits : (ℕ → Option ℤ) → List TableDef → Phase → Request → Type 0
admits numbers tables phase requests.TakeSnapshot = is_absent phase ≡ true
admits numbers tables phase (requests.Run checked) = MayRunAt tables phase checked
admits numbers tables phase (requests.Lock table) = is_open phase ≡ true
admits numbers tables phase requests.Commit = is_open phase ≡ true
admits numbers tables phase requests.Rollback = Unit {0}
admits numbers tables phase (requests.ReadSerial table) = is_some (numbers table) ≡ true
admits numbers tables phase (requests.SetSerial table n) = MaySetAt (numbers table) (held_by_phase phase) table n

-- a post of it takes no memory
abbrev pub takes_none : Request → Bool
takes_none requests.TakeSnapshot = false
takes_none (requests.Run checked) = false
takes_none (requests.Lock table) = true
takes_none requests.Commit = true
takes_none requests.Rollback = true
takes_none (requests.ReadSerial table) = true
takes_none (requests.SetSerial table n) = true

-- it waits from now on, or it comes back and nothing waits
abbrev pub WaitsFor : Request → Posted → Option Waiting → Type 0
WaitsFor request posts.Accepted waiting = pending_of waiting ≡ Some (record { request = request; crossed = false })
WaitsFor request (posts.NoMemory back) waiting = (back ≡ request) × (waiting ≡ None)
