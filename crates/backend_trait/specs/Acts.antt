-- The table of answers: which a store may give to which request, and where.
use Rattle.std.specs.Prelude.{◌≡◌, ◌≢◌, ◌⊎◌, ℕ, ℤ, pos, ◌<◌, ◌≤◌, ◌≤ℤ◌, Bool, true, false, List, [], ◌∷◌, Option, Some, None, codes}
use Rattle.pool_base.specs.declared.code.Code.{Code}
use Rattle.catalogue.specs.declared.checked.Checked.{Checked}
use Rattle.backend_trait.specs.declared.request.Request.{Request}
use Rattle.backend_trait.specs.declared.request.Request.TheVariants as requests
use Rattle.backend_trait.specs.declared.answer.Answer.{Answer}
use Rattle.backend_trait.specs.declared.answer.Answer.TheVariants as answers
use Rattle.backend_trait.specs.declared.answer.Polled.{Polled}
use Rattle.backend_trait.specs.declared.answer.Polled.TheVariants as polls
use Rattle.backend_trait.specs.Keys.{Place}
use Rattle.backend_trait.specs.Rows.{with_at}
use Rattle.backend_trait.specs.Effect.{Wants, nothing, both_wants, these_places, has_place, has_lock_of, Conflicts, Given, Fails, Gives, effect_of, table_in}
use Rattle.backend_trait.specs.Runnable.{is_of_run}
use Rattle.backend_trait.specs.Store.{Live, Transaction, Absent, Alive, Dead, Pending, Store, WhereLive, view_of, next_for, held_by, table_lock, acted, lost_by, line_of, line_acted}

-- a count rose, or stands where it can rise no more
abbrev pub Rose : ℕ → ℕ → Type 0
Rose before after = (before < after) ⊎ (18446744073709551615 ≤ after)

-- no other live transaction holds what conflicts, and: one does
abbrev pub IsFree : Store → ℕ → Wants → Type 0
IsFree st s wants = (o : ℕ) → o ≢ s → ¬ (Conflicts wants (held_by (st.transaction o)))

abbrev pub IsTaken : Store → ℕ → Wants → Type 0
IsTaken st s wants = (o : ℕ) × (o ≢ s) × Conflicts wants (held_by (st.transaction o))

-- no wanted place is stale, and: one is
abbrev pub IsFresh : Wants → Live → Type 0
IsFresh wants t = (p : Place) → has_place wants p ≡ true → t.stale p ≡ false

abbrev pub IsStale : Wants → Live → Type 0
IsStale wants t = (p : Place) × (has_place wants p ≡ true) × (t.stale p ≡ true)

-- the store's own want of memory
abbrev pub IsOutOfMemory : Code → Type 0
IsOutOfMemory code = code.bytes ≡ codes "53200"

-- a result comes where there is no code, nothing wanted is stale, and nobody else holds it
abbrev pub MayGive : Store → ℕ → Live → Answer → Given → Type 0
MayGive st s t answer (Fails code) = ⊥
MayGive st s t answer (Gives result changes places) = (answer ≡ result) × IsFresh (these_places places) t × IsFree st s (these_places places)

-- a refusal: the effect's code, a stale place, a deadlock where another has crossed, or want of memory
abbrev pub MayRefuse : Type 0 → Live → Option ℕ → Code → Given → Type 0
MayRefuse crossed t table code (Fails bytes) = (code.bytes ≡ bytes) ⊎ IsOutOfMemory code
MayRefuse crossed t table code (Gives result changes places) =
    ((code.bytes ≡ codes "40001") × IsStale (these_places places) t)
    ⊎ (((code.bytes ≡ codes "40P01") × crossed × (has_lock_of t.held table ≡ false)) ⊎ IsOutOfMemory code)

abbrev pub given_of : Store → Checked → Live → Given
given_of st checked t = (effect_of st.tables checked (view_of t) (next_for st.next (table_in checked))).given

-- what a session's request asks for: what its result wants, or the lock of its table
abbrev pub wants_in : Given → Wants
wants_in (Fails code) = nothing
wants_in (Gives result changes places) = these_places places

abbrev pub wants_of_run : Store → Checked → Transaction → Wants
wants_of_run st checked Absent = nothing
wants_of_run st checked (Alive t) = wants_in (given_of st checked t)
wants_of_run st checked Dead = nothing

abbrev pub asked_by : Store → ℕ → Request → Wants
asked_by st s requests.TakeSnapshot = nothing
asked_by st s (requests.Run checked) = wants_of_run st checked (st.transaction s)
asked_by st s (requests.Lock table) = table_lock table
asked_by st s requests.Commit = nothing
asked_by st s requests.Rollback = nothing
asked_by st s (requests.ReadSerial table) = nothing
asked_by st s (requests.SetSerial table n) = nothing

-- whether the session has the lock of the table that its request is for
abbrev pub has_lock : Store → ℕ → Request → Bool
has_lock st s requests.TakeSnapshot = false
has_lock st s (requests.Run checked) = has_lock_of (held_by (st.transaction s)) (table_in checked)
has_lock st s (requests.Lock table) = (held_by (st.transaction s)).tables table
has_lock st s requests.Commit = false
has_lock st s requests.Rollback = false
has_lock st s (requests.ReadSerial table) = false
has_lock st s (requests.SetSerial table n) = false

-- a run or a lock alone can be crossed
abbrev pub may_be_crossed : Request → Bool
may_be_crossed requests.TakeSnapshot = false
may_be_crossed (requests.Run checked) = true
may_be_crossed (requests.Lock table) = true
may_be_crossed requests.Commit = false
may_be_crossed requests.Rollback = false
may_be_crossed (requests.ReadSerial table) = false
may_be_crossed (requests.SetSerial table n) = false

-- another session crosses a run or a lock: it has not the lock that its own request is for, and asks for
-- what conflicts with what this one holds or asks for
pub record Crosses (st : Store) (s : ℕ) (request : Request) : Type 0 where
  pub kind : may_be_crossed request ≡ true
  pub other : ℕ
  pub another : other ≢ s
  pub its : Pending
  pub waits : st.pending other ≡ Some its
  pub unlocked : has_lock st other its.request ≡ false
  pub conflict : Conflicts (asked_by st other its.request) (both_wants (asked_by st s request) (held_by (st.transaction s)))

-- one has crossed it since its post, or crosses it now
abbrev pub IsCrossed : Store → ℕ → Pending → Type 0
IsCrossed st s p = (p.crossed ≡ true) ⊎ Crosses st s p.request

abbrev pub MaySnapshot : Answer → Type 0
MaySnapshot answers.Began = Unit {0}
MaySnapshot (answers.Rows rows) = ⊥
MaySnapshot (answers.Count n) = ⊥
MaySnapshot answers.Locked = ⊥
MaySnapshot answers.Done = ⊥
MaySnapshot (answers.Serial n) = ⊥
MaySnapshot (answers.Refused code) = IsOutOfMemory code

abbrev pub MayRun : Store → ℕ → Type 0 → Checked → Answer → Type 0
MayRun st s crossed checked answers.Began = ⊥
MayRun st s crossed checked (answers.Rows rows) = WhereLive (st.transaction s) (λ t. MayGive st s t (answers.Rows rows) (given_of st checked t))
MayRun st s crossed checked (answers.Count n) = WhereLive (st.transaction s) (λ t. MayGive st s t (answers.Count n) (given_of st checked t))
MayRun st s crossed checked answers.Locked = ⊥
MayRun st s crossed checked answers.Done = ⊥
MayRun st s crossed checked (answers.Serial n) = ⊥
MayRun st s crossed checked (answers.Refused code) = WhereLive (st.transaction s) (λ t. MayRefuse crossed t (table_in checked) code (given_of st checked t))

abbrev pub MayLock : Store → ℕ → Type 0 → ℕ → Answer → Type 0
MayLock st s crossed table answers.Began = ⊥
MayLock st s crossed table (answers.Rows rows) = ⊥
MayLock st s crossed table (answers.Count n) = ⊥
MayLock st s crossed table answers.Locked = WhereLive (st.transaction s) (λ t. IsFree st s (table_lock table))
MayLock st s crossed table answers.Done = ⊥
MayLock st s crossed table (answers.Serial n) = ⊥
MayLock st s crossed table (answers.Refused code) = (code.bytes ≡ codes "40P01") × crossed

abbrev pub IsDone : Answer → Type 0
IsDone answer = answer ≡ answers.Done

-- the table of answers
abbrev pub MayAnswer : Store → ℕ → Pending → Answer → Type 0
MayAnswer st s p answer = elim p.request [
  | requests.TakeSnapshot ↦ MaySnapshot answer
  | requests.Run checked ↦ MayRun st s (IsCrossed st s p) checked answer
  | requests.Lock table ↦ MayLock st s (IsCrossed st s p) table answer
  | requests.Commit ↦ WhereLive (st.transaction s) (λ t. IsDone answer)
  | requests.Rollback ↦ IsDone answer
  | requests.ReadSerial table ↦ (n : ℤ) × (st.next table ≡ Some n) × (answer ≡ answers.Serial n)
  | requests.SetSerial table n ↦ IsDone answer
]

-- the session's answer is one that the table allows, and it leaves what the table says
pub record Answers (old : Store) (s : ℕ) (answer : Answer) (new : Store) : Type 0 where
  pub pending : Pending
  pub was : old.pending s ≡ Some pending
  pub not_lost : old.lost ≡ false
  pub may : MayAnswer old s pending answer
  pub leaves : new ≡ acted old s pending.request answer

-- what an honest backend does at a poll
abbrev pub Acts : Store → ℕ → Polled → Store → Type 0
Acts old s (polls.Answered answer) new = Answers old s answer new
Acts old s polls.NotYet new = new ≡ old
Acts old s polls.Lost new = new ≡ lost_by old
Acts old s polls.NoMemory new = new ≡ old

-- a run or a lock has to wait: it has no code, nothing that it wants is stale, and another holds it
abbrev pub MustWaitRun : Store → ℕ → Live → Given → Type 0
MustWaitRun st s t (Fails code) = ⊥
MustWaitRun st s t (Gives result changes places) = IsFresh (these_places places) t × IsTaken st s (these_places places)

abbrev pub MustWait : Store → ℕ → Request → Type 0
MustWait st s requests.TakeSnapshot = ⊥
MustWait st s (requests.Run checked) = WhereLive (st.transaction s) (λ t. MustWaitRun st s t (given_of st checked t))
MustWait st s (requests.Lock table) = WhereLive (st.transaction s) (λ t. IsTaken st s (table_lock table))
MustWait st s requests.Commit = ⊥
MustWait st s requests.Rollback = ⊥
MustWait st s (requests.ReadSerial table) = ⊥
MustWait st s (requests.SetSerial table n) = ⊥

abbrev pub WhereSome : {A : Type 0} → Option A → (A → Type 0) → Type 0
WhereSome None P = ⊥
WhereSome (Some x) P = P x

-- the session's pending request waits for another session: it has no code, nothing that it wants is
-- stale, and the other holds what conflicts
abbrev pub WaitsInRun : Wants → Live → Given → Type 0
WaitsInRun held t (Fails code) = ⊥
WaitsInRun held t (Gives result changes places) = IsFresh (these_places places) t × Conflicts (these_places places) held

abbrev pub WaitsIn : Store → ℕ → Wants → Request → Type 0
WaitsIn st s held requests.TakeSnapshot = ⊥
WaitsIn st s held (requests.Run checked) = WhereLive (st.transaction s) (λ t. WaitsInRun held t (given_of st checked t))
WaitsIn st s held (requests.Lock table) = WhereLive (st.transaction s) (λ t. Conflicts (table_lock table) held)
WaitsIn st s held requests.Commit = ⊥
WaitsIn st s held requests.Rollback = ⊥
WaitsIn st s held (requests.ReadSerial table) = ⊥
WaitsIn st s held (requests.SetSerial table n) = ⊥

abbrev pub WaitsFor : Store → ℕ → ℕ → Type 0
WaitsFor st s o = (o ≢ s) × WhereSome (st.pending s) (λ p. WaitsIn st s (held_by (st.transaction o)) p.request)

-- each waits for the next, from the first over those between to the last
abbrev pub IsPath : Store → ℕ → List ℕ → ℕ → Type 0
IsPath st first [] last = WaitsFor st first last
IsPath st first (o ∷ between) last = WaitsFor st first o × IsPath st o between last

abbrev pub Leads : Store → ℕ → ℕ → Type 0
Leads st first last = (between : List ℕ) × IsPath st first between last

-- its waiting closes a cycle of waits
abbrev pub IsInCycle : Store → ℕ → Type 0
IsInCycle st s = Leads st s s

abbrev pub IsDeadlock : Answer → Type 0
IsDeadlock answers.Began = ⊥
IsDeadlock (answers.Rows rows) = ⊥
IsDeadlock (answers.Count n) = ⊥
IsDeadlock answers.Locked = ⊥
IsDeadlock answers.Done = ⊥
IsDeadlock (answers.Serial n) = ⊥
IsDeadlock (answers.Refused code) = code.bytes ≡ codes "40P01"

-- a prompt backend refuses for no want of memory, and tells of a deadlock where waiting would close a
-- cycle; it waits where the request has to, and closes none. So, of an honest one, the first decides of:
-- the code, a stale place, a result, a cycle, else it waits
abbrev pub IsPromptAnswer : Answer → Type 0
IsPromptAnswer answers.Began = Unit {0}
IsPromptAnswer (answers.Rows rows) = Unit {0}
IsPromptAnswer (answers.Count n) = Unit {0}
IsPromptAnswer answers.Locked = Unit {0}
IsPromptAnswer answers.Done = Unit {0}
IsPromptAnswer (answers.Serial n) = Unit {0}
IsPromptAnswer (answers.Refused code) = ¬ (IsOutOfMemory code)

abbrev pub IsPromptly : Store → ℕ → Polled → Type 0
IsPromptly st s (polls.Answered answer) = IsPromptAnswer answer × (IsDeadlock answer → IsInCycle st s)
IsPromptly st s polls.NotYet = (st.lost ≡ false) × WhereSome (st.pending s) (λ p. MustWait st s p.request) × ¬ (IsInCycle st s)
IsPromptly st s polls.Lost = Unit {0}
IsPromptly st s polls.NoMemory = ⊥

-- the form of an answer to a request
abbrev pub IsOf : Request → Answer → Type 0
IsOf requests.TakeSnapshot answer = (answer ≡ answers.Began) ⊎ ((code : Code) × (answer ≡ answers.Refused code))
IsOf (requests.Run checked) answer = is_of_run checked answer ≡ true
IsOf (requests.Lock table) answer = (answer ≡ answers.Locked) ⊎ ((code : Code) × (answer ≡ answers.Refused code))
IsOf requests.Commit answer = IsDone answer
IsOf requests.Rollback answer = IsDone answer
IsOf (requests.ReadSerial table) answer = (n : ℤ) × (pos 1 ≤ℤ n) × (answer ≡ answers.Serial n)
IsOf (requests.SetSerial table n) answer = IsDone answer

-- what every backend does at a poll, honest or not: an answer has the form of its request, and the
-- lines follow it; a loss comes only where the backend is lost and its count rose
pub record InFormAnswer (old : Store) (s : ℕ) (answer : Answer) (new : Store) : Type 0 where
  pub pending : Pending
  pub was : old.pending s ≡ Some pending
  pub form : IsOf pending.request answer
  pub tables : new.tables ≡ old.tables
  pub lines : (o : ℕ) → line_of new o ≡ with_at (line_of old) s (line_acted (line_of old s) pending.request answer) o
  pub not_lost : old.lost ≡ false
  pub stays : new.lost ≡ false

-- no answer: the tables and the lines are the same
pub record IsUnanswered (old new : Store) : Type 0 where
  pub tables : new.tables ≡ old.tables
  pub lines : (o : ℕ) → line_of new o ≡ line_of old o

abbrev pub InForm : Store → ℕ → Polled → ℕ → ℕ → Store → Type 0
InForm old s (polls.Answered answer) before after new = InFormAnswer old s answer new
InForm old s polls.NotYet before after new = IsUnanswered old new × (new.lost ≡ old.lost)
InForm old s polls.Lost before after new = IsUnanswered old new × (new.lost ≡ true) × Rose before after
InForm old s polls.NoMemory before after new = IsUnanswered old new × (new.lost ≡ old.lost)
