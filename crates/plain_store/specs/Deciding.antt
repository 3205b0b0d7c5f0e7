-- The tests by which the program decides what a store may answer, and which requests cross.
use Rattle.std.specs.Prelude.{◌≡◌, ◌≤ℤ◌, ℕ, ℤ, pos, is_some, zero, suc, ◌+◌, Bool, true, false, not, ◌&&◌, ◌||◌, ◌==◌, if◌then◌else◌, List, [], ◌∷◌, map, Option, Some, None, slice_set, nat_eq, codes}
use Rattle.std.specs.List.{list_any}
use Rattle.std.specs.Cmp.Lexicographic.{pointwise}
use Rattle.pool_base.specs.declared.code.Code.{Code}
use Rattle.schema.specs.declared.catalogue.TableDef.{TableDef}
use Rattle.catalogue.specs.declared.checked.Checked.{Checked}
use Rattle.classifier.specs.Classes.{lock_of}
use Rattle.backend_trait.specs.declared.request.Request.{Request}
use Rattle.backend_trait.specs.declared.request.Request.TheVariants as requests
use Rattle.backend_trait.specs.declared.answer.Answer.{Answer}
use Rattle.backend_trait.specs.declared.answer.Answer.TheVariants as answers
use Rattle.backend_trait.specs.contracts.answer.AnswerPartialEq.TheImpl as answer_eq
use Rattle.backend_trait.specs.Keys.{Place}
use Rattle.backend_trait.specs.Effect.{Given, Fails, Gives, is_among, table_in}
use Rattle.backend_trait.specs.Acts.{may_be_crossed}
use Rattle.backend_trait.specs.Runnable.{IsRunnable}
use Rattle.outcomes.specs.Spots.{place_of}
use Rattle.outcomes.specs.Log.{has_changed}
use Rattle.plain_store.specs.declared.data.Work.{Work}
use Rattle.plain_store.specs.declared.data.Phase.{Phase}
use Rattle.plain_store.specs.declared.data.Phase.TheVariants as phases
use Rattle.plain_store.specs.Phases.{Claim, Places, Lock, has_table}
use Rattle.plain_store.specs.States.{States, phase_at, asked_at}

-- Conflicts.

abbrev pub share : List Place → List Place → Bool
share places others = list_any (is_among others) places

abbrev pub are_in : List Place → ℕ → Bool
are_in places table = list_any (λ p. p.table == table) places

abbrev pub clash : Claim → Claim → Bool
clash (Places a) (Places b) = share a b
clash (Places a) (Lock t) = are_in a t
clash (Lock t) (Places a) = are_in a t
clash (Lock t) (Lock u) = t == u

abbrev pub are_in_one : List Place → List ℕ → Bool
are_in_one places tables = list_any (λ p. has_table tables p.table) places

-- whether a transaction holds what conflicts
abbrev pub holds_work : Claim → Work → Bool
holds_work (Places places) work = share places (map place_of work.held.items) || are_in_one places work.tables
holds_work (Lock table) work = has_table work.tables table || are_in (map place_of work.held.items) table

abbrev pub holds_phase : Claim → Phase → Bool
holds_phase claim phases.Absent = false
holds_phase claim (phases.Alive work) = holds_work claim work
holds_phase claim phases.Dead = false

-- whether another session than s holds what conflicts, of those from the number n on
abbrev pub taken_from : ℕ → ℕ → Claim → List Phase → Bool
taken_from n s claim [] = false
taken_from n s claim (phase ∷ phases) = (not (n == s) && holds_phase claim phase) || taken_from (n + 1) s claim phases

-- Codes.

abbrev pub is_code : List ℕ → Code → Bool
is_code bytes code = pointwise nat_eq code.bytes bytes

-- The answer to a run.

abbrev pub same_answer : Answer → Answer → Bool
same_answer = (answer_eq.ghosts).eq

abbrev pub refuses : Bool → Bool → Code → Bool
refuses stale deadlock code =
    (is_code (codes "40001") code && stale) || ((is_code (codes "40P01") code && deadlock) || is_code (codes "53200") code)

abbrev pub may_give : Answer → Bool → Bool → Bool → Answer → Bool
may_give given stale taken deadlock answers.Began = false
may_give given stale taken deadlock (answers.Rows rows) = same_answer given (answers.Rows rows) && (not stale && not taken)
may_give given stale taken deadlock (answers.Count n) = same_answer given (answers.Count n) && (not stale && not taken)
may_give given stale taken deadlock answers.Locked = false
may_give given stale taken deadlock answers.Done = false
may_give given stale taken deadlock (answers.Serial n) = false
may_give given stale taken deadlock (answers.Refused code) = refuses stale deadlock code

abbrev pub may_fail : List ℕ → Answer → Bool
may_fail bytes answers.Began = false
may_fail bytes (answers.Rows rows) = false
may_fail bytes (answers.Count n) = false
may_fail bytes answers.Locked = false
may_fail bytes answers.Done = false
may_fail bytes (answers.Serial n) = false
may_fail bytes (answers.Refused told) = is_code bytes told || is_code (codes "53200") told

abbrev pub are_stale : Work → List Place → Bool
are_stale work places = list_any (has_changed work.stale.items) places

abbrev pub may_work : States → ℕ → Bool → Work → Given → Answer → Bool
may_work all s deadlock work (Fails bytes) answer = may_fail bytes answer
may_work all s deadlock work (Gives given changes places) answer =
    may_give given (are_stale work places) (taken_from 0 s (Places places) all.phases) deadlock answer

-- whether a session has the lock of a table
abbrev pub locks_table : Phase → ℕ → Bool
locks_table phases.Absent table = false
locks_table (phases.Alive work) table = has_table work.tables table
locks_table phases.Dead table = false

abbrev pub has_lock : Phase → Option ℕ → Bool
has_lock phase None = false
has_lock phase (Some table) = locks_table phase table

abbrev pub ran_given : States → ℕ → Bool → Work → Option Given → Answer → Bool
ran_given all s deadlock work None answer = false
ran_given all s deadlock work (Some given) answer = may_work all s deadlock work given answer

abbrev pub ran : States → ℕ → Bool → Phase → Option Given → Answer → Bool
ran all s deadlock phases.Absent given answer = false
ran all s deadlock (phases.Alive work) given answer = ran_given all s deadlock work given answer
ran all s deadlock phases.Dead given answer = false

abbrev pub may_run : States → ℕ → Bool → Option ℕ → Answer → Bool
may_run all s crossed table answer =
    ran all s (crossed && not (has_lock (phase_at all s) table)) (phase_at all s) (all.given s) answer

-- The answers to the other requests.

abbrev pub may_snapshot : Answer → Bool
may_snapshot answers.Began = true
may_snapshot (answers.Rows rows) = false
may_snapshot (answers.Count n) = false
may_snapshot answers.Locked = false
may_snapshot answers.Done = false
may_snapshot (answers.Serial n) = false
may_snapshot (answers.Refused code) = is_code (codes "53200") code

abbrev pub is_live : Phase → Bool
is_live phases.Absent = false
is_live (phases.Alive work) = true
is_live phases.Dead = false

abbrev pub may_lock : Bool → Bool → Bool → Answer → Bool
may_lock live taken crossed answers.Began = false
may_lock live taken crossed (answers.Rows rows) = false
may_lock live taken crossed (answers.Count n) = false
may_lock live taken crossed answers.Locked = live && not taken
may_lock live taken crossed answers.Done = false
may_lock live taken crossed (answers.Serial n) = false
may_lock live taken crossed (answers.Refused code) = is_code (codes "40P01") code && crossed

abbrev pub is_done : Answer → Bool
is_done answers.Began = false
is_done (answers.Rows rows) = false
is_done (answers.Count n) = false
is_done answers.Locked = false
is_done answers.Done = true
is_done (answers.Serial n) = false
is_done (answers.Refused code) = false

-- the next number is told, where there is one
abbrev pub tells : Option ℤ → Answer → Bool
tells None answer = false
tells (Some next) answer = same_answer answer (answers.Serial next)

abbrev pub may_answer : States → ℕ → Bool → Request → Answer → Bool
may_answer all s crossed requests.TakeSnapshot answer = may_snapshot answer
may_answer all s crossed (requests.Run checked) answer = may_run all s crossed (table_in checked) answer
may_answer all s crossed (requests.Lock table) answer =
    may_lock (is_live (phase_at all s)) (taken_from 0 s (Lock table) all.phases) crossed answer
may_answer all s crossed requests.Commit answer = is_live (phase_at all s) && is_done answer
may_answer all s crossed requests.Rollback answer = is_done answer
may_answer all s crossed (requests.ReadSerial table) answer = tells (all.next table) answer
may_answer all s crossed (requests.SetSerial table n) answer = is_done answer

-- Crossing.

abbrev pub wants_given : Option Given → Option Claim
wants_given None = None
wants_given (Some (Fails code)) = None
wants_given (Some (Gives answer changes places)) = Some (Places places)

-- what a request asks for
abbrev pub wants_by : Option Given → Request → Option Claim
wants_by given requests.TakeSnapshot = None
wants_by given (requests.Run checked) = wants_given given
wants_by given (requests.Lock table) = Some (Lock table)
wants_by given requests.Commit = None
wants_by given requests.Rollback = None
wants_by given (requests.ReadSerial table) = None
wants_by given (requests.SetSerial table n) = None

-- whether it has the lock of the table that its request is for
abbrev pub is_locked : Phase → Request → Bool
is_locked phase requests.TakeSnapshot = false
is_locked phase (requests.Run checked) = has_lock phase (table_in checked)
is_locked phase (requests.Lock table) = locks_table phase table
is_locked phase requests.Commit = false
is_locked phase requests.Rollback = false
is_locked phase (requests.ReadSerial table) = false
is_locked phase (requests.SetSerial table n) = false

-- whether what one wants conflicts with what another wants or holds
abbrev pub clash_wanted : Claim → Option Claim → Bool
clash_wanted claim None = false
clash_wanted claim (Some other) = clash claim other

abbrev pub meets : Option Claim → Option Claim → Phase → Bool
meets None wants phase = false
meets (Some claim) wants phase = clash_wanted claim wants || holds_phase claim phase

abbrev pub crossed_by : States → ℕ → Request → ℕ → Option Request → Bool
crossed_by all s request o None = false
crossed_by all s request o (Some its) =
    not (is_locked (phase_at all o) its) && meets (wants_by (all.given o) its) (wants_by (all.given s) request) (phase_at all s)

abbrev pub crosses_by : States → ℕ → Request → ℕ → Bool
crosses_by all s request o = crossed_by all s request o (asked_at all o)

abbrev pub crosses_at : States → ℕ → Request → ℕ → Bool
crosses_at all s request o = not (o == s) && crosses_by all s request o

abbrev pub some_below : (ℕ → Bool) → ℕ → Bool
some_below p zero = false
some_below p (suc n) = p n || some_below p n

-- whether another session crosses a run or a lock of the session
unfoldable pub crosses : States → ℕ → Request → Bool
crosses all s request = may_be_crossed request && some_below (crosses_at all s request) 65

abbrev pub crosses_if : States → ℕ → Option Request → Bool
crosses_if all s None = false
crosses_if all s (Some request) = crosses all s request

abbrev pub crosses_waiting : States → ℕ → Bool
crosses_waiting all s = crosses_if all s (asked_at all s)

-- the marks, with those of the sessions below a number whose requests are crossed
abbrev pub marked_if : Bool → ℕ → List Bool → List Bool
marked_if true s marks = slice_set marks s true
marked_if false s marks = marks

abbrev pub marks_below : States → List Bool → ℕ → List Bool
marks_below all marks zero = marks
marks_below all marks (suc n) = marked_if (crosses_waiting all n) n (marks_below all marks n)

-- The answers of the store.

abbrev pub may_asked : States → ℕ → Bool → Option Request → Answer → Bool
may_asked all s mark None answer = false
may_asked all s mark (Some request) answer = may_answer all s (mark || crosses all s request) request answer

abbrev pub may_pending : States → ℕ → Bool → Answer → Bool
may_pending all s mark answer = may_asked all s mark (asked_at all s) answer

-- Posts.

abbrev pub is_absent : Phase → Bool
is_absent phases.Absent = true
is_absent (phases.Alive work) = false
is_absent phases.Dead = false

abbrev pub has_its_lock : Phase → Option ℕ → Bool
has_its_lock phase None = true
has_its_lock phase (Some table) = locks_table phase table

pub record MayRunAt (tables : List TableDef) (phase : Phase) (checked : Checked) : Type 0 where
  pub live : is_live phase ≡ true
  pub locked : has_its_lock phase (lock_of checked.body) ≡ true
  pub runnable : IsRunnable tables checked

-- a session may set the next number of a table: the table has one, and the session the table's lock
pub record MaySetAt (next : Option ℤ) (phase : Phase) (table : ℕ) (n : ℤ) : Type 0 where
  pub counted : is_some next ≡ true
  pub locked : locks_table phase table ≡ true
  pub positive : pos 1 ≤ℤ n

abbrev pub Admits : (ℕ → Option ℤ) → List TableDef → Phase → Request → Type 0
Admits next tables phase requests.TakeSnapshot = is_absent phase ≡ true
Admits next tables phase (requests.Run checked) = MayRunAt tables phase checked
Admits next tables phase (requests.Lock table) = is_live phase ≡ true
Admits next tables phase requests.Commit = is_live phase ≡ true
Admits next tables phase requests.Rollback = Unit {0}
Admits next tables phase (requests.ReadSerial table) = is_some (next table) ≡ true
Admits next tables phase (requests.SetSerial table n) = MaySetAt (next table) phase table n

abbrev pub is_idle : Option Request → Bool
is_idle None = true
is_idle (Some request) = false

-- Waiting.

-- what a request is kept from where another holds it: it has no code, and nothing that it wants is stale
abbrev pub wish_fresh : Work → Option Given → Option Claim
wish_fresh work None = None
wish_fresh work (Some (Fails code)) = None
wish_fresh work (Some (Gives answer changes places)) = if are_stale work places then None else Some (Places places)

abbrev pub wish_run : Phase → Option Given → Option Claim
wish_run phases.Absent given = None
wish_run (phases.Alive work) given = wish_fresh work given
wish_run phases.Dead given = None

abbrev pub wish_lock : ℕ → Phase → Option Claim
wish_lock table phases.Absent = None
wish_lock table (phases.Alive work) = Some (Lock table)
wish_lock table phases.Dead = None

abbrev pub wish_of : Phase → Option Given → Option Request → Option Claim
wish_of phase given None = None
wish_of phase given (Some requests.TakeSnapshot) = None
wish_of phase given (Some (requests.Run checked)) = wish_run phase given
wish_of phase given (Some (requests.Lock table)) = wish_lock table phase
wish_of phase given (Some requests.Commit) = None
wish_of phase given (Some requests.Rollback) = None
wish_of phase given (Some (requests.ReadSerial table)) = None
wish_of phase given (Some (requests.SetSerial table n)) = None

abbrev pub wish_at : States → ℕ → Option Claim
wish_at all s = wish_of (phase_at all s) (all.given s) (asked_at all s)

abbrev pub taken_wish : States → ℕ → Option Claim → Bool
taken_wish all s None = false
taken_wish all s (Some claim) = taken_from 0 s claim all.phases

abbrev pub holds_wish : Option Claim → Phase → Bool
holds_wish None phase = false
holds_wish (Some claim) phase = holds_phase claim phase

-- whether the request of one session waits for another session
abbrev pub waits_for : States → ℕ → ℕ → Bool
waits_for all s o = not (o == s) && holds_wish (wish_at all s) (phase_at all o)

-- a relation leads from one over others back to it
abbrev pub IsWay : (ℕ → ℕ → Bool) → ℕ → List ℕ → ℕ → Type 0
IsWay r first [] last = r first last ≡ true
IsWay r first (o ∷ between) last = (r first o ≡ true) × IsWay r o between last

abbrev pub LeadsBack : (ℕ → ℕ → Bool) → ℕ → Type 0
LeadsBack r s = (between : List ℕ) × IsWay r s between s
