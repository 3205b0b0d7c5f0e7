-- What an answer leaves of the transaction of a recovery, by its request; and what the recovery then holds.
use Rattle.std.proofs.Common.{◌≡◌, ℕ, true, false, List, inl, inr, refl, sym, subst, ◌∙◌}
use Rattle.std.specs.Prelude.{◌⊎◌}
use Rattle.schema.specs.declared.catalogue.TableDef.{TableDef}
use Rattle.catalogue.specs.declared.checked.Checked.{Checked}
use Rattle.backend_trait.specs.declared.request.Request.{Request}
use Rattle.backend_trait.specs.declared.request.Request.TheVariants as requests
use Rattle.backend_trait.specs.declared.answer.Answer.{Answer}
use Rattle.backend_trait.specs.declared.answer.Answer.TheVariants as answers
use Rattle.backend_trait.specs.Store.{Live, Transaction, Absent, Alive, Dead, Store, WhereLive, made_stale, where_live, committed_by, acted}
use Rattle.backend_trait.specs.Acts.{IsDone, MayAnswer, MayRun, MayLock, Crosses}
use Rattle.online_recovery.specs.declared.standing.Due.{Due}
use Rattle.online_recovery.specs.declared.standing.Due.TheVariants as dues
use Rattle.online_recovery.specs.declared.standing.Ending.{Ending}
use Rattle.online_recovery.specs.declared.standing.Held.{Held}
use Rattle.online_recovery.specs.declared.standing.Side.{Side}
use Rattle.online_recovery.specs.declared.standing.Side.TheVariants.{Source, Target}
use Rattle.online_recovery.specs.declared.standing.Task.{Task}
use Rattle.online_recovery.specs.declared.standing.Task.TheVariants.{OpeningSource, OpeningTarget, Reading, Emptying, Filling, Committing, Leaving, OpeningNumbers, ReadingSerial, LockingSerial, SettingSerial, ClosingNumbers}
use Rattle.online_recovery.specs.State.{backend_at, side_of}
use Rattle.online_recovery.specs.Copies.{all_rows_in}
use Rattle.online_recovery.specs.Rules.{request_of, heard}
use Rattle.one_copy_model.proofs.Places.{with_at-same}
use Rattle.recovery_laws.proofs.Lining.{WaitsAt}
use Rattle.play_laws.proofs.Courses.{RidsBy, HasSource, IsCopy}

-- Transactions.

live_gives : (P : Type 0) (x : Transaction) → WhereLive x (λ t. P) → P
live_gives P Absent h = absurd h
live_gives P (Alive t) h = h
live_gives P Dead h = absurd h

committed_none : (st : Store) (s : ℕ) (x : Transaction) → (committed_by st s x).transaction s ≡ Absent
committed_none st s Absent = with_at-same st.transaction s Absent
committed_none st s Dead = with_at-same st.transaction s Absent
committed_none st s (Alive t) = with_at-same (λ o. where_live (made_stale t.changes) (st.transaction o)) s Absent

pub commit_none : (st : Store) (s : ℕ) (answer : Answer) → MayAnswer st s (record { request = requests.Commit; crossed = false }) answer → (acted st s requests.Commit answer).transaction s ≡ Absent
commit_none st s answer may =
    subst (λ (a : Answer). (acted st s requests.Commit a).transaction s ≡ Absent) (sym (live_gives (IsDone answer) (st.transaction s) may)) (committed_none st s (st.transaction s))

pub rollback_none : (st : Store) (s : ℕ) (answer : Answer) → MayAnswer st s (record { request = requests.Rollback; crossed = false }) answer → (acted st s requests.Rollback answer).transaction s ≡ Absent
rollback_none st s answer may = subst (λ (a : Answer). (acted st s requests.Rollback a).transaction s ≡ Absent) (sym may) (with_at-same st.transaction s Absent)

-- where there is none, none is begun
abbrev pub IsIdle : Request → Type 0
IsIdle requests.TakeSnapshot = ⊥
IsIdle (requests.Run checked) = Unit {0}
IsIdle (requests.Lock table) = Unit {0}
IsIdle requests.Commit = ⊥
IsIdle requests.Rollback = ⊥
IsIdle (requests.ReadSerial table) = Unit {0}
IsIdle (requests.SetSerial table n) = Unit {0}

none_live : (x : Transaction) (P : Live → Type 0) → x ≡ Absent → WhereLive x P → ⊥
none_live x P none h = subst (λ (y : Transaction). WhereLive y P) none h

run_never : (st : Store) (s : ℕ) (crossed : Type 0) (checked : Checked) (answer : Answer) → st.transaction s ≡ Absent → MayRun st s crossed checked answer → ⊥
run_never st s crossed checked answers.Began none h = h
run_never st s crossed checked (answers.Rows rows) none h = none_live (st.transaction s) _ none h
run_never st s crossed checked (answers.Count n) none h = none_live (st.transaction s) _ none h
run_never st s crossed checked answers.Locked none h = h
run_never st s crossed checked answers.Done none h = h
run_never st s crossed checked (answers.Serial n) none h = h
run_never st s crossed checked (answers.Refused code) none h = none_live (st.transaction s) _ none h

lock_never : (st : Store) (s : ℕ) (crossed : Type 0) (table : ℕ) (answer : Answer) → st.transaction s ≡ Absent → (crossed → ⊥) → MayLock st s crossed table answer → ⊥
lock_never st s crossed table answers.Began none never h = h
lock_never st s crossed table (answers.Rows rows) none never h = h
lock_never st s crossed table (answers.Count n) none never h = h
lock_never st s crossed table answers.Locked none never h = none_live (st.transaction s) _ none h
lock_never st s crossed table answers.Done none never h = h
lock_never st s crossed table (answers.Serial n) none never h = h
lock_never st s crossed table (answers.Refused code) none never h = never h.1

pub idle_none : (st : Store) (s : ℕ) (request : Request) (answer : Answer) → IsIdle request → st.transaction s ≡ Absent → (Crosses st s request → ⊥)
    → MayAnswer st s (record { request = request; crossed = false }) answer → (acted st s request answer).transaction s ≡ Absent
idle_none st s requests.TakeSnapshot answer idle none never may = absurd idle
idle_none st s (requests.Run checked) answer idle none never may = absurd (run_never st s _ checked answer none may)
idle_none st s (requests.Lock table) answer idle none never may =
    absurd (lock_never st s _ table answer none (λ c. elim c [ inl e ↦ (let z : false ≡ true = e in cc) | inr q ↦ never q ]) may)
idle_none st s requests.Commit answer idle none never may = absurd idle
idle_none st s requests.Rollback answer idle none never may = absurd idle
idle_none st s (requests.ReadSerial table) answer idle none never may =
    subst (λ (a : Answer). (acted st s (requests.ReadSerial table) a).transaction s ≡ Absent) (sym may.2) (with_at-same st.transaction s (st.transaction s) ∙ none)
idle_none st s (requests.SetSerial table n) answer idle none never may =
    subst (λ (a : Answer). (acted st s (requests.SetSerial table n) a).transaction s ≡ Absent) (sym may) (with_at-same st.transaction s (st.transaction s) ∙ none)

-- What is held, by the task.

pub heard_target : (held : Held) (task : Task) → (heard held task).target ≡ held.target
heard_target held OpeningSource = refl
heard_target held OpeningTarget = refl
heard_target held (Reading table) = refl
heard_target held (Emptying table rows) = refl
heard_target held (Filling table rows left) = refl
heard_target held Committing = refl
heard_target held Leaving = refl
heard_target held OpeningNumbers = refl
heard_target held (ReadingSerial table) = refl
heard_target held (LockingSerial table n) = refl
heard_target held (SettingSerial table n) = refl
heard_target held ClosingNumbers = refl

pub heard_source : (held : Held) (task : Task) → (heard held task).source ≡ held.source
heard_source held OpeningSource = refl
heard_source held OpeningTarget = refl
heard_source held (Reading table) = refl
heard_source held (Emptying table rows) = refl
heard_source held (Filling table rows left) = refl
heard_source held Committing = refl
heard_source held Leaving = refl
heard_source held OpeningNumbers = refl
heard_source held (ReadingSerial table) = refl
heard_source held (LockingSerial table n) = refl
heard_source held (SettingSerial table n) = refl
heard_source held ClosingNumbers = refl

differ : {P : Type 0} → Target ≡ Source → P
differ e = absurd (cc)

differs : {P : Type 0} → Source ≡ Target → P
differs e = absurd (cc)

-- at its source a recovery hears nothing of its target, and the other way round
pub source_task : (held : Held) (task : Task) → side_of task ≡ Source → (heard held task).at_target ≡ held.at_target
source_task held OpeningSource e = refl
source_task held (Reading table) e = refl
source_task held Leaving e = refl
source_task held (ReadingSerial table) e = refl
source_task held OpeningTarget e = differ e
source_task held (Emptying table rows) e = differ e
source_task held (Filling table rows left) e = differ e
source_task held Committing e = differ e
source_task held OpeningNumbers e = differ e
source_task held (LockingSerial table n) e = differ e
source_task held (SettingSerial table n) e = differ e
source_task held ClosingNumbers e = differ e

pub target_task : (held : Held) (task : Task) → side_of task ≡ Target → (heard held task).at_source ≡ held.at_source
target_task held OpeningSource e = differs e
target_task held (Reading table) e = differs e
target_task held Leaving e = differs e
target_task held (ReadingSerial table) e = differs e
target_task held OpeningTarget e = refl
target_task held (Emptying table rows) e = refl
target_task held (Filling table rows left) e = refl
target_task held Committing e = refl
target_task held OpeningNumbers e = refl
target_task held (LockingSerial table n) e = refl
target_task held (SettingSerial table n) e = refl
target_task held ClosingNumbers e = refl

-- The transaction behind an answer, by the task: at the target none is left where none counts as held, at the source where it does not
-- count any more.

module _ (tables : List TableDef) (st : Store) (s : ℕ) (answer : Answer) (held : Held) where
  abbrev left : Request → Transaction
  left request = (acted st s request answer).transaction s

  abbrev May : Request → Type 0
  May request = MayAnswer st s (record { request = request; crossed = false }) answer

  pub target_none : (task : Task) → side_of task ≡ Target → (held.at_target ≡ false → st.transaction s ≡ Absent) → ((request : Request) → Crosses st s request → ⊥)
      → (heard held task).at_target ≡ false → May (request_of tables task) → left (request_of tables task) ≡ Absent
  target_none OpeningSource e none never rid may = differs e
  target_none (Reading table) e none never rid may = differs e
  target_none Leaving e none never rid may = differs e
  target_none (ReadingSerial table) e none never rid may = differs e
  target_none OpeningTarget e none never rid may = absurd (let z : true ≡ false = rid in cc)
  target_none OpeningNumbers e none never rid may = absurd (let z : true ≡ false = rid in cc)
  target_none Committing e none never rid may = commit_none st s answer may
  target_none ClosingNumbers e none never rid may = commit_none st s answer may
  target_none (Emptying table rows) e none never rid may = idle_none st s (request_of tables (Emptying table rows)) answer tt (none rid) (never (request_of tables (Emptying table rows))) may
  target_none (Filling table rows left) e none never rid may = idle_none st s (request_of tables (Filling table rows left)) answer tt (none rid) (never (request_of tables (Filling table rows left))) may
  target_none (LockingSerial table n) e none never rid may = idle_none st s (request_of tables (LockingSerial table n)) answer tt (none rid) (never (request_of tables (LockingSerial table n))) may
  target_none (SettingSerial table n) e none never rid may = idle_none st s (request_of tables (SettingSerial table n)) answer tt (none rid) (never (request_of tables (SettingSerial table n))) may

  serial_none : (table : ℕ) → st.transaction s ≡ Absent → May (requests.ReadSerial table) → left (requests.ReadSerial table) ≡ Absent
  serial_none table none may =
      subst (λ (a : Answer). (acted st s (requests.ReadSerial table) a).transaction s ≡ Absent) (sym may.2) (with_at-same st.transaction s (st.transaction s) ∙ none)

  pub source_now : (Q : Type 0) (task : Task) → side_of task ≡ Source → (st.transaction s ≡ Absent) ⊎ ((held.at_source ≡ true) ⊎ Q) → May (request_of tables task)
      → (left (request_of tables task) ≡ Absent) ⊎ (((heard held task).at_source ≡ true) ⊎ Q)
  source_now Q OpeningSource e old may = inr (inl refl)
  source_now Q (Reading table) e old may = elim old [ inl none ↦ absurd (run_never st s _ (all_rows_in tables table) answer none may) | inr q ↦ inr q ]
  source_now Q Leaving e old may = inl (rollback_none st s answer may)
  source_now Q (ReadingSerial table) e old may = elim old [ inl none ↦ inl (serial_none table none may) | inr q ↦ inr q ]
  source_now Q OpeningTarget e old may = differ e
  source_now Q (Emptying table rows) e old may = differ e
  source_now Q (Filling table rows left) e old may = differ e
  source_now Q Committing e old may = differ e
  source_now Q OpeningNumbers e old may = differ e
  source_now Q (LockingSerial table n) e old may = differ e
  source_now Q (SettingSerial table n) e old may = differ e
  source_now Q ClosingNumbers e old may = differ e

-- Where a recovery waits.

pub record IsAt (held : Held) (at : Due) (b : ℕ) (side : Side) : Type 0 where
  pub number : (backend_at held side).number ≡ b
  pub works : (side ≡ Source → HasSource held at) × (side ≡ Target → IsCopy held at)

pub undone_at : (held : Held) (side : Side) (ending : Ending) (b : ℕ) → RidsBy (dues.Undoing side ending) held.at_source held.at_target → (backend_at held side).number ≡ b → IsAt held (dues.Undoing side ending) b side
undone_at held Source ending b rids is = record { number = is; works = (λ e. rids, λ e. differs e) }
undone_at held Target ending b rids is = record { number = is; works = (λ e. differ e, λ e. rids) }

pub side_at : (held : Held) (at : Due) (b : ℕ) → RidsBy at held.at_source held.at_target → WaitsAt held at b → (side : Side) × IsAt held at b side
side_at held (dues.Waiting task) b rids waits = (side_of task, record { number = waits; works = (λ e. tt, λ e. tt) })
side_at held (dues.Undoing side ending) b rids waits = (side, undone_at held side ending b rids waits)
side_at held at b rids waits = absurd waits
