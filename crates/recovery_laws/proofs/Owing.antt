-- What a recovery holds: the layout stays; it has transactions, waits and detaches only while it has some of the gate's quiet.
use Rattle.std.proofs.Common.{◌≡◌, ◌≢◌, ℕ, zero, suc, length, Bool, true, false, List, refl, sym, ap, ◌∙◌, inl, inr, if◌then◌else◌}
use Rattle.std.specs.Prelude.{◌&&◌, ◌⊎◌, Option, Some, None}
use Rattle.pool_base.specs.Sets.{has}
use Rattle.pool_base.specs.declared.backend_id.BackendId.{BackendId}
use Rattle.pool_base.specs.declared.code.Code.{Code}
use Rattle.pool_base.specs.declared.gate_call.View.{View}
use Rattle.pool_base.specs.declared.gate_call.GateAnswer.{GateAnswer}
use Rattle.pool_base.specs.declared.gate_call.GateAnswer.TheVariants.{Seen, Granted, Held as IsHeld, Spent}
use Rattle.schema.specs.declared.catalogue.TableDef.{TableDef}
use Rattle.sql_eval.specs.declared.row.Row.{Row}
use Rattle.backend_trait.specs.declared.answer.Answer.{Answer}
use Rattle.backend_trait.specs.declared.answer.Answer.TheVariants as answers
use Rattle.session_orders.specs.declared.order.OrderBody.{OrderBody}
use Rattle.session_orders.specs.declared.order.OrderBody.TheVariants as orders
use Rattle.session_machine.specs.Answers.{lowest}
use Rattle.session_machine.specs.Rules.{refusal_of}
use Rattle.session_machine.specs.declared.action.SessionEvent.{SessionEvent}
use Rattle.session_machine.specs.declared.action.SessionEvent.TheVariants as events
use Rattle.online_recovery.specs.declared.standing.Quiet.{Quiet}
use Rattle.online_recovery.specs.declared.standing.Quiet.TheVariants.{Open, Copying, Asked, Entered}
use Rattle.online_recovery.specs.declared.standing.GateStanding.{GateStanding}
use Rattle.online_recovery.specs.declared.standing.GateStanding.TheVariants.{Out, InSnapshot, Live}
use Rattle.online_recovery.specs.declared.standing.Side.{Side}
use Rattle.online_recovery.specs.declared.standing.Side.TheVariants.{Source, Target}
use Rattle.online_recovery.specs.declared.standing.Task.{Task}
use Rattle.online_recovery.specs.declared.standing.Task.TheVariants.{OpeningSource, OpeningTarget, Reading, Emptying, Filling, Committing, Leaving, OpeningNumbers, ReadingSerial, LockingSerial, SettingSerial, ClosingNumbers}
use Rattle.online_recovery.specs.declared.standing.Ending.{Ending}
use Rattle.online_recovery.specs.declared.standing.Owed.{Owed}
use Rattle.online_recovery.specs.declared.standing.Owed.TheVariants.{Transaction, Snapshot, LiveTransaction, TheQuiet, Nothing}
use Rattle.online_recovery.specs.declared.standing.Due.{Due}
use Rattle.online_recovery.specs.declared.standing.Due.TheVariants.{Resting, LookDue, StartDue, SwapDue, EnterDue, PostDue, Waiting, ShowDue, LeaveSnapshotDue, FinishDue, AskDue, QuietDue, AttachDue, LostDue, Closing, Undoing}
use Rattle.online_recovery.specs.declared.standing.Held.{Held}
use Rattle.online_recovery.specs.declared.standing.Standing.{Standing}
use Rattle.online_recovery.specs.Codes.{cannot_recover, lost_on_the_way}
use Rattle.online_recovery.specs.State.{configured, is_shown, side_of, next_table, next_serial, owed_at_gate, owed}
use Rattle.online_recovery.specs.Rules.{with_view, due, refused, left, ordered, numbered, looked, copy_started, snapshot_entered, serial_due, numbers_due, copied_again, quiet_entered, source_opened, table_due, rows_read, filled, source_left, serial_read, proceeded, answered, shown, heard, taken_at, taken, over, lost_at, faulted, detached_at, detached, given_back, granted, held_off, called, swapped, undone, posted, after_at, after}
use Rattle.online_recovery.specs.Runs.{Phase}
use Rattle.online_recovery.proofs.Fitting.{Fits, Agrees}
use Rattle.recovery_laws.proofs.Targets.{task_open}

-- without quiet it has no transaction, and neither waits for a rollback nor has a source to detach
abbrev pub HasQuiet : Quiet → Due → Type 0
HasQuiet quiet (LostDue ending before count) = quiet ≢ Open
HasQuiet quiet (Undoing side ending) = quiet ≢ Open
HasQuiet quiet at = Unit {0}

pub record IsUp (tables : List TableDef) (r : Standing) : Type 0 where
  pub laid : r.held.layout.tables ≡ tables
  pub none : r.held.quiet ≡ Open → (r.held.at_target ≡ false) × (r.held.at_source ≡ false)
  pub has : HasQuiet r.held.quiet r.due

abbrev IsCalm : Due → Type 0
IsCalm (LostDue ending before count) = ⊥
IsCalm (Undoing side ending) = ⊥
IsCalm at = Unit {0}

-- a standing of the same layout, quiet and transactions, where no transaction or backend is in question
record IsOf (held : Held) (r : Standing) : Type 0 where
  laid : r.held.layout ≡ held.layout
  quiet : r.held.quiet ≡ held.quiet
  target : r.held.at_target ≡ held.at_target
  source : r.held.at_source ≡ held.at_source
  calm : IsCalm r.due

calm_has : (quiet : Quiet) (at : Due) → IsCalm at → HasQuiet quiet at
calm_has quiet (LostDue ending before count) calm = absurd calm
calm_has quiet (Undoing side ending) calm = absurd calm
calm_has quiet at calm = tt

abbrev Whole : List TableDef → Held → Type 0
Whole tables held = (held.layout.tables ≡ tables) × (held.quiet ≡ Open → (held.at_target ≡ false) × (held.at_source ≡ false))

up_of : (tables : List TableDef) (held : Held) (r : Standing) → Whole tables held → IsOf held r → IsUp tables r
up_of tables held r h o = record {
  laid = ap (λ layout. layout.tables) o.laid ∙ h.0;
  none = λ opened. let n = h.1 (sym o.quiet ∙ opened) in (o.target ∙ n.0, o.source ∙ n.1);
  has = calm_has r.held.quiet r.due o.calm;
}

same : (held : Held) (at : Due) → IsCalm at → IsOf held (due held at)
same held at calm = record { laid = refl; quiet = refl; target = refl; source = refl; calm = calm }

either : (t : Bool) (held : Held) (a b : Standing) → IsOf held a → IsOf held b → IsOf held (if t then a else b)
either true held a b f g = f
either false held a b f g = g

-- Where calls and answers lead.

numbered_of : (held : Held) (b : Option BackendId) → IsOf held (numbered held b)
numbered_of held None = same held _ tt
numbered_of held (Some b) =
    either (is_shown held b) held (refused held cannot_recover) (due (record held { target = b }) StartDue) (same held _ tt)
    (record { laid = refl; quiet = refl; target = refl; source = refl; calm = tt })

looked_of : (held : Held) (number : ℕ) (b : Option BackendId) → IsOf held (looked held number b)
looked_of held number None = same held _ tt
looked_of held number (Some b) = numbered_of held (configured held.layout.nodes number)

started_of : (held : Held) → IsOf held (copy_started held)
started_of held = either (is_shown held held.target) held (refused held cannot_recover) (due held SwapDue) (same held _ tt) (same held SwapDue tt)

snapshot_of : (held : Held) (b : Option BackendId) → IsOf held (snapshot_entered held b)
snapshot_of held None = same held _ tt
snapshot_of held (Some b) = record { laid = refl; quiet = refl; target = refl; source = refl; calm = tt }

serial_of : (held : Held) (table : Option ℕ) → IsOf held (serial_due held table)
serial_of held None = same held _ tt
serial_of held (Some table) = same held _ tt

numbers_of : (held : Held) (table : Option ℕ) → IsOf held (numbers_due held table)
numbers_of held None = same held _ tt
numbers_of held (Some table) = same held _ tt

again_of : (held : Held) (table : Option ℕ) → IsOf held (copied_again held table)
again_of held None = numbers_of held (next_serial held None)
again_of held (Some table) = same held _ tt

quiet_of : (held : Held) (b : Option BackendId) → IsOf held (quiet_entered held b)
quiet_of held None = same held _ tt
quiet_of held (Some b) =
    let n : Held = record held { source = b } in
    let o = again_of n (next_table n None) in
    record { laid = o.laid; quiet = o.quiet; target = o.target; source = o.source; calm = o.calm }

opened_of : (held : Held) (gate : GateStanding) → IsOf held (source_opened held gate)
opened_of held InSnapshot = same held _ tt
opened_of held Live = same held _ tt
opened_of held Out = same held _ tt

table_of : (held : Held) (table : Option ℕ) → IsOf held (table_due held table)
table_of held None = same held _ tt
table_of held (Some table) = same held _ tt

read_of : (held : Held) (table : ℕ) (answer : Answer) → IsOf held (rows_read held table answer)
read_of held table (answers.Rows rows) = same held _ tt
read_of held table answers.Began = same held _ tt
read_of held table (answers.Count n) = same held _ tt
read_of held table answers.Locked = same held _ tt
read_of held table answers.Done = same held _ tt
read_of held table (answers.Serial n) = same held _ tt
read_of held table (answers.Refused code) = same held _ tt

filled_of : (held : Held) (table : ℕ) (rows : List Row) (left : ℕ) → IsOf held (filled held table rows left)
filled_of held table rows zero = table_of held (next_table held (Some table))
filled_of held table rows (suc left) = same held _ tt

left_of : (held : Held) (gate : GateStanding) → IsOf held (source_left held gate)
left_of held Live = same held _ tt
left_of held InSnapshot = numbers_of held (next_serial held None)
left_of held Out = numbers_of held (next_serial held None)

number_of : (held : Held) (table : ℕ) (answer : Answer) → IsOf held (serial_read held table answer)
number_of held table (answers.Serial n) = same held _ tt
number_of held table answers.Began = same held _ tt
number_of held table (answers.Rows rows) = same held _ tt
number_of held table (answers.Count n) = same held _ tt
number_of held table answers.Locked = same held _ tt
number_of held table answers.Done = same held _ tt
number_of held table (answers.Refused code) = same held _ tt

proceeded_of : (held : Held) (task : Task) (answer : Answer) → IsOf held (proceeded held task answer)
proceeded_of held OpeningSource answer = opened_of held held.gate
proceeded_of held OpeningTarget answer = table_of held (next_table held None)
proceeded_of held (Reading table) answer = read_of held table answer
proceeded_of held (Emptying table rows) answer = filled_of held table rows (length rows)
proceeded_of held (Filling table rows left) answer = filled_of held table rows left
proceeded_of held Committing answer = same held _ tt
proceeded_of held Leaving answer = left_of held held.gate
proceeded_of held OpeningNumbers answer = serial_of held (next_serial held None)
proceeded_of held (ReadingSerial table) answer = number_of held table answer
proceeded_of held (LockingSerial table n) answer = same held _ tt
proceeded_of held (SettingSerial table n) answer = serial_of held (next_serial held (Some table))
proceeded_of held ClosingNumbers answer = same held _ tt

answered_of : (held : Held) (task : Task) (answer : Answer) (code : Option Code) → IsOf held (answered held task answer code)
answered_of held task answer None = proceeded_of held task answer
answered_of held task answer (Some code) = same held _ tt

shown_of : (held : Held) (task : Task) (answer : Answer) → IsOf held (shown held task answer)
unfolding shown
shown_of held task answer = either (is_shown held held.source) held (answered held task answer (refusal_of answer)) (refused held lost_on_the_way) (answered_of held task answer (refusal_of answer)) (same held _ tt)

-- What holds stays.

module _ (tables : List TableDef) where
  abbrev Up : Standing → Type 0
  Up r = IsUp tables r

  simple : (held : Held) (at : Due) → Whole tables held → IsCalm at → Up (due held at)
  simple held at h calm = up_of tables held (due held at) h (same held at calm)

  -- another quiet that is some
  some_quiet : (held : Held) (r : Standing) → held.layout.tables ≡ tables → (held.quiet ≡ Open → ⊥) → IsOf held r → Up r
  some_quiet held r laid never o = up_of tables held r (laid, λ opened. absurd (never opened)) o

  viewed : (held : Held) (view : View) → Whole tables held → Whole tables (with_view held view)
  viewed held view h = (h.0, λ opened. let n = h.1 opened in (n.0, ap (λ (b : Bool). b && has view.attached.bits held.source.number) n.1))

  -- what is owed where nothing but the quiet is
  owed_quiet : (gate : GateStanding) (quiet : Quiet) (a b : Bool) → (if a then Transaction Target else if b then Transaction Source else owed_at_gate gate quiet) ≡ TheQuiet → (a ≡ false) × (b ≡ false)
  owed_quiet gate quiet true b e = absurd (let z : Transaction Target ≡ TheQuiet = e in cc)
  owed_quiet gate quiet false true e = absurd (let z : Transaction Source ≡ TheQuiet = e in cc)
  owed_quiet gate quiet false false e = (refl, refl)

  back_up : (held : Held) (ending : Ending) (o : Owed) → owed held ≡ o → Whole tables held → Up (due (given_back held o) (Closing ending))
  back_up held ending (Transaction side) e h = simple held _ h tt
  back_up held ending Snapshot e h = simple (record held { gate = Live }) _ h tt
  back_up held ending LiveTransaction e h = simple (record held { gate = Out }) _ h tt
  back_up held ending TheQuiet e h = simple (record held { quiet = Open }) _ (h.0, λ opened. owed_quiet held.gate held.quiet held.at_target held.at_source e) tt
  back_up held ending Nothing e h = simple held _ h tt

  granted_up : (held : Held) (at : Due) → Whole tables held → HasQuiet held.quiet at → Up (granted held at)
  unfolding granted
  granted_up held (LookDue number) h q = up_of tables held _ h (looked_of held number (lowest held.view.attached.bits))
  granted_up held StartDue h q = some_quiet (record held { quiet = Copying }) _ h.0 (λ e. let z : Copying ≡ Open = e in cc) (started_of (record held { quiet = Copying }))
  granted_up held EnterDue h q = up_of tables (record held { gate = InSnapshot }) _ h (snapshot_of (record held { gate = InSnapshot }) (lowest held.view.attached.bits))
  granted_up held (ShowDue task answer) h q = up_of tables held _ h (shown_of held task answer)
  granted_up held LeaveSnapshotDue h q = simple (record held { gate = Live }) _ h tt
  granted_up held FinishDue h q = simple (record held { gate = Out }) _ h tt
  granted_up held AskDue h q = some_quiet (record held { quiet = Asked }) _ h.0 (λ e. let z : Asked ≡ Open = e in cc) (same (record held { quiet = Asked }) QuietDue tt)
  granted_up held QuietDue h q =
      let n : Held = record held { quiet = Entered; touched = held.view.touched } in
      some_quiet n _ h.0 (λ e. let z : Entered ≡ Open = e in cc) (quiet_of n (lowest held.view.attached.bits))
  granted_up held AttachDue h q = simple held _ h tt
  granted_up held (Closing ending) h q = back_up held ending (owed held) refl h
  granted_up held Resting h q = simple held _ h tt
  granted_up held SwapDue h q = simple held _ h tt
  granted_up held (PostDue task) h q = simple held _ h tt
  granted_up held (Waiting task) h q = simple held _ h tt
  granted_up held (LostDue ending before count) h q = record { laid = h.0; none = h.1; has = q }
  granted_up held (Undoing side ending) h q = record { laid = h.0; none = h.1; has = q }

  as_it_is : (held : Held) (at : Due) → Whole tables held → HasQuiet held.quiet at → Up (due held at)
  as_it_is held at h q = record { laid = h.0; none = h.1; has = q }

  held_up : (held : Held) (at : Due) → Whole tables held → HasQuiet held.quiet at → Up (held_off held at)
  held_up held StartDue h q = simple held _ h tt
  held_up held at h q = as_it_is held at h q

  called_up : (held : Held) (at : Due) (answer : GateAnswer) → Whole tables held → HasQuiet held.quiet at → Up (called held at answer)
  unfolding called
  called_up held at (Seen view) h q = granted_up (with_view held view) at (viewed held view h) q
  called_up held at (Granted view) h q = granted_up (with_view held view) at (viewed held view h) q
  called_up held at (IsHeld count) h q = held_up held at h q
  called_up held at Spent h q = simple held _ h tt

  left_up : (held : Held) (at : Due) → Whole tables held → HasQuiet held.quiet at → Up (left held at)
  left_up held (LostDue ending before count) h q = as_it_is held _ h q
  left_up held Resting h q = simple held _ h tt
  left_up held (LookDue number) h q = simple held _ h tt
  left_up held StartDue h q = simple held _ h tt
  left_up held SwapDue h q = simple held _ h tt
  left_up held EnterDue h q = simple held _ h tt
  left_up held (PostDue task) h q = simple held _ h tt
  left_up held (Waiting task) h q = simple held _ h tt
  left_up held (ShowDue task answer) h q = simple held _ h tt
  left_up held LeaveSnapshotDue h q = simple held _ h tt
  left_up held FinishDue h q = simple held _ h tt
  left_up held AskDue h q = simple held _ h tt
  left_up held QuietDue h q = simple held _ h tt
  left_up held AttachDue h q = simple held _ h tt
  left_up held (Closing ending) h q = simple held _ h tt
  left_up held (Undoing side ending) h q = simple held _ h tt

  ordered_up : (held : Held) (at : Due) (body : OrderBody) → Whole tables held → HasQuiet held.quiet at → Up (ordered held at body)
  ordered_up held at (orders.Recover number) h q = simple held _ h tt
  ordered_up held at orders.Leave h q = left_up held at h q
  ordered_up held at body h q = as_it_is held at h q

  swapped_up : (held : Held) (at : Due) → Whole tables held → HasQuiet held.quiet at → Up (swapped held at)
  swapped_up held SwapDue h q = simple held _ h tt
  swapped_up held at h q = as_it_is held at h q

  -- a rollback is asked where there is a transaction
  owes_some : (gate : GateStanding) (quiet : Quiet) (side : Side) (a b : Bool) → (if a then Transaction Target else if b then Transaction Source else owed_at_gate gate quiet) ≡ Transaction side → (a ≡ true) ⊎ (b ≡ true)
  owes_some gate quiet side true b e = inl refl
  owes_some gate quiet side false true e = inr refl
  owes_some InSnapshot quiet side false false e = absurd (cc)
  owes_some Live quiet side false false e = absurd (cc)
  owes_some Out Open side false false e = absurd (cc)
  owes_some Out Copying side false false e = absurd (cc)
  owes_some Out Asked side false false e = absurd (cc)
  owes_some Out Entered side false false e = absurd (cc)

  some_open : (held : Held) (side : Side) → owed held ≡ Transaction side → Whole tables held → held.quiet ≢ Open
  some_open held side e h opened =
      let n = h.1 opened in
      elim (owes_some held.gate held.quiet side held.at_target held.at_source e) [
        | inl is ↦ (let z : true ≡ false = sym is ∙ n.0 in cc)
        | inr is ↦ (let z : true ≡ false = sym is ∙ n.1 in cc)
      ]

  undone_up : (held : Held) (ending : Ending) (o : Owed) → owed held ≡ o → Whole tables held → Up (undone held ending o)
  undone_up held ending (Transaction side) e h = as_it_is held _ h (some_open held side e h)
  undone_up held ending Snapshot e h = simple held _ h tt
  undone_up held ending LiveTransaction e h = simple held _ h tt
  undone_up held ending TheQuiet e h = simple held _ h tt
  undone_up held ending Nothing e h = simple held _ h tt

  posted_up : (held : Held) (at : Due) → Whole tables held → HasQuiet held.quiet at → Up (posted held at)
  posted_up held (PostDue task) h q = simple held _ h tt
  posted_up held (Closing ending) h q = undone_up held ending (owed held) refl h
  posted_up held at h q = as_it_is held at h q

  -- Answers and losses: where a task waits there is some quiet.

  heard_laid : (held : Held) (task : Task) → ((heard held task).layout ≡ held.layout) × ((heard held task).quiet ≡ held.quiet)
  heard_laid held OpeningSource = (refl, refl)
  heard_laid held OpeningTarget = (refl, refl)
  heard_laid held Committing = (refl, refl)
  heard_laid held Leaving = (refl, refl)
  heard_laid held OpeningNumbers = (refl, refl)
  heard_laid held ClosingNumbers = (refl, refl)
  heard_laid held (Reading table) = (refl, refl)
  heard_laid held (Emptying table rows) = (refl, refl)
  heard_laid held (Filling table rows left) = (refl, refl)
  heard_laid held (ReadingSerial table) = (refl, refl)
  heard_laid held (LockingSerial table n) = (refl, refl)
  heard_laid held (SettingSerial table n) = (refl, refl)

  side_up : (held : Held) (task : Task) (answer : Answer) (side : Side) → held.layout.tables ≡ tables → (held.quiet ≡ Open → ⊥) → Up (taken_at held task answer side)
  side_up held task answer Source laid never = some_quiet held _ laid never (same held _ tt)
  side_up held task answer Target laid never = some_quiet held _ laid never (answered_of held task answer (refusal_of answer))

  has_any : (quiet : Quiet) (at : Due) → (quiet ≡ Open → ⊥) → HasQuiet quiet at
  has_any quiet (LostDue ending before count) never = never
  has_any quiet (Undoing side ending) never = never
  has_any quiet at never = tt

  over_up : (held : Held) (side : Side) (at : Due) → held.layout.tables ≡ tables → (held.quiet ≡ Open → ⊥) → Up (due (over held side) at)
  over_up held Source at laid never = record { laid = laid; none = λ opened. absurd (never opened); has = has_any held.quiet at never }
  over_up held Target at laid never = record { laid = laid; none = λ opened. absurd (never opened); has = has_any held.quiet at never }

  lost_up : (held : Held) (side : Side) (ending : Ending) (before count : ℕ) → held.layout.tables ≡ tables → (held.quiet ≡ Open → ⊥) → Up (lost_at held side ending before count)
  lost_up held Source ending before count laid never = over_up held Source (LostDue ending before count) laid never
  lost_up held Target ending before count laid never = over_up held Target (Closing ending) laid never

  abbrev WaitsQuiet : Quiet → Due → Type 0
  WaitsQuiet quiet (Waiting task) = quiet ≡ Open → ⊥
  WaitsQuiet quiet at = Unit {0}

  taken_up : (held : Held) (at : Due) (answer : Answer) → WaitsQuiet held.quiet at → Whole tables held → HasQuiet held.quiet at → Up (taken held at answer)
  unfolding taken
  taken_up held (Waiting task) answer never h q =
      let l = heard_laid held task in
      side_up (heard held task) task answer (side_of task) (ap (λ layout. layout.tables) l.0 ∙ h.0) (λ opened. never (sym l.1 ∙ opened))
  taken_up held (Undoing side ending) answer never h q = over_up held side (Closing ending) h.0 q
  taken_up held at answer never h q = as_it_is held at h q

  faulted_up : (held : Held) (at : Due) (before count : ℕ) → WaitsQuiet held.quiet at → Whole tables held → HasQuiet held.quiet at → Up (faulted held at before count)
  faulted_up held (Waiting task) before count never h q = lost_up held (side_of task) _ before count h.0 never
  faulted_up held (Undoing side ending) before count never h q = lost_up held side ending before count h.0 q
  faulted_up held at before count never h q = as_it_is held at h q

  parted_up : (held : Held) (at : Due) → Whole tables held → HasQuiet held.quiet at → Up (detached_at held at)
  parted_up held (LostDue ending before count) h q = simple held _ h tt
  parted_up held at h q = as_it_is held at h q

  detached_up : (held : Held) (at : Due) (answer : GateAnswer) → Whole tables held → HasQuiet held.quiet at → Up (detached held at answer)
  detached_up held at (Seen view) h q = parted_up (with_view held view) at (viewed held view h) q
  detached_up held at (Granted view) h q = parted_up (with_view held view) at (viewed held view h) q
  detached_up held at (IsHeld count) h q = as_it_is held at h q
  detached_up held at Spent h q = as_it_is held at h q

  waits_quiet : (held : Held) (at : Due) (p : Phase) → Agrees p held → Fits at p → WaitsQuiet held.quiet at
  waits_quiet held (Waiting task) p a f = λ opened. task_open task p f (a.1 ∙ opened)
  waits_quiet held at p a f = tt

  pub stays_up : (r : Standing) (p : Phase) (event : SessionEvent) → Agrees p r.held → Fits r.due p → Up r → Up (after r event)
  unfolding after_at
  stays_up r p (events.Ordered order) a f h = ordered_up r.held r.due order.body (h.laid, h.none) h.has
  stays_up r p (events.Called call answer) a f h = called_up r.held r.due answer (h.laid, h.none) h.has
  stays_up r p (events.Swapped b) a f h = swapped_up r.held r.due (h.laid, h.none) h.has
  stays_up r p (events.Posted b request) a f h = posted_up r.held r.due (h.laid, h.none) h.has
  stays_up r p (events.Taken b answer) a f h = taken_up r.held r.due answer (waits_quiet r.held r.due p a f) (h.laid, h.none) h.has
  stays_up r p (events.Faulted b before count) a f h = faulted_up r.held r.due before count (waits_quiet r.held r.due p a f) (h.laid, h.none) h.has
  stays_up r p (events.Detached b cause answer) a f h = detached_up r.held r.due answer (h.laid, h.none) h.has
  stays_up r p (events.Replied outcome status) a f h = record { laid = h.laid; none = λ opened. (refl, refl); has = tt }
  stays_up r p events.Ended a f h = record { laid = h.laid; none = λ opened. (refl, refl); has = tt }
