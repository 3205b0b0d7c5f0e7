-- Where a recovery stands by itself: what it holds at its source and its target, by what is due.
use Rattle.std.proofs.Common.{◌≡◌, ℕ, zero, suc, length, Bool, true, false, List, inl, inr, refl, sym, ap, subst, ◌∙◌}
use Rattle.std.specs.Prelude.{◌&&◌, ◌⊎◌, Option, Some, None, if◌then◌else◌}
use Rattle.pool_base.specs.Sets.{has}
use Rattle.pool_base.specs.declared.backend_id.BackendId.{BackendId}
use Rattle.pool_base.specs.declared.code.Code.{Code}
use Rattle.pool_base.specs.declared.gate_call.View.{View}
use Rattle.pool_base.specs.declared.gate_call.GateAnswer.{GateAnswer}
use Rattle.pool_base.specs.declared.gate_call.GateAnswer.TheVariants.{Seen, Granted, Held as IsHeld, Spent}
use Rattle.sql_eval.specs.declared.row.Row.{Row}
use Rattle.backend_trait.specs.declared.answer.Answer.{Answer}
use Rattle.backend_trait.specs.declared.answer.Answer.TheVariants as answers
use Rattle.session_machine.specs.Answers.{lowest, is_attached}
use Rattle.session_machine.specs.Rules.{refusal_of}
use Rattle.online_recovery.specs.declared.standing.Quiet.{Quiet}
use Rattle.online_recovery.specs.declared.standing.Quiet.TheVariants.{Open, Copying, Asked, Entered}
use Rattle.online_recovery.specs.declared.standing.GateStanding.{GateStanding}
use Rattle.online_recovery.specs.declared.standing.GateStanding.TheVariants.{Out, InSnapshot, Live}
use Rattle.online_recovery.specs.declared.standing.Side.TheVariants.{Source, Target}
use Rattle.online_recovery.specs.declared.standing.Task.{Task}
use Rattle.online_recovery.specs.declared.standing.Task.TheVariants.{OpeningSource, OpeningTarget, Reading, Emptying, Filling, Committing, Leaving, OpeningNumbers, ReadingSerial, LockingSerial, SettingSerial, ClosingNumbers}
use Rattle.online_recovery.specs.declared.standing.Ending.{Ending}
use Rattle.online_recovery.specs.declared.standing.Ending.TheVariants.{Attached, Refused}
use Rattle.online_recovery.specs.declared.standing.Owed.{Owed}
use Rattle.online_recovery.specs.declared.standing.Owed.TheVariants.{Transaction, Snapshot, LiveTransaction, TheQuiet, Nothing}
use Rattle.online_recovery.specs.declared.standing.Due.{Due}
use Rattle.online_recovery.specs.declared.standing.Due.TheVariants.{Resting, LookDue, StartDue, SwapDue, EnterDue, PostDue, Waiting, ShowDue, LeaveSnapshotDue, FinishDue, AskDue, QuietDue, AttachDue, LostDue, Closing, Undoing}
use Rattle.online_recovery.specs.declared.standing.Held.{Held}
use Rattle.online_recovery.specs.declared.standing.Standing.{Standing}
use Rattle.online_recovery.specs.Codes.{cannot_recover, lost_on_the_way, under_way}
use Rattle.session_machine.specs.Codes.{counts_spent, no_backend}
use Rattle.online_recovery.specs.State.{configured, is_shown, next_table, next_serial, owed, owed_at_gate}
use Rattle.online_recovery.specs.Rules.{with_view, due, refused, numbered, looked, copy_started, snapshot_entered, serial_due, numbers_due, copied_again, quiet_entered, source_opened, table_due, rows_read, filled, source_left, serial_read, proceeded, answered, shown, given_back, granted, held_off, called}
use Rattle.one_copy_model.proofs.Finding.{is_found}
use Rattle.recovery_laws.proofs.Freeing.{Shows}

-- a stage is under way: its source and its target are chosen
abbrev pub IsBusy : Due → Type 0 → Type 0
IsBusy Resting P = P
IsBusy (LookDue number) P = P
IsBusy StartDue P = P
IsBusy SwapDue P = P
IsBusy EnterDue P = P
IsBusy (PostDue task) P = Unit {0}
IsBusy (Waiting task) P = Unit {0}
IsBusy (ShowDue task answer) P = Unit {0}
IsBusy LeaveSnapshotDue P = Unit {0}
IsBusy FinishDue P = Unit {0}
IsBusy AskDue P = Unit {0}
IsBusy QuietDue P = Unit {0}
IsBusy AttachDue P = Unit {0}
IsBusy (LostDue ending before count) P = P
IsBusy (Closing ending) P = P
IsBusy (Undoing side ending) P = P

-- else a recovery works at its source and its target while it has a transaction there
abbrev pub HasSource : Held → Due → Type 0
HasSource held at = IsBusy at (held.at_source ≡ true)

abbrev pub IsCopy : Held → Due → Type 0
IsCopy held EnterDue = Unit {0}
IsCopy held at = IsBusy at (held.at_target ≡ true)

-- nothing is waited for
abbrev pub IsCalm : Due → Type 0
IsCalm (Waiting task) = ⊥
IsCalm (Undoing side ending) = ⊥
IsCalm at = Unit {0}

-- where no transaction is held
abbrev pub Rids : Bool → Bool → Type 0
Rids source target = (source ≡ false) × (target ≡ false)

-- which of the two counts as held, by the task that is asked, and that was answered
abbrev pub RidsTask : Task → Bool → Type 0
RidsTask Leaving target = target ≡ false
RidsTask task target = Unit {0}

abbrev pub RidsShown : Task → Bool → Bool → Type 0
RidsShown Leaving source target = Rids source target
RidsShown Committing source target = target ≡ false
RidsShown ClosingNumbers source target = target ≡ false
RidsShown task source target = Unit {0}

abbrev pub RidsBy : Due → Bool → Bool → Type 0
RidsBy Resting source target = Rids source target
RidsBy (LookDue number) source target = Rids source target
RidsBy StartDue source target = Rids source target
RidsBy SwapDue source target = Rids source target
RidsBy EnterDue source target = Rids source target
RidsBy (PostDue task) source target = RidsTask task target
RidsBy (Waiting task) source target = RidsTask task target
RidsBy (ShowDue task answer) source target = RidsShown task source target
RidsBy LeaveSnapshotDue source target = Unit {0}
RidsBy FinishDue source target = Rids source target
RidsBy AskDue source target = Rids source target
RidsBy QuietDue source target = Rids source target
RidsBy AttachDue source target = target ≡ false
RidsBy (LostDue ending before count) source target = Unit {0}
RidsBy (Closing ending) source target = Unit {0}
RidsBy (Undoing Source ending) source target = source ≡ true
RidsBy (Undoing Target ending) source target = target ≡ true

pub record Tidy (r : Standing) : Type 0 where
  pub rids : RidsBy r.due r.held.at_source r.held.at_target
  pub at_source : r.held.at_source ≡ true → r.held.quiet ≡ Open → ⊥
  pub at_target : r.held.at_target ≡ true → r.held.quiet ≡ Open → ⊥

pub new_tidy : (r : Standing) → r.due ≡ Resting → r.held.at_source ≡ false → r.held.at_target ≡ false → Tidy r
new_tidy r due source target = record {
  rids = subst (λ (d : Due). RidsBy d r.held.at_source r.held.at_target) (sym due) (source, target);
  at_source = λ e. absurd (let z : true ≡ false = sym e ∙ source in cc);
  at_target = λ e. absurd (let z : true ≡ false = sym e ∙ target in cc);
}

-- Behind an answer that was shown: what is held stays, and nothing is waited for.

abbrev pub EndsBy : Due → Bool → Bool → Type 0
EndsBy (PostDue task) source target = RidsTask task target
EndsBy LeaveSnapshotDue source target = Unit {0}
EndsBy FinishDue source target = Rids source target
EndsBy AttachDue source target = target ≡ false
EndsBy (Closing ending) source target = Unit {0}
EndsBy at source target = ⊥

abbrev pub Ends : Held → Standing → Type 0
Ends held r = (r.held ≡ held) × EndsBy r.due held.at_source held.at_target

refused_ends : (held : Held) (code : Code) → Ends held (refused held code)
refused_ends held code = (refl, tt)

either_ends : (t : Bool) (held : Held) (x y : Standing) → Ends held x → Ends held y → Ends held (if t then x else y)
either_ends true held x y a b = a
either_ends false held x y a b = b

serial_ends : (held : Held) (table : Option ℕ) → Ends held (serial_due held table)
serial_ends held None = (refl, tt)
serial_ends held (Some table) = (refl, tt)

numbers_ends : (held : Held) (table : Option ℕ) → held.at_target ≡ false → Ends held (numbers_due held table)
numbers_ends held None e = (refl, e)
numbers_ends held (Some table) e = (refl, tt)

again_ends : (held : Held) (table : Option ℕ) → held.at_target ≡ false → Ends held (copied_again held table)
again_ends held None e = numbers_ends held (next_serial held None) e
again_ends held (Some table) e = (refl, tt)

opened_ends : (held : Held) (gate : GateStanding) → Ends held (source_opened held gate)
opened_ends held InSnapshot = (refl, tt)
opened_ends held Live = (refl, tt)
opened_ends held Out = (refl, tt)

table_ends : (held : Held) (table : Option ℕ) → Ends held (table_due held table)
table_ends held None = (refl, tt)
table_ends held (Some table) = (refl, tt)

rows_ends : (held : Held) (table : ℕ) (answer : Answer) → Ends held (rows_read held table answer)
rows_ends held table (answers.Rows rows) = (refl, tt)
rows_ends held table answers.Began = (refl, tt)
rows_ends held table (answers.Count n) = (refl, tt)
rows_ends held table answers.Locked = (refl, tt)
rows_ends held table answers.Done = (refl, tt)
rows_ends held table (answers.Serial n) = (refl, tt)
rows_ends held table (answers.Refused code) = (refl, tt)

filled_ends : (held : Held) (table : ℕ) (rows : List Row) (left : ℕ) → Ends held (filled held table rows left)
filled_ends held table rows zero = table_ends held (next_table held (Some table))
filled_ends held table rows (suc left) = (refl, tt)

left_ends : (held : Held) (gate : GateStanding) → Rids held.at_source held.at_target → Ends held (source_left held gate)
left_ends held Live e = (refl, e)
left_ends held InSnapshot e = numbers_ends held (next_serial held None) e.1
left_ends held Out e = numbers_ends held (next_serial held None) e.1

number_ends : (held : Held) (table : ℕ) (answer : Answer) → Ends held (serial_read held table answer)
number_ends held table (answers.Serial n) = (refl, tt)
number_ends held table answers.Began = (refl, tt)
number_ends held table (answers.Rows rows) = (refl, tt)
number_ends held table (answers.Count n) = (refl, tt)
number_ends held table answers.Locked = (refl, tt)
number_ends held table answers.Done = (refl, tt)
number_ends held table (answers.Refused code) = (refl, tt)

proceeded_ends : (held : Held) (task : Task) (answer : Answer) → RidsShown task held.at_source held.at_target → Ends held (proceeded held task answer)
proceeded_ends held OpeningSource answer e = opened_ends held held.gate
proceeded_ends held OpeningTarget answer e = table_ends held (next_table held None)
proceeded_ends held (Reading table) answer e = rows_ends held table answer
proceeded_ends held (Emptying table rows) answer e = filled_ends held table rows (length rows)
proceeded_ends held (Filling table rows left) answer e = filled_ends held table rows left
proceeded_ends held Committing answer e = (refl, e)
proceeded_ends held Leaving answer e = left_ends held held.gate e
proceeded_ends held OpeningNumbers answer e = serial_ends held (next_serial held None)
proceeded_ends held (ReadingSerial table) answer e = number_ends held table answer
proceeded_ends held (LockingSerial table n) answer e = (refl, tt)
proceeded_ends held (SettingSerial table n) answer e = serial_ends held (next_serial held (Some table))
proceeded_ends held ClosingNumbers answer e = (refl, e)

pub answered_ends : (held : Held) (task : Task) (answer : Answer) (code : Option Code) → RidsShown task held.at_source held.at_target → Ends held (answered held task answer code)
answered_ends held task answer None e = proceeded_ends held task answer e
answered_ends held task answer (Some code) e = (refl, tt)

shown_ends : (held : Held) (task : Task) (answer : Answer) → RidsShown task held.at_source held.at_target → Ends held (shown held task answer)
unfolding shown
shown_ends held task answer e =
    either_ends (is_shown held held.source) held (answered held task answer (refusal_of answer)) (refused held lost_on_the_way)
    (answered_ends held task answer (refusal_of answer) e) (refl, tt)

-- A step of a recovery: what it leaves of what is held, where these backends are attached behind it.

pub record Steps (n : ℕ) (r x : Standing) : Type 0 where
  pub calm : IsCalm x.due
  pub tidy : Tidy x
  pub same_target : x.held.at_target ≡ r.held.at_target
  pub copies : IsCopy x.held x.due → IsCopy r.held r.due × (x.held.target ≡ r.held.target)
  pub sources : HasSource x.held x.due → (HasSource r.held r.due × (x.held.source ≡ r.held.source)) ⊎ (has n x.held.source.number ≡ true)
  pub holds : r.held.at_source ≡ true → ((x.held.at_source ≡ true) × (x.held.source ≡ r.held.source)) ⊎ (has n r.held.source.number ≡ false)

never : {P : Type 0} (b : Bool) → b ≡ true → b ≡ false → P
never b e f = absurd (let z : true ≡ false = sym e ∙ f in cc)

-- nothing of a copy is held, and nothing comes to be
module _ (n : ℕ) (r x : Standing) (source : r.held.at_source ≡ false) (target : r.held.at_target ≡ false)
    (same_source : x.held.at_source ≡ r.held.at_source) (same_target : x.held.at_target ≡ r.held.at_target) where
  idle_tidy : RidsBy x.due x.held.at_source x.held.at_target → Tidy x
  idle_tidy rids = record {
    rids = rids;
    at_source = λ e. never x.held.at_source e (same_source ∙ source);
    at_target = λ e. never x.held.at_target e (same_target ∙ target);
  }

  idle_rids : Rids x.held.at_source x.held.at_target
  idle_rids = (same_source ∙ source, same_target ∙ target)

  idle_steps : IsCalm x.due → RidsBy x.due x.held.at_source x.held.at_target → (IsCopy x.held x.due → x.held.at_target ≡ true) → (HasSource x.held x.due → x.held.at_source ≡ true) → Steps n r x
  idle_steps calm rids copies sources = record {
    calm = calm;
    tidy = idle_tidy rids;
    same_target = same_target;
    copies = λ c. never x.held.at_target (copies c) (same_target ∙ target);
    sources = λ c. never x.held.at_source (sources c) (same_source ∙ source);
    holds = λ e. never r.held.at_source e source;
  }

either_steps : (t : Bool) (n : ℕ) (r x y : Standing) → Steps n r x → Steps n r y → Steps n r (if t then x else y)
either_steps true n r x y a b = a
either_steps false n r x y a b = b

-- the same is held in the same place
module _ (n : ℕ) (r x : Standing) (same : x.held.at_source ≡ r.held.at_source) (same_target : x.held.at_target ≡ r.held.at_target) (source : x.held.source ≡ r.held.source) (target : x.held.target ≡ r.held.target)
    (old : Tidy r) where
  kept_steps : IsCalm x.due → RidsBy x.due x.held.at_source x.held.at_target → ((x.held.at_source ≡ true) ⊎ (x.held.at_target ≡ true) → x.held.quiet ≡ Open → r.held.quiet ≡ Open)
      → (IsCopy x.held x.due → IsCopy r.held r.due) → (HasSource x.held x.due → HasSource r.held r.due) → Steps n r x
  kept_steps calm rids quiet copies sources = record {
    calm = calm;
    tidy = record {
      rids = rids;
      at_source = λ e opens. old.at_source (sym same ∙ e) (quiet (inl e) opens);
      at_target = λ e opens. old.at_target (sym same_target ∙ e) (quiet (inr e) opens);
    };
    same_target = same_target;
    copies = λ c. (copies c, target);
    sources = λ c. inl (sources c, source);
    holds = λ e. inl (same ∙ e, source);
  }

pub busy_of : (at : Due) (P : Type 0) → P → IsBusy at P
busy_of Resting P p = p
busy_of (LookDue number) P p = p
busy_of StartDue P p = p
busy_of SwapDue P p = p
busy_of EnterDue P p = p
busy_of (PostDue task) P p = tt
busy_of (Waiting task) P p = tt
busy_of (ShowDue task answer) P p = tt
busy_of LeaveSnapshotDue P p = tt
busy_of FinishDue P p = tt
busy_of AskDue P p = tt
busy_of QuietDue P p = tt
busy_of AttachDue P p = tt
busy_of (LostDue ending before count) P p = p
busy_of (Closing ending) P p = p
busy_of (Undoing side ending) P p = p

busy_map : (at : Due) (P Q : Type 0) → (P → Q) → IsBusy at P → IsBusy at Q
busy_map Resting P Q f p = f p
busy_map (LookDue number) P Q f p = f p
busy_map StartDue P Q f p = f p
busy_map SwapDue P Q f p = f p
busy_map EnterDue P Q f p = f p
busy_map (PostDue task) P Q f p = tt
busy_map (Waiting task) P Q f p = tt
busy_map (ShowDue task answer) P Q f p = tt
busy_map LeaveSnapshotDue P Q f p = tt
busy_map FinishDue P Q f p = tt
busy_map AskDue P Q f p = tt
busy_map QuietDue P Q f p = tt
busy_map AttachDue P Q f p = tt
busy_map (LostDue ending before count) P Q f p = f p
busy_map (Closing ending) P Q f p = f p
busy_map (Undoing side ending) P Q f p = f p

pub copy_of : (held : Held) (at : Due) → held.at_target ≡ true → IsCopy held at
copy_of held EnterDue e = tt
copy_of held at e = busy_of at (held.at_target ≡ true) e

-- an end
closing_steps : (n : ℕ) (held : Held) (at : Due) (ending : Ending) → Tidy (due held at) → Steps n (due held at) (due held (Closing ending))
closing_steps n held at ending old =
    kept_steps n (due held at) (due held (Closing ending)) refl refl refl refl old tt tt (λ any opens. opens) (copy_of held at) (busy_of at (held.at_source ≡ true))

-- The calls of the gate.

pub ends_by : (at : Due) (source target : Bool) → EndsBy at source target → IsCalm at × RidsBy at source target
ends_by (PostDue task) source target e = (tt, e)
ends_by LeaveSnapshotDue source target e = (tt, tt)
ends_by FinishDue source target e = (tt, e)
ends_by AttachDue source target e = (tt, e)
ends_by (Closing ending) source target e = (tt, tt)
ends_by at source target e = absurd e

-- behind an answer that was shown
ends_steps : (n : ℕ) (held : Held) (task : Task) (answer : Answer) (x : Standing) → Tidy (due held (ShowDue task answer)) → Ends held x → Steps n (due held (ShowDue task answer)) x
ends_steps n held task answer x old e =
    let r : Standing = due held (ShowDue task answer) in
    let by = ends_by x.due held.at_source held.at_target e.1 in
    let same : (h : Held) → h ≡ held → Steps n r (due h x.due) =
    λ h is. subst (λ (k : Held). Steps n r (due k x.due)) (sym is)
    (kept_steps n r (due held x.due) refl refl refl refl old by.0 by.1 (λ any opens. opens) (λ c. tt) (λ c. tt)) in
    same x.held e.0

numbered_steps : (n : ℕ) (held : Held) (number : ℕ) (b : Option BackendId) → Tidy (due held (LookDue number)) → Steps n (due held (LookDue number)) (numbered held b)
numbered_steps n held number None old = closing_steps n held (LookDue number) (Refused cannot_recover) old
numbered_steps n held number (Some b) old =
    either_steps (is_shown held b) n (due held (LookDue number)) (refused held cannot_recover) (due (record held { target = b }) StartDue)
    (closing_steps n held (LookDue number) (Refused cannot_recover) old)
    (idle_steps n (due held (LookDue number)) (due (record held { target = b }) StartDue) old.rids.0 old.rids.1 refl refl tt old.rids (λ c. c) (λ c. c))

looked_steps : (n : ℕ) (held : Held) (number : ℕ) (b : Option BackendId) → Tidy (due held (LookDue number)) → Steps n (due held (LookDue number)) (looked held number b)
looked_steps n held number None old = closing_steps n held (LookDue number) (Refused no_backend) old
looked_steps n held number (Some primary) old = numbered_steps n held number (configured held.layout.nodes number) old

started_steps : (n : ℕ) (held : Held) → Tidy (due held StartDue) → Steps n (due held StartDue) (copy_started (record held { quiet = Copying }))
started_steps n held old =
    let v : Held = record held { quiet = Copying } in
    either_steps (is_shown v v.target) n (due held StartDue) (refused v cannot_recover) (due v SwapDue)
    (idle_steps n (due held StartDue) (refused v cannot_recover) old.rids.0 old.rids.1 refl refl tt tt (λ c. c) (λ c. c))
    (idle_steps n (due held StartDue) (due v SwapDue) old.rids.0 old.rids.1 refl refl tt old.rids (λ c. c) (λ c. c))

-- a stage begins: its source is attached
module _ (n : ℕ) (held v : Held) (at : Due) (source : held.at_source ≡ false) (target : held.at_target ≡ false) (copy : IsCopy held at)
    (same_source : v.at_source ≡ held.at_source) (same_target : v.at_target ≡ held.at_target) (aimed : v.target ≡ held.target) (here : has n v.source.number ≡ true) where
  begun_steps : (x : Standing) → Ends v x → Steps n (due held at) x
  begun_steps x e =
      let by = ends_by x.due v.at_source v.at_target e.1 in
      let same : (h : Held) → h ≡ v → Steps n (due held at) (due h x.due) =
      λ h is. subst (λ (k : Held). Steps n (due held at) (due k x.due)) (sym is) (record {
        calm = by.0;
        tidy = idle_tidy n (due held at) (due v x.due) source target same_source same_target by.1;
        same_target = same_target;
        copies = λ c. (copy, aimed);
        sources = λ c. inr here;
        holds = λ f. never held.at_source f source;
      }) in
      same x.held e.0

snapshot_steps : (n : ℕ) (held : Held) (b : Option BackendId) → lowest n ≡ b → Tidy (due held EnterDue) → Steps n (due held EnterDue) (snapshot_entered (record held { gate = InSnapshot }) b)
snapshot_steps n held None is old =
    idle_steps n (due held EnterDue) (refused (record held { gate = InSnapshot }) no_backend) old.rids.0 old.rids.1 refl refl tt tt (λ c. c) (λ c. c)
snapshot_steps n held (Some b) is old =
    let v : Held = record held { gate = InSnapshot; source = b } in
    begun_steps n held v EnterDue old.rids.0 old.rids.1 tt refl refl refl (is_found (is_attached n) b is) (due v (PostDue OpeningSource)) (refl, tt)

quiet_steps : (n : ℕ) (held : Held) (touched : ℕ) (b : Option BackendId) → lowest n ≡ b → Tidy (due held QuietDue)
    → Steps n (due held QuietDue) (quiet_entered (record held { quiet = Entered; touched = touched }) b)
quiet_steps n held touched None is old =
    let v : Held = record held { quiet = Entered; touched = touched } in
    idle_steps n (due held QuietDue) (refused v no_backend) old.rids.0 old.rids.1 refl refl tt tt (λ c. c) (λ c. c)
quiet_steps n held touched (Some b) is old =
    let v : Held = record held { quiet = Entered; touched = touched; source = b } in
    begun_steps n held v QuietDue old.rids.0 old.rids.1 tt refl refl refl (is_found (is_attached n) b is)
    (copied_again v (next_table v None)) (again_ends v (next_table v None) old.rids.1)

-- the quiet is given back last
owed_by : (t u : Bool) (gate : GateStanding) (quiet : Quiet) → (if t then Transaction Target else if u then Transaction Source else owed_at_gate gate quiet) ≡ TheQuiet → (u ≡ true) ⊎ (t ≡ true) → ⊥
owed_by true u gate quiet e any = absurd (let z : Transaction Target ≡ TheQuiet = e in cc)
owed_by false true gate quiet e any = absurd (let z : Transaction Source ≡ TheQuiet = e in cc)
owed_by false false gate quiet e (inl f) = absurd (let z : false ≡ true = f in cc)
owed_by false false gate quiet e (inr f) = absurd (let z : false ≡ true = f in cc)

given_steps : (n : ℕ) (held : Held) (ending : Ending) (o : Owed) → owed held ≡ o → Tidy (due held (Closing ending)) → Steps n (due held (Closing ending)) (due (given_back held o) (Closing ending))
given_steps n held ending (Transaction side) is old = closing_steps n held (Closing ending) ending old
given_steps n held ending Snapshot is old =
    kept_steps n (due held (Closing ending)) (due (record held { gate = Live }) (Closing ending)) refl refl refl refl old tt tt (λ any opens. opens) (λ c. c) (λ c. c)
given_steps n held ending LiveTransaction is old =
    kept_steps n (due held (Closing ending)) (due (record held { gate = Out }) (Closing ending)) refl refl refl refl old tt tt (λ any opens. opens) (λ c. c) (λ c. c)
given_steps n held ending TheQuiet is old =
    kept_steps n (due held (Closing ending)) (due (record held { quiet = Open }) (Closing ending)) refl refl refl refl old tt tt
    (λ any opens. absurd (owed_by held.at_target held.at_source held.gate held.quiet is any)) (λ c. c) (λ c. c)
given_steps n held ending Nothing is old = closing_steps n held (Closing ending) ending old

-- a point at which a call is due
abbrev pub IsCallDue : Due → Type 0
IsCallDue (LookDue number) = Unit {0}
IsCallDue StartDue = Unit {0}
IsCallDue EnterDue = Unit {0}
IsCallDue (ShowDue task answer) = Unit {0}
IsCallDue LeaveSnapshotDue = Unit {0}
IsCallDue FinishDue = Unit {0}
IsCallDue AskDue = Unit {0}
IsCallDue QuietDue = Unit {0}
IsCallDue AttachDue = Unit {0}
IsCallDue (Closing ending) = Unit {0}
IsCallDue at = ⊥

granted_steps : (n : ℕ) (held : Held) (at : Due) → IsCallDue at → held.view.attached.bits ≡ n → Tidy (due held at) → Steps n (due held at) (granted held at)
unfolding granted
granted_steps n held (LookDue number) call shows old = looked_steps n held number (lowest held.view.attached.bits) old
granted_steps n held StartDue call shows old = started_steps n held old
granted_steps n held EnterDue call shows old = snapshot_steps n held (lowest held.view.attached.bits) (ap lowest (sym shows)) old
granted_steps n held (ShowDue task answer) call shows old = ends_steps n held task answer (shown held task answer) old (shown_ends held task answer old.rids)
granted_steps n held LeaveSnapshotDue call shows old =
    kept_steps n (due held LeaveSnapshotDue) (due (record held { gate = Live }) (PostDue OpeningTarget)) refl refl refl refl old tt tt (λ any opens. opens) (λ c. tt) (λ c. tt)
granted_steps n held FinishDue call shows old =
    kept_steps n (due held FinishDue) (due (record held { gate = Out }) AskDue) refl refl refl refl old tt old.rids (λ any opens. opens) (λ c. tt) (λ c. tt)
granted_steps n held AskDue call shows old =
    kept_steps n (due held AskDue) (due (record held { quiet = Asked }) QuietDue) refl refl refl refl old tt old.rids (λ any opens. absurd (let z : Asked ≡ Open = opens in cc)) (λ c. tt) (λ c. tt)
granted_steps n held QuietDue call shows old = quiet_steps n held held.view.touched (lowest held.view.attached.bits) (ap lowest (sym shows)) old
granted_steps n held AttachDue call shows old = closing_steps n held AttachDue Attached old
granted_steps n held (Closing ending) call shows old = given_steps n held ending (owed held) refl old
granted_steps n held at call shows old = absurd call

-- A view that is new: the source that it does not show counts no more.

both_true : (a b : Bool) → a ≡ true → b ≡ true → (a && b) ≡ true
both_true true b e f = f
both_true false b e f = e

left_true : (a b : Bool) → (a && b) ≡ true → a ≡ true
left_true true b e = refl
left_true false b e = e

left_false : (a b : Bool) → a ≡ false → (a && b) ≡ false
left_false true b e = absurd (let z : true ≡ false = e in cc)
left_false false b e = refl

module _ (n : ℕ) (held : Held) (view : View) (shows : view.attached.bits ≡ n) where
  abbrev v : Held
  v = with_view held view

  -- of what is due where a view comes
  abbrev IsViewDue : Due → Type 0
  IsViewDue (Undoing side ending) = ⊥
  IsViewDue at = Unit {0}

  viewed_rids : (at : Due) → IsViewDue at → RidsBy at held.at_source held.at_target → RidsBy at v.at_source v.at_target
  viewed_rids Resting call e = (left_false held.at_source (has view.attached.bits held.source.number) e.0, e.1)
  viewed_rids (LookDue number) call e = (left_false held.at_source (has view.attached.bits held.source.number) e.0, e.1)
  viewed_rids StartDue call e = (left_false held.at_source (has view.attached.bits held.source.number) e.0, e.1)
  viewed_rids SwapDue call e = (left_false held.at_source (has view.attached.bits held.source.number) e.0, e.1)
  viewed_rids EnterDue call e = (left_false held.at_source (has view.attached.bits held.source.number) e.0, e.1)
  viewed_rids (PostDue task) call e = e
  viewed_rids (Waiting task) call e = e
  viewed_rids (ShowDue Leaving answer) call e = (left_false held.at_source (has view.attached.bits held.source.number) e.0, e.1)
  viewed_rids (ShowDue Committing answer) call e = e
  viewed_rids (ShowDue ClosingNumbers answer) call e = e
  viewed_rids (ShowDue task answer) call e = tt
  viewed_rids LeaveSnapshotDue call e = e
  viewed_rids FinishDue call e = (left_false held.at_source (has view.attached.bits held.source.number) e.0, e.1)
  viewed_rids AskDue call e = (left_false held.at_source (has view.attached.bits held.source.number) e.0, e.1)
  viewed_rids QuietDue call e = (left_false held.at_source (has view.attached.bits held.source.number) e.0, e.1)
  viewed_rids AttachDue call e = e
  viewed_rids (LostDue ending before count) call e = e
  viewed_rids (Closing ending) call e = e
  viewed_rids (Undoing side ending) call e = absurd call

  viewed_tidy : (at : Due) → IsViewDue at → Tidy (due held at) → Tidy (due v at)
  viewed_tidy at call old = record {
    rids = viewed_rids at call old.rids;
    at_source = λ e. old.at_source (left_true held.at_source (has view.attached.bits held.source.number) e);
    at_target = old.at_target;
  }

  viewed_copy : (at : Due) → IsCopy v at → IsCopy held at
  viewed_copy EnterDue c = c
  viewed_copy at c = c

  viewed_steps : (at : Due) (x : Standing) → Steps n (due v at) x → Steps n (due held at) x
  viewed_steps at x s = record {
    calm = s.calm;
    tidy = s.tidy;
    same_target = s.same_target;
    copies = λ c. (viewed_copy at (s.copies c).0, (s.copies c).1);
    sources = λ c. elim (s.sources c) [
      | inl old ↦ inl (busy_map at (v.at_source ≡ true) (held.at_source ≡ true) (left_true held.at_source (has view.attached.bits held.source.number)) old.0, old.1)
      | inr here ↦ inr here
    ];
    holds = λ e. by e (has view.attached.bits held.source.number) refl;
  }
    where
      by : held.at_source ≡ true → (t : Bool) → has view.attached.bits held.source.number ≡ t
          → ((x.held.at_source ≡ true) × (x.held.source ≡ held.source)) ⊎ (has n held.source.number ≡ false)
      by e true here = s.holds (both_true held.at_source (has view.attached.bits held.source.number) e here)
      by e false gone = inr (subst (λ k. has k held.source.number ≡ false) shows gone)

call_view : (at : Due) (n : ℕ) (held : Held) (view : View) (shows : view.attached.bits ≡ n) → IsCallDue at → IsViewDue n held view shows at
call_view (Undoing side ending) n held view shows call = absurd call
call_view at n held view shows call = tt

held_steps : (n : ℕ) (held : Held) (at : Due) → IsCallDue at → Tidy (due held at) → Steps n (due held at) (held_off held at)
held_steps n held StartDue call old = closing_steps n held StartDue (Refused under_way) old
held_steps n held (Waiting task) call old = absurd call
held_steps n held (Undoing side ending) call old = absurd call
held_steps n held at call old = kept_steps n (due held at) (due held at) refl refl refl refl old tt old.rids (λ any opens. opens) (λ c. c) (λ c. c)

pub called_steps : (n : ℕ) (held : Held) (at : Due) (answer : GateAnswer) → IsCallDue at → Shows answer n → Tidy (due held at) → Steps n (due held at) (called held at answer)
unfolding called
called_steps n held at (Seen view) call shows old =
    viewed_steps n held view shows at (granted (with_view held view) at)
    (granted_steps n (with_view held view) at call shows (viewed_tidy n held view shows at (call_view at n held view shows call) old))
called_steps n held at (Granted view) call shows old =
    viewed_steps n held view shows at (granted (with_view held view) at)
    (granted_steps n (with_view held view) at call shows (viewed_tidy n held view shows at (call_view at n held view shows call) old))
called_steps n held at (IsHeld count) call shows old = held_steps n held at call old
called_steps n held at Spent call shows old = closing_steps n held at (Refused counts_spent) old

-- a lost source was detached
pub detached_steps : (n : ℕ) (held : Held) (ending : Ending) (before count : ℕ) (view : View) → view.attached.bits ≡ n → Tidy (due held (LostDue ending before count))
    → Steps n (due held (LostDue ending before count)) (due (with_view held view) (Closing ending))
detached_steps n held ending before count view shows old =
    viewed_steps n held view shows (LostDue ending before count) (due (with_view held view) (Closing ending))
    (closing_steps n (with_view held view) (LostDue ending before count) ending (viewed_tidy n held view shows (LostDue ending before count) tt old))

-- an order
pub ordered_steps : (n : ℕ) (held : Held) (number : ℕ) → Tidy (due held Resting) → Steps n (due held Resting) (due held (LookDue number))
ordered_steps n held number old =
    idle_steps n (due held Resting) (due held (LookDue number)) old.rids.0 old.rids.1 refl refl tt old.rids (λ c. c) (λ c. c)
