-- What a recovery has copied, by what is due of it; and that steps of others leave it so.
use Rattle.std.proofs.Common.{◌≡◌, ◌≢◌, ◌<◌, ◌≤◌, ℕ, suc, length, Bool, true, false, List, refl, sym, ap, ◌∙◌}
use Rattle.std.specs.Prelude.{ℤ, is_some, slice_get, Option, Some, None}
use Rattle.std.specs.FinMap as fin
use Rattle.pool_base.specs.Sets.{has}
use Rattle.schema.specs.declared.catalogue.TableDef.{TableDef}
use Rattle.sql_eval.specs.declared.row.Row.{Row}
use Rattle.backend_trait.specs.declared.answer.Answer.{Answer}
use Rattle.backend_trait.specs.declared.answer.Answer.TheVariants as answers
use Rattle.backend_trait.specs.Keys.{Place}
use Rattle.backend_trait.specs.Rows.{Rows}
use Rattle.backend_trait.specs.Store.{Live, Transaction, Alive, view_of, is_refusal}
use Rattle.online_recovery.specs.declared.standing.Quiet.{Quiet}
use Rattle.online_recovery.specs.declared.standing.Quiet.TheVariants.{Open, Copying, Asked, Entered}
use Rattle.online_recovery.specs.declared.standing.Side.{Side}
use Rattle.online_recovery.specs.declared.standing.Side.TheVariants.{Source, Target}
use Rattle.online_recovery.specs.declared.standing.Task.{Task}
use Rattle.online_recovery.specs.declared.standing.Task.TheVariants.{OpeningSource, OpeningTarget, Reading, Emptying, Filling, Committing, Leaving, OpeningNumbers, ReadingSerial, LockingSerial, SettingSerial, ClosingNumbers}
use Rattle.online_recovery.specs.declared.standing.Due.{Due}
use Rattle.online_recovery.specs.declared.standing.Due.TheVariants.{Resting, LookDue, StartDue, SwapDue, EnterDue, PostDue, Waiting, ShowDue, LeaveSnapshotDue, FinishDue, AskDue, QuietDue, AttachDue, LostDue, Closing, Undoing}
use Rattle.online_recovery.specs.declared.standing.Held.{Held}
use Rattle.online_recovery.specs.State.{is_touched, is_copied, side_of}
use Rattle.recovery_laws.specs.Copied.{rows_copied, IsFilled}

-- what the facts read: the tables, the target's rows and next numbers, the recovery's transactions at its source and its target, the
-- single run's rows and next numbers, and of the gate the touched tables and the attached backends
pub record Scene : Type 0 where
  pub tables : List TableDef
  pub rows : Rows
  pub next : ℕ → Option ℤ
  pub source : Transaction
  pub target : Transaction
  pub single : Rows
  pub numbers : ℕ → Option ℤ
  pub touched : ℕ
  pub attached : ℕ

-- and of the recovery
pub record Course : Type 0 where
  pub source : ℕ
  pub target : ℕ
  pub quiet : Quiet
  pub touched : ℕ

abbrev pub course_of : Held → Course
course_of held = record { source = held.source.number; target = held.target.number; quiet = held.quiet; touched = held.touched }

abbrev pub place_at : Course → Side → ℕ
place_at c Source = c.source
place_at c Target = c.target

-- Rows.

-- those of the single run in each table that the gate does not name as touched, and in all
abbrev pub Outside : Scene → Rows → Type 0
Outside x rows = (q : Place) → is_touched x.touched q.table ≡ false → fin.get rows q ≡ fin.get x.single q

abbrev pub Whole : Scene → Rows → Type 0
Whole x rows = (q : Place) → fin.get rows q ≡ fin.get x.single q

-- stage two alone is under quiet
abbrev pub RightBy : Quiet → Scene → Rows → Type 0
RightBy Open x rows = Outside x rows
RightBy Copying x rows = Outside x rows
RightBy Asked x rows = Outside x rows
RightBy Entered x rows = Whole x rows

-- Numbers.

abbrev pub has_serial : Option TableDef → Bool
has_serial None = false
has_serial (Some table) = is_some table.serial

-- a table without a serial column has no next number
abbrev pub IsPlain : Scene → Type 0
IsPlain x = (table : ℕ) → has_serial (slice_get x.tables table) ≡ false → x.next table ≡ None

abbrev pub IsPlainThere : Scene → Type 0
IsPlainThere x = (table : ℕ) → has_serial (slice_get x.tables table) ≡ false → x.numbers table ≡ None

-- no row stands in a table that there is not
abbrev pub AreOf : List TableDef → Rows → Type 0
AreOf tables rows = (q : Place) → is_some (slice_get tables q.table) ≡ false → fin.get rows q ≡ None

-- A stage.

-- where stage two begins: the target has the rows of stage one, and the tables that were touched since are known
pub record IsHalf (x : Scene) (c : Course) : Type 0 where
  pub attached : has x.attached c.source ≡ true
  pub same : c.touched ≡ x.touched
  pub rows : Outside x x.rows

abbrev pub BegunBy : Quiet → Scene → Course → Type 0
BegunBy Open x c = Unit {0}
BegunBy Copying x c = Unit {0}
BegunBy Asked x c = Unit {0}
BegunBy Entered x c = IsHalf x c

pub record Begun (x : Scene) (c : Course) : Type 0 where
  pub plain : IsPlain x
  pub apart : c.source ≢ c.target
  pub stage : BegunBy c.quiet x c

-- the source's transaction sees the right rows
pub record Base (x : Scene) (c : Course) : Type 0 where
  pub live : Live
  pub is : x.source ≡ Alive live
  pub right : RightBy c.quiet x (view_of live)

-- the target's has the target's rows as its base
pub record Draft (x : Scene) : Type 0 where
  pub live : Live
  pub is : x.target ≡ Alive live
  pub base : live.base ≡ x.rows

-- in each table of this stage below a number it sees the source's rows, and in the tables that are not of the stage the target's
pub record Drafted (x : Scene) (c : Course) (source view : Rows) (n : ℕ) : Type 0 where
  pub copied : (q : Place) → q.table < n → is_copied c.quiet c.touched q.table ≡ true → fin.get view q ≡ fin.get source q
  pub left : (q : Place) → is_copied c.quiet c.touched q.table ≡ false → fin.get view q ≡ fin.get x.rows q

pub record Copy (x : Scene) (c : Course) (n : ℕ) : Type 0 where
  pub begun : Begun x c
  pub base : Base x c
  pub draft : Draft x
  pub drafted : Drafted x c (view_of base.live) (view_of draft.live) n

-- a table of this stage
pub record InTurn (x : Scene) (c : Course) (table : ℕ) : Type 0 where
  pub chosen : is_copied c.quiet c.touched table ≡ true
  pub there : is_some (slice_get x.tables table) ≡ true

-- its rows are read; some of them are still to come
pub record Read (x : Scene) (c : Course) (table : ℕ) (rows : List Row) : Type 0 where
  pub copy : Copy x c table
  pub turn : InTurn x c table
  pub read : rows ≡ rows_copied x.tables (view_of copy.base.live) table

pub record Filled (x : Scene) (c : Course) (table : ℕ) (rows : List Row) (left : ℕ) : Type 0 where
  pub few : left ≤ length rows
  pub begun : Begun x c
  pub base : Base x c
  pub draft : Draft x
  pub before : Rows
  pub drafted : Drafted x c (view_of base.live) before table
  pub turn : InTurn x c table
  pub read : rows ≡ rows_copied x.tables (view_of base.live) table
  pub filled : IsFilled x.tables table rows left before (view_of draft.live)

-- Behind the target's commit.

pub record IsSettled (x : Scene) (c : Course) : Type 0 where
  pub attached : has x.attached c.source ≡ true
  pub rows : Whole x x.rows

abbrev pub BehindBy : Quiet → Scene → Course → Type 0
BehindBy Open x c = Outside x x.rows
BehindBy Copying x c = Outside x x.rows
BehindBy Asked x c = Outside x x.rows
BehindBy Entered x c = IsSettled x c

pub record Behind (x : Scene) (c : Course) : Type 0 where
  pub plain : IsPlain x
  pub apart : c.source ≢ c.target
  pub rows : BehindBy c.quiet x c

-- between the stages
pub record IsBetween (x : Scene) : Type 0 where
  pub plain : IsPlain x
  pub rows : Outside x x.rows

-- behind stage two
pub record IsWhole (x : Scene) (c : Course) : Type 0 where
  pub plain : IsPlain x
  pub apart : c.source ≢ c.target
  pub entered : c.quiet ≡ Entered
  pub settled : IsSettled x c

-- the numbers of the tables below one are set, in a transaction that changes no row
abbrev pub AreSet : Scene → ℕ → Type 0
AreSet x n = (table : ℕ) → table < n → has_serial (slice_get x.tables table) ≡ true → x.next table ≡ x.numbers table

pub record Counting (x : Scene) (c : Course) (n : ℕ) : Type 0 where
  pub whole : IsWhole x c
  pub draft : Draft x
  pub sees : view_of draft.live ≡ x.rows
  pub set : AreSet x n

pub record Number (x : Scene) (c : Course) (table : ℕ) : Type 0 where
  pub counting : Counting x c table
  pub serial : has_serial (slice_get x.tables table) ≡ true

abbrev pub AllNumbers : Scene → Type 0
AllNumbers x = (table : ℕ) → x.next table ≡ x.numbers table

-- Before a request is answered, and behind an answer that is no refusal.

abbrev pub Before : Scene → Course → Task → Type 0
Before x c OpeningSource = Begun x c
Before x c OpeningTarget = Begun x c × Base x c
Before x c (Reading table) = Copy x c table × InTurn x c table
Before x c (Emptying table rows) = Read x c table rows
Before x c (Filling table rows left) = Filled x c table rows (suc left)
Before x c Committing = Copy x c (length x.tables)
Before x c Leaving = Behind x c
Before x c OpeningNumbers = IsWhole x c
Before x c (ReadingSerial table) = Number x c table
Before x c (LockingSerial table n) = Number x c table × (x.numbers table ≡ Some n)
Before x c (SettingSerial table n) = Number x c table × (x.numbers table ≡ Some n)
Before x c ClosingNumbers = Counting x c (length x.tables)

abbrev pub Went : Scene → Course → Task → Answer → Type 0
Went x c OpeningSource answer = Begun x c × (has x.attached c.source ≡ true → Base x c)
Went x c OpeningTarget answer = Copy x c 0
Went x c (Reading table) answer = (rows : List Row) × (answer ≡ answers.Rows rows) × Read x c table rows
Went x c (Emptying table rows) answer = Filled x c table rows (length rows)
Went x c (Filling table rows left) answer = Filled x c table rows left
Went x c Committing answer = Behind x c
Went x c Leaving answer = Behind x c
Went x c OpeningNumbers answer = Counting x c 0
Went x c (ReadingSerial table) answer = Number x c table × ((n : ℤ) → answer ≡ answers.Serial n → x.numbers table ≡ Some n)
Went x c (LockingSerial table n) answer = Number x c table × (x.numbers table ≡ Some n)
Went x c (SettingSerial table n) answer = Counting x c (suc table)
Went x c ClosingNumbers answer = IsWhole x c × AllNumbers x

abbrev pub After : Scene → Course → Task → Answer → Type 0
After x c task answer = is_refusal answer ≡ false → Went x c task answer

abbrev pub WaitsBy : Scene → Course → Task → Option Answer → Type 0
WaitsBy x c task None = Before x c task
WaitsBy x c task (Some answer) = After x c task answer

-- By what is due; P holds from the Swap to the Attach.

abbrev pub Stands : Type 0 → Scene → (ℕ → Option Answer) → Course → Due → Type 0
Stands P x told c Resting = Unit {0}
Stands P x told c (LookDue number) = Unit {0}
Stands P x told c StartDue = Unit {0}
Stands P x told c SwapDue = Unit {0}
Stands P x told c EnterDue = P × IsPlain x
Stands P x told c (PostDue task) = P × Before x c task
Stands P x told c (Waiting task) = P × WaitsBy x c task (told (place_at c (side_of task)))
Stands P x told c (ShowDue task answer) = P × After x c task answer
Stands P x told c LeaveSnapshotDue = P × Begun x c × Base x c
Stands P x told c FinishDue = P × IsBetween x
Stands P x told c AskDue = P × IsBetween x
Stands P x told c QuietDue = P × IsBetween x
Stands P x told c AttachDue = P × IsWhole x c × AllNumbers x
Stands P x told c (LostDue ending before count) = Unit {0}
Stands P x told c (Closing ending) = Unit {0}
Stands P x told c (Undoing side ending) = Unit {0}

-- What steps of others leave: the single run has the same rows but in tables that are touched from then on, and under entered quiet in
-- all; a source that is not attached is not attached again.

pub record IsStillAs (x : Scene) (c : Course) (single : Rows) (numbers : ℕ → Option ℤ) (touched attached : ℕ) : Type 0 where
  pub same_rows : single ≡ x.single
  pub same_numbers : numbers ≡ x.numbers
  pub same_touched : touched ≡ x.touched
  pub stays : has x.attached c.source ≡ true → has attached c.source ≡ true

pub record Follows (x : Scene) (c : Course) (single : Rows) (numbers : ℕ → Option ℤ) (touched attached : ℕ) : Type 0 where
  pub untouched : (table : ℕ) → is_touched touched table ≡ false → is_touched x.touched table ≡ false
  pub rows : (q : Place) → is_touched touched q.table ≡ false → fin.get single q ≡ fin.get x.single q
  pub less : has attached c.source ≡ true → has x.attached c.source ≡ true
  pub still : c.quiet ≡ Entered → IsStillAs x c single numbers touched attached

module _ (x : Scene) (c : Course) (single : Rows) (numbers : ℕ → Option ℤ) (touched attached : ℕ) (f : Follows x c single numbers touched attached) where
  abbrev y : Scene
  y = record x { single = single; numbers = numbers; touched = touched; attached = attached }

  outside_kept : (rows : Rows) → Outside x rows → Outside y rows
  outside_kept rows h q e = h q (f.untouched q.table e) ∙ sym (f.rows q e)

  whole_kept : (rows : Rows) → c.quiet ≡ Entered → Whole x rows → Whole y rows
  whole_kept rows entered h q = h q ∙ ap (λ (all : Rows). fin.get all q) (sym (f.still entered).same_rows)

  right_kept : (quiet : Quiet) → c.quiet ≡ quiet → (rows : Rows) → RightBy quiet x rows → RightBy quiet y rows
  right_kept Open e rows h = outside_kept rows h
  right_kept Copying e rows h = outside_kept rows h
  right_kept Asked e rows h = outside_kept rows h
  right_kept Entered e rows h = whole_kept rows e h

  stage_kept : (quiet : Quiet) → c.quiet ≡ quiet → BegunBy quiet x c → BegunBy quiet y c
  stage_kept Open e h = tt
  stage_kept Copying e h = tt
  stage_kept Asked e h = tt
  stage_kept Entered e h = record { attached = (f.still e).stays h.attached; same = h.same ∙ sym (f.still e).same_touched; rows = outside_kept x.rows h.rows }

  begun_kept : Begun x c → Begun y c
  begun_kept h = record { plain = h.plain; apart = h.apart; stage = stage_kept c.quiet refl h.stage }

  abbrev base_kept : Base x c → Base y c
  base_kept h = record { live = h.live; is = h.is; right = right_kept c.quiet refl (view_of h.live) h.right }

  abbrev draft_kept : Draft x → Draft y
  draft_kept h = record { live = h.live; is = h.is; base = h.base }

  drafted_kept : (source view : Rows) (n : ℕ) → Drafted x c source view n → Drafted y c source view n
  drafted_kept source view n h = record { copied = h.copied; left = h.left }

  abbrev copy_kept : (n : ℕ) → Copy x c n → Copy y c n
  copy_kept n h = record {
    begun = begun_kept h.begun;
    base = base_kept h.base;
    draft = draft_kept h.draft;
    drafted = drafted_kept (view_of h.base.live) (view_of h.draft.live) n h.drafted;
  }

  turn_kept : (table : ℕ) → InTurn x c table → InTurn y c table
  turn_kept table h = record { chosen = h.chosen; there = h.there }

  read_kept : (table : ℕ) (rows : List Row) → Read x c table rows → Read y c table rows
  read_kept table rows h = record { copy = copy_kept table h.copy; turn = turn_kept table h.turn; read = h.read }

  filled_kept : (table : ℕ) (rows : List Row) (left : ℕ) → Filled x c table rows left → Filled y c table rows left
  filled_kept table rows left h = record {
    few = h.few;
    begun = begun_kept h.begun;
    base = base_kept h.base;
    draft = draft_kept h.draft;
    before = h.before;
    drafted = drafted_kept (view_of h.base.live) h.before table h.drafted;
    turn = turn_kept table h.turn;
    read = h.read;
    filled = h.filled;
  }

  settled_kept : c.quiet ≡ Entered → IsSettled x c → IsSettled y c
  settled_kept e h = record { attached = (f.still e).stays h.attached; rows = whole_kept x.rows e h.rows }

  behind_by : (quiet : Quiet) → c.quiet ≡ quiet → BehindBy quiet x c → BehindBy quiet y c
  behind_by Open e h = outside_kept x.rows h
  behind_by Copying e h = outside_kept x.rows h
  behind_by Asked e h = outside_kept x.rows h
  behind_by Entered e h = settled_kept e h

  behind_kept : Behind x c → Behind y c
  behind_kept h = record { plain = h.plain; apart = h.apart; rows = behind_by c.quiet refl h.rows }

  between_kept : IsBetween x → IsBetween y
  between_kept h = record { plain = h.plain; rows = outside_kept x.rows h.rows }

  all_whole : IsWhole x c → IsWhole y c
  all_whole h = record { plain = h.plain; apart = h.apart; entered = h.entered; settled = settled_kept h.entered h.settled }

  -- the numbers
  number_same : c.quiet ≡ Entered → (table : ℕ) → numbers table ≡ x.numbers table
  number_same e table = ap (λ (all : ℕ → Option ℤ). all table) (f.still e).same_numbers

  counting_kept : (n : ℕ) → Counting x c n → Counting y c n
  counting_kept n h = record {
    whole = all_whole h.whole;
    draft = draft_kept h.draft;
    sees = h.sees;
    set = λ table below serial. h.set table below serial ∙ sym (number_same h.whole.entered table);
  }

  one_kept : (table : ℕ) → Number x c table → Number y c table
  one_kept table h = record { counting = counting_kept table h.counting; serial = h.serial }

  numbers_kept : IsWhole x c → AllNumbers x → AllNumbers y
  numbers_kept whole h table = h table ∙ sym (number_same whole.entered table)

  entered_in : (table : ℕ) → Number x c table → c.quiet ≡ Entered
  entered_in table h = h.counting.whole.entered

  pub before_kept : (task : Task) → Before x c task → Before y c task
  before_kept OpeningSource h = begun_kept h
  before_kept OpeningTarget h = (begun_kept h.0, base_kept h.1)
  before_kept (Reading table) h = (copy_kept table h.0, turn_kept table h.1)
  before_kept (Emptying table rows) h = read_kept table rows h
  before_kept (Filling table rows left) h = filled_kept table rows (suc left) h
  before_kept Committing h = copy_kept (length x.tables) h
  before_kept Leaving h = behind_kept h
  before_kept OpeningNumbers h = all_whole h
  before_kept (ReadingSerial table) h = one_kept table h
  before_kept (LockingSerial table n) h = (one_kept table h.0, number_same (entered_in table h.0) table ∙ h.1)
  before_kept (SettingSerial table n) h = (one_kept table h.0, number_same (entered_in table h.0) table ∙ h.1)
  before_kept ClosingNumbers h = counting_kept (length x.tables) h

  pub went_kept : (task : Task) (answer : Answer) → Went x c task answer → Went y c task answer
  went_kept OpeningSource answer h = (begun_kept h.0, λ here. base_kept (h.1 (f.less here)))
  went_kept OpeningTarget answer h = copy_kept 0 h
  went_kept (Reading table) answer h = (h.0, h.1, read_kept table h.0 h.2)
  went_kept (Emptying table rows) answer h = filled_kept table rows (length rows) h
  went_kept (Filling table rows left) answer h = filled_kept table rows left h
  went_kept Committing answer h = behind_kept h
  went_kept Leaving answer h = behind_kept h
  went_kept OpeningNumbers answer h = counting_kept 0 h
  went_kept (ReadingSerial table) answer h = (one_kept table h.0, λ n e. number_same (entered_in table h.0) table ∙ h.1 n e)
  went_kept (LockingSerial table n) answer h = (one_kept table h.0, number_same (entered_in table h.0) table ∙ h.1)
  went_kept (SettingSerial table n) answer h = counting_kept (suc table) h
  went_kept ClosingNumbers answer h = (all_whole h.0, numbers_kept h.0 h.1)

  waits_kept : (task : Task) (told : Option Answer) → WaitsBy x c task told → WaitsBy y c task told
  waits_kept task None h = before_kept task h
  waits_kept task (Some answer) h = λ given. went_kept task answer (h given)

  pub stands_kept : (P Q : Type 0) (told : ℕ → Option Answer) (at : Due) → (P → Q) → Stands P x told c at → Stands Q y told c at
  stands_kept P Q told Resting go h = tt
  stands_kept P Q told (LookDue number) go h = tt
  stands_kept P Q told StartDue go h = tt
  stands_kept P Q told SwapDue go h = tt
  stands_kept P Q told EnterDue go h = (go h.0, h.1)
  stands_kept P Q told (PostDue task) go h = (go h.0, before_kept task h.1)
  stands_kept P Q told (Waiting task) go h = (go h.0, waits_kept task (told (place_at c (side_of task))) h.1)
  stands_kept P Q told (ShowDue task answer) go h = (go h.0, λ given. went_kept task answer (h.1 given))
  stands_kept P Q told LeaveSnapshotDue go h = (go h.0, begun_kept h.1, base_kept h.2)
  stands_kept P Q told FinishDue go h = (go h.0, between_kept h.1)
  stands_kept P Q told AskDue go h = (go h.0, between_kept h.1)
  stands_kept P Q told QuietDue go h = (go h.0, between_kept h.1)
  stands_kept P Q told AttachDue go h = (go h.0, all_whole h.1, numbers_kept h.1 h.2)
  stands_kept P Q told (LostDue ending before count) go h = tt
  stands_kept P Q told (Closing ending) go h = tt
  stands_kept P Q told (Undoing side ending) go h = tt
