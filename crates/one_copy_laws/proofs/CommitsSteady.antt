-- A transaction grows stale: what stays of it, of what it is ahead by, and of how it stands.
use Rattle.std.proofs.Common.{◌≡◌, ℕ, Bool, true, false, List, [], ◌∷◌, ℤ, refl, sym, ap, ◌∙◌, subst}
use Rattle.std.specs.Prelude.{Option, Some, None, if◌then◌else◌}
use Rattle.schema.specs.declared.catalogue.TableDef.{TableDef}
use Rattle.catalogue.specs.declared.checked.Checked.{Checked}
use Rattle.backend_trait.specs.declared.request.Request.{Request}
use Rattle.backend_trait.specs.declared.request.Request.TheVariants as requests
use Rattle.backend_trait.specs.declared.answer.Answer.{Answer}
use Rattle.backend_trait.specs.Rows.{Rows, Changes}
use Rattle.backend_trait.specs.Effect.{Given, Fails, Gives, effect_of, table_in}
use Rattle.backend_trait.specs.Store.{Live, Transaction, Absent, Alive, Dead, Store, where_live as where_alive, made_stale, given_to, view_of, next_for, held_by, is_refusal}
use Rattle.session_machine.specs.declared.work.Class.{Class}
use Rattle.session_machine.specs.declared.work.Class.TheVariants as classes
use Rattle.session_machine.specs.declared.machine.GatePhase.{GatePhase}
use Rattle.session_machine.specs.declared.machine.GatePhase.TheVariants as phases
use Rattle.session_machine.specs.declared.machine.Stage.{Stage}
use Rattle.session_machine.specs.declared.machine.Stage.TheVariants.{Opening, Reading, Running, Locking, Inserting, Committing, Closing, RollingBack}
use Rattle.session_machine.specs.declared.machine.Point.{Point}
use Rattle.session_machine.specs.declared.machine.Point.TheVariants.{LeaveSnapshotDue, UnwindDue, LeaveCommitDue, FinishDue}
use Rattle.one_copy_model.specs.Places.{asks_as, asks_of}
use Rattle.one_copy_model.specs.Deaths.{is_live}
use Rattle.one_copy_model.specs.Tracking.{in_commit}
use Rattle.one_copy_model.specs.Standing.{Standing, Nowhere, Fresh, Ahead, Leaving, Fallen, Ending, told_in, standing_in, standing_open, standing_at, standing_by, ahead_by, Alike, Stands}
use Rattle.one_copy_model.specs.Invariant.{FitsPoint, in_snapshot, is_dead}
use Rattle.one_copy_model.proofs.Made.{made_by, made_all, ahead_made}

abbrev pub grown : Changes → Transaction → Transaction
grown c x = where_alive (made_stale c) x

pub live_grown : (c : Changes) (x : Transaction) → is_live (grown c x) ≡ is_live x
live_grown c Absent = refl
live_grown c (Alive t) = refl
live_grown c Dead = refl

pub dead_grown : (c : Changes) (x : Transaction) → is_dead (grown c x) ≡ is_dead x
dead_grown c Absent = refl
dead_grown c (Alive t) = refl
dead_grown c Dead = refl

pub held_grown : (c : Changes) (x : Transaction) → held_by (grown c x) ≡ held_by x
held_grown c Absent = refl
held_grown c (Alive t) = refl
held_grown c Dead = refl

pub grown_is : (c : Changes) (x : Transaction) (u : Live) → grown c x ≡ Alive u → (v : Live) × (x ≡ Alive v) × (u ≡ made_stale c v)
grown_is c Absent u e = absurd (let z : Absent ≡ Alive u = e in cc)
grown_is c (Alive v) u e = (v, refl, (let z : made_stale c v ≡ u = same (made_stale c v) u e in sym z))
  where
    same : (a b : Live) → Alive a ≡ Alive b → a ≡ b
    same a b e = cc
grown_is c Dead u e = absurd (let z : Dead ≡ Alive u = e in cc)

-- What is asked ahead is a run or a lock, which reads no committed row.

abbrev pub is_at_work : Request → Bool
is_at_work requests.TakeSnapshot = false
is_at_work (requests.Run checked) = true
is_at_work (requests.Lock table) = true
is_at_work requests.Commit = false
is_at_work requests.Rollback = false
is_at_work (requests.ReadSerial table) = false
is_at_work (requests.SetSerial table n) = false

abbrev pub AreAtWork : List Request → Type 0
AreAtWork [] = Unit {0}
AreAtWork (request ∷ before) = (is_at_work request ≡ true) × AreAtWork before

given_grown : (c : Changes) (g : Given) (t : Live) → Alive (given_to g (made_stale c t)) ≡ Alive (made_stale c (given_to g t))
given_grown c (Fails code) t = refl
given_grown c (Gives answer changes places) t = refl

module _ (tables : List TableDef) (rows more : Rows) (next : ℕ → Option ℤ) (c : Changes) where
  run_grown : (checked : Checked) (x : Transaction) → made_by tables more next (requests.Run checked) (grown c x) ≡ grown c (made_by tables rows next (requests.Run checked) x)
  run_grown checked Absent = refl
  run_grown checked (Alive t) = given_grown c (effect_of tables checked (view_of t) (next_for next (table_in checked))).given t
  run_grown checked Dead = refl

  lock_grown : (table : ℕ) (x : Transaction) → made_by tables more next (requests.Lock table) (grown c x) ≡ grown c (made_by tables rows next (requests.Lock table) x)
  lock_grown table Absent = refl
  lock_grown table (Alive t) = refl
  lock_grown table Dead = refl

  made_grown : (request : Request) → is_at_work request ≡ true → (x : Transaction) → made_by tables more next request (grown c x) ≡ grown c (made_by tables rows next request x)
  made_grown (requests.Run checked) e x = run_grown checked x
  made_grown (requests.Lock table) e x = lock_grown table x
  made_grown requests.TakeSnapshot e x = absurd (let z : false ≡ true = e in cc)
  made_grown requests.Commit e x = absurd (let z : false ≡ true = e in cc)
  made_grown requests.Rollback e x = absurd (let z : false ≡ true = e in cc)
  made_grown (requests.ReadSerial table) e x = absurd (let z : false ≡ true = e in cc)
  made_grown (requests.SetSerial table n) e x = absurd (let z : false ≡ true = e in cc)

  all_grown : (asked : List Request) → AreAtWork asked → (x : Transaction) → made_all tables more next asked (grown c x) ≡ grown c (made_all tables rows next asked x)
  all_grown [] e x = refl
  all_grown (request ∷ before) e x = ap (made_by tables more next request) (all_grown before e.1 x) ∙ made_grown request e.0 (made_all tables rows next before x)

alike_grown : (c : Changes) (here there : Transaction) → Alike here there → Alike here (grown c there)
alike_grown c (Alive l) (Alive u) a = a
alike_grown c here there a = absurd a

-- It has no snapshot that its transaction has not begun with in the single run, and is ahead by runs and locks.

abbrev pub IsSteady : Standing → Type 0
IsSteady Nowhere = Unit {0}
IsSteady Fresh = ⊥
IsSteady (Ahead asked) = AreAtWork asked
IsSteady Leaving = Unit {0}
IsSteady Fallen = Unit {0}
IsSteady Ending = Unit {0}

module _ (old new : Store) (s : ℕ) (c : Changes) (tables : new.tables ≡ old.tables) (next : new.next ≡ old.next) where
  ahead_grown : (asked : List Request) → AreAtWork asked → (x : Transaction) → ahead_by new s asked (grown c x) ≡ grown c (ahead_by old s asked x)
  ahead_grown asked e x =
      ahead_made new s asked (grown c x)
      ∙ ap (λ (ts : List TableDef). made_all ts new.rows new.next asked (grown c x)) tables
      ∙ ap (λ (f : ℕ → Option ℤ). made_all old.tables new.rows f asked (grown c x)) next
      ∙ all_grown old.tables old.rows new.rows old.next c asked e x
      ∙ ap (grown c) (sym (ahead_made old s asked x))

  pub stands_grown : (last before : Transaction) → last ≡ before → (standing : Standing) → IsSteady standing → (here there : Transaction)
      → Stands old s before standing here there → Stands new s last standing here (grown c there)
  stands_grown last before same Nowhere e here there h = (h.0, ap (grown c) h.1)
  stands_grown last before same Fresh e here there h = absurd e
  stands_grown last before same (Ahead asked) e here there h = subst (Alike here) (sym (ahead_grown asked e there)) (alike_grown c here (ahead_by old s asked there) h)
  stands_grown last before same Leaving e here there h = (subst (Alike here) (sym same) h.0, ap (grown c) h.1)
  stands_grown last before same Fallen e here there h = h
  stands_grown last before same Ending e here there h = ap (grown c) h

-- Who is in no snapshot at the gate stands so.

told_steady : (before behind : Standing) (told : Option Answer) → IsSteady before → IsSteady behind → IsSteady (told_in before behind told)
told_steady before behind None b e = b
told_steady before behind (Some answer) b e = by (is_refusal answer)
  where
    by : (v : Bool) → IsSteady (if v then Fallen else behind)
    by true = tt
    by false = e

work_steady : (statement : Checked) (class : Class) → is_at_work (asks_as statement class) ≡ true
work_steady statement classes.Read = refl
work_steady statement classes.LockingRead = refl
work_steady statement (classes.Write verb) = refl
work_steady statement (classes.SerialInsert table) = refl

in_none : (phase : GatePhase) → in_snapshot phase ≡ false → in_snapshot phase ≡ true → ⊥
in_none phase e f = let z : false ≡ true = sym e ∙ f in cc

stage_steady : (stage : Stage) (point : Point) (phase : GatePhase) (told : Option Answer) → FitsPoint (Some stage) point phase → in_snapshot phase ≡ false → IsSteady (standing_in stage told)
stage_steady (Opening work) point phase told fits out = absurd (in_none phase out fits)
stage_steady (Reading work ticket) point phase told fits out = told_steady (Ahead []) (Ahead []) told tt tt
stage_steady (Running work) point phase told fits out = told_steady (Ahead []) (Ahead (requests.Run work.statement ∷ [])) told tt (refl, tt)
stage_steady (Locking work table) point phase told fits out = told_steady (Ahead []) (Ahead (requests.Lock table ∷ [])) told tt (refl, tt)
stage_steady (Inserting work posted) point phase told fits out =
    told_steady (Ahead (asks_of work ∷ [])) (Ahead (requests.Run work.statement ∷ asks_of work ∷ [])) told (work_steady work.statement work.class, tt) (refl, (work_steady work.statement work.class, tt))
stage_steady Committing point phase told fits out = told_steady Leaving Nowhere told tt tt
stage_steady Closing point phase told fits out = told_steady Ending Nowhere told tt tt
stage_steady (RollingBack ending) point phase told fits out = told_steady Ending Nowhere told tt tt

open_steady : (phase : GatePhase) → IsSteady (standing_open phase)
open_steady phases.Out = tt
open_steady phases.InSnapshot = tt
open_steady (phases.Live changed tables) = tt
open_steady phases.InCommit = tt

point_steady : (point : Point) (phase : GatePhase) → FitsPoint None point phase → in_snapshot phase ≡ false → IsSteady (standing_at phase point)
point_steady (LeaveSnapshotDue work) phase fits out = absurd (in_none phase out (snaps phase fits))
  where
    snaps : (phase : GatePhase) → FitsPoint None (LeaveSnapshotDue work) phase → in_snapshot phase ≡ true
    snaps phases.InSnapshot e = refl
    snaps phases.Out e = absurd (cc)
    snaps (phases.Live changed tables) e = absurd (cc)
    snaps phases.InCommit e = absurd (cc)
point_steady (UnwindDue ending) phase fits out = tt
point_steady (LeaveCommitDue ending) phase fits out = tt
point_steady (FinishDue ending) phase fits out = tt
point_steady point phase fits out = open_steady phase

pub steady : (stage : Option Stage) (point : Point) (phase : GatePhase) (told : Option Answer) → FitsPoint stage point phase → in_snapshot phase ≡ false → IsSteady (standing_by phase point stage told)
steady (Some stage) point phase told fits out = stage_steady stage point phase told fits out
steady None point phase told fits out = point_steady point phase fits out

-- Who leaves somewhere is in a commit at the gate.

abbrev is_leaving : Standing → Bool
is_leaving Nowhere = false
is_leaving Fresh = false
is_leaving (Ahead asked) = false
is_leaving Leaving = true
is_leaving Fallen = false
is_leaving Ending = false

told_stays : (before behind : Standing) (told : Option Answer) → is_leaving before ≡ false → is_leaving behind ≡ false → is_leaving (told_in before behind told) ≡ false
told_stays before behind None b e = b
told_stays before behind (Some answer) b e = by (is_refusal answer)
  where
    by : (v : Bool) → is_leaving (if v then Fallen else behind) ≡ false
    by true = refl
    by false = e

not_leaving : (x : Standing) → is_leaving x ≡ false → x ≡ Leaving → ⊥
not_leaving x e f = let z : true ≡ false = sym (ap is_leaving f) ∙ e in cc

stage_leaves : (stage : Stage) (point : Point) (phase : GatePhase) (told : Option Answer) → FitsPoint (Some stage) point phase → standing_in stage told ≡ Leaving → in_commit phase ≡ true
stage_leaves Committing point phase told fits e = fits
stage_leaves (Opening work) point phase told fits e = absurd (not_leaving (standing_in (Opening work) told) (told_stays Nowhere Fresh told refl refl) e)
stage_leaves (Reading work ticket) point phase told fits e = absurd (not_leaving (standing_in (Reading work ticket) told) (told_stays (Ahead []) (Ahead []) told refl refl) e)
stage_leaves (Running work) point phase told fits e =
    absurd (not_leaving (standing_in (Running work) told) (told_stays (Ahead []) (Ahead (requests.Run work.statement ∷ [])) told refl refl) e)
stage_leaves (Locking work table) point phase told fits e =
    absurd (not_leaving (standing_in (Locking work table) told) (told_stays (Ahead []) (Ahead (requests.Lock table ∷ [])) told refl refl) e)
stage_leaves (Inserting work posted) point phase told fits e =
    absurd (not_leaving (standing_in (Inserting work posted) told) (told_stays (Ahead (asks_of work ∷ [])) (Ahead (requests.Run work.statement ∷ asks_of work ∷ [])) told refl refl) e)
stage_leaves Closing point phase told fits e = absurd (not_leaving (standing_in Closing told) (told_stays Ending Nowhere told refl refl) e)
stage_leaves (RollingBack ending) point phase told fits e = absurd (not_leaving (standing_in (RollingBack ending) told) (told_stays Ending Nowhere told refl refl) e)

open_stays : (phase : GatePhase) → is_leaving (standing_open phase) ≡ false
open_stays phases.Out = refl
open_stays phases.InSnapshot = refl
open_stays (phases.Live changed tables) = refl
open_stays phases.InCommit = refl

point_stays : (point : Point) (phase : GatePhase) → is_leaving (standing_at phase point) ≡ false
point_stays (LeaveSnapshotDue work) phase = refl
point_stays (UnwindDue ending) phase = refl
point_stays (LeaveCommitDue ending) phase = refl
point_stays (FinishDue ending) phase = refl
point_stays point phase = open_stays phase

pub leaves_in : (stage : Option Stage) (point : Point) (phase : GatePhase) (told : Option Answer) → FitsPoint stage point phase → standing_by phase point stage told ≡ Leaving → in_commit phase ≡ true
leaves_in (Some stage) point phase told fits e = stage_leaves stage point phase told fits e
leaves_in None point phase told fits e = absurd (not_leaving (standing_at phase point) (point_stays point phase) e)
