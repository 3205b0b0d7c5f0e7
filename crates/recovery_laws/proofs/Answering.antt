-- Behind an answer to a recovery each recovery has its facts.
use Rattle.std.proofs.Common.{◌≡◌, ◌≢◌, ℕ, Bool, true, false, List, refl, sym, ap, subst, ◌∙◌, inl, inr}
use Rattle.std.specs.Prelude.{Option, Some}
use Rattle.pool_base.specs.Sets.{has}
use Rattle.pool_base.specs.declared.session_id.SessionId.{SessionId}
use Rattle.pool_base.specs.declared.backend_id.BackendId.{BackendId}
use Rattle.schema.specs.declared.catalogue.TableDef.{TableDef}
use Rattle.backend_trait.specs.declared.request.Request.{Request}
use Rattle.backend_trait.specs.declared.answer.Answer.{Answer}
use Rattle.backend_trait.specs.Rows.{with_at}
use Rattle.backend_trait.specs.Acts.{MayAnswer}
use Rattle.backend_trait.specs.Store.{Store, is_refusal, acted}
use Rattle.snapshot_gate.specs.declared.state.GateState.{GateState}
use Rattle.snapshot_gate.specs.Runs.{AreApart}
use Rattle.online_recovery.specs.declared.standing.Quiet.TheVariants.{Open}
use Rattle.online_recovery.specs.declared.standing.Side.{Side}
use Rattle.online_recovery.specs.declared.standing.Side.TheVariants.{Source, Target}
use Rattle.online_recovery.specs.declared.standing.Task.{Task}
use Rattle.online_recovery.specs.declared.standing.Task.TheVariants.{OpeningSource, OpeningTarget, Reading, Emptying, Filling, Committing, Leaving, OpeningNumbers, ReadingSerial, LockingSerial, SettingSerial, ClosingNumbers}
use Rattle.online_recovery.specs.declared.standing.Due.{Due}
use Rattle.online_recovery.specs.declared.standing.Due.TheVariants.{Waiting, Undoing}
use Rattle.online_recovery.specs.declared.standing.Held.{Held}
use Rattle.online_recovery.specs.State.{backend_at, side_of}
use Rattle.online_recovery.specs.Rules.{request_of}
use Rattle.online_recovery.specs.Runs.{Phase}
use Rattle.online_recovery.proofs.Fitting.{Fits}
use Rattle.one_copy_model.specs.World.{World}
use Rattle.one_copy_model.specs.Tracking.{single}
use Rattle.one_copy_model.proofs.Places.{with_at-same, with_at-other, same_or_other}
use Rattle.recovery_laws.specs.declared.step.Step.{Step}
use Rattle.recovery_laws.specs.declared.step.Step.TheVariants.{Answer as Answers}
use Rattle.recovery_laws.specs.Pool.{Pool, world_of, with_two, store_for, store_left, answered, after, MayTell}
use Rattle.recovery_laws.proofs.Calls.{gate_is}
use Rattle.recovery_laws.specs.Ready.{IsSpare}
use Rattle.recovery_laws.specs.Steps.{RunsIn, FitsAnswer}
use Rattle.recovery_laws.proofs.Basing.{base_is, number_is}
use Rattle.recovery_laws.proofs.Copying.{AreStoredIn, spare}
use Rattle.recovery_laws.proofs.Lining.{WaitsAt, AsksFor}
use Rattle.recovery_laws.proofs.Targets.{task_open}
use Rattle.recovery_laws.proofs.Scenes.{Scene, Course, course_of, place_at, IsPlainThere, Before, Went, After, WaitsBy, Stands, Follows, went_kept}
use Rattle.recovery_laws.proofs.Unnumbered.{plain_there}
use Rattle.recovery_laws.proofs.Owing.{HasQuiet}
use Rattle.recovery_laws.proofs.Leading.{seen_by}
use Rattle.recovery_laws.proofs.Acting.{SourceGives, source_acts, target_acts}
use Rattle.recovery_laws.proofs.Following.{IsAlone, alone_by, scene_of, StandsIn, AllStand, is_within, without_facts, within_busy, follows, alike}
use Rattle.recovery_laws.proofs.Fitness.{Copied, not_told, waits_before, step_fit}

-- a value at two places
abbrev at_place : {A : Type 0} → ℕ → (ℕ → A) → A
at_place k f = f k

two_same : {A : Type 0} (f : ℕ → ℕ → A) (s n k : ℕ) (x : A) → k ≡ n → with_two f s n x s k ≡ x
two_same f s n k x e = ap (at_place k) (with_at-same f s (with_at (f s) n x)) ∙ ap (with_at (f s) n x) e ∙ with_at-same (f s) n x

two_other : {A : Type 0} (f : ℕ → ℕ → A) (s n k : ℕ) (x : A) → k ≢ n → with_two f s n x s k ≡ f s k
two_other f s n k x other = ap (at_place k) (with_at-same f s (with_at (f s) n x)) ∙ with_at-other (f s) n x k other

at_same : (store : ℕ → Store) (n k : ℕ) (st : Store) → k ≡ n → with_at store n st k ≡ st
at_same store n k st e = ap (with_at store n st) e ∙ with_at-same store n st

-- the source is not the target
apart_in : (x : Scene) (c : Course) (task : Task) → Before x c task → c.source ≢ c.target
apart_in x c OpeningSource h = h.apart
apart_in x c OpeningTarget h = h.0.apart
apart_in x c (Reading table) h = h.0.begun.apart
apart_in x c (Emptying table rows) h = h.copy.begun.apart
apart_in x c (Filling table rows left) h = h.begun.apart
apart_in x c Committing h = h.begun.apart
apart_in x c Leaving h = h.apart
apart_in x c OpeningNumbers h = h.apart
apart_in x c (ReadingSerial table) h = h.counting.whole.apart
apart_in x c (LockingSerial table n) h = h.0.counting.whole.apart
apart_in x c (SettingSerial table n) h = h.0.counting.whole.apart
apart_in x c ClosingNumbers h = h.whole.apart

-- where an answer is waited for there is some quiet
asks_busy : (held : Held) (at : Due) (p : Phase) (b : ℕ) → p.quiet ≡ held.quiet → Fits at p → HasQuiet held.quiet at → WaitsAt held at b → p.quiet ≡ Open → ⊥
asks_busy held (Waiting task) p b a f q waits opened = task_open task p f opened
asks_busy held (Undoing side ending) p b a f q waits opened = q (sym a ∙ opened)
asks_busy held at p b a f q waits opened = waits

module _ (p : Pool) (phases : ℕ → Phase) (h : Copied p phases) (apart : AreApart p.gate) (s : SessionId) (b : BackendId) (answer : Answer) (may : MayTell p s.number b.number answer) where
  abbrev w : World
  w = world_of p

  abbrev tables : List TableDef
  tables = w.tables

  abbrev o : ℕ
  o = s.number

  abbrev n : ℕ
  n = b.number

  abbrev e : Step
  e = Answers s b answer

  abbrev x : Held → Scene
  x held = seen_by (p.transaction o) (scene_of p held.target.number) (course_of held)

  module _ (request : Request) (is : p.asked o n ≡ Some request) (gives : MayAnswer (store_for p o n) o (record { request = request; crossed = false }) answer) where
    abbrev q : Pool
    q = answered p o n answer (Some request)

    abbrev new : Store
    new = acted (store_for p o n) o request answer

    behind : after p e ≡ q
    behind = ap (answered p o n answer) is

    abbrev y : Held → Scene
    y held = seen_by (q.transaction o) (scene_of q held.target.number) (course_of held)

    module _ (held : Held) (task : Task) (busy : (phases o).quiet ≡ Open → ⊥) (agrees : (phases o).quiet ≡ held.quiet) where
      abbrev c : Course
      c = course_of held

      abbrev first : Scene → Scene
      first z = record z { single = (single p.tracked).rows; numbers = (single p.tracked).next; touched = p.gate.touched; attached = p.gate.attached.bits }

      follows_on : (z : Scene) → Follows (first z) c (single q.tracked).rows (single q.tracked).next q.gate.touched q.gate.attached.bits
      follows_on z =
          subst (λ (u : Pool). Follows (first z) c (single u.tracked).rows (single u.tracked).next u.gate.touched u.gate.attached.bits) behind
          (follows p phases h.holds h.masked e may o held busy agrees z (λ k f. subst (λ (g : GateState). has g.attached.bits k ≡ true) (gate_is p e) f)
          (λ three. ap (λ (g : GateState). g.attached.bits) (gate_is p e)))

      -- what the answer leaves, as it is found
      went_on : (z : Scene) → y held ≡ record (first z) { single = (single q.tracked).rows; numbers = (single q.tracked).next; touched = q.gate.touched; attached = q.gate.attached.bits }
          → Went (first z) c task answer → Went (y held) c task answer
      went_on z same went =
          subst (λ (u : Scene). Went u c task answer) (sym same)
          (went_kept (first z) c (single q.tracked).rows (single q.tracked).next q.gate.touched q.gate.attached.bits (follows_on z) task answer went)

      tells : (P : Type 0) → place_at c (side_of task) ≡ n → P → After (y held) c task answer → Stands P (y held) (q.told o) c (Waiting task)
      tells P place alone after =
          (alone, subst (λ (t : Option Answer). WaitsBy (y held) c task t) (sym (two_same p.told o n (place_at c (side_of task)) (Some answer) place)) after)

      -- At the source.

      module _ (side : side_of task ≡ Source) (place : c.source ≡ n) (distinct : c.source ≢ c.target) where
        not_target : held.target.number ≢ n
        not_target same = distinct (place ∙ sym same)

        abbrev source_before : Scene
        source_before = record (x held) { source = p.transaction o n }

        abbrev source_behind : Scene
        source_behind = record (x held) { source = new.transaction o }

        store_same : (world_of q).store held.target.number ≡ w.store held.target.number
        store_same = with_at-other w.store n (store_left (w.store n) new o) held.target.number not_target

        source_found : y held ≡ record (first source_behind) { single = (single q.tracked).rows; numbers = (single q.tracked).next; touched = q.gate.touched; attached = q.gate.attached.bits }
        source_found =
            alike source_behind (y held) refl (ap (λ (st : Store). st.rows) store_same) (ap (λ (st : Store). st.next) store_same)
            (two_same p.transaction o n held.source.number (new.transaction o) place) (two_other p.transaction o n held.target.number (new.transaction o) not_target)

        abbrev SourceActs : List TableDef → Type 0
        SourceActs ts = AreStoredIn ts source_before.source → Before (record source_before { tables = ts }) c task
            → MayAnswer (store_for p o n) o (record { request = request_of ts task; crossed = false }) answer → SourceGives (w.store n) source_before c (request_of ts task)
            → Went (record source_before { tables = ts; source = (acted (store_for p o n) o (request_of ts task) answer).transaction o }) c task answer

        source_leaves : is_refusal answer ≡ false → SourceActs tables
        source_leaves given = subst SourceActs (h.holds.invariant.tables n) (source_acts (w.store n) o source_before c answer given task side)

        gives_right : SourceGives (w.store n) source_before c request
        gives_right = record {
          rows = λ snapshot here. base_is p phases h.holds apart s n (is ∙ ap Some snapshot) (subst (λ k. has p.gate.attached.bits k ≡ true) place here);
          numbers = λ table reads here. number_is p phases h.holds apart s n table (is ∙ ap Some reads) (subst (λ k. has p.gate.attached.bits k ≡ true) place here);
        }

        source_tells : request ≡ request_of tables task → Before (x held) c task → IsAlone w held.target.number → StandsIn q o (q.told o) held (Waiting task)
        source_tells asks before alone =
            tells (IsAlone (world_of q) held.target.number) (ap (place_at c) side ∙ place)
            (alone_by w (world_of q) held.target.number store_same (λ s clear. clear) alone)
            (λ given. went_on source_behind source_found
            (subst (λ (r : Request). Went (record source_before { source = (acted (store_for p o n) o r answer).transaction o }) c task answer) (sym asks)
            (source_leaves given (h.holds.copies o n) (subst (λ k. Before (record (x held) { source = p.transaction o k }) c task) place before)
            (subst (λ (r : Request). MayAnswer (store_for p o n) o (record { request = r; crossed = false }) answer) asks gives)
            (subst (λ (r : Request). SourceGives (w.store n) source_before c r) asks gives_right))))

      -- At the target.

      module _ (side : side_of task ≡ Target) (place : c.target ≡ n) (distinct : c.source ≢ c.target) where
        not_source : held.source.number ≢ n
        not_source same = distinct (same ∙ sym place)

        abbrev target_before : Scene
        target_before = record (x held) { rows = (w.store n).rows; next = (w.store n).next; target = p.transaction o n }

        abbrev target_behind : Scene
        target_behind = record (x held) { rows = new.rows; next = new.next; target = new.transaction o }

        store_new : (world_of q).store held.target.number ≡ store_left (w.store n) new o
        store_new = at_same w.store n held.target.number (store_left (w.store n) new o) place

        target_found : y held ≡ record (first target_behind) { single = (single q.tracked).rows; numbers = (single q.tracked).next; touched = q.gate.touched; attached = q.gate.attached.bits }
        target_found =
            alike target_behind (y held) refl (ap (λ (st : Store). st.rows) store_new) (ap (λ (st : Store). st.next) store_new)
            (two_other p.transaction o n held.source.number (new.transaction o) not_source) (two_same p.transaction o n held.target.number (new.transaction o) place)

        abbrev TargetActs : List TableDef → Type 0
        TargetActs ts = AreStoredIn ts target_before.source → AreStoredIn ts target_before.target → IsPlainThere (record target_before { tables = ts }) → Before (record target_before { tables = ts }) c task
            → MayAnswer (store_for p o n) o (record { request = request_of ts task; crossed = false }) answer
            → Went (record target_before {
              tables = ts;
              rows = (acted (store_for p o n) o (request_of ts task) answer).rows;
              next = (acted (store_for p o n) o (request_of ts task) answer).next;
              target = (acted (store_for p o n) o (request_of ts task) answer).transaction o;
            }) c task answer

        target_leaves : is_refusal answer ≡ false → TargetActs tables
        target_leaves given = subst TargetActs (h.holds.invariant.tables n) (target_acts (w.store n) o target_before c answer given task side)

        alone_new : RunsIn tables request → IsAlone w held.target.number → IsAlone (world_of q) held.target.number
        alone_new runs alone =
            let left : IsSpare w n (store_left (w.store n) new o) =
            spare w n o (p.transaction o n) request answer (h.holds.invariant.tables n) (h.holds.invariant.shaped n) (h.holds.copies o n) runs h.holds.allowed in
            record {
              none = λ k. ap (λ (st : Store). st.transaction k) store_new ∙ left.none k (ap (λ j. (w.store j).transaction k) (sym place) ∙ alone.none k);
              unasked = λ k. ap (λ (st : Store). st.pending k) store_new ∙ left.unasked k (ap (λ j. (w.store j).pending k) (sym place) ∙ alone.unasked k);
              clear = alone.clear;
            }

        target_tells : request ≡ request_of tables task → RunsIn tables request → Before (x held) c task → IsAlone w held.target.number → StandsIn q o (q.told o) held (Waiting task)
        target_tells asks runs before alone =
            tells (IsAlone (world_of q) held.target.number) (ap (place_at c) side ∙ place) (alone_new runs alone)
            (λ given. went_on target_behind target_found
            (subst (λ (r : Request). Went (record target_before {
              rows = (acted (store_for p o n) o r answer).rows;
              next = (acted (store_for p o n) o r answer).next;
              target = (acted (store_for p o n) o r answer).transaction o;
            }) c task answer) (sym asks)
            (target_leaves given (h.holds.copies o held.source.number) (h.holds.copies o n) (plain_there tables p.tracked.history h.holds.invariant.run)
            (subst (λ k. Before (record (x held) { rows = (w.store k).rows; next = (w.store k).next; target = p.transaction o k }) c task) place before)
            (subst (λ (r : Request). MayAnswer (store_for p o n) o (record { request = r; crossed = false }) answer) asks gives))))

      side_tells : (side : Side) → side_of task ≡ side → (backend_at held side).number ≡ n → request ≡ request_of tables task → RunsIn tables request → Before (x held) c task → IsAlone w held.target.number
          → StandsIn q o (q.told o) held (Waiting task)
      side_tells Source is place asks runs before alone = source_tells is place (apart_in (x held) c task before) asks before alone
      side_tells Target is place asks runs before alone = target_tells is place (apart_in (x held) c task before) asks runs before alone

    -- its own

    own_tells : (held : Held) (at : Due) → (phases o).quiet ≡ held.quiet → ((phases o).quiet ≡ Open → ⊥) → held.layout.tables ≡ tables → RunsIn tables request → StandsIn p o (p.told o) held at
        → WaitsAt held at n → AsksFor held at request → StandsIn q o (q.told o) held at
    own_tells held (Waiting task) agrees busy laid runs stands waits asks =
        side_tells held task busy agrees (side_of task) refl waits (asks ∙ ap (λ (ts : List TableDef). request_of ts task) laid) runs
        (waits_before (IsAlone w held.target.number) (x held) (p.told o) (course_of held) task (not_told p phases h.holds o n (place_at (course_of held) (side_of task)) request is) stands) stands.0
    own_tells held (Undoing side ending) agrees busy laid runs stands waits asks = tt
    own_tells held at agrees busy laid runs stands waits asks = absurd waits

    waits_at : WaitsAt (p.recovery o).held (p.recovery o).due n × AsksFor (p.recovery o).held (p.recovery o).due request
    waits_at = (h.holds.lines o).asks n request is

    busy_here : (phases o).quiet ≡ Open → ⊥
    busy_here = asks_busy (p.recovery o).held (p.recovery o).due (phases o) n (h.holds.fits o).agrees.1 (h.holds.fits o).fits (h.ups o).has waits_at.0

    -- another has none of the quiet

    other_tells : (k : ℕ) → k ≢ o → StandsIn q k (q.told k) (p.recovery k).held (p.recovery k).due
    other_tells k other = by (is_within (p.recovery k).due) refl
      where
        by : (v : Bool) → is_within (p.recovery k).due ≡ v → StandsIn q k (q.told k) (p.recovery k).held (p.recovery k).due
        by true there = absurd (other (h.holds.one.one k o (within_busy (p.recovery k).due (phases k) there (h.holds.fits k).fits) busy_here))
        by false off =
            without_facts (IsAlone (world_of q) (p.recovery k).held.target.number) (seen_by (q.transaction k) (scene_of q (p.recovery k).held.target.number) (course_of (p.recovery k).held)) (q.told k)
            (course_of (p.recovery k).held) (p.recovery k).due off

    each_tells : RunsIn tables request → (k : ℕ) → StandsIn q k (q.told k) (p.recovery k).held (p.recovery k).due
    each_tells runs k = elim (same_or_other k o) [
      | inl same ↦
          subst (λ j. StandsIn q j (q.told j) (p.recovery j).held (p.recovery j).due) (sym same)
          (own_tells (p.recovery o).held (p.recovery o).due (h.holds.fits o).agrees.1 busy_here (h.ups o).laid runs (h.stand o) waits_at.0 waits_at.1)
      | inr other ↦ other_tells k other
    ]

    all_tell : FitsAnswer p (p.asked o n) → AllStand (after p e)
    all_tell fit = subst AllStand (sym behind) (each_tells (subst (FitsAnswer p) is fit))

  pub answered_stand : AllStand (after p e)
  answered_stand = all_tell may.request may.asks may.may (step_fit p phases h e may)
