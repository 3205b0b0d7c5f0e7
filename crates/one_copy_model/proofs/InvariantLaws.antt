-- The invariant holds at the start, and agreement follows from it.
use Rattle.std.proofs.Common.{◌≡◌, ◌≢◌, ℕ, zero, suc, ◌<◌, ◌≤◌, Bool, true, false, List, [], ◌∷◌, refl, sym, ◌∙◌, subst, arith, inl, inr}
use Rattle.std.specs.Prelude.{◌⊎◌, if◌then◌else◌, Option, Some, None}
use Rattle.std.specs.FinMap as fin
use Rattle.std.proofs.lemmas.Bool.Decides.{leb_tells}
use Rattle.pool_base.specs.declared.backend_set.BackendSet.{BackendSet}
use Rattle.schema.specs.declared.catalogue.TableDef.{TableDef}
use Rattle.backend_trait.specs.Typed.{AreAllStored}
use Rattle.backend_trait.specs.declared.request.Request.{Request}
use Rattle.backend_trait.specs.declared.request.Request.TheVariants as requests
use Rattle.backend_trait.specs.declared.answer.Answer.{Answer}
use Rattle.backend_trait.specs.Keys.{Place, place_order}
use Rattle.backend_trait.specs.Rows.{no_rows}
use Rattle.backend_trait.specs.Effect.{nothing, Conflicts, same_place, same_table, table_left, table_right}
use Rattle.backend_trait.specs.Store.{Absent, Alive, prepared, is_refusal}
use Rattle.backend_trait.proofs.RowLaws.{same_rows}
use Rattle.session_machine.specs.declared.action.Action.TheVariants as actions
use Rattle.session_machine.specs.declared.machine.ReadPolicy.{ReadPolicy}
use Rattle.session_machine.specs.declared.machine.GatePhase.{GatePhase}
use Rattle.session_machine.specs.declared.machine.GatePhase.TheVariants as phases
use Rattle.session_machine.specs.declared.work.Work.{Work}
use Rattle.session_machine.specs.declared.machine.Stage.{Stage}
use Rattle.session_machine.specs.declared.machine.Stage.TheVariants.{Opening, Reading, Running, Locking, Inserting, Committing, Closing, RollingBack}
use Rattle.session_machine.specs.declared.machine.Point.{Point}
use Rattle.session_machine.specs.declared.machine.Point.TheVariants.{Resting, EnterDue, LookDue, PostDue, Waiting, LostDue, SplitDue, ChooseDue, ShowDue, LeaveSnapshotDue, UnwindDue, EnterCommitDue, LeaveCommitDue, FinishDue, ReplyDue, EndDue}
use Rattle.one_copy_model.specs.Places.{asks_of}
use Rattle.one_copy_model.specs.Deaths.{stage_at, answer_from}
use Rattle.one_copy_model.specs.Tracking.{Tracked, in_commit, first_tracked}
use Rattle.one_copy_model.specs.Chains.{AreShaped}
use Rattle.one_copy_model.specs.Statement.{NobodyCommits, NobodyInserts, IsInserting, ReplicasAgree}
use Rattle.one_copy_model.specs.Standing.{Standing, Nowhere, Fresh, Ahead, Leaving, Fallen, Ending, told_in, standing_in, standing_open, standing_by}
use Rattle.one_copy_model.specs.Invariant.{Invariant, AnswersAlike, IsSound, Leaves, HasInserted, inserted_in, IsStranger, FitsPoint, fits_stage}

-- a store before its first request is sound
no_conflict : ¬ (Conflicts nothing nothing)
no_conflict (same_place p x y) = let e : false ≡ true = x in cc
no_conflict (same_table t x y) = let e : false ≡ true = x in cc
no_conflict (table_left p x y) = let e : false ≡ true = x in cc
no_conflict (table_right p x y) = let e : false ≡ true = x in cc

first_sound : (tables : List TableDef) → IsSound (prepared tables)
first_sound tables = record {
  apart = λ s o other c. no_conflict c;
  changed = λ s t p e. absurd (let n : Absent ≡ Alive t = e in cc);
  fresh = λ s t p e. absurd (let n : Absent ≡ Alive t = e in cc);
}

none_stored : (tables : List TableDef) → AreAllStored tables no_rows
none_stored tables p row e = absurd (let n : None ≡ Some row = sym (fin.get-empty place_order p) ∙ e in cc)

first_shaped : (tables : List TableDef) → AreShaped (prepared tables)
first_shaped tables = record {
  rows = none_stored tables;
  bases = λ s t e. absurd (let n : Absent ≡ Alive t = e in cc);
  changes = λ s t p row e. absurd (let n : Absent ≡ Alive t = e in cc);
}

pub alike_first : (tables : List TableDef) (policy : ReadPolicy) (attached : BackendSet) → AnswersAlike (first_tracked tables policy attached)
alike_first tables policy attached = record {
  uncrossed = λ s b lower p stage here below less e. absurd (let n : None ≡ Some stage = e in cc);
  lowest = λ s b lower stage code here below e. absurd (let n : None ≡ Some stage = e in cc);
  stopped = λ s b c stage answer here e. absurd (let n : None ≡ Some stage = e in cc);
}

pub holds_first : (tables : List TableDef) (policy : ReadPolicy) (attached : BackendSet) → attached.bits < 256 → Invariant (first_tracked tables policy attached)
holds_first tables policy attached few = record {
  few = few;
  tables = λ b. refl;
  counts = record { snaps = refl; commits = refl; live = refl; apart = inl refl; quiet = λ e. absurd (let n : 0 ≡ 3 = e in omega (arith, n)) };
  strangers = λ s h. record { point = refl; out = refl; asks = λ b. refl; none = λ b. refl; told = λ b. refl; none_there = refl };
  inside = λ s. refl;
  classed = λ s. tt;
  line = λ s b. record {
    asked = λ p here e. absurd (let n : None ≡ Some p = e in cc);
    untold = λ p e. absurd (let n : None ≡ Some p = e in cc);
    told = λ answer e. absurd (let n : None ≡ Some answer = e in cc);
  };
  in_order = λ s stage e. absurd (let n : None ≡ Some stage = e in cc);
  heard = λ s b stage answer here e. absurd (let n : None ≡ Some stage = e in cc);
  parting = λ s stage best own among more e. absurd (let n : Resting ≡ SplitDue stage best own among more = e in cc);
  causes = λ s b cause e. absurd (let n : actions.Rest ≡ actions.Detach b cause = e in cc);
  stands = λ s b here. (refl, refl);
  sound = λ b here. first_sound tables;
  shaped = λ b. first_shaped tables;
  sound_there = first_sound tables;
  undead = λ s. refl;
  stale = λ o s p last u in_it. absurd (let n : false ≡ true = in_it in cc);
  stale_known = λ s b l u p here e. absurd (let n : Absent ≡ Alive l = e in cc);
  crossed_there = λ s b p q here kept e. absurd (let n : None ≡ Some p = e in cc);
  unchanged = λ s u locks e. absurd (let n : phases.Out ≡ phases.Live false locks = e in cc);
  closes = λ s b l here e. absurd (let n : None ≡ Some Closing = e in cc);
  rows_same = λ b p here none. refl;
  rows_left = λ o b p last here leaves e. absurd (let n : Absent ≡ Alive last = e in cc);
  numbers = λ b table here none. refl;
  numbers_ahead = λ s b table work here i. absurd (let n : None ≡ Some work = i.inserted in cc);
  locks = record { alone = λ s o table e. absurd (let n : false ≡ true = e in cc); free = λ s o table apart e. absurd (let n : false ≡ true = e in cc) };
  alive = λ s e. absurd (let n : false ≡ true = e in cc);
  reasons = λ s stage told code e. absurd (let n : None ≡ Some stage = e in cc);
  run = tt;
  posts = λ s. refl;
  replies = λ s told outcome e. absurd (let n : None ≡ Some told = e in cc);
  orders = λ s. refl;
  order_is = λ s told e. absurd (let n : None ≡ Some told = e in cc);
  since = λ s told e. absurd (let n : None ≡ Some told = e in cc);
  commits = λ s b told here e. absurd (let n : None ≡ Some told = e in cc);
  done_first = λ s b told e. absurd (let n : None ≡ Some told = e in cc);
}

-- who leaves is in a commit
told_leaves : (before behind : Standing) (told : Option Answer) → told_in before behind told ≡ Leaving → (before ≡ Leaving) ⊎ (behind ≡ Leaving)
told_leaves before behind None e = inl e
told_leaves before behind (Some answer) e = by (is_refusal answer) e
  where
    by : (refused : Bool) → (if refused then Fallen else behind) ≡ Leaving → (before ≡ Leaving) ⊎ (behind ≡ Leaving)
    by true e = absurd (let n : Fallen ≡ Leaving = e in cc)
    by false e = inr e

stays : (before behind : Standing) (told : Option Answer) → before ≢ Leaving → behind ≢ Leaving → told_in before behind told ≡ Leaving → ⊥
stays before behind told none neither e = elim (told_leaves before behind told e) [ inl h ↦ none h | inr h ↦ neither h ]

nowhere_stays : Nowhere ≢ Leaving
nowhere_stays e = let n : Nowhere ≡ Leaving = e in cc

fresh_stays : Fresh ≢ Leaving
fresh_stays e = let n : Fresh ≡ Leaving = e in cc

ending_stays : Ending ≢ Leaving
ending_stays e = let n : Ending ≡ Leaving = e in cc

ahead_stays : (asks : List Request) → Ahead asks ≢ Leaving
ahead_stays asks e = let n : Ahead asks ≡ Leaving = e in cc

stage_leaves : (stage : Stage) (phase : GatePhase) (told : Option Answer) → fits_stage stage phase ≡ true → standing_in stage told ≡ Leaving → in_commit phase ≡ true
stage_leaves (Opening work) phase told fits e = absurd (stays Nowhere Fresh told nowhere_stays fresh_stays e)
stage_leaves (Reading work ticket) phase told fits e = absurd (stays (Ahead []) (Ahead []) told (ahead_stays []) (ahead_stays []) e)
stage_leaves (Running work) phase told fits e =
    absurd (stays (Ahead []) (Ahead (requests.Run work.statement ∷ [])) told (ahead_stays []) (ahead_stays _) e)
stage_leaves (Locking work table) phase told fits e =
    absurd (stays (Ahead []) (Ahead (requests.Lock table ∷ [])) told (ahead_stays []) (ahead_stays _) e)
stage_leaves (Inserting work posted) phase told fits e =
    absurd (stays (Ahead (asks_of work ∷ [])) (Ahead (requests.Run work.statement ∷ asks_of work ∷ [])) told (ahead_stays _) (ahead_stays _) e)
stage_leaves Committing phase told fits e = fits
stage_leaves Closing phase told fits e = absurd (stays Ending Nowhere told ending_stays nowhere_stays e)
stage_leaves (RollingBack ending) phase told fits e = absurd (stays Ending Nowhere told ending_stays nowhere_stays e)

pub open_stays : (phase : GatePhase) → standing_open phase ≡ Leaving → ⊥
open_stays phases.Out e = nowhere_stays e
open_stays phases.InSnapshot e = nowhere_stays e
open_stays (phases.Live changed tables) e = let n : Ahead [] ≡ Leaving = e in cc
open_stays phases.InCommit e = nowhere_stays e

pub point_leaves : (point : Point) (phase : GatePhase) (told : Option Answer) → FitsPoint (stage_at point) point phase → standing_by phase point (stage_at point) told ≡ Leaving → in_commit phase ≡ true
point_leaves (LookDue stage) phase told fits e = stage_leaves stage phase told fits e
point_leaves (PostDue stage b) phase told fits e = stage_leaves stage phase told fits e
point_leaves (Waiting stage b) phase told fits e = stage_leaves stage phase told fits e
point_leaves (LostDue stage b before more) phase told fits e = stage_leaves stage phase told fits e
point_leaves (SplitDue stage best own among more) phase told fits e = stage_leaves stage phase told fits e
point_leaves Resting phase told fits e = absurd (open_stays phase e)
point_leaves (EnterDue work) phase told fits e = absurd (open_stays phase e)
point_leaves (ChooseDue work) phase told fits e = absurd (open_stays phase e)
point_leaves ShowDue phase told fits e = absurd (open_stays phase e)
point_leaves (LeaveSnapshotDue work) phase told fits e = absurd (fresh_stays e)
point_leaves (UnwindDue ending) phase told fits e = absurd (nowhere_stays e)
point_leaves EnterCommitDue phase told fits e = absurd (open_stays phase e)
point_leaves (LeaveCommitDue ending) phase told fits e = absurd (nowhere_stays e)
point_leaves (FinishDue ending) phase told fits e = absurd (nowhere_stays e)
point_leaves (ReplyDue outcome) phase told fits e = absurd (open_stays phase e)
point_leaves EndDue phase told fits e = absurd (open_stays phase e)

commit_is : (phase : GatePhase) → in_commit phase ≡ true → phase ≡ phases.InCommit
commit_is phases.Out e = absurd (cc)
commit_is phases.InSnapshot e = absurd (cc)
commit_is (phases.Live changed tables) e = absurd (cc)
commit_is phases.InCommit e = refl

module _ (t : Tracked) (h : Invariant t) where
  -- a number is a session's, or it is at rest
  number_is : (s : ℕ) → IsStranger s ⊎ ((1 ≤ s) × (s ≤ 64))
  number_is zero = inl (inl refl)
  number_is (suc s) = elim (leb_tells 65 (suc s)) [
    | inl q ↦ inl (inr q.1)
    | inr q ↦ inr ((let z : 1 ≤ suc s = omega (arith) in z), (let z : suc s ≤ 64 = omega (arith, q.1) in z))
  ]

  none_in_commit : NobodyCommits t.world → (s : ℕ) → (t.world.machine s).session.gate ≡ phases.InCommit → ⊥
  none_in_commit none s is = elim (number_is s) [
    | inl stranger ↦ (let n : phases.Out ≡ phases.InCommit = sym (h.strangers s stranger).out ∙ is in cc)
    | inr range ↦ none s range.0 range.1 is
  ]

  none_leaves : NobodyCommits t.world → (o b : ℕ) (p : Place) → Leaves t o b p → ⊥
  none_leaves none o b p l =
      none_in_commit none o
      (commit_is (t.world.machine o).session.gate
      (point_leaves (t.world.machine o).point (t.world.machine o).session.gate (answer_from t.world o b) (h.inside o) l.leaves))

  inserting : (stage : Option Stage) (told : Option Answer) (work : Work) → inserted_in stage told ≡ Some work → IsInserting stage
  inserting (Some (Inserting work true)) told other is = tt
  inserting stage told work is = absurd (let n : None ≡ Some work = is in cc)

  none_inserts : NobodyInserts t.world → (s b table : ℕ) (work : Work) → HasInserted t s b table work → ⊥
  none_inserts none s b table work i = elim (number_is s) [
    | inl stranger ↦ (let n : None ≡ Some work = subst (λ (point : Point). inserted_in (stage_at point) (answer_from t.world s b) ≡ Some work) (h.strangers s stranger).point i.inserted in cc)
    | inr range ↦ none s range.0 range.1 (inserting (stage_at (t.world.machine s).point) (answer_from t.world s b) work i.inserted)
  ]

  pub agree : ReplicasAgree t
  agree none b here = record {
    rows = same_rows _ _ (λ p. h.rows_same b p here (λ o. none_leaves none o b p));
    numbers = λ settled table. h.numbers b table here (λ s work. none_inserts settled s b table work);
  }
