-- How a session's transaction stands at a backend to the one in the single run.
use Rattle.std.specs.Prelude.{◌≡◌, ℕ, Bool, true, false, ◌&&◌, ◌==◌, if◌then◌else◌, List, [], ◌∷◌, Option, Some, None}
use Rattle.schema.specs.declared.catalogue.TableDef.{TableDef}
use Rattle.backend_trait.specs.declared.request.Request.{Request}
use Rattle.backend_trait.specs.declared.request.Request.TheVariants as requests
use Rattle.backend_trait.specs.declared.answer.Answer.{Answer}
use Rattle.backend_trait.specs.Rows.{Rows}
use Rattle.backend_trait.specs.Store.{Transaction, Absent, Alive, Dead, Store, begun, is_refusal, answered}
use Rattle.session_machine.specs.declared.machine.GatePhase.{GatePhase}
use Rattle.session_machine.specs.declared.machine.GatePhase.TheVariants as phases
use Rattle.session_machine.specs.declared.machine.Stage.{Stage}
use Rattle.session_machine.specs.declared.machine.Stage.TheVariants.{Opening, Reading, Running, Locking, Inserting, Committing, Closing, RollingBack}
use Rattle.session_machine.specs.declared.machine.Point.{Point}
use Rattle.session_machine.specs.declared.machine.Point.TheVariants.{LeaveSnapshotDue, UnwindDue, LeaveCommitDue, FinishDue}
use Rattle.one_copy_model.specs.declared.deed.Deed.{Deed}
use Rattle.one_copy_model.specs.declared.deed.Deed.TheVariants.{Asks}
use Rattle.one_copy_model.specs.declared.deed.Entry.{Entry}
use Rattle.one_copy_model.specs.SingleRun.{store_after}
use Rattle.one_copy_model.specs.World.{World}
use Rattle.one_copy_model.specs.Places.{asks_of}
use Rattle.one_copy_model.specs.Deaths.{stage_at, answer_from}

-- none here and there; begun here and not yet there; ahead of the one there by these requests; committed there and not yet here;
-- dead here; ended there and not yet here
pub data Standing : Type 0 where
  Nowhere : Standing
  Fresh : Standing
  Ahead : List Request → Standing
  Leaving : Standing
  Fallen : Standing
  Ending : Standing

abbrev pub same : Standing
same = Ahead []

-- by what the backend has answered in the chain under way
abbrev pub told_in : Standing → Standing → Option Answer → Standing
told_in before behind None = before
told_in before behind (Some answer) = if is_refusal answer then Fallen else behind

abbrev pub standing_in : Stage → Option Answer → Standing
standing_in (Opening work) told = told_in Nowhere Fresh told
standing_in (Reading work ticket) told = told_in same same told
standing_in (Running work) told = told_in same (Ahead (requests.Run work.statement ∷ [])) told
standing_in (Locking work table) told = told_in same (Ahead (requests.Lock table ∷ [])) told
standing_in (Inserting work posted) told =
    told_in (Ahead (asks_of work ∷ [])) (Ahead (requests.Run work.statement ∷ asks_of work ∷ [])) told
standing_in Committing told = told_in Leaving Nowhere told
standing_in Closing told = told_in Ending Nowhere told
standing_in (RollingBack ending) told = told_in Ending Nowhere told

-- between chains: as it is there where the transaction is open at the gate; begun here where the snapshot is to be left; none
-- where an ending has gone round
abbrev pub standing_open : GatePhase → Standing
standing_open phases.Out = Nowhere
standing_open phases.InSnapshot = Nowhere
standing_open (phases.Live changed tables) = same
standing_open phases.InCommit = Nowhere

abbrev pub standing_at : GatePhase → Point → Standing
standing_at phase (LeaveSnapshotDue work) = Fresh
standing_at phase (UnwindDue ending) = Nowhere
standing_at phase (LeaveCommitDue ending) = Nowhere
standing_at phase (FinishDue ending) = Nowhere
standing_at phase point = standing_open phase

abbrev pub standing_by : GatePhase → Point → Option Stage → Option Answer → Standing
standing_by phase point (Some stage) told = standing_in stage told
standing_by phase point None told = standing_at phase point

abbrev pub standing_of : World → ℕ → ℕ → Standing
standing_of w s b =
    standing_by (w.machine s).session.gate (w.machine s).point (stage_at (w.machine s).point) (answer_from w s b)

-- what requests make of a transaction, the newest first: the same as an answer that is no refusal makes of it in a store
abbrev pub in_store : Store → ℕ → Transaction → Store
in_store st s x = record st { transaction = λ o. if o == s then x else st.transaction o }

abbrev pub ahead_by : Store → ℕ → List Request → Transaction → Transaction
ahead_by st s [] x = x
ahead_by st s (request ∷ before) x = (answered (in_store st s (ahead_by st s before x)) s request).transaction s

-- two transactions are alike: one base, the same changes, and they hold the same
abbrev pub Alike : Transaction → Transaction → Type 0
Alike (Alive t) (Alive u) = (t.base ≡ u.base) × (t.changes ≡ u.changes) × (t.held ≡ u.held)
Alike here there = ⊥

-- begun on those rows, and nothing since
abbrev pub IsFreshOn : Rows → Transaction → Type 0
IsFreshOn rows x = x ≡ Alive (begun rows)

-- the transaction with which the session committed last in the single run
abbrev pub asks_commit : Deed → Bool
asks_commit (Asks requests.Commit) = true
asks_commit deed = false

abbrev pub leaving_of : List TableDef → ℕ → List Entry → Transaction
leaving_of tables s [] = Absent
leaving_of tables s (e ∷ es) =
    if (e.session == s) && asks_commit e.deed then (store_after tables es).transaction s else leaving_of tables s es

-- how the transaction here stands to the one there: the single store, the session, the one that it committed there last
abbrev pub Stands : Store → ℕ → Transaction → Standing → Transaction → Transaction → Type 0
Stands single s last Nowhere here there = (here ≡ Absent) × (there ≡ Absent)
Stands single s last Fresh here there = IsFreshOn single.rows here × (there ≡ Absent)
Stands single s last (Ahead asked) here there = Alike here (ahead_by single s asked there)
Stands single s last Leaving here there = Alike here last × (there ≡ Absent)
Stands single s last Fallen here there = here ≡ Dead
Stands single s last Ending here there = there ≡ Absent
