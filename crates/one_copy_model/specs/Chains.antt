-- What holds of a chain that is under way: the order in which it asks, the answers that were heard, and answers that differ.
use Rattle.std.specs.Prelude.{◌≡◌, ◌⊎◌, ℕ, ◌<◌, ◌≤◌, Bool, true, false, is_some, List, [], ◌∷◌, Option, Some, None, slice_get}
use Rattle.std.specs.FinMap as fin
use Rattle.pool_base.specs.Sets.{has}
use Rattle.pool_base.specs.declared.backend_set.BackendSet.{BackendSet}
use Rattle.sql_eval.specs.declared.row.Row.{Row}
use Rattle.catalogue.specs.declared.checked.Checked.{Checked}
use Rattle.backend_trait.specs.Typed.{IsStored, AreAllStored}
use Rattle.backend_trait.specs.declared.answer.Answer.{Answer}
use Rattle.backend_trait.specs.Keys.{Place}
use Rattle.backend_trait.specs.Effect.{Given, Fails, Gives}
use Rattle.backend_trait.specs.Store.{Live, Alive, Store, WhereLive, is_refusal}
use Rattle.backend_trait.specs.Acts.{IsOf, given_of}
use Rattle.session_machine.specs.declared.work.Work.{Work}
use Rattle.session_machine.specs.declared.machine.Heard.{Heard}
use Rattle.session_machine.specs.declared.machine.Stage.{Stage}
use Rattle.session_machine.specs.declared.machine.Stage.TheVariants.{Opening, Reading, Running, Locking, Inserting, Committing, Closing, RollingBack}
use Rattle.session_machine.specs.declared.machine.Point.{Point}
use Rattle.session_machine.specs.declared.machine.Point.TheVariants.{PostDue, Waiting, SplitDue}
use Rattle.session_machine.specs.declared.machine.Machine.{Machine}
use Rattle.session_machine.specs.Answers.{is_same}
use Rattle.session_machine.specs.Rules.{request_of}
use Rattle.one_copy_model.specs.Deaths.{stage_at, heard_from}

-- A chain goes up the backends: the answers stand in the order of their numbers, the backend that is asked stands above them, and of
-- the attached backends below one that is asked or has answered each has answered. A read alone asks one backend.

abbrev pub AreAbove : ℕ → List Heard → Type 0
AreAbove b [] = Unit {0}
AreAbove b (h ∷ hs) = (b < h.b.number) × AreAbove b hs

abbrev pub IsRising : List Heard → Type 0
IsRising [] = Unit {0}
IsRising (h ∷ hs) = AreAbove h.b.number hs × IsRising hs

abbrev pub AreBelow : ℕ → List Heard → Type 0
AreBelow b [] = Unit {0}
AreBelow b (h ∷ hs) = (h.b.number < b) × AreBelow b hs

abbrev pub asked_in : Point → Option ℕ
asked_in (PostDue stage b) = Some b.number
asked_in (Waiting stage b) = Some b.number
asked_in point = None

abbrev pub has_told : Machine → ℕ → Bool
has_told m b = is_some (heard_from m.session.heard b)

abbrev pub goes_up : Stage → Bool
goes_up (Opening work) = true
goes_up (Reading work ticket) = false
goes_up (Running work) = true
goes_up (Locking work table) = true
goes_up (Inserting work posted) = true
goes_up Committing = true
goes_up Closing = true
goes_up (RollingBack ending) = true

-- of a read one backend has answered, or none, and none where one is asked
abbrev pub HasOne : Option ℕ → List Heard → Type 0
HasOne (Some b) heard = heard ≡ []
HasOne None [] = Unit {0}
HasOne None (h ∷ hs) = hs ≡ []

pub record IsInOrder (attached : ℕ) (m : Machine) (stage : Stage) : Type 0 where
  pub rising : IsRising m.session.heard
  pub above : (b : ℕ) → asked_in m.point ≡ Some b → AreBelow b m.session.heard
  pub below : (b c : ℕ) → goes_up stage ≡ true → has attached b ≡ true → b < c
      → ((asked_in m.point ≡ Some c) ⊎ (has_told m c ≡ true)) → has_told m b ≡ true
  pub one : goes_up stage ≡ false → HasOne (asked_in m.point) m.session.heard

-- Answers differ: the attached backends are among those that were compared; of those that differ from the kept answer the ones below
-- the one that is to be detached have left; and where the chain does not go on behind a result, all have answered, and so they have of a
-- serial insert's run, which draws at every backend. The kept answer has the form of what is asked, also when its backend has left.
pub record IsParting (attached : ℕ) (m : Machine) (best own : Heard) (among : BackendSet) (more : Bool) : Type 0 where
  pub fewer : (b : ℕ) → has attached b ≡ true → has among.bits b ≡ true
  pub parted : (b : ℕ) (answer : Answer) → has attached b ≡ true → heard_from m.session.heard b ≡ Some answer
      → is_same answer best.answer ≡ false → own.b.number ≤ b
  pub whole : more ≡ false → is_refusal best.answer ≡ false → (b : ℕ) → has attached b ≡ true → has_told m b ≡ true
  pub drawn : (work : Work) (posted : Bool) → stage_at m.point ≡ Some (Inserting work posted) → (b : ℕ) → has attached b ≡ true
      → has_told m b ≡ true
  pub form : (stage : Stage) → stage_at m.point ≡ Some stage → IsOf (request_of stage) best.answer

-- the kept answer of those that differ
abbrev pub IsKept : Point → Answer → Type 0
IsKept (SplitDue stage best own among more) answer = best.answer ≡ answer
IsKept point answer = ⊥

-- An answer has the form of what is asked. A result is the one that the statement's effect gives the transaction in that store, and the
-- effect has no code there. Of a serial insert's run that is not posted nobody has answered: its first post turns the flag.

abbrev pub is_unposted : Stage → Bool
is_unposted (Inserting work false) = true
is_unposted stage = false

abbrev pub IsResult : Answer → Given → Type 0
IsResult answer (Fails code) = ⊥
IsResult answer (Gives result changes wants) = answer ≡ result

abbrev pub IsResultOf : Store → ℕ → Checked → Answer → Type 0
IsResultOf st s checked answer = WhereLive (st.transaction s) (λ u. IsResult answer (given_of st checked u))

abbrev pub ResultIn : Store → ℕ → Stage → Answer → Type 0
ResultIn st s (Reading work ticket) answer = IsResultOf st s work.statement answer
ResultIn st s (Running work) answer = IsResultOf st s work.statement answer
ResultIn st s (Inserting work posted) answer = IsResultOf st s work.statement answer
ResultIn st s (Opening work) answer = Unit {0}
ResultIn st s (Locking work table) answer = Unit {0}
ResultIn st s Committing answer = Unit {0}
ResultIn st s Closing answer = Unit {0}
ResultIn st s (RollingBack ending) answer = Unit {0}

pub record IsHeard (st : Store) (s : ℕ) (stage : Stage) (answer : Answer) : Type 0 where
  pub form : IsOf (request_of stage) answer
  pub posted : is_unposted stage ≡ false
  pub result : is_refusal answer ≡ false → ResultIn st s stage answer

-- The rows of a store, those at its transactions' snapshots and those among their changes are of their tables, under their own keys.
pub record AreShaped (st : Store) : Type 0 where
  pub rows : AreAllStored st.tables st.rows
  pub bases : (s : ℕ) (t : Live) → st.transaction s ≡ Alive t → AreAllStored st.tables t.base
  pub changes : (s : ℕ) (t : Live) (p : Place) (row : Row) → st.transaction s ≡ Alive t → fin.get t.changes p ≡ Some (Some row)
      → IsStored (slice_get st.tables p.table) p.key row
