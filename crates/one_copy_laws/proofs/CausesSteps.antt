-- What holds of a machine by what is due: the answers of a chain stand in rising order; and where none is due, nothing.
use Rattle.std.proofs.Common.{◌≡◌, ℕ, ◌≤◌, Bool, true, false, List, [], ◌∷◌, refl, ap, ◌∙◌}
use Rattle.std.specs.Prelude.{◌&&◌, not, nat_le, if◌then◌else◌, Option, Some, None}
use Rattle.pool_base.specs.Outside.{Rose}
use Rattle.pool_base.specs.Sets.{has}
use Rattle.pool_base.specs.declared.code.Code.{Code}
use Rattle.pool_base.specs.declared.backend_id.BackendId.{BackendId}
use Rattle.pool_base.specs.declared.backend_set.BackendSet.{BackendSet}
use Rattle.backend_trait.specs.declared.answer.Answer.{Answer}
use Rattle.backend_trait.specs.declared.answer.Answer.TheVariants as answers
use Rattle.write_path.specs.declared.kind.ChainKind.{ChainKind}
use Rattle.write_path.specs.declared.kind.ChainKind.TheVariants.{All, StopAtRefusal}
use Rattle.write_path.specs.Kept.{IsHolder}
use Rattle.session_orders.specs.declared.outcome.Outcome.{Outcome}
use Rattle.session_machine.specs.declared.work.Work.{Work}
use Rattle.session_machine.specs.declared.machine.Heard.{Heard}
use Rattle.session_machine.specs.declared.machine.Ending.{Ending}
use Rattle.session_machine.specs.declared.machine.Ending.TheVariants.{Replies, Leaves}
use Rattle.session_machine.specs.declared.machine.GatePhase.{GatePhase}
use Rattle.session_machine.specs.declared.machine.GatePhase.TheVariants.{Out, InSnapshot, Live, InCommit}
use Rattle.session_machine.specs.declared.machine.Stage.{Stage}
use Rattle.session_machine.specs.declared.machine.Stage.TheVariants.{Opening, Reading, Running, Locking, Inserting, Committing, Closing, RollingBack}
use Rattle.session_machine.specs.declared.machine.Point.{Point}
use Rattle.session_machine.specs.declared.machine.Point.TheVariants.{LookDue, PostDue, Waiting, LostDue, SplitDue}
use Rattle.session_machine.specs.declared.machine.Session.{Session}
use Rattle.session_machine.specs.declared.machine.Machine.{Machine}
use Rattle.session_machine.specs.Answers.{is_same, is_attached, is_open, is_other, next_of, kept, first_other, counts, goes_on}
use Rattle.session_machine.specs.Rules.{primary, ended, released, begun_at, begun_behind, refused_at, refused, stranded, stranded_in, failing, ran, opened, locked, refusal_of, closed, decided, split, judged, asked, reading_at, chosen, read, looked}
use Rattle.one_copy_model.specs.Chains.{IsRising, AreBelow, goes_up}
use Rattle.one_copy_model.specs.Statement.{answers_among}
use Rattle.one_copy_model.specs.Deaths.{heard_from}
use Rattle.one_copy_model.proofs.Finding.{is_found, least_found}
use Rattle.one_copy_model.proofs.Livings.{and_true}
use Rattle.one_copy_laws.proofs.LooksEndings.{IsAmong, found_among, among_heard}
use Rattle.one_copy_laws.proofs.LooksNexts.{open_of}
use Rattle.one_copy_laws.proofs.SplitsGroups.{view_at, best_counts, best_among, holder}

abbrev pub IsOpenTo : Session → BackendId → Type 0
IsOpenTo session k = is_open session.view.attached.bits session.heard k ≡ true

-- each backend that has not answered stands above those that have
pub record IsClimbing (session : Session) : Type 0 where
  pub rising : IsRising session.heard
  pub above : (k : BackendId) → IsOpenTo session k → AreBelow k.number session.heard

pub record IsNext (session : Session) (b : BackendId) : Type 0 where
  pub climbs : IsClimbing session
  pub below : AreBelow b.number session.heard
  pub least : (k : BackendId) → IsOpenTo session k → b.number ≤ k.number

pub record IsSplit (session : Session) (best own : Heard) (among : BackendSet) : Type 0 where
  pub holds : IsHolder is_same (answers_among among session.heard) best.b.number
  pub kept_is : answers_among among session.heard best.b.number ≡ Some best.answer
  pub own_is : answers_among among session.heard own.b.number ≡ Some own.answer
  pub differ : is_same own.answer best.answer ≡ false

abbrev pub HoldsAt : Session → Point → Type 0
HoldsAt session (LookDue stage) = goes_up stage ≡ true → IsClimbing session
HoldsAt session (PostDue stage b) = goes_up stage ≡ true → IsNext session b
HoldsAt session (Waiting stage b) = goes_up stage ≡ true → IsNext session b
HoldsAt session (LostDue stage b before more) = (goes_up stage ≡ true → IsClimbing session) × Rose before more
HoldsAt session (SplitDue stage best own among more) = IsClimbing session × IsSplit session best own among
HoldsAt session point = Unit {0}

abbrev pub Holds : Machine → Type 0
Holds m = HoldsAt m.session m.point

-- A chain begins without answers.

pub fresh : (session : Session) → IsClimbing (record session { heard = [] })
fresh session = record { rising = tt; above = λ k e. tt }

at_first : (session : Session) (stage : Stage) (o : Option BackendId) → primary session ≡ o → Holds (begun_at session stage o)
at_first session stage None e = λ up. fresh session
at_first session stage (Some b) e = λ up. record {
  climbs = fresh session;
  below = tt;
  least = λ k is. least_found (is_attached session.view.attached.bits) b k e (and_true (has session.view.attached.bits k.number) true is).0;
}

behind_first : (behind : Bool) (session : Session) (stage : Stage) → Holds (begun_behind behind session stage)
behind_first true session stage = at_first session stage (primary session) refl
behind_first false session stage = λ up. fresh session

refuses_at : (behind : Bool) (session : Session) (phase : GatePhase) (outcome : Outcome) → Holds (refused_at behind session phase outcome)
refuses_at behind session Out outcome = tt
refuses_at behind session InSnapshot outcome = behind_first behind (failing session) (RollingBack (Replies outcome))
refuses_at behind session (Live changed tables) outcome = behind_first behind (failing session) (RollingBack (Replies outcome))
refuses_at behind session InCommit outcome = behind_first behind (failing session) (RollingBack (Replies outcome))

pub refuses : (behind : Bool) (session : Session) (outcome : Outcome) → Holds (refused behind session outcome)
refuses behind session outcome = refuses_at behind session session.gate outcome

pub ends : (session : Session) (ending : Ending) → Holds (ended session ending)
ends session (Replies outcome) = tt
ends session Leaves = tt

pub releases : (session : Session) (phase : GatePhase) (ending : Ending) → Holds (released session phase ending)
releases session Out ending = ends session ending
releases session InSnapshot ending = tt
releases session (Live changed tables) ending = tt
releases session InCommit ending = tt

pub strands : (session : Session) → Holds (stranded session)
strands session = releases (failing session) session.gate _

pub strands_in : (session : Session) (stage : Stage) → Holds (stranded_in session stage)
strands_in session (Opening work) = strands session
strands_in session (Reading work ticket) = strands session
strands_in session (Running work) = strands session
strands_in session (Locking work table) = strands session
strands_in session (Inserting work posted) = strands session
strands_in session Committing = tt
strands_in session Closing = strands session
strands_in session (RollingBack ending) = releases session session.gate ending

-- The end of a chain.

runs : (behind : Bool) (session : Session) (work : Work) (answer : Answer) → Holds (ran behind session work answer)
runs behind session work (answers.Refused code) = refuses behind session _
runs behind session work (answers.Rows rows) = tt
runs behind session work (answers.Count n) = tt
runs behind session work answers.Began = tt
runs behind session work answers.Locked = tt
runs behind session work answers.Done = tt
runs behind session work (answers.Serial n) = tt

opens : (behind : Bool) (session : Session) (work : Work) (code : Option Code) → Holds (opened behind session work code)
opens behind session work None = tt
opens behind session work (Some code) = refuses behind session _

locks : (behind : Bool) (session : Session) (work : Work) (code : Option Code) → Holds (locked behind session work code)
locks behind session work None = behind_first behind session (Inserting work false)
locks behind session work (Some code) = refuses behind session _

closes : (behind : Bool) (session : Session) (stage : Stage) (answer : Answer) → Holds (closed behind session stage answer)
closes behind session (Opening work) answer = opens behind session work (refusal_of answer)
closes behind session (Reading work ticket) answer = runs behind session work answer
closes behind session (Running work) answer = runs behind session work answer
closes behind session (Locking work table) answer = locks behind session work (refusal_of answer)
closes behind session (Inserting work posted) answer = runs behind session work answer
closes behind session Committing answer = tt
closes behind session Closing answer = tt
closes behind session (RollingBack ending) answer = releases session session.gate ending

decides : (behind : Bool) (session : Session) (stage : Stage) (answer : Answer) (more : Bool) → IsClimbing session → Holds (decided behind session stage answer more)
decides behind session stage answer true climbs = λ up. climbs
decides behind session stage answer false climbs = closes behind session stage answer

pub splits : (behind : Bool) (session : Session) (stage : Stage) (best : Heard) (among : BackendSet) (more : Bool) (found : Option Heard) → IsClimbing session
    → ((own : Heard) → found ≡ Some own → IsSplit session best own among) → Holds (split behind session stage best among more found)
splits behind session stage best among more None climbs parts = decides behind session stage best.answer more climbs
splits behind session stage best among more (Some own) climbs parts = (climbs, parts own refl)

-- An answer that differs.

not_is : (x : Bool) → not x ≡ true → x ≡ false
not_is true e = absurd (let z : false ≡ true = e in cc)
not_is false e = refl

module _ (heard : List Heard) (rising : IsRising heard) (among : BackendSet) (best own : Heard) (from : ℕ)
    (differs : first_other among.bits best.answer from heard ≡ Some own) where
  passes : (is_other among.bits best.answer from own ≡ true) × IsAmong own heard
  passes = found_among (is_other among.bits best.answer from) heard own differs

  apart : (counts among.bits own ≡ true) × ((nat_le from own.b.number && not (is_same own.answer best.answer)) ≡ true)
  apart = and_true (counts among.bits own) (nat_le from own.b.number && not (is_same own.answer best.answer)) passes.0

  pub other_differs : is_same own.answer best.answer ≡ false
  other_differs = not_is (is_same own.answer best.answer) (and_true (nat_le from own.b.number) (not (is_same own.answer best.answer)) apart.1).1

  pub other_heard : answers_among among heard own.b.number ≡ Some own.answer
  other_heard = ap (λ (x : Bool). if x then heard_from heard own.b.number else None) apart.0 ∙ among_heard heard own rising passes.1

judges : (session : Session) (stage : Stage) (found : Option Heard) → kept session.view.attached.bits session.heard ≡ found → IsClimbing session → Holds (judged session stage found)
judges session stage None e climbs = λ up. climbs
judges session stage (Some best) e climbs =
    let set = session.view.attached in
    splits true session stage best set (goes_on set.bits session.heard best.answer) (first_other set.bits best.answer 0 session.heard) climbs
    (λ own differs. record {
      holds = holder set session.heard climbs.rising best e;
      kept_is = view_at set session.heard climbs.rising best (best_among set session.heard climbs.rising best e) (best_counts set session.heard climbs.rising best e);
      own_is = other_heard session.heard climbs.rising set best own 0 differs;
      differ = other_differs session.heard climbs.rising set best own 0 differs;
    })

-- A Look.

asks : (session : Session) (stage : Stage) (kind : ChainKind) (next : Option BackendId) → next_of kind session.view.attached.bits session.heard ≡ next → IsClimbing session
    → Holds (asked session stage next)
unfolding asked
asks session stage kind None e climbs = judges session stage (kept session.view.attached.bits session.heard) refl climbs
asks session stage kind (Some b) e climbs = λ up.
    let found = open_of kind session.view.attached.bits session.heard (Some b) b e in
    record {
      climbs = climbs;
      below = climbs.above b (is_found (is_open session.view.attached.bits session.heard) b found);
      least = λ k is. least_found (is_open session.view.attached.bits session.heard) b k found is;
    }

reads_at : (session : Session) (work : Work) (ticket : ℕ) (o : Option BackendId) → Holds (reading_at session work ticket o)
reads_at session work ticket None = strands session
reads_at session work ticket (Some b) = λ up. absurd (let z : false ≡ true = up in cc)

pub chooses : (session : Session) (work : Work) (ticket : ℕ) → Holds (chosen session work ticket)
chooses session work ticket = reads_at session work ticket _

reads : (session : Session) (work : Work) (ticket : ℕ) (hs : List Heard) → Holds (read session work ticket hs)
reads session work ticket [] = chooses session work ticket
reads session work ticket (h ∷ hs) = by (counts session.view.attached.bits h)
  where
    by : (v : Bool) → Holds (if v then closed true session (Reading work ticket) h.answer else chosen session work ticket)
    by true = closes true session (Reading work ticket) h.answer
    by false = chooses session work ticket

pub looks : (session : Session) (stage : Stage) → (goes_up stage ≡ true → IsClimbing session) → Holds (looked session stage)
looks session (Reading work ticket) climbs = reads session work ticket session.heard
looks session (Opening work) climbs = asks session (Opening work) All (next_of All session.view.attached.bits session.heard) refl (climbs refl)
looks session (Running work) climbs = asks session (Running work) StopAtRefusal (next_of StopAtRefusal session.view.attached.bits session.heard) refl (climbs refl)
looks session (Locking work table) climbs = asks session (Locking work table) StopAtRefusal (next_of StopAtRefusal session.view.attached.bits session.heard) refl (climbs refl)
looks session (Inserting work posted) climbs = asks session (Inserting work posted) All (next_of All session.view.attached.bits session.heard) refl (climbs refl)
looks session Committing climbs = asks session Committing All (next_of All session.view.attached.bits session.heard) refl (climbs refl)
looks session Closing climbs = asks session Closing All (next_of All session.view.attached.bits session.heard) refl (climbs refl)
looks session (RollingBack ending) climbs = asks session (RollingBack ending) All (next_of All session.view.attached.bits session.heard) refl (climbs refl)
