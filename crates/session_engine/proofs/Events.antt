-- Each event leads from a sound state to a sound one.
use Rattle.std.proofs.Common.{◌≡◌, ℕ, Bool, true, false, List, refl, subst, inl, inr}
use Rattle.pool_base.specs.declared.backend_id.BackendId.{BackendId}
use Rattle.backend_trait.specs.Acts.{IsOf}
use Rattle.catalogue.specs.declared.checked.CheckedBody.{CheckedBody}
use Rattle.catalogue.specs.declared.checked.CheckedBody.TheVariants as body
use Rattle.catalogue.specs.declared.checked.ColumnDesc.{ColumnDesc}
use Rattle.backend_trait.specs.Runnable.{is_given}
use Rattle.backend_trait.specs.declared.request.Request.{Request}
use Rattle.backend_trait.specs.declared.request.Request.TheVariants as requests
use Rattle.backend_trait.specs.declared.answer.Answer.{Answer}
use Rattle.backend_trait.specs.declared.answer.Answer.TheVariants as answers
use Rattle.session_machine.specs.declared.action.Action.TheVariants as actions
use Rattle.session_machine.specs.declared.machine.Heard.{Heard}
use Rattle.session_machine.specs.declared.machine.Stage.{Stage}
use Rattle.session_machine.specs.declared.machine.Stage.TheVariants.{Opening, Reading, Running, Locking, Inserting, Committing, Closing, RollingBack}
use Rattle.session_machine.specs.declared.machine.Point.{Point}
use Rattle.session_machine.specs.declared.machine.Point.TheVariants.{Resting, EnterDue, LookDue, PostDue, Waiting, LostDue, SplitDue, ChooseDue, ShowDue, LeaveSnapshotDue, UnwindDue, EnterCommitDue, LeaveCommitDue, FinishDue, ReplyDue, EndDue}
use Rattle.session_machine.specs.declared.machine.Session.{Session}
use Rattle.session_machine.specs.declared.machine.Machine.{Machine}
use Rattle.session_machine.specs.Allowed.{HasForm}
use Rattle.session_machine.specs.Answers.{has_answered}
use Rattle.session_machine.specs.Rules.{due, action_at, request_of, stage_posted, posted, taken, faulted}
use Rattle.session_engine.specs.Handing.{handed_at, handed}
use Rattle.session_engine.specs.Sound.{is_plain, are_plain, is_read, is_select, ArePlain, IsSound, wants_memory, WantsCopies}
use Rattle.session_engine.proofs.Ones.{one_more, plain_more}

-- only a SELECT is answered by rows
given_plain : (b : CheckedBody) (columns : List ColumnDesc) (answer : Answer) → is_read b ≡ false → is_given b columns answer ≡ true → is_plain answer ≡ true
given_plain (body.Read read) columns answer none form = absurd (cc)
given_plain b columns answers.Began none form = refl
given_plain (body.Insert insert) columns (answers.Rows rows) none form = absurd (cc)
given_plain (body.Change change) columns (answers.Rows rows) none form = absurd (cc)
given_plain (body.Remove remove) columns (answers.Rows rows) none form = absurd (cc)
given_plain b columns (answers.Count n) none form = refl
given_plain b columns answers.Locked none form = refl
given_plain b columns answers.Done none form = refl
given_plain b columns (answers.Serial n) none form = refl
given_plain b columns (answers.Refused code) none form = refl

plain_of : (r : Request) (answer : Answer) → is_select r ≡ false → IsOf r answer → is_plain answer ≡ true
plain_of requests.TakeSnapshot answer none (inl e) = rw e refl
plain_of requests.TakeSnapshot answer none (inr p) = rw p.1 refl
plain_of (requests.Run checked) answer none form = given_plain checked.body checked.columns answer none form
plain_of (requests.Lock table) answer none (inl e) = rw e refl
plain_of (requests.Lock table) answer none (inr p) = rw p.1 refl
plain_of requests.Commit answer none e = rw e refl
plain_of requests.Rollback answer none e = rw e refl
plain_of (requests.ReadSerial table) answer none form = rw form.2 refl
plain_of (requests.SetSerial table n) answer none e = rw e refl

pub taken_sound : (s : Session) (b : BackendId) (answer : Answer) (p : Point) → IsSound (due s p) → action_at s p ≡ actions.WaitFor b → HasForm p answer
    → IsSound (taken s b answer p)
taken_sound s b answer (Waiting stage asked) sound waits form =
    let same : asked ≡ b = cc in
    let h : Heard = record { b = b; answer = answer } in (
      one_more s.heard h sound.0 (subst (λ (c : BackendId). has_answered s.heard c ≡ false) same sound.1.0),
      (tt, λ none. plain_more s.heard h (sound.1.1 none) (plain_of (request_of stage) answer none form)),
    )
taken_sound s b answer Resting sound waits form = absurd form
taken_sound s b answer (EnterDue work) sound waits form = absurd form
taken_sound s b answer (LookDue stage) sound waits form = absurd form
taken_sound s b answer (PostDue stage c) sound waits form = absurd form
taken_sound s b answer (LostDue stage c before after) sound waits form = absurd form
taken_sound s b answer (SplitDue stage best own among more) sound waits form = absurd form
taken_sound s b answer (ChooseDue work) sound waits form = absurd form
taken_sound s b answer ShowDue sound waits form = absurd form
taken_sound s b answer (LeaveSnapshotDue work) sound waits form = absurd form
taken_sound s b answer (UnwindDue ending) sound waits form = absurd form
taken_sound s b answer EnterCommitDue sound waits form = absurd form
taken_sound s b answer (LeaveCommitDue ending) sound waits form = absurd form
taken_sound s b answer (FinishDue ending) sound waits form = absurd form
taken_sound s b answer (ReplyDue outcome) sound waits form = absurd form
taken_sound s b answer EndDue sound waits form = absurd form

posted_plain : (stage : Stage) (heard : List Heard) → ArePlain stage heard → ArePlain (stage_posted stage) heard
posted_plain (Opening work) heard plain = plain
posted_plain (Reading work ticket) heard plain = plain
posted_plain (Running work) heard plain = plain
posted_plain (Locking work table) heard plain = plain
posted_plain (Inserting work sent) heard plain = plain
posted_plain Committing heard plain = plain
posted_plain Closing heard plain = plain
posted_plain (RollingBack ending) heard plain = plain

pub posted_sound : (s : Session) (p : Point) → IsSound (due s p) → IsSound (posted s p)
posted_sound s (PostDue stage b) sound = (sound.0, (sound.1.0, posted_plain stage s.heard sound.1.1))
posted_sound s Resting sound = sound
posted_sound s (EnterDue work) sound = sound
posted_sound s (LookDue stage) sound = sound
posted_sound s (Waiting stage b) sound = sound
posted_sound s (LostDue stage b before after) sound = sound
posted_sound s (SplitDue stage best own among more) sound = sound
posted_sound s (ChooseDue work) sound = sound
posted_sound s ShowDue sound = sound
posted_sound s (LeaveSnapshotDue work) sound = sound
posted_sound s (UnwindDue ending) sound = sound
posted_sound s EnterCommitDue sound = sound
posted_sound s (LeaveCommitDue ending) sound = sound
posted_sound s (FinishDue ending) sound = sound
posted_sound s (ReplyDue outcome) sound = sound
posted_sound s EndDue sound = sound

pub faulted_sound : (s : Session) (before after : ℕ) (p : Point) → IsSound (due s p) → IsSound (faulted s before after p)
faulted_sound s before after (Waiting stage b) sound = (sound.0, (tt, sound.1.1))
faulted_sound s before after Resting sound = sound
faulted_sound s before after (EnterDue work) sound = sound
faulted_sound s before after (LookDue stage) sound = sound
faulted_sound s before after (PostDue stage b) sound = sound
faulted_sound s before after (LostDue stage b x y) sound = sound
faulted_sound s before after (SplitDue stage best own among more) sound = sound
faulted_sound s before after (ChooseDue work) sound = sound
faulted_sound s before after ShowDue sound = sound
faulted_sound s before after (LeaveSnapshotDue work) sound = sound
faulted_sound s before after (UnwindDue ending) sound = sound
faulted_sound s before after EnterCommitDue sound = sound
faulted_sound s before after (LeaveCommitDue ending) sound = sound
faulted_sound s before after (FinishDue ending) sound = sound
faulted_sound s before after (ReplyDue outcome) sound = sound
faulted_sound s before after EndDue sound = sound

pub handed_sound : (s : Session) (p : Point) → IsSound (due s p) → IsSound (handed_at s p)
handed_sound s (ReplyDue outcome) sound = (tt, (tt, tt))
handed_sound s EndDue sound = (tt, (tt, tt))
handed_sound s Resting sound = sound
handed_sound s (EnterDue work) sound = sound
handed_sound s (LookDue stage) sound = sound
handed_sound s (PostDue stage b) sound = sound
handed_sound s (Waiting stage b) sound = sound
handed_sound s (LostDue stage b before after) sound = sound
handed_sound s (SplitDue stage best own among more) sound = sound
handed_sound s (ChooseDue work) sound = sound
handed_sound s ShowDue sound = sound
handed_sound s (LeaveSnapshotDue work) sound = sound
handed_sound s (UnwindDue ending) sound = sound
handed_sound s EnterCommitDue sound = sound
handed_sound s (LeaveCommitDue ending) sound = sound
handed_sound s (FinishDue ending) sound = sound

-- what differs where rows stand among the answers is a SELECT's
of_select : (t u : Bool) → (t ≡ false → u ≡ true) → u ≡ false → t ≡ true
of_select true u plain rows = refl
of_select false u plain rows = absurd (let both : u ≡ true = plain refl in cc)

-- the copies that are wanted are of a statement that is posted, or of a SELECT's rows
pub copies_wanted : (s : Session) (p : Point) → IsSound (due s p) → WantsCopies s.heard p → wants_memory p ≡ true
copies_wanted s (PostDue stage b) sound wants = wants
copies_wanted s (SplitDue stage best own among more) sound wants = of_select (is_select (request_of stage)) (are_plain s.heard) sound.1.1 wants
copies_wanted s Resting sound wants = absurd wants
copies_wanted s (EnterDue work) sound wants = absurd wants
copies_wanted s (LookDue stage) sound wants = absurd wants
copies_wanted s (Waiting stage b) sound wants = absurd wants
copies_wanted s (LostDue stage b before after) sound wants = absurd wants
copies_wanted s (ChooseDue work) sound wants = absurd wants
copies_wanted s ShowDue sound wants = absurd wants
copies_wanted s (LeaveSnapshotDue work) sound wants = absurd wants
copies_wanted s (UnwindDue ending) sound wants = absurd wants
copies_wanted s EnterCommitDue sound wants = absurd wants
copies_wanted s (LeaveCommitDue ending) sound wants = absurd wants
copies_wanted s (FinishDue ending) sound wants = absurd wants
copies_wanted s (ReplyDue outcome) sound wants = absurd wants
copies_wanted s EndDue sound wants = absurd wants

-- What an event leads to, handed out or not.

pub handed_too : (m : Machine) → IsSound m → IsSound (handed m)
handed_too m sound = handed_sound m.session m.point sound
