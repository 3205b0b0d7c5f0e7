-- What is coming stays in front, up to the next turn.
use Rattle.std.proofs.Common.{◌≡◌, ℕ, Bool, true, false, Some, None, List, [], ◌∷◌, ◌++◌, refl, sym, ap, subst}
use Rattle.std.specs.Prelude.{Option, ◌&&◌, nat_le, map, filter, option_map, option_to_list, if◌then◌else◌}
use Rattle.std.specs.List.{list_all}
use Rattle.std.proofs.lemmas.Bool.{and_right}
use Rattle.pool_base.specs.Sets.{has}
use Rattle.pool_base.specs.declared.backend_id.BackendId.{BackendId}
use Rattle.pool_base.specs.declared.backend_set.BackendSet.{BackendSet}
use Rattle.pool_base.specs.declared.gate_call.View.{View}
use Rattle.pool_base.specs.declared.gate_call.GateCall.{GateCall}
use Rattle.pool_base.specs.declared.gate_call.GateCall.TheVariants as calls
use Rattle.pool_base.specs.declared.gate_call.GateAnswer.{GateAnswer}
use Rattle.pool_base.specs.declared.gate_call.GateAnswer.TheVariants.{Seen, Granted, Held, Spent}
use Rattle.backend_trait.specs.declared.request.Request.{Request}
use Rattle.backend_trait.specs.declared.request.Request.TheVariants as requests
use Rattle.backend_trait.specs.declared.answer.Answer.{Answer}
use Rattle.backend_trait.specs.declared.answer.Answer.TheVariants as answers
use Rattle.write_path.specs.declared.kind.ChainKind.TheVariants.{All, StopAtRefusal}
use Rattle.session_orders.specs.declared.order.OrderBody.{OrderBody}
use Rattle.session_orders.specs.declared.order.OrderBody.TheVariants as orders
use Rattle.session_orders.specs.declared.outcome.Outcome.{Outcome}
use Rattle.session_machine.specs.declared.work.Class.{Class}
use Rattle.session_machine.specs.declared.work.Class.TheVariants as classes
use Rattle.session_machine.specs.declared.work.Work.{Work}
use Rattle.session_machine.specs.declared.status.Status.{Status}
use Rattle.session_machine.specs.declared.action.Action.TheVariants as actions
use Rattle.session_machine.specs.declared.action.SessionEvent.{SessionEvent}
use Rattle.session_machine.specs.declared.action.SessionEvent.TheVariants as events
use Rattle.session_machine.specs.declared.machine.GatePhase.{GatePhase}
use Rattle.session_machine.specs.declared.machine.GatePhase.TheVariants.{Live}
use Rattle.session_machine.specs.declared.machine.Heard.{Heard}
use Rattle.session_machine.specs.declared.machine.Stage.{Stage}
use Rattle.session_machine.specs.declared.machine.Stage.TheVariants.{Opening, Reading, Running, Locking, Inserting, Committing, Closing, RollingBack}
use Rattle.session_machine.specs.declared.machine.Point.{Point}
use Rattle.session_machine.specs.declared.machine.Point.TheVariants.{Resting, EnterDue, LookDue, PostDue, Waiting, LostDue, SplitDue, ChooseDue, ShowDue, LeaveSnapshotDue, UnwindDue, EnterCommitDue, LeaveCommitDue, FinishDue, ReplyDue, EndDue}
use Rattle.session_machine.specs.declared.machine.Session.{Session}
use Rattle.session_machine.specs.declared.machine.Machine.{Machine}
use Rattle.session_machine.specs.Allowed.{MayHappen, may_order, fits_at_rest, is_resting, answers_call}
use Rattle.session_machine.specs.Answers.{all_backends, is_attached, lowest, is_open, first_open, is_stopped, next_of, is_kept, kept, is_other, first_other, goes_on, counts, reader}
use Rattle.session_machine.specs.Rules.{due, action_at, primary, request_of, kind_of, ticket_of, counted_read, split, judged, asked, reading_at, looked, looked_at, first_chosen, started_as, snapshot_left, with_view, in_phase, granted, called, stage_posted, posted, heard_more, taken, faulted, after, after_at}
use Rattle.session_ahead.specs.declared.post.Post.{Post}
use Rattle.session_ahead.specs.Coming.{post_of, is_open_but, is_past_at, is_fixed, first_read, first_as, first_of, is_began, begun_there, statement_behind, behind, from, from_next, is_held, at_look, coming_at, coming}
use Rattle.session_ahead.specs.Turns.{StartsWith, posted_by, is_leave, ShowsSame, TakesSnapshot, stage_at, IsStraight}
use Rattle.session_ahead.proofs.Lists.{found_among, all_at, all_found, fewer_found, agree_found}
use Rattle.session_ahead.proofs.Chains.{first_heard, heard_stays, starts_same, starts_none}

starts_both : (p : Post) (posts first : List Post) → StartsWith posts first → StartsWith (p ∷ posts) (p ∷ first)
starts_both p posts first (rest, e) = (rest, ap (λ (ps : List Post). p ∷ ps) e)

-- A view that shows the set of the last one leaves what is coming as it is.

abbrev Same : Session → View → Type 0
Same s v = v.attached.bits ≡ s.view.attached.bits

ticket_view : (s : Session) (v : View) (t : Bool) → ticket_of (with_view s v) t ≡ ticket_of s t
ticket_view s v true = refl
ticket_view s v false = refl

abbrev read_by : Session → Work → ℕ → ℕ → Option Post
read_by s work bits ticket = option_map (post_of (requests.Run work.statement)) (reader s.policy bits ticket)

read_view : (s : Session) (v : View) (work : Work) → Same s v → first_read (with_view s v) work ≡ first_read s work
read_view s v work e =
    rw (ap (λ (n : ℕ). read_by s work v.attached.bits n) (ticket_view s v s.policy.per_statement))
    (ap (λ (n : ℕ). read_by s work n (ticket_of s s.policy.per_statement)) e)

first_view : (s : Session) (v : View) (work : Work) (c : Class) → Same s v → first_as (with_view s v) work c ≡ first_as s work c
first_view s v work classes.Read e = read_view s v work e
first_view s v work classes.LockingRead e = ap (λ (n : ℕ). option_map (post_of (requests.Run work.statement)) (lowest n)) e
first_view s v work (classes.Write verb) e = ap (λ (n : ℕ). option_map (post_of (requests.Run work.statement)) (lowest n)) e
first_view s v work (classes.SerialInsert table) e = ap (λ (n : ℕ). option_map (post_of (requests.Lock table)) (lowest n)) e

fixed_view : (s : Session) (v : View) (stage : Stage) → Same s v → is_fixed (with_view s v) stage ≡ is_fixed s stage
fixed_view s v (Opening work) e = refl
fixed_view s v (Reading work ticket) e = refl
fixed_view s v (Running work) e = ap (λ (n : ℕ). is_past_at s.heard (lowest n)) e
fixed_view s v (Locking work table) e = ap (λ (n : ℕ). is_past_at s.heard (lowest n)) e
fixed_view s v (Inserting work sent) e = refl
fixed_view s v Committing e = refl
fixed_view s v Closing e = refl
fixed_view s v (RollingBack ending) e = refl

statement_view : (s : Session) (v : View) (stage : Stage) → Same s v → statement_behind (with_view s v) stage ≡ statement_behind s stage
statement_view s v (Opening work) e =
    ap (λ (o : Option Post). if list_all begun_there s.heard then o else None) (first_view s v work work.class e)
statement_view s v (Reading work ticket) e = refl
statement_view s v (Running work) e = refl
statement_view s v (Locking work table) e = refl
statement_view s v (Inserting work sent) e = refl
statement_view s v Committing e = refl
statement_view s v Closing e = refl
statement_view s v (RollingBack ending) e = refl

abbrev behind_by : Session → Stage → BackendId → ℕ → Bool → Option Post → List Post
behind_by s stage b bits fixed statement =
    map (post_of (request_of stage)) (if fixed then filter (is_open_but bits s.heard b) all_backends else []) ++ option_to_list statement

behind_view : (s : Session) (v : View) (stage : Stage) (b : BackendId) → Same s v → behind (with_view s v) stage b ≡ behind s stage b
behind_view s v stage b e =
    rw (ap (λ (t : Bool). behind_by s stage b v.attached.bits t (statement_behind (with_view s v) stage)) (fixed_view s v stage e))
    (rw (ap (λ (o : Option Post). behind_by s stage b v.attached.bits (is_fixed s stage) o) (statement_view s v stage e))
    (ap (λ (n : ℕ). behind_by s stage b n (is_fixed s stage) (statement_behind s stage)) e))

next_view : (s : Session) (v : View) (stage : Stage) (o : Option BackendId) → Same s v → from_next (with_view s v) stage o ≡ from_next s stage o
next_view s v stage (Some b) e = ap (λ (ps : List Post). post_of (request_of stage) b ∷ ps) (behind_view s v stage b e)
next_view s v stage None e = ap (λ (o : Option Post). option_to_list o) (statement_view s v stage e)

abbrev look_by : Stage → List Post → List Post
look_by stage posts = if is_held stage then [] else posts

look_view : (s : Session) (v : View) (stage : Stage) → Same s v → at_look (with_view s v) stage ≡ at_look s stage
look_view s v stage e =
    rw (ap (λ (ps : List Post). look_by stage ps) (next_view s v stage (next_of (kind_of stage) v.attached.bits s.heard) e))
    (ap (λ (n : ℕ). look_by stage (from_next s stage (next_of (kind_of stage) n s.heard))) e)

-- Where no backend is attached nothing is coming.

pub none_open : (attached : ℕ) (heard : List Heard) → lowest attached ≡ None → first_open attached heard ≡ None
none_open attached heard e =
    fewer_found (is_attached attached) (is_open attached heard) all_backends (λ b out. rw out refl) e

none_next : (t : Bool) (o : Option BackendId) → o ≡ None → (if t then None else o) ≡ None
none_next true o e = refl
none_next false o e = e

none_first : (s : Session) (work : Work) (c : Class) → primary s ≡ None → first_as s work c ≡ None
none_first s work classes.Read e = rw e refl
none_first s work classes.LockingRead e = rw e refl
none_first s work (classes.Write verb) e = rw e refl
none_first s work (classes.SerialInsert table) e = rw e refl

if_none : (t : Bool) (o : Option Post) → o ≡ None → (if t then o else None) ≡ None
if_none true o e = e
if_none false o e = refl

none_behind : (s : Session) (stage : Stage) → primary s ≡ None → statement_behind s stage ≡ None
none_behind s (Opening work) e = if_none (list_all begun_there s.heard) (first_of s work) (none_first s work work.class e)
none_behind s (Reading work ticket) e = refl
none_behind s (Running work) e = refl
none_behind s (Locking work table) e = refl
none_behind s (Inserting work sent) e = refl
none_behind s Committing e = refl
none_behind s Closing e = refl
none_behind s (RollingBack ending) e = refl

look_none : (stage : Stage) (posts : List Post) (t : Bool) → posts ≡ [] → (if t then [] else posts) ≡ []
look_none stage posts true e = refl
look_none stage posts false e = e

pub none_looks : (s : Session) (stage : Stage) → primary s ≡ None → at_look s stage ≡ []
none_looks s stage e =
    let next : next_of (kind_of stage) s.view.attached.bits s.heard ≡ None =
    none_next (is_stopped (kind_of stage) s.heard (lowest s.view.attached.bits)) (first_open s.view.attached.bits s.heard)
    (none_open s.view.attached.bits s.heard e) in
    look_none stage (from_next s stage (next_of (kind_of stage) s.view.attached.bits s.heard)) (is_held stage)
    (rw next (rw (none_behind s stage e) refl))

-- At the end of the snapshots, where all are taken, the statement is coming.

began_is : (a : Answer) → is_began a ≡ true → a ≡ answers.Began
began_is answers.Began is = refl
began_is (answers.Rows rows) is = absurd (cc)
began_is (answers.Count n) is = absurd (cc)
began_is answers.Locked is = absurd (cc)
began_is answers.Done is = absurd (cc)
began_is (answers.Serial n) is = absurd (cc)
began_is (answers.Refused code) is = absurd (cc)

not_other : (attached : ℕ) (answer : Answer) (h : Heard) → answer ≡ answers.Began → is_began h.answer ≡ true → is_other attached answer 0 h ≡ false
not_other attached answer h kept_is began = rw kept_is (rw (began_is h.answer began)
    (and_right (counts attached h) (nat_le 0 h.b.number && false) (and_right (nat_le 0 h.b.number) false refl)))

none_other : (attached : ℕ) (heard : List Heard) (answer : Answer) → answer ≡ answers.Began → list_all begun_there heard ≡ true
    → first_other attached answer 0 heard ≡ None
none_other attached heard answer kept_is all =
    all_found (is_other attached answer 0) heard (λ h in_it. not_other attached answer h kept_is (all_at begun_there h heard all in_it))

ended_at : (attached : ℕ) (heard : List Heard) (answer : Answer) → answer ≡ answers.Began → first_open attached heard ≡ None
    → goes_on attached heard answer ≡ false
ended_at attached heard answer kept_is e = rw kept_is (rw e refl)

opens : (s : Session) (work : Work) (best : Heard) (among : BackendSet) (more : Bool) (other : Option Heard) → best.answer ≡ answers.Began
    → more ≡ false → other ≡ None → coming (split true s (Opening work) best among more other) ≡ option_to_list (first_of s work)
opens s work best among more other kept_is m o = rw o (rw m (rw kept_is refl))

opened_leads : (s : Session) (work : Work) (h : Option Heard) → first_open s.view.attached.bits s.heard ≡ None
    → kept s.view.attached.bits s.heard ≡ h → list_all begun_there s.heard ≡ true
    → coming (judged s (Opening work) h) ≡ option_to_list (first_of s work)
opened_leads s work None e is all = rw e (rw all refl)
opened_leads s work (Some best) e is all =
    let (in_it, passes) = found_among (is_kept s.view.attached.bits s.heard) best s.heard is in
    let began : best.answer ≡ answers.Began = began_is best.answer (all_at begun_there best s.heard all in_it) in
    opens s work best s.view.attached (goes_on s.view.attached.bits s.heard best.answer) (first_other s.view.attached.bits best.answer 0 s.heard)
    began (ended_at s.view.attached.bits s.heard best.answer began e) (none_other s.view.attached.bits s.heard best.answer began all)

opening_leads : (s : Session) (work : Work) (h : Option Heard) (t : Bool) → first_open s.view.attached.bits s.heard ≡ None
    → kept s.view.attached.bits s.heard ≡ h → list_all begun_there s.heard ≡ t
    → StartsWith (coming (judged s (Opening work) h)) (option_to_list (if t then first_of s work else None))
opening_leads s work h true e is all =
    starts_same (coming (judged s (Opening work) h)) (option_to_list (first_of s work)) (opened_leads s work h e is all)
opening_leads s work h false e is all = starts_none (coming (judged s (Opening work) h)) [] refl

judged_leads : (s : Session) (stage : Stage) (h : Option Heard) → next_of (kind_of stage) s.view.attached.bits s.heard ≡ None
    → kept s.view.attached.bits s.heard ≡ h → StartsWith (coming (judged s stage h)) (option_to_list (statement_behind s stage))
judged_leads s (Opening work) h e is = opening_leads s work h (list_all begun_there s.heard) e is refl
judged_leads s (Reading work ticket) h e is = starts_none (coming (judged s (Reading work ticket) h)) [] refl
judged_leads s (Running work) h e is = starts_none (coming (judged s (Running work) h)) [] refl
judged_leads s (Locking work table) h e is = starts_none (coming (judged s (Locking work table) h)) [] refl
judged_leads s (Inserting work sent) h e is = starts_none (coming (judged s (Inserting work sent) h)) [] refl
judged_leads s Committing h e is = starts_none (coming (judged s Committing h)) [] refl
judged_leads s Closing h e is = starts_none (coming (judged s Closing h)) [] refl
judged_leads s (RollingBack ending) h e is = starts_none (coming (judged s (RollingBack ending) h)) [] refl

-- A Look.

asked_leads : (s : Session) (stage : Stage) (next : Option BackendId) → next_of (kind_of stage) s.view.attached.bits s.heard ≡ next
    → StartsWith (coming (asked s stage next)) (from_next s stage next)
unfolding asked
asked_leads s stage (Some b) e = starts_same (from s stage b) (from s stage b) refl
asked_leads s stage None e = judged_leads s stage (kept s.view.attached.bits s.heard) e refl

looked_on : (s : Session) (stage : Stage) → StartsWith (coming (looked s stage)) (at_look s stage)
looked_on s (Opening work) = asked_leads s (Opening work) (next_of All s.view.attached.bits s.heard) refl
looked_on s (Reading work ticket) = starts_none (coming (looked s (Reading work ticket))) [] refl
looked_on s (Running work) = asked_leads s (Running work) (next_of StopAtRefusal s.view.attached.bits s.heard) refl
looked_on s (Locking work table) = asked_leads s (Locking work table) (next_of StopAtRefusal s.view.attached.bits s.heard) refl
looked_on s (Inserting work true) = asked_leads s (Inserting work true) (next_of All s.view.attached.bits s.heard) refl
looked_on s (Inserting work false) = starts_none (coming (looked s (Inserting work false))) [] refl
looked_on s Committing = asked_leads s Committing (next_of All s.view.attached.bits s.heard) refl
looked_on s Closing = asked_leads s Closing (next_of All s.view.attached.bits s.heard) refl
looked_on s (RollingBack ending) = asked_leads s (RollingBack ending) (next_of All s.view.attached.bits s.heard) refl

pub looked_leads : (s : Session) (stage : Stage) (b : Option BackendId) → primary s ≡ b → StartsWith (coming (looked_at s stage b)) (at_look s stage)
looked_leads s stage None e = starts_none (coming (looked_at s stage None)) (at_look s stage) (none_looks s stage e)
looked_leads s stage (Some b) e = looked_on s stage

look_stays : (s : Session) (v : View) (stage : Stage) → Same s v
    → StartsWith (coming (looked_at (with_view s v) stage (primary (with_view s v)))) (at_look s stage)
look_stays s v stage e =
    subst (λ (ps : List Post). StartsWith (coming (looked_at (with_view s v) stage (primary (with_view s v)))) ps) (look_view s v stage e)
    (looked_leads (with_view s v) stage (primary (with_view s v)) refl)

-- The choice of the backend that reads.

reading_leads : (s : Session) (work : Work) (ticket : ℕ) (o : Option BackendId)
    → StartsWith (coming (reading_at s work ticket o)) (option_to_list (option_map (post_of (requests.Run work.statement)) o))
reading_leads s work ticket None = starts_none (coming (reading_at s work ticket None)) [] refl
reading_leads s work ticket (Some b) = starts_same (coming (reading_at s work ticket (Some b))) (post_of (requests.Run work.statement) b ∷ []) refl

chosen_leads : (s : Session) (work : Work) (b : Option BackendId) → primary s ≡ b
    → StartsWith (coming (first_chosen s work b)) (option_to_list (first_read s work))
chosen_leads s work None e =
    starts_none (coming (first_chosen s work None)) (option_to_list (first_read s work)) (rw (none_first s work classes.Read e) refl)
chosen_leads s work (Some b) e =
    reading_leads (counted_read s) work (ticket_of s s.policy.per_statement) (reader s.policy s.view.attached.bits (ticket_of s s.policy.per_statement))

choose_stays : (s : Session) (v : View) (work : Work) → Same s v
    → StartsWith (coming (first_chosen (with_view s v) work (primary (with_view s v)))) (option_to_list (first_read s work))
choose_stays s v work e =
    subst (λ (o : Option Post). StartsWith (coming (first_chosen (with_view s v) work (primary (with_view s v)))) (option_to_list o)) (read_view s v work e)
    (chosen_leads (with_view s v) work (primary (with_view s v)) refl)

-- The statement begins.

ticket_phase : (s : Session) (phase : GatePhase) (t : Bool) → ticket_of (in_phase s phase) t ≡ ticket_of s t
ticket_phase s phase true = refl
ticket_phase s phase false = refl

first_phase : (s : Session) (phase : GatePhase) (work : Work) (c : Class) → first_as (in_phase s phase) work c ≡ first_as s work c
first_phase s phase work classes.Read =
    ap (λ (n : ℕ). read_by s work s.view.attached.bits n) (ticket_phase s phase s.policy.per_statement)
first_phase s phase work classes.LockingRead = refl
first_phase s phase work (classes.Write verb) = refl
first_phase s phase work (classes.SerialInsert table) = refl

and_true : (t : Bool) → (t && true) ≡ t
and_true true = refl
and_true false = refl

open_at_first : (attached : ℕ) (b : BackendId) → is_attached attached b ≡ is_open attached [] b
open_at_first attached b = sym (and_true (has attached b.number))

unstopped : (o : Option BackendId) → is_stopped StopAtRefusal [] o ≡ false
unstopped None = refl
unstopped (Some b) = refl

next_first : (attached : ℕ) → next_of StopAtRefusal attached [] ≡ lowest attached
next_first attached =
    rw (unstopped (lowest attached)) (sym (agree_found (is_attached attached) (is_open attached []) all_backends (open_at_first attached)))

unpast : (o : Option BackendId) → is_past_at [] o ≡ false
unpast None = refl
unpast (Some b) = refl

began_running : (s : Session) (work : Work) (o : Option BackendId) → primary s ≡ o
    → from_next (record s { heard = [] }) (Running work) o ≡ option_to_list (option_map (post_of (requests.Run work.statement)) o)
began_running s work None e = refl
began_running s work (Some b) e = rw (unpast (primary s)) refl

began_locking : (s : Session) (work : Work) (table : ℕ) (o : Option BackendId) → primary s ≡ o
    → from_next (record s { heard = [] }) (Locking work table) o ≡ option_to_list (option_map (post_of (requests.Lock table)) o)
began_locking s work table None e = refl
began_locking s work table (Some b) e = rw (unpast (primary s)) refl

started_is : (s : Session) (work : Work) (c : Class) → coming (started_as s work c) ≡ option_to_list (first_as s work c)
started_is s work classes.Read = ap (λ (o : Option Post). option_to_list o) (first_heard s [] work classes.Read)
started_is s work classes.LockingRead = rw (next_first s.view.attached.bits) (began_running s work (primary s) refl)
started_is s work (classes.Write verb) = rw (next_first s.view.attached.bits) (began_running s work (primary s) refl)
started_is s work (classes.SerialInsert table) = rw (next_first s.view.attached.bits) (began_locking s work table (primary s) refl)

left_leads : (s : Session) (work : Work) (b : Option BackendId) → primary s ≡ b
    → StartsWith (coming (snapshot_left s work b)) (option_to_list (first_of s work))
left_leads s work None e =
    starts_none (coming (snapshot_left s work None)) (option_to_list (first_of s work)) (rw (none_first s work work.class e) refl)
left_leads s work (Some b) e =
    starts_same (coming (snapshot_left s work (Some b))) (option_to_list (first_of s work)) (started_is s work work.class)

left_stays : (s : Session) (v : View) (work : Work) → Same s v
    → StartsWith (coming (snapshot_left (in_phase (with_view s v) (Live false 0)) work (primary (with_view s v)))) (option_to_list (first_of s work))
left_stays s v work e =
    let now : Session = in_phase (with_view s v) (Live false 0) in
    let same : first_of now work ≡ first_of s work =
    rw (first_phase (with_view s v) (Live false 0) work work.class) (first_view s v work work.class e) in
    subst (λ (o : Option Post). StartsWith (coming (snapshot_left now work (primary now))) (option_to_list o)) same
    (left_leads now work (primary now) refl)

-- The gate's answers.

granted_stays : (s : Session) (v : View) (p : Point) (call : GateCall) → Same s v → action_at s p ≡ actions.Gate call
    → StartsWith (coming (granted (with_view s v) p)) (coming_at s p)
unfolding granted
granted_stays s v (LookDue stage) call e asks = look_stays s v stage e
granted_stays s v (ChooseDue work) call e asks = choose_stays s v work e
granted_stays s v (LeaveSnapshotDue work) call e asks = left_stays s v work e
granted_stays s v (EnterDue work) call e asks = starts_none (coming (granted (with_view s v) (EnterDue work))) [] refl
granted_stays s v ShowDue call e asks = starts_none (coming (granted (with_view s v) ShowDue)) [] refl
granted_stays s v (UnwindDue ending) call e asks = starts_none (coming (granted (with_view s v) (UnwindDue ending))) [] refl
granted_stays s v EnterCommitDue call e asks = starts_none (coming (granted (with_view s v) EnterCommitDue)) [] refl
granted_stays s v (LeaveCommitDue ending) call e asks = starts_none (coming (granted (with_view s v) (LeaveCommitDue ending))) [] refl
granted_stays s v (FinishDue ending) call e asks = starts_none (coming (granted (with_view s v) (FinishDue ending))) [] refl
granted_stays s v Resting call e asks = absurd (cc)
granted_stays s v (PostDue stage b) call e asks = absurd (cc)
granted_stays s v (Waiting stage b) call e asks = absurd (cc)
granted_stays s v (LostDue stage b before later) call e asks = absurd (cc)
granted_stays s v (SplitDue stage best own among more) call e asks = absurd (cc)
granted_stays s v (ReplyDue outcome) call e asks = absurd (cc)
granted_stays s v EndDue call e asks = absurd (cc)

not_spent : (call other : GateCall) → other ≡ call → answers_call call Spent ≡ true → answers_call other Spent ≡ false → ⊥
not_spent call other same fits none = let bad : answers_call other Spent ≡ true = rw same fits in cc

gate_of : (a b : GateCall) → actions.Gate a ≡ actions.Gate b → a ≡ b
gate_of a b e = cc

-- where the counts may be spent nothing is coming
spent_none : (s : Session) (p : Point) (call : GateCall) → action_at s p ≡ actions.Gate call → answers_call call Spent ≡ true → coming_at s p ≡ []
spent_none s (LookDue stage) call asks fits = absurd (not_spent call calls.Look (gate_of calls.Look call asks) fits refl)
spent_none s (ChooseDue work) call asks fits = absurd (not_spent call calls.Look (gate_of calls.Look call asks) fits refl)
spent_none s (LeaveSnapshotDue work) call asks fits = absurd (not_spent call calls.LeaveSnapshot (gate_of calls.LeaveSnapshot call asks) fits refl)
spent_none s (EnterDue work) call asks fits = refl
spent_none s ShowDue call asks fits = refl
spent_none s (UnwindDue ending) call asks fits = refl
spent_none s EnterCommitDue call asks fits = refl
spent_none s (LeaveCommitDue ending) call asks fits = refl
spent_none s (FinishDue ending) call asks fits = refl
spent_none s Resting call asks fits = refl
spent_none s (PostDue stage b) call asks fits = absurd (cc)
spent_none s (Waiting stage b) call asks fits = absurd (cc)
spent_none s (LostDue stage b before later) call asks fits = absurd (cc)
spent_none s (SplitDue stage best own among more) call asks fits = refl
spent_none s (ReplyDue outcome) call asks fits = refl
spent_none s EndDue call asks fits = refl

called_stays : (s : Session) (p : Point) (call : GateCall) (answer : GateAnswer) → action_at s p ≡ actions.Gate call
    → answers_call call answer ≡ true → ShowsSame s answer → StartsWith (coming (called s p answer)) (coming_at s p)
unfolding called
called_stays s p call (Seen v) asks fits e = granted_stays s v p call e asks
called_stays s p call (Granted v) asks fits e = granted_stays s v p call e asks
called_stays s p call (Held count) asks fits e = starts_same (coming_at s p) (coming_at s p) refl
called_stays s p call Spent asks fits e = starts_none (coming (called s p Spent)) (coming_at s p) (spent_none s p call asks fits)

-- Posts, answers, losses.

behind_posted : (s : Session) (stage : Stage) (b : BackendId) → StartsWith (behind s (stage_posted stage) b) (behind s stage b)
behind_posted s (Opening work) b = starts_same (behind s (Opening work) b) (behind s (Opening work) b) refl
behind_posted s (Reading work ticket) b = starts_same (behind s (Reading work ticket) b) (behind s (Reading work ticket) b) refl
behind_posted s (Running work) b = starts_same (behind s (Running work) b) (behind s (Running work) b) refl
behind_posted s (Locking work table) b = starts_same (behind s (Locking work table) b) (behind s (Locking work table) b) refl
behind_posted s (Inserting work true) b = starts_same (behind s (Inserting work true) b) (behind s (Inserting work true) b) refl
behind_posted s (Inserting work false) b = starts_none (behind s (Inserting work true) b) [] refl
behind_posted s Committing b = starts_same (behind s Committing b) (behind s Committing b) refl
behind_posted s Closing b = starts_same (behind s Closing b) (behind s Closing b) refl
behind_posted s (RollingBack ending) b = starts_same (behind s (RollingBack ending) b) (behind s (RollingBack ending) b) refl

pub same_post : (b c : BackendId) (q r : Request) → actions.Post b q ≡ actions.Post c r → post_of q b ≡ post_of r c
same_post b c q r e =
    let bs : b ≡ c = cc in let qs : q ≡ r = cc in
    rw bs (rw qs refl)

posted_stays : (s : Session) (p : Point) (b : BackendId) (request : Request) → action_at s p ≡ actions.Post b request
    → StartsWith (post_of request b ∷ coming (posted s p)) (coming_at s p)
posted_stays s (PostDue stage c) b request asks =
    subst (λ (q : Post). StartsWith (q ∷ behind s (stage_posted stage) c) (from s stage c)) (same_post c b (request_of stage) request asks)
    (starts_both (post_of (request_of stage) c) (behind s (stage_posted stage) c) (behind s stage c) (behind_posted s stage c))
posted_stays s Resting b request asks = absurd (cc)
posted_stays s (EnterDue work) b request asks = absurd (cc)
posted_stays s (LookDue stage) b request asks = absurd (cc)
posted_stays s (Waiting stage c) b request asks = absurd (cc)
posted_stays s (LostDue stage c before later) b request asks = absurd (cc)
posted_stays s (SplitDue stage best own among more) b request asks = absurd (cc)
posted_stays s (ChooseDue work) b request asks = absurd (cc)
posted_stays s ShowDue b request asks = absurd (cc)
posted_stays s (LeaveSnapshotDue work) b request asks = absurd (cc)
posted_stays s (UnwindDue ending) b request asks = absurd (cc)
posted_stays s EnterCommitDue b request asks = absurd (cc)
posted_stays s (LeaveCommitDue ending) b request asks = absurd (cc)
posted_stays s (FinishDue ending) b request asks = absurd (cc)
posted_stays s (ReplyDue outcome) b request asks = absurd (cc)
posted_stays s EndDue b request asks = absurd (cc)

waited : (b c : BackendId) → actions.WaitFor b ≡ actions.WaitFor c → b ≡ c
waited b c e = cc

taken_stays : (s : Session) (p : Point) (b : BackendId) (answer : Answer) → action_at s p ≡ actions.WaitFor b
    → ((stage : Stage) → stage_at p ≡ Some stage → TakesSnapshot stage answer) → StartsWith (coming (taken s b answer p)) (coming_at s p)
taken_stays s (Waiting stage c) b answer waits began =
    subst (λ (d : BackendId). StartsWith (at_look (heard_more s b answer) stage) (behind s stage d)) (sym (waited c b waits))
    (heard_stays s b answer stage (began stage refl))
taken_stays s Resting b answer waits began = absurd (cc)
taken_stays s (EnterDue work) b answer waits began = absurd (cc)
taken_stays s (LookDue stage) b answer waits began = absurd (cc)
taken_stays s (PostDue stage c) b answer waits began = absurd (cc)
taken_stays s (LostDue stage c before later) b answer waits began = absurd (cc)
taken_stays s (SplitDue stage best own among more) b answer waits began = absurd (cc)
taken_stays s (ChooseDue work) b answer waits began = absurd (cc)
taken_stays s ShowDue b answer waits began = absurd (cc)
taken_stays s (LeaveSnapshotDue work) b answer waits began = absurd (cc)
taken_stays s (UnwindDue ending) b answer waits began = absurd (cc)
taken_stays s EnterCommitDue b answer waits began = absurd (cc)
taken_stays s (LeaveCommitDue ending) b answer waits began = absurd (cc)
taken_stays s (FinishDue ending) b answer waits began = absurd (cc)
taken_stays s (ReplyDue outcome) b answer waits began = absurd (cc)
taken_stays s EndDue b answer waits began = absurd (cc)

pub faulted_same : (s : Session) (before later : ℕ) (p : Point) → coming (faulted s before later p) ≡ coming_at s p
faulted_same s before later Resting = refl
faulted_same s before later (EnterDue work) = refl
faulted_same s before later (LookDue stage) = refl
faulted_same s before later (PostDue stage c) = refl
faulted_same s before later (Waiting stage c) = refl
faulted_same s before later (LostDue stage c x y) = refl
faulted_same s before later (SplitDue stage best own among more) = refl
faulted_same s before later (ChooseDue work) = refl
faulted_same s before later ShowDue = refl
faulted_same s before later (LeaveSnapshotDue work) = refl
faulted_same s before later (UnwindDue ending) = refl
faulted_same s before later EnterCommitDue = refl
faulted_same s before later (LeaveCommitDue ending) = refl
faulted_same s before later (FinishDue ending) = refl
faulted_same s before later (ReplyDue outcome) = refl
faulted_same s before later EndDue = refl

-- At rest, at a reply and at an end nothing is coming.

abbrev IsQuiet : Session → Point → Type 0
IsQuiet s p = coming_at s p ≡ []

rests_quiet : (s : Session) (p : Point) → is_resting p ≡ true → IsQuiet s p
rests_quiet s Resting is = refl
rests_quiet s (EnterDue work) is = refl
rests_quiet s (LookDue stage) is = absurd (cc)
rests_quiet s (PostDue stage c) is = absurd (cc)
rests_quiet s (Waiting stage c) is = absurd (cc)
rests_quiet s (LostDue stage c before later) is = absurd (cc)
rests_quiet s (SplitDue stage best own among more) is = refl
rests_quiet s (ChooseDue work) is = absurd (cc)
rests_quiet s ShowDue is = refl
rests_quiet s (LeaveSnapshotDue work) is = absurd (cc)
rests_quiet s (UnwindDue ending) is = refl
rests_quiet s EnterCommitDue is = refl
rests_quiet s (LeaveCommitDue ending) is = refl
rests_quiet s (FinishDue ending) is = refl
rests_quiet s (ReplyDue outcome) is = refl
rests_quiet s EndDue is = refl

at_rest : (t : Bool) (s : Session) (body : OrderBody) → fits_at_rest t s.status s.gate body ≡ true → t ≡ true
at_rest true s body fits = refl
at_rest false s body fits = absurd (cc)

order_rests : (s : Session) (p : Point) (body : OrderBody) → is_leave body ≡ false → may_order s p body ≡ true → is_resting p ≡ true
order_rests s p (orders.Statement checked) stays fits = at_rest (is_resting p) s (orders.Statement checked) fits
order_rests s p orders.Begin stays fits = at_rest (is_resting p) s orders.Begin fits
order_rests s p orders.Commit stays fits = at_rest (is_resting p) s orders.Commit fits
order_rests s p orders.Rollback stays fits = at_rest (is_resting p) s orders.Rollback fits
order_rests s p orders.Settle stays fits = at_rest (is_resting p) s orders.Settle fits
order_rests s p orders.ShowNodes stays fits = at_rest (is_resting p) s orders.ShowNodes fits
order_rests s p (orders.Recover b) stays fits = absurd (cc)
order_rests s p (orders.Refuse code name) stays fits = at_rest (is_resting p) s (orders.Refuse code name) fits
order_rests s p orders.Leave stays fits = absurd (cc)

reply_quiet : (s : Session) (p : Point) (outcome : Outcome) (status : Status) → action_at s p ≡ actions.Reply outcome status → IsQuiet s p
reply_quiet s Resting outcome status asks = refl
reply_quiet s (EnterDue work) outcome status asks = refl
reply_quiet s (LookDue stage) outcome status asks = absurd (cc)
reply_quiet s (PostDue stage c) outcome status asks = absurd (cc)
reply_quiet s (Waiting stage c) outcome status asks = absurd (cc)
reply_quiet s (LostDue stage c before later) outcome status asks = absurd (cc)
reply_quiet s (SplitDue stage best own among more) outcome status asks = refl
reply_quiet s (ChooseDue work) outcome status asks = absurd (cc)
reply_quiet s ShowDue outcome status asks = refl
reply_quiet s (LeaveSnapshotDue work) outcome status asks = absurd (cc)
reply_quiet s (UnwindDue ending) outcome status asks = refl
reply_quiet s EnterCommitDue outcome status asks = refl
reply_quiet s (LeaveCommitDue ending) outcome status asks = refl
reply_quiet s (FinishDue ending) outcome status asks = refl
reply_quiet s (ReplyDue told) outcome status asks = refl
reply_quiet s EndDue outcome status asks = refl

end_quiet : (s : Session) (p : Point) → action_at s p ≡ actions.End → IsQuiet s p
end_quiet s Resting asks = refl
end_quiet s (EnterDue work) asks = refl
end_quiet s (LookDue stage) asks = absurd (cc)
end_quiet s (PostDue stage c) asks = absurd (cc)
end_quiet s (Waiting stage c) asks = absurd (cc)
end_quiet s (LostDue stage c before later) asks = absurd (cc)
end_quiet s (SplitDue stage best own among more) asks = refl
end_quiet s (ChooseDue work) asks = absurd (cc)
end_quiet s ShowDue asks = refl
end_quiet s (LeaveSnapshotDue work) asks = absurd (cc)
end_quiet s (UnwindDue ending) asks = refl
end_quiet s EnterCommitDue asks = refl
end_quiet s (LeaveCommitDue ending) asks = refl
end_quiet s (FinishDue ending) asks = refl
end_quiet s (ReplyDue told) asks = refl
end_quiet s EndDue asks = refl

-- Every event that is straight.

stays_at : (s : Session) (p : Point) (event : SessionEvent) → MayHappen (due s p) event → IsStraight (due s p) event
    → StartsWith (posted_by event ++ coming (after_at s p event)) (coming_at s p)
unfolding after_at
stays_at s p (events.Ordered order) may straight =
    starts_none (coming (after_at s p (events.Ordered order))) (coming_at s p) (rests_quiet s p (order_rests s p order.body straight may.0))
stays_at s p (events.Called call answer) may straight = called_stays s p call answer may.0 may.1 straight
stays_at s p (events.Posted b request) may straight = posted_stays s p b request may
stays_at s p (events.Taken b answer) may straight = taken_stays s p b answer may.0 straight
stays_at s p (events.Faulted b before later) may straight =
    starts_same (coming (faulted s before later p)) (coming_at s p) (faulted_same s before later p)
stays_at s p (events.Detached b cause answer) may straight = absurd straight
stays_at s p (events.Swapped b) may straight = absurd straight
stays_at s p (events.Replied outcome status) may straight =
    starts_none (coming (after_at s p (events.Replied outcome status))) (coming_at s p) (reply_quiet s p outcome status may)
stays_at s p events.Ended may straight = starts_none (coming (after_at s p events.Ended)) (coming_at s p) (end_quiet s p may)

pub stays : (m : Machine) (event : SessionEvent) → MayHappen m event → IsStraight m event
    → StartsWith (posted_by event ++ coming (after m event)) (coming m)
stays m event may straight = stays_at m.session m.point event may straight

-- What may be posted is in front.

front_at : (s : Session) (p : Point) (b : BackendId) (request : Request) → action_at s p ≡ actions.Post b request
    → StartsWith (coming_at s p) (post_of request b ∷ [])
front_at s (PostDue stage c) b request asks =
    subst (λ (q : Post). StartsWith (from s stage c) (q ∷ [])) (same_post c b (request_of stage) request asks) (behind s stage c, refl)
front_at s Resting b request asks = absurd (cc)
front_at s (EnterDue work) b request asks = absurd (cc)
front_at s (LookDue stage) b request asks = absurd (cc)
front_at s (Waiting stage c) b request asks = absurd (cc)
front_at s (LostDue stage c before later) b request asks = absurd (cc)
front_at s (SplitDue stage best own among more) b request asks = absurd (cc)
front_at s (ChooseDue work) b request asks = absurd (cc)
front_at s ShowDue b request asks = absurd (cc)
front_at s (LeaveSnapshotDue work) b request asks = absurd (cc)
front_at s (UnwindDue ending) b request asks = absurd (cc)
front_at s EnterCommitDue b request asks = absurd (cc)
front_at s (LeaveCommitDue ending) b request asks = absurd (cc)
front_at s (FinishDue ending) b request asks = absurd (cc)
front_at s (ReplyDue outcome) b request asks = absurd (cc)
front_at s EndDue b request asks = absurd (cc)

pub fronts : (m : Machine) (b : BackendId) (request : Request) → MayHappen m (events.Posted b request)
    → StartsWith (coming m) (post_of request b ∷ [])
fronts m b request may = front_at m.session m.point b request may
