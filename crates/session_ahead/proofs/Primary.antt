-- A write and a lock are coming at the primary first, and a commit only where one is under way.
use Rattle.std.proofs.Common.{◌≡◌, ◌⊎◌, ℕ, Bool, true, false, Some, None, List, [], refl, sym, ap, subst, inl, inr}
use Rattle.std.specs.Prelude.{Option, map, option_map, option_to_list, if◌then◌else◌}
use Rattle.std.specs.List.{list_all}
use Rattle.pool_base.specs.declared.backend_id.BackendId.{BackendId}
use Rattle.catalogue.specs.declared.checked.Checked.{Checked}
use Rattle.backend_trait.specs.declared.request.Request.{Request}
use Rattle.backend_trait.specs.declared.request.Request.TheVariants as requests
use Rattle.write_path.specs.declared.kind.ChainKind.TheVariants.{StopAtRefusal}
use Rattle.session_machine.specs.declared.work.Class.{Class}
use Rattle.session_machine.specs.declared.work.Class.TheVariants as classes
use Rattle.session_machine.specs.declared.work.Work.{Work}
use Rattle.session_machine.specs.declared.action.Action.TheVariants as actions
use Rattle.session_machine.specs.declared.machine.Stage.{Stage}
use Rattle.session_machine.specs.declared.machine.Stage.TheVariants.{Opening, Reading, Running, Locking, Inserting, Committing, Closing, RollingBack}
use Rattle.session_machine.specs.declared.machine.Point.{Point}
use Rattle.session_machine.specs.declared.machine.Point.TheVariants.{Resting, EnterDue, LookDue, PostDue, Waiting, LostDue, SplitDue, ChooseDue, ShowDue, LeaveSnapshotDue, UnwindDue, EnterCommitDue, LeaveCommitDue, FinishDue, ReplyDue, EndDue}
use Rattle.session_machine.specs.declared.machine.Session.{Session}
use Rattle.session_machine.specs.declared.machine.Machine.{Machine}
use Rattle.session_machine.specs.Answers.{all_backends, has_answered, has_refused, is_attached, is_open, first_open, is_stopped, next_of, reader}
use Rattle.session_machine.specs.Rules.{due, primary, request_of, kind_of, ticket_of}
use Rattle.session_machine.proofs.Backends.{found_passes}
use Rattle.session_ahead.specs.declared.post.Post.{Post}
use Rattle.session_ahead.specs.Coming.{post_of, open_but, is_past_at, is_fixed, fixed, first_read, first_as, first_of, begun_there, statement_behind, behind, from_next, is_held, coming_at, coming}
use Rattle.session_ahead.specs.Turns.{IsAmong, stage_at, Commits, Closes, is_read, reads_in, reads_at, InsertsSerial, IsDue, Waits}
use Rattle.session_ahead.proofs.Lists.{among_cases, among_none, among_either, map_among, option_among, first_too}
use Rattle.session_ahead.proofs.Staying.{none_open}

-- The ways in which a post comes: by its stage, as the statement behind the snapshots, and as a read.

abbrev Reason : Session → Point → Stage → Post → Type 0
Reason s p stage post =
    IsDue (due s p) post
    ⊎ ((is_fixed s stage ≡ true) ⊎ ((is_held stage ≡ false) × (next_of (kind_of stage) s.view.attached.bits s.heard ≡ Some post.b)))

abbrev OfStage : Session → Point → Post → Type 0
OfStage s p post = (stage : Stage) × ((stage_at p ≡ Some stage) × ((post.request ≡ request_of stage) × Reason s p stage post))

abbrev OfWork : Session → Point → Post → Type 0
OfWork s p post = (work : Work) × ((first_of s work ≡ Some post) × (reads_at p ≡ is_read work.class))

abbrev OfRead : Session → Point → Post → Type 0
OfRead s p post = (work : Work) × ((first_read s work ≡ Some post) × (reads_at p ≡ true))

abbrev Way : Session → Point → Post → Type 0
Way s p post = OfStage s p post ⊎ (OfWork s p post ⊎ OfRead s p post)

request_from : (r : Request) (b : BackendId) (post : Post) → post_of r b ≡ post → post.request ≡ r
request_from r b post is = ap (λ (q : Post). q.request) (sym is)

backend_from : (r : Request) (b : BackendId) (post : Post) → post_of r b ≡ post → Some b ≡ Some post.b
backend_from r b post is = ap (λ (q : Post). Some q.b) is

statement_at : (s : Session) (work : Work) (post : Post) (t : Bool) → (if t then first_of s work else None) ≡ Some post → first_of s work ≡ Some post
statement_at s work post true e = e
statement_at s work post false e = absurd (cc)

statement_way : (s : Session) (p : Point) (stage : Stage) (post : Post) → reads_at p ≡ reads_in stage → statement_behind s stage ≡ Some post → Way s p post
statement_way s p (Opening work) post reads e = inr (inl (work, (statement_at s work post (list_all begun_there s.heard) e, reads)))
statement_way s p (Reading work ticket) post reads e = absurd (cc)
statement_way s p (Running work) post reads e = absurd (cc)
statement_way s p (Locking work table) post reads e = absurd (cc)
statement_way s p (Inserting work sent) post reads e = absurd (cc)
statement_way s p Committing post reads e = absurd (cc)
statement_way s p Closing post reads e = absurd (cc)
statement_way s p (RollingBack ending) post reads e = absurd (cc)

fixed_way : (s : Session) (p : Point) (stage : Stage) (bs : List BackendId) (post : Post) (t : Bool) → is_fixed s stage ≡ t → stage_at p ≡ Some stage
    → IsAmong post (map (post_of (request_of stage)) (if t then bs else [])) → Way s p post
fixed_way s p stage bs post true goes at in_it =
    let (c, there, is) = map_among (post_of (request_of stage)) post bs in_it in
    inl (stage, (at, (request_from (request_of stage) c post is, inr (inl goes))))
fixed_way s p stage bs post false goes at in_it = absurd (among_none post in_it)

behind_cases : (s : Session) (p : Point) (stage : Stage) (b : BackendId) (post : Post) → stage_at p ≡ Some stage → reads_at p ≡ reads_in stage
    → (IsAmong post (map (post_of (request_of stage)) (fixed s stage b)) ⊎ IsAmong post (option_to_list (statement_behind s stage))) → Way s p post
behind_cases s p stage b post at reads (inl there) = fixed_way s p stage (open_but s b) post (is_fixed s stage) refl at there
behind_cases s p stage b post at reads (inr there) =
    statement_way s p stage post reads (option_among post (statement_behind s stage) there)

behind_way : (s : Session) (p : Point) (stage : Stage) (b : BackendId) (post : Post) → stage_at p ≡ Some stage → reads_at p ≡ reads_in stage
    → IsAmong post (behind s stage b) → Way s p post
behind_way s p stage b post at reads in_it =
    behind_cases s p stage b post at reads
    (among_either post (map (post_of (request_of stage)) (fixed s stage b)) (option_to_list (statement_behind s stage)) in_it)

-- the post that is due
due_way : (s : Session) (stage : Stage) (b : BackendId) (post : Post) → (post_of (request_of stage) b ≡ post) ⊎ IsAmong post (behind s stage b)
    → Way s (PostDue stage b) post
due_way s stage b post (inl is) =
    let posted : actions.Post b (request_of stage) ≡ actions.Post post.b post.request = ap (λ (q : Post). actions.Post q.b q.request) is in
    inl (stage, (refl, (request_from (request_of stage) b post is, inl posted)))
due_way s stage b post (inr there) = behind_way s (PostDue stage b) stage b post refl refl there

-- the one that a Look leads to
first_way : (s : Session) (stage : Stage) (b : BackendId) (post : Post) → is_held stage ≡ false
    → next_of (kind_of stage) s.view.attached.bits s.heard ≡ Some b
    → (post_of (request_of stage) b ≡ post) ⊎ IsAmong post (behind s stage b) → Way s (LookDue stage) post
first_way s stage b post free next (inl is) =
    let there : next_of (kind_of stage) s.view.attached.bits s.heard ≡ Some post.b = rw next (backend_from (request_of stage) b post is) in
    inl (stage, (refl, (request_from (request_of stage) b post is, inr (inr (free, there)))))
first_way s stage b post free next (inr there) = behind_way s (LookDue stage) stage b post refl refl there

next_way : (s : Session) (stage : Stage) (o : Option BackendId) (post : Post) → is_held stage ≡ false
    → next_of (kind_of stage) s.view.attached.bits s.heard ≡ o → IsAmong post (from_next s stage o) → Way s (LookDue stage) post
next_way s stage (Some b) post free next in_it =
    first_way s stage b post free next (among_cases post (post_of (request_of stage) b) (behind s stage b) in_it)
next_way s stage None post free next in_it =
    statement_way s (LookDue stage) stage post refl (option_among post (statement_behind s stage) in_it)

look_way : (s : Session) (stage : Stage) (post : Post) (t : Bool) → is_held stage ≡ t
    → IsAmong post (if t then [] else from_next s stage (next_of (kind_of stage) s.view.attached.bits s.heard)) → Way s (LookDue stage) post
look_way s stage post true held in_it = absurd (among_none post in_it)
look_way s stage post false held in_it = next_way s stage (next_of (kind_of stage) s.view.attached.bits s.heard) post held refl in_it

way_at : (s : Session) (p : Point) (post : Post) → IsAmong post (coming_at s p) → Way s p post
way_at s (LookDue stage) post in_it = look_way s stage post (is_held stage) refl in_it
way_at s (PostDue stage b) post in_it = due_way s stage b post (among_cases post (post_of (request_of stage) b) (behind s stage b) in_it)
way_at s (Waiting stage b) post in_it = behind_way s (Waiting stage b) stage b post refl refl in_it
way_at s (LostDue stage b before later) post in_it = behind_way s (LostDue stage b before later) stage b post refl refl in_it
way_at s (ChooseDue work) post in_it = inr (inr (work, (option_among post (first_read s work) in_it, refl)))
way_at s (LeaveSnapshotDue work) post in_it = inr (inl (work, (option_among post (first_of s work) in_it, refl)))
way_at s Resting post in_it = absurd (among_none post in_it)
way_at s (EnterDue work) post in_it = absurd (among_none post in_it)
way_at s (SplitDue stage best own among more) post in_it = absurd (among_none post in_it)
way_at s ShowDue post in_it = absurd (among_none post in_it)
way_at s (UnwindDue ending) post in_it = absurd (among_none post in_it)
way_at s EnterCommitDue post in_it = absurd (among_none post in_it)
way_at s (LeaveCommitDue ending) post in_it = absurd (among_none post in_it)
way_at s (FinishDue ending) post in_it = absurd (among_none post in_it)
way_at s (ReplyDue outcome) post in_it = absurd (among_none post in_it)
way_at s EndDue post in_it = absurd (among_none post in_it)

-- What a chain that stops at a refusal asks next is the primary, or the primary has answered and has not refused.

open_next : (s : Session) (l b : BackendId) (t : Bool) → has_answered s.heard l ≡ t → primary s ≡ Some l → has_refused s.heard l ≡ false
    → first_open s.view.attached.bits s.heard ≡ Some b → Waits s b
open_next s l b true there is agreed e =
    let past : is_past_at s.heard (Some l) ≡ true = rw there (rw agreed refl) in inr (rw is past)
open_next s l b false there is agreed e =
    let attached : is_attached s.view.attached.bits l ≡ true = found_passes (is_attached s.view.attached.bits) all_backends l is in
    let first : first_open s.view.attached.bits s.heard ≡ Some l =
    first_too (is_attached s.view.attached.bits) (is_open s.view.attached.bits s.heard) l all_backends (rw attached (rw there refl))
    (λ c out. rw out refl) is in
    let same : Some l ≡ Some b = cc in
    inl (rw is same)

stop_next : (s : Session) (l b : BackendId) (t : Bool) → has_refused s.heard l ≡ t → primary s ≡ Some l
    → (if t then None else first_open s.view.attached.bits s.heard) ≡ Some b → Waits s b
stop_next s l b true refuses is e = absurd (cc)
stop_next s l b false refuses is e = open_next s l b (has_answered s.heard l) refl is refuses e

next_at : (s : Session) (o : Option BackendId) (b : BackendId) → primary s ≡ o
    → (if is_stopped StopAtRefusal s.heard o then None else first_open s.view.attached.bits s.heard) ≡ Some b → Waits s b
next_at s None b is e = absurd (let none : first_open s.view.attached.bits s.heard ≡ None = none_open s.view.attached.bits s.heard is in cc)
next_at s (Some l) b is e = stop_next s l b (has_refused s.heard l) refl is e

next_waits : (s : Session) (b : BackendId) → next_of StopAtRefusal s.view.attached.bits s.heard ≡ Some b → Waits s b
next_waits s b e = next_at s (primary s) b refl e

-- The statement behind the snapshots goes to the primary, if it is no read.

mapped : (r : Request) (o : Option BackendId) (post : Post) → option_map (post_of r) o ≡ Some post → (o ≡ Some post.b) × (post.request ≡ r)
mapped r None post e = absurd (cc)
mapped r (Some b) post e =
    let is : post_of r b ≡ post = cc in (backend_from r b post is, request_from r b post is)

first_primary : (s : Session) (work : Work) (c : Class) (post : Post) → first_as s work c ≡ Some post → is_read c ≡ false → primary s ≡ Some post.b
first_primary s work classes.Read post e other = absurd (cc)
first_primary s work classes.LockingRead post e other = (mapped (requests.Run work.statement) (primary s) post e).0
first_primary s work (classes.Write verb) post e other = (mapped (requests.Run work.statement) (primary s) post e).0
first_primary s work (classes.SerialInsert table) post e other = (mapped (requests.Lock table) (primary s) post e).0

first_lock : (s : Session) (work : Work) (c : Class) (post : Post) (table : ℕ) → first_as s work c ≡ Some post → post.request ≡ requests.Lock table
    → primary s ≡ Some post.b
first_lock s work classes.Read post table e lock =
    absurd (let run = (mapped (requests.Run work.statement) (reader s.policy s.view.attached.bits (ticket_of s s.policy.per_statement)) post e).1 in cc)
first_lock s work classes.LockingRead post table e lock = (mapped (requests.Run work.statement) (primary s) post e).0
first_lock s work (classes.Write verb) post table e lock = (mapped (requests.Run work.statement) (primary s) post e).0
first_lock s work (classes.SerialInsert own) post table e lock = (mapped (requests.Lock own) (primary s) post e).0

-- Writes.

abbrev WriteWaits : Session → Point → Post → Type 0
WriteWaits s p post = IsDue (due s p) post ⊎ (InsertsSerial p ⊎ Waits s post.b)

some_stage : (a b : Stage) → Some a ≡ Some b → a ≡ b
some_stage a b e = cc

reads_of : (p : Point) (stage : Stage) → stage_at p ≡ Some stage → reads_at p ≡ reads_in stage
reads_of (LookDue other) stage at = ap (λ (x : Stage). reads_in x) (some_stage other stage at)
reads_of (PostDue other b) stage at = ap (λ (x : Stage). reads_in x) (some_stage other stage at)
reads_of (Waiting other b) stage at = ap (λ (x : Stage). reads_in x) (some_stage other stage at)
reads_of (LostDue other b before later) stage at = ap (λ (x : Stage). reads_in x) (some_stage other stage at)
reads_of (SplitDue other best own among more) stage at = ap (λ (x : Stage). reads_in x) (some_stage other stage at)
reads_of (ChooseDue work) stage at = absurd (cc)
reads_of (LeaveSnapshotDue work) stage at = absurd (cc)
reads_of Resting stage at = absurd (cc)
reads_of (EnterDue work) stage at = absurd (cc)
reads_of ShowDue stage at = absurd (cc)
reads_of (UnwindDue ending) stage at = absurd (cc)
reads_of EnterCommitDue stage at = absurd (cc)
reads_of (LeaveCommitDue ending) stage at = absurd (cc)
reads_of (FinishDue ending) stage at = absurd (cc)
reads_of (ReplyDue outcome) stage at = absurd (cc)
reads_of EndDue stage at = absurd (cc)

-- a stage that runs a statement, and is no read
write_stage : (s : Session) (p : Point) (stage : Stage) (post : Post) (checked : Checked) → stage_at p ≡ Some stage → post.request ≡ request_of stage
    → post.request ≡ requests.Run checked → reads_in stage ≡ false → Reason s p stage post → WriteWaits s p post
write_stage s p stage post checked at is run other (inl now) = inl now
write_stage s p (Running work) post checked at is run other (inr (inl goes)) = inr (inr (inr goes))
write_stage s p (Running work) post checked at is run other (inr (inr (free, next))) = inr (inr (next_waits s post.b next))
write_stage s p (Inserting work true) post checked at is run other (inr why) = inr (inl (Inserting work true, at, refl))
write_stage s p (Inserting work false) post checked at is run other (inr (inl goes)) = absurd (cc)
write_stage s p (Inserting work false) post checked at is run other (inr (inr (free, next))) = absurd (cc)
write_stage s p (Reading work ticket) post checked at is run other (inr why) = absurd (cc)
write_stage s p (Opening work) post checked at is run other (inr why) = absurd (cc)
write_stage s p (Locking work table) post checked at is run other (inr why) = absurd (cc)
write_stage s p Committing post checked at is run other (inr why) = absurd (cc)
write_stage s p Closing post checked at is run other (inr why) = absurd (cc)
write_stage s p (RollingBack ending) post checked at is run other (inr why) = absurd (cc)

write_way : (s : Session) (p : Point) (post : Post) (checked : Checked) → post.request ≡ requests.Run checked → reads_at p ≡ false
    → Way s p post → WriteWaits s p post
write_way s p post checked run other (inl (stage, (at, (is, why)))) =
    let stage_other : reads_in stage ≡ false = subst (λ (t : Bool). t ≡ false) (reads_of p stage at) other in
    write_stage s p stage post checked at is run stage_other why
write_way s p post checked run other (inr (inl (work, (first, reads)))) =
    let no_read : is_read work.class ≡ false = subst (λ (t : Bool). t ≡ false) reads other in
    inr (inr (inl (first_primary s work work.class post first no_read)))
write_way s p post checked run other (inr (inr (work, (first, reads)))) = absurd (cc)

pub writes : (m : Machine) (post : Post) (checked : Checked) → IsAmong post (coming m) → post.request ≡ requests.Run checked → reads_at m.point ≡ false
    → (IsDue m post ⊎ (InsertsSerial m.point ⊎ Waits m.session post.b))
writes m post checked in_it run other = write_way m.session m.point post checked run other (way_at m.session m.point post in_it)

-- Locks.

lock_stage : (s : Session) (p : Point) (stage : Stage) (post : Post) (table : ℕ) → post.request ≡ request_of stage
    → post.request ≡ requests.Lock table → Reason s p stage post → IsDue (due s p) post ⊎ Waits s post.b
lock_stage s p stage post table is lock (inl now) = inl now
lock_stage s p (Locking work own) post table is lock (inr (inl goes)) = inr (inr goes)
lock_stage s p (Locking work own) post table is lock (inr (inr (free, next))) = inr (next_waits s post.b next)
lock_stage s p (Opening work) post table is lock (inr why) = absurd (cc)
lock_stage s p (Reading work ticket) post table is lock (inr why) = absurd (cc)
lock_stage s p (Running work) post table is lock (inr why) = absurd (cc)
lock_stage s p (Inserting work sent) post table is lock (inr why) = absurd (cc)
lock_stage s p Committing post table is lock (inr why) = absurd (cc)
lock_stage s p Closing post table is lock (inr why) = absurd (cc)
lock_stage s p (RollingBack ending) post table is lock (inr why) = absurd (cc)

lock_way : (s : Session) (p : Point) (post : Post) (table : ℕ) → post.request ≡ requests.Lock table → Way s p post
    → IsDue (due s p) post ⊎ Waits s post.b
lock_way s p post table lock (inl (stage, (at, (is, why)))) = lock_stage s p stage post table is lock why
lock_way s p post table lock (inr (inl (work, (first, reads)))) = inr (inl (first_lock s work work.class post table first lock))
lock_way s p post table lock (inr (inr (work, (first, reads)))) =
    absurd (let run = (mapped (requests.Run work.statement) (reader s.policy s.view.attached.bits (ticket_of s s.policy.per_statement)) post first).1 in cc)

pub locks : (m : Machine) (post : Post) (table : ℕ) → IsAmong post (coming m) → post.request ≡ requests.Lock table
    → (IsDue m post ⊎ Waits m.session post.b)
locks m post table in_it lock = lock_way m.session m.point post table lock (way_at m.session m.point post in_it)

-- Commits.

commit_stage : (stage : Stage) (r : Request) → r ≡ request_of stage → r ≡ requests.Commit → (stage ≡ Committing) ⊎ (stage ≡ Closing)
commit_stage (Opening work) r is commit = absurd (cc)
commit_stage (Reading work ticket) r is commit = absurd (cc)
commit_stage (Running work) r is commit = absurd (cc)
commit_stage (Locking work table) r is commit = absurd (cc)
commit_stage (Inserting work sent) r is commit = absurd (cc)
commit_stage Committing r is commit = inl refl
commit_stage Closing r is commit = inr refl
commit_stage (RollingBack ending) r is commit = absurd (cc)

commit_at : (p : Point) (stage : Stage) → stage_at p ≡ Some stage → (stage ≡ Committing) ⊎ (stage ≡ Closing) → (Commits p ⊎ Closes p)
commit_at p stage at (inl is) = inl (rw at (ap (λ (x : Stage). Some x) is))
commit_at p stage at (inr is) = inr (rw at (ap (λ (x : Stage). Some x) is))

no_commit : (s : Session) (work : Work) (c : Class) (post : Post) → first_as s work c ≡ Some post → post.request ≡ requests.Commit → ⊥
no_commit s work classes.Read post e commit =
    let run = (mapped (requests.Run work.statement) (reader s.policy s.view.attached.bits (ticket_of s s.policy.per_statement)) post e).1 in cc
no_commit s work classes.LockingRead post e commit = let run = (mapped (requests.Run work.statement) (primary s) post e).1 in cc
no_commit s work (classes.Write verb) post e commit = let run = (mapped (requests.Run work.statement) (primary s) post e).1 in cc
no_commit s work (classes.SerialInsert own) post e commit = let lock = (mapped (requests.Lock own) (primary s) post e).1 in cc

commit_way : (s : Session) (p : Point) (post : Post) → post.request ≡ requests.Commit → Way s p post → (Commits p ⊎ Closes p)
commit_way s p post commit (inl (stage, (at, (is, why)))) = commit_at p stage at (commit_stage stage post.request is commit)
commit_way s p post commit (inr (inl (work, (first, reads)))) = absurd (no_commit s work work.class post first commit)
commit_way s p post commit (inr (inr (work, (first, reads)))) = absurd (no_commit s work classes.Read post first commit)

pub commits : (m : Machine) (post : Post) → IsAmong post (coming m) → post.request ≡ requests.Commit → (Commits m.point ⊎ Closes m.point)
commits m post in_it commit = commit_way m.session m.point post commit (way_at m.session m.point post in_it)
