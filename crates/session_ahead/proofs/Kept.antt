-- A commit that the gate has let in, and a rollback, stay coming at each backend that is attached.
use Rattle.std.proofs.Common.{◌≡◌, ◌⊎◌, ◌<◌, ℕ, zero, suc, ℤ, Bool, true, false, Some, None, List, [], ◌∷◌, ◌++◌, refl, sym, ap, subst, inl, inr, arith}
use Rattle.std.specs.Prelude.{Option, ◌&&◌, ◌==◌, not, map, filter, find, option_to_list, if◌then◌else◌}
use Rattle.std.specs.List.{slice_get}
use lib.Dec.{lit<}
use Rattle.std.proofs.lemmas.Bool.{and_parts, and_from}
use Rattle.pool_base.specs.Sets.{has}
use Rattle.pool_base.specs.declared.backend_id.BackendId.{BackendId}
use Rattle.pool_base.specs.declared.backend_set.BackendSet.{BackendSet}
use Rattle.pool_base.specs.declared.gate_call.View.{View}
use Rattle.pool_base.specs.declared.gate_call.GateCall.{GateCall}
use Rattle.pool_base.specs.declared.gate_call.GateCall.TheVariants as calls
use Rattle.pool_base.specs.declared.gate_call.GateAnswer.{GateAnswer}
use Rattle.pool_base.specs.declared.gate_call.GateAnswer.TheVariants.{Seen, Granted, Held, Spent}
use Rattle.backend_trait.specs.declared.answer.Answer.{Answer}
use Rattle.write_path.specs.declared.kind.ChainKind.TheVariants.{All}
use Rattle.session_orders.specs.declared.order.Order.{Order}
use Rattle.session_orders.specs.declared.order.OrderBody.{OrderBody}
use Rattle.session_orders.specs.declared.order.OrderBody.TheVariants as orders
use Rattle.session_machine.specs.declared.action.Cause.{Cause}
use Rattle.session_machine.specs.declared.action.Action.TheVariants as actions
use Rattle.session_machine.specs.declared.action.SessionEvent.{SessionEvent}
use Rattle.session_machine.specs.declared.action.SessionEvent.TheVariants as events
use Rattle.session_machine.specs.declared.machine.GatePhase.{GatePhase}
use Rattle.session_machine.specs.declared.machine.GatePhase.TheVariants.{Out, InSnapshot, Live, InCommit}
use Rattle.session_machine.specs.declared.machine.Heard.{Heard}
use Rattle.session_machine.specs.declared.machine.Ending.{Ending}
use Rattle.session_machine.specs.declared.machine.Ending.TheVariants.{Replies, Leaves}
use Rattle.session_machine.specs.declared.machine.Stage.{Stage}
use Rattle.session_machine.specs.declared.machine.Stage.TheVariants.{Opening, Reading, Running, Locking, Inserting, Committing, Closing, RollingBack}
use Rattle.session_machine.specs.declared.machine.Point.{Point}
use Rattle.session_machine.specs.declared.machine.Point.TheVariants.{Resting, EnterDue, LookDue, PostDue, Waiting, LostDue, SplitDue, ChooseDue, ShowDue, LeaveSnapshotDue, UnwindDue, EnterCommitDue, LeaveCommitDue, FinishDue, ReplyDue, EndDue}
use Rattle.session_machine.specs.declared.machine.Session.{Session}
use Rattle.session_machine.specs.declared.machine.Machine.{Machine}
use Rattle.session_machine.specs.Allowed.{MayHappen, may_order, may_stop, may_leave, answers_call, is_seen_or_granted}
use Rattle.session_machine.specs.Answers.{all_backends, has_answered, is_attached, is_open, next_of, kept, first_other, goes_on}
use Rattle.session_machine.specs.Rules.{due, action_at, primary, request_of, ended, released, stranded_in, closed, decided, split, judged, asked, looked_at, left, ordered, with_view, granted, called, lost_one, parted_at, detached, after, after_at}
use Rattle.session_machine.proofs.Backends.{same_backend}
use Rattle.session_engine.specs.Sound.{IsFresh}
use Rattle.session_ahead.specs.declared.post.Post.{Post}
use Rattle.session_ahead.specs.Coming.{post_of, is_open_but, is_fixed, statement_behind, behind, from, at_look, coming_at, coming}
use Rattle.session_ahead.specs.Turns.{IsAmong, StartsWith, posted_by, is_leave, TakesSnapshot, stage_at, IsStraight, IsKept, IsGone, Commits, is_rolling, RollsBack}
use Rattle.session_ahead.proofs.Lists.{among_cases, among_none, among_left, among_either, among_map, map_among, filter_among, among_filter}
use Rattle.session_ahead.proofs.Chains.{open_all, look_fixed}
use Rattle.session_ahead.proofs.Staying.{stays, looked_leads}

-- Every backend is one of the eight.

each_below_8 : (P : ℕ → Type 0) → P 0 → P 1 → P 2 → P 3 → P 4 → P 5 → P 6 → P 7 → (n : ℕ) → n < 8 → P n
each_below_8 P a b c d e f g h zero l = a
each_below_8 P a b c d e f g h (suc zero) l = b
each_below_8 P a b c d e f g h (suc (suc zero)) l = c
each_below_8 P a b c d e f g h (suc (suc (suc zero))) l = d
each_below_8 P a b c d e f g h (suc (suc (suc (suc zero)))) l = e
each_below_8 P a b c d e f g h (suc (suc (suc (suc (suc zero))))) l = f
each_below_8 P a b c d e f g h (suc (suc (suc (suc (suc (suc zero)))))) l = g
each_below_8 P a b c d e f g h (suc (suc (suc (suc (suc (suc (suc zero))))))) l = h
each_below_8 P a b c d e f g h (suc (suc (suc (suc (suc (suc (suc (suc n)))))))) l = absurd (omega arith)

abbrev Stands : ℕ → Type 0
Stands n = (b : BackendId) → b.number ≡ n → slice_get all_backends n ≡ Some b

some_of : (b c : BackendId) → b.number ≡ c.number → Some c ≡ Some b
some_of b c e = ap (λ (x : BackendId). Some x) (sym (same_backend b c e))

stands : (n : ℕ) → n < 8 → Stands n
stands =
    each_below_8 Stands
    (λ b is. some_of b (record { number = 0; below_8 = lit< tt }) is)
    (λ b is. some_of b (record { number = 1; below_8 = lit< tt }) is)
    (λ b is. some_of b (record { number = 2; below_8 = lit< tt }) is)
    (λ b is. some_of b (record { number = 3; below_8 = lit< tt }) is)
    (λ b is. some_of b (record { number = 4; below_8 = lit< tt }) is)
    (λ b is. some_of b (record { number = 5; below_8 = lit< tt }) is)
    (λ b is. some_of b (record { number = 6; below_8 = lit< tt }) is)
    (λ b is. some_of b (record { number = 7; below_8 = lit< tt }) is)

among_all : (b : BackendId) → IsAmong b all_backends
among_all b = (b.number, stands b.number b.below_8 b refl)

-- The stages that go to their end.

abbrev goes_to_end : Stage → Bool
goes_to_end (Opening work) = false
goes_to_end (Reading work ticket) = false
goes_to_end (Running work) = false
goes_to_end (Locking work table) = false
goes_to_end (Inserting work sent) = false
goes_to_end Committing = true
goes_to_end Closing = false
goes_to_end (RollingBack ending) = true

all_fixed : (s : Session) (stage : Stage) → goes_to_end stage ≡ true → is_fixed s stage ≡ true
all_fixed s (Opening work) ends = absurd (cc)
all_fixed s (Reading work ticket) ends = absurd (cc)
all_fixed s (Running work) ends = absurd (cc)
all_fixed s (Locking work table) ends = absurd (cc)
all_fixed s (Inserting work sent) ends = absurd (cc)
all_fixed s Committing ends = refl
all_fixed s Closing ends = absurd (cc)
all_fixed s (RollingBack ending) ends = refl

no_statement : (s : Session) (stage : Stage) → goes_to_end stage ≡ true → statement_behind s stage ≡ None
no_statement s (Opening work) ends = absurd (cc)
no_statement s (Reading work ticket) ends = refl
no_statement s (Running work) ends = refl
no_statement s (Locking work table) ends = refl
no_statement s (Inserting work sent) ends = refl
no_statement s Committing ends = refl
no_statement s Closing ends = refl
no_statement s (RollingBack ending) ends = refl

any_answer : (stage : Stage) (answer : Answer) → goes_to_end stage ≡ true → TakesSnapshot stage answer
any_answer (Opening work) answer ends = absurd (cc)
any_answer (Reading work ticket) answer ends = tt
any_answer (Running work) answer ends = tt
any_answer (Locking work table) answer ends = tt
any_answer (Inserting work sent) answer ends = tt
any_answer Committing answer ends = tt
any_answer Closing answer ends = tt
any_answer (RollingBack ending) answer ends = tt

-- A post that is coming there goes to a backend that is attached and has not answered, and to each such one it is coming.

abbrev Opens : Session → Stage → Post → Type 0
Opens s stage post = (is_open s.view.attached.bits s.heard post.b ≡ true) × (post_of (request_of stage) post.b ≡ post)

opens_from : (s : Session) (stage : Stage) (post : Post) (c : BackendId) → post_of (request_of stage) c ≡ post
    → is_open s.view.attached.bits s.heard c ≡ true → Opens s stage post
opens_from s stage post c is opened = subst (λ (q : Post). Opens s stage q) is (opened, refl)

opens_among : (s : Session) (stage : Stage) (post : Post) (p : BackendId → Bool)
    → ((c : BackendId) → p c ≡ true → is_open s.view.attached.bits s.heard c ≡ true)
    → IsAmong post (map (post_of (request_of stage)) (filter p all_backends)) → Opens s stage post
opens_among s stage post p passes in_it =
    let (c, there, is) = map_among (post_of (request_of stage)) post (filter p all_backends) in_it in
    let (one, passed) = filter_among p c all_backends there in
    opens_from s stage post c is (passes c passed)

without_none : (post : Post) (posts : List Post) → (IsAmong post posts ⊎ IsAmong post []) → IsAmong post posts
without_none post posts (inl there) = there
without_none post posts (inr there) = absurd (among_none post there)

behind_opens : (s : Session) (stage : Stage) (b : BackendId) (post : Post) → goes_to_end stage ≡ true → IsAmong post (behind s stage b) → Opens s stage post
behind_opens s stage b post ends in_it =
    let one : IsAmong post (map (post_of (request_of stage)) (if true then filter (is_open_but s.view.attached.bits s.heard b) all_backends else []) ++ option_to_list None) =
    subst (λ (t : Bool). IsAmong post (map (post_of (request_of stage)) (if t then filter (is_open_but s.view.attached.bits s.heard b) all_backends else []) ++ option_to_list None))
    (all_fixed s stage ends)
    (subst (λ (o : Option Post). IsAmong post (map (post_of (request_of stage)) (if is_fixed s stage then filter (is_open_but s.view.attached.bits s.heard b) all_backends else []) ++ option_to_list o))
    (no_statement s stage ends) in_it) in
    let posts : List Post = map (post_of (request_of stage)) (filter (is_open_but s.view.attached.bits s.heard b) all_backends) in
    opens_among s stage post (is_open_but s.view.attached.bits s.heard b)
    (λ c passed. (and_parts (is_open s.view.attached.bits s.heard c) (not (c.number == b.number)) passed).0)
    (without_none post posts (among_either post posts [] one))

open_list : (s : Session) (stage : Stage) → goes_to_end stage ≡ true
    → at_look s stage ≡ map (post_of (request_of stage)) (open_all s.view.attached.bits s.heard) ++ []
open_list s stage ends = rw (look_fixed s stage (all_fixed s stage ends)) (rw (no_statement s stage ends) refl)

look_opens : (s : Session) (stage : Stage) (post : Post) → goes_to_end stage ≡ true → IsAmong post (at_look s stage) → Opens s stage post
look_opens s stage post ends in_it =
    let posts : List Post = map (post_of (request_of stage)) (open_all s.view.attached.bits s.heard) in
    opens_among s stage post (is_open s.view.attached.bits s.heard) (λ c passed. passed)
    (without_none post posts (among_either post posts [] (subst (λ (ps : List Post). IsAmong post ps) (open_list s stage ends) in_it)))

open_comes : (s : Session) (stage : Stage) (post : Post) → goes_to_end stage ≡ true → Opens s stage post → IsAmong post (at_look s stage)
open_comes s stage post ends (opened, is) =
    let posts : List Post = map (post_of (request_of stage)) (open_all s.view.attached.bits s.heard) in
    let there : IsAmong (post_of (request_of stage) post.b) posts =
    among_map (post_of (request_of stage)) post.b (open_all s.view.attached.bits s.heard)
    (among_filter (is_open s.view.attached.bits s.heard) post.b all_backends (among_all post.b) opened) in
    rw (open_list s stage ends) (among_left post posts [] (subst (λ (q : Post). IsAmong q posts) is there))

-- Another view: what is open stays coming where it is attached.

abbrev Ends : Machine → Post → Type 0
Ends m post = IsAmong post (coming m) ⊎ (has m.session.view.attached.bits post.b.number ≡ false)

not_answered : (t u : Bool) → (t && u) ≡ true → u ≡ true
not_answered t u e = (and_parts t u e).1

opens_view : (s : Session) (v : View) (stage : Stage) (post : Post) → Opens s stage post → has v.attached.bits post.b.number ≡ true → Opens (with_view s v) stage post
opens_view s v stage post (opened, is) attached = (
  and_from (has v.attached.bits post.b.number) (not (has_answered s.heard post.b)) attached
      (not_answered (has s.view.attached.bits post.b.number) (not (has_answered s.heard post.b)) opened),
  is,
)

from_start : (post : Post) (posts first : List Post) → StartsWith posts first → IsAmong post first → IsAmong post posts
from_start post posts first (rest, e) there = rw e (among_left post first rest there)

-- the session behind a Look has its view
ended_view : (s : Session) (ending : Ending) → (ended s ending).session.view ≡ s.view
ended_view s (Replies outcome) = refl
ended_view s Leaves = refl

released_view : (s : Session) (phase : GatePhase) (ending : Ending) → (released s phase ending).session.view ≡ s.view
released_view s Out ending = ended_view s ending
released_view s InSnapshot ending = refl
released_view s (Live changed tables) ending = refl
released_view s InCommit ending = refl

abbrev SameView : Session → Machine → Type 0
SameView s m = m.session.view ≡ s.view

stranded_view : (s : Session) (stage : Stage) → goes_to_end stage ≡ true → SameView s (stranded_in s stage)
stranded_view s (Opening work) ends = absurd (cc)
stranded_view s (Reading work ticket) ends = absurd (cc)
stranded_view s (Running work) ends = absurd (cc)
stranded_view s (Locking work table) ends = absurd (cc)
stranded_view s (Inserting work sent) ends = absurd (cc)
stranded_view s Committing ends = refl
stranded_view s Closing ends = absurd (cc)
stranded_view s (RollingBack ending) ends = released_view s s.gate ending

closed_view : (s : Session) (stage : Stage) (answer : Answer) → goes_to_end stage ≡ true → SameView s (closed true s stage answer)
closed_view s (Opening work) answer ends = absurd (cc)
closed_view s (Reading work ticket) answer ends = absurd (cc)
closed_view s (Running work) answer ends = absurd (cc)
closed_view s (Locking work table) answer ends = absurd (cc)
closed_view s (Inserting work sent) answer ends = absurd (cc)
closed_view s Committing answer ends = refl
closed_view s Closing answer ends = absurd (cc)
closed_view s (RollingBack ending) answer ends = released_view s s.gate ending

decided_view : (s : Session) (stage : Stage) (answer : Answer) (more : Bool) → goes_to_end stage ≡ true → SameView s (decided true s stage answer more)
decided_view s stage answer true ends = refl
decided_view s stage answer false ends = closed_view s stage answer ends

split_view : (s : Session) (stage : Stage) (best : Heard) (among : BackendSet) (more : Bool) (other : Option Heard) → goes_to_end stage ≡ true
    → SameView s (split true s stage best among more other)
split_view s stage best among more None ends = decided_view s stage best.answer more ends
split_view s stage best among more (Some own) ends = refl

judged_view : (s : Session) (stage : Stage) (h : Option Heard) → goes_to_end stage ≡ true → SameView s (judged s stage h)
judged_view s stage None ends = refl
judged_view s stage (Some best) ends =
    split_view s stage best s.view.attached (goes_on s.view.attached.bits s.heard best.answer)
    (first_other s.view.attached.bits best.answer 0 s.heard) ends

asked_view : (s : Session) (stage : Stage) (next : Option BackendId) → goes_to_end stage ≡ true → SameView s (asked s stage next)
unfolding asked
asked_view s stage (Some b) ends = refl
asked_view s stage None ends = judged_view s stage (kept s.view.attached.bits s.heard) ends

looked_view : (s : Session) (stage : Stage) (b : Option BackendId) → goes_to_end stage ≡ true → SameView s (looked_at s stage b)
looked_view s (Opening work) b ends = absurd (cc)
looked_view s (Reading work ticket) b ends = absurd (cc)
looked_view s (Running work) b ends = absurd (cc)
looked_view s (Locking work table) b ends = absurd (cc)
looked_view s (Inserting work sent) b ends = absurd (cc)
looked_view s Committing None ends = refl
looked_view s Committing (Some b) ends = asked_view s Committing (next_of All s.view.attached.bits s.heard) ends
looked_view s Closing b ends = absurd (cc)
looked_view s (RollingBack ending) None ends = released_view s s.gate ending
looked_view s (RollingBack ending) (Some b) ends = asked_view s (RollingBack ending) (next_of All s.view.attached.bits s.heard) ends

gone_with : (m : Machine) (v : View) (post : Post) → m.session.view ≡ v → has v.attached.bits post.b.number ≡ false → Ends m post
gone_with m v post is out = inr (subst (λ (w : View). has w.attached.bits post.b.number ≡ false) (sym is) out)

looked_at_case : (s : Session) (v : View) (stage : Stage) (post : Post) (t : Bool) → has v.attached.bits post.b.number ≡ t → goes_to_end stage ≡ true
    → Opens s stage post → Ends (looked_at (with_view s v) stage (primary (with_view s v))) post
looked_at_case s v stage post true is ends opened =
    inl (from_start post (coming (looked_at (with_view s v) stage (primary (with_view s v)))) (at_look (with_view s v) stage)
    (looked_leads (with_view s v) stage (primary (with_view s v)) refl)
    (open_comes (with_view s v) stage post ends (opens_view s v stage post opened is)))
looked_at_case s v stage post false is ends opened =
    gone_with (looked_at (with_view s v) stage (primary (with_view s v))) v post (looked_view (with_view s v) stage (primary (with_view s v)) ends) is

looked_ends : (s : Session) (v : View) (stage : Stage) (post : Post) → goes_to_end stage ≡ true → IsAmong post (at_look s stage)
    → Ends (looked_at (with_view s v) stage (primary (with_view s v))) post
looked_ends s v stage post ends in_it =
    looked_at_case s v stage post (has v.attached.bits post.b.number) refl ends (look_opens s stage post ends in_it)

-- where the view has no backend none is attached
none_attached_at : (p : BackendId → Bool) (x b : BackendId) (xs : List BackendId) (t : Bool) → p x ≡ t
    → (find p xs ≡ None → IsAmong b xs → p b ≡ false) → (if t then Some x else find p xs) ≡ None → (x ≡ b) ⊎ IsAmong b xs → p b ≡ false
none_attached_at p x b xs true is more e there = absurd (cc)
none_attached_at p x b xs false is more e (inl same) = subst (λ (c : BackendId). p c ≡ false) same is
none_attached_at p x b xs false is more e (inr there) = more e there

none_attached : (p : BackendId → Bool) (b : BackendId) (xs : List BackendId) → find p xs ≡ None → IsAmong b xs → p b ≡ false
none_attached p b [] e there = absurd (among_none b there)
none_attached p b (x ∷ xs) e there = none_attached_at p x b xs (p x) refl (none_attached p b xs) e (among_cases b x xs there)

lost_case : (s : Session) (stage : Stage) (post : Post) (t : Bool) → has s.view.attached.bits post.b.number ≡ t → goes_to_end stage ≡ true
    → (has s.view.attached.bits post.b.number ≡ true → Opens s stage post) → Ends (due s (LookDue stage)) post
lost_case s stage post true is ends opened = inl (open_comes s stage post ends (opened is))
lost_case s stage post false is ends opened = inr is

lost_ends : (s : Session) (stage : Stage) (post : Post) (o : Option BackendId) → primary s ≡ o → goes_to_end stage ≡ true
    → (has s.view.attached.bits post.b.number ≡ true → Opens s stage post) → Ends (lost_one s stage o) post
lost_ends s stage post None e ends opened =
    gone_with (stranded_in s stage) s.view post (stranded_view s stage ends)
    (none_attached (is_attached s.view.attached.bits) post.b all_backends e (among_all post.b))
lost_ends s stage post (Some b) e ends opened = lost_case s stage post (has s.view.attached.bits post.b.number) refl ends opened

-- The gate's answers.

some_stage : (a b : Stage) → Some a ≡ Some b → a ≡ b
some_stage a b e = cc

ends_as : (stage other : Stage) → Some other ≡ Some stage → goes_to_end stage ≡ true → goes_to_end other ≡ true
ends_as stage other e ends = subst (λ (x : Stage). goes_to_end x ≡ true) (sym (some_stage other stage e)) ends

none_some : (stage : Stage) → None ≡ Some stage → ⊥
none_some stage e = cc

gate_of : (a b : GateCall) → actions.Gate a ≡ actions.Gate b → a ≡ b
gate_of a b e = cc

look_answer : (call : GateCall) (answer : GateAnswer) → calls.Look ≡ call → answers_call call answer ≡ true → answers_call calls.Look answer ≡ true
look_answer call answer same fits = subst (λ (c : GateCall). answers_call c answer ≡ true) (sym same) fits

granted_ends : (s : Session) (v : View) (p : Point) (post : Post) (stage : Stage) (call : GateCall) → stage_at p ≡ Some stage → goes_to_end stage ≡ true
    → IsAmong post (coming_at s p) → action_at s p ≡ actions.Gate call → Ends (granted (with_view s v) p) post
unfolding granted
granted_ends s v (LookDue other) post stage call at ends in_it asks = looked_ends s v other post (ends_as stage other at ends) in_it
granted_ends s v (PostDue other b) post stage call at ends in_it asks = absurd (cc)
granted_ends s v (Waiting other b) post stage call at ends in_it asks = absurd (cc)
granted_ends s v (LostDue other b before later) post stage call at ends in_it asks = absurd (cc)
granted_ends s v (SplitDue other best own among more) post stage call at ends in_it asks = absurd (cc)
granted_ends s v Resting post stage call at ends in_it asks = absurd (none_some stage at)
granted_ends s v (EnterDue work) post stage call at ends in_it asks = absurd (none_some stage at)
granted_ends s v (ChooseDue work) post stage call at ends in_it asks = absurd (none_some stage at)
granted_ends s v ShowDue post stage call at ends in_it asks = absurd (none_some stage at)
granted_ends s v (LeaveSnapshotDue work) post stage call at ends in_it asks = absurd (none_some stage at)
granted_ends s v (UnwindDue ending) post stage call at ends in_it asks = absurd (none_some stage at)
granted_ends s v EnterCommitDue post stage call at ends in_it asks = absurd (none_some stage at)
granted_ends s v (LeaveCommitDue ending) post stage call at ends in_it asks = absurd (none_some stage at)
granted_ends s v (FinishDue ending) post stage call at ends in_it asks = absurd (none_some stage at)
granted_ends s v (ReplyDue outcome) post stage call at ends in_it asks = absurd (none_some stage at)
granted_ends s v EndDue post stage call at ends in_it asks = absurd (none_some stage at)

spent_never : (s : Session) (p : Point) (stage : Stage) (call : GateCall) → stage_at p ≡ Some stage → action_at s p ≡ actions.Gate call
    → answers_call call Spent ≡ true → ⊥
spent_never s (LookDue other) stage call at asks fits =
    let bad : answers_call calls.Look Spent ≡ true = look_answer call Spent (gate_of calls.Look call asks) fits in cc
spent_never s (PostDue other b) stage call at asks fits = cc
spent_never s (Waiting other b) stage call at asks fits = cc
spent_never s (LostDue other b before later) stage call at asks fits = cc
spent_never s (SplitDue other best own among more) stage call at asks fits = cc
spent_never s Resting stage call at asks fits = none_some stage at
spent_never s (EnterDue work) stage call at asks fits = none_some stage at
spent_never s (ChooseDue work) stage call at asks fits = none_some stage at
spent_never s ShowDue stage call at asks fits = none_some stage at
spent_never s (LeaveSnapshotDue work) stage call at asks fits = none_some stage at
spent_never s (UnwindDue ending) stage call at asks fits = none_some stage at
spent_never s EnterCommitDue stage call at asks fits = none_some stage at
spent_never s (LeaveCommitDue ending) stage call at asks fits = none_some stage at
spent_never s (FinishDue ending) stage call at asks fits = none_some stage at
spent_never s (ReplyDue outcome) stage call at asks fits = none_some stage at
spent_never s EndDue stage call at asks fits = none_some stage at

called_ends : (s : Session) (p : Point) (post : Post) (stage : Stage) (call : GateCall) (answer : GateAnswer) → stage_at p ≡ Some stage
    → goes_to_end stage ≡ true → IsAmong post (coming_at s p) → action_at s p ≡ actions.Gate call → answers_call call answer ≡ true
    → Ends (called s p answer) post
unfolding called
called_ends s p post stage call (Seen v) at ends in_it asks fits = granted_ends s v p post stage call at ends in_it asks
called_ends s p post stage call (Granted v) at ends in_it asks fits = granted_ends s v p post stage call at ends in_it asks
called_ends s p post stage call (Held count) at ends in_it asks fits = inl in_it
called_ends s p post stage call Spent at ends in_it asks fits = absurd (spent_never s p stage call at asks fits)

parted_ends : (s : Session) (v : View) (p : Point) (post : Post) (stage : Stage) (b : BackendId) (cause : Cause) → stage_at p ≡ Some stage
    → goes_to_end stage ≡ true → IsAmong post (coming_at s p) → action_at s p ≡ actions.Detach b cause → Ends (parted_at (with_view s v) p) post
parted_ends s v (LostDue other c before later) post stage b cause at ends in_it asks =
    let goes : goes_to_end other ≡ true = ends_as stage other at ends in
    let opened : Opens s other post = behind_opens s other c post goes in_it in
    lost_ends (with_view s v) other post (primary (with_view s v)) refl goes (λ attached. opens_view s v other post opened attached)
parted_ends s v (SplitDue other best own among more) post stage b cause at ends in_it asks = absurd (among_none post in_it)
parted_ends s v (LookDue other) post stage b cause at ends in_it asks = absurd (cc)
parted_ends s v (PostDue other c) post stage b cause at ends in_it asks = absurd (cc)
parted_ends s v (Waiting other c) post stage b cause at ends in_it asks = absurd (cc)
parted_ends s v Resting post stage b cause at ends in_it asks = absurd (none_some stage at)
parted_ends s v (EnterDue work) post stage b cause at ends in_it asks = absurd (none_some stage at)
parted_ends s v (ChooseDue work) post stage b cause at ends in_it asks = absurd (none_some stage at)
parted_ends s v ShowDue post stage b cause at ends in_it asks = absurd (none_some stage at)
parted_ends s v (LeaveSnapshotDue work) post stage b cause at ends in_it asks = absurd (none_some stage at)
parted_ends s v (UnwindDue ending) post stage b cause at ends in_it asks = absurd (none_some stage at)
parted_ends s v EnterCommitDue post stage b cause at ends in_it asks = absurd (none_some stage at)
parted_ends s v (LeaveCommitDue ending) post stage b cause at ends in_it asks = absurd (none_some stage at)
parted_ends s v (FinishDue ending) post stage b cause at ends in_it asks = absurd (none_some stage at)
parted_ends s v (ReplyDue outcome) post stage b cause at ends in_it asks = absurd (none_some stage at)
parted_ends s v EndDue post stage b cause at ends in_it asks = absurd (none_some stage at)

detached_ends : (s : Session) (p : Point) (post : Post) (stage : Stage) (b : BackendId) (cause : Cause) (answer : GateAnswer) → stage_at p ≡ Some stage
    → goes_to_end stage ≡ true → IsAmong post (coming_at s p) → action_at s p ≡ actions.Detach b cause → is_seen_or_granted answer ≡ true
    → Ends (detached s p answer) post
unfolding detached
detached_ends s p post stage b cause (Seen v) at ends in_it asks fits = parted_ends s v p post stage b cause at ends in_it asks
detached_ends s p post stage b cause (Granted v) at ends in_it asks fits = parted_ends s v p post stage b cause at ends in_it asks
detached_ends s p post stage b cause (Held count) at ends in_it asks fits = absurd (cc)
detached_ends s p post stage b cause Spent at ends in_it asks fits = absurd (cc)

-- The client leaves: only a rollback may be left.

left_look : (s : Session) (ending : Ending) (post : Post) → Opens s (RollingBack ending) post → IsAmong post (at_look s (RollingBack Leaves))
left_look s ending post opened = open_comes s (RollingBack Leaves) post refl opened

front_case : (s : Session) (ending : Ending) (b : BackendId) (post : Post) (t : Bool) → has s.view.attached.bits b.number ≡ t
    → has_answered s.heard b ≡ false → post_of (request_of (RollingBack ending)) b ≡ post → Ends (due s (LookDue (RollingBack Leaves))) post
front_case s ending b post true attached fresh is =
    inl (left_look s ending post (opens_from s (RollingBack ending) post b is
    (and_from (has s.view.attached.bits b.number) (not (has_answered s.heard b)) attached (rw fresh refl))))
front_case s ending b post false out fresh is =
    inr (subst (λ (q : Post). has s.view.attached.bits q.b.number ≡ false) is out)

from_case : (s : Session) (ending : Ending) (b : BackendId) (post : Post) → has_answered s.heard b ≡ false
    → (post_of (request_of (RollingBack ending)) b ≡ post) ⊎ IsAmong post (behind s (RollingBack ending) b)
    → Ends (due s (LookDue (RollingBack Leaves))) post
from_case s ending b post fresh (inl is) = front_case s ending b post (has s.view.attached.bits b.number) refl fresh is
from_case s ending b post fresh (inr there) = inl (left_look s ending post (behind_opens s (RollingBack ending) b post refl there))

-- at the points of a rollback
left_rolling : (s : Session) (p : Point) (ending : Ending) (post : Post) → stage_at p ≡ Some (RollingBack ending) → IsFresh s.heard p
    → IsAmong post (coming_at s p) → may_leave p ≡ true → Ends (left s p) post
unfolding left
left_rolling s (LookDue stage) ending post at fresh in_it may =
    let same : stage ≡ RollingBack ending = some_stage stage (RollingBack ending) at in
    subst (λ (x : Stage). IsAmong post (at_look s x) → Ends (left s (LookDue x)) post) (sym same)
    (λ there. inl (left_look s ending post (look_opens s (RollingBack ending) post refl there))) in_it
left_rolling s (PostDue stage b) ending post at fresh in_it may =
    let same : stage ≡ RollingBack ending = some_stage stage (RollingBack ending) at in
    subst (λ (x : Stage). IsAmong post (from s x b) → Ends (left s (PostDue x b)) post) (sym same)
    (λ there. from_case s ending b post fresh
    (among_cases post (post_of (request_of (RollingBack ending)) b) (behind s (RollingBack ending) b) there)) in_it
left_rolling s (LostDue stage b before later) ending post at fresh in_it may =
    let same : stage ≡ RollingBack ending = some_stage stage (RollingBack ending) at in
    subst (λ (x : Stage). IsAmong post (behind s x b) → Ends (left s (LostDue x b before later)) post) (sym same)
    (λ there. inl there) in_it
left_rolling s (SplitDue stage best own among more) ending post at fresh in_it may = absurd (among_none post in_it)
left_rolling s (Waiting stage b) ending post at fresh in_it may = absurd (cc)
left_rolling s Resting ending post at fresh in_it may = absurd (none_some (RollingBack ending) at)
left_rolling s (EnterDue work) ending post at fresh in_it may = absurd (none_some (RollingBack ending) at)
left_rolling s (ChooseDue work) ending post at fresh in_it may = absurd (none_some (RollingBack ending) at)
left_rolling s ShowDue ending post at fresh in_it may = absurd (none_some (RollingBack ending) at)
left_rolling s (LeaveSnapshotDue work) ending post at fresh in_it may = absurd (none_some (RollingBack ending) at)
left_rolling s (UnwindDue told) ending post at fresh in_it may = absurd (none_some (RollingBack ending) at)
left_rolling s EnterCommitDue ending post at fresh in_it may = absurd (none_some (RollingBack ending) at)
left_rolling s (LeaveCommitDue told) ending post at fresh in_it may = absurd (none_some (RollingBack ending) at)
left_rolling s (FinishDue told) ending post at fresh in_it may = absurd (none_some (RollingBack ending) at)
left_rolling s (ReplyDue outcome) ending post at fresh in_it may = absurd (none_some (RollingBack ending) at)
left_rolling s EndDue ending post at fresh in_it may = absurd (none_some (RollingBack ending) at)

stays_in : (stage : Stage) → stage ≡ Committing → may_stop stage ≡ true → ⊥
stays_in stage same may = let bad : may_stop Committing ≡ true = subst (λ (x : Stage). may_stop x ≡ true) same may in cc

-- a commit is not left
never_left : (p : Point) → stage_at p ≡ Some Committing → may_leave p ≡ true → ⊥
never_left (LookDue stage) at may = stays_in stage (some_stage stage Committing at) may
never_left (PostDue stage b) at may = stays_in stage (some_stage stage Committing at) may
never_left (LostDue stage b before later) at may = stays_in stage (some_stage stage Committing at) may
never_left (SplitDue stage best own among more) at may = stays_in stage (some_stage stage Committing at) may
never_left (Waiting stage b) at may = cc
never_left Resting at may = none_some Committing at
never_left (EnterDue work) at may = none_some Committing at
never_left (ChooseDue work) at may = none_some Committing at
never_left ShowDue at may = none_some Committing at
never_left (LeaveSnapshotDue work) at may = none_some Committing at
never_left (UnwindDue told) at may = none_some Committing at
never_left EnterCommitDue at may = none_some Committing at
never_left (LeaveCommitDue told) at may = none_some Committing at
never_left (FinishDue told) at may = none_some Committing at
never_left (ReplyDue outcome) at may = none_some Committing at
never_left EndDue at may = none_some Committing at

-- Every event.

abbrev Leads : Session → Point → SessionEvent → Post → Type 0
Leads s p event post = IsKept (due s p) event post ⊎ IsGone (due s p) event post

straight_kept : (s : Session) (p : Point) (event : SessionEvent) (post : Post) → MayHappen (due s p) event → IsStraight (due s p) event
    → IsAmong post (coming_at s p) → Leads s p event post
straight_kept s p event post may straight in_it =
    inl (from_start post (posted_by event ++ coming (after (due s p) event)) (coming_at s p) (stays (due s p) event may straight) in_it)

ending_answer : (p : Point) (stage : Stage) (answer : Answer) → stage_at p ≡ Some stage → goes_to_end stage ≡ true
    → (other : Stage) → stage_at p ≡ Some other → TakesSnapshot other answer
ending_answer p stage answer at ends other e =
    let both : Some other ≡ Some stage = cc in any_answer other answer (ends_as stage other both ends)

leave_is : (body : OrderBody) → is_leave body ≡ true → body ≡ orders.Leave
leave_is (orders.Statement checked) is = absurd (cc)
leave_is orders.Begin is = absurd (cc)
leave_is orders.Commit is = absurd (cc)
leave_is orders.Rollback is = absurd (cc)
leave_is orders.Settle is = absurd (cc)
leave_is orders.ShowNodes is = absurd (cc)
leave_is (orders.Recover b) is = absurd (cc)
leave_is (orders.Refuse code name) is = absurd (cc)
leave_is orders.Leave is = refl

ordered_left : (s : Session) (p : Point) (moment : ℤ) (post : Post) → Ends (left s p) post → Ends (ordered s p moment orders.Leave) post
unfolding ordered
ordered_left s p moment post leads = leads

order_ends : (s : Session) (p : Point) (order : Order) (post : Post) (t : Bool) → is_leave order.body ≡ t → MayHappen (due s p) (events.Ordered order)
    → IsAmong post (coming_at s p) → (may_leave p ≡ true → Ends (left s p) post) → Leads s p (events.Ordered order) post
unfolding after_at
order_ends s p order post false is may in_it leaves = straight_kept s p (events.Ordered order) post may is in_it
order_ends s p order post true is may in_it leaves =
    let leave : order.body ≡ orders.Leave = leave_is order.body is in
    let may_go : may_order s p orders.Leave ≡ true = subst (λ (x : OrderBody). may_order s p x ≡ true) leave may.0 in
    subst (λ (x : OrderBody). Ends (ordered s p order.moment x) post) (sym leave) (ordered_left s p order.moment post (leaves may_go))

ends_at : (s : Session) (p : Point) (event : SessionEvent) (post : Post) (stage : Stage) → stage_at p ≡ Some stage → goes_to_end stage ≡ true
    → IsAmong post (coming_at s p) → (may_leave p ≡ true → Ends (left s p) post) → MayHappen (due s p) event → Leads s p event post
unfolding after_at
ends_at s p (events.Ordered order) post stage at ends in_it leaves may =
    order_ends s p order post (is_leave order.body) refl may in_it leaves
ends_at s p (events.Called call answer) post stage at ends in_it leaves may = called_ends s p post stage call answer at ends in_it may.0 may.1
ends_at s p (events.Posted b request) post stage at ends in_it leaves may = straight_kept s p (events.Posted b request) post may tt in_it
ends_at s p (events.Taken b answer) post stage at ends in_it leaves may =
    straight_kept s p (events.Taken b answer) post may (ending_answer p stage answer at ends) in_it
ends_at s p (events.Faulted b before later) post stage at ends in_it leaves may = straight_kept s p (events.Faulted b before later) post may tt in_it
ends_at s p (events.Detached b cause answer) post stage at ends in_it leaves may =
    detached_ends s p post stage b cause answer at ends in_it may.0 may.1
ends_at s p (events.Swapped b) post stage at ends in_it leaves may = absurd may
ends_at s p (events.Replied outcome status) post stage at ends in_it leaves may = straight_kept s p (events.Replied outcome status) post may tt in_it
ends_at s p events.Ended post stage at ends in_it leaves may = straight_kept s p events.Ended post may tt in_it

pub commits_kept : (m : Machine) (event : SessionEvent) (post : Post) → Commits m.point → IsAmong post (coming m) → MayHappen m event
    → (IsKept m event post ⊎ IsGone m event post)
commits_kept m event post commits in_it may =
    ends_at m.session m.point event post Committing commits refl in_it (λ leaves. absurd (never_left m.point commits leaves)) may

-- a stage of a rollback is one
rolling_is : (stage : Stage) → is_rolling stage ≡ true → (ending : Ending) × (stage ≡ RollingBack ending)
rolling_is (Opening work) is = absurd (cc)
rolling_is (Reading work ticket) is = absurd (cc)
rolling_is (Running work) is = absurd (cc)
rolling_is (Locking work table) is = absurd (cc)
rolling_is (Inserting work sent) is = absurd (cc)
rolling_is Committing is = absurd (cc)
rolling_is Closing is = absurd (cc)
rolling_is (RollingBack ending) is = (ending, refl)

pub rollbacks_kept : (m : Machine) (event : SessionEvent) (post : Post) → RollsBack m.point → IsFresh m.session.heard m.point
    → IsAmong post (coming m) → MayHappen m event → (IsKept m event post ⊎ IsGone m event post)
rollbacks_kept m event post (stage, at, rolling) fresh in_it may =
    let (ending, same) = rolling_is stage rolling in
    let there : stage_at m.point ≡ Some (RollingBack ending) = rw at (ap (λ (x : Stage). Some x) same) in
    ends_at m.session m.point event post (RollingBack ending) there refl in_it
    (λ leaves. left_rolling m.session m.point ending post there fresh in_it leaves) may
