-- A post: the session waits for the backend, and its request waits there.
use Rattle.std.proofs.Common.{◌≡◌, ◌≢◌, ℕ, Bool, true, false, List, refl, sym, ap, ◌∙◌, subst, inl, inr}
use Rattle.std.specs.Prelude.{◌⊎◌, Option, Some, None}
use Rattle.pool_base.specs.Sets.{has}
use Rattle.pool_base.specs.declared.session_id.SessionId.{SessionId}
use Rattle.backend_trait.specs.declared.request.Request.{Request}
use Rattle.backend_trait.specs.declared.answer.Answer.{Answer}
use Rattle.backend_trait.specs.Rows.{with_at}
use Rattle.backend_trait.specs.Store.{Transaction, Store}
use Rattle.session_machine.specs.declared.action.Action.TheVariants as actions
use Rattle.session_machine.specs.declared.machine.Machine.{Machine}
use Rattle.session_machine.specs.declared.machine.Session.{Session}
use Rattle.session_machine.specs.declared.machine.Stage.{Stage}
use Rattle.session_machine.specs.declared.machine.Point.{Point}
use Rattle.session_machine.specs.declared.machine.Point.TheVariants.{PostDue, Waiting, SplitDue}
use Rattle.session_machine.specs.Rules.{after_at, action_at, due}
use Rattle.one_copy_model.specs.declared.deed.Entry.{Entry}
use Rattle.one_copy_model.specs.declared.event.Event.TheVariants.{Of}
use Rattle.one_copy_model.specs.World.{after, MayHappen}
use Rattle.one_copy_model.specs.Deaths.{is_live, fallen, stage_at, is_alive}
use Rattle.one_copy_model.specs.Tracking.{Told, Tracked, single, tracked_after}
use Rattle.one_copy_model.specs.Standing.{Stands, leaving_of}
use Rattle.one_copy_model.specs.Invariant.{Invariant}
use Rattle.one_copy_model.specs.Own.{told_by, stand, IsIn, Own}
use Rattle.one_copy_model.proofs.Counts.{still}
use Rattle.one_copy_model.proofs.Turning.{FactsOf, facts_of, live_there}
use Rattle.one_copy_model.proofs.Landing.{lands, places_none}
use Rattle.one_copy_model.proofs.Quiet.{real, below_65}
use Rattle.pool_base.specs.declared.backend_id.BackendId.{BackendId}
use Rattle.one_copy_model.specs.Chains.{IsInOrder, HasOne, asked_in, is_unposted}
use Rattle.one_copy_model.specs.Invariant.{inserted_in, inserting_in}
use Rattle.one_copy_model.specs.Facts.{Shared}
use Rattle.one_copy_model.proofs.Turning.{invariant_of}
use Rattle.one_copy_model.proofs.Quiet.{stands_silent}
use Rattle.one_copy_model.proofs.Calm.{free_of, is_waiting}
use Rattle.backend_trait.specs.Store.{Pending}
use Rattle.one_copy_model.specs.Invariant.{IsInLine}
use Rattle.session_machine.specs.Rules.{request_of}
use Rattle.one_copy_model.proofs.Places.{same_or_other, with_at-same, with_at-other}
use Rattle.one_copy_model.proofs.Silent.{silent}
use Rattle.one_copy_model.proofs.Counts.{counted}
use Rattle.one_copy_laws.proofs.ChainsChaining.{chain_own, stand_same}
use Rattle.backend_trait.specs.Store.{posted}
use Rattle.one_copy_model.specs.Marks.{marked}
use Rattle.session_machine.specs.declared.action.SessionEvent.TheVariants.{Posted}
use Rattle.session_machine.specs.Rules.{stage_posted, posted as machine_posted}
use Rattle.session_machine.specs.declared.work.Work.{Work}
use Rattle.session_machine.specs.declared.machine.Stage.TheVariants.{Opening, Reading, Running, Locking, Inserting, Committing, Closing, RollingBack}
use Rattle.backend_trait.specs.declared.answer.Answer.TheVariants as answers
use Rattle.backend_trait.specs.declared.request.Request.TheVariants as requests
use Rattle.one_copy_model.specs.Orders.{OrderAt, IsClassedAt}
use Rattle.one_copy_model.specs.Standing.{Standing, standing_by}
use Rattle.one_copy_model.specs.Invariant.{FitsPoint, where_live, wants_of, IsUnderWay}
use Rattle.one_copy_model.proofs.Quiet.{quiet_holds}
use Rattle.one_copy_model.proofs.Places.{each_at}
use Rattle.one_copy_model.proofs.Landing.{with_at-self}
use Rattle.one_copy_model.proofs.Beginning.{no_mail}
use Rattle.one_copy_laws.proofs.PostsStoring.{now, shared_now, transaction_at, own_now, remarks, below_same}
use Rattle.one_copy_model.specs.Deaths.{is_alive_at}
use Rattle.std.specs.Prelude.{◌&&◌}

post_due : (session : Session) (point : Point) (b : BackendId) (request : Request) → action_at session point ≡ actions.Post b request → (stage : Stage) × (point ≡ PostDue stage b) × (request ≡ request_of stage)
post_due session (PostDue stage c) b request e =
    (stage, ap (PostDue stage) (let z : actions.Post c (request_of stage) ≡ actions.Post b request = e in let same : c ≡ b = cc in same), (let z : actions.Post c (request_of stage) ≡ actions.Post b request = e in let same : request_of stage ≡ request = cc in sym same))
post_due session point b request e = absurd (cc)

posted_stage : (stage : Stage) → is_unposted (stage_posted stage) ≡ false
posted_stage (Inserting work posted) = refl
posted_stage (Opening work) = refl
posted_stage (Reading work ticket) = refl
posted_stage (Running work) = refl
posted_stage (Locking work table) = refl
posted_stage Committing = refl
posted_stage Closing = refl
posted_stage (RollingBack ending) = refl

put_twice : (f : ℕ → Store) (b : ℕ) (x y : Store) → with_at (with_at f b x) b y ≡ with_at f b y
put_twice f b x y = λ i k. same k i
  where
    same : (k : ℕ) → with_at (with_at f b x) b y k ≡ with_at f b y k
    same k = elim (same_or_other k b) [
      | inl e ↦ ap (with_at (with_at f b x) b y) e ∙ with_at-same (with_at f b x) b y ∙ sym (ap (with_at f b y) e ∙ with_at-same f b y)
      | inr other ↦ with_at-other (with_at f b x) b y k other ∙ with_at-other f b x k other ∙ sym (with_at-other f b y k other)
    ]

module _ (t : Tracked) (h : Invariant t) (s : SessionId) (b : BackendId) (stage : Stage) (at : (t.world.machine s.number).point ≡ PostDue stage b) (same : stage_posted stage ≡ stage) where
  abbrev m : Machine
  m = t.world.machine s.number

  abbrev n : Machine
  n = due m.session (Waiting stage b)

  abbrev attached : ℕ
  attached = t.world.gate.attached.bits

  abbrev mail : ℕ → Option Answer
  mail = t.world.mail s.number

  abbrev request : Request
  request = request_of stage

  abbrev x : Store
  x = posted (t.world.store b.number) s.number request

  abbrev here : ℕ → Store
  here = now t.world.tables t.world.store b.number x refl refl refl refl refl

  old : Own t.world.tables attached t.history t.world.store m mail (t.orders s.number) (t.done s.number) (live_there t s.number) s.number
  old = (facts_of t h).own s.number

  free : is_waiting m.point ≡ false
  free = ap is_waiting at

  mail_none : (c : ℕ) → mail c ≡ None
  mail_none c = no_mail t.world.tables attached t.history t.history t.world.store m mail (t.orders s.number) (t.done s.number) (live_there t s.number) s.number (real s) (free_of m.point free) old c

  order : IsInOrder attached m stage
  order = old.in_order stage (ap stage_at at)

  waits_order : IsInOrder attached n stage
  waits_order = record {
    rising = order.rising;
    above = λ c e. order.above c (ap asked_in at ∙ e);
    below = λ c d up in_it less told. order.below c d up in_it less (elim told [ inl e ↦ inl (ap asked_in at ∙ e) | inr e ↦ inr e ]);
    one = λ single. subst (λ x. HasOne x m.session.heard) (ap asked_in at) (order.one single);
  }

  -- the session waits, and nothing is posted yet
  waits_own : Own t.world.tables attached t.history t.world.store n mail (t.orders s.number) (t.done s.number) (live_there t s.number) s.number
  waits_own =
      chain_own t.world.tables attached t.history t.world.store m mail mail (t.orders s.number) (t.done s.number) (live_there t s.number) s.number (real s) old n stage (ap stage_at at) refl refl refl (λ c. refl)
      (λ c p sound e. absurd (let line = old.asked c p sound e in free_of m.point free line.stage line.at line.waits))
      old.untold
      (λ c answer e. absurd (let line = (old.answer c answer e).1 in free_of m.point free line.stage line.at line.waits))
      waits_order
      (λ y best own among onward e. absurd (let z : Waiting stage b ≡ SplitDue y best own among onward = e in cc))
      (λ c cause e. absurd (let z : actions.WaitFor b ≡ actions.Detach c cause = e in cc))
      (λ answer kept any. absurd kept)

  abbrev its : Pending
  its = record { request = request; crossed = false }

  is_posted : is_unposted stage ≡ false
  is_posted = ap is_unposted (sym same) ∙ posted_stage stage

  mine_at : (c : ℕ) (p : Pending) → (c ≡ b.number) ⊎ (c ≢ b.number) → (here c).pending s.number ≡ Some p → ((c ≡ b.number) × (its ≡ p)) ⊎ ((c ≢ b.number) × ((t.world.store c).pending s.number ≡ Some p))
  mine_at c p (inl e) is = inl (e, (let z : Some its ≡ Some p = sym (ap (λ (st : Store). st.pending s.number) (ap here e ∙ with_at-same t.world.store b.number x) ∙ with_at-same (t.world.store b.number).pending s.number (Some its)) ∙ is in let same : its ≡ p = cc in same))
  mine_at c p (inr other) is = inr (other, sym (ap (λ (st : Store). st.pending s.number) (with_at-other t.world.store b.number x c other)) ∙ is)

  mine_lost : (c : ℕ) → c ≢ b.number → (here c).lost ≡ false → (t.world.store c).lost ≡ false
  mine_lost c other e = sym (ap (λ (st : Store). st.lost) (with_at-other t.world.store b.number x c other)) ∙ e

  asked_line : (c : ℕ) (p : Pending) → (here c).lost ≡ false → ((c ≡ b.number) × (its ≡ p)) ⊎ ((c ≢ b.number) × ((t.world.store c).pending s.number ≡ Some p)) → IsInLine n c p.request
  asked_line c p sound (inl e) = record { stage = stage; at = b; waits = refl; number = sym e.0; asks = ap (λ (y : Pending). y.request) (sym e.1); posted = is_posted }
  asked_line c p sound (inr e) = waits_own.asked c p (mine_lost c e.0 sound) e.1

  mine_crossed : (c : ℕ) (p q : Pending) → IsIn attached c → (here c).lost ≡ false → ((c ≡ b.number) × (its ≡ p)) ⊎ ((c ≢ b.number) × ((t.world.store c).pending s.number ≡ Some p)) → (single t).pending s.number ≡ Some q → p.crossed ≡ true → q.crossed ≡ true
  mine_crossed c p q in_it sound (inl e) there mark = absurd (let z : false ≡ true = ap (λ (y : Pending). y.crossed) e.1 ∙ mark in cc)
  mine_crossed c p q in_it sound (inr e) there mark = waits_own.crossed c p q in_it (mine_lost c e.0 sound) e.1 there mark

  posted_own : Own t.world.tables attached t.history here n mail (t.orders s.number) (t.done s.number) (live_there t s.number) s.number
  posted_own = record {
    stranger = λ is. absurd (real s is);
    inside = waits_own.inside;
    classed = waits_own.classed;
    asked = λ c p sound e. asked_line c p sound (mine_at c p (same_or_other c b.number) e);
    untold = λ c p e. mail_none c;
    answer = waits_own.answer;
    in_order = waits_own.in_order;
    heard = waits_own.heard;
    parting = waits_own.parting;
    causes = waits_own.causes;
    stands = λ c in_it. subst (λ (f : ℕ → Transaction). Stands (single t) s.number (leaving_of t.world.tables s.number t.history) (stand n mail c) (f s.number) ((single t).transaction s.number)) (sym (transaction_at t.world.tables t.world.store b.number x refl refl refl refl refl c)) (waits_own.stands c in_it);
    crossed = λ c p q in_it sound e there mark. mine_crossed c p q in_it sound (mine_at c p (same_or_other c b.number) e) there mark;
    unchanged = waits_own.unchanged;
    closes = λ c l in_it e is. waits_own.closes c l in_it e (sym (ap (λ (f : ℕ → Transaction). f s.number) (transaction_at t.world.tables t.world.store b.number x refl refl refl refl refl c)) ∙ is);
    reasons = waits_own.reasons;
    posts = waits_own.posts;
    replies = waits_own.replies;
    orders = waits_own.orders;
    order_is = waits_own.order_is;
    since = waits_own.since;
    commits = waits_own.commits;
    done_first = waits_own.done_first;
  }

  other_own : (o : ℕ) → o ≢ s.number → Own t.world.tables attached t.history here (t.world.machine o) (t.world.mail o) (t.orders o) (t.done o) (live_there t o) o
  other_own o other =
      let f : FactsOf t = facts_of t h in
      let was : x.pending o ≡ (t.world.store b.number).pending o = with_at-other (t.world.store b.number).pending s.number (Some its) o other in
      own_now t.world.tables t.world.store b.number x refl refl refl refl refl o (λ p e. (p, sym was ∙ e, refl)) (λ e. was ∙ e)
      attached t.history (t.world.machine o) (t.world.mail o) (t.orders o) (t.done o) (live_there t o)
      (λ p q in_it sound e there mark. h.crossed_there o b.number p q in_it sound (sym was ∙ e) there mark) (f.own o)

  abbrev first : Tracked
  first = record { world = record { tables = t.world.tables; gate = t.world.gate; machine = with_at t.world.machine s.number n; store = here; mail = t.world.mail }; history = t.history; orders = t.orders; done = t.done }

  alive_first : (o : ℕ) → is_alive first.world o ≡ is_alive t.world o
  unfolding is_alive
  alive_first o = below_same (is_alive_at first.world o) (is_alive_at t.world o)
      (λ k. ap (λ (f : ℕ → Transaction). has attached k && is_live (f o)) (transaction_at t.world.tables t.world.store b.number x refl refl refl refl refl k)) 8

  pub first_holds : Invariant first
  first_holds =
      let f : FactsOf t = facts_of t h in
      invariant_of first (record {
        own = each_at (λ o y. Own t.world.tables attached t.history here y (t.world.mail o) (t.orders o) (t.done o) (live_there t o) o) t.world.machine s.number n posted_own other_own;
        shared = shared_now t.world.tables t.world.store b.number x refl refl refl refl refl attached t.history (with_at t.world.machine s.number n) t.world.mail
            (subst (λ (post : ℕ → ℕ → Option Answer). Shared t.world.tables attached t.history t.world.store (with_at t.world.machine s.number n) post) (with_at-self t.world.mail s.number)
            (silent t.world.tables attached attached t.history t.world.store t.world.machine t.world.mail s.number n mail (λ c in_it. in_it)
            (stands_silent t.world.tables attached t.history m n mail mail
            (λ c in_it. stand_same t.world.tables attached t.history t.world.store m mail mail (t.orders s.number) (t.done s.number) (live_there t s.number) s.number (real s) old n stage (ap stage_at at) refl refl refl (λ d. refl) c)
            (λ c in_it. ap (λ y. inserted_in y (told_by m mail c)) (ap stage_at at))
            (λ table i. record { work = i.work; inserting = ap inserting_in (ap stage_at at) ∙ i.inserting; at = i.at }) (λ e. e))
            f.shared));
        counts = counted t.world.machine s.number n (below_65 s) t.world.gate t.world.gate (still t.world.gate t.world.machine m.session.gate m.session.gate refl f.counts) f.counts;
      }) (λ o live. alive_first o ∙ h.alive o live)

  pub posted_holds : Invariant (record { world = record { tables = t.world.tables; gate = t.world.gate; machine = with_at t.world.machine s.number n; store = with_at t.world.store b.number (marked x); mail = t.world.mail }; history = t.history; orders = with_at t.orders s.number (t.orders s.number); done = with_at t.done s.number (t.done s.number) })
  posted_holds =
      subst (λ (y : ℕ → ℕ → Bool). Invariant (record { world = record { tables = t.world.tables; gate = t.world.gate; machine = with_at t.world.machine s.number n; store = with_at t.world.store b.number (marked x); mail = t.world.mail }; history = t.history; orders = with_at t.orders s.number (t.orders s.number); done = y })) (sym (with_at-self t.done s.number))
      (subst (λ (y : ℕ → Option Told). Invariant (record { world = record { tables = t.world.tables; gate = t.world.gate; machine = with_at t.world.machine s.number n; store = with_at t.world.store b.number (marked x); mail = t.world.mail }; history = t.history; orders = y; done = t.done })) (sym (with_at-self t.orders s.number))
      (subst (λ (y : ℕ → Store). Invariant (record { world = record { tables = t.world.tables; gate = t.world.gate; machine = with_at t.world.machine s.number n; store = y; mail = t.world.mail }; history = t.history; orders = t.orders; done = t.done }))
      (ap (λ (y : Store). with_at here b.number (marked y)) (with_at-same t.world.store b.number x) ∙ put_twice t.world.store b.number x (marked x))
      (remarks first b.number first_holds)))

put_machine : (f : ℕ → Machine) (s : ℕ) (x y : Machine) → with_at (with_at f s x) s y ≡ with_at f s y
put_machine f s x y = λ i k. same k i
  where
    same : (k : ℕ) → with_at (with_at f s x) s y k ≡ with_at f s y k
    same k = elim (same_or_other k s) [
      | inl e ↦ ap (with_at (with_at f s x) s y) e ∙ with_at-same (with_at f s x) s y ∙ sym (ap (with_at f s y) e ∙ with_at-same f s y)
      | inr other ↦ with_at-other (with_at f s x) s y k other ∙ with_at-other f s x k other ∙ sym (with_at-other f s y k other)
    ]

-- The first post of a serial insert's run turns its flag. Nobody has answered that run yet, so nothing else changes.
module _ (t : Tracked) (h : Invariant t) (s : SessionId) (b : BackendId) (work : Work) (at : (t.world.machine s.number).point ≡ PostDue (Inserting work false) b) where
  abbrev before : Machine
  before = t.world.machine s.number

  abbrev behind : Machine
  behind = due before.session (PostDue (Inserting work true) b)

  abbrev here_are : ℕ
  here_are = t.world.gate.attached.bits

  abbrev mails : ℕ → Option Answer
  mails = t.world.mail s.number

  own_before : Own t.world.tables here_are t.history t.world.store before mails (t.orders s.number) (t.done s.number) (live_there t s.number) s.number
  own_before = (facts_of t h).own s.number

  waits_not : is_waiting before.point ≡ false
  waits_not = ap is_waiting at

  told_none : (found : Option Answer) → ((answer : Answer) → found ≡ Some answer → ⊥) → found ≡ None
  told_none None never = refl
  told_none (Some answer) never = absurd (never answer refl)

  unanswered : (c : ℕ) → IsIn here_are c → told_by before mails c ≡ None
  unanswered c in_it = told_none (told_by before mails c)
      (λ answer e. let z : true ≡ false = (own_before.heard c (Inserting work false) answer in_it (ap stage_at at) e).posted in cc)

  silent_behind : (c : ℕ) (answer : Answer) → IsIn here_are c → told_by behind mails c ≡ Some answer → ⊥
  silent_behind c answer in_it e = let z : None ≡ Some answer = sym (unanswered c in_it) ∙ e in cc

  order_before : IsInOrder here_are before (Inserting work false)
  order_before = own_before.in_order (Inserting work false) (ap stage_at at)

  order_behind : IsInOrder here_are behind (Inserting work true)
  order_behind = record {
    rising = order_before.rising;
    above = λ c e. order_before.above c (ap asked_in at ∙ e);
    below = λ c d up in_it less told. order_before.below c d refl in_it less (elim told [ inl e ↦ inl (ap asked_in at ∙ e) | inr e ↦ inr e ]);
    one = λ single. absurd (let z : true ≡ false = single in cc);
  }

  stand_behind : (c : ℕ) → stand behind mails c ≡ stand before mails c
  stand_behind c = sym (ap (λ (p : Point). standing_by before.session.gate p (stage_at p) (told_by before mails c)) at)

  turned_own : Own t.world.tables here_are t.history t.world.store behind mails (t.orders s.number) (t.done s.number) (live_there t s.number) s.number
  turned_own = record {
    stranger = λ is. absurd (real s is);
    inside = subst (λ (p : Point). FitsPoint (stage_at p) p before.session.gate) at own_before.inside;
    classed = subst (IsClassedAt t.world.tables) at own_before.classed;
    asked = λ c p sound e. absurd (let line = own_before.asked c p sound e in free_of before.point waits_not line.stage line.at line.waits);
    untold = own_before.untold;
    answer = λ c answer e. absurd (let line = (own_before.answer c answer e).1 in free_of before.point waits_not line.stage line.at line.waits);
    in_order = λ x e. subst (IsInOrder here_are behind) (let z : Some (Inserting work true) ≡ Some x = e in let same : Inserting work true ≡ x = cc in same) order_behind;
    heard = λ c x answer in_it e says. absurd (silent_behind c answer in_it says);
    parting = λ y best own among onward e. absurd (let z : PostDue (Inserting work true) b ≡ SplitDue y best own among onward = e in cc);
    causes = λ c cause e. absurd (let z : actions.Post b (request_of (Inserting work true)) ≡ actions.Detach c cause = e in cc);
    stands = λ c in_it. subst (λ (x : Standing). Stands (single t) s.number (leaving_of t.world.tables s.number t.history) x ((t.world.store c).transaction s.number) ((single t).transaction s.number)) (sym (stand_behind c)) (own_before.stands c in_it);
    crossed = own_before.crossed;
    unchanged = own_before.unchanged;
    closes = λ c l in_it e. absurd (let z : Some (Inserting work true) ≡ Some Closing = e in cc);
    reasons = λ x by code e is says. absurd (elim says [
      | inl y ↦ silent_behind y.0 (answers.Refused code) y.1 y.2
      | inr y ↦ y.0
    ]);
    posts = own_before.posts ∙ ap (λ (p : Point). where_live (live_there t s.number) (wants_of p (stage_at p))) at;
    replies = λ by outcome e f. absurd (let z : None ≡ Some outcome = f in cc);
    orders = subst (λ (p : Point). IsUnderWay p (t.orders s.number)) at own_before.orders;
    order_is = λ by e. subst (λ (p : Point). OrderAt before.session p by) at (own_before.order_is by e);
    since = own_before.since;
    commits = λ c by in_it e f. absurd (let z : false ≡ true = f in cc);
    done_first = λ c by e entered in_it f. own_before.done_first c by e entered in_it (λ x. f (stand_behind c ∙ x));
  }

  abbrev turned_to : Tracked
  turned_to = record { world = record { tables = t.world.tables; gate = t.world.gate; machine = with_at t.world.machine s.number behind; store = t.world.store; mail = t.world.mail }; history = t.history; orders = t.orders; done = t.done }

  turned_holds : Invariant turned_to
  turned_holds =
      subst (λ (y : ℕ → Option Told). Invariant (record { world = record { tables = t.world.tables; gate = t.world.gate; machine = with_at t.world.machine s.number behind; store = t.world.store; mail = t.world.mail }; history = t.history; orders = y; done = t.done })) (with_at-self t.orders s.number)
      (subst (λ (y : ℕ → ℕ → Bool). Invariant (record { world = record { tables = t.world.tables; gate = t.world.gate; machine = with_at t.world.machine s.number behind; store = t.world.store; mail = t.world.mail }; history = t.history; orders = with_at t.orders s.number (t.orders s.number); done = y })) (with_at-self t.done s.number)
      (quiet_holds t h s behind t.world.gate (t.orders s.number) (t.done s.number) refl
      (still t.world.gate t.world.machine before.session.gate before.session.gate refl (facts_of t h).counts)
      (stands_silent t.world.tables here_are t.history before behind mails mails (λ c in_it. stand_behind c)
      (λ c in_it. ap (λ (p : Point). inserted_in (stage_at p) (told_by before mails c)) at ∙ sym (ap (inserted_in (Some (Inserting work true))) (unanswered c in_it)))
      (λ table i. record { work = i.work; inserting = ap (λ (p : Point). inserting_in (stage_at p)) at ∙ i.inserting; at = i.at }) (λ e. e))
      turned_own))

  abbrev posted_to : (ℕ → Machine) → Tracked
  posted_to machine = record { world = record { tables = t.world.tables; gate = t.world.gate; machine = machine; store = with_at t.world.store b.number (marked (posted (t.world.store b.number) s.number (requests.Run work.statement))); mail = t.world.mail }; history = t.history; orders = with_at t.orders s.number (t.orders s.number); done = with_at t.done s.number (t.done s.number) }

  pub first_posted : Invariant (posted_to (with_at t.world.machine s.number (due before.session (Waiting (Inserting work true) b))))
  first_posted =
      subst (λ (y : ℕ → Machine). Invariant (posted_to y))
      (ap (λ (y : Machine). with_at (with_at t.world.machine s.number behind) s.number (due y.session (Waiting (Inserting work true) b))) (with_at-same t.world.machine s.number behind)
      ∙ put_machine t.world.machine s.number behind (due before.session (Waiting (Inserting work true) b)))
      (posted_holds turned_to turned_holds s b (Inserting work true) (ap (λ (y : Machine). y.point) (with_at-same t.world.machine s.number behind)) refl)

-- behind any post the stage is posted
stage_holds : (t : Tracked) (h : Invariant t) (s : SessionId) (b : BackendId) (stage : Stage) → (t.world.machine s.number).point ≡ PostDue stage b
    → Invariant (record { world = record { tables = t.world.tables; gate = t.world.gate; machine = with_at t.world.machine s.number (due (t.world.machine s.number).session (Waiting (stage_posted stage) b)); store = with_at t.world.store b.number (marked (posted (t.world.store b.number) s.number (request_of stage))); mail = t.world.mail }; history = t.history; orders = with_at t.orders s.number (t.orders s.number); done = with_at t.done s.number (t.done s.number) })
stage_holds t h s b (Inserting work false) at = first_posted t h s b work at
stage_holds t h s b (Inserting work true) at = posted_holds t h s b (Inserting work true) at refl
stage_holds t h s b (Opening work) at = posted_holds t h s b (Opening work) at refl
stage_holds t h s b (Reading work ticket) at = posted_holds t h s b (Reading work ticket) at refl
stage_holds t h s b (Running work) at = posted_holds t h s b (Running work) at refl
stage_holds t h s b (Locking work table) at = posted_holds t h s b (Locking work table) at refl
stage_holds t h s b Committing at = posted_holds t h s b Committing at refl
stage_holds t h s b Closing at = posted_holds t h s b Closing at refl
stage_holds t h s b (RollingBack ending) at = posted_holds t h s b (RollingBack ending) at refl

pub post_kept : (t : Tracked) (s : SessionId) (b : BackendId) (request : Request) → Invariant t → MayHappen t.world (Of s (Posted b request)) → Invariant (tracked_after t (Of s (Posted b request)))
unfolding after_at
post_kept t s b request h may =
    let m : Machine = t.world.machine s.number in
    let d = post_due m.session m.point b request may.0 in
    let stage : Stage = d.0 in
    let at : m.point ≡ PostDue stage b = d.1 in
    subst (λ r. Invariant (tracked_after t (Of s (Posted b r)))) (sym d.2)
    (lands t (Of s (Posted b (request_of stage))) t.history
    (ap (λ (y : List Entry). fallen (after t.world (Of s (Posted b (request_of stage)))) y 65)
    (places_none (live_there t s.number) t.world s.number m (Posted b (request_of stage)) t.history refl refl refl))
    (subst (λ (y : Machine). Invariant (record { world = record { tables = t.world.tables; gate = t.world.gate; machine = with_at t.world.machine s.number y; store = with_at t.world.store b.number (marked (posted (t.world.store b.number) s.number (request_of stage))); mail = t.world.mail }; history = t.history; orders = with_at t.orders s.number (t.orders s.number); done = with_at t.done s.number (t.done s.number) }))
    (sym (ap (machine_posted m.session) at))
    (stage_holds t h s b stage at)))
