-- A store answers a session: what holds of all others, and of what did not change.
use Rattle.std.proofs.Common.{◌≡◌, ◌≢◌, ℕ, zero, suc, Bool, true, false, List, refl, sym, ap, ◌∙◌, subst, inl, inr}
use Rattle.std.specs.Prelude.{◌⊎◌, ◌&&◌, if◌then◌else◌, [], ◌∷◌, Option, Some, None}
use Rattle.std.specs.FinMap as fin
use Rattle.pool_base.specs.Sets.{has}
use Rattle.pool_base.specs.declared.session_id.SessionId.{SessionId}
use Rattle.pool_base.specs.declared.backend_id.BackendId.{BackendId}
use Rattle.pool_base.specs.declared.code.Code.{Code}
use Rattle.backend_trait.specs.declared.request.Request.{Request}
use Rattle.backend_trait.specs.declared.answer.Answer.{Answer}
use Rattle.backend_trait.specs.declared.answer.Answer.TheVariants as answers
use Rattle.backend_trait.specs.Keys.{Place}
use Rattle.backend_trait.specs.Rows.{with_at, no_changes}
use Rattle.backend_trait.specs.Store.{Live, Transaction, Alive, Pending, Store}
use Rattle.backend_trait.specs.Acts.{IsOf}
use Rattle.session_machine.specs.declared.work.Work.{Work}
use Rattle.session_machine.specs.declared.work.Class.TheVariants as classes
use Rattle.session_machine.specs.declared.machine.Machine.{Machine}
use Rattle.session_machine.specs.declared.machine.Stage.{Stage}
use Rattle.session_machine.specs.declared.machine.Stage.TheVariants.{Opening, Reading, Running, Locking, Inserting, Committing, Closing, RollingBack}
use Rattle.session_machine.specs.Rules.{request_of}
use Rattle.one_copy_model.specs.declared.deed.Entry.{Entry}
use Rattle.one_copy_model.specs.declared.event.Event.TheVariants.{Act}
use Rattle.one_copy_model.specs.Marks.{marked}
use Rattle.one_copy_model.specs.Numbers.{some_below}
use Rattle.one_copy_model.specs.World.{after, with_mail}
use Rattle.one_copy_model.specs.SingleRun.{after_answer}
use Rattle.one_copy_model.specs.Deaths.{is_live, is_alive_at, is_alive, stage_at, heard_from, mail_or}
use Rattle.one_copy_model.specs.Tracking.{Told, Tracked, single, tracked_after, is_commit, waits_for_commit}
use Rattle.one_copy_model.specs.Chains.{IsHeard, AreShaped, asked_in}
use Rattle.one_copy_model.specs.Standing.{Standing, Nowhere, Fresh, Ahead, Leaving, Fallen, Ending, same, Stands, standing_by, standing_in, leaving_of}
use Rattle.one_copy_model.specs.Invariant.{Invariant, IsInLine, IsHere, IsSound, HasReason, inserted_in, numbers_behind}
use Rattle.one_copy_model.specs.Places.{asks_of}
use Rattle.session_machine.specs.declared.machine.Point.TheVariants.{Waiting}
use Rattle.backend_trait.specs.declared.request.Request.TheVariants as requests
use Rattle.backend_trait.specs.Store.{is_refusal}
use Rattle.one_copy_model.specs.Own.{told_by, stand, IsIn, Own, Speaks}
use Rattle.one_copy_model.specs.Facts.{Going, Inserted, Shared}
use Rattle.one_copy_model.proofs.Places.{same_or_other, with_at-same, with_at-other}
use Rattle.one_copy_model.proofs.Turning.{FactsOf, facts_of, invariant_of, live_there}
use Rattle.one_copy_model.proofs.Quiet.{real}
use Rattle.one_copy_model.proofs.Landing.{lands}
use Rattle.one_copy_model.proofs.Livings.{and_true}
use Rattle.one_copy_laws.proofs.ChainsTaking.{none_below}
use Rattle.one_copy_laws.proofs.PostsStoring.{remarks}
use Rattle.one_copy_laws.proofs.ActsHolding.{or_first, or_second, or_true}
use Rattle.one_copy_laws.specs.Acted.{done_by_act, with_answer, GoingBehind, InsertedBehind, IsAct}

-- a commit that is done is done by one more
did_more : (v : Bool) (done : ℕ → ℕ → Bool) (s b o c : ℕ) → done o c ≡ true → done_by_act v done s b o c ≡ true
did_more false done s b o c e = e
did_more true done s b o c e = elim (same_or_other o s) [
  | inl is ↦ ap (λ k. with_at done s (with_at (done s) b true) k c) is ∙ ap (λ (f : ℕ → Bool). f c) (with_at-same done s (with_at (done s) b true)) ∙ elim (same_or_other c b) [
    | inl at ↦ ap (with_at (done s) b true) at ∙ with_at-same (done s) b true
    | inr off ↦ with_at-other (done s) b true c off ∙ ap (λ k. done k c) (sym is) ∙ e
  ]
  | inr other ↦ ap (λ (f : ℕ → Bool). f c) (with_at-other done s (with_at (done s) b true) o other) ∙ e
]

did_here : (v : Bool) (done : ℕ → ℕ → Bool) (s b : ℕ) → v ≡ true → done_by_act v done s b s b ≡ true
did_here false done s b e = absurd (let z : false ≡ true = e in cc)
did_here true done s b e = ap (λ (f : ℕ → Bool). f b) (with_at-same done s (with_at (done s) b true)) ∙ with_at-same (done s) b true

-- a chain that waits for a commit is done by it; in another nobody leaves
abbrev pub is_leaving : Standing → Bool
is_leaving Nowhere = false
is_leaving Fresh = false
is_leaving (Ahead asked) = false
is_leaving Leaving = true
is_leaving Fallen = false
is_leaving Ending = false

leaves_not : (x : Standing) → is_leaving x ≡ false → x ≡ Leaving → ⊥
leaves_not x e f = let z : true ≡ false = sym (ap is_leaving f) ∙ e in cc

commits_or_stays : (stage : Stage) → (is_commit (request_of stage) ≡ true) ⊎ (is_leaving (standing_in stage None) ≡ false)
commits_or_stays (Opening work) = inr refl
commits_or_stays (Reading work ticket) = inr refl
commits_or_stays (Running work) = inr refl
commits_or_stays (Locking work table) = inr refl
commits_or_stays (Inserting work posted) = inr refl
commits_or_stays Committing = inl refl
commits_or_stays Closing = inl refl
commits_or_stays (RollingBack ending) = inr refl

-- who has answered leaves no more
fallen_or : (v : Bool) (behind : Standing) → is_leaving behind ≡ false → is_leaving (if v then Fallen else behind) ≡ false
fallen_or true behind e = refl
fallen_or false behind e = e

pub none_leaves : (stage : Stage) (answer : Answer) → is_leaving (standing_in stage (Some answer)) ≡ false
none_leaves (Opening work) answer = fallen_or (is_refusal answer) Fresh refl
none_leaves (Reading work ticket) answer = fallen_or (is_refusal answer) same refl
none_leaves (Running work) answer = fallen_or (is_refusal answer) (Ahead (requests.Run work.statement ∷ [])) refl
none_leaves (Locking work table) answer = fallen_or (is_refusal answer) (Ahead (requests.Lock table ∷ [])) refl
none_leaves (Inserting work posted) answer = fallen_or (is_refusal answer) (Ahead (requests.Run work.statement ∷ asks_of work ∷ [])) refl
none_leaves Committing answer = fallen_or (is_refusal answer) Nowhere refl
none_leaves Closing answer = fallen_or (is_refusal answer) Nowhere refl
none_leaves (RollingBack ending) answer = fallen_or (is_refusal answer) Nowhere refl

untold_in : (stage : Stage) → inserted_in (Some stage) None ≡ None
untold_in (Opening work) = refl
untold_in (Reading work ticket) = refl
untold_in (Running work) = refl
untold_in (Locking work table) = refl
untold_in (Inserting work true) = refl
untold_in (Inserting work false) = refl
untold_in Committing = refl
untold_in Closing = refl
untold_in (RollingBack ending) = refl

both_true : (a c : Bool) → a ≡ true → c ≡ true → (a && c) ≡ true
both_true true c e f = f
both_true false c e f = absurd (let z : false ≡ true = e in cc)

below_more : (p q : ℕ → Bool) → ((k : ℕ) → p k ≡ true → q k ≡ true) → (n : ℕ) → some_below p n ≡ true → some_below q n ≡ true
below_more p q more zero e = e
below_more p q more (suc n) e = elim (or_true (p n) (some_below p n) e) [
  | inl is ↦ or_first (q n) (some_below q n) (more n is)
  | inr rest ↦ or_second (q n) (some_below q n) (below_more p q more n rest)
]

put_twice : (f : ℕ → Store) (b : ℕ) (x y : Store) → with_at (with_at f b x) b y ≡ with_at f b y
put_twice f b x y = λ i k. same_at k i
  where
    same_at : (k : ℕ) → with_at (with_at f b x) b y k ≡ with_at f b y k
    same_at k = elim (same_or_other k b) [
      | inl e ↦ ap (with_at (with_at f b x) b y) e ∙ with_at-same (with_at f b x) b y ∙ sym (ap (with_at f b y) e ∙ with_at-same f b y)
      | inr other ↦ with_at-other (with_at f b x) b y k other ∙ with_at-other f b x k other ∙ sym (with_at-other f b y k other)
    ]

some_is : {A : Type 0} (a c : A) → Some a ≡ Some c → a ≡ c
some_is a c e = cc

module _ (t : Tracked) (h : Invariant t) (s : SessionId) (b : BackendId) (p : Pending) (waits : (t.world.store b.number).pending s.number ≡ Some p)
    (stage : Stage) (at : BackendId) (waiting : (t.world.machine s.number).point ≡ Waiting stage at) (number : at.number ≡ b.number) (answer : Answer) where
  abbrev m : Machine
  m = t.world.machine s.number

  abbrev attached : ℕ
  attached = t.world.gate.attached.bits

  abbrev st : Store
  st = t.world.store b.number

  abbrev mail : ℕ → ℕ → Option Answer
  mail = with_mail t.world.mail s.number b.number (Some answer)

  abbrev post : ℕ → Option Answer
  post = with_at (t.world.mail s.number) b.number (Some answer)

  f : FactsOf t
  f = facts_of t h

  old : Own t.world.tables attached t.history t.world.store m (t.world.mail s.number) (t.orders s.number) (t.done s.number) (live_there t s.number) s.number
  old = f.own s.number

  at_stage : stage_at m.point ≡ Some stage
  at_stage = ap stage_at waiting

  none_told : told_by m (t.world.mail s.number) b.number ≡ None
  none_told =
      ap (λ y. mail_or y (heard_from m.session.heard b.number)) (old.untold b.number p waits)
      ∙ none_below b.number m.session.heard ((old.in_order stage at_stage).above b.number (ap asked_in waiting ∙ ap Some number))

  -- the mail: one answer more
  mail_own : mail s.number ≡ post
  mail_own = with_at-same t.world.mail s.number post

  mail_here : mail s.number b.number ≡ Some answer
  mail_here = ap (λ (g : ℕ → Option Answer). g b.number) mail_own ∙ with_at-same (t.world.mail s.number) b.number (Some answer)

  mail_other : (o k : ℕ) → (o ≢ s.number) ⊎ (k ≢ b.number) → mail o k ≡ t.world.mail o k
  mail_other o k (inl other) = ap (λ (g : ℕ → Option Answer). g k) (with_at-other t.world.mail s.number post o other)
  mail_other o k (inr off) = elim (same_or_other o s.number) [
    | inl is ↦ ap (λ j. mail j k) is ∙ ap (λ (g : ℕ → Option Answer). g k) mail_own ∙ with_at-other (t.world.mail s.number) b.number (Some answer) k off ∙ ap (λ j. t.world.mail j k) (sym is)
    | inr other ↦ ap (λ (g : ℕ → Option Answer). g k) (with_at-other t.world.mail s.number post o other)
  ]

  told_other : (o k : ℕ) → (o ≢ s.number) ⊎ (k ≢ b.number) → told_by (t.world.machine o) (mail o) k ≡ told_by (t.world.machine o) (t.world.mail o) k
  told_other o k apart = ap (λ y. mail_or y (heard_from (t.world.machine o).session.heard k)) (mail_other o k apart)

  told_here : told_by m (mail s.number) b.number ≡ Some answer
  told_here = ap (λ y. mail_or y (heard_from m.session.heard b.number)) mail_here

  stand_other : (o k : ℕ) → (o ≢ s.number) ⊎ (k ≢ b.number) → stand (t.world.machine o) (mail o) k ≡ stand (t.world.machine o) (t.world.mail o) k
  stand_other o k apart = ap (standing_by (t.world.machine o).session.gate (t.world.machine o).point (stage_at (t.world.machine o).point)) (told_other o k apart)

  stand_here : stand m (mail s.number) b.number ≡ standing_in stage (Some answer)
  stand_here = ap (λ y. standing_by m.session.gate m.point y (told_by m (mail s.number) b.number)) at_stage ∙ ap (standing_in stage) told_here

  pub stand_was : stand m (t.world.mail s.number) b.number ≡ standing_in stage None
  stand_was = ap (λ y. standing_by m.session.gate m.point y (told_by m (t.world.mail s.number) b.number)) at_stage ∙ ap (standing_in stage) none_told

  -- who leaves and who has inserted
  pub to_going : (o k : ℕ) (q : Place) → (o ≢ s.number) ⊎ (k ≢ b.number) → Going t.world.tables t.history (t.world.machine o) (t.world.mail o) o k q → Going t.world.tables t.history (t.world.machine o) (mail o) o k q
  to_going o k q apart g = record { leaves = stand_other o k apart ∙ g.leaves; last = g.last; was = g.was; changes = g.changes }

  from_going : (o k : ℕ) (q : Place) → (o ≢ s.number) ⊎ (k ≢ b.number) → Going t.world.tables t.history (t.world.machine o) (mail o) o k q → Going t.world.tables t.history (t.world.machine o) (t.world.mail o) o k q
  from_going o k q apart g = record { leaves = sym (stand_other o k apart) ∙ g.leaves; last = g.last; was = g.was; changes = g.changes }

  to_inserted : (o k table : ℕ) (work : Work) → (o ≢ s.number) ⊎ (k ≢ b.number) → Inserted t.world.tables t.history (t.world.machine o) (t.world.mail o) o k table work → Inserted t.world.tables t.history (t.world.machine o) (mail o) o k table work
  to_inserted o k table work apart i = record { live = i.live; inserted = ap (inserted_in (stage_at (t.world.machine o).point)) (told_other o k apart) ∙ i.inserted; at = i.at }

  from_inserted : (o k table : ℕ) (work : Work) → (o ≢ s.number) ⊎ (k ≢ b.number) → Inserted t.world.tables t.history (t.world.machine o) (mail o) o k table work → Inserted t.world.tables t.history (t.world.machine o) (t.world.mail o) o k table work
  from_inserted o k table work apart i = record { live = i.live; inserted = sym (ap (inserted_in (stage_at (t.world.machine o).point)) (told_other o k apart)) ∙ i.inserted; at = i.at }

  mine_stays : stand m (mail s.number) b.number ≡ Leaving → ⊥
  mine_stays e = leaves_not (standing_in stage (Some answer)) (none_leaves stage answer) (sym stand_here ∙ e)

  going_was : (o k : ℕ) (q : Place) → Going t.world.tables t.history (t.world.machine o) (mail o) o k q → Going t.world.tables t.history (t.world.machine o) (t.world.mail o) o k q
  going_was o k q g = by (same_or_other o s.number) (same_or_other k b.number)
    where
      by : (o ≡ s.number) ⊎ (o ≢ s.number) → (k ≡ b.number) ⊎ (k ≢ b.number) → Going t.world.tables t.history (t.world.machine o) (t.world.mail o) o k q
      by (inr other) any = from_going o k q (inl other) g
      by (inl is) (inr off) = from_going o k q (inr off) g
      by (inl is) (inl here) = absurd (mine_stays (ap (stand m (mail s.number)) (sym here) ∙ ap (λ j. stand (t.world.machine j) (mail j) k) (sym is) ∙ g.leaves))

  -- who leaves here leaves on, where the session that is answered did not leave; who has inserted has inserted on
  pub going_forth : is_leaving (standing_in stage None) ≡ false → (o : ℕ) (q : Place) → Going t.world.tables t.history (t.world.machine o) (t.world.mail o) o b.number q → GoingBehind t s.number b.number answer o q
  going_forth stays o q g = elim (same_or_other o s.number) [
    | inl is ↦ absurd (leaves_not (standing_in stage None) stays (sym stand_was ∙ ap (λ j. stand (t.world.machine j) (t.world.mail j) b.number) (sym is) ∙ g.leaves))
    | inr other ↦ to_going o b.number q (inl other) g
  ]

  pub inserted_forth : (o table : ℕ) (work : Work) → Inserted t.world.tables t.history (t.world.machine o) (t.world.mail o) o b.number table work → InsertedBehind t s.number b.number answer o table work
  inserted_forth o table work i = elim (same_or_other o s.number) [
    | inl is ↦ absurd (let z : None ≡ Some work = sym (untold_in stage) ∙ sym (ap (λ y. inserted_in y (told_by m (t.world.mail s.number) b.number)) at_stage ∙ ap (inserted_in (Some stage)) none_told)
        ∙ ap (λ j. inserted_in (stage_at (t.world.machine j).point) (told_by (t.world.machine j) (t.world.mail j) b.number)) (sym is) ∙ i.inserted in cc)
    | inr other ↦ to_inserted o b.number table work (inl other) i
  ]

  pub uninserted : (table : ℕ) (work : Work) → Inserted t.world.tables t.history (t.world.machine s.number) (t.world.mail s.number) s.number b.number table work → ⊥
  uninserted table work i =
      let z : None ≡ Some work =
      sym (untold_in stage)
      ∙ sym (ap (λ y. inserted_in y (told_by m (t.world.mail s.number) b.number)) at_stage ∙ ap (inserted_in (Some stage)) none_told)
      ∙ i.inserted in
      cc

  pub inserted_mine : (table : ℕ) (work : Work) → is_live ((single t).transaction s.number) ≡ true → inserted_in (Some stage) (Some answer) ≡ Some work → work.class ≡ classes.SerialInsert table → InsertedBehind t s.number b.number answer s.number table work
  inserted_mine table work lives e class = record {
    live = lives;
    inserted = ap (λ y. inserted_in y (told_by m (mail s.number) b.number)) at_stage ∙ ap (inserted_in (Some stage)) told_here ∙ e;
    at = class;
  }

  -- the session that is answered has inserted where its answer says so; another had before
  pub inserted_back : (o table : ℕ) (work : Work) → InsertedBehind t s.number b.number answer o table work
      → ((o ≡ s.number) × (inserted_in (Some stage) (Some answer) ≡ Some work)) ⊎ ((o ≢ s.number) × Inserted t.world.tables t.history (t.world.machine o) (t.world.mail o) o b.number table work)
  inserted_back o table work i = elim (same_or_other o s.number) [
    | inl is ↦ inl (
      is,
      sym (ap (λ y. inserted_in y (told_by m (mail s.number) b.number)) at_stage ∙ ap (inserted_in (Some stage)) told_here)
          ∙ ap (λ j. inserted_in (stage_at (t.world.machine j).point) (told_by (t.world.machine j) (mail j) b.number)) (sym is) ∙ i.inserted,
    )
    | inr other ↦ inr (other, from_inserted o b.number table work (inl other) i)
  ]

  pub stands_was : IsHere t.world b.number
      → Stands (single t) s.number (leaving_of t.world.tables s.number t.history) (standing_in stage None) ((t.world.store b.number).transaction s.number) ((single t).transaction s.number)
  stands_was in_it = subst (λ (y : Standing). Stands (single t) s.number (leaving_of t.world.tables s.number t.history) y ((t.world.store b.number).transaction s.number) ((single t).transaction s.number)) stand_was (h.stands s.number b.number in_it)

  -- the store: it has answered
  module _ (asks : p.request ≡ request_of stage) (x : Store) (a : IsAct t s b stage answer x) where
    abbrev now : ℕ → Store
    now = with_at t.world.store b.number x

    abbrev v : Bool
    v = waits_for_commit (st.pending s.number)

    abbrev did : ℕ → ℕ → Bool
    did = done_by_act v t.done s.number b.number

    abbrev mid : Tracked
    mid = with_answer t s.number b.number answer x

    -- the stores: one has answered
    store_here : {A : Type 0} (g : Store → A) (k : ℕ) → k ≡ b.number → g (now k) ≡ g x
    store_here g k is = ap (λ j. g (now j)) is ∙ ap g (with_at-same t.world.store b.number x)

    store_off : {A : Type 0} (g : Store → A) (k : ℕ) → k ≢ b.number → g (now k) ≡ g (t.world.store k)
    store_off g k off = ap g (with_at-other t.world.store b.number x k off)

    store_as : {A : Type 0} (g : Store → A) → g x ≡ g st → (k : ℕ) → g (now k) ≡ g (t.world.store k)
    store_as g same_g k = elim (same_or_other k b.number) [
      | inl is ↦ store_here g k is ∙ same_g ∙ ap (λ j. g (t.world.store j)) (sym is)
      | inr off ↦ store_off g k off
    ]

    pending_other : (o : ℕ) → o ≢ s.number → (k : ℕ) → (now k).pending o ≡ (t.world.store k).pending o
    pending_other o other = store_as (λ (y : Store). y.pending o) (ap (λ (g : ℕ → Option Pending). g o) a.pending ∙ with_at-other st.pending s.number None o other)

    pending_none : (k : ℕ) → k ≡ b.number → (now k).pending s.number ≡ None
    pending_none k is = store_here (λ (y : Store). y.pending s.number) k is ∙ ap (λ (g : ℕ → Option Pending). g s.number) a.pending ∙ with_at-same st.pending s.number None

    -- what waits for the session waits elsewhere
    waits_off : (k : ℕ) (q : Pending) → (now k).pending s.number ≡ Some q → (k ≢ b.number) × ((t.world.store k).pending s.number ≡ Some q)
    waits_off k q e = elim (same_or_other k b.number) [
      | inl is ↦ absurd (let z : None ≡ Some q = sym (pending_none k is) ∙ e in cc)
      | inr off ↦ (off, sym (store_off (λ (y : Store). y.pending s.number) k off) ∙ e)
    ]

    lost_as : (k : ℕ) → (now k).lost ≡ (t.world.store k).lost
    lost_as = store_as (λ (y : Store). y.lost) a.lost

    own_mine : Own t.world.tables attached t.history now m (mail s.number) (t.orders s.number) (did s.number) (live_there t s.number) s.number
    own_mine = record {
      stranger = λ is. absurd (real s is);
      inside = old.inside;
      classed = old.classed;
      asked = λ k q sound e. let w = waits_off k q e in old.asked k q (sym (lost_as k) ∙ sound) w.1;
      untold = λ k q e. let w = waits_off k q e in mail_other s.number k (inr w.0) ∙ old.untold k q w.1;
      answer = λ k c e. answer_at k c (same_or_other k b.number) e;
      in_order = old.in_order;
      heard = λ k y c in_it e says. hears k y c (same_or_other k b.number) in_it e says;
      parting = old.parting;
      causes = old.causes;
      stands = λ k in_it. stands_at k (same_or_other k b.number) in_it;
      crossed = λ k q r in_it sound e there mark. let w = waits_off k q e in old.crossed k q r in_it (sym (lost_as k) ∙ sound) w.1 there mark;
      unchanged = old.unchanged;
      closes = λ k l in_it e is. closes_at k l (same_or_other k b.number) in_it e is;
      reasons = λ y by code e is says. reasons_at y by code e is says;
      posts = old.posts;
      replies = old.replies;
      orders = old.orders;
      order_is = old.order_is;
      since = old.since;
      commits = old.commits;
      done_first = λ k by is entered in_it stays. done_at k by (same_or_other k b.number) is entered in_it stays;
    }
      where
        stages : (y : Stage) → stage_at m.point ≡ Some y → stage ≡ y
        stages y e = some_is stage y (sym at_stage ∙ e)

        answer_at : (k : ℕ) (c : Answer) → (k ≡ b.number) ⊎ (k ≢ b.number) → mail s.number k ≡ Some c → (request : Request) × IsInLine m k request × IsOf request c
        answer_at k c (inl is) e =
            let same_c : answer ≡ c = some_is answer c (sym mail_here ∙ ap (mail s.number) (sym is) ∙ e) in
            (request_of stage, record { stage = stage; at = at; waits = waiting; number = number ∙ sym is; asks = refl; posted = a.posted }, subst (IsOf (request_of stage)) same_c a.form)
        answer_at k c (inr off) e = old.answer k c (sym (mail_other s.number k (inr off)) ∙ e)

        hears : (k : ℕ) (y : Stage) (c : Answer) → (k ≡ b.number) ⊎ (k ≢ b.number) → IsIn attached k → stage_at m.point ≡ Some y → told_by m (mail s.number) k ≡ Some c → IsHeard (single t) s.number y c
        hears k y c (inl is) in_it e says =
            let same_c : answer ≡ c = some_is answer c (sym told_here ∙ ap (told_by m (mail s.number)) (sym is) ∙ says) in
            subst (λ z. IsHeard (single t) s.number z c) (stages y e) (subst (IsHeard (single t) s.number stage) same_c (a.heard (subst (IsIn attached) is in_it)))
        hears k y c (inr off) in_it e says = old.heard k y c in_it e (sym (told_other s.number k (inr off)) ∙ says)

        stands_at : (k : ℕ) → (k ≡ b.number) ⊎ (k ≢ b.number) → IsIn attached k
            → Stands (single t) s.number (leaving_of t.world.tables s.number t.history) (stand m (mail s.number) k) ((now k).transaction s.number) ((single t).transaction s.number)
        stands_at k (inl is) in_it =
            subst (λ (y : Standing). Stands (single t) s.number (leaving_of t.world.tables s.number t.history) y ((now k).transaction s.number) ((single t).transaction s.number)) (sym (ap (stand m (mail s.number)) is ∙ stand_here))
            (subst (λ (y : Transaction). Stands (single t) s.number (leaving_of t.world.tables s.number t.history) (standing_in stage (Some answer)) y ((single t).transaction s.number)) (sym (store_here (λ (y : Store). y.transaction s.number) k is))
            (a.stands (subst (IsIn attached) is in_it)))
        stands_at k (inr off) in_it =
            subst (λ (y : Standing). Stands (single t) s.number (leaving_of t.world.tables s.number t.history) y ((now k).transaction s.number) ((single t).transaction s.number)) (sym (stand_other s.number k (inr off)))
            (subst (λ (y : Transaction). Stands (single t) s.number (leaving_of t.world.tables s.number t.history) (stand m (t.world.mail s.number) k) y ((single t).transaction s.number)) (sym (store_off (λ (y : Store). y.transaction s.number) k off))
            (old.stands k in_it))

        closes_at : (k : ℕ) (l : Live) → (k ≡ b.number) ⊎ (k ≢ b.number) → IsIn attached k → stage_at m.point ≡ Some Closing → (now k).transaction s.number ≡ Alive l → l.changes ≡ no_changes
        closes_at k l (inl here) in_it e is = a.closes (subst (IsIn attached) here in_it) l (stages Closing e) (sym (store_here (λ (y : Store). y.transaction s.number) k here) ∙ is)
        closes_at k l (inr off) in_it e is = old.closes k l in_it e (sym (store_off (λ (y : Store). y.transaction s.number) k off) ∙ is)

        reasons_at : (y : Stage) (by : Told) (code : Code) → stage_at m.point ≡ Some y → t.orders s.number ≡ Some by → Speaks attached m (mail s.number) (answers.Refused code) → HasReason t.world.tables y s.number code by.entries t.history
        reasons_at y by code e is (inr kept) = old.reasons y by code e is (inr kept)
        reasons_at y by code e is (inl says) = elim (same_or_other says.0 b.number) [
          | inl here ↦ subst (λ z. HasReason t.world.tables z s.number code by.entries t.history) (stages y e)
              (a.reasons (subst (IsIn attached) here says.1) by code is (some_is answer (answers.Refused code) (sym told_here ∙ ap (told_by m (mail s.number)) (sym here) ∙ says.2)))
          | inr off ↦ old.reasons y by code e is (inl (says.0, says.1, sym (told_other s.number says.0 (inr off)) ∙ says.2))
        ]

        done_at : (k : ℕ) (by : Told) → (k ≡ b.number) ⊎ (k ≢ b.number) → t.orders s.number ≡ Some by → by.entered ≡ true → IsIn attached k → stand m (mail s.number) k ≢ Leaving → did s.number k ≡ true
        done_at k by (inr off) is entered in_it stays =
            did_more v t.done s.number b.number s.number k (old.done_first k by is entered in_it (λ e. stays (stand_other s.number k (inr off) ∙ e)))
        done_at k by (inl here) is entered in_it stays = elim (commits_or_stays stage) [
          | inl commits ↦ ap (did s.number) here ∙ did_here v t.done s.number b.number (ap waits_for_commit waits ∙ ap is_commit asks ∙ commits)
          | inr stayed ↦ did_more v t.done s.number b.number s.number k
              (old.done_first k by is entered in_it (λ e. leaves_not (standing_in stage None) stayed (sym stand_was ∙ ap (stand m (t.world.mail s.number)) (sym here) ∙ e)))
        ]

    own_other : (o : ℕ) → o ≢ s.number → Own t.world.tables attached t.history now (t.world.machine o) (mail o) (t.orders o) (did o) (live_there t o) o
    own_other o other =
        let g = f.own o in
        let told : (k : ℕ) → told_by (t.world.machine o) (mail o) k ≡ told_by (t.world.machine o) (t.world.mail o) k = λ k. told_other o k (inl other) in
        record {
          stranger = λ is. let r = g.stranger is in record {
            point = r.point;
            out = r.out;
            asks = λ k. pending_other o other k ∙ r.asks k;
            none = λ k. elim (same_or_other k b.number) [
              | inl here ↦ store_here (λ (y : Store). y.transaction o) k here ∙ a.none o other (r.none b.number)
              | inr off ↦ store_off (λ (y : Store). y.transaction o) k off ∙ r.none k
            ];
            told = λ k. mail_other o k (inl other) ∙ r.told k;
            none_there = r.none_there;
          };
          inside = g.inside;
          classed = g.classed;
          asked = λ k q sound e. g.asked k q (sym (lost_as k) ∙ sound) (sym (pending_other o other k) ∙ e);
          untold = λ k q e. mail_other o k (inl other) ∙ g.untold k q (sym (pending_other o other k) ∙ e);
          answer = λ k c e. g.answer k c (sym (mail_other o k (inl other)) ∙ e);
          in_order = g.in_order;
          heard = λ k y c in_it e says. g.heard k y c in_it e (sym (told k) ∙ says);
          parting = g.parting;
          causes = g.causes;
          stands = λ k in_it. stands_at k (same_or_other k b.number) in_it;
          crossed = λ k q r in_it sound e there mark. g.crossed k q r in_it (sym (lost_as k) ∙ sound) (sym (pending_other o other k) ∙ e) there mark;
          unchanged = g.unchanged;
          closes = λ k l in_it e is. elim (same_or_other k b.number) [
            | inl here ↦ (let c = a.same_changes o l other (sym (store_here (λ (y : Store). y.transaction o) k here) ∙ is) in sym c.2 ∙ g.closes b.number c.0 (subst (IsIn attached) here in_it) e c.1)
            | inr off ↦ g.closes k l in_it e (sym (store_off (λ (y : Store). y.transaction o) k off) ∙ is)
          ];
          reasons = λ y by code e is says. g.reasons y by code e is (elim says [
            | inl w ↦ inl (w.0, w.1, sym (told w.0) ∙ w.2)
            | inr kept ↦ inr kept
          ]);
          posts = g.posts;
          replies = g.replies;
          orders = g.orders;
          order_is = g.order_is;
          since = g.since;
          commits = g.commits;
          done_first = λ k by is entered in_it stays. did_more v t.done s.number b.number o k (g.done_first k by is entered in_it (λ e. stays (stand_other o k (inl other) ∙ e)));
        }
      where
        stands_at : (k : ℕ) → (k ≡ b.number) ⊎ (k ≢ b.number) → IsIn attached k
            → Stands (single t) o (leaving_of t.world.tables o t.history) (stand (t.world.machine o) (mail o) k) ((now k).transaction o) ((single t).transaction o)
        stands_at k (inl is) in_it =
            subst (λ (y : Standing). Stands (single t) o (leaving_of t.world.tables o t.history) y ((now k).transaction o) ((single t).transaction o)) (sym (stand_other o k (inl other) ∙ ap (stand (t.world.machine o) (t.world.mail o)) is))
            (subst (λ (y : Transaction). Stands (single t) o (leaving_of t.world.tables o t.history) (stand (t.world.machine o) (t.world.mail o) b.number) y ((single t).transaction o)) (sym (store_here (λ (y : Store). y.transaction o) k is))
            (a.others (subst (IsIn attached) is in_it) o other))
        stands_at k (inr off) in_it =
            subst (λ (y : Standing). Stands (single t) o (leaving_of t.world.tables o t.history) y ((now k).transaction o) ((single t).transaction o)) (sym (stand_other o k (inl other)))
            (subst (λ (y : Transaction). Stands (single t) o (leaving_of t.world.tables o t.history) (stand (t.world.machine o) (t.world.mail o) k) y ((single t).transaction o)) (sym (store_off (λ (y : Store). y.transaction o) k off))
            ((f.own o).stands k in_it))

    abbrev w : Shared t.world.tables attached t.history t.world.store t.world.machine t.world.mail
    w = f.shared

    by_store : (P : ℕ → Store → Type 0) → P b.number x → ((k : ℕ) → k ≢ b.number → P k (t.world.store k)) → (k : ℕ) → P k (now k)
    by_store P here rest k = elim (same_or_other k b.number) [
      | inl is ↦ subst (λ j. P j (now j)) (sym is) (subst (P b.number) (sym (with_at-same t.world.store b.number x)) here)
      | inr off ↦ subst (P k) (sym (with_at-other t.world.store b.number x k off)) (rest k off)
    ]

    shared_behind : Shared t.world.tables attached t.history now t.world.machine mail
    shared_behind = record {
      tables_here = by_store (λ k y. y.tables ≡ t.world.tables) (a.tables ∙ w.tables_here b.number) (λ k off. w.tables_here k);
      sound = by_store (λ k y. IsIn attached k → IsSound y) a.sound (λ k off. w.sound k);
      shaped = by_store (λ k y. AreShaped y) a.shaped (λ k off. w.shaped k);
      sound_there = w.sound_there;
      undead = w.undead;
      stale = w.stale;
      stale_here = λ o k. by_store (λ k y. (l u : Live) (q : Place) → IsIn attached k → y.transaction o ≡ Alive l → (single t).transaction o ≡ Alive u → u.stale q ≡ true → (l.stale q ≡ true) ⊎ ((j : ℕ) × Going t.world.tables t.history (t.world.machine j) (mail j) j k q))
          (λ l u q in_it is_l is_u e. a.stale_here in_it o l u q is_l is_u e)
          (λ k off l u q in_it is_l is_u e. elim (w.stale_here o k l u q in_it is_l is_u e) [ inl is ↦ inl is | inr j ↦ inr (j.0, to_going j.0 k q (inr off) j.1) ]) k;
      stale_there = λ o k. by_store (λ k y. (l u : Live) (q : Place) → IsIn attached k → y.transaction o ≡ Alive l → (single t).transaction o ≡ Alive u → l.stale q ≡ true → u.stale q ≡ true)
          (λ l u q in_it is_l is_u e. a.stale_there in_it o l u q is_l is_u e)
          (λ k off. w.stale_there o k) k;
      rows_same = by_store (λ k y. (q : Place) → IsIn attached k → ((o : ℕ) → ¬ (Going t.world.tables t.history (t.world.machine o) (mail o) o k q)) → fin.get y.rows q ≡ fin.get (single t).rows q)
          (λ q in_it none. a.rows in_it q none)
          (λ k off q in_it none. w.rows_same k q in_it (λ o g. none o (to_going o k q (inr off) g)));
      rows_left = λ o k q last in_it g is. w.rows_left o k q last in_it (going_was o k q g) is;
      numbers = by_store (λ k y. (table : ℕ) → IsIn attached k → ((o : ℕ) (work : Work) → ¬ (Inserted t.world.tables t.history (t.world.machine o) (mail o) o k table work)) → y.next table ≡ (single t).next table)
          (λ table in_it none. a.numbers in_it table none)
          (λ k off table in_it none. w.numbers k table in_it (λ o work i. none o work (to_inserted o k table work (inr off) i)));
      numbers_ahead = λ o k. by_store (λ k y. (table : ℕ) (work : Work) → IsIn attached k → Inserted t.world.tables t.history (t.world.machine o) (mail o) o k table work → y.next table ≡ numbers_behind (single t) o work table)
          (λ table work in_it i. a.ahead in_it o table work i)
          (λ k off table work in_it i. w.numbers_ahead o k table work in_it (from_inserted o k table work (inr off) i)) k;
      locks = w.locks;
      run = w.run;
    }

    pub facts_behind : FactsOf mid
    facts_behind = record {
      own = λ o. elim (same_or_other o s.number) [
        | inl is ↦ subst (λ j. Own t.world.tables attached t.history now (t.world.machine j) (mail j) (t.orders j) (did j) (live_there t j) j) (sym is) own_mine
        | inr other ↦ own_other o other
      ];
      shared = shared_behind;
      counts = f.counts;
    }

-- the store marks then what is crossed
pub marks_behind : (t : Tracked) (s : SessionId) (b : BackendId) (answer : Answer) (x : Store) → x ≡ after_answer (t.world.store b.number) s.number answer → (history : List Entry)
    → Invariant (record { world = (with_answer t s.number b.number answer x).world; history = history; orders = t.orders; done = (with_answer t s.number b.number answer x).done })
    → Invariant (record { world = after t.world (Act s b answer); history = history; orders = t.orders; done = (with_answer t s.number b.number answer x).done })
marks_behind t s b answer x is history h =
    let did : ℕ → ℕ → Bool = (with_answer t s.number b.number answer x).done in
    subst (λ (y : ℕ → Store). Invariant (record { world = record { tables = t.world.tables; gate = t.world.gate; machine = t.world.machine; store = y; mail = with_mail t.world.mail s.number b.number (Some answer) }; history = history; orders = t.orders; done = did }))
    (ap (λ (y : Store). with_at (with_at t.world.store b.number x) b.number (marked y)) (with_at-same t.world.store b.number x)
    ∙ put_twice t.world.store b.number x (marked x)
    ∙ ap (λ (y : Store). with_at t.world.store b.number (marked y)) is)
    (remarks (record { world = (with_answer t s.number b.number answer x).world; history = history; orders = t.orders; done = did }) b.number h)

-- who is alive stays alive where its own transaction does
alive_behind : (t : Tracked) (s : SessionId) (b : BackendId) (answer : Answer) (x : Store) → Invariant t → (o : ℕ)
    → (IsHere t.world b.number → is_live ((t.world.store b.number).transaction o) ≡ true → is_live (x.transaction o) ≡ true)
    → live_there t o ≡ true → is_alive (with_answer t s.number b.number answer x).world o ≡ true
unfolding is_alive
alive_behind t s b answer x h o more live =
    below_more (is_alive_at t.world o) (is_alive_at (with_answer t s.number b.number answer x).world o)
    (λ k e. let both = and_true (has t.world.gate.attached.bits k) (is_live ((t.world.store k).transaction o)) e in
    both_true (has t.world.gate.attached.bits k) (is_live ((with_at t.world.store b.number x k).transaction o)) both.0
    (elim (same_or_other k b.number) [
      | inl is ↦ ap (λ j. is_live ((with_at t.world.store b.number x j).transaction o)) is ∙ ap (λ (y : Store). is_live (y.transaction o)) (with_at-same t.world.store b.number x)
          ∙ more (subst (λ j. has t.world.gate.attached.bits j ≡ true) is both.0) (ap (λ j. is_live ((t.world.store j).transaction o)) (sym is) ∙ both.1)
      | inr off ↦ ap (λ (y : Store). is_live (y.transaction o)) (with_at-other t.world.store b.number x k off) ∙ both.1
    ])) 8 (h.alive o live)

-- an answer of which nobody dies
pub act_lands : (t : Tracked) (s : SessionId) (b : BackendId) (answer : Answer) (x : Store) → Invariant t → x ≡ after_answer (t.world.store b.number) s.number answer
    → FactsOf (with_answer t s.number b.number answer x)
    → (IsHere t.world b.number → (o : ℕ) → live_there t o ≡ true → is_live ((t.world.store b.number).transaction o) ≡ true → is_live (x.transaction o) ≡ true)
    → Invariant (tracked_after t (Act s b answer))
act_lands t s b answer x h is facts more =
    lands t (Act s b answer) t.history refl
    (marks_behind t s b answer x is t.history
    (invariant_of (with_answer t s.number b.number answer x) facts (λ o live. alive_behind t s b answer x h o (λ in_it was. more in_it o live was) live)))
