-- What sessions and recoveries have at a backend does not meet: the facts, and what of them stays where something moves.
use Rattle.std.proofs.Common.{◌≡◌, ◌≢◌, ℕ, Bool, true, false, inl, inr, refl, sym, ap, subst, ◌∙◌, is_some}
use Rattle.std.specs.Prelude.{◌⊎◌, Option, None}
use Rattle.pool_base.specs.Sets.{has}
use Rattle.pool_base.specs.declared.backend_id.BackendId.{BackendId}
use Rattle.backend_trait.specs.declared.request.Request.{Request}
use Rattle.backend_trait.specs.Rows.{with_at}
use Rattle.backend_trait.specs.Store.{Transaction, Absent, Pending, Store, lost_by}
use Rattle.session_machine.specs.declared.machine.Stage.{Stage}
use Rattle.session_machine.specs.declared.machine.Point.{Point}
use Rattle.session_machine.specs.declared.machine.Point.TheVariants.{PostDue, Waiting}
use Rattle.session_machine.specs.declared.machine.Machine.{Machine}
use Rattle.online_recovery.specs.declared.standing.Due.{Due}
use Rattle.online_recovery.specs.declared.standing.Due.TheVariants.{Resting, LostDue}
use Rattle.online_recovery.specs.declared.standing.Standing.{Standing}
use Rattle.one_copy_model.proofs.Places.{same_or_other, with_at-same, with_at-other, each_at}
use Rattle.recovery_laws.proofs.Lining.{WaitsAt}
use Rattle.play_laws.proofs.Aims.{AimsAt, Aims}
use Rattle.play_laws.proofs.Courses.{RidsBy, HasSource, IsCopy, Tidy}

-- a session neither posts nor waits there
abbrev pub IsAway : ℕ → Point → Type 0
IsAway b (PostDue stage c) = c.number ≢ b
IsAway b (Waiting stage c) = c.number ≢ b
IsAway b point = Unit {0}

-- a recovery has a transaction at its source, or is about to detach it
abbrev pub IsLostDue : Due → Type 0
IsLostDue (LostDue ending before count) = Unit {0}
IsLostDue at = ⊥

abbrev pub IsHolding : Standing → ℕ → Type 0
IsHolding r b = ((r.held.at_source ≡ true) ⊎ IsLostDue r.due) × (r.held.source.number ≡ b)

-- nobody else is at the target: these backends are attached, and these are the machines, the stores and what recoveries have
pub record IsClear (n : ℕ) (M : ℕ → Machine) (S : ℕ → Store) (X : ℕ → ℕ → Transaction) (s b : ℕ) (holds : Bool) : Type 0 where
  pub free : has n b ≡ false
  pub away : (o : ℕ) → IsAway b (M o).point
  pub none : (o : ℕ) → (S b).transaction o ≡ Absent
  pub unasked : (o : ℕ) → (S b).pending o ≡ None
  pub others : (o : ℕ) → o ≢ s → X o b ≡ Absent
  pub own : holds ≡ false → X s b ≡ Absent

-- what a recovery has at a backend is away from its session
pub record IsKept (n : ℕ) (M : ℕ → Machine) (r : Standing) (s b : ℕ) : Type 0 where
  pub away : IsAway b (M s).point
  pub held : (has n b ≡ false) ⊎ IsHolding r b

-- with the recoveries, and what they ask
pub record Facts (n : ℕ) (M : ℕ → Machine) (S : ℕ → Store) (R : ℕ → Standing) (X : ℕ → ℕ → Transaction) (A : ℕ → ℕ → Option Request) : Type 0 where
  pub tidy : (s : ℕ) → Tidy (R s)
  pub waits : (s : ℕ) (stage : Stage) (b : BackendId) → (M s).point ≡ Waiting stage b → is_some ((S b.number).pending s) ≡ true
  pub asks : (s b : ℕ) → WaitsAt (R s).held (R s).due b → is_some (A s b) ≡ true
  pub clear : (s : ℕ) → IsCopy (R s).held (R s).due → IsClear n M S X s (R s).held.target.number (R s).held.at_target
  pub keeps : (s b : ℕ) → (X s b ≡ Absent) ⊎ IsKept n M (R s) s b
  pub sources : (s : ℕ) → HasSource (R s).held (R s).due → (S (R s).held.source.number).transaction s ≡ Absent
  pub apart : (s : ℕ) → HasSource (R s).held (R s).due → IsCopy (R s).held (R s).due → (R s).held.source.number ≢ (R s).held.target.number

-- Bits.

pub still_out : (n m b : ℕ) → (has m b ≡ true → has n b ≡ true) → has n b ≡ false → has m b ≡ false
still_out n m b less out = by (has m b) less
  where
    by : (v : Bool) → (v ≡ true → has n b ≡ true) → v ≡ false
    by true f = absurd (let z : true ≡ false = sym (f refl) ∙ out in cc)
    by false f = refl

pub aims_away : (n b : ℕ) (point : Point) → AimsAt n point → has n b ≡ false → IsAway b point
aims_away n b (PostDue stage c) aims out = λ e. let z : true ≡ false = sym aims ∙ (ap (has n) e ∙ out) in cc
aims_away n b (Waiting stage c) aims out = absurd aims
aims_away n b point aims out = tt

no_wait : (n : ℕ) (point : Point) (stage : Stage) (b : BackendId) → AimsAt n point → point ≡ Waiting stage b → ⊥
no_wait n point stage b aims e = subst (AimsAt n) e aims

-- a recovery at rest holds nothing
pub rests_free : (r : Standing) (b : ℕ) → Tidy r → r.due ≡ Resting → IsHolding r b → ⊥
rests_free r b tidy rests holds =
    let rid = subst (λ (d : Due). RidsBy d r.held.at_source r.held.at_target) rests tidy.rids in
    elim holds.0 [
      | inl e ↦ (let z : true ≡ false = sym e ∙ rid.0 in cc)
      | inr e ↦ subst IsLostDue rests e
    ]

module _ (n : ℕ) (M : ℕ → Machine) (S : ℕ → Store) (R : ℕ → Standing) (X : ℕ → ℕ → Transaction) (A : ℕ → ℕ → Option Request) (f : Facts n M S R X A) where
  -- Another thing of a session than a post, where the stores are as they were or keep what counts.

  module _ (m : ℕ) (less : (b : ℕ) → has m b ≡ true → has n b ≡ true) (s : ℕ) (x : Machine) (rests : (R s).due ≡ Resting) (aims : Aims m x) (N : ℕ → Store)
      (pending : (o : ℕ) → o ≢ s → (b : ℕ) → is_some ((S b).pending o) ≡ true → is_some ((N b).pending o) ≡ true)
      (unasked : (b : ℕ) → ((o : ℕ) → (S b).pending o ≡ None) → (o : ℕ) → (N b).pending o ≡ None)
      (none : (o b : ℕ) → o ≢ s → (S b).transaction o ≡ Absent → (N b).transaction o ≡ Absent)
      (clear : (b : ℕ) → ((o : ℕ) → (S b).pending o ≡ None) → (o : ℕ) → (S b).transaction o ≡ Absent → (N b).transaction o ≡ Absent) where
    waits_on : (o : ℕ) (stage : Stage) (b : BackendId) → (with_at M s x o).point ≡ Waiting stage b → is_some ((N b.number).pending o) ≡ true
    waits_on = each_at (λ o k. (stage : Stage) (b : BackendId) → k.point ≡ Waiting stage b → is_some ((N b.number).pending o) ≡ true) M s x
        (λ stage b e. absurd (no_wait m x.point stage b aims e))
        (λ o other stage b e. pending o other b.number (f.waits o stage b e))

    clear_on : (o : ℕ) → IsCopy (R o).held (R o).due → IsClear m (with_at M s x) N X o (R o).held.target.number (R o).held.at_target
    clear_on o copy =
        let c = f.clear o copy in
        let b = (R o).held.target.number in
        let out : has m b ≡ false = still_out n m b (less b) c.free in
        record {
          free = out;
          away = each_at (λ k y. IsAway b y.point) M s x (aims_away m b x.point aims out) (λ k other. c.away k);
          none = λ k. clear b c.unasked k (c.none k);
          unasked = unasked b c.unasked;
          others = c.others;
          own = c.own;
        }

    kept_on : (o b : ℕ) → IsKept n M (R o) o b → IsKept m (with_at M s x) (R o) o b
    kept_on o b k = record {
      away = each_at (λ j y. j ≡ o → IsAway b y.point) M s x (λ e. aims_away m b x.point aims (still_out n m b (less b) (gone o b k e))) (λ j other e. subst (λ i. IsAway b (M i).point) (sym e) k.away) o refl;
      held = elim k.held [ inl out ↦ inl (still_out n m b (less b) out) | inr holds ↦ inr holds ];
    }
      where
        gone : (o b : ℕ) → IsKept n M (R o) o b → s ≡ o → has n b ≡ false
        gone o b k e = elim k.held [
          | inl out ↦ out
          | inr holds ↦ absurd (rests_free (R s) b (f.tidy s) rests (subst (λ i. IsHolding (R i) b) (sym e) holds))
        ]

    sources_on : (o : ℕ) → HasSource (R o).held (R o).due → (N (R o).held.source.number).transaction o ≡ Absent
    sources_on o has_one = elim (same_or_other o s) [
      | inl e ↦
          let r = subst (λ i. HasSource (R i).held (R i).due) e has_one in
          absurd (rests_free (R s) (R s).held.source.number (f.tidy s) rests (inl (subst (HasSource (R s).held) rests r), refl))
      | inr other ↦ none o (R o).held.source.number other (f.sources o has_one)
    ]

    pub session_facts : Facts m (with_at M s x) N R X A
    session_facts = record {
      tidy = f.tidy;
      waits = waits_on;
      asks = f.asks;
      clear = clear_on;
      keeps = λ o b. elim (f.keeps o b) [ inl none ↦ inl none | inr k ↦ inr (kept_on o b k) ];
      sources = sources_on;
      apart = f.apart;
    }

  -- A post of a session.

  module _ (s : ℕ) (b : BackendId) (stage : Stage) (x : Machine) (due : (M s).point ≡ PostDue stage b) (posted : (next : Stage) × (x.point ≡ Waiting next b)) (y : Store)
      (transaction : y.transaction ≡ (S b.number).transaction) (own : is_some (y.pending s) ≡ true) (pending : (o : ℕ) → is_some ((S b.number).pending o) ≡ true → is_some (y.pending o) ≡ true) where
    abbrev N : ℕ → Store
    N = with_at S b.number y

    waits_behind : (o : ℕ) → (k : ℕ) → is_some ((S k).pending o) ≡ true → is_some ((N k).pending o) ≡ true
    waits_behind o = each_at (λ k z. is_some ((S k).pending o) ≡ true → is_some (z.pending o) ≡ true) S b.number y (pending o) (λ k other e. e)

    same_transaction : (k : ℕ) → (N k).transaction ≡ (S k).transaction
    same_transaction = each_at (λ k z. z.transaction ≡ (S k).transaction) S b.number y transaction (λ k other. refl)

    at_post : (k : ℕ) → IsAway k (M s).point → b.number ≢ k
    at_post k away = subst (IsAway k) due away

    away_behind : (k : ℕ) → IsAway k (M s).point → IsAway k x.point
    away_behind k away = subst (IsAway k) (sym posted.1) (at_post k away)

    number_is : (next : Stage) (c : BackendId) → x.point ≡ Waiting next c → b.number ≡ c.number
    number_is next c e = ap (λ (z : BackendId). z.number) (let w : Waiting posted.0 b ≡ Waiting next c = sym posted.1 ∙ e in let q : b ≡ c = cc in q)

    pub post_facts : Facts n (with_at M s x) N R X A
    post_facts = record {
      tidy = f.tidy;
      waits = each_at (λ o z. (next : Stage) (c : BackendId) → z.point ≡ Waiting next c → is_some ((N c.number).pending o) ≡ true) M s x
          (λ next c e. subst (λ k. is_some ((N k).pending s) ≡ true) (number_is next c e) (subst (λ (z : Store). is_some (z.pending s) ≡ true) (sym (with_at-same S b.number y)) own))
          (λ o other next c e. waits_behind o c.number (f.waits o next c e));
      asks = f.asks;
      clear = λ o copy.
          let c = f.clear o copy in
          let k = (R o).held.target.number in
          let other : k ≢ b.number = λ e. at_post k (c.away s) (sym e) in
          let same : N k ≡ S k = with_at-other S b.number y k other in
          record {
            free = c.free;
            away = each_at (λ j z. IsAway k z.point) M s x (away_behind k (c.away s)) (λ j unlike. c.away j);
            none = λ j. ap (λ (z : Store). z.transaction j) same ∙ c.none j;
            unasked = λ j. ap (λ (z : Store). z.pending j) same ∙ c.unasked j;
            others = c.others;
            own = c.own;
          };
      keeps = λ o k. elim (f.keeps o k) [
        | inl none ↦ inl none
        | inr h ↦ inr (record {
          away = each_at (λ j z. j ≡ o → IsAway k z.point) M s x (λ e. away_behind k (subst (λ i. IsAway k (M i).point) (sym e) h.away)) (λ j unlike e. subst (λ i. IsAway k (M i).point) (sym e) h.away) o refl;
          held = h.held;
        })
      ];
      sources = λ o has_one. ap (λ (t : ℕ → Transaction). t o) (same_transaction (R o).held.source.number) ∙ f.sources o has_one;
      apart = f.apart;
    }

  -- The loss of a backend.

  module _ (b : ℕ) where
    abbrev L : ℕ → Store
    L = with_at S b (lost_by (S b))

    lost_transaction : (k : ℕ) → (L k).transaction ≡ (S k).transaction
    lost_transaction = each_at (λ k z. z.transaction ≡ (S k).transaction) S b (lost_by (S b)) refl (λ k other. refl)

    lost_pending : (k : ℕ) → (L k).pending ≡ (S k).pending
    lost_pending = each_at (λ k z. z.pending ≡ (S k).pending) S b (lost_by (S b)) refl (λ k other. refl)

    pub loses : Facts n M L R X A
    loses = record {
      tidy = f.tidy;
      waits = λ o stage c e. ap (λ (g : ℕ → Option Pending). is_some (g o)) (lost_pending c.number) ∙ f.waits o stage c e;
      asks = f.asks;
      clear = λ o copy.
          let c = f.clear o copy in
          let k = (R o).held.target.number in
          record {
            free = c.free;
            away = c.away;
            none = λ j. ap (λ (g : ℕ → Transaction). g j) (lost_transaction k) ∙ c.none j;
            unasked = λ j. ap (λ (g : ℕ → Option Pending). g j) (lost_pending k) ∙ c.unasked j;
            others = c.others;
            own = c.own;
          };
      keeps = f.keeps;
      sources = λ o h. ap (λ (g : ℕ → Transaction). g o) (lost_transaction (R o).held.source.number) ∙ f.sources o h;
      apart = f.apart;
    }
