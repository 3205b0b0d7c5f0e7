-- A backend is attached where the quiet is entered: every session rests at the gate, and the facts hold of one backend more.
use Rattle.std.proofs.Common.{◌≡◌, ℕ, zero, suc, ◌<◌, ◌≤◌, ◌+◌, ◌*◌, ◌/◌, ◌%◌, ◌^◌, Bool, true, false, ◌||◌, List, refl, sym, ap, ◌∙◌, subst, inl, inr, arith, pow_mono, div-lt_iff_lt-mul, lt_of_lt_of_le}
use Rattle.std.specs.Prelude.{◌==◌, ◌&&◌, ◌⊎◌, if◌then◌else◌, Option, Some, None}
use Rattle.std.specs.FinMap as fin
use Rattle.std.proofs.lemmas.Bool.Decides.{leb_tells, eqb_tells}
use Rattle.pool_base.specs.Sets.{has, with_one}
use Rattle.pool_base.specs.declared.backend_id.BackendId.{BackendId}
use Rattle.pool_base.specs.declared.gate_call.GateCall.TheVariants.{Attach}
use Rattle.pool_base.proofs.Finite.{with_fits, with_members}
use Rattle.backend_trait.specs.Rows.{with_at}
use Rattle.backend_trait.specs.Effect.{Conflicts}
use Rattle.backend_trait.specs.Store.{Transaction, Absent, Alive, Dead, Store, held_by}
use Rattle.snapshot_gate.specs.Function.{granted}
use Rattle.session_orders.specs.declared.outcome.Outcome.{Outcome}
use Rattle.session_machine.specs.declared.machine.GatePhase.{GatePhase}
use Rattle.session_machine.specs.declared.machine.GatePhase.TheVariants as phases
use Rattle.session_machine.specs.declared.work.Work.{Work}
use Rattle.session_machine.specs.declared.machine.Stage.{Stage}
use Rattle.session_machine.specs.declared.machine.Stage.TheVariants.{Opening, Reading, Running, Locking, Inserting, Committing, Closing, RollingBack}
use Rattle.session_machine.specs.declared.machine.Point.{Point}
use Rattle.session_machine.specs.declared.machine.Point.TheVariants.{LeaveSnapshotDue}
use Rattle.one_copy_model.specs.declared.deed.Entry.{Entry}
use Rattle.one_copy_model.specs.Numbers.{some_below}
use Rattle.one_copy_model.specs.World.{World}
use Rattle.one_copy_model.specs.Deaths.{is_live, is_alive_at, is_alive, stage_at, answer_from}
use Rattle.one_copy_model.specs.Tracking.{Told, Tracked, in_commit, joined, single}
use Rattle.one_copy_model.specs.Orders.{is_of_commit}
use Rattle.one_copy_model.specs.Standing.{Standing, Nowhere, Leaving, standing_at, standing_by, standing_of, Stands, leaving_of}
use Rattle.one_copy_model.specs.Invariant.{Invariant, FitsPoint, fits_stage, in_snapshot, in_transaction, IsSound, is_dead}
use Rattle.one_copy_model.proofs.LossLaws.{none_fall}
use Rattle.one_copy_model.specs.Own.{IsIn, IsPools, pools_moment, pools_counts, pools_backends, pools_refusal, pools_nodes, IsRightBy, stand, told_by}
use Rattle.one_copy_model.specs.Facts.{Going, Inserted}
use Rattle.one_copy_model.proofs.Counts.{count_some}
use Rattle.one_copy_model.proofs.Calm.{inserts_none}
use Rattle.one_copy_model.proofs.Locks.{no_right}
use Rattle.one_copy_model.proofs.Turning.{FactsOf, facts_of, invariant_of}
use Rattle.recovery_laws.specs.Ready.{IsReady, with_backend}

-- A session that is in no snapshot and has no transaction at the gate has no chain, and stands nowhere.

out_by : (phase : GatePhase) → in_snapshot phase ≡ false → in_transaction phase ≡ false → phase ≡ phases.Out
out_by phases.Out e f = refl
out_by phases.InSnapshot e f = absurd (let z : true ≡ false = e in cc)
out_by (phases.Live changed tables) e f = absurd (let z : true ≡ false = f in cc)
out_by phases.InCommit e f = absurd (let z : true ≡ false = f in cc)

no_stage : (stage : Stage) → fits_stage stage phases.Out ≡ true → ⊥
no_stage (Opening work) e = let z : false ≡ true = e in cc
no_stage (Reading work ticket) e = let z : false ≡ true = e in cc
no_stage (Running work) e = let z : false ≡ true = e in cc
no_stage (Locking work table) e = let z : false ≡ true = e in cc
no_stage (Inserting work posted) e = let z : false ≡ true = e in cc
no_stage Committing e = let z : false ≡ true = e in cc
no_stage Closing e = let z : false ≡ true = e in cc
no_stage (RollingBack ending) e = let z : false ≡ true = e in cc

without_chain : (found : Option Stage) (point : Point) → FitsPoint found point phases.Out → found ≡ None
without_chain None point fits = refl
without_chain (Some stage) point fits = absurd (no_stage stage fits)

stands_nowhere : (point : Point) → FitsPoint None point phases.Out → standing_at phases.Out point ≡ Nowhere
stands_nowhere (LeaveSnapshotDue work) fits = absurd (let z : false ≡ true = fits in cc)
stands_nowhere point fits = refl

-- nobody is counted where the count is none
none_passes : (p : ℕ → Bool) (s : ℕ) → ((p s ≡ true) → ⊥) → p s ≡ false
none_passes p s never = by (p s) refl
  where
    by : (v : Bool) → p s ≡ v → v ≡ false
    by true e = absurd (never e)
    by false e = refl

-- who is neither live nor dead has no transaction
absent_by : (x : Transaction) → (is_live x ≡ true → ⊥) → is_dead x ≡ false → x ≡ Absent
absent_by Absent never e = refl
absent_by (Alive l) never e = absurd (never refl)
absent_by Dead never e = absurd (let z : true ≡ false = e in cc)

below_or : (k : ℕ) → (k < 65) ⊎ (65 ≤ k)
below_or k = elim (leb_tells 65 k) [ inl p ↦ inr p.1 | inr p ↦ inl p.1 ]

both_are : (a b : Bool) → (a && b) ≡ true → (a ≡ true) × (b ≡ true)
both_are true b e = (refl, e)
both_are false b e = absurd (let z : false ≡ true = e in cc)

none_step : (p : ℕ → Bool) → ((k : ℕ) → p k ≡ true → ⊥) → (n : ℕ) → (some_below p n ≡ true → ⊥) → (v : Bool) → p n ≡ v → (v || some_below p n) ≡ true → ⊥
none_step p never n rest true is f = never n is
none_step p never n rest false is f = rest f

none_below : (p : ℕ → Bool) → ((k : ℕ) → p k ≡ true → ⊥) → (n : ℕ) → some_below p n ≡ true → ⊥
none_below p never zero e = let z : false ≡ true = e in cc
none_below p never (suc n) e = none_step p never n (none_below p never n) (p n) refl e

-- a member of a set of less than 256 is one of the eight
beyond : (bits b : ℕ) → bits < 2 ^ b → has bits b ≡ false
beyond bits b less = let z : bits / 2 ^ b ≡ 0 = zero_of (bits / 2 ^ b) (div_less bits (2 ^ b) less) in ap (λ q. q % 2 == 1) z
  where
    zero_of : (n : ℕ) → n < 1 → n ≡ 0
    zero_of n l = omega (arith, l)

    div_less : (n k : ℕ) → n < k → n / k < 1
    div_less n k l = (div-lt_iff_lt-mul (let z : zero < k = omega (arith, l) in z)).1 (let z : n < 1 * k = omega (arith, l) in z)

one_of_eight : (bits b : ℕ) → bits < 256 → has bits b ≡ true → b < 8
one_of_eight bits b few is = elim (leb_tells 8 b) [
  | inl q ↦ absurd (let n : false ≡ true = sym (beyond bits b (lt_of_lt_of_le few (pow_mono q.1))) ∙ is in cc)
  | inr q ↦ (let z : b < 8 = omega (arith, q.1) in z)
]

absent_sound : (st : Store) → ((s : ℕ) → st.transaction s ≡ Absent) → IsSound st
absent_sound st none = record {
  apart = λ s o other c. no_right (held_by (st.transaction s)) (subst (λ (x : Transaction). Conflicts (held_by (st.transaction s)) (held_by x)) (none o) c);
  changed = λ s t p e. absurd (let n : Absent ≡ Alive t = sym (none s) ∙ e in cc);
  fresh = λ s t p e. absurd (let n : Absent ≡ Alive t = sym (none s) ∙ e in cc);
}

-- While the quiet is entered every session is so.

module _ (t : Tracked) (h : Invariant t) (still : t.world.gate.quiet ≡ 3) where
  pub out_of : (s : ℕ) → (t.world.machine s).session.gate ≡ phases.Out
  out_of s = elim (below_or s) [
    | inl below ↦
        let none = h.counts.quiet still in
        out_by (t.world.machine s).session.gate
        (none_passes (λ o. in_snapshot (t.world.machine o).session.gate) s
        (count_some (λ o. in_snapshot (t.world.machine o).session.gate) 65 s (sym h.counts.snaps ∙ none.0) below))
        (none_passes (λ o. in_transaction (t.world.machine o).session.gate) s
        (count_some (λ o. in_transaction (t.world.machine o).session.gate) 65 s (sym h.counts.live ∙ none.1) below))
    | inr above ↦ (h.strangers s (inr above)).out
  ]

  pub fits_out : (s : ℕ) → FitsPoint (stage_at (t.world.machine s).point) (t.world.machine s).point phases.Out
  fits_out s = subst (λ (g : GatePhase). FitsPoint (stage_at (t.world.machine s).point) (t.world.machine s).point g) (out_of s) (h.inside s)

  pub calm : (s : ℕ) → stage_at (t.world.machine s).point ≡ None
  calm s = without_chain (stage_at (t.world.machine s).point) (t.world.machine s).point (fits_out s)

  pub nowhere : (s k : ℕ) → standing_of t.world s k ≡ Nowhere
  nowhere s k =
      ap (λ (found : Option Stage). standing_by (t.world.machine s).session.gate (t.world.machine s).point found (answer_from t.world s k)) (calm s)
      ∙ (ap (λ (g : GatePhase). standing_at g (t.world.machine s).point) (out_of s)
      ∙ stands_nowhere (t.world.machine s).point (subst (λ (found : Option Stage). FitsPoint found (t.world.machine s).point phases.Out) (calm s) (fits_out s)))

  -- what is live there is alive at some attached backend, where nobody has a transaction
  alive_no : (s k : ℕ) → is_alive_at t.world s k ≡ true → ⊥
  alive_no s k e =
      let a = both_are (has t.world.gate.attached.bits k) (is_live ((t.world.store k).transaction s)) e in
      let none : (t.world.store k).transaction s ≡ Absent =
      (subst (λ (x : Standing). Stands (single t) s (leaving_of t.world.tables s t.history) x ((t.world.store k).transaction s) ((single t).transaction s)) (nowhere s k) (h.stands s k a.0)).0 in
      let z : false ≡ true = sym (ap is_live none) ∙ a.1 in cc

  -- the single run has no transaction
  pub dead : (s : ℕ) → is_live ((single t).transaction s) ≡ true → ⊥
  unfolding is_alive
  dead s live = none_below (is_alive_at t.world s) (alive_no s) 8 (h.alive s live)

  pub absent : (s : ℕ) → (single t).transaction s ≡ Absent
  absent s = absent_by ((single t).transaction s) (dead s) (h.undead s)

module _ (t : Tracked) (b : BackendId) (h : Invariant t) (still : t.world.gate.quiet ≡ 3) (out : has t.world.gate.attached.bits b.number ≡ false) (ready : IsReady t b.number) where
  abbrev attached : ℕ
  attached = t.world.gate.attached.bits

  abbrev more : ℕ
  more = with_one attached b.number

  abbrev new : World
  new = record t.world { gate = granted t.world.gate (Attach b) }

  abbrev there : Tracked
  there = record { world = new; history = t.history; orders = t.orders; done = joined t.world (Some b.number) t.done }

  -- the set

  few : more < 256
  few =
      subst (λ (v : Bool). (if v then attached else attached + 2 ^ b.number) < 256) (sym out)
      (with_fits attached b.number h.few b.below_8 out)

  was_or : (k : ℕ) → IsIn more k → (k ≡ b.number) ⊎ IsIn attached k
  was_or k at = elim (eqb_tells k b.number) [
    | inl p ↦ inl p.1
    | inr p ↦ inr (subst (λ (v : Bool). (if v then true else has attached k) ≡ true) p.0 (sym (with_members attached b.number h.few b.below_8 k (one_of_eight more k few at)) ∙ at))
  ]

  at_more : (P : ℕ → Type 0) → P b.number → ((k : ℕ) → IsIn attached k → P k) → (k : ℕ) → IsIn more k → P k
  at_more P here old k at = elim (was_or k at) [
    | inl e ↦ subst P (sym e) here
    | inr in_it ↦ old k in_it
  ]

  stays_in : (k : ℕ) → IsIn attached k → IsIn more k
  stays_in k at =
      with_members attached b.number h.few b.below_8 k (one_of_eight attached k h.few at)
      ∙ by (k == b.number) (has attached k) at
    where
      by : (v w : Bool) → w ≡ true → (if v then true else w) ≡ true
      by true w e = refl
      by false w e = e

  -- the sessions

  none_at : {P : Type 0} (s : ℕ) (stage : Stage) → stage_at (t.world.machine s).point ≡ Some stage → P
  none_at s stage e = absurd (let z : None ≡ Some stage = sym (calm t h still s) ∙ e in cc)

  going_no : {P : Type 0} (o k : ℕ) → stand (t.world.machine o) (t.world.mail o) k ≡ Leaving → P
  going_no o k leaves = absurd (let z : Nowhere ≡ Leaving = sym (nowhere t h still o k) ∙ leaves in cc)

  to_pools : (s : ℕ) (told : Told) (live : Bool) (outcome : Outcome) → IsPools attached (t.world.machine s) told live outcome → IsPools more (t.world.machine s) told live outcome
  to_pools s told live outcome (pools_moment a c d) = pools_moment a c d
  to_pools s told live outcome (pools_counts a c d) = pools_counts a c d
  to_pools s told live outcome (pools_backends a c d) =
      absurd (let z : false ≡ true = sym (a ready.source (one_of_eight attached ready.source h.few ready.attached)) ∙ ready.attached in cc)
  to_pools s told live outcome (pools_refusal code name a c d) = pools_refusal code name a c d
  to_pools s told live outcome (pools_nodes a d) = pools_nodes a d

  to_right : (s : ℕ) (told : Told) (live : Bool) (outcome : Outcome) → IsRightBy attached (t.world.machine s) live s t.history told outcome → IsRightBy more (t.world.machine s) live s t.history told outcome
  to_right s told live outcome (inl given) = inl given
  to_right s told live outcome (inr own) = inr (to_pools s told live outcome own)

  -- who has done a commit

  joins : (s k : ℕ) → ((k ≡ b.number) ⊎ (t.done s k ≡ true)) → joined t.world (Some b.number) t.done s k ≡ true
  joins s k has_it =
      subst (λ (v : Bool). (if v then t.done s else with_at (t.done s) b.number true) k ≡ true) (sym (ap in_commit (out_of t h still s)))
      (elim has_it [
        | inl e ↦ by_is k (k == b.number) (elim (eqb_tells k b.number) [ inl p ↦ inl p.0 | inr p ↦ absurd (p.1 e) ])
        | inr did ↦ by_is k (k == b.number) (inr did)
      ])
    where
      by_is : (j : ℕ) (v : Bool) → ((v ≡ true) ⊎ (t.done s j ≡ true)) → (if v then true else t.done s j) ≡ true
      by_is j true any = refl
      by_is j false (inl e) = absurd (let z : false ≡ true = e in cc)
      by_is j false (inr did) = did

  facts : FactsOf there
  facts = let f = facts_of t h in record {
    own = λ s. let o = f.own s in record {
      stranger = λ is. let r = o.stranger is in record { point = r.point; out = r.out; asks = r.asks; none = r.none; told = r.told; none_there = r.none_there };
      inside = o.inside;
      classed = o.classed;
      asked = o.asked;
      untold = o.untold;
      answer = o.answer;
      in_order = λ stage e. none_at s stage e;
      heard = λ k stage answer at e. none_at s stage e;
      parting = λ stage best own among goes e. none_at s stage (ap stage_at e);
      causes = o.causes;
      stands = at_more (λ k. Stands (single t) s (leaving_of t.world.tables s t.history) (stand (t.world.machine s) (t.world.mail s) k) ((t.world.store k).transaction s) ((single t).transaction s))
          (subst (λ (x : Standing). Stands (single t) s (leaving_of t.world.tables s t.history) x ((t.world.store b.number).transaction s) ((single t).transaction s)) (sym (nowhere t h still s b.number)) (ready.none s, absent t h still s))
          o.stands;
      crossed = λ k p q at kept e. at_more (λ j. (t.world.store j).lost ≡ false → (t.world.store j).pending s ≡ Some p → (single t).pending s ≡ Some q → p.crossed ≡ true → q.crossed ≡ true)
          (λ lasts waits. absurd (let z : None ≡ Some p = sym (ready.unasked s) ∙ waits in cc)) (λ j in_it. o.crossed j p q in_it) k at kept e;
      unchanged = o.unchanged;
      closes = λ k l at e. none_at s Closing e;
      reasons = λ stage by code e. none_at s stage e;
      posts = o.posts;
      replies = λ by outcome is reply. to_right s by (is_live ((single t).transaction s)) outcome (o.replies by outcome is reply);
      orders = o.orders;
      order_is = o.order_is;
      since = o.since;
      commits = λ k by at is e. absurd (let z : false ≡ true = sym (ap is_of_commit (calm t h still s)) ∙ e in cc);
      done_first = λ k by is entered at stays. joins s k (elim (was_or k at) [ inl e ↦ inl e | inr in_it ↦ inr (o.done_first k by is entered in_it stays) ]);
    };
    shared = let a = f.shared in record {
      tables_here = a.tables_here;
      sound = at_more (λ k. IsSound (t.world.store k)) (absent_sound (t.world.store b.number) ready.none) a.sound;
      shaped = a.shaped;
      sound_there = a.sound_there;
      undead = a.undead;
      stale = a.stale;
      stale_here = λ s k l u p at here now. absurd (let z : Absent ≡ Alive u = sym (absent t h still s) ∙ now in cc);
      stale_there = λ s k l u p at here now. absurd (let z : Absent ≡ Alive u = sym (absent t h still s) ∙ now in cc);
      rows_same = λ k p at. at_more (λ j. ((o : ℕ) → ¬ (Going t.world.tables t.history (t.world.machine o) (t.world.mail o) o j p)) → fin.get (t.world.store j).rows p ≡ fin.get (single t).rows p)
          (λ none. ready.rows p) (λ j in_it. a.rows_same j p in_it) k at;
      rows_left = λ o k p last at going. going_no o k going.leaves;
      numbers = λ k table at. at_more (λ j. ((s : ℕ) (work : Work) → ¬ (Inserted t.world.tables t.history (t.world.machine s) (t.world.mail s) s j table work)) → (t.world.store j).next table ≡ (single t).next table)
          (λ none. ready.numbers table) (λ j in_it. a.numbers j table in_it) k at;
      numbers_ahead = λ s k table work at i. absurd (let z : None ≡ Some work = sym (inserts_none (stage_at (t.world.machine s).point) (told_by (t.world.machine s) (t.world.mail s) k) (calm t h still s)) ∙ i.inserted in cc);
      locks = a.locks;
      run = a.run;
    };
    counts = let c = f.counts in record { snaps = c.snaps; commits = c.commits; live = c.live; apart = c.apart; quiet = c.quiet; few = few };
  }

  invariant : Invariant there
  invariant = invariant_of there facts (λ s live. absurd (dead t h still s live))

  pub backend_kept : Invariant (with_backend t b)
  backend_kept =
      subst (λ (history : List Entry). Invariant (record { world = new; history = history; orders = t.orders; done = joined t.world (Some b.number) t.done }))
      (sym (none_fall new t.history (λ s live. absurd (dead t h still s live)) 65)) invariant
