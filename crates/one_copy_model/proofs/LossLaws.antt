-- A loss keeps the invariant.
use Rattle.std.proofs.Common.{◌≡◌, ℕ, zero, suc, Bool, true, false, ◌||◌, ◌==◌, List, refl, sym, ap, ◌∙◌, subst, inl, inr, eqb-true}
use Rattle.std.specs.Prelude.{◌&&◌, not, if◌then◌else◌, Some, None}
use Rattle.std.specs.FinMap as fin
use Rattle.pool_base.specs.Sets.{has}
use Rattle.pool_base.specs.declared.backend_id.BackendId.{BackendId}
use Rattle.backend_trait.specs.Keys.{Place}
use Rattle.backend_trait.specs.Rows.{with_at, no_changes}
use Rattle.backend_trait.specs.Store.{Live, Absent, Alive, Pending, Store, lost_by}
use Rattle.session_machine.specs.declared.work.Work.{Work}
use Rattle.session_orders.specs.declared.outcome.Outcome.{Outcome}
use Rattle.one_copy_model.specs.declared.deed.Entry.{Entry}
use Rattle.one_copy_model.specs.declared.event.Event.TheVariants.{Lost}
use Rattle.one_copy_model.specs.Numbers.{some_below}
use Rattle.one_copy_model.specs.World.{World, after}
use Rattle.one_copy_model.specs.SingleRun.{store_after}
use Rattle.one_copy_model.specs.Deaths.{is_live, is_alive_at, is_alive, fell, fallen}
use Rattle.one_copy_model.specs.Tracking.{Told, Tracked, single, tracked_after}
use Rattle.one_copy_model.specs.Replies.{IsOwn, of_moment, of_counts, of_backends, of_refusal, of_nodes, IsRight}
use Rattle.one_copy_model.specs.Standing.{Stands, standing_of, leaving_of}
use Rattle.one_copy_model.specs.Chains.{AreShaped}
use Rattle.one_copy_model.specs.Invariant.{Invariant, AnswersAlike, IsAtRest, IsInLine, HasLine, IsSound, Leaves, KnowsStale, HasInserted, numbers_behind}

-- a fact that a loss keeps of one store it keeps of each
keeps : (P : Store → Type 0) → ((x : Store) → P x → P (lost_by x)) → (st : ℕ → Store) (b k : ℕ) → P (st k) → P (with_at st b (lost_by (st b)) k)
keeps P step st b k h = go (k == b) refl
  where
    go : (q : Bool) → (k == b) ≡ q → P (if q then lost_by (st b) else st k)
    go true e = step (st b) (subst (λ (j : ℕ). P (st j)) (eqb-true k b e) h)
    go false e = h

below_same : (p q : ℕ → Bool) → ((k : ℕ) → p k ≡ q k) → (n : ℕ) → some_below p n ≡ some_below q n
below_same p q same zero = refl
below_same p q same (suc n) = ap (λ (x : Bool). x || some_below p n) (same n) ∙ ap (λ (x : Bool). q n || x) (below_same p q same n)

-- nobody dies where all that is live is alive
pub none_fall : (w : World) (history : List Entry) → ((s : ℕ) → is_live ((store_after w.tables history).transaction s) ≡ true → is_alive w s ≡ true) → (n : ℕ) → fallen w history n ≡ history
unfolding fallen
none_fall w history alive zero = refl
none_fall w history alive (suc n) = ap (fell_at n) (none_fall w history alive n) ∙ here (is_live ((store_after w.tables history).transaction n)) (is_alive w n) (alive n) _
  where
    fell_at : ℕ → List Entry → List Entry
    fell_at s h = fell w s h

    here : (live alive_there : Bool) → (live ≡ true → alive_there ≡ true) → (other : List Entry) → (if live && not alive_there then other else history) ≡ history
    here true true f other = refl
    here true false f other = absurd (let n : false ≡ true = f refl in cc)
    here false a f other = refl

module _ (t : Tracked) (b : BackendId) (h : Invariant t) where
  abbrev new : World
  new = after t.world (Lost b)

  abbrev there : Tracked
  there = record { world = new; history = t.history; orders = t.orders; done = t.done }

  same_alive : (s : ℕ) → is_alive new s ≡ is_alive t.world s
  unfolding is_alive
  same_alive s = below_same (is_alive_at new s) (is_alive_at t.world s) (λ k. keeps (λ x. (has t.world.gate.attached.bits k && is_live (x.transaction s)) ≡ is_alive_at t.world s k) (λ x e. e) t.world.store b.number k refl) 8

  to_leaves : (o k : ℕ) (p : Place) → Leaves t o k p → Leaves there o k p
  to_leaves o k p l = record { leaves = l.leaves; last = l.last; was = l.was; changes = l.changes }

  from_leaves : (o k : ℕ) (p : Place) → Leaves there o k p → Leaves t o k p
  from_leaves o k p l = record { leaves = l.leaves; last = l.last; was = l.was; changes = l.changes }

  to_own : (s : ℕ) (told : Told) (live : Bool) (outcome : Outcome) → IsOwn t.world s told live outcome → IsOwn new s told live outcome
  to_own s told live outcome (of_moment a c d) = of_moment a c d
  to_own s told live outcome (of_counts a c d) = of_counts a c d
  to_own s told live outcome (of_backends a c d) = of_backends a c d
  to_own s told live outcome (of_refusal code name a c d) = of_refusal code name a c d
  to_own s told live outcome (of_nodes a d) = of_nodes a d

  to_right : (s : ℕ) (told : Told) (outcome : Outcome) → IsRight t s told outcome → IsRight there s told outcome
  to_right s told outcome (inl given) = inl given
  to_right s told outcome (inr own) = inr (to_own s told _ outcome own)

  to_line : (s k : ℕ) → HasLine t.world s k → HasLine new s k
  to_line s k l = record {
    asked = keeps (λ x. (p : Pending) → x.lost ≡ false → x.pending s ≡ Some p → IsInLine (t.world.machine s) k p.request) (λ x f p kept. absurd (let n : true ≡ false = kept in cc)) t.world.store b.number k l.asked;
    untold = keeps (λ x. (p : Pending) → x.pending s ≡ Some p → t.world.mail s k ≡ None) (λ x f. f) t.world.store b.number k l.untold;
    told = l.told;
  }

  from_inserted : (s k table : ℕ) (work : Work) → HasInserted there s k table work → HasInserted t s k table work
  from_inserted s k table work i = record { live = i.live; inserted = i.inserted; at = i.at }

  to_inserted : (s k table : ℕ) (work : Work) → HasInserted t s k table work → HasInserted there s k table work
  to_inserted s k table work i = record { live = i.live; inserted = i.inserted; at = i.at }

  to_rest : (s : ℕ) → IsAtRest t s → IsAtRest there s
  to_rest s r = record {
    point = r.point;
    out = r.out;
    asks = λ k. keeps (λ x. x.pending s ≡ None) (λ x e. e) t.world.store b.number k (r.asks k);
    none = λ k. keeps (λ x. x.transaction s ≡ Absent) (λ x e. e) t.world.store b.number k (r.none k);
    told = r.told;
    none_there = r.none_there;
  }

  to_stale : (s k : ℕ) (l u : Live) (p : Place) → KnowsStale t s k l u p → KnowsStale there s k l u p
  to_stale s k l u p known = record {
    here = λ e. elim (known.here e) [ inl stale ↦ inl stale | inr o ↦ inr (o.0, to_leaves o.0 k p o.1) ];
    there = known.there;
  }

  holds_there : Invariant there
  holds_there = record {
    few = h.few;
    tables = λ k. keeps (λ x. x.tables ≡ t.world.tables) (λ x e. e) t.world.store b.number k (h.tables k);
    counts = record { snaps = h.counts.snaps; commits = h.counts.commits; live = h.counts.live; apart = h.counts.apart; quiet = h.counts.quiet };
    strangers = λ s stranger. to_rest s (h.strangers s stranger);
    inside = h.inside;
    classed = h.classed;
    line = λ s k. to_line s k (h.line s k);
    in_order = h.in_order;
    heard = h.heard;
    parting = h.parting;
    causes = h.causes;
    stands = λ s k here. keeps (λ x. Stands (single t) s (leaving_of t.world.tables s t.history) (standing_of t.world s k) (x.transaction s) ((single t).transaction s)) (λ x e. e) t.world.store b.number k (h.stands s k here);
    sound = λ k here. keeps IsSound (λ x sound. record { apart = sound.apart; changed = sound.changed; fresh = sound.fresh }) t.world.store b.number k (h.sound k here);
    shaped = λ k. keeps AreShaped (λ x shaped. record { rows = shaped.rows; bases = shaped.bases; changes = shaped.changes }) t.world.store b.number k (h.shaped k);
    sound_there = h.sound_there;
    undead = h.undead;
    stale = h.stale;
    stale_known = λ s k l u p here. keeps (λ x. x.transaction s ≡ Alive l → (single t).transaction s ≡ Alive u → KnowsStale there s k l u p) (λ x f. f) t.world.store b.number k (λ e g. to_stale s k l u p (h.stale_known s k l u p here e g));
    crossed_there = λ s k p q here. keeps (λ x. x.lost ≡ false → x.pending s ≡ Some p → (single t).pending s ≡ Some q → p.crossed ≡ true → q.crossed ≡ true) (λ x f kept. absurd (let n : true ≡ false = kept in cc)) t.world.store b.number k (h.crossed_there s k p q here);
    unchanged = h.unchanged;
    closes = λ s k l here at. keeps (λ x. x.transaction s ≡ Alive l → l.changes ≡ no_changes) (λ x f. f) t.world.store b.number k (h.closes s k l here at);
    rows_same = λ k p here none. keeps (λ x. fin.get x.rows p ≡ fin.get (single t).rows p) (λ x e. e) t.world.store b.number k (h.rows_same k p here (λ o l. none o (to_leaves o k p l)));
    rows_left = λ o k p last here l. h.rows_left o k p last here (from_leaves o k p l);
    numbers = λ k table here none. keeps (λ x. x.next table ≡ (single t).next table) (λ x e. e) t.world.store b.number k (h.numbers k table here (λ s work i. none s work (to_inserted s k table work i)));
    numbers_ahead = λ s k table work here i. keeps (λ x. x.next table ≡ numbers_behind (single t) s work table) (λ x e. e) t.world.store b.number k (h.numbers_ahead s k table work here (from_inserted s k table work i));
    locks = h.locks;
    alive = λ s live. same_alive s ∙ h.alive s live;
    reasons = h.reasons;
    run = h.run;
    posts = h.posts;
    replies = λ s told outcome e g. to_right s told outcome (h.replies s told outcome e g);
    orders = h.orders;
    order_is = h.order_is;
    since = h.since;
    commits = h.commits;
    done_first = h.done_first;
  }

  alike_there : AnswersAlike t → AnswersAlike there
  alike_there a = record {
    uncrossed = λ s k lower p stage here below less at may. keeps (λ x. x.lost ≡ false → x.pending s ≡ Some p → p.crossed ≡ false) (λ x f kept. absurd (let n : true ≡ false = kept in cc)) t.world.store b.number k (a.uncrossed s k lower p stage here below less at may);
    lowest = a.lowest;
    stopped = a.stopped;
  }

  no_history : fallen new t.history 65 ≡ t.history
  no_history = none_fall new t.history (λ s live. same_alive s ∙ h.alive s live) 65

  pub loss_alike : AnswersAlike t → AnswersAlike (tracked_after t (Lost b))
  loss_alike a =
      subst (λ (history : List Entry). AnswersAlike (record { world = new; history = history; orders = t.orders; done = t.done }))
      (sym no_history) (alike_there a)

  pub loss_kept : Invariant (tracked_after t (Lost b))
  loss_kept =
      subst (λ (history : List Entry). Invariant (record { world = new; history = history; orders = t.orders; done = t.done }))
      (sym no_history) holds_there
