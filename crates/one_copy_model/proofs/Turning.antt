-- The invariant is its facts by their parts, and that what is live in the single run is alive.
use Rattle.std.proofs.Common.{◌≡◌, ℕ, Bool, true, inl, inr}
use Rattle.backend_trait.specs.Keys.{Place}
use Rattle.session_machine.specs.declared.work.Work.{Work}
use Rattle.session_orders.specs.declared.outcome.Outcome.{Outcome}
use Rattle.one_copy_model.specs.Deaths.{is_live, is_alive}
use Rattle.one_copy_model.specs.Tracking.{Told, Tracked, single}
use Rattle.one_copy_model.specs.Replies.{IsOwn, of_moment, of_counts, of_backends, of_refusal, of_nodes, IsRight}
use Rattle.one_copy_model.specs.Invariant.{Invariant, Leaves, HasInserted}
use Rattle.one_copy_model.specs.Own.{IsPools, pools_moment, pools_counts, pools_backends, pools_refusal, pools_nodes, IsRightBy}
use Rattle.one_copy_model.specs.Facts.{Going, Inserted, Facts}

abbrev pub live_there : Tracked → ℕ → Bool
live_there t s = is_live ((single t).transaction s)

abbrev pub FactsOf : Tracked → Type 0
FactsOf t = Facts t.world.tables t.world.gate t.world.machine t.world.store t.world.mail t.history t.orders t.done (live_there t)

module _ (t : Tracked) where
  to_going : (o b : ℕ) (p : Place) → Leaves t o b p → Going t.world.tables t.history (t.world.machine o) (t.world.mail o) o b p
  to_going o b p l = record { leaves = l.leaves; last = l.last; was = l.was; changes = l.changes }

  from_going : (o b : ℕ) (p : Place) → Going t.world.tables t.history (t.world.machine o) (t.world.mail o) o b p → Leaves t o b p
  from_going o b p l = record { leaves = l.leaves; last = l.last; was = l.was; changes = l.changes }

  to_inserted : (s b table : ℕ) (work : Work) → HasInserted t s b table work → Inserted t.world.tables t.history (t.world.machine s) (t.world.mail s) s b table work
  to_inserted s b table work i = record { live = i.live; inserted = i.inserted; at = i.at }

  from_inserted : (s b table : ℕ) (work : Work) → Inserted t.world.tables t.history (t.world.machine s) (t.world.mail s) s b table work → HasInserted t s b table work
  from_inserted s b table work i = record { live = i.live; inserted = i.inserted; at = i.at }

  to_pools : (s : ℕ) (told : Told) (live : Bool) (outcome : Outcome) → IsOwn t.world s told live outcome → IsPools t.world.gate.attached.bits (t.world.machine s) told live outcome
  to_pools s told live outcome (of_moment a c d) = pools_moment a c d
  to_pools s told live outcome (of_counts a c d) = pools_counts a c d
  to_pools s told live outcome (of_backends a c d) = pools_backends a c d
  to_pools s told live outcome (of_refusal code name a c d) = pools_refusal code name a c d
  to_pools s told live outcome (of_nodes a d) = pools_nodes a d

  from_pools : (s : ℕ) (told : Told) (live : Bool) (outcome : Outcome) → IsPools t.world.gate.attached.bits (t.world.machine s) told live outcome → IsOwn t.world s told live outcome
  from_pools s told live outcome (pools_moment a c d) = of_moment a c d
  from_pools s told live outcome (pools_counts a c d) = of_counts a c d
  from_pools s told live outcome (pools_backends a c d) = of_backends a c d
  from_pools s told live outcome (pools_refusal code name a c d) = of_refusal code name a c d
  from_pools s told live outcome (pools_nodes a d) = of_nodes a d

  to_right : (s : ℕ) (told : Told) (outcome : Outcome) → IsRight t s told outcome → IsRightBy t.world.gate.attached.bits (t.world.machine s) (live_there t s) s t.history told outcome
  to_right s told outcome (inl given) = inl given
  to_right s told outcome (inr own) = inr (to_pools s told (live_there t s) outcome own)

  from_right : (s : ℕ) (told : Told) (outcome : Outcome) → IsRightBy t.world.gate.attached.bits (t.world.machine s) (live_there t s) s t.history told outcome → IsRight t s told outcome
  from_right s told outcome (inl given) = inl given
  from_right s told outcome (inr own) = inr (from_pools s told (live_there t s) outcome own)

  pub facts_of : Invariant t → FactsOf t
  facts_of h = record {
    own = λ s. record {
      stranger = λ is. let r = h.strangers s is in record { point = r.point; out = r.out; asks = r.asks; none = r.none; told = r.told; none_there = r.none_there };
      inside = h.inside s;
      classed = h.classed s;
      asked = λ b. (h.line s b).asked;
      untold = λ b. (h.line s b).untold;
      answer = λ b. (h.line s b).told;
      in_order = h.in_order s;
      heard = h.heard s;
      parting = h.parting s;
      causes = h.causes s;
      stands = h.stands s;
      crossed = h.crossed_there s;
      unchanged = h.unchanged s;
      closes = h.closes s;
      reasons = h.reasons s;
      posts = h.posts s;
      replies = λ told outcome e g. to_right s told outcome (h.replies s told outcome e g);
      orders = h.orders s;
      order_is = h.order_is s;
      since = h.since s;
      commits = h.commits s;
      done_first = h.done_first s;
    };
    shared = record {
      tables_here = h.tables;
      sound = h.sound;
      shaped = h.shaped;
      sound_there = h.sound_there;
      undead = h.undead;
      stale = h.stale;
      stale_here = λ s b l u p at here there e. elim ((h.stale_known s b l u p at here there).here e) [ inl is ↦ inl is | inr o ↦ inr (o.0, to_going o.0 b p o.1) ];
      stale_there = λ s b l u p at here there. (h.stale_known s b l u p at here there).there;
      rows_same = λ b p at none. h.rows_same b p at (λ o l. none o (to_going o b p l));
      rows_left = λ o b p last at l. h.rows_left o b p last at (from_going o b p l);
      numbers = λ b table at none. h.numbers b table at (λ s work i. none s work (to_inserted s b table work i));
      numbers_ahead = λ s b table work at i. h.numbers_ahead s b table work at (from_inserted s b table work i);
      locks = h.locks;
      run = h.run;
    };
    counts = record { snaps = h.counts.snaps; commits = h.counts.commits; live = h.counts.live; apart = h.counts.apart; quiet = h.counts.quiet; few = h.few };
  }

  pub invariant_of : FactsOf t → ((s : ℕ) → live_there t s ≡ true → is_alive t.world s ≡ true) → Invariant t
  invariant_of f alive = record {
    few = f.counts.few;
    tables = f.shared.tables_here;
    counts = record { snaps = f.counts.snaps; commits = f.counts.commits; live = f.counts.live; apart = f.counts.apart; quiet = f.counts.quiet };
    strangers = λ s is. let r = (f.own s).stranger is in record { point = r.point; out = r.out; asks = r.asks; none = r.none; told = r.told; none_there = r.none_there };
    inside = λ s. (f.own s).inside;
    classed = λ s. (f.own s).classed;
    line = λ s b. record { asked = (f.own s).asked b; untold = (f.own s).untold b; told = (f.own s).answer b };
    in_order = λ s. (f.own s).in_order;
    heard = λ s. (f.own s).heard;
    parting = λ s. (f.own s).parting;
    causes = λ s. (f.own s).causes;
    stands = λ s. (f.own s).stands;
    sound = f.shared.sound;
    shaped = f.shared.shaped;
    sound_there = f.shared.sound_there;
    undead = f.shared.undead;
    stale = f.shared.stale;
    stale_known = λ s b l u p at here there. record {
      here = λ e. elim (f.shared.stale_here s b l u p at here there e) [ inl is ↦ inl is | inr o ↦ inr (o.0, from_going o.0 b p o.1) ];
      there = f.shared.stale_there s b l u p at here there;
    };
    crossed_there = λ s. (f.own s).crossed;
    unchanged = λ s. (f.own s).unchanged;
    closes = λ s. (f.own s).closes;
    rows_same = λ b p at none. f.shared.rows_same b p at (λ o g. none o (from_going o b p g));
    rows_left = λ o b p last at l. f.shared.rows_left o b p last at (to_going o b p l);
    numbers = λ b table at none. f.shared.numbers b table at (λ s work i. none s work (from_inserted s b table work i));
    numbers_ahead = λ s b table work at i. f.shared.numbers_ahead s b table work at (to_inserted s b table work i);
    locks = f.shared.locks;
    alive = alive;
    reasons = λ s. (f.own s).reasons;
    run = f.shared.run;
    posts = λ s. (f.own s).posts;
    replies = λ s told outcome e g. from_right s told outcome ((f.own s).replies told outcome e g);
    orders = λ s. (f.own s).orders;
    order_is = λ s. (f.own s).order_is;
    since = λ s. (f.own s).since;
    commits = λ s. (f.own s).commits;
    done_first = λ s. (f.own s).done_first;
  }
