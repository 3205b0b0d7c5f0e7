-- No backend is attached: whoever is live in the single run dies there, and what holds of the rest holds on.
use Rattle.std.proofs.Common.{◌≡◌, ◌≢◌, ℕ, zero, suc, ◌<◌, ◌≤◌, Bool, true, false, List, [], ◌∷◌, refl, sym, ap, ◌∙◌, subst, arith, inl, inr, le_trans}
use Rattle.std.specs.Prelude.{◌⊎◌, ◌&&◌, not, Option, Some, None, if◌then◌else◌}
use Rattle.std.proofs.lemmas.Bool.Decides.{leb_tells}
use Rattle.pool_base.specs.declared.backend_id.BackendId.{BackendId}
use Rattle.schema.specs.declared.catalogue.TableDef.{TableDef}
use Rattle.backend_trait.specs.declared.answer.Answer.{Answer}
use Rattle.backend_trait.specs.Rows.{with_at}
use Rattle.backend_trait.specs.Store.{Alive, Absent, request_in as waiting_in}
use Rattle.backend_trait.specs.Acting.{drawn_waiting}
use Rattle.session_orders.specs.declared.outcome.Outcome.{Outcome}
use Rattle.session_machine.specs.declared.machine.Machine.{Machine}
use Rattle.session_machine.specs.declared.machine.Stage.{Stage}
use Rattle.session_machine.specs.declared.machine.Stage.TheVariants.{Opening, Reading, Running, Locking, Inserting, Committing, Closing, RollingBack}
use Rattle.session_machine.specs.Answers.{lowest}
use Rattle.one_copy_model.specs.declared.deed.Deed.{Deed}
use Rattle.one_copy_model.specs.declared.deed.Deed.TheVariants.{Falls}
use Rattle.one_copy_model.specs.declared.deed.Entry.{Entry}
use Rattle.one_copy_model.specs.SingleRun.{store_after}
use Rattle.one_copy_model.specs.World.{World}
use Rattle.one_copy_model.specs.Deaths.{is_live, is_alive, stage_at, death_of, death_in, code_of_lowest, recorded, fell, fallen}
use Rattle.one_copy_model.specs.Tracking.{Told, Tracked, in_commit}
use Rattle.one_copy_model.specs.Invariant.{Invariant, request_in, where_live, wants_of}
use Rattle.one_copy_model.specs.Own.{IsIn, Own, IsPools, pools_moment, pools_counts, pools_backends, pools_refusal, pools_nodes, IsRightBy}
use Rattle.one_copy_model.specs.Facts.{Facts, Shared}
use Rattle.one_copy_model.proofs.Places.{same_or_other}
use Rattle.one_copy_model.proofs.Passing.{own_passes}
use Rattle.one_copy_model.proofs.Turns.{sound_ended, undead_ended, was_live, turned}
use Rattle.one_copy_model.proofs.Locks.{locks_ended}
use Rattle.one_copy_model.proofs.Turning.{invariant_of}
use Rattle.one_copy_model.proofs.Tables.{tables_there}
use Rattle.one_copy_model.proofs.Landing.{with_at-self, alive_same}
use Rattle.one_copy_model.proofs.Deeds.{entry}
use Rattle.one_copy_model.proofs.Endings.{Ends}
use Rattle.one_copy_laws.proofs.GateGoing.{none_alive}
use Rattle.one_copy_laws.proofs.FallsDeaths.{dies, point_asks, same_in}
use Rattle.one_copy_laws.proofs.DecidedCommitted.{given_falls}

-- with nobody attached each dies with no code
nobody_says : (w : World) (s : ℕ) (found : Option Stage) → lowest w.gate.attached.bits ≡ None → death_in w s found ≡ Falls None ∷ []
nobody_says w s (Some (Inserting work posted)) e = ap (λ (x : Option BackendId). death_of work (code_of_lowest w s x)) e
nobody_says w s (Some (Opening work)) e = refl
nobody_says w s (Some (Reading work ticket)) e = refl
nobody_says w s (Some (Running work)) e = refl
nobody_says w s (Some (Locking work table)) e = refl
nobody_says w s (Some Committing) e = refl
nobody_says w s (Some Closing) e = refl
nobody_says w s (Some (RollingBack ending)) e = refl
nobody_says w s None e = refl

-- so that where they stand plays no part
module _ (w v : World) (tables : v.tables ≡ w.tables) (attached : v.gate.attached ≡ w.gate.attached) (stores : v.store ≡ w.store)
    (empty : lowest w.gate.attached.bits ≡ None) (gone : lowest v.gate.attached.bits ≡ None) where
  fell_same : (s : ℕ) (g : List Entry) → fell v s g ≡ fell w s g
  fell_same s g =
      ap (λ (ts : List TableDef). if is_live ((store_after ts g).transaction s) && not (is_alive v s) then recorded s (death_in v s (stage_at (v.machine s).point)) g else g) tables
      ∙ ap (λ (a : Bool). if is_live ((store_after w.tables g).transaction s) && not a then recorded s (death_in v s (stage_at (v.machine s).point)) g else g) (alive_same w v attached stores s)
      ∙ ap (λ (d : List Deed). if is_live ((store_after w.tables g).transaction s) && not (is_alive w s) then recorded s d g else g)
      (nobody_says v s (stage_at (v.machine s).point) gone ∙ sym (nobody_says w s (stage_at (w.machine s).point) empty))

  pub fallen_same : (h : List Entry) (n : ℕ) → fallen v h n ≡ fallen w h n
  unfolding fallen
  fallen_same h zero = refl
  fallen_same h (suc n) = ap (λ (g : List Entry). fell v n g) (fallen_same h n) ∙ fell_same n (fallen w h n)

pools_on : (attached : ℕ) (m : Machine) (told : Told) (live : Bool) (outcome : Outcome) → IsPools attached m told live outcome → IsPools attached m told false outcome
pools_on attached m told live outcome (pools_moment a c d) = pools_moment a refl d
pools_on attached m told live outcome (pools_counts a c d) = pools_counts a refl d
pools_on attached m told live outcome (pools_backends a c d) = pools_backends a refl d
pools_on attached m told live outcome (pools_refusal code name a c d) = pools_refusal code name a refl d
pools_on attached m told live outcome (pools_nodes a d) = pools_nodes a d

module _ (w : World) (orders : ℕ → Option Told) (done : ℕ → ℕ → Bool) (none : (b : ℕ) → IsIn w.gate.attached.bits b → ⊥) (empty : lowest w.gate.attached.bits ≡ None) where
  abbrev attached : ℕ
  attached = w.gate.attached.bits

  abbrev Lives : List Entry → ℕ → Bool
  Lives h s = is_live ((store_after w.tables h).transaction s)

  abbrev FactsAt : List Entry → Type 0
  FactsAt h = Facts w.tables w.gate w.machine w.store w.mail h orders done (Lives h)

  draws_none : (h : List Entry) → FactsAt h → (s : ℕ) → Lives h s ≡ true
      → drawn_waiting (store_after w.tables h).tables (store_after w.tables h).next (waiting_in ((store_after w.tables h).pending s)) ≡ (store_after w.tables h).next
  draws_none h f s lives =
      ap (λ (ts : List TableDef). drawn_waiting ts (store_after w.tables h).next (waiting_in ((store_after w.tables h).pending s))) (tables_there w.tables h)
      ∙ ap (drawn_waiting w.tables (store_after w.tables h).next)
      (same_in ((store_after w.tables h).pending s) ∙ (f.own s).posts ∙ ap (λ (v : Bool). where_live v (wants_of (w.machine s).point (stage_at (w.machine s).point))) lives)
      ∙ point_asks w.tables (store_after w.tables h).next (w.machine s).point (f.own s).classed

  -- one session dies
  module _ (h : List Entry) (f : FactsAt h) (s : ℕ) (lives : Lives h s ≡ true) (outside : in_commit (w.machine s).session.gate ≡ false) where
    abbrev to : List Entry
    to = entry s (Falls None) ∷ h

    ends : Ends w.tables s h to
    ends = dies w.tables s h (draws_none h f s lives) f.shared.run

    abbrev OwnAt : List Entry → Bool → Type 0
    OwnAt g live = Own w.tables attached g w.store (w.machine s) (w.mail s) (orders s) (done s) live s

    old : OwnAt h (Lives h s)
    old = f.own s

    right_on : (by : Told) (outcome : Outcome) → orders s ≡ Some by → IsRightBy attached (w.machine s) (Lives h s) s h by outcome → IsRightBy attached (w.machine s) false s to by outcome
    right_on by outcome is (inl given) = inl (given_falls w.tables s by h outcome (old.since by is) lives given)
    right_on by outcome is (inr pools) = inr (pools_on attached (w.machine s) by (Lives h s) outcome pools)

    own_dies : OwnAt to false
    own_dies = record {
      stranger = λ is. let r = old.stranger is in absurd (let z : false ≡ true = sym (ap is_live r.none_there) ∙ lives in cc);
      inside = old.inside;
      classed = old.classed;
      asked = old.asked;
      untold = old.untold;
      answer = old.answer;
      in_order = old.in_order;
      heard = λ b y answer here e says. absurd (none b here);
      parting = old.parting;
      causes = old.causes;
      stands = λ b here. absurd (none b here);
      crossed = λ b p q here sound is waits mark. absurd (none b here);
      unchanged = λ u written e is. absurd (let z : Absent ≡ Alive u = sym ends.none ∙ is in cc);
      closes = old.closes;
      reasons = λ y by code e is says. absurd (elim says [ inl x ↦ none x.0 x.1 | inr kept ↦ none kept.1.0 kept.1.1 ]);
      posts = ap request_in ends.clear;
      replies = λ by outcome is e. right_on by outcome is (old.replies by outcome is e);
      orders = old.orders;
      order_is = old.order_is;
      since = λ by is. le_trans (old.since by is) ends.longer;
      commits = λ b by here is e. absurd (none b here);
      done_first = λ b by is entered here e. absurd (none b here);
    }

    others : (o : ℕ) → o ≢ s → (store_after w.tables to).transaction o ≡ (store_after w.tables h).transaction o
    others o other = (ends.passes o other).transaction

    facts_die : FactsAt to
    facts_die = record {
      own = λ o. elim (same_or_other o s) [
        | inl e ↦ subst (λ j. Own w.tables attached to w.store (w.machine j) (w.mail j) (orders j) (done j) (Lives to j) j) (sym e)
            (subst (OwnAt to) (sym (ap is_live ends.none)) own_dies)
        | inr other ↦ own_passes w.tables o h to (ends.passes o other) attached w.store (w.machine o) (w.mail o) (orders o) (done o) (Lives h o) (Lives to o) (ap is_live (others o other)) (f.own o)
      ];
      shared =
          subst (λ (y : ℕ → Machine). Shared w.tables attached to w.store y w.mail) (with_at-self w.machine s)
          (subst (λ (y : ℕ → ℕ → Option Answer). Shared w.tables attached to w.store (with_at w.machine s (w.machine s)) y) (with_at-self w.mail s)
          (turned w.tables attached h to w.store w.machine w.mail s (w.machine s) (w.mail s) ends.passes (λ b here e. none b here) (λ b here e. none b here)
          outside (λ b work here e. none b here) (λ b work here e. none b here) ends.rows ends.next
          (sound_ended (store_after w.tables h) (store_after w.tables to) s others ends.none f.shared.sound_there)
          (undead_ended (store_after w.tables h) (store_after w.tables to) s others ends.none f.shared.undead) ends.run
          (λ a u is. let v = was_live (store_after w.tables h) (store_after w.tables to) s others ends.none a u is in (u, v.1, refl))
          (locks_ended (store_after w.tables h) (store_after w.tables to) w.machine s (w.machine s) others ends.none f.shared.locks) f.shared));
      counts = f.counts;
    }

  -- all that are live die, by rising number
  record Fell (h : List Entry) (n : ℕ) : Type 0 where
    facts : FactsAt (fallen w h n)
    gone : (s : ℕ) → s < n → Lives (fallen w h n) s ≡ false
    later : (s : ℕ) → n ≤ s → (store_after w.tables (fallen w h n)).transaction s ≡ (store_after w.tables h).transaction s

  module _ (h : List Entry) (start : FactsAt h) (apart : (s : ℕ) → Lives h s ≡ true → in_commit (w.machine s).session.gate ≡ false) where
    module _ (n : ℕ) (g : List Entry) (facts : FactsAt g) (gone : (s : ℕ) → s < n → Lives g s ≡ false)
        (later : (s : ℕ) → n ≤ s → (store_after w.tables g).transaction s ≡ (store_after w.tables h).transaction s) where
      record Next (k : List Entry) : Type 0 where
        holds : FactsAt k
        dead : (s : ℕ) → s < suc n → Lives k s ≡ false
        laters : (s : ℕ) → suc n ≤ s → (store_after w.tables k).transaction s ≡ (store_after w.tables h).transaction s

      stays_next : Lives g n ≡ false → Next g
      stays_next mine = record {
        holds = facts;
        dead = λ s below. elim (same_or_other s n) [
          | inl e ↦ ap (Lives g) e ∙ mine
          | inr other ↦ gone s (let z : s < n = omega (arith, below, other) in z)
        ];
        laters = λ s above. later s (let z : n ≤ s = omega (arith, above) in z);
      }

      dies_next : Lives g n ≡ true → Next (entry n (Falls None) ∷ g)
      dies_next lives =
          let ends_n : Ends w.tables n g (entry n (Falls None) ∷ g) = dies w.tables n g (draws_none g facts n lives) facts.shared.run in
          record {
            holds = facts_die g facts n lives (apart n (sym (ap is_live (later n (let z : n ≤ n = omega arith in z))) ∙ lives));
            dead = λ s below. elim (same_or_other s n) [
              | inl e ↦ ap is_live (ap (store_after w.tables (entry n (Falls None) ∷ g)).transaction e ∙ ends_n.none)
              | inr other ↦ ap is_live (ends_n.passes s other).transaction ∙ gone s (let z : s < n = omega (arith, below, other) in z)
            ];
            laters = λ s above. (ends_n.passes s (λ e. omega (arith, e, above))).transaction ∙ later s (let z : n ≤ s = omega (arith, above) in z);
          }

      next_of : Next (fell w n g)
      next_of = by (Lives g n) refl
        where
          by : (v : Bool) → Lives g n ≡ v → Next (if v && not (is_alive w n) then recorded n (death_in w n (stage_at (w.machine n).point)) g else g)
          by true is =
              subst (λ (a : Bool). Next (if not a then recorded n (death_in w n (stage_at (w.machine n).point)) g else g)) (sym (none_alive w n none))
              (subst (λ (d : List Deed). Next (recorded n d g)) (sym (nobody_says w n (stage_at (w.machine n).point) empty)) (dies_next is))
          by false is = stays_next is

    all_fell : (n : ℕ) → Fell h n
    unfolding fallen
    all_fell zero = record { facts = start; gone = λ s below. absurd (omega (arith, below)); later = λ s above. refl }
    all_fell (suc n) =
        let f : Fell h n = all_fell n in
        let k = next_of n (fallen w h n) f.facts f.gone f.later in
        record { facts = k.holds; gone = k.dead; later = k.laters }

    abbrev pub behind_all : Tracked
    behind_all = record { world = w; history = fallen w h 65; orders = orders; done = done }

    none_lives : (s : ℕ) → Lives (fallen w h 65) s ≡ false
    none_lives s = by_range (below_or s)
      where
        below_or : (k : ℕ) → (k < 65) ⊎ (65 ≤ k)
        below_or k = elim (leb_tells 65 k) [ inl p ↦ inr p.1 | inr p ↦ inl p.1 ]

        by_range : (s < 65) ⊎ (65 ≤ s) → Lives (fallen w h 65) s ≡ false
        by_range (inl below) = (all_fell 65).gone s below
        by_range (inr above) = ap is_live (((all_fell 65).facts.own s).stranger (inr above)).none_there

    pub alone_holds : Invariant behind_all
    alone_holds = invariant_of behind_all (all_fell 65).facts (λ s live. absurd (let z : false ≡ true = sym (none_lives s) ∙ live in cc))
