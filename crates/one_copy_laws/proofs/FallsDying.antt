-- The sessions that die behind an event, by rising number: what holds of all holds on, where a backend is attached.
use Rattle.std.proofs.Common.{◌≡◌, ◌≢◌, ℕ, zero, suc, ◌<◌, ◌≤◌, Bool, true, false, List, ◌∷◌, refl, sym, ap, ◌∙◌, subst, arith, inl, inr}
use Rattle.std.specs.Prelude.{◌⊎◌, ◌&&◌, not, Option, Some, None, if◌then◌else◌}
use Rattle.std.proofs.lemmas.Bool.Decides.{leb_tells}
use Rattle.pool_base.specs.Sets.{has}
use Rattle.schema.specs.declared.catalogue.TableDef.{TableDef}
use Rattle.backend_trait.specs.declared.answer.Answer.{Answer}
use Rattle.backend_trait.specs.Store.{Absent, request_in as waiting_in}
use Rattle.session_machine.specs.declared.work.Work.{Work}
use Rattle.session_machine.specs.declared.machine.Machine.{Machine}
use Rattle.session_machine.specs.declared.machine.Stage.{Stage}
use Rattle.session_machine.specs.declared.machine.Stage.TheVariants.{Opening, Reading, Running, Locking, Inserting, Committing, Closing, RollingBack}
use Rattle.one_copy_model.specs.declared.deed.Deed.{Deed}
use Rattle.one_copy_model.specs.declared.deed.Deed.TheVariants.{Falls}
use Rattle.one_copy_model.specs.declared.deed.Entry.{Entry}
use Rattle.one_copy_model.specs.SingleRun.{store_after}
use Rattle.one_copy_model.specs.World.{World}
use Rattle.one_copy_model.specs.Deaths.{is_live, is_alive, stage_at, death_in, recorded, fell, fallen}
use Rattle.one_copy_model.specs.Tracking.{Told, Tracked}
use Rattle.one_copy_model.specs.Standing.{Leaving}
use Rattle.one_copy_model.specs.Invariant.{Invariant, inserted_in, where_live, wants_of}
use Rattle.one_copy_model.specs.Own.{told_by, stand, IsIn, Own}
use Rattle.one_copy_model.specs.Facts.{Facts, Shared}
use Rattle.one_copy_model.proofs.Places.{same_or_other}
use Rattle.one_copy_model.proofs.Passing.{own_passes}
use Rattle.one_copy_model.proofs.Turns.{sound_ended, undead_ended, was_live, turned}
use Rattle.one_copy_model.proofs.Turning.{invariant_of}
use Rattle.one_copy_model.proofs.Landing.{with_at-self}
use Rattle.backend_trait.specs.Rows.{with_at}
use Rattle.one_copy_model.proofs.Deeds.{entry}
use Rattle.one_copy_model.proofs.Endings.{Ends}
use Rattle.one_copy_model.proofs.Livings.{none_of}
use Rattle.one_copy_model.proofs.Finding.{one_of_eight}
use Rattle.one_copy_laws.specs.Dying.{is_inserting}
use Rattle.backend_trait.specs.Acting.{drawn_waiting}
use Rattle.one_copy_model.proofs.Tables.{tables_there}
use Rattle.one_copy_model.proofs.Locks.{locks_ended}
use Rattle.one_copy_laws.proofs.FallsDeaths.{dies, point_asks, same_in}
use Rattle.one_copy_laws.proofs.FallsFalling.{no_insert, plain_death, reason_dies, dies_outside, dies_here, own_dies}
use Rattle.one_copy_laws.proofs.FallsStaying.{alive_at}
use Rattle.one_copy_laws.proofs.FallsInserting.{deeds_are, insert_dies, insert_none, others as insert_others}

inserting_is : (found : Option Stage) → is_inserting found ≡ true → (work : Work) × (posted : Bool) × (found ≡ Some (Inserting work posted))
inserting_is (Some (Inserting work posted)) e = (work, posted, refl)
inserting_is (Some (Opening work)) e = absurd (let z : false ≡ true = e in cc)
inserting_is (Some (Reading work ticket)) e = absurd (let z : false ≡ true = e in cc)
inserting_is (Some (Running work)) e = absurd (let z : false ≡ true = e in cc)
inserting_is (Some (Locking work table)) e = absurd (let z : false ≡ true = e in cc)
inserting_is (Some Committing) e = absurd (let z : false ≡ true = e in cc)
inserting_is (Some Closing) e = absurd (let z : false ≡ true = e in cc)
inserting_is (Some (RollingBack ending)) e = absurd (let z : false ≡ true = e in cc)
inserting_is None e = absurd (let z : false ≡ true = e in cc)

-- one session dies
abbrev Lives : (tables : List TableDef) → List Entry → ℕ → Bool
Lives tables h s = is_live ((store_after tables h).transaction s)

module _ (w : World) (orders : ℕ → Option Told) (done : ℕ → ℕ → Bool) (first : ℕ) (there : IsIn w.gate.attached.bits first) where
  abbrev attached : ℕ
  attached = w.gate.attached.bits

  abbrev FactsAt : List Entry → Type 0
  FactsAt h = Facts w.tables w.gate w.machine w.store w.mail h orders done (Lives w.tables h)

  draws_none : (h : List Entry) → FactsAt h → (s : ℕ) → Lives w.tables h s ≡ true
      → drawn_waiting (store_after w.tables h).tables (store_after w.tables h).next (waiting_in ((store_after w.tables h).pending s)) ≡ (store_after w.tables h).next
  draws_none h f s lives =
      ap (λ (ts : List TableDef). drawn_waiting ts (store_after w.tables h).next (waiting_in ((store_after w.tables h).pending s))) (tables_there w.tables h)
      ∙ ap (drawn_waiting w.tables (store_after w.tables h).next)
      (same_in ((store_after w.tables h).pending s) ∙ (f.own s).posts ∙ ap (λ (v : Bool). where_live v (wants_of (w.machine s).point (stage_at (w.machine s).point))) lives)
      ∙ point_asks w.tables (store_after w.tables h).next (w.machine s).point (f.own s).classed

  -- one session has died behind these deeds
  record Died (h : List Entry) (s : ℕ) (to : List Entry) : Type 0 where
    facts : FactsAt to
    none : (store_after w.tables to).transaction s ≡ Absent
    others : (o : ℕ) → o ≢ s → (store_after w.tables to).transaction o ≡ (store_after w.tables h).transaction o

  module _ (h : List Entry) (f : FactsAt h) (s : ℕ) (lives : Lives w.tables h s ≡ true) (not_alive : is_alive w s ≡ false) where
    gone : (b : ℕ) → IsIn attached b → is_live ((w.store b).transaction s) ≡ false
    gone b in_it = none_of (is_live ((w.store b).transaction s)) (λ live. let z : true ≡ false = sym (alive_at w s b (one_of_eight attached b f.counts.few in_it) in_it live) ∙ not_alive in cc)

    -- it is no serial insert
    module _ (calm : is_inserting (stage_at (w.machine s).point) ≡ false) where
      abbrev to : List Entry
      to = entry s (Falls None) ∷ h

      ends : Ends w.tables s h to
      ends = dies w.tables s h (draws_none h f s lives) f.shared.run

      its_own : Own w.tables attached to w.store (w.machine s) (w.mail s) (orders s) (done s) (Lives w.tables to s) s
      its_own = subst (λ (v : Bool). Own w.tables attached to w.store (w.machine s) (w.mail s) (orders s) (done s) v s) (sym (ap is_live ends.none))
          (own_dies w.tables attached h w.store (w.machine s) (w.mail s) (orders s) (done s) (Lives w.tables h s) s (f.own s) first there lives gone to ends.none ends.clear ends.longer
          (λ y by code e is r. reason_dies w.tables y s code by.entries h (ap is_inserting (sym e) ∙ calm) ((f.own s).since by is) lives r))

      others : (o : ℕ) → o ≢ s → (store_after w.tables to).transaction o ≡ (store_after w.tables h).transaction o
      others o other = (ends.passes o other).transaction

      leaves_none : (b : ℕ) → IsIn attached b → stand (w.machine s) (w.mail s) b ≢ Leaving
      leaves_none = dies_here w.tables attached h w.store (w.machine s) (w.mail s) (orders s) (done s) (Lives w.tables h s) s (f.own s) first there lives gone

      inserts_none : (b : ℕ) (work : Work) → IsIn attached b → inserted_in (stage_at (w.machine s).point) (told_by (w.machine s) (w.mail s) b) ≡ Some work → ⊥
      inserts_none b work in_it e = let z : None ≡ Some work = sym (no_insert (stage_at (w.machine s).point) (told_by (w.machine s) (w.mail s) b) calm) ∙ e in cc

      facts_die : FactsAt to
      facts_die = record {
        own = λ o. elim (same_or_other o s) [
          | inl e ↦ subst (λ j. Own w.tables attached to w.store (w.machine j) (w.mail j) (orders j) (done j) (Lives w.tables to j) j) (sym e) its_own
          | inr other ↦ own_passes w.tables o h to (ends.passes o other) attached w.store (w.machine o) (w.mail o) (orders o) (done o) (Lives w.tables h o) (Lives w.tables to o) (ap is_live (others o other)) (f.own o)
        ];
        shared =
            subst (λ (y : ℕ → Machine). Shared w.tables attached to w.store y w.mail) (with_at-self w.machine s)
            (subst (λ (y : ℕ → ℕ → Option Answer). Shared w.tables attached to w.store (with_at w.machine s (w.machine s)) y) (with_at-self w.mail s)
            (turned w.tables attached h to w.store w.machine w.mail s (w.machine s) (w.mail s) ends.passes leaves_none leaves_none
            (dies_outside w.tables attached h w.store (w.machine s) (w.mail s) (orders s) (done s) (Lives w.tables h s) s (f.own s) first there lives gone)
            inserts_none inserts_none ends.rows ends.next
            (sound_ended (store_after w.tables h) (store_after w.tables to) s others ends.none f.shared.sound_there)
            (undead_ended (store_after w.tables h) (store_after w.tables to) s others ends.none f.shared.undead) ends.run
            (λ a u is. let v = was_live (store_after w.tables h) (store_after w.tables to) s others ends.none a u is in (u, v.1, refl))
            (locks_ended (store_after w.tables h) (store_after w.tables to) w.machine s (w.machine s) others ends.none f.shared.locks) f.shared));
        counts = f.counts;
      }

      plain_dies : Died h s (recorded s (death_in w s (stage_at (w.machine s).point)) h)
      plain_dies = subst (λ (d : List Deed). Died h s (recorded s d h)) (sym (plain_death w s (stage_at (w.machine s).point) calm)) (record { facts = facts_die; none = ends.none; others = others })

    insert_died : (work : Work) (posted : Bool) → stage_at (w.machine s).point ≡ Some (Inserting work posted) → Died h s (recorded s (death_in w s (stage_at (w.machine s).point)) h)
    insert_died work posted at =
        subst (λ (d : List Deed). Died h s (recorded s d h)) (sym (deeds_are w orders done first there h f s lives gone work posted at)) (record {
          facts = insert_dies w orders done first there h f s lives gone work posted at;
          none = insert_none w orders done first there h f s lives gone work posted at;
          others = insert_others w orders done first there h f s lives gone work posted at;
        })

    session_dies : Died h s (recorded s (death_in w s (stage_at (w.machine s).point)) h)
    session_dies = by (is_inserting (stage_at (w.machine s).point)) refl
      where
        by : (v : Bool) → is_inserting (stage_at (w.machine s).point) ≡ v → Died h s (recorded s (death_in w s (stage_at (w.machine s).point)) h)
        by false calm = plain_dies calm
        by true is = let i = inserting_is (stage_at (w.machine s).point) is in insert_died i.0 i.1 i.2

  -- all that die, by rising number
  record Fell (h : List Entry) (n : ℕ) : Type 0 where
    facts : FactsAt (fallen w h n)
    alive : (s : ℕ) → s < n → Lives w.tables (fallen w h n) s ≡ true → is_alive w s ≡ true

  module _ (h : List Entry) (start : FactsAt h) where
    module _ (n : ℕ) (g : List Entry) (facts : FactsAt g) (alive : (s : ℕ) → s < n → Lives w.tables g s ≡ true → is_alive w s ≡ true) where
      record Next (k : List Entry) : Type 0 where
        holds : FactsAt k
        alives : (s : ℕ) → s < suc n → Lives w.tables k s ≡ true → is_alive w s ≡ true

      stays_next : (Lives w.tables g n ≡ true → is_alive w n ≡ true) → Next g
      stays_next mine = record {
        holds = facts;
        alives = λ s below live. elim (same_or_other s n) [
          | inl e ↦ ap (is_alive w) e ∙ mine (ap (Lives w.tables g) (sym e) ∙ live)
          | inr other ↦ alive s (let z : s < n = omega (arith, below, other) in z) live
        ];
      }

      dies_next : Lives w.tables g n ≡ true → is_alive w n ≡ false → Next (recorded n (death_in w n (stage_at (w.machine n).point)) g)
      dies_next lives not_alive =
          let d : Died g n (recorded n (death_in w n (stage_at (w.machine n).point)) g) = session_dies g facts n lives not_alive in
          record {
            holds = d.facts;
            alives = λ s below live. elim (same_or_other s n) [
              | inl e ↦ absurd (let z : false ≡ true = sym (ap is_live (ap (store_after w.tables (recorded n (death_in w n (stage_at (w.machine n).point)) g)).transaction e ∙ d.none)) ∙ live in cc)
              | inr other ↦ alive s (let z : s < n = omega (arith, below, other) in z) (sym (ap is_live (d.others s other)) ∙ live)
            ];
          }

      next_of : Next (fell w n g)
      next_of = by (Lives w.tables g n) (is_alive w n) refl refl
        where
          by : (v a : Bool) → Lives w.tables g n ≡ v → is_alive w n ≡ a → Next (if v && not a then recorded n (death_in w n (stage_at (w.machine n).point)) g else g)
          by true false is isnt = dies_next is isnt
          by true true is isnt = stays_next (λ live. isnt)
          by false a is isnt = stays_next (λ live. absurd (let z : false ≡ true = sym is ∙ live in cc))

    all_fell : (n : ℕ) → Fell h n
    unfolding fallen
    all_fell zero = record { facts = start; alive = λ s below live. absurd (omega (arith, below)) }
    all_fell (suc n) =
        let f : Fell h n = all_fell n in
        let k = next_of n (fallen w h n) f.facts f.alive in
        record { facts = k.holds; alive = k.alives }

    abbrev behind : Tracked
    behind = record { world = w; history = fallen w h 65; orders = orders; done = done }

    alive_behind : (s : ℕ) → Lives w.tables (fallen w h 65) s ≡ true → is_alive w s ≡ true
    alive_behind s live = by_range (below_or s)
      where
        below_or : (k : ℕ) → (k < 65) ⊎ (65 ≤ k)
        below_or k = elim (leb_tells 65 k) [ inl p ↦ inr p.1 | inr p ↦ inl p.1 ]

        by_range : (s < 65) ⊎ (65 ≤ s) → is_alive w s ≡ true
        by_range (inl below) = (all_fell 65).alive s below live
        by_range (inr above) = absurd (let z : false ≡ true = sym (ap is_live (((all_fell 65).facts.own s).stranger (inr above)).none_there) ∙ live in cc)

    pub falls_hold : Invariant behind
    falls_hold = invariant_of behind (all_fell 65).facts alive_behind

pub falls_kept : (w : World) (h : List Entry) (orders : ℕ → Option Told) (done : ℕ → ℕ → Bool) (first : ℕ)
    → Facts w.tables w.gate w.machine w.store w.mail h orders done (λ s. is_live ((store_after w.tables h).transaction s)) → has w.gate.attached.bits first ≡ true
    → Invariant (record { world = w; history = fallen w h 65; orders = orders; done = done })
falls_kept w h orders done first facts there = falls_hold w orders done first there h facts
