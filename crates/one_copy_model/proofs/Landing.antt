-- From the facts behind a step of one session to the invariant behind its event.
use Rattle.std.proofs.Common.{◌≡◌, ◌≢◌, ℕ, Bool, true, false, List, [], refl, sym, ap, ◌∙◌, subst, inl, inr}
use Rattle.std.specs.Prelude.{◌&&◌, Option}
use Rattle.pool_base.specs.Sets.{has}
use Rattle.pool_base.specs.declared.backend_set.BackendSet.{BackendSet}
use Rattle.backend_trait.specs.declared.answer.Answer.{Answer}
use Rattle.backend_trait.specs.Rows.{with_at}
use Rattle.backend_trait.specs.Store.{Store}
use Rattle.snapshot_gate.specs.declared.state.GateState.{GateState}
use Rattle.session_machine.specs.declared.action.SessionEvent.{SessionEvent}
use Rattle.session_machine.specs.declared.machine.Machine.{Machine}
use Rattle.one_copy_model.specs.declared.deed.Deed.{Deed}
use Rattle.one_copy_model.specs.declared.deed.Entry.{Entry}
use Rattle.one_copy_model.specs.declared.event.Event.{Event}
use Rattle.one_copy_model.specs.Numbers.{some_below}
use Rattle.one_copy_model.specs.World.{World, after}
use Rattle.one_copy_model.specs.Places.{place_of, opening_of, refused_opening, code_in}
use Rattle.one_copy_model.specs.Deaths.{is_live, is_alive, recorded, fallen}
use Rattle.one_copy_model.specs.Tracking.{Told, Tracked, tracked_after, history_after, orders_after, done_after, placed, opened_if, with_code}
use Rattle.one_copy_model.specs.Invariant.{Invariant}
use Rattle.one_copy_model.proofs.LossLaws.{none_fall}
use Rattle.one_copy_model.specs.Own.{Own}
use Rattle.one_copy_model.specs.Facts.{CountedBy, Shared}
use Rattle.one_copy_model.proofs.Places.{with_at-same, with_at-other, same_or_other, each_at4}
use Rattle.one_copy_model.proofs.Turning.{invariant_of, live_there}

-- a value put where it is
pub with_at-self : {A : Type 0} (f : ℕ → A) (s : ℕ) → with_at f s (f s) ≡ f
with_at-self f s = λ i o. same o i
  where
    same : (o : ℕ) → with_at f s (f s) o ≡ f o
    same o = elim (same_or_other o s) [
      | inl e ↦ ap (with_at f s (f s)) e ∙ with_at-same f s (f s) ∙ ap f (sym e)
      | inr other ↦ with_at-other f s (f s) o other
    ]

-- an event that places nothing
opens_none : (alive : Bool) (s : ℕ) (deeds : List Deed) (history : List Entry) → deeds ≡ [] → opened_if alive s deeds history ≡ history
opens_none true s deeds history e = ap (λ d. recorded s d history) e
opens_none false s deeds history e = refl

pub places_none : (live : Bool) (w : World) (s : ℕ) (m : Machine) (event : SessionEvent) (history : List Entry)
    → place_of m.session m.point event ≡ [] → opening_of m.point event ≡ [] → refused_opening m.session m.point event ≡ []
    → placed live w s m event history ≡ history
places_none true w s m event history place opening refused = ap (λ d. recorded s d history) place
places_none false w s m event history place opening refused =
    ap (λ d. recorded s d (opened_if (is_alive w s) s (opening_of m.point event) (with_code s (code_in (place_of m.session m.point event)) history))) refused
    ∙ opens_none (is_alive w s) s (opening_of m.point event) (with_code s (code_in (place_of m.session m.point event)) history) opening
    ∙ ap (λ d. with_code s (code_in d) history) place

-- nobody falls where the invariant holds of what the event has placed
pub lands : (t : Tracked) (e : Event) (mid : List Entry) → history_after t e (after t.world e) ≡ fallen (after t.world e) mid 65
    → Invariant (record { world = after t.world e; history = mid; orders = orders_after t e; done = done_after t e })
    → Invariant (tracked_after t e)
lands t e mid is h =
    subst (λ (history : List Entry). Invariant (record { world = after t.world e; history = history; orders = orders_after t e; done = done_after t e }))
    (sym (is ∙ none_fall (after t.world e) mid h.alive 65)) h

-- who is alive is read off the attached backends and their transactions
pub alive_same : (w v : World) → v.gate.attached ≡ w.gate.attached → v.store ≡ w.store → (s : ℕ) → is_alive v s ≡ is_alive w s
unfolding is_alive
alive_same w v attached store s =
    ap (λ (a : BackendSet). some_below (λ b. has a.bits b && is_live ((v.store b).transaction s)) 8) attached
    ∙ ap (λ (x : ℕ → Store). some_below (λ b. has w.gate.attached.bits b && is_live ((x b).transaction s)) 8) store

-- one session moves; the stores stay, and the attached backends
module _ (t : Tracked) (s : ℕ) (n : Machine) (next : GateState) (post : ℕ → Option Answer) (mid : List Entry) (by : Option Told) (did : ℕ → Bool) where
  abbrev pub moved_world : World
  moved_world = record { tables = t.world.tables; gate = next; machine = with_at t.world.machine s n; store = t.world.store; mail = with_at t.world.mail s post }

  abbrev pub moved : Tracked
  moved = record { world = moved_world; history = mid; orders = with_at t.orders s by; done = with_at t.done s did }

  pub moved_holds : next.attached ≡ t.world.gate.attached
      → Own t.world.tables t.world.gate.attached.bits mid t.world.store n post by did (live_there moved s) s
      → ((o : ℕ) → o ≢ s → Own t.world.tables t.world.gate.attached.bits mid t.world.store (t.world.machine o) (t.world.mail o) (t.orders o) (t.done o) (live_there moved o) o)
      → Shared t.world.tables t.world.gate.attached.bits mid t.world.store (with_at t.world.machine s n) (with_at t.world.mail s post)
      → CountedBy next (with_at t.world.machine s n)
      → ((o : ℕ) → live_there moved o ≡ true → is_alive t.world o ≡ true)
      → Invariant moved
  moved_holds same own others shared counts alive = invariant_of moved (record {
    own = subst (λ (a : BackendSet). (o : ℕ) → Own t.world.tables a.bits mid t.world.store (with_at t.world.machine s n o) (with_at t.world.mail s post o) (with_at t.orders s by o) (with_at t.done s did o) (live_there moved o) o) (sym same)
        (each_at4 (λ o x y z w. Own t.world.tables t.world.gate.attached.bits mid t.world.store x y z w (live_there moved o) o) t.world.machine t.world.mail t.orders t.done s n post by did own others);
    shared = subst (λ (a : BackendSet). Shared t.world.tables a.bits mid t.world.store (with_at t.world.machine s n) (with_at t.world.mail s post)) (sym same) shared;
    counts = counts;
  }) (λ o live. alive_same t.world moved_world same refl o ∙ alive o live)

  -- where the event takes no answer
  pub same_mail : post ≡ t.world.mail s → Invariant moved
      → Invariant (record { world = record { tables = t.world.tables; gate = next; machine = with_at t.world.machine s n; store = t.world.store; mail = t.world.mail }; history = mid; orders = with_at t.orders s by; done = with_at t.done s did })
  same_mail is h =
      subst (λ (mail : ℕ → ℕ → Option Answer). Invariant (record { world = record { tables = t.world.tables; gate = next; machine = with_at t.world.machine s n; store = t.world.store; mail = mail }; history = mid; orders = with_at t.orders s by; done = with_at t.done s did }))
      (ap (with_at t.world.mail s) is ∙ with_at-self t.world.mail s) h
