-- A call that adds nothing to the single run, of a session that waits for nothing; and where nobody is attached.
use Rattle.std.proofs.Common.{◌≡◌, ◌≢◌, ℕ, Bool, true, false, List, [], refl, sym, ap, ◌∙◌, subst, inl, inr}
use Rattle.std.specs.Prelude.{◌⊎◌, Some, None, is_some}
use Rattle.pool_base.specs.declared.session_id.SessionId.{SessionId}
use Rattle.backend_trait.specs.Rows.{with_at, no_changes}
use Rattle.backend_trait.specs.Store.{Live, Alive}
use Rattle.snapshot_gate.specs.declared.state.GateState.{GateState}
use Rattle.session_orders.specs.declared.outcome.Outcome.{Outcome}
use Rattle.session_machine.specs.declared.machine.GatePhase.TheVariants as phases
use Rattle.session_machine.specs.declared.machine.Machine.{Machine}
use Rattle.session_machine.specs.declared.machine.Stage.{Stage}
use Rattle.session_machine.specs.declared.machine.Point.TheVariants.{Resting}
use Rattle.one_copy_model.specs.declared.deed.Deed.{Deed}
use Rattle.one_copy_model.specs.declared.deed.Entry.{Entry}
use Rattle.one_copy_model.specs.World.{World}
use Rattle.one_copy_model.specs.Places.{place_of, opening_of, refused_opening}
use Rattle.one_copy_model.specs.Deaths.{recorded, stage_at, is_alive}
use Rattle.session_machine.specs.declared.action.SessionEvent.{SessionEvent}
use Rattle.one_copy_model.specs.Places.{code_in}
use Rattle.one_copy_model.specs.Tracking.{opened_if, with_code}
use Rattle.one_copy_model.specs.Tracking.{Told, Tracked, single, placed, in_commit}
use Rattle.one_copy_model.specs.Orders.{OrderAt, reply_in, is_of_commit, IsClassedAt}
use Rattle.one_copy_model.specs.Standing.{Standing, Leaving, Stands, leaving_of}
use Rattle.one_copy_model.specs.Invariant.{Invariant, FitsPoint, where_live, wants_of, request_in, IsUnderWay}
use Rattle.one_copy_model.specs.Own.{told_by, stand, IsIn, Own, IsRightBy}
use Rattle.one_copy_model.proofs.Counts.{Moves}
use Rattle.one_copy_model.proofs.Turning.{facts_of, live_there}
use Rattle.one_copy_model.proofs.Locks.{locks_stay}
use Rattle.one_copy_model.proofs.Quiet.{real, quiet_with}
use Rattle.one_copy_model.specs.Chains.{IsInOrder}
use Rattle.one_copy_model.specs.Invariant.{inserted_in, inserting_in, Inserts, HaveLocks}
use Rattle.one_copy_model.proofs.Calm.{free_of, is_waiting}
use Rattle.one_copy_model.proofs.Beginning.{is_plain, free_own}
use Rattle.one_copy_model.proofs.Livings.{not_live, alive_where, none_of}
use Rattle.one_copy_laws.proofs.GateFinishing.{under_way}

-- it inserts nothing
pub none_inserts : (n : Machine) (table : ℕ) → inserting_in (stage_at n.point) ≡ None → Inserts n table → ⊥
none_inserts n table none i = let z : None ≡ Some i.work = sym none ∙ i.inserting in cc

-- a session goes on with its order
module _ (t : Tracked) (h : Invariant t) (s : SessionId) (n : Machine) (next : GateState)
    (free : is_waiting (t.world.machine s.number).point ≡ false)
    (awake : (t.world.machine s.number).point ≡ Resting → ⊥)
    (plain : is_plain n.point ≡ true)
    (empty : (b : ℕ) (stage : Stage) → IsIn t.world.gate.attached.bits b → stage_at n.point ≡ Some stage → told_by n (t.world.mail s.number) b ≡ None)
    (fits : FitsPoint (stage_at n.point) n.point n.session.gate) (classed : IsClassedAt t.world.tables n.point)
    (in_order : (stage : Stage) → stage_at n.point ≡ Some stage → IsInOrder t.world.gate.attached.bits n stage)
    (same : (b : ℕ) → IsIn t.world.gate.attached.bits b → stand n (t.world.mail s.number) b ≡ stand (t.world.machine s.number) (t.world.mail s.number) b)
    (stays : (b : ℕ) → IsIn t.world.gate.attached.bits b → stand (t.world.machine s.number) (t.world.mail s.number) b ≢ Leaving)
    (unchanged : (u : Live) (written : ℕ) → n.session.gate ≡ phases.Live false written → (single t).transaction s.number ≡ Alive u → u.changes ≡ no_changes)
    (posts : request_in ((single t).pending s.number) ≡ where_live (live_there t s.number) (wants_of n.point (stage_at n.point)))
    (replies : (told : Told) (outcome : Outcome) → t.orders s.number ≡ Some told → reply_in n.point ≡ Some outcome → IsRightBy t.world.gate.attached.bits n (live_there t s.number) s.number t.history told outcome)
    (under : is_some (t.orders s.number) ≡ true → IsUnderWay n.point (t.orders s.number))
    (order_is : (told : Told) → t.orders s.number ≡ Some told → OrderAt n.session n.point told)
    (off : is_of_commit (stage_at n.point) ≡ false) where
  abbrev m : Machine
  m = t.world.machine s.number

  pub goes_own : Own t.world.tables t.world.gate.attached.bits t.history t.world.store n (t.world.mail s.number) (t.orders s.number) (t.done s.number) (live_there t s.number) s.number
  goes_own =
      let old : Own t.world.tables t.world.gate.attached.bits t.history t.world.store m (t.world.mail s.number) (t.orders s.number) (t.done s.number) (live_there t s.number) s.number = (facts_of t h).own s.number in
      free_own t.world.tables t.world.gate.attached.bits t.history t.history t.world.store m (t.world.mail s.number) (t.orders s.number) (t.done s.number) (live_there t s.number) s.number
      (real s) (free_of m.point free) old n (t.orders s.number) (t.done s.number) (live_there t s.number) plain
      fits classed in_order empty
      (λ b at. subst (λ (x : Standing). Stands (single t) s.number (leaving_of t.world.tables s.number t.history) x ((t.world.store b).transaction s.number) ((single t).transaction s.number)) (sym (same b at)) (old.stands b at))
      unchanged (λ b l at e is. absurd (let z : false ≡ true = sym off ∙ ap is_of_commit e in cc)) posts replies (under (under_way m.point (t.orders s.number) awake old.orders)) order_is old.since
      (λ b told at e f. absurd (let z : false ≡ true = sym off ∙ f in cc))
      (λ b told e entered at f. old.done_first b told e entered at (stays b at))

  -- where the locks are set apart
  pub goes_with : next.attached ≡ t.world.gate.attached
      → Moves t.world.gate next m.session.gate n.session.gate
      → (in_commit n.session.gate ≡ true → in_commit m.session.gate ≡ true)
      → ((b : ℕ) → IsIn t.world.gate.attached.bits b → inserted_in (stage_at m.point) (told_by m (t.world.mail s.number) b) ≡ inserted_in (stage_at n.point) (told_by n (t.world.mail s.number) b))
      → HaveLocks (single t) (with_at t.world.machine s.number n)
      → Invariant (record { world = record { tables = t.world.tables; gate = next; machine = with_at t.world.machine s.number n; store = t.world.store; mail = t.world.mail }; history = t.history; orders = with_at t.orders s.number (t.orders s.number); done = with_at t.done s.number (t.done s.number) })
  goes_with attached moves commits inserts locks =
      quiet_with t h s n next (t.orders s.number) (t.done s.number) attached moves
      (record {
        leaves = λ b at e. same b at ∙ e;
        stays = λ b at e. sym (same b at) ∙ e;
        inserts = inserts;
        commits = λ a u is e. commits e;
      }) locks goes_own

  -- where no serial insert begins
  pub goes_on : next.attached ≡ t.world.gate.attached
      → Moves t.world.gate next m.session.gate n.session.gate
      → (in_commit n.session.gate ≡ true → in_commit m.session.gate ≡ true)
      → ((b : ℕ) → IsIn t.world.gate.attached.bits b → inserted_in (stage_at m.point) (told_by m (t.world.mail s.number) b) ≡ inserted_in (stage_at n.point) (told_by n (t.world.mail s.number) b))
      → inserting_in (stage_at n.point) ≡ None
      → Invariant (record { world = record { tables = t.world.tables; gate = next; machine = with_at t.world.machine s.number n; store = t.world.store; mail = t.world.mail }; history = t.history; orders = with_at t.orders s.number (t.orders s.number); done = with_at t.done s.number (t.done s.number) })
  goes_on attached moves commits inserts plainly =
      goes_with attached moves commits inserts
      (locks_stay (single t) t.world.machine s.number n (λ table i. absurd (none_inserts n table plainly i)) h.locks)

-- who is out, or where nobody is attached, adds nothing
opens_none : (alive : Bool) (s : ℕ) (deeds : List Deed) (history : List Entry) → (alive ≡ false) ⊎ (deeds ≡ []) → opened_if alive s deeds history ≡ history
opens_none true s deeds history (inl e) = absurd (let z : true ≡ false = e in cc)
opens_none true s deeds history (inr e) = ap (λ d. recorded s d history) e
opens_none false s deeds history e = refl

pub places_dead : (live : Bool) (w : World) (s : ℕ) (m : Machine) (event : SessionEvent) (history : List Entry) → live ≡ false
    → code_in (place_of m.session m.point event) ≡ None → (is_alive w s ≡ false) ⊎ (opening_of m.point event ≡ []) → refused_opening m.session m.point event ≡ []
    → placed live w s m event history ≡ history
places_dead true w s m event history dead place opening refused = absurd (let z : true ≡ false = dead in cc)
places_dead false w s m event history dead place opening refused =
    ap (λ d. recorded s d (opened_if (is_alive w s) s (opening_of m.point event) (with_code s (code_in (place_of m.session m.point event)) history))) refused
    ∙ opens_none (is_alive w s) s (opening_of m.point event) (with_code s (code_in (place_of m.session m.point event)) history) opening
    ∙ ap (λ c. with_code s c history) place

pub none_alive : (w : World) (s : ℕ) → ((b : ℕ) → IsIn w.gate.attached.bits b → ⊥) → is_alive w s ≡ false
none_alive w s none = none_of (is_alive w s) (λ e. let a = alive_where w s e in none a.0 a.1)

module _ (t : Tracked) (h : Invariant t) (s : ℕ) (none : (b : ℕ) → IsIn t.world.gate.attached.bits b → ⊥) where
  pub none_lives : live_there t s ≡ false
  none_lives = not_live t h s (λ b asked at. absurd (none b at))
