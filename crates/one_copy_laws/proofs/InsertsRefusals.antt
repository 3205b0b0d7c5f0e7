-- The run of a serial insert is refused: its transaction dies in the single run by that code, with its lock and its run, or, where it has
-- died before, its death takes the code; and the session rolls back.
use Rattle.std.proofs.Common.{◌≡◌, ◌≢◌, ℕ, ◌≤◌, Bool, true, false, List, [], ◌∷◌, length, refl, sym, ap, ◌∙◌, subst, arith, inl, inr}
use Rattle.std.specs.Prelude.{◌⊎◌, Option, Some, None}
use Rattle.pool_base.specs.declared.code.Code.{Code}
use Rattle.pool_base.specs.declared.session_id.SessionId.{SessionId}
use Rattle.pool_base.specs.declared.backend_id.BackendId.{BackendId}
use Rattle.backend_trait.specs.declared.request.Request.TheVariants as requests
use Rattle.backend_trait.specs.declared.answer.Answer.{Answer}
use Rattle.backend_trait.specs.declared.answer.Answer.TheVariants as answers
use Rattle.backend_trait.specs.Store.{Live, Absent, Alive}
use Rattle.backend_trait.specs.Effect.{table_in}
use Rattle.backend_trait.specs.Acts.{MayRefuse, given_of}
use Rattle.session_machine.specs.declared.action.SessionEvent.{SessionEvent}
use Rattle.session_machine.specs.declared.work.Work.{Work}
use Rattle.session_machine.specs.Classes.{class_in as own_class}
use Rattle.session_orders.specs.declared.outcome.Outcome.{Outcome}
use Rattle.session_machine.specs.declared.machine.GatePhase.{GatePhase}
use Rattle.session_machine.specs.declared.machine.GatePhase.TheVariants as phases
use Rattle.session_machine.specs.declared.machine.Machine.{Machine}
use Rattle.session_machine.specs.declared.machine.Session.{Session}
use Rattle.session_machine.specs.declared.machine.Ending.TheVariants.{Replies}
use Rattle.session_machine.specs.declared.machine.Stage.{Stage}
use Rattle.session_machine.specs.declared.machine.Stage.TheVariants.{Inserting, RollingBack}
use Rattle.session_machine.specs.declared.machine.Point.{Point}
use Rattle.session_machine.specs.declared.machine.Point.TheVariants.{LookDue, PostDue}
use Rattle.session_machine.specs.Rules.{due, failing, error_of}
use Rattle.one_copy_model.specs.declared.deed.Deed.{Deed}
use Rattle.one_copy_model.specs.declared.deed.Deed.TheVariants.{Asks, Gets}
use Rattle.one_copy_model.specs.declared.deed.Entry.{Entry}
use Rattle.one_copy_model.specs.SingleRun.{store_after, amended, answer_in, deeds_since}
use Rattle.one_copy_model.specs.World.{World}
use Rattle.one_copy_model.specs.Places.{place_of, opening_of, refused_opening, code_in}
use Rattle.one_copy_model.specs.Deaths.{is_live, is_alive, stage_at, mail_or, death_of, recorded}
use Rattle.one_copy_model.specs.Tracking.{Told, Tracked, single, placed, opened_if, with_code, in_commit}
use Rattle.one_copy_model.specs.Replies.{reply_to, statement_reply}
use Rattle.one_copy_model.specs.Chains.{IsInOrder}
use Rattle.one_copy_model.specs.Orders.{OrderAt, IsClassedAt, IsClassedIn, is_of_commit, reply_in}
use Rattle.one_copy_model.specs.Standing.{Standing, Leaving, Ending, Stands, standing_in, standing_by, leaving_of}
use Rattle.one_copy_model.specs.Invariant.{FitsPoint, HasReason, MayRefuseTo, AtDeath, IsUnderWay, request_in, where_live, wants_of}
use Rattle.one_copy_model.specs.Own.{told_by, stand, IsIn}
use Rattle.one_copy_model.proofs.Counts.{Moves, still}
use Rattle.one_copy_model.proofs.Turning.{FactsOf, live_there}
use Rattle.one_copy_model.proofs.Calm.{free_of, is_waiting}
use Rattle.one_copy_model.proofs.Places.{same_or_other}
use Rattle.one_copy_model.proofs.Quiet.{real}
use Rattle.one_copy_model.proofs.Beginning.{is_plain, free_own}
use Rattle.one_copy_model.proofs.Deeds.{entry}
use Rattle.one_copy_model.proofs.Endings.{Ends}
use Rattle.one_copy_model.proofs.Livings.{live_is, absent_is, asks_none}
use Rattle.one_copy_laws.proofs.GateFinishing.{under_way}
use Rattle.one_copy_laws.proofs.FallsDeaths.{dead_at_death}
use Rattle.one_copy_laws.proofs.ResultsAmending.{code_since, amends, amended_says}
use Rattle.one_copy_laws.proofs.ResultsRefusing.{absent_live}
use Rattle.one_copy_laws.proofs.DrawsStatements.{where_lives}
use Rattle.one_copy_laws.proofs.DrawsInserting.{Drawn, insert_falls, insert_ended}
use Rattle.one_copy_laws.proofs.InsertsInsert as insert

-- what a session places that is not live, where it takes a code
opens_nothing : (alive : Bool) (s : ℕ) (history : List Entry) → opened_if alive s [] history ≡ history
opens_nothing true s history = refl
opens_nothing false s history = refl

pub places_coded : (live : Bool) (w : World) (s : ℕ) (m : Machine) (event : SessionEvent) (history : List Entry) (deeds : List Deed) (code : Code) → live ≡ false
    → place_of m.session m.point event ≡ deeds → code_in deeds ≡ Some code → opening_of m.point event ≡ [] → refused_opening m.session m.point event ≡ []
    → placed live w s m event history ≡ amended s code history
places_coded true w s m event history deeds code dead place coded opening refused = absurd (let z : true ≡ false = dead in cc)
places_coded false w s m event history deeds code dead place coded opening refused =
    ap (λ d. recorded s d (opened_if (is_alive w s) s (opening_of m.point event) (with_code s (code_in (place_of m.session m.point event)) history))) refused
    ∙ ap (λ d. opened_if (is_alive w s) s d (with_code s (code_in (place_of m.session m.point event)) history)) opening
    ∙ opens_nothing (is_alive w s) s (with_code s (code_in (place_of m.session m.point event)) history)
    ∙ ap (λ d. with_code s (code_in d) history) place
    ∙ ap (λ c. with_code s c history) coded

-- the rollback is looked for, or its first request is due
abbrev pub IsRolling : Stage → Point → Type 0
IsRolling rolls point = (point ≡ LookDue rolls) ⊎ ((b : BackendId) × (point ≡ PostDue rolls b))

rolling : {A : Type 0} (g : Point → A) (x : A) (rolls : Stage) (point : Point) → IsRolling rolls point → g (LookDue rolls) ≡ x → ((b : BackendId) → g (PostDue rolls b) ≡ x) → g point ≡ x
rolling g x rolls point (inl e) looks posts = ap g e ∙ looks
rolling g x rolls point (inr e) looks posts = ap g e.1 ∙ posts e.0

rolling_by : (P : Point → Type 0) (rolls : Stage) (point : Point) → IsRolling rolls point → P (LookDue rolls) → ((b : BackendId) → P (PostDue rolls b)) → P point
rolling_by P rolls point (inl e) looks posts = subst P (sym e) looks
rolling_by P rolls point (inr e) looks posts = subst P (sym e.1) (posts e.0)

module _ (t : Tracked) (f : FactsOf t) (s : SessionId) (work : Work) (posted : Bool)
    (in_stage : stage_at (t.world.machine s.number).point ≡ Some (Inserting work posted)) (free : is_waiting (t.world.machine s.number).point ≡ false)
    (code : Code) (reason : (told : Told) → t.orders s.number ≡ Some told → HasReason t.world.tables (Inserting work posted) s.number code told.entries t.history)
    (looks : Session) (phase : looks.gate ≡ (t.world.machine s.number).session.gate) (point : Point) (how : IsRolling (RollingBack (Replies (error_of code))) point) where
  abbrev m : Machine
  m = t.world.machine s.number

  abbrev attached : ℕ
  attached = t.world.gate.attached.bits

  abbrev mail : ℕ → Option Answer
  mail = t.world.mail s.number

  abbrev stage : Stage
  stage = Inserting work posted

  abbrev outcome : Outcome
  outcome = error_of code

  abbrev rolls : Stage
  rolls = RollingBack (Replies outcome)

  abbrev pub rolls_to : Machine
  rolls_to = due (record (failing looks) { heard = [] }) point

  in_rolls : stage_at point ≡ Some rolls
  in_rolls = rolling stage_at (Some rolls) rolls point how refl (λ b. refl)

  untold : (b : ℕ) → told_by rolls_to mail b ≡ None
  untold b = ap (λ x. mail_or x None) (insert.mail_none t f s work posted in_stage free b)

  ending : (b : ℕ) → stand rolls_to mail b ≡ Ending
  ending b =
      ap (λ (x : Option Stage). standing_by looks.gate point x (told_by rolls_to mail b)) in_rolls
      ∙ ap (standing_in rolls) (untold b)

  lasts : (b : ℕ) → IsIn attached b → stand rolls_to mail b ≢ Leaving
  lasts b in_it e = let z : Ending ≡ Leaving = sym (ending b) ∙ e in cc

  inside : (changed : Bool) × (written : ℕ) × (m.session.gate ≡ phases.Live changed written)
  inside = insert.inside t f s work posted in_stage free

  outside : in_commit looks.gate ≡ false
  outside = ap in_commit (phase ∙ inside.2)

  moves : Moves t.world.gate t.world.gate m.session.gate looks.gate
  moves = still t.world.gate t.world.machine m.session.gate looks.gate phase f.counts

  off_commit : is_of_commit (stage_at point) ≡ false
  off_commit = ap is_of_commit in_rolls

  -- by what the single run has behind it
  module _ (mid : List Entry) (in_order : IsInOrder attached rolls_to rolls)
      (none : (store_after t.world.tables mid).transaction s.number ≡ Absent) (clear : (store_after t.world.tables mid).pending s.number ≡ None)
      (told_there : (told : Told) → t.orders s.number ≡ Some told → answer_in (deeds_since s.number told.entries mid) ≡ Some (answers.Refused code))
      (longer : length t.history ≤ length mid) where
    rolls_own : insert.Own_behind t f s work posted in_stage free rolls_to mid false
    rolls_own =
        let old = insert.own_was t f s work posted in_stage free in
        free_own t.world.tables attached t.history mid t.world.store m mail (t.orders s.number) (t.done s.number) (live_there t s.number) s.number
        (real s) (free_of m.point free) old rolls_to (t.orders s.number) (t.done s.number) false
        (rolling is_plain true rolls point how refl (λ b. refl))
        (subst (λ (x : Option Stage). FitsPoint x point looks.gate) (sym in_rolls)
        (subst (λ (g : GatePhase). FitsPoint (Some rolls) point g) (sym (phase ∙ inside.2)) refl))
        (rolling_by (IsClassedAt t.world.tables) rolls point how refl (λ b. refl))
        (λ x e. subst (IsInOrder attached rolls_to) (let z : Some rolls ≡ Some x = sym in_rolls ∙ e in let same : rolls ≡ x = cc in same) in_order)
        (λ b x in_it e. untold b)
        (λ b in_it. subst (λ (x : Standing). Stands (store_after t.world.tables mid) s.number (leaving_of t.world.tables s.number mid) x ((t.world.store b).transaction s.number) ((store_after t.world.tables mid).transaction s.number)) (sym (ending b)) none)
        (λ u written e alive. absurd (absent_live ((store_after t.world.tables mid).transaction s.number) u none alive))
        (λ b l in_it e is. absurd (let z : false ≡ true = sym off_commit ∙ ap is_of_commit e in cc))
        (ap request_in clear)
        (λ told other e g. inl (
        let o = insert.says t f s work posted in_stage free told e in
        ap (λ x. reply_to x told.status told.begun (deeds_since s.number told.entries mid)) o.body
        ∙ ap (statement_reply (own_class o.checked.body)) (told_there told e) ∙ sym (rolling reply_in (Some outcome) rolls point how refl (λ b. refl)) ∙ g))
        (rolling_by (λ p. IsUnderWay p (t.orders s.number)) rolls point how
        (under_way m.point (t.orders s.number) (insert.awake t f s work posted in_stage free) old.orders)
        (λ b. under_way m.point (t.orders s.number) (insert.awake t f s work posted in_stage free) old.orders))
        (λ told e. rolling_by (λ p. OrderAt (record (failing looks) { heard = [] }) p told) rolls point how tt (λ b. tt))
        (λ told e. let most = old.since told e in omega (arith, most, longer))
        (λ b told in_it e g. absurd (let z : false ≡ true = sym off_commit ∙ g in cc))
        (λ b told e entered in_it g. old.done_first b told e entered in_it (insert.stays t f s work posted in_stage free b))

  -- it is live there, and each attached backend has answered: it dies now
  module _ (live : live_there t s.number ≡ true) (in_order : IsInOrder attached rolls_to rolls)
      (all : (b : ℕ) → IsIn attached b → (answer : Answer) × (told_by m mail b ≡ Some answer)) where
    abbrev k : Live
    k = (live_is ((single t).transaction s.number) live).0

    alive : (single t).transaction s.number ≡ Alive k
    alive = (live_is ((single t).transaction s.number) live).1

    abbrev table : ℕ
    table = insert.table t f s work posted in_stage free

    may : MayRefuseTo (single t) s.number ⊥ (requests.Run work.statement) code
    may =
        let told = insert.its t f s work posted in_stage free in
        elim (reason told.0 told.1) [
          | inl now ↦ now
          | inr d ↦ absurd (let z : false ≡ true = sym (dead_at_death t.world.tables s.number code told.0.entries t.history d) ∙ live in cc)
        ]

    abbrev runs : List Entry
    runs = entry s.number (Asks (requests.Run work.statement)) ∷ entry s.number (Gets answers.Locked) ∷ t.history

    abbrev pub dies_to : List Entry
    dies_to = recorded s.number (death_of work (Some code)) t.history

    abbrev c : IsClassedIn t.world.tables stage
    c = insert.classed t f s work posted in_stage free

    drawn : Drawn t.world.tables s.number table work t.history dies_to
    drawn = insert_falls t.world.tables s.number table t.history work k c.0 c.1.1 alive
        (insert.asks t f s work posted in_stage free k alive) (insert.lock_free t f s work posted in_stage free k alive) f.shared.run code may

    ended : (store_after t.world.tables dies_to).transaction s.number ≡ Absent
    ended = insert_ended t.world.tables s.number table t.history work k c.0 c.1.1 alive
        (insert.asks t f s work posted in_stage free k alive) (insert.lock_free t f s work posted in_stage free k alive) f.shared.run code

    pub dies_facts : insert.Turned_to t f s work posted in_stage free rolls_to dies_to
    dies_facts =
        insert.falls_facts t f s work posted in_stage free k alive rolls_to dies_to drawn all lasts outside
        (λ b other more in_it i. let z : false ≡ true = sym (ap is_live ended) ∙ i.live in cc) moves ended
        (rolls_own dies_to in_order ended drawn.clear
        (λ told e. let most = (f.own s.number).since told e in code_since s.number told.entries runs code (let z : told.entries ≤ length runs = omega (arith, most) in z))
        drawn.longer)

  -- it has died before: the death takes the code
  module _ (dead : live_there t s.number ≡ false) (in_order : IsInOrder attached rolls_to rolls) where
    no_run : MayRefuseTo (single t) s.number ⊥ (requests.Run work.statement) code → ⊥
    no_run may =
        let z : false ≡ true = sym dead ∙ where_lives (λ u. MayRefuse ⊥ u (table_in work.statement) code (given_of (single t) work.statement u)) ((single t).transaction s.number) may in cc

    death : (told : Told) → t.orders s.number ≡ Some told → AtDeath t.world.tables s.number code told.entries t.history
    death told e = elim (reason told e) [ inl now ↦ absurd (no_run now) | inr d ↦ d ]

    absent : (single t).transaction s.number ≡ Absent
    absent = absent_is ((single t).transaction s.number) dead (f.shared.undead s.number)

    clear : (single t).pending s.number ≡ None
    clear = asks_none ((single t).pending s.number) ((f.own s.number).posts ∙ ap (λ (x : Bool). where_live x (wants_of m.point (stage_at m.point))) dead)

    abbrev pub amended_to : List Entry
    amended_to = amended s.number code t.history

    ends : Ends t.world.tables s.number t.history amended_to
    ends =
        let told = insert.its t f s work posted in_stage free in
        amends t.world.tables s.number code told.0.entries t.history (death told.0 told.1) absent clear f.shared.run

    -- who is live behind it was so before
    pub amended_lives : (o : ℕ) → is_live ((store_after t.world.tables amended_to).transaction o) ≡ true → live_there t o ≡ true
    amended_lives o now = elim (same_or_other o s.number) [
      | inl e ↦ absurd (let z : false ≡ true = sym (ap is_live (ap (store_after t.world.tables amended_to).transaction e ∙ ends.none)) ∙ now in cc)
      | inr other ↦ sym (ap is_live (ends.passes o other).transaction) ∙ now
    ]

    pub amended_facts : insert.Turned_to t f s work posted in_stage free rolls_to amended_to
    amended_facts =
        insert.dead_facts t f s work posted in_stage free dead rolls_to amended_to ends lasts outside moves
        (rolls_own amended_to in_order ends.none ends.clear (λ told e. amended_says t.world.tables s.number code told.entries t.history (death told e)) ends.longer)
