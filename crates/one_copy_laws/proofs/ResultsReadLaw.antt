-- A Look at which a read has its rows: it closes, and the single run gives the same.
use Rattle.std.proofs.Common.{◌≡◌, ◌≢◌, ℕ, suc, ◌-◌, ◌≤◌, Bool, true, false, List, [], ◌∷◌, length, take, refl, sym, ap, ◌∙◌, subst, arith, inl, inr, le_trans}
use Rattle.std.specs.Prelude.{◌⊎◌, ◌==◌, Option, Some, None, if◌then◌else◌}
use Rattle.pool_base.specs.declared.session_id.SessionId.{SessionId}
use Rattle.pool_base.specs.declared.backend_id.BackendId.{BackendId}
use Rattle.pool_base.specs.declared.gate_call.GateCall.TheVariants as calls
use Rattle.pool_base.specs.declared.gate_call.GateAnswer.{GateAnswer}
use Rattle.pool_base.specs.declared.gate_call.GateAnswer.TheVariants.{Seen}
use Rattle.schema.specs.declared.catalogue.TableDef.{TableDef}
use Rattle.sql_eval.specs.declared.row.Row.{Row}
use Rattle.backend_trait.specs.declared.request.Request.{Request}
use Rattle.backend_trait.specs.declared.request.Request.TheVariants as requests
use Rattle.backend_trait.specs.declared.answer.Answer.{Answer}
use Rattle.backend_trait.specs.declared.answer.Answer.TheVariants as answers
use Rattle.backend_trait.specs.Rows.{Changes, no_changes}
use Rattle.backend_trait.specs.Effect.{Given, Fails, Gives, Conflicts, table_in}
use Rattle.backend_trait.specs.Store.{Live, Transaction, Absent, Alive, Dead, Pending, Store, WhereLive, acted, is_refusal, held_by, given_to, view_of as seen_by_it, next_for, drawn, where_live as where_alive}
use Rattle.backend_trait.specs.Acts.{MayAnswer, MayGive, WhereSome, given_of}
use Rattle.backend_trait.specs.Acting.{drawn_waiting}
use Rattle.snapshot_gate.specs.Function.{view_of}
use Rattle.session_machine.specs.declared.action.SessionEvent.{SessionEvent}
use Rattle.session_machine.specs.declared.action.SessionEvent.TheVariants.{Called}
use Rattle.session_machine.specs.declared.work.Work.{Work}
use Rattle.session_machine.specs.Classes.{class_in as own_class}
use Rattle.session_orders.specs.declared.outcome.Outcome.{Outcome}
use Rattle.session_orders.specs.declared.outcome.Outcome.TheVariants as outcomes
use Rattle.session_orders.specs.declared.outcome.Tag.TheVariants as tags
use Rattle.session_machine.specs.declared.machine.GatePhase.{GatePhase}
use Rattle.session_machine.specs.declared.machine.GatePhase.TheVariants as phases
use Rattle.session_machine.specs.declared.machine.Heard.{Heard}
use Rattle.session_machine.specs.declared.machine.Machine.{Machine}
use Rattle.session_machine.specs.declared.machine.Session.{Session}
use Rattle.session_machine.specs.declared.machine.Stage.{Stage}
use Rattle.session_machine.specs.declared.machine.Stage.TheVariants.{Reading}
use Rattle.session_machine.specs.declared.machine.Point.{Point}
use Rattle.session_machine.specs.declared.machine.Point.TheVariants.{Resting, LookDue, ReplyDue}
use Rattle.session_machine.specs.Answers.{lowest, counts}
use Rattle.session_machine.specs.Rules.{due, called, granted, with_view, primary, looked_at, closed, read, chosen}
use Rattle.one_copy_model.specs.declared.deed.Deed.TheVariants.{Gets}
use Rattle.one_copy_model.specs.declared.deed.Entry.{Entry}
use Rattle.one_copy_model.specs.declared.event.Event.TheVariants.{Of}
use Rattle.one_copy_model.specs.World.{MayHappen}
use Rattle.one_copy_model.specs.Marks.{with_mark, marked}
use Rattle.one_copy_model.specs.SingleRun.{store_after, after_answer, IsRun, deeds_of, deeds_since, of_session, answer_in}
use Rattle.one_copy_model.specs.Places.{asks_of, asks_as, at_granted, where_decided, closing_look, closing_read, read_answer}
use Rattle.one_copy_model.specs.Deaths.{is_live, stage_at, heard_from, mail_or}
use Rattle.one_copy_model.specs.Tracking.{Tracked, single, tracked_after, in_commit}
use Rattle.one_copy_model.specs.Replies.{reply_to, statement_reply}
use Rattle.one_copy_model.specs.Chains.{IsResult, HasOne, asked_in}
use Rattle.one_copy_model.specs.Orders.{OrderAt, IsStatement, IsClassedIn, IsClassedAt, is_of_commit}
use Rattle.one_copy_model.specs.Standing.{Standing, Ahead, Leaving, Alike, Stands, same as as_there, standing_in, standing_by, standing_open, leaving_of}
use Rattle.one_copy_model.specs.Invariant.{Invariant, FitsPoint, IsSound, is_dead, where_live, wants_of, request_in, inserted_in}
use Rattle.one_copy_model.specs.Own.{told_by, stand, IsIn, Own}
use Rattle.one_copy_model.proofs.Counts.{still, counted}
use Rattle.one_copy_model.proofs.Turning.{FactsOf, facts_of, live_there}
use Rattle.one_copy_model.proofs.Turns.{turned, no_left}
use Rattle.one_copy_model.proofs.Landing.{moved, moved_holds, same_mail}
use Rattle.one_copy_model.proofs.Locks.{calm_inserts, locks_turned}
use Rattle.one_copy_model.proofs.Passing.{Passes, own_passes}
use Rattle.one_copy_model.proofs.Places.{same_or_other, with_at-same, with_at-other}
use Rattle.one_copy_model.proofs.Calm.{free_of, is_waiting}
use Rattle.one_copy_model.proofs.Quiet.{real, below_65}
use Rattle.one_copy_model.proofs.Tables.{tables_there}
use Rattle.one_copy_model.proofs.Beginning.{free_own, no_mail}
use Rattle.one_copy_model.proofs.Deeds.{entry, deed_passes, gets_is}
use Rattle.one_copy_laws.proofs.GateCalling.{called_to, lands_call}
use Rattle.one_copy_laws.proofs.GateFinishing.{under_way}
use Rattle.one_copy_laws.proofs.LooksEndings.{same_test}
use Rattle.one_copy_laws.proofs.FallsDeaths.{point_asks}
use Rattle.one_copy_laws.proofs.ResultsRead.{OnlyReads, only_reads, read_leaves}
use Rattle.one_copy_laws.proofs.ResultsRefusing.{dies_open, look_at, places_live}

-- what waits there
waiting_there : (x : Option Pending) (request : Request) → request_in x ≡ Some request → (q : Pending) × (x ≡ Some q) × (q.request ≡ request)
waiting_there (Some q) request e = (q, refl, (let z : Some q.request ≡ Some request = e in let same : q.request ≡ request = cc in same))
waiting_there None request e = absurd (let z : None ≡ Some request = e in cc)

-- a read gives what the single run gives
reads_as : (g : Given) (answer : Answer) → OnlyReads g → IsResult answer g → (rows : List Row) × (answer ≡ answers.Rows rows) × (g ≡ Gives (answers.Rows rows) no_changes [])
reads_as (Fails code) answer o r = absurd r
reads_as (Gives result changes places) answer o r =
    (o.0, r ∙ o.1, ap (λ (a : Answer). Gives a changes places) o.1 ∙ ap (λ (c : Changes). Gives (answers.Rows o.0) c places) o.2 ∙ ap (Gives (answers.Rows o.0) no_changes) o.3)

may_read : (st : Store) (s : ℕ) (q : Pending) (work : Work) (u : Live) (rows : List Row) → q.request ≡ requests.Run work.statement → st.transaction s ≡ Alive u
    → given_of st work.statement u ≡ Gives (answers.Rows rows) no_changes [] → MayAnswer st s q (answers.Rows rows)
may_read st s q work u rows request is gives = by q.request q.crossed request
  where
    none : MayGive st s u (answers.Rows rows) (Gives (answers.Rows rows) no_changes [])
    none = (refl, (λ p e. absurd (let z : false ≡ true = e in cc)), (λ o other c. no_left (held_by (st.transaction o)) c))

    by : (r : Request) (crossed : Bool) → r ≡ requests.Run work.statement → MayAnswer st s (record { request = r; crossed = crossed }) (answers.Rows rows)
    by r crossed e =
        subst (λ (x : Request). MayAnswer st s (record { request = x; crossed = crossed }) (answers.Rows rows)) (sym e)
        (subst (λ (x : Transaction). WhereLive x (λ t. MayGive st s t (answers.Rows rows) (given_of st work.statement t))) (sym is)
        (subst (MayGive st s u (answers.Rows rows)) (sym gives) none))

rows_since : (s n : ℕ) (h : List Entry) (rows : List Row) → n ≤ length h → answer_in (deeds_since s n (entry s (Gets (answers.Rows rows)) ∷ h)) ≡ Some (answers.Rows rows)
rows_since s n h rows most =
    let more : suc (length h) - n ≡ suc (length h - n) = omega (arith, most) in
    ap (λ k. answer_in (deeds_of s (take k (entry s (Gets (answers.Rows rows)) ∷ h)))) more
    ∙ ap (λ b. answer_in (of_session b (Gets (answers.Rows rows)) (deeds_of s (take (length h - n) h)))) (same_test s)

-- the deed in the single run: nothing changes there but what waits
module _ (tables : List TableDef) (s : ℕ) (h : List Entry) (work : Work) (u : Live) (rows : List Row) (q : Pending)
    (is : (store_after tables h).transaction s ≡ Alive u) (waits : (store_after tables h).pending s ≡ Some q) (request : q.request ≡ requests.Run work.statement)
    (gives : given_of (store_after tables h) work.statement u ≡ Gives (answers.Rows rows) no_changes [])
    (draws : drawn (store_after tables h).tables (store_after tables h).next (requests.Run work.statement) ≡ (store_after tables h).next) where
  abbrev old : Store
  old = store_after tables h

  abbrev x : Store
  x = acted old s (requests.Run work.statement) (answers.Rows rows)

  abbrev pub read_to : List Entry
  read_to = entry s (Gets (answers.Rows rows)) ∷ h

  abbrev new : Store
  new = store_after tables read_to

  gets : after_answer old s (answers.Rows rows) ≡ x
  gets = gets_is old s (answers.Rows rows) q waits ∙ ap (λ (r : Request). acted old s r (answers.Rows rows)) request

  leaves_it : given_to (given_of old work.statement u) u ≡ u
  leaves_it = ap (λ (g : Given). given_to g u) gives ∙ read_leaves (Gives (answers.Rows rows) no_changes []) u (rows, refl, refl, refl)

  its : x.transaction s ≡ old.transaction s
  its =
      with_at-same old.transaction s (where_alive (λ t. given_to (given_of old work.statement t) t) (old.transaction s))
      ∙ ap (where_alive (λ t. given_to (given_of old work.statement t) t)) is ∙ ap Alive leaves_it ∙ sym is

  stays_at : (o : ℕ) → x.transaction o ≡ old.transaction o
  stays_at o = elim (same_or_other o s) [
    | inl e ↦ ap x.transaction e ∙ its ∙ ap old.transaction (sym e)
    | inr other ↦ with_at-other old.transaction s (where_alive (λ t. given_to (given_of old work.statement t) t) (old.transaction s)) o other
  ]

  pub read_stays : (o : ℕ) → new.transaction o ≡ old.transaction o
  read_stays o = ap (λ (y : Store). y.transaction o) gets ∙ stays_at o

  pub read_next : new.next ≡ old.next
  read_next = ap (λ (y : Store). y.next) gets ∙ draws

  pub read_rows : new.rows ≡ old.rows
  read_rows = ap (λ (y : Store). y.rows) gets

  pub read_clear : new.pending s ≡ None
  read_clear = ap (λ (y : Store). with_mark y s (y.pending s)) gets ∙ ap (with_mark x s) (with_at-same old.pending s None)

  pub read_passes : (o : ℕ) → o ≢ s → Passes tables o h read_to
  read_passes o other =
      deed_passes tables s o other (Gets (answers.Rows rows)) h x (ap marked gets) refl draws (stays_at o) (with_at-other old.pending s None o other)

  pub read_run : IsRun tables h → IsRun tables read_to
  read_run run = (subst (λ (p : Option Pending). WhereSome p (λ k. MayAnswer old s k (answers.Rows rows))) (sym waits) (may_read old s q work u rows request is gives), run)

  pub read_sound : IsSound old → IsSound new
  read_sound sound = record {
    apart = λ a o differ c. sound.apart a o differ
        (subst (λ (y : Transaction). Conflicts (held_by y) (held_by (old.transaction o))) (read_stays a) (subst (λ (y : Transaction). Conflicts (held_by (new.transaction a)) (held_by y)) (read_stays o) c));
    changed = λ o t p e. sound.changed o t p (sym (read_stays o) ∙ e);
    fresh = λ o t p e. sound.fresh o t p (sym (read_stays o) ∙ e);
  }

not_ahead : (x : Standing) → x ≡ as_there → x ≡ Leaving → ⊥
not_ahead x e f = let z : Ahead [] ≡ Leaving = sym e ∙ f in cc

told_same : (told : Option Answer) (rows : List Row) (work : Work) (ticket : ℕ) → (told ≡ None) ⊎ (told ≡ Some (answers.Rows rows)) → standing_in (Reading work ticket) told ≡ as_there
told_same told rows work ticket (inl e) = ap (standing_in (Reading work ticket)) e
told_same told rows work ticket (inr e) = ap (standing_in (Reading work ticket)) e

told_either : (v : Bool) (answer : Answer) (rows : List Row) → answer ≡ answers.Rows rows → ((if v then Some answer else None) ≡ None) ⊎ ((if v then Some answer else None) ≡ Some (answers.Rows rows))
told_either true answer rows e = inr (ap Some e)
told_either false answer rows e = inl refl

module _ (t : Tracked) (h : Invariant t) (s : SessionId) (work : Work) (ticket : ℕ) (at : (t.world.machine s.number).point ≡ LookDue (Reading work ticket))
    (first : BackendId) (there : lowest t.world.gate.attached.bits ≡ Some first)
    (one : Heard) (heard : (t.world.machine s.number).session.heard ≡ one ∷ []) (here : IsIn t.world.gate.attached.bits one.b.number)
    (result : is_refusal one.answer ≡ false) where
  abbrev m : Machine
  m = t.world.machine s.number

  abbrev attached : ℕ
  attached = t.world.gate.attached.bits

  abbrev mail : ℕ → Option Answer
  mail = t.world.mail s.number

  abbrev stage : Stage
  stage = Reading work ticket

  abbrev looks : Session
  looks = with_view m.session (view_of t.world.gate)

  abbrev event : SessionEvent
  event = Called calls.Look (Seen (view_of t.world.gate))

  own_was : Own t.world.tables attached t.history t.world.store m mail (t.orders s.number) (t.done s.number) (live_there t s.number) s.number
  own_was = (facts_of t h).own s.number

  free : is_waiting m.point ≡ false
  free = ap is_waiting at

  inside : (changed : Bool) × (written : ℕ) × (m.session.gate ≡ phases.Live changed written)
  inside = dies_open stage (LookDue stage) m.session.gate work refl (subst (λ (p : Point). FitsPoint (stage_at p) p m.session.gate) at own_was.inside)

  classed : IsClassedIn t.world.tables stage
  classed = subst (IsClassedAt t.world.tables) at own_was.classed

  asks : asks_of work ≡ requests.Run work.statement
  asks = ap (asks_as work.statement) classed.1

  mail_none : (b : ℕ) → mail b ≡ None
  mail_none b = no_mail t.world.tables attached t.history t.history t.world.store m mail (t.orders s.number) (t.done s.number) (live_there t s.number) s.number (real s) (free_of m.point free) own_was b

  told_heard : (b : ℕ) → told_by m mail b ≡ heard_from (one ∷ []) b
  told_heard b = ap (λ x. mail_or x (heard_from m.session.heard b)) (mail_none b) ∙ ap (λ (hs : List Heard). heard_from hs b) heard

  reader_told : told_by m mail one.b.number ≡ Some one.answer
  reader_told = told_heard one.b.number ∙ ap (λ (v : Bool). if v then Some one.answer else None) (same_test one.b.number)

  result_there : WhereLive ((single t).transaction s.number) (λ u. IsResult one.answer (given_of (single t) work.statement u))
  result_there = (own_was.heard one.b.number stage one.answer here (ap stage_at at) reader_told).result result

  where_is : (x : Transaction) → WhereLive x (λ u. IsResult one.answer (given_of (single t) work.statement u)) → (u : Live) × (x ≡ Alive u) × IsResult one.answer (given_of (single t) work.statement u)
  where_is (Alive u) r = (u, refl, r)
  where_is Absent r = absurd r
  where_is Dead r = absurd r

  lives : (u : Live) × ((single t).transaction s.number ≡ Alive u) × IsResult one.answer (given_of (single t) work.statement u)
  lives = where_is ((single t).transaction s.number) result_there

  abbrev u : Live
  u = lives.0

  gives : (rows : List Row) × (one.answer ≡ answers.Rows rows) × (given_of (single t) work.statement u ≡ Gives (answers.Rows rows) no_changes [])
  gives = reads_as (given_of (single t) work.statement u) one.answer
      (only_reads (single t).tables work.statement (seen_by_it u) (next_for (single t).next (table_in work.statement)) (sym classed.0.class ∙ classed.1)) lives.2

  abbrev rows : List Row
  rows = gives.0

  live : live_there t s.number ≡ true
  live = ap is_live lives.1

  waits : (q : Pending) × ((single t).pending s.number ≡ Some q) × (q.request ≡ requests.Run work.statement)
  waits = waiting_there ((single t).pending s.number) (requests.Run work.statement)
      (own_was.posts ∙ ap (λ (x : Bool). where_live x (wants_of m.point (stage_at m.point))) live ∙ ap (λ (p : Point). wants_of p (stage_at p)) at ∙ ap Some asks)

  draws : drawn (single t).tables (single t).next (requests.Run work.statement) ≡ (single t).next
  draws =
      ap (drawn (single t).tables (single t).next) (sym asks) ∙ ap (λ (p : Point). drawn_waiting (single t).tables (single t).next (wants_of p (stage_at p))) (sym at)
      ∙ point_asks (single t).tables (single t).next m.point (subst (λ (ts : List TableDef). IsClassedAt ts m.point) (sym (tables_there t.world.tables t.history)) own_was.classed)

  abbrev mid : List Entry
  mid = read_to t.world.tables s.number t.history work u rows waits.0 lives.1 waits.1 waits.2 gives.2 draws

  abbrev after_it : Store
  after_it = store_after t.world.tables mid

  stays : (o : ℕ) → after_it.transaction o ≡ (single t).transaction o
  stays o = read_stays t.world.tables s.number t.history work u rows waits.0 lives.1 waits.1 waits.2 gives.2 draws o

  passes : (o : ℕ) → o ≢ s.number → Passes t.world.tables o t.history mid
  passes o other = read_passes t.world.tables s.number t.history work u rows waits.0 lives.1 waits.1 waits.2 gives.2 draws o other

  abbrev outcome : Outcome
  outcome = outcomes.Rows rows (tags.Select (length rows))

  abbrev n : Machine
  n = due looks (ReplyDue outcome)

  abbrev mine : Tracked
  mine = moved t s.number n t.world.gate mail mid (t.orders s.number) (t.done s.number)

  same_before : (b : ℕ) → stand m mail b ≡ as_there
  same_before b =
      ap (λ (p : Point). standing_by m.session.gate p (stage_at p) (told_by m mail b)) at
      ∙ ap (standing_in stage) (told_heard b) ∙ told_same (heard_from (one ∷ []) b) rows work ticket (told_either (one.b.number == b) one.answer rows gives.1)

  same_behind : (b : ℕ) → stand n mail b ≡ as_there
  same_behind b = ap standing_open inside.2

  longer : length t.history ≤ length mid
  longer = omega arith

  read_own : Own t.world.tables attached mid t.world.store n mail (t.orders s.number) (t.done s.number) true s.number
  read_own =
      free_own t.world.tables attached t.history mid t.world.store m mail (t.orders s.number) (t.done s.number) (live_there t s.number) s.number
      (real s) (free_of m.point free) own_was n (t.orders s.number) (t.done s.number) true refl
      (subst (λ (g : GatePhase). FitsPoint None (ReplyDue outcome) g) (sym inside.2) refl)
      tt
      (λ x e. absurd (let z : None ≡ Some x = e in cc))
      (λ c x in_it e. absurd (let z : None ≡ Some x = e in cc))
      (λ c in_it. subst (λ (x : Standing). Stands after_it s.number (leaving_of t.world.tables s.number mid) x ((t.world.store c).transaction s.number) (after_it.transaction s.number)) (sym (same_behind c))
      (subst (Alike ((t.world.store c).transaction s.number)) (sym (stays s.number))
      (subst (λ (x : Standing). Stands (single t) s.number (leaving_of t.world.tables s.number t.history) x ((t.world.store c).transaction s.number) ((single t).transaction s.number)) (same_before c) (own_was.stands c in_it))))
      (λ v written e alive. own_was.unchanged v written e (sym (stays s.number) ∙ alive))
      (λ c l in_it e is. absurd (let z : false ≡ true = ap is_of_commit e in cc))
      (ap request_in (read_clear t.world.tables s.number t.history work u rows waits.0 lives.1 waits.1 waits.2 gives.2 draws))
      (λ told other e f. inl (
      let o : IsStatement m.session told work = subst (λ (p : Point). OrderAt m.session p told) at (own_was.order_is told e) in
      ap (λ x. reply_to x told.status told.begun (deeds_since s.number told.entries mid)) o.body
      ∙ ap (statement_reply (own_class o.checked.body)) (rows_since s.number told.entries t.history rows (own_was.since told e)) ∙ f))
      (under_way m.point (t.orders s.number) (λ rest. let z : LookDue stage ≡ Resting = sym at ∙ rest in cc) own_was.orders)
      (λ told e. tt)
      (λ told e. le_trans (own_was.since told e) longer)
      (λ c told in_it e f. absurd (let z : false ≡ true = f in cc))
      (λ c told e entered in_it f. own_was.done_first c told e entered in_it (not_ahead (stand m mail c) (same_before c)))

  reads_on : Invariant (called_to t s calls.Look (Seen (view_of t.world.gate)) t.world.gate n mid (t.orders s.number) (t.done s.number))
  reads_on =
      let f : FactsOf t = facts_of t h in
      same_mail t s.number n t.world.gate mail mid (t.orders s.number) (t.done s.number) refl
      (moved_holds t s.number n t.world.gate mail mid (t.orders s.number) (t.done s.number) refl
      (subst (λ (x : Bool). Own t.world.tables attached mid t.world.store n mail (t.orders s.number) (t.done s.number) x s.number) (sym (ap is_live (stays s.number) ∙ live)) read_own)
      (λ o other. own_passes t.world.tables o t.history mid (passes o other) attached t.world.store (t.world.machine o) (t.world.mail o) (t.orders o) (t.done o) (live_there t o) (live_there mine o) (ap is_live (stays o)) (f.own o))
      (turned t.world.tables attached t.history mid t.world.store t.world.machine t.world.mail s.number n mail passes
      (λ c in_it. not_ahead (stand m mail c) (same_before c)) (λ c in_it. not_ahead (stand n mail c) (same_behind c)) (ap in_commit inside.2)
      (λ c other in_it e. let z : None ≡ Some other = sym (ap (λ (p : Point). inserted_in (stage_at p) (told_by m mail c)) at) ∙ e in cc)
      (λ c other in_it e. let z : None ≡ Some other = e in cc)
      (read_rows t.world.tables s.number t.history work u rows waits.0 lives.1 waits.1 waits.2 gives.2 draws)
      (read_next t.world.tables s.number t.history work u rows waits.0 lives.1 waits.1 waits.2 gives.2 draws)
      (read_sound t.world.tables s.number t.history work u rows waits.0 lives.1 waits.1 waits.2 gives.2 draws h.sound_there)
      (λ o. ap is_dead (stays o) ∙ h.undead o)
      (read_run t.world.tables s.number t.history work u rows waits.0 lives.1 waits.1 waits.2 gives.2 draws h.run)
      (λ a v e. (v, sym (stays a) ∙ e, refl))
      (locks_turned (single t) after_it t.world.machine s.number n (λ o other. stays o) (λ w c. subst (λ (x : Transaction). Conflicts w (held_by x)) (stays s.number) c) (λ table lives_on i. absurd (calm_inserts n table refl i)) f.shared.locks)
      f.shared)
      (counted t.world.machine s.number n (below_65 s) t.world.gate t.world.gate (still t.world.gate t.world.machine m.session.gate m.session.gate refl f.counts) f.counts)
      (λ o lives_on. h.alive o (sym (ap is_live (stays o)) ∙ lives_on)))

  leads : looked_at looks stage (primary looks) ≡ n
  leads =
      ap (looked_at looks stage) there ∙ ap (read looks work ticket) heard
      ∙ ap (λ (v : Bool). if v then closed true looks stage one.answer else chosen looks work ticket) here ∙ ap (closed true looks stage) gives.1

  decides : closing_look looks stage (primary looks) ≡ Some (answers.Rows rows)
  decides =
      ap (closing_look looks stage) there ∙ ap (closing_read looks) heard ∙ ap (λ (v : Bool). read_answer v one.answer) here ∙ ap Some gives.1

  pub read_looked : Invariant (tracked_after t (Of s event))
  unfolding called granted
  read_looked =
      lands_call t s calls.Look (Seen (view_of t.world.gate)) t.world.gate n mid (t.orders s.number) (t.done s.number) refl refl
      (ap (granted looks) at ∙ leads)
      (places_live (live_there t s.number) t.world s.number m event t.history (Gets (answers.Rows rows) ∷ []) live (ap (at_granted looks) at ∙ ap (where_decided stage) decides))
      refl refl reads_on

-- nobody else has answered
alone : (t : Tracked) (h : Invariant t) (s : SessionId) (work : Work) (ticket : ℕ) (one : Heard) (more : List Heard)
    → (t.world.machine s.number).point ≡ LookDue (Reading work ticket) → (t.world.machine s.number).session.heard ≡ one ∷ more → more ≡ []
alone t h s work ticket one more at heard =
    let m : Machine = t.world.machine s.number in
    subst (HasOne None) heard (subst (λ (p : Point). HasOne (asked_in p) m.session.heard) at ((h.in_order s.number (Reading work ticket) (ap stage_at at)).one refl))

pub read_kept : (t : Tracked) (s : SessionId) (answer : GateAnswer) (work : Work) (ticket : ℕ) (one : Heard) (more : List Heard) → Invariant t
    → (t.world.machine s.number).point ≡ LookDue (Reading work ticket)
    → (t.world.machine s.number).session.heard ≡ one ∷ more
    → counts t.world.gate.attached.bits one ≡ true
    → is_refusal one.answer ≡ false
    → MayHappen t.world (Of s (Called calls.Look answer)) → Invariant (tracked_after t (Of s (Called calls.Look answer)))
read_kept t s answer work ticket one more h at heard here result may =
    look_at t s answer (Reading work ticket) h at may
    (λ first there. read_looked t h s work ticket at first there one (heard ∙ ap (λ (xs : List Heard). one ∷ xs) (alone t h s work ticket one more at heard)) here result)
