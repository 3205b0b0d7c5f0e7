-- A transaction commits: with changes it goes to the gate, without it ends in the single run at its order.
use Rattle.std.proofs.Common.{◌≡◌, ℕ, Bool, true, false, List, [], ◌∷◌, length, refl, sym, ap, ◌∙◌, subst, inl, inr}
use Rattle.std.specs.Prelude.{not, Option, Some, None}
use Rattle.pool_base.specs.declared.session_id.SessionId.{SessionId}
use Rattle.backend_trait.specs.declared.answer.Answer.{Answer}
use Rattle.backend_trait.specs.Rows.{no_changes}
use Rattle.backend_trait.specs.Store.{Live, Transaction, Absent, Alive, Dead, Store}
use Rattle.session_machine.specs.declared.action.SessionEvent.TheVariants.{Ordered}
use Rattle.session_orders.specs.declared.order.Order.{Order}
use Rattle.session_orders.specs.declared.order.OrderBody.TheVariants as orders
use Rattle.session_orders.specs.declared.outcome.Outcome.{Outcome}
use Rattle.session_machine.specs.declared.status.Status.{Status}
use Rattle.session_machine.specs.declared.status.Status.TheVariants.{Idle, InBlock, Failed}
use Rattle.session_machine.specs.declared.machine.GatePhase.TheVariants as phases
use Rattle.session_machine.specs.declared.machine.Machine.{Machine}
use Rattle.session_machine.specs.Rules.{ordered, commit_outcome}
use Rattle.one_copy_model.specs.declared.deed.Deed.{Deed}
use Rattle.one_copy_model.specs.declared.deed.Entry.{Entry}
use Rattle.one_copy_model.specs.declared.event.Event.TheVariants.{Of}
use Rattle.one_copy_model.specs.Places.{at_order, at_block_commit, at_commit, at_settle}
use Rattle.one_copy_model.specs.Tracking.{Told, Tracked, tracked_after, in_commit}
use Rattle.one_copy_model.specs.Tracking.{single}
use Rattle.one_copy_model.specs.Deaths.{is_live}
use Rattle.one_copy_model.specs.Standing.{Alike, ahead_by, Ending, Stands, leaving_of}
use Rattle.one_copy_model.specs.Invariant.{Invariant, FitsPoint}
use Rattle.one_copy_model.specs.Own.{told_by, stand, IsIn, given_by}
use Rattle.one_copy_model.proofs.Calm.{free_of, is_waiting}
use Rattle.one_copy_model.proofs.Turning.{facts_of, live_there}
use Rattle.one_copy_model.proofs.Quiet.{real}
use Rattle.one_copy_model.proofs.Beginning.{none_told}
use Rattle.one_copy_model.proofs.Endings.{Ends, ends_none}
use Rattle.one_copy_model.proofs.Livings.{absent, clear_dead}
use Rattle.session_machine.specs.Rules.{begun}
use Rattle.session_machine.specs.declared.machine.Point.TheVariants.{Resting, LookDue, EnterCommitDue}
use Rattle.session_machine.specs.declared.machine.Stage.TheVariants.{Closing}
use Rattle.one_copy_model.specs.Standing.{standing_open, standing_in}
use Rattle.one_copy_model.proofs.Beginning.{begun_order}
use Rattle.one_copy_model.proofs.Endings.{committed}
use Rattle.one_copy_model.proofs.Livings.{live_is, clear_idle}
use Rattle.one_copy_laws.proofs.OrdersOrdering.{if_live, its, told_now, lands_order}
use Rattle.one_copy_laws.proofs.OrdersLeading.{leads_to_end}
use Rattle.backend_trait.specs.declared.request.Request.TheVariants as requests
use Rattle.backend_trait.specs.declared.answer.Answer.TheVariants as answers
use Rattle.session_machine.specs.Rules.{idle, committing, done_with, block_committed, settled}
use Rattle.session_machine.specs.Allowed.{is_out}
use Rattle.session_orders.specs.declared.outcome.Outcome.TheVariants as outcomes
use Rattle.session_orders.specs.declared.outcome.Tag.TheVariants as tags
use Rattle.session_machine.specs.Codes.{outside_a_block}
use Rattle.one_copy_model.specs.declared.deed.Deed.TheVariants.{Asks, Gets}
use Rattle.one_copy_model.specs.SingleRun.{deeds_since}
use Rattle.one_copy_model.specs.Places.{commits}
use Rattle.one_copy_model.specs.Replies.{reply_to, where_begun, commit_reply, settle_reply}
use Rattle.one_copy_model.specs.Orders.{Commits, IsCommit}
use Rattle.one_copy_laws.proofs.OrdersOrdering.{if_none}
use Rattle.one_copy_laws.proofs.OrdersResting.{RestsIn, phase_is, out_same, rest_replies, rest_goes, opened, wants_none, aside}
use Rattle.one_copy_laws.proofs.OrdersAnswering.{answers_at_once}
use Rattle.one_copy_laws.proofs.OrdersRolling.{two_since, begun_either}

half_live : (st : Store) (s : ℕ) (here there : Transaction) → Alike here (ahead_by st s [] there) → is_live there ≡ true
half_live st s (Alive l) (Alive u) a = refl
half_live st s here there a = absurd a

half_empty : (st : Store) (s : ℕ) (l : Live) (there : Transaction) → Alike (Alive l) (ahead_by st s [] there) → ((u : Live) → there ≡ Alive u → u.changes ≡ no_changes) → l.changes ≡ no_changes
half_empty st s l (Alive u) a f = a.1 ∙ f u refl
half_empty st s l Absent a f = absurd a
half_empty st s l Dead a f = absurd a

module _ (t : Tracked) (h : Invariant t) (s : SessionId) (order : Order) (rest : (its t s order).point ≡ Resting) where
  abbrev m : Machine
  m = t.world.machine s.number

  abbrev told : Told
  told = told_now t s order

  abbrev attached : ℕ
  attached = t.world.gate.attached.bits

  abbrev mail : ℕ → Option Answer
  mail = t.world.mail s.number

  abbrev live : Bool
  live = live_there t s.number

  abbrev Kept : Type 0
  Kept = Invariant (tracked_after t (Of s (Ordered order)))

  abbrev ended_by : Bool → List Entry
  ended_by is = if_live is s.number commits t.history

  -- where a backend is attached an open transaction is live there
  pub open_lives : (changed : Bool) (written : ℕ) → m.session.gate ≡ phases.Live changed written → (b : ℕ) → IsIn attached b → live ≡ true
  open_lives changed written at b here =
      half_live (single t) s.number ((t.world.store b).transaction s.number) ((single t).transaction s.number)
      (subst (λ x. Stands (single t) s.number (leaving_of t.world.tables s.number t.history) x ((t.world.store b).transaction s.number) ((single t).transaction s.number)) (opened t h s order rest b ∙ ap standing_open at) (h.stands s.number b here))

  -- without changes there it has none here
  closes_here : (written : ℕ) → m.session.gate ≡ phases.Live false written → (b : ℕ) (l : Live) → IsIn attached b → (t.world.store b).transaction s.number ≡ Alive l → l.changes ≡ no_changes
  closes_here written at b l here is =
      half_empty (single t) s.number l ((single t).transaction s.number)
      (subst (λ z. Alike z (ahead_by (single t) s.number [] ((single t).transaction s.number))) is
      (subst (λ x. Stands (single t) s.number (leaving_of t.world.tables s.number t.history) x ((t.world.store b).transaction s.number) ((single t).transaction s.number)) (opened t h s order rest b ∙ ap standing_open at) (h.stands s.number b here)))
      (λ u alive. h.unchanged s.number u written at alive)

  closes_now : (written : ℕ) → m.session.gate ≡ phases.Live false written → (is : Bool) → live ≡ is → Ends t.world.tables s.number t.history (ended_by is)
  closes_now written at true e =
      let l = live_is ((single t).transaction s.number) e in
      committed t.world.tables s.number t.history l.0 l.1 (h.unchanged s.number l.0 written at l.1) (clear_idle t h s.number (wants_none t h s order rest)) h.run
  closes_now written at false e = ends_none t.world.tables s.number t.history (absent t h s.number e) (clear_dead t h s.number e) h.run

  -- what has been given then
  closed_given : (outcome : Outcome) (is : Bool) → is ≡ true
      → ((deeds : List Deed) → deeds ≡ (Gets answers.Done ∷ Asks requests.Commit ∷ []) → reply_to order.body m.session.status (not (is_out m.session.gate)) deeds ≡ Some outcome)
      → given_by s.number told (ended_by is) ≡ Some outcome
  closed_given outcome true e given = given _ (two_since s.number t.history (Gets answers.Done) (Asks requests.Commit))
  closed_given outcome false e given = absurd (let n : false ≡ true = e in cc)

  abbrev closing_to : Machine
  closing_to = begun m.session Closing

  untold : (b : ℕ) → told_by closing_to mail b ≡ None
  untold = none_told t.world.tables attached t.history t.history t.world.store m mail (t.orders s.number) (t.done s.number) live s.number (real s) (free_of m.point (ap is_waiting rest)) ((facts_of t h).own s.number) closing_to refl

  ends_at : (b : ℕ) → IsIn attached b → stand closing_to mail b ≡ Ending
  ends_at b at = ap (standing_in Closing) (untold b)

  -- without changes
  pub closes : (outcome : Outcome) (written : ℕ) → m.session.gate ≡ phases.Live false written
      → ordered m.session m.point order.moment order.body ≡ closing_to
      → at_order m.session order.moment order.body ≡ commits
      → IsCommit m.session told
      → commit_outcome m.session.status ≡ outcome
      → ((deeds : List Deed) → deeds ≡ (Gets answers.Done ∷ Asks requests.Commit ∷ []) → reply_to order.body m.session.status (not (is_out m.session.gate)) deeds ≡ Some outcome)
      → Kept
  closes outcome written at to does order_at says given =
      lands_order t s order closing_to (ended_by live) to (ap (λ d. if_live live s.number d t.history) does)
      (leads_to_end t h s order (ap is_waiting rest) closing_to (ended_by live) Closing refl refl (closes_now written at live refl)
      (aside t h s order rest closing_to untold (ap in_commit at) ends_at)
      (subst (λ x. FitsPoint (Some Closing) (LookDue Closing) x) (sym at) refl) tt refl
      (begun_order attached (record m.session { heard = [] }) Closing Closing refl)
      untold ends_at (λ b l here e is. closes_here written at b l here is) (λ x e. absurd (let n : None ≡ Some x = e in cc)) refl (record { body = order_at.body; status = order_at.status; begun = order_at.begun })
      (λ b here e. closed_given outcome live (open_lives false written at b here) given ∙ ap Some (sym says)))

  commits_in : (outcome : Outcome) → RestsIn m.session.gate
      → ordered m.session m.point order.moment order.body ≡ committing m.session m.session.gate outcome
      → at_order m.session order.moment order.body ≡ at_commit m.session.gate
      → Commits m.session.status order.body
      → commit_outcome m.session.status ≡ outcome
      → ((begun : Bool) (deeds : List Deed) → reply_to order.body m.session.status begun deeds ≡ where_begun begun outcome deeds)
      → Kept
  commits_in outcome (inl out) to does order_at says given =
      rest_replies t h s order rest (idle m.session) outcome refl (to ∙ ap (λ g. committing m.session g outcome) out)
      (out_same t h s order rest (at_order m.session order.moment order.body) out)
      (inl (given (not (is_out m.session.gate)) (deeds_since s.number (length t.history) t.history) ∙ ap (λ g. where_begun (not (is_out g)) outcome (deeds_since s.number (length t.history) t.history)) out))
  commits_in outcome (inr (true, written, at)) to does order_at says given =
      rest_goes t h s order rest m.session EnterCommitDue refl refl (to ∙ ap (λ g. committing m.session g outcome) at)
      (ap (λ d. if_live live s.number d t.history) (does ∙ ap at_commit at) ∙ if_none live s.number t.history)
      (subst (λ g. FitsPoint None EnterCommitDue g) (sym at) refl) tt refl (λ x. refl) refl refl refl
      (record { body = order_at; status = refl; begun = ap (λ g. not (is_out g)) at })
  commits_in outcome (inr (false, written, at)) to does order_at says given =
      closes outcome written at (to ∙ ap (λ g. committing m.session g outcome) at) (does ∙ ap at_commit at)
      (record { body = order_at; status = refl; begun = ap (λ g. not (is_out g)) at }) says
      (λ deeds is. given (not (is_out m.session.gate)) deeds ∙ ap (where_begun (not (is_out m.session.gate)) outcome) is ∙ begun_either (not (is_out m.session.gate)) outcome)

  -- a COMMIT
  commit_in : (status : Status) → m.session.status ≡ status → order.body ≡ orders.Commit → Kept
  unfolding ordered block_committed
  commit_in Idle st is =
      answers_at_once t h s order rest m.session (outcomes.Done tags.Commit (Some outside_a_block)) refl
      (ap (ordered m.session m.point order.moment) is ∙ ap (block_committed m.session) st) (ap (at_order m.session order.moment) is ∙ ap (λ x. at_block_commit x m.session.gate) st)
      (λ deeds. ap (λ b. reply_to b m.session.status (not (is_out m.session.gate)) deeds) is ∙ ap (λ x. commit_reply x (not (is_out m.session.gate)) deeds) st)
  commit_in InBlock st is =
      commits_in (done_with tags.Commit) (phase_is t h s order rest)
      (ap (ordered m.session m.point order.moment) is ∙ ap (block_committed m.session) st) (ap (at_order m.session order.moment) is ∙ ap (λ x. at_block_commit x m.session.gate) st)
      (subst (λ x. Commits x order.body) (sym st) is) (ap commit_outcome st)
      (λ begun deeds. ap (λ b. reply_to b m.session.status begun deeds) is ∙ ap (λ x. commit_reply x begun deeds) st)
  commit_in Failed st is =
      answers_at_once t h s order rest (idle m.session) (done_with tags.Rollback) refl
      (ap (ordered m.session m.point order.moment) is ∙ ap (block_committed m.session) st) (ap (at_order m.session order.moment) is ∙ ap (λ x. at_block_commit x m.session.gate) st)
      (λ deeds. ap (λ b. reply_to b m.session.status (not (is_out m.session.gate)) deeds) is ∙ ap (λ x. commit_reply x (not (is_out m.session.gate)) deeds) st)

  pub commit_kept : order.body ≡ orders.Commit → Kept
  commit_kept is = commit_in m.session.status refl is

  -- the end of a text
  settle_in : (status : Status) → m.session.status ≡ status → order.body ≡ orders.Settle → Kept
  unfolding ordered settled
  settle_in Idle st is =
      commits_in outcomes.Settled (phase_is t h s order rest)
      (ap (ordered m.session m.point order.moment) is ∙ ap (settled m.session) st) (ap (at_order m.session order.moment) is ∙ ap (λ x. at_settle x m.session.gate) st)
      (subst (λ x. Commits x order.body) (sym st) is) (ap commit_outcome st)
      (λ begun deeds. ap (λ b. reply_to b m.session.status begun deeds) is ∙ ap (λ x. settle_reply x begun deeds) st)
  settle_in InBlock st is =
      answers_at_once t h s order rest m.session outcomes.Settled refl
      (ap (ordered m.session m.point order.moment) is ∙ ap (settled m.session) st) (ap (at_order m.session order.moment) is ∙ ap (λ x. at_settle x m.session.gate) st)
      (λ deeds. ap (λ b. reply_to b m.session.status (not (is_out m.session.gate)) deeds) is ∙ ap (λ x. settle_reply x (not (is_out m.session.gate)) deeds) st)
  settle_in Failed st is =
      answers_at_once t h s order rest m.session outcomes.Settled refl
      (ap (ordered m.session m.point order.moment) is ∙ ap (settled m.session) st) (ap (at_order m.session order.moment) is ∙ ap (λ x. at_settle x m.session.gate) st)
      (λ deeds. ap (λ b. reply_to b m.session.status (not (is_out m.session.gate)) deeds) is ∙ ap (λ x. settle_reply x (not (is_out m.session.gate)) deeds) st)

  pub settle_kept : order.body ≡ orders.Settle → Kept
  settle_kept is = settle_in m.session.status refl is
