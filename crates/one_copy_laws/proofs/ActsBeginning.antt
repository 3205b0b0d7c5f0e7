-- A transaction begins, and a rollback is done.
use Rattle.std.proofs.Common.{◌≡◌, ℕ, ℤ, true, false, refl, sym, ap, ◌∙◌, subst, inl, inr}
use Rattle.std.specs.Prelude.{Option, Some, None, is_some}
use Rattle.std.specs.FinMap as fin
use Rattle.std.proofs.lemmas.Bool.Decides.{leb_tells}
use Rattle.pool_base.specs.declared.session_id.SessionId.{SessionId}
use Rattle.pool_base.specs.declared.backend_id.BackendId.{BackendId}
use Rattle.backend_trait.specs.Typed.{AreAllStored}
use Rattle.backend_trait.specs.declared.answer.Answer.{Answer}
use Rattle.backend_trait.specs.declared.answer.Answer.TheVariants as answers
use Rattle.backend_trait.specs.declared.request.Request.{Request}
use Rattle.backend_trait.specs.declared.request.Request.TheVariants as requests
use Rattle.backend_trait.specs.Keys.{Place, place_order}
use Rattle.backend_trait.specs.Rows.{Rows}
use Rattle.backend_trait.specs.Effect.{has_place}
use Rattle.backend_trait.specs.Store.{Live, Transaction, Absent, Alive, Pending, Store, held_by, begun, acted}
use Rattle.backend_trait.specs.Acting.{MayAct}
use Rattle.backend_trait.specs.Acts.{MayAnswer, WhereSome}
use Rattle.backend_trait.proofs.RowLaws.{same_rows}
use Rattle.session_machine.specs.declared.machine.Ending.{Ending}
use Rattle.session_machine.specs.declared.machine.Stage.{Stage}
use Rattle.session_machine.specs.declared.machine.Stage.TheVariants.{Opening, Closing, RollingBack}
use Rattle.session_machine.specs.declared.machine.Point.{Point}
use Rattle.session_machine.specs.declared.machine.Point.TheVariants.{Waiting}
use Rattle.session_machine.specs.declared.work.Work.{Work}
use Rattle.session_machine.specs.Rules.{request_of}
use Rattle.one_copy_model.specs.declared.event.Event.TheVariants.{Act}
use Rattle.one_copy_model.specs.World.{MayHappen}
use Rattle.one_copy_model.specs.SingleRun.{after_answer}
use Rattle.one_copy_model.specs.Deaths.{is_live, stage_at, answer_from}
use Rattle.one_copy_model.specs.Tracking.{Tracked, single, tracked_after, in_commit}
use Rattle.one_copy_model.specs.Invariant.{Invariant, IsHere, IsInLine, FitsPoint, Leaves, in_snapshot}
use Rattle.one_copy_model.proofs.InvariantLaws.{point_leaves}
use Rattle.one_copy_model.proofs.Counts.{count_some}
use Rattle.one_copy_model.proofs.Places.{same_or_other, with_at-same, with_at-other}
use Rattle.one_copy_model.proofs.Turning.{live_there}
use Rattle.one_copy_model.proofs.Quiet.{below_65}
use Rattle.one_copy_model.proofs.Deeds.{gets_is}
use Rattle.one_copy_laws.specs.Acted.{IsAct}
use Rattle.one_copy_laws.proofs.ActsActing.{facts_behind, act_lands, stands_was}
use Rattle.one_copy_laws.proofs.ActsSettling.{none_held, settles, IsSettled, settled_acts, calm_numbers, calm_ahead}

-- what an answer leaves of the request that waits
pub acted_is : (st : Store) (s : ℕ) (answer : Answer) (p : Pending) (request : Request) → st.pending s ≡ Some p → p.request ≡ request → acted st s request answer ≡ after_answer st s answer
acted_is st s answer p request waits is = ap (λ r. acted st s r answer) (sym is) ∙ sym (gets_is st s answer p waits)

-- who waits with a request waits in a chain of it
pub opens : (stage : Stage) → requests.TakeSnapshot ≡ request_of stage → (work : Work) × (stage ≡ Opening work)
opens (Opening work) e = (work, refl)
opens stage e = absurd (cc)

pub rolls : (stage : Stage) → requests.Rollback ≡ request_of stage → (ending : Ending) × (stage ≡ RollingBack ending)
rolls (RollingBack ending) e = (ending, refl)
rolls stage e = absurd (cc)

-- while a session is in a snapshot nobody leaves, so the rows here are those there
module _ (t : Tracked) (h : Invariant t) (s : SessionId) (inside : in_snapshot (t.world.machine s.number).session.gate ≡ true) where
  none_commits : t.world.gate.commits ≡ 0
  none_commits = elim h.counts.apart [
    | inl none ↦ absurd (count_some (λ o. in_snapshot (t.world.machine o).session.gate) 65 s.number (sym h.counts.snaps ∙ none) (below_65 s) inside)
    | inr none ↦ none
  ]

  out_of_commit : (o : ℕ) → in_commit (t.world.machine o).session.gate ≡ true → ⊥
  out_of_commit o e = elim (leb_tells 65 o) [
    | inl above ↦ (let z : false ≡ true = sym (ap in_commit (h.strangers o (inr above.1)).out) ∙ e in cc)
    | inr below ↦ count_some (λ k. in_commit (t.world.machine k).session.gate) 65 o (sym h.counts.commits ∙ none_commits) below.1 e
  ]

  pub none_leaves_here : (o b : ℕ) (q : Place) → Leaves t o b q → ⊥
  none_leaves_here o b q l = out_of_commit o (point_leaves (t.world.machine o).point (t.world.machine o).session.gate (answer_from t.world o b) (h.inside o) l.leaves)

  pub rows_here : (b : ℕ) → IsHere t.world b → (t.world.store b).rows ≡ (single t).rows
  rows_here b in_it = same_rows _ _ (λ q. h.rows_same b q in_it (λ o. none_leaves_here o b q))

-- who was live here is live behind the answer, where the session is
pub settled_alive : (st : Store) (s : ℕ) (y : Transaction) (next : ℕ → Option ℤ) (o : ℕ) → ((o ≡ s) → is_live y ≡ true) → is_live (st.transaction o) ≡ true
    → is_live ((settles st s y next).transaction o) ≡ true
settled_alive st s y next o mine was = elim (same_or_other o s) [
  | inl is ↦ ap (λ k. is_live ((settles st s y next).transaction k)) is ∙ ap is_live (with_at-same st.transaction s y) ∙ mine is
  | inr other ↦ ap is_live (with_at-other st.transaction s y o other) ∙ was
]

alive_is : (k l : Live) → Alive k ≡ Alive l → k ≡ l
alive_is k l e = cc

pub none_alive : {A : Type 0} (l : Live) → Absent ≡ Alive l → A
none_alive l e = absurd (cc)

-- a transaction begins
module _ (t : Tracked) (h : Invariant t) (s : SessionId) (b : BackendId) (p : Pending) (waits : (t.world.store b.number).pending s.number ≡ Some p)
    (work : Work) (at : BackendId) (waiting : (t.world.machine s.number).point ≡ Waiting (Opening work) at) (number : at.number ≡ b.number)
    (is : p.request ≡ requests.TakeSnapshot) where
  abbrev st : Store
  st = t.world.store b.number

  abbrev y : Live
  y = begun st.rows

  inside : in_snapshot (t.world.machine s.number).session.gate ≡ true
  inside = subst (λ (pt : Point). FitsPoint (stage_at pt) pt (t.world.machine s.number).session.gate) waiting (h.inside s.number)

  was : IsHere t.world b.number → (st.transaction s.number ≡ Absent) × ((single t).transaction s.number ≡ Absent)
  was in_it = stands_was t h s b p waits (Opening work) at waiting number answers.Began in_it

  begun_settled : IsSettled t s b (Opening work) answers.Began (Alive y)
  begun_settled = record {
    still = refl;
    form = inl refl;
    posted = refl;
    bases = λ l e. subst (λ (z : Live). AreAllStored st.tables z.base) (alive_is y l e) (h.shaped b.number).rows;
    changes = λ l q row e f. absurd (let n : None ≡ Some (Some row) = sym (fin.get-empty place_order q) ∙ ap (λ (z : Live). fin.get z.changes q) (alive_is y l e) ∙ f in cc);
    closes = λ in_it l e. absurd (let z : Opening work ≡ Closing = e in cc);
    heard = λ in_it. record { form = inl refl; posted = refl; result = λ e. tt };
    stands = λ in_it. (ap (λ (r : Rows). Alive (begun r)) (rows_here t h s inside b.number in_it), (was in_it).1);
    reasons = λ in_it by code e f. absurd (cc);
    apart = λ in_it o other c. none_held (held_by (st.transaction o)) c;
    changed = λ in_it l q e f. absurd (let n : false ≡ true = sym (ap is_some (fin.get-empty place_order q)) ∙ ap (λ (z : Live). is_some (fin.get z.changes q)) (alive_is y l e) ∙ f in cc);
    fresh = λ in_it l q e f. absurd (let n : false ≡ true = ap (λ (z : Live). has_place z.held q) (alive_is y l e) ∙ f in cc);
    stale = λ in_it l u e f. none_alive u (sym (was in_it).1 ∙ f);
  }

  begun_acts : IsAct t s b (Opening work) answers.Began (settles st s.number (Alive y) st.next)
  begun_acts =
      settled_acts t h s b p waits (Opening work) at waiting number answers.Began (Alive y) st.next begun_settled
      (calm_numbers t h s b p waits (Opening work) at waiting number answers.Began refl) (calm_ahead t h s b p waits (Opening work) at waiting number answers.Began refl)

  begun_holds : Invariant (tracked_after t (Act s b answers.Began))
  begun_holds =
      act_lands t s b answers.Began (settles st s.number (Alive y) st.next) h (acted_is st s.number answers.Began p requests.TakeSnapshot waits is)
      (facts_behind t h s b p waits (Opening work) at waiting number answers.Began is (settles st s.number (Alive y) st.next) begun_acts)
      (λ in_it o live was. settled_alive st s.number (Alive y) st.next o (λ e. refl) was)

pub begin_kept : (t : Tracked) (s : SessionId) (b : BackendId) (p : Pending) → Invariant t → (t.world.store b.number).pending s.number ≡ Some p → p.request ≡ requests.TakeSnapshot
    → MayHappen t.world (Act s b answers.Began) → Invariant (tracked_after t (Act s b answers.Began))
begin_kept t s b p h waits is may =
    let line : IsInLine (t.world.machine s.number) b.number p.request = (h.line s.number b.number).asked p may.0 waits in
    let o = opens line.stage (sym is ∙ line.asks) in
    begun_holds t h s b p waits o.0 line.at (line.waits ∙ ap (λ z. Waiting z line.at) o.1) line.number is

-- a rollback is done
module _ (t : Tracked) (h : Invariant t) (s : SessionId) (b : BackendId) (p : Pending) (waits : (t.world.store b.number).pending s.number ≡ Some p)
    (ending : Ending) (at : BackendId) (waiting : (t.world.machine s.number).point ≡ Waiting (RollingBack ending) at) (number : at.number ≡ b.number)
    (is : p.request ≡ requests.Rollback) where
  abbrev store_b : Store
  store_b = t.world.store b.number

  there : IsHere t.world b.number → (single t).transaction s.number ≡ Absent
  there in_it = stands_was t h s b p waits (RollingBack ending) at waiting number answers.Done in_it

  rolled_settled : IsSettled t s b (RollingBack ending) answers.Done Absent
  rolled_settled = record {
    still = refl;
    form = refl;
    posted = refl;
    bases = λ l e. none_alive l e;
    changes = λ l q row e. none_alive l e;
    closes = λ in_it l e. absurd (let z : RollingBack ending ≡ Closing = e in cc);
    heard = λ in_it. record { form = refl; posted = refl; result = λ e. tt };
    stands = λ in_it. (refl, there in_it);
    reasons = λ in_it by code e f. absurd (cc);
    apart = λ in_it o other c. none_held (held_by (store_b.transaction o)) c;
    changed = λ in_it l q e. none_alive l e;
    fresh = λ in_it l q e. none_alive l e;
    stale = λ in_it l u e. none_alive l e;
  }

  rolled_acts : IsAct t s b (RollingBack ending) answers.Done (settles store_b s.number Absent store_b.next)
  rolled_acts =
      settled_acts t h s b p waits (RollingBack ending) at waiting number answers.Done Absent store_b.next rolled_settled
      (calm_numbers t h s b p waits (RollingBack ending) at waiting number answers.Done refl) (calm_ahead t h s b p waits (RollingBack ending) at waiting number answers.Done refl)

  rolled_holds : Invariant (tracked_after t (Act s b answers.Done))
  rolled_holds =
      act_lands t s b answers.Done (settles store_b s.number Absent store_b.next) h (acted_is store_b s.number answers.Done p requests.Rollback waits is)
      (facts_behind t h s b p waits (RollingBack ending) at waiting number answers.Done is (settles store_b s.number Absent store_b.next) rolled_acts)
      (λ in_it o live was. settled_alive store_b s.number Absent store_b.next o
      (λ e. absurd (let n : false ≡ true = sym (ap is_live (there in_it)) ∙ ap (live_there t) (sym e) ∙ live in cc)) was)

-- the table of answers, of a request
pub answers_of : (st : Store) (s : ℕ) (answer : Answer) (p : Pending) (request : Request) → st.pending s ≡ Some p → p.request ≡ request → MayAct st s answer
    → MayAnswer st s (record { request = request; crossed = p.crossed }) answer
answers_of st s answer p request waits is may =
    subst (λ r. MayAnswer st s (record { request = r; crossed = p.crossed }) answer) is (subst (λ (o : Option Pending). WhereSome o (λ q. MayAnswer st s q answer)) waits may.1)

pub rollback_kept : (t : Tracked) (s : SessionId) (b : BackendId) (answer : Answer) (p : Pending) → Invariant t → (t.world.store b.number).pending s.number ≡ Some p → p.request ≡ requests.Rollback
    → MayHappen t.world (Act s b answer) → Invariant (tracked_after t (Act s b answer))
rollback_kept t s b answer p h waits is may =
    let line : IsInLine (t.world.machine s.number) b.number p.request = (h.line s.number b.number).asked p may.0 waits in
    let o = rolls line.stage (sym is ∙ line.asks) in
    subst (λ (c : Answer). Invariant (tracked_after t (Act s b c))) (sym (answers_of (t.world.store b.number) s.number answer p requests.Rollback waits is may))
    (rolled_holds t h s b p waits o.0 line.at (line.waits ∙ ap (λ z. Waiting z line.at) o.1) line.number is)
