-- Every result of a statement.
use Rattle.std.proofs.Common.{◌≡◌, ℕ, Bool, true, false, refl, sym, ap, ◌∙◌, subst}
use Rattle.std.specs.Prelude.{Some}
use Rattle.pool_base.specs.declared.session_id.SessionId.{SessionId}
use Rattle.pool_base.specs.declared.backend_id.BackendId.{BackendId}
use Rattle.schema.specs.Allowed.{AreAllowed}
use Rattle.catalogue.specs.declared.checked.Checked.{Checked}
use Rattle.backend_trait.specs.declared.answer.Answer.{Answer}
use Rattle.backend_trait.specs.declared.request.Request.TheVariants as requests
use Rattle.backend_trait.specs.Store.{Live, Alive, Pending, Store, is_refusal}
use Rattle.backend_trait.specs.Acts.{MayGive, IsCrossed, given_of}
use Rattle.session_machine.specs.declared.machine.Stage.{Stage}
use Rattle.session_machine.specs.declared.machine.Stage.TheVariants.{Reading, Running, Inserting}
use Rattle.session_machine.specs.declared.machine.Point.TheVariants.{Waiting}
use Rattle.session_machine.specs.declared.work.Work.{Work}
use Rattle.session_machine.specs.Rules.{request_of}
use Rattle.one_copy_model.specs.declared.event.Event.TheVariants.{Act}
use Rattle.one_copy_model.specs.World.{MayHappen}
use Rattle.one_copy_model.specs.Chains.{is_unposted}
use Rattle.one_copy_model.specs.Tracking.{Tracked, tracked_after}
use Rattle.one_copy_model.specs.Invariant.{Invariant, IsInLine}
use Rattle.one_copy_laws.proofs.ActsBeginning.{answers_of}
use Rattle.one_copy_laws.proofs.ActsHolding.{live_of}
use Rattle.one_copy_laws.proofs.ActsRunning.{Results, results_of, may_result, read_holds, run_holds}
use Rattle.one_copy_laws.proofs.ActsInserting.{insert_result}

-- the chains that wait with a run
pub data RunsIn (checked : Checked) (stage : Stage) : Type 0 where
  reads : (work : Work) (ticket : ℕ) → stage ≡ Reading work ticket → checked ≡ work.statement → RunsIn checked stage
  runs : (work : Work) → stage ≡ Running work → checked ≡ work.statement → RunsIn checked stage
  inserts : (work : Work) (posted : Bool) → stage ≡ Inserting work posted → checked ≡ work.statement → RunsIn checked stage

pub runs_in : (checked : Checked) (stage : Stage) → requests.Run checked ≡ request_of stage → RunsIn checked stage
runs_in checked (Reading work ticket) e = reads work ticket refl (let same : checked ≡ work.statement = cc in same)
runs_in checked (Running work) e = runs work refl (let same : checked ≡ work.statement = cc in same)
runs_in checked (Inserting work posted) e = inserts work posted refl (let same : checked ≡ work.statement = cc in same)
runs_in checked stage e = absurd (cc)

pub result_kept : (t : Tracked) (s : SessionId) (b : BackendId) (answer : Answer) (p : Pending) (checked : Checked) → Invariant t → (t.world.store b.number).pending s.number ≡ Some p → p.request ≡ requests.Run checked
    → is_refusal answer ≡ false → AreAllowed t.world.tables → MayHappen t.world (Act s b answer) → Invariant (tracked_after t (Act s b answer))
result_kept t s b answer p checked h waits is plain allowed may =
    let line : IsInLine (t.world.machine s.number) b.number p.request = (h.line s.number b.number).asked p may.0 waits in
    let st : Store = t.world.store b.number in
    let u = live_of (st.transaction s.number) (λ k. MayGive st s.number k answer (given_of st checked k))
    (may_result st s.number (IsCrossed st s.number (record { request = requests.Run checked; crossed = p.crossed })) checked answer plain (answers_of st s.number answer p (requests.Run checked) waits is may)) in
    let r : Results st s.number checked answer u.0 = results_of st s.number checked answer u.0 (given_of st checked u.0) refl u.2 in
    by line u.0 u.1 r (runs_in checked line.stage (sym is ∙ line.asks))
  where
    by : (line : IsInLine (t.world.machine s.number) b.number p.request) (u : Live) → (t.world.store b.number).transaction s.number ≡ Alive u
        → Results (t.world.store b.number) s.number checked answer u → RunsIn checked line.stage → Invariant (tracked_after t (Act s b answer))
    by line u live r (reads work ticket stage same) =
        read_holds t h s b p waits line.at line.number answer plain allowed u live work ticket (line.waits ∙ ap (λ z. Waiting z line.at) stage) (is ∙ ap requests.Run same)
        (subst (λ c. Results (t.world.store b.number) s.number c answer u) same r)
    by line u live r (runs work stage same) =
        run_holds t h s b p waits line.at line.number answer plain allowed u live work (line.waits ∙ ap (λ z. Waiting z line.at) stage) (is ∙ ap requests.Run same)
        (subst (λ c. Results (t.world.store b.number) s.number c answer u) same r)
    by line u live r (inserts work true stage same) =
        insert_result t h s b p waits line.at line.number answer work (line.waits ∙ ap (λ z. Waiting z line.at) stage) (is ∙ ap requests.Run same) u live plain allowed
        (subst (λ c. Results (t.world.store b.number) s.number c answer u) same r)
    by line u live r (inserts work false stage same) = absurd (let z : true ≡ false = sym (ap is_unposted stage) ∙ line.posted in cc)
