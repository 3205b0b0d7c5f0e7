-- Every act of a store.
use Rattle.std.proofs.Common.{◌≡◌, ℕ, ℤ, refl, sym, ◌∙◌}
use Rattle.std.specs.Prelude.{Option, Some, None}
use Rattle.pool_base.specs.declared.session_id.SessionId.{SessionId}
use Rattle.pool_base.specs.declared.backend_id.BackendId.{BackendId}
use Rattle.schema.specs.Allowed.{AreAllowed}
use Rattle.backend_trait.specs.declared.answer.Answer.{Answer}
use Rattle.backend_trait.specs.declared.answer.Answer.TheVariants as answers
use Rattle.backend_trait.specs.declared.request.Request.{Request}
use Rattle.backend_trait.specs.declared.request.Request.TheVariants as requests
use Rattle.backend_trait.specs.Store.{Pending, Store}
use Rattle.backend_trait.specs.Acts.{MayAnswer, WhereSome}
use Rattle.session_machine.specs.declared.machine.Stage.{Stage}
use Rattle.session_machine.specs.declared.machine.Stage.TheVariants.{Opening, Reading, Running, Locking, Inserting, Committing, Closing, RollingBack}
use Rattle.session_machine.specs.Rules.{request_of}
use Rattle.one_copy_model.specs.declared.event.Event.TheVariants.{Act}
use Rattle.one_copy_model.specs.World.{MayHappen}
use Rattle.one_copy_model.specs.Tracking.{Tracked, tracked_after}
use Rattle.one_copy_model.specs.Invariant.{Invariant, IsInLine}
use Rattle.one_copy_laws.proofs.ActsBeginning.{answers_of, begin_kept, rollback_kept}
use Rattle.one_copy_laws.proofs.ActsCommitting.{commit_kept}
use Rattle.one_copy_laws.proofs.ActsLocking.{lock_kept}
use Rattle.one_copy_laws.proofs.ActsResulting.{result_kept}
use Rattle.one_copy_laws.proofs.ActsRefusals.{refusal_kept}

some_waits : (o : Option Pending) (P : Pending → Type 0) → WhereSome o P → (p : Pending) × (o ≡ Some p)
some_waits (Some p) P e = (p, refl)
some_waits None P e = absurd e

-- no session asks for a serial number or sets one: a recovery does
none_reads : (table : ℕ) (stage : Stage) → requests.ReadSerial table ≡ request_of stage → ⊥
none_reads table (Opening work) e = cc
none_reads table (Reading work ticket) e = cc
none_reads table (Running work) e = cc
none_reads table (Locking work other) e = cc
none_reads table (Inserting work posted) e = cc
none_reads table Committing e = cc
none_reads table Closing e = cc
none_reads table (RollingBack ending) e = cc

none_sets : (table : ℕ) (n : ℤ) (stage : Stage) → requests.SetSerial table n ≡ request_of stage → ⊥
none_sets table n (Opening work) e = cc
none_sets table n (Reading work ticket) e = cc
none_sets table n (Running work) e = cc
none_sets table n (Locking work other) e = cc
none_sets table n (Inserting work posted) e = cc
none_sets table n Committing e = cc
none_sets table n Closing e = cc
none_sets table n (RollingBack ending) e = cc

pub act_kept : (t : Tracked) (s : SessionId) (b : BackendId) (answer : Answer) → Invariant t → AreAllowed t.world.tables
    → MayHappen t.world (Act s b answer) → Invariant (tracked_after t (Act s b answer))
act_kept t s b answer h allowed may =
    let st : Store = t.world.store b.number in
    let w = some_waits (st.pending s.number) (λ q. MayAnswer st s.number q answer) may.1 in
    by w.0 w.1 w.0.request refl answer (answers_of st s.number answer w.0 w.0.request w.1 refl may) may
  where
    by : (p : Pending) → (t.world.store b.number).pending s.number ≡ Some p → (request : Request) → p.request ≡ request → (answer : Answer)
        → MayAnswer (t.world.store b.number) s.number (record { request = request; crossed = p.crossed }) answer
        → MayHappen t.world (Act s b answer) → Invariant (tracked_after t (Act s b answer))
    by p waits requests.TakeSnapshot is answers.Began m may = begin_kept t s b p h waits is may
    by p waits requests.TakeSnapshot is (answers.Refused code) m may = refusal_kept t s b code p h waits may
    by p waits requests.TakeSnapshot is (answers.Rows rows) m may = absurd m
    by p waits requests.TakeSnapshot is (answers.Count n) m may = absurd m
    by p waits requests.TakeSnapshot is answers.Locked m may = absurd m
    by p waits requests.TakeSnapshot is answers.Done m may = absurd m
    by p waits requests.TakeSnapshot is (answers.Serial n) m may = absurd m
    by p waits (requests.Run checked) is (answers.Refused code) m may = refusal_kept t s b code p h waits may
    by p waits (requests.Run checked) is answers.Began m may = absurd m
    by p waits (requests.Run checked) is (answers.Rows rows) m may = result_kept t s b (answers.Rows rows) p checked h waits is refl allowed may
    by p waits (requests.Run checked) is (answers.Count n) m may = result_kept t s b (answers.Count n) p checked h waits is refl allowed may
    by p waits (requests.Run checked) is answers.Locked m may = absurd m
    by p waits (requests.Run checked) is answers.Done m may = absurd m
    by p waits (requests.Run checked) is (answers.Serial n) m may = absurd m
    by p waits (requests.Lock table) is answers.Locked m may = lock_kept t s b p table h waits is may
    by p waits (requests.Lock table) is (answers.Refused code) m may = refusal_kept t s b code p h waits may
    by p waits (requests.Lock table) is answers.Began m may = absurd m
    by p waits (requests.Lock table) is (answers.Rows rows) m may = absurd m
    by p waits (requests.Lock table) is (answers.Count n) m may = absurd m
    by p waits (requests.Lock table) is answers.Done m may = absurd m
    by p waits (requests.Lock table) is (answers.Serial n) m may = absurd m
    by p waits requests.Commit is answer m may = commit_kept t s b answer p h waits is may
    by p waits requests.Rollback is answer m may = rollback_kept t s b answer p h waits is may
    by p waits (requests.ReadSerial table) is answer m may =
        absurd (let line : IsInLine (t.world.machine s.number) b.number p.request = (h.line s.number b.number).asked p may.0 waits in none_reads table line.stage (sym is ∙ line.asks))
    by p waits (requests.SetSerial table n) is answer m may =
        absurd (let line : IsInLine (t.world.machine s.number) b.number p.request = (h.line s.number b.number).asked p may.0 waits in none_sets table n line.stage (sym is ∙ line.asks))
