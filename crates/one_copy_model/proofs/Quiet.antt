-- An event of a session that adds nothing to the single run keeps the invariant where it keeps what is of that session.
use Rattle.std.proofs.Common.{◌≡◌, ℕ, ◌<◌, Bool, true, List, refl, sym, ◌∙◌, arith, inl, inr}
use Rattle.std.specs.Prelude.{Option, None}
use Rattle.pool_base.specs.declared.session_id.SessionId.{SessionId}
use Rattle.schema.specs.declared.catalogue.TableDef.{TableDef}
use Rattle.backend_trait.specs.declared.answer.Answer.{Answer}
use Rattle.backend_trait.specs.Rows.{with_at}
use Rattle.snapshot_gate.specs.declared.state.GateState.{GateState}
use Rattle.session_machine.specs.declared.machine.Machine.{Machine}
use Rattle.one_copy_model.specs.declared.deed.Entry.{Entry}
use Rattle.one_copy_model.specs.Deaths.{stage_at}
use Rattle.one_copy_model.specs.Tracking.{Told, Tracked, in_commit, single}
use Rattle.one_copy_model.specs.Invariant.{Invariant, IsStranger, inserted_in, Inserts, HaveLocks}
use Rattle.one_copy_model.specs.Own.{told_by, stand, IsIn, Own}
use Rattle.one_copy_model.proofs.Counts.{Moves, counted}
use Rattle.one_copy_model.proofs.Silent.{IsSilent, IsQuiet, silent_with}
use Rattle.one_copy_model.proofs.Calm.{inserts_none}
use Rattle.one_copy_model.proofs.Locks.{locks_stay, calm_inserts}
use Rattle.one_copy_model.proofs.Turning.{FactsOf, facts_of, live_there}
use Rattle.one_copy_model.proofs.Landing.{moved_holds, same_mail}

-- a session's number is no stranger's
pub real : (s : SessionId) → IsStranger s.number → ⊥
real s (inl zero) = let one = s.from_one in omega (arith, zero, one)
real s (inr above) = let most = s.up_to_64 in omega (arith, above, most)

pub below_65 : (s : SessionId) → s.number < 65
below_65 s = let most = s.up_to_64 in omega (arith, most)

pub stands_silent : (tables : List TableDef) → (attached : ℕ) (history : List Entry) (m n : Machine) (mail post : ℕ → Option Answer)
    → ((b : ℕ) → IsIn attached b → stand n post b ≡ stand m mail b)
    → ((b : ℕ) → IsIn attached b → inserted_in (stage_at m.point) (told_by m mail b) ≡ inserted_in (stage_at n.point) (told_by n post b))
    → ((table : ℕ) → Inserts n table → Inserts m table)
    → (in_commit n.session.gate ≡ true → in_commit m.session.gate ≡ true)
    → IsQuiet tables attached history m n mail post
stands_silent tables attached history m n mail post same inserts enters commits = (
  record {
    leaves = λ b at e. same b at ∙ e;
    stays = λ b at e. sym (same b at) ∙ e;
    inserts = inserts;
    commits = λ a u is e. commits e;
  },
  enters,
)

pub calm_silent : (tables : List TableDef) → (attached : ℕ) (history : List Entry) (m n : Machine) (mail : ℕ → Option Answer)
    → ((b : ℕ) → IsIn attached b → stand n mail b ≡ stand m mail b)
    → stage_at m.point ≡ None → stage_at n.point ≡ None
    → (in_commit n.session.gate ≡ true → in_commit m.session.gate ≡ true)
    → IsQuiet tables attached history m n mail mail
calm_silent tables attached history m n mail same before behind commits =
    stands_silent tables attached history m n mail mail same
    (λ b at. inserts_none (stage_at m.point) (told_by m mail b) before ∙ sym (inserts_none (stage_at n.point) (told_by n mail b) behind))
    (λ table i. absurd (calm_inserts n table behind i)) commits

module _ (t : Tracked) (h : Invariant t) (s : SessionId) (n : Machine) (next : GateState) (by : Option Told) (did : ℕ → Bool) where
  abbrev pub quiet_moved : Tracked
  quiet_moved = record {
    world = record { tables = t.world.tables; gate = next; machine = with_at t.world.machine s.number n; store = t.world.store; mail = t.world.mail };
    history = t.history;
    orders = with_at t.orders s.number by;
    done = with_at t.done s.number did;
  }

  pub quiet_with : next.attached ≡ t.world.gate.attached
      → Moves t.world.gate next (t.world.machine s.number).session.gate n.session.gate
      → IsSilent t.world.tables t.world.gate.attached.bits t.history (t.world.machine s.number) n (t.world.mail s.number) (t.world.mail s.number)
      → HaveLocks (single t) (with_at t.world.machine s.number n)
      → Own t.world.tables t.world.gate.attached.bits t.history t.world.store n (t.world.mail s.number) by did (live_there t s.number) s.number
      → Invariant quiet_moved
  quiet_with same moves quiet locks own =
      let f : FactsOf t = facts_of t h in
      same_mail t s.number n next (t.world.mail s.number) t.history by did refl
      (moved_holds t s.number n next (t.world.mail s.number) t.history by did same own (λ o other. f.own o)
      (silent_with t.world.tables t.world.gate.attached.bits t.world.gate.attached.bits t.history t.world.store t.world.machine t.world.mail s.number n (t.world.mail s.number) (λ b at. at) quiet locks f.shared)
      (counted t.world.machine s.number n (below_65 s) t.world.gate next moves f.counts)
      h.alive)

  pub quiet_holds : next.attached ≡ t.world.gate.attached
      → Moves t.world.gate next (t.world.machine s.number).session.gate n.session.gate
      → IsQuiet t.world.tables t.world.gate.attached.bits t.history (t.world.machine s.number) n (t.world.mail s.number) (t.world.mail s.number)
      → Own t.world.tables t.world.gate.attached.bits t.history t.world.store n (t.world.mail s.number) by did (live_there t s.number) s.number
      → Invariant quiet_moved
  quiet_holds same moves quiet own = quiet_with same moves quiet.0 (locks_stay (single t) t.world.machine s.number n quiet.1 h.locks) own
