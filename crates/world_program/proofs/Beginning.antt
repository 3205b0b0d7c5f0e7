-- The world before the first event.
use Rattle.std.proofs.Common.{◌≡◌, ◌≤◌, ◌+◌, ℕ, zero, suc, List, [], ◌∷◌, ◌++◌, length, refl, ap, ◌∙◌, arith}
use Rattle.std.specs.Prelude.{Option, None, slice_get}
use mathlib.Core.HLevel.{is_prop→PathP}
use native.Mathlib.Bridge.{le_prop}
use Rattle.pool_base.specs.declared.session_id.SessionId.{SessionId}
use Rattle.pool_base.specs.declared.backend_set.BackendSet.{BackendSet}
use Rattle.backend_trait.specs.declared.answer.Answer.{Answer}
use Rattle.schema.specs.declared.catalogue.TableDef.{TableDef}
use Rattle.backend_trait.specs.Store.{prepared}
use Rattle.plain_store.specs.Blanks.{AllAre}
use Rattle.session_machine.specs.declared.machine.ReadPolicy.{ReadPolicy}
use Rattle.session_machine.specs.Rules.{new_machine}
use Rattle.session_engine.specs.declared.session.Core.{Core}
use Rattle.session_engine.specs.Cores.{machine_in}
use Rattle.snapshot_gate.specs.declared.state.GateState.{GateState}
use Rattle.snapshot_gate.specs.Function.{first as first_gate}
use Rattle.one_copy_model.specs.Numbers.{session_of}
use Rattle.one_copy_model.specs.World.{first_world}
use Rattle.world_program.specs.declared.data.Replica.{Replica}
use Rattle.world_program.specs.First.{AreNew, IsPrepared, ArePrepared}
use Rattle.world_program.specs.Meaning.{machine_at, store_in, answer_at, mail_in, world_in}

pub same_session : (a b : SessionId) → a.number ≡ b.number → a ≡ b
same_session a b e = λ i. record {
  number = e i;
  from_one = is_prop→PathP (λ j. 1 ≤ e j) (λ j. le_prop) a.from_one b.from_one i;
  up_to_64 = is_prop→PathP (λ j. e j ≤ 64) (λ j. le_prop) a.up_to_64 b.up_to_64 i;
}

pub prepared_snoc : (tables : List TableDef) (rs : List Replica) (r : Replica) → ArePrepared tables rs → IsPrepared tables r → ArePrepared tables (rs ++ r ∷ [])
prepared_snoc tables [] r all is = (is, tt)
prepared_snoc tables (x ∷ xs) r all is = (all.0, prepared_snoc tables xs r all.1 is)

none_at : (xs : List (Option Answer)) (s : ℕ) → AllAre None xs → answer_at (slice_get xs s) ≡ None
none_at [] s h = refl
none_at (x ∷ xs) zero h = h.0
none_at (x ∷ xs) (suc s) h = none_at xs s h.1

store_at : (tables : List TableDef) (rs : List Replica) (b : ℕ) → ArePrepared tables rs → store_in tables (slice_get rs b) ≡ prepared tables
store_at tables [] b h = refl
store_at tables (r ∷ rs) zero h = h.0.store
store_at tables (r ∷ rs) (suc b) h = store_at tables rs b h.1

mail_at : (tables : List TableDef) (rs : List Replica) (b s : ℕ) → ArePrepared tables rs → mail_in (slice_get rs b) s ≡ None
mail_at tables [] b s h = refl
mail_at tables (r ∷ rs) zero s h = none_at r.mail.items s h.0.mail
mail_at tables (r ∷ rs) (suc b) s h = mail_at tables rs b s h.1

-- the cores
pub new_snoc : (policy : ReadPolicy) (n : ℕ) (cores : List Core) (core : Core) → AreNew policy n cores → machine_in core ≡ new_machine (session_of (n + length cores)) policy → AreNew policy n (cores ++ core ∷ [])
new_snoc policy n [] core new is = (is ∙ ap (λ k. new_machine (session_of k) policy) (let e : n + 0 ≡ n = omega arith in e), tt)
new_snoc policy n (x ∷ xs) core new is =
    (new.0, new_snoc policy (suc n) xs core new.1 (is ∙ ap (λ k. new_machine (session_of k) policy) (let e : n + suc (length xs) ≡ suc n + length xs = omega arith in e)))

-- whatever stands past the end is new too
new_at : (policy : ReadPolicy) (n s k : ℕ) (cores : List Core) → k ≡ n + s → AreNew policy n cores → machine_at policy k (slice_get cores s) ≡ new_machine (session_of k) policy
new_at policy n s k [] at new = refl
new_at policy n zero k (x ∷ xs) at new = new.0 ∙ ap (λ j. new_machine (session_of j) policy) (let e : n ≡ k = omega (arith, at) in e)
new_at policy n (suc s) k (x ∷ xs) at new = new_at policy (suc n) s k xs (let e : k ≡ suc n + s = omega (arith, at) in e) new.1

pub first_is : (tables : List TableDef) (policy : ReadPolicy) (attached : BackendSet) (gate : GateState) (cores : List Core) (backends : List Replica)
    → gate ≡ first_gate attached → AreNew policy 0 cores → ArePrepared tables backends
    → world_in tables policy gate cores backends ≡ first_world tables policy attached
first_is tables policy attached gate cores backends a b c = λ i. record {
  tables = tables;
  gate = a i;
  machine = λ s. new_at policy 0 s s cores (let e : s ≡ 0 + s = omega arith in e) b i;
  store = λ k. store_at tables backends k c i;
  mail = λ s k. mail_at tables backends k s c i;
}
