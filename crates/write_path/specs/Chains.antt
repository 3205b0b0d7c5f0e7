-- The state of a chain: its kind, and the answers that it has taken.
use Rattle.std.specs.Prelude.{◌≡◌, ◌≢◌, ℕ, ◌<◌, Bool, true, false, Option, Some}
use Rattle.pool_base.specs.Sets.{has}
use Rattle.pool_base.specs.declared.backend_id.BackendId.{BackendId}
use Rattle.write_path.specs.declared.kind.ChainKind.{ChainKind}
use Rattle.write_path.specs.declared.kind.ChainKind.TheVariants as kinds
use Rattle.write_path.specs.declared.judged.Judged.{Judged}
use Rattle.write_path.specs.declared.judged.Judged.TheVariants.{Agreed, Split}
use Rattle.write_path.specs.declared.chain.Chain.{Chain}
use Rattle.write_path.specs.Slots.{slot_at, answer_in, is_refusal, is_open, seen_by, HasRefused}
use Rattle.write_path.specs.Kept.{differs_at}

abbrev pub kind_of : {A : Type 0} → Chain A → ChainKind
kind_of chain = chain.kind

-- what a backend has answered, and whether that was a refusal
abbrev pub answer_of : {A : Type 0} → Chain A → ℕ → Option A
answer_of chain b = answer_in (slot_at chain.slots.items b)

abbrev pub has_refused : {A : Type 0} → Chain A → ℕ → Bool
has_refused chain b = is_refusal (slot_at chain.slots.items b)

-- the answers of the attached backends
abbrev pub answers_among : {A : Type 0} → Chain A → ℕ → ℕ → Option A
answers_among chain attached = seen_by attached chain.slots.items

abbrev pub is_waited_for : {A : Type 0} → Chain A → ℕ → ℕ → Bool
is_waited_for chain attached b = is_open attached chain.slots.items b

abbrev pub HaveAllAnswered : {A : Type 0} → Chain A → ℕ → Type 0
HaveAllAnswered chain attached = (b : ℕ) → b < 8 → is_waited_for chain attached b ≡ false

-- the lowest attached backend has refused, and that stops the chain
abbrev pub IsStopped : {A : Type 0} → Chain A → ℕ → Type 0
IsStopped chain attached = (chain.kind ≡ kinds.StopAtRefusal) × HasRefused attached chain.slots.items

-- the lowest attached backend that has not answered
abbrev pub IsNext : {A : Type 0} → Chain A → ℕ → ℕ → Type 0
IsNext chain attached b = (is_waited_for chain attached b ≡ true) × ((k : ℕ) → k < b → is_waited_for chain attached k ≡ false)

-- one answer more
pub record Takes {A : Type 0} (old : Chain A) (b : ℕ) (answer : A) (refused : Bool) (new : Chain A) : Type 0 where
  pub kind : kind_of new ≡ kind_of old
  pub answer_is : answer_of new b ≡ Some answer
  pub refused_is : has_refused new b ≡ refused
  pub others : (k : ℕ) → k ≢ b → answer_of new k ≡ answer_of old k
  pub refusals : (k : ℕ) → k ≢ b → has_refused new k ≡ has_refused old k

abbrev pub holder_of : Judged → BackendId
holder_of (Agreed holder) = holder
holder_of (Split holder differing) = holder

abbrev pub IsSplit : Judged → Type 0
IsSplit (Agreed holder) = ⊥
IsSplit (Split holder differing) = Unit {0}

-- two answers differ
abbrev pub DoDiffer : {A : Type 0} → (A → A → Bool) → (ℕ → Option A) → Type 0
DoDiffer eq view = (a : ℕ) × (b : ℕ) × (a < 8) × (b < 8) × (differs_at eq view a b ≡ true)

-- a split names those whose answer is another than the holder's
abbrev pub HasOnlyDiffering : {A : Type 0} → (A → A → Bool) → (ℕ → Option A) → Judged → Type 0
HasOnlyDiffering eq view (Agreed holder) = Unit {0}
HasOnlyDiffering eq view (Split holder differing) = (b : ℕ) → b < 8 → has differing.bits b ≡ differs_at eq view holder.number b
