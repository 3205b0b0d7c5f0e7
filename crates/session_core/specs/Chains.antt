-- A request that goes down a chain of stores.
use Rattle.std.specs.Prelude.{◌≡◌, ℕ, ◌<◌, Bool, true, List, Option, Some, None, slice_get, slice_set}
use Rattle.pool_base.specs.Sets.{has}
use Rattle.backend_trait.specs.declared.request.Request.{Request}
use Rattle.backend_trait.specs.declared.answer.Answer.{Answer}
use Rattle.backend_trait.specs.Store.{Store, is_refusal, MayPost}
use Rattle.session_core.specs.Standing.{IsAlone, IsAsked}

-- the attached backends are the first ones, as many as there are stores
abbrev pub AreFirst : ℕ → ℕ → Type 0
AreFirst attached count = (b : ℕ) → b < 8 → (has attached b ≡ true → b < count) × (b < count → has attached b ≡ true)

-- the attached backends are among the stores
abbrev pub AreThere : ℕ → ℕ → Type 0
AreThere attached count = (b : ℕ) → b < 8 → has attached b ≡ true → b < count

-- each store may be asked
abbrev pub MayAllPost : ℕ → Request → List Store → Type 0
MayAllPost s request stores = (b : ℕ) (st : Store) → slice_get stores b ≡ Some st → IsAlone s st × MayPost st s request

-- a store that was asked has answered so, and one that was not is as before
abbrev pub WasAsked : ℕ → Request → Option Answer → Bool → Store → Store → Type 0
WasAsked s request None refused old new = new ≡ old
WasAsked s request (Some answer) refused old new = IsAsked old s request answer new × (refused ≡ is_refusal answer)

abbrev pub WereAsked : ℕ → Request → (ℕ → Option Answer) → (ℕ → Bool) → List Store → List Store → Type 0
WereAsked s request answers refusals old new =
    (b : ℕ) (st : Store) → slice_get new b ≡ Some st → (was : Store) × (slice_get old b ≡ Some was) × WasAsked s request (answers b) (refusals b) was st

-- one store was asked, and the others stay
pub record AskedAt (s : ℕ) (request : Request) (b : ℕ) (answer : Answer) (old new : List Store) : Type 0 where
  pub was : Store
  pub now : Store
  pub was_there : slice_get old b ≡ Some was
  pub asked : IsAsked was s request answer now
  pub is_now : new ≡ slice_set old b now
