-- What becomes of a request that is pending: it is granted, waits on, or is refused.
use Rattle.std.specs.Prelude.{◌≡◌, ◌⊎◌, ℕ, Option, codes}
use Rattle.backend_trait.specs.declared.request.Request.{Request}
use Rattle.backend_trait.specs.declared.request.Request.TheVariants as requests
use Rattle.backend_trait.specs.Effect.{Given, Fails, Gives, these_places, table_in}
use Rattle.backend_trait.specs.Store.{Store, Live, WhereLive, table_lock}
use Rattle.backend_trait.specs.Acts.{IsFree, IsTaken, IsFresh, MayRefuse, IsOutOfMemory, MustWaitRun, IsInCycle, given_of}
use Rattle.model_store.specs.declared.verdict.Verdict.{Verdict}
use Rattle.model_store.specs.declared.verdict.Verdict.TheVariants as verdicts

-- it has a result, nothing that it wants is stale, and nobody else holds it
abbrev pub MayGo : Store → ℕ → Live → Given → Type 0
MayGo st s t (Fails code) = ⊥
MayGo st s t (Gives answer changes places) = IsFresh (these_places places) t × IsFree st s (these_places places)

abbrev pub FitsRun : Store → ℕ → Live → Option ℕ → Given → Verdict → Type 0
FitsRun st s t table given verdicts.Goes = MayGo st s t given
FitsRun st s t table given verdicts.Waits = MustWaitRun st s t given
FitsRun st s t table given (verdicts.Refused code) = MayRefuse ⊥ t table code given × ¬ (IsOutOfMemory code) × ¬ (code.bytes ≡ codes "40P01")

abbrev pub FitsLock : Store → ℕ → ℕ → Verdict → Type 0
FitsLock st s table verdicts.Goes = IsFree st s (table_lock table)
FitsLock st s table verdicts.Waits = IsTaken st s (table_lock table)
FitsLock st s table (verdicts.Refused code) = ⊥

-- every other request is granted at once
abbrev pub Goes : Verdict → Type 0
Goes verdict = verdict ≡ verdicts.Goes

abbrev pub Fits : Store → ℕ → Request → Verdict → Type 0
Fits st s requests.TakeSnapshot verdict = Goes verdict
Fits st s (requests.Run checked) verdict = WhereLive (st.transaction s) (λ t. FitsRun st s t (table_in checked) (given_of st checked t) verdict)
Fits st s (requests.Lock table) verdict = WhereLive (st.transaction s) (λ t. FitsLock st s table verdict)
Fits st s requests.Commit verdict = Goes verdict
Fits st s requests.Rollback verdict = Goes verdict
Fits st s (requests.ReadSerial table) verdict = Goes verdict
Fits st s (requests.SetSerial table n) verdict = Goes verdict

-- where another holds what it wants it is refused if its waiting closes a cycle of waits, and waits else
abbrev pub IsDecided : Store → ℕ → Request → Verdict → Type 0
IsDecided st s request verdicts.Goes = Fits st s request verdicts.Goes
IsDecided st s request verdicts.Waits = Fits st s request verdicts.Waits × ¬ (IsInCycle st s)
IsDecided st s request (verdicts.Refused code) =
    Fits st s request (verdicts.Refused code) ⊎ ((code.bytes ≡ codes "40P01") × Fits st s request verdicts.Waits × IsInCycle st s)
