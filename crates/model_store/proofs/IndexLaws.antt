-- The index of the log, where the log gets a set more, and what it shows of a transaction's base.
use Rattle.std.proofs.Common.{◌≡◌, ℕ, ◌+◌, List, [], ◌∷◌, ◌++◌, length, take, sym, ap, ◌∙◌, subst, arith}
use Rattle.std.specs.Prelude.{false, ℤ, Option, Some, slice_get}
use Rattle.std.proofs.lemmas.List.{length-append, take_all, take-append-le}
use Rattle.schema.specs.declared.catalogue.TableDef.{TableDef}
use Rattle.backend_trait.specs.declared.answer.Answer.{Answer}
use Rattle.backend_trait.specs.Acts.{WhereSome}
use Rattle.outcomes.specs.declared.change.ChangeSet.{ChangeSet}
use Rattle.outcomes.specs.declared.index.Index.{Index}
use Rattle.outcomes.specs.Indexed.{IsIndexOf, rows_in_index}
use Rattle.outcomes.specs.Chains.{AreOfSets, all_chained}
use Rattle.outcomes.specs.Log.{rows_of}
use Rattle.model_store.specs.declared.phase.Phase.{Phase}
use Rattle.model_store.specs.declared.phase.Phase.TheVariants as phases
use Rattle.model_store.specs.declared.phase.Waiting.{Waiting}
use Rattle.model_store.specs.declared.phase.Waiting.TheVariants as waits
use Rattle.model_store.specs.declared.seat.Seat.{Seat}
use Rattle.model_store.specs.declared.verdict.Verdict.TheVariants as verdicts
use Rattle.model_store.specs.Phases.{with_set, logged, IsGranted}
use Rattle.model_store.specs.Seats.{pending_in, store_of}
use Rattle.model_store.specs.Verdicts.{Fits}
use Rattle.model_store.proofs.ActLaws.{waiting_there}

-- it has the first sets of a longer log too
indexed_more : (index : Index) (log : List ChangeSet) (set : ChangeSet) → IsIndexOf index log → IsIndexOf index (log ++ set ∷ [])
indexed_more index log set indexed =
    let long : length (log ++ set ∷ []) ≡ length log + 1 = length-append log (set ∷ []) in (
      omega (arith, long, indexed.0),
      subst (AreOfSets (all_chained index.chains.items)) (sym (take-append-le index.sets log (set ∷ []) indexed.0)) indexed.1,
    )

with_set_indexed : (index : Index) (log : List ChangeSet) (phase : Phase) → IsIndexOf index log → IsIndexOf index (with_set log phase)
with_set_indexed index log phases.Absent indexed = indexed
with_set_indexed index log (phases.Open work) indexed = indexed_more index log work.own indexed
with_set_indexed index log phases.Dead indexed = indexed

logged_indexed : (index : Index) (log : List ChangeSet) (phase : Phase) (waiting : Waiting) → IsIndexOf index log → IsIndexOf index (logged log phase waiting)
logged_indexed index log phase waits.Snapshot indexed = indexed
logged_indexed index log phase (waits.Run run) indexed = indexed
logged_indexed index log phase (waits.Lock table) indexed = indexed
logged_indexed index log phase waits.Commit indexed = with_set_indexed index log phase indexed
logged_indexed index log phase waits.Rollback indexed = indexed
logged_indexed index log phase (waits.ReadSerial table) indexed = indexed
logged_indexed index log phase (waits.SetSerial table n) indexed = indexed

-- a grant
pub indexed_granted : (index : Index) (numbers : ℕ → Option ℤ) (tables : List TableDef) (log later : List ChangeSet) (seats : List Seat) (at : ℕ) (seat new : Seat) (answer : Answer) → slice_get seats at ≡ Some seat
    → WhereSome (pending_in (slice_get seats at)) (λ p. Fits (store_of numbers tables log seats false) at p.request verdicts.Goes)
    → ((waiting : Waiting) → seat.waiting ≡ Some waiting → IsGranted numbers log seat.phase waiting answer later new.phase) → IsIndexOf index log → IsIndexOf index later
indexed_granted index numbers tables log later seats at seat new answer there goes granted_is indexed =
    let (waiting, waits_is, fit) = waiting_there seats at seat (λ r. Fits (store_of numbers tables log seats false) at r verdicts.Goes) there goes in
    subst (IsIndexOf index) (sym (granted_is waiting waits_is).log_is) (logged_indexed index log seat.phase waiting indexed)

-- the base of a transaction
pub base_in_index : (index : Index) (log : List ChangeSet) (mark : ℕ) → IsIndexOf index log → index.sets ≡ length log → rows_in_index index mark ≡ rows_of (take mark log)
base_in_index index log mark indexed whole = indexed.1 mark ∙ ap (λ (sets : List ChangeSet). rows_of (take mark sets)) (take_all index.sets log (omega (arith, whole)))
