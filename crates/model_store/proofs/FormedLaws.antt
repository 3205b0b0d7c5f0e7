-- A request that goes gives an answer of its form.
use Rattle.std.proofs.Common.{◌≡◌, ℕ, true, false, List, take, refl, sym, ap, ◌∙◌, subst}
use Rattle.std.specs.Prelude.{ℤ, Option, Some, slice_get}
use Rattle.std.proofs.lemmas.List.Elements.{All-take}
use Rattle.schema.specs.declared.catalogue.TableDef.{TableDef}
use Rattle.backend_trait.specs.Typed as typed
use Rattle.backend_trait.specs.Effect.{changes_of, table_in}
use Rattle.backend_trait.specs.Store.{Store, Live, Transaction, WhereLive, next_for, view_of}
use Rattle.backend_trait.specs.Acts.{WhereSome, given_of}
use Rattle.outcomes.specs.declared.change.ChangeSet.{ChangeSet}
use Rattle.outcomes.specs.declared.outcome.Outcome.{Outcome}
use Rattle.outcomes.specs.declared.outcome.Outcome.TheVariants as outcomes
use Rattle.outcomes.specs.Given.{given_in}
use Rattle.outcomes.specs.Log.{rows_of}
use Rattle.outcomes.specs.Stored.{AreAllStored, IsSetStored}
use Rattle.outcomes.proofs.StoredRows.{laid_stored, log_stored}
use Rattle.model_store.specs.declared.phase.Work.{Work}
use Rattle.model_store.specs.declared.phase.Waiting.{Waiting}
use Rattle.model_store.specs.declared.phase.Waiting.TheVariants as waits
use Rattle.model_store.specs.declared.seat.Seat.{Seat}
use Rattle.model_store.specs.declared.verdict.Verdict.TheVariants as verdicts
use Rattle.model_store.specs.Phases.{live_of, transaction_of, request_of, fits, gives, is_result, IsGivenAt}
use Rattle.model_store.specs.Seats.{transaction_in, pending_in, store_of, AreGiven, IsGivenTo}
use Rattle.model_store.specs.Stored.{AreStoredIn, AreStoredAt}
use Rattle.model_store.specs.Verdicts.{MayGo, Fits}
use Rattle.model_store.proofs.VerdictLaws.{live_there, given_at}
use Rattle.model_store.proofs.GivenLaws.{given_formed}
use Rattle.model_store.proofs.StoreLaws.{IsFormedIn, outcome_formed}
use Rattle.model_store.proofs.ActLaws.{waiting_there}
use Rattle.model_store.proofs.ApartLaws.{MayGoOf}

result_goes : (st : Store) (s : ℕ) (t : Live) (outcome : Outcome) → MayGo st s t (given_in outcome) → is_result outcome ≡ true
result_goes st s t (outcomes.Fails code) may = absurd may
result_goes st s t (outcomes.Gives answer changes places) may = refl

-- what a transaction sees stands in its tables
pub seen_stored : (tables : List TableDef) (log : List ChangeSet) (work : Work) → AreAllStored tables log → IsSetStored tables work.own → typed.AreAllStored tables (view_of (live_of log work))
seen_stored tables log work all own =
    let front = All-take (IsSetStored tables) work.mark log all in
    laid_stored tables (rows_of (take work.mark log)) (changes_of work.own.changes.items) (log_stored tables (take work.mark log) front) own

module _ (numbers : ℕ → Option ℤ) (tables : List TableDef) (log : List ChangeSet) (seats : List Seat) (at : ℕ) (seat : Seat) (there : slice_get seats at ≡ Some seat) (all : AreGiven numbers tables log seats) where
  -- a request that goes gives something
  pub goes_gives : (waiting : Waiting) → seat.waiting ≡ Some waiting → Fits (store_of numbers tables log seats false) at (request_of waiting) verdicts.Goes → gives waiting ≡ true
  goes_gives waits.Snapshot is fit = refl
  goes_gives (waits.Run run) is fit =
      let (work, open_is) = live_there seat.phase (waits.Run run) refl (ap (fits seat.phase) (sym is) ∙ seat.fitting) in
      let st = store_of numbers tables log seats false in
      let may : MayGoOf st at run (live_of log work) = subst (λ (x : Transaction). WhereLive x (MayGoOf st at run)) (ap (transaction_in log) there ∙ ap (transaction_of log) open_is) fit in
      let same : given_in run.outcome ≡ given_of st run.statement (live_of log work) = (given_at numbers tables log seats at seat work run there open_is is all).effect in
      result_goes st at (live_of log work) run.outcome (subst (MayGo st at (live_of log work)) (sym same) may)
  goes_gives (waits.Lock table) is fit = refl
  goes_gives waits.Commit is fit = refl
  goes_gives waits.Rollback is fit = refl
  goes_gives (waits.ReadSerial table) is fit = refl
  goes_gives (waits.SetSerial table n) is fit = refl

  pub formed_at : AreAllStored tables log → ((s : ℕ) → AreStoredAt tables (slice_get seats s)) → (waiting : Waiting) → seat.waiting ≡ Some waiting → Fits (store_of numbers tables log seats false) at (request_of waiting) verdicts.Goes
      → IsFormedIn numbers tables log seat.phase waiting
  formed_at committed stored waiting waits_is fit = record {
    runs = λ work run open_is run_is.
        let given = given_at numbers tables log seats at seat work run there open_is (waits_is ∙ ap Some run_is) all in
        let own : IsSetStored tables work.own = subst (AreStoredIn tables) open_is (subst (AreStoredAt tables) there (stored at)) in
        let formed = given_formed tables run.statement (view_of (live_of log work)) (next_for numbers (table_in run.statement)) given.runnable (seen_stored tables log work committed own) in
        let result : is_result run.outcome ≡ true = ap gives (sym run_is) ∙ goes_gives waiting waits_is fit in
        let shaped = outcome_formed run.statement run.outcome _ given.effect formed result in
        (given, shaped.0, shaped.1);
    reads = λ table is.
        let own : IsGivenAt numbers tables log seat.phase seat.waiting = subst (IsGivenTo numbers tables log) there (all at) in
        subst (λ (w : Option Waiting). IsGivenAt numbers tables log seat.phase w) (waits_is ∙ ap Some is) own;
  }

  here : (P : Waiting → Type 0) → ((waiting : Waiting) → seat.waiting ≡ Some waiting → Fits (store_of numbers tables log seats false) at (request_of waiting) verdicts.Goes → P waiting)
      → WhereSome (pending_in (slice_get seats at)) (λ p. Fits (store_of numbers tables log seats false) at p.request verdicts.Goes) → (waiting : Waiting) → seat.waiting ≡ Some waiting → P waiting
  here P f goes waiting is =
      let (w, w_is, fit) = waiting_there seats at seat (λ r. Fits (store_of numbers tables log seats false) at r verdicts.Goes) there goes in
      let same : w ≡ waiting = let e : Some w ≡ Some waiting = sym w_is ∙ is in cc in
      subst P same (f w w_is fit)

  pub gives_here : WhereSome (pending_in (slice_get seats at)) (λ p. Fits (store_of numbers tables log seats false) at p.request verdicts.Goes) → (waiting : Waiting) → seat.waiting ≡ Some waiting → gives waiting ≡ true
  gives_here = here (λ w. gives w ≡ true) goes_gives

  pub formed_here : AreAllStored tables log → ((s : ℕ) → AreStoredAt tables (slice_get seats s)) → WhereSome (pending_in (slice_get seats at)) (λ p. Fits (store_of numbers tables log seats false) at p.request verdicts.Goes)
      → (waiting : Waiting) → seat.waiting ≡ Some waiting → IsFormedIn numbers tables log seat.phase waiting
  formed_here committed stored = here (IsFormedIn numbers tables log seat.phase) (formed_at committed stored)
