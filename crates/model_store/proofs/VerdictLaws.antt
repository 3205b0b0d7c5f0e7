-- What becomes of the request of a seat.
use Rattle.std.proofs.Common.{◌≡◌, ℕ, ℤ, ◌<◌, Bool, true, false, List, length, drop, get_or, refl, sym, ap, ◌∙◌, subst, arith, inl, codes}
use Rattle.std.specs.Prelude.{Option, Some, None, slice_get}
use Rattle.std.specs.List.{list_any}
use Rattle.std.proofs.lemmas.Option.{slice_get_read}
use Rattle.pool_base.specs.declared.code.Code.{Code}
use Rattle.backend_trait.specs.declared.request.Request.{Request}
use Rattle.backend_trait.specs.declared.request.Request.TheVariants as requests
use Rattle.schema.specs.declared.catalogue.TableDef.{TableDef}
use Rattle.backend_trait.specs.declared.answer.Answer.{Answer}
use Rattle.backend_trait.specs.Keys.{Place}
use Rattle.backend_trait.specs.Rows.{Changes}
use Rattle.backend_trait.specs.Effect.{Wants, nothing, these_places, Conflicts, same_place, same_table, table_left, table_right, Given, Gives, table_in}
use Rattle.backend_trait.specs.Store.{Store, Live, Transaction, Pending, WhereLive, held_by, view_of, next_for}
use Rattle.backend_trait.specs.Acts.{IsFree, IsTaken, IsFresh, IsStale, WhereSome, given_of}
use Rattle.outcomes.specs.declared.change.ChangeSet.{ChangeSet}
use Rattle.outcomes.specs.Given.{given_in}
use Rattle.outcomes.specs.Log.{has_changed}
use Rattle.model_store.specs.declared.phase.Work.{Work}
use Rattle.model_store.specs.declared.phase.Phase.{Phase}
use Rattle.model_store.specs.declared.phase.Phase.TheVariants as phases
use Rattle.model_store.specs.declared.phase.Waiting.{Waiting}
use Rattle.model_store.specs.declared.phase.Waiting.TheVariants as waits
use Rattle.model_store.specs.declared.seat.Seat.{Seat}
use Rattle.model_store.specs.declared.verdict.Verdict.{Verdict}
use Rattle.model_store.specs.declared.verdict.Verdict.TheVariants as verdicts
use Rattle.model_store.specs.declared.phase.Run.{Run}
use Rattle.model_store.specs.Phases.{live_of, transaction_of, request_of, pending_of, fits, held_by_phase, IsGivenIn, IsGivenAt}
use Rattle.model_store.specs.Seats.{transaction_in, pending_in, store_of, AreGiven, IsGivenTo}
use Rattle.model_store.specs.Conflicts.{held_in, IsHeldElsewhere}
use Rattle.model_store.specs.Verdicts.{FitsRun, FitsLock, Fits, IsDecided}
use Rattle.outcomes.specs.declared.outcome.Outcome.TheVariants as outcomes
use Rattle.model_store.proofs.ConflictLaws.{one_passes, passes_one}
use Rattle.model_store.proofs.CodeLaws.{code_calm}

pub held_same : (log : List ChangeSet) (x : Option Seat) → held_by (transaction_in log x) ≡ held_in x
held_same log None = refl
held_same log (Some seat) = go seat.phase
  where
    go : (p : Phase) → held_by (transaction_of log p) ≡ held_by_phase p
    go phases.Absent = refl
    go (phases.Open work) = refl
    go phases.Dead = refl

pub taken : (numbers : ℕ → Option ℤ) (tables : List TableDef) (log : List ChangeSet) (seats : List Seat) (lost : Bool) (s : ℕ) (wants : Wants) → IsHeldElsewhere seats s wants → IsTaken (store_of numbers tables log seats lost) s wants
taken numbers tables log seats lost s wants (o, other, conflict) = (o, other, subst (λ (held : Wants). Conflicts wants held) (sym (held_same log (slice_get seats o))) conflict)

pub free : (numbers : ℕ → Option ℤ) (tables : List TableDef) (log : List ChangeSet) (seats : List Seat) (lost : Bool) (s : ℕ) (wants : Wants) → ¬ (IsHeldElsewhere seats s wants) → IsFree (store_of numbers tables log seats lost) s wants
free numbers tables log seats lost s wants none o other conflict = none (o, other, subst (λ (held : Wants). Conflicts wants held) (held_same log (slice_get seats o)) conflict)

pub nothing_conflicts : (held : Wants) → Conflicts nothing held → ⊥
nothing_conflicts held (same_place p a b) = let f : false ≡ true = a in cc
nothing_conflicts held (same_table t a b) = let f : false ≡ true = a in cc
nothing_conflicts held (table_left p a b) = let f : false ≡ true = a in cc
nothing_conflicts held (table_right p a b) = let f : false ≡ true = a in cc

-- places of which none has changed since a snapshot, and some of which one has
pub fresh : (log : List ChangeSet) (work : Work) (places : List Place) → list_any (has_changed (drop work.mark log)) places ≡ false → IsFresh (these_places places) (live_of log work)
fresh log work places none p among = not_there (has_changed (drop work.mark log) p) refl
  where
    not_there : (b : Bool) → has_changed (drop work.mark log) p ≡ b → has_changed (drop work.mark log) p ≡ false
    not_there false e = e
    not_there true e = absurd (let f : false ≡ true = sym none ∙ passes_one (has_changed (drop work.mark log)) places p among e in cc)

pub stale : (log : List ChangeSet) (work : Work) (places : List Place) → list_any (has_changed (drop work.mark log)) places ≡ true → IsStale (these_places places) (live_of log work)
stale log work places some = one_passes (has_changed (drop work.mark log)) places some

module _ (numbers : ℕ → Option ℤ) (tables : List TableDef) (log : List ChangeSet) (seats : List Seat) (at : ℕ) (work : Work) (table : Option ℕ) where
  -- places of which one is stale are refused
  pub stale_refused : (result : Answer) (changes : Changes) (places : List Place) (code : Code) → list_any (has_changed (drop work.mark log)) places ≡ true → code.bytes ≡ codes "40001"
      → FitsRun (store_of numbers tables log seats false) at (live_of log work) table (Gives result changes places) (verdicts.Refused code)
  stale_refused result changes places code changed bytes = (
    inl (bytes, stale log work places changed),
    λ oom. let t : codes "40001" ≡ codes "53200" = sym bytes ∙ oom in let n : 52 ≡ 53 = ap (λ l. get_or l 0 0) t in absurd (omega arith),
    λ cycle. let t : codes "40001" ≡ codes "40P01" = sym bytes ∙ cycle in let n : 48 ≡ 80 = ap (λ l. get_or l 2 0) t in absurd (omega arith),
  )

  -- places that another holds are waited for
  pub held_waits : (result : Answer) (changes : Changes) (places : List Place) → list_any (has_changed (drop work.mark log)) places ≡ false → IsHeldElsewhere seats at (these_places places)
      → FitsRun (store_of numbers tables log seats false) at (live_of log work) table (Gives result changes places) verdicts.Waits
  held_waits result changes places none held = (fresh log work places none, taken numbers tables log seats false at (these_places places) held)

  -- else it goes
  pub free_goes : (result : Answer) (changes : Changes) (places : List Place) → list_any (has_changed (drop work.mark log)) places ≡ false → ¬ (IsHeldElsewhere seats at (these_places places))
      → FitsRun (store_of numbers tables log seats false) at (live_of log work) table (Gives result changes places) verdicts.Goes
  free_goes result changes places none held = (fresh log work places none, free numbers tables log seats false at (these_places places) held)

  -- a statement's code is none with which the store refuses for its own sake
  pub fails_refused : (run : Run) (code : Code) → run.outcome ≡ outcomes.Fails code → IsGivenIn numbers tables (live_of log work) run
      → FitsRun (store_of numbers tables log seats false) at (live_of log work) table (given_in run.outcome) (verdicts.Refused code)
  fails_refused run code is given =
      let calm = code_calm tables run.statement (view_of (live_of log work)) (next_for numbers (table_in run.statement)) code.bytes (sym given.effect ∙ ap given_in is) in
      subst (λ (g : Given). FitsRun (store_of numbers tables log seats false) at (live_of log work) table g (verdicts.Refused code)) (sym (ap given_in is)) (inl refl, calm.0, calm.1)

-- what fits what is given by its parts
pub given_fits : (st : Store) (at : ℕ) (t : Live) (table : Option ℕ) (given : Given) (answer : Answer) (changes : Changes) (places read : List Place) (verdict : Verdict) → given ≡ Gives answer changes places → read ≡ places
    → FitsRun st at t table (Gives answer changes read) verdict → FitsRun st at t table given verdict
given_fits st at t table given answer changes places read verdict is same fit =
    subst (λ (g : Given). FitsRun st at t table g verdict) (sym is) (subst (λ (ps : List Place). FitsRun st at t table (Gives answer changes ps) verdict) same fit)

-- the request of a seat that is there
pub fits_at : (st : Store) (seats : List Seat) (at : ℕ) (seat : Seat) (waiting : Waiting) (verdict : Verdict) → at < length seats → seat ≡ get_or seats at seat → seat.waiting ≡ Some waiting → Fits st at (request_of waiting) verdict
    → WhereSome (pending_in (slice_get seats at)) (λ p. Fits st at p.request verdict)
fits_at st seats at seat waiting verdict below is waits fit =
    subst (λ (x : Option Seat). WhereSome (pending_in x) (λ p. Fits st at p.request verdict)) (sym (slice_get_read seats (length seats) at seat refl below is))
    (subst (λ (w : Option Waiting). WhereSome (pending_of w) (λ p. Fits st at p.request verdict)) (sym waits) fit)

-- what is decided by what the request comes to for its own sake
pub decided_by : (st : Store) (at : ℕ) (x : Option Pending) (verdict known out : Verdict) → verdict ≡ known → ((request : Request) → Fits st at request known → IsDecided st at request out)
    → WhereSome x (λ p. Fits st at p.request verdict) → WhereSome x (λ p. IsDecided st at p.request out)
decided_by st at None verdict known out is f h = h
decided_by st at (Some p) verdict known out is f h = f p.request (subst (λ (v : Verdict). Fits st at p.request v) is h)

-- the transaction of a seat that is there
pub transaction_at : (log : List ChangeSet) (seats : List Seat) (at : ℕ) (seat : Seat) (phase : Phase) → at < length seats → seat ≡ get_or seats at seat → seat.phase ≡ phase → transaction_in log (slice_get seats at) ≡ transaction_of log phase
transaction_at log seats at seat phase below is open_is = ap (transaction_in log) (slice_get_read seats (length seats) at seat refl below is) ∙ ap (transaction_of log) open_is

-- what a statement gives that waits in a seat
pub given_at : (numbers : ℕ → Option ℤ) (tables : List TableDef) (log : List ChangeSet) (seats : List Seat) (at : ℕ) (seat : Seat) (work : Work) (run : Run) → slice_get seats at ≡ Some seat → seat.phase ≡ phases.Open work → seat.waiting ≡ Some (waits.Run run)
    → AreGiven numbers tables log seats → IsGivenIn numbers tables (live_of log work) run
given_at numbers tables log seats at seat work run there open_is waits_is all =
    let here : IsGivenTo numbers tables log (Some seat) = subst (IsGivenTo numbers tables log) there (all at) in
    let open_there : IsGivenAt numbers tables log (phases.Open work) seat.waiting = subst (λ (p : Phase). IsGivenAt numbers tables log p seat.waiting) open_is here in
    subst (λ (w : Option Waiting). IsGivenAt numbers tables log (phases.Open work) w) waits_is open_there

pub run_fits : (numbers : ℕ → Option ℤ) (tables : List TableDef) (log : List ChangeSet) (seats : List Seat) (at : ℕ) (seat : Seat) (work : Work) (run : Run) (verdict : Verdict) → at < length seats → seat ≡ get_or seats at seat → seat.phase ≡ phases.Open work → seat.waiting ≡ Some (waits.Run run)
    → AreGiven numbers tables log seats → (IsGivenIn numbers tables (live_of log work) run → FitsRun (store_of numbers tables log seats false) at (live_of log work) (table_in run.statement) (given_in run.outcome) verdict)
    → Fits (store_of numbers tables log seats false) at (requests.Run run.statement) verdict
run_fits numbers tables log seats at seat work run verdict below is open_is waits_is all fit =
    let given = given_at numbers tables log seats at seat work run (slice_get_read seats (length seats) at seat refl below is) open_is waits_is all in
    let st = store_of numbers tables log seats false in
    subst (λ (x : Transaction). WhereLive x (λ t. FitsRun st at t (table_in run.statement) (given_of st run.statement t) verdict))
    (sym (transaction_at log seats at seat (phases.Open work) below is open_is))
    (subst (λ (g : Given). FitsRun st at (live_of log work) (table_in run.statement) g verdict) given.effect (fit given))

-- a seat whose request wants a live transaction has one
abbrev pub wants_live : Waiting → Bool
wants_live waits.Snapshot = false
wants_live (waits.Run run) = true
wants_live (waits.Lock table) = true
wants_live waits.Commit = true
wants_live waits.Rollback = false
wants_live (waits.ReadSerial table) = false
wants_live (waits.SetSerial table n) = true

pub live_there : (phase : Phase) (waiting : Waiting) → wants_live waiting ≡ true → fits phase (Some waiting) ≡ true → (work : Work) × (phase ≡ phases.Open work)
live_there (phases.Open work) waiting w f = (work, refl)
live_there phases.Absent waits.Snapshot w f = absurd (cc)
live_there phases.Absent (waits.Run run) w f = absurd (cc)
live_there phases.Absent (waits.Lock table) w f = absurd (cc)
live_there phases.Absent waits.Commit w f = absurd (cc)
live_there phases.Absent waits.Rollback w f = absurd (cc)
live_there phases.Absent (waits.ReadSerial table) w f = absurd (cc)
live_there phases.Absent (waits.SetSerial table n) w f = absurd (cc)
live_there phases.Dead waits.Snapshot w f = absurd (cc)
live_there phases.Dead (waits.Run run) w f = absurd (cc)
live_there phases.Dead (waits.Lock table) w f = absurd (cc)
live_there phases.Dead waits.Commit w f = absurd (cc)
live_there phases.Dead waits.Rollback w f = absurd (cc)
live_there phases.Dead (waits.ReadSerial table) w f = absurd (cc)
live_there phases.Dead (waits.SetSerial table n) w f = absurd (cc)

-- and so a lock has one
pub live_seat : (seat : Seat) (waiting : Waiting) → seat.waiting ≡ Some waiting → wants_live waiting ≡ true → (work : Work) × (seat.phase ≡ phases.Open work)
live_seat seat waiting is w = live_there seat.phase waiting w (ap (fits seat.phase) (sym is) ∙ seat.fitting)

pub lock_fits : (numbers : ℕ → Option ℤ) (tables : List TableDef) (log : List ChangeSet) (seats : List Seat) (at : ℕ) (seat : Seat) (work : Work) (table : ℕ) (verdict : Verdict) → at < length seats → seat ≡ get_or seats at seat → seat.phase ≡ phases.Open work
    → FitsLock (store_of numbers tables log seats false) at table verdict → Fits (store_of numbers tables log seats false) at (requests.Lock table) verdict
lock_fits numbers tables log seats at seat work table verdict below is open_is fit =
    subst (λ (x : Transaction). WhereLive x (λ t. FitsLock (store_of numbers tables log seats false) at table verdict)) (sym (transaction_at log seats at seat (phases.Open work) below is open_is)) fit
