-- What a poll of a store in memory does.
use Rattle.std.proofs.Common.{◌≡◌, ℕ, get_or, codes, ◌<◌, ◌≤◌, Bool, true, false, if◌then◌else◌, List, [], ◌∷◌, length, length-append, refl, sym, ap, ◌∙◌, subst, arith, inl, inr}
use Rattle.std.specs.Prelude.{◌≤ℤ◌, ℤ, pos, is_some, Option, Some, None, slice_get, slice_set}
use Rattle.pool_base.specs.declared.code.Code.{Code}
use Rattle.backend_trait.specs.declared.request.Request.{Request}
use Rattle.backend_trait.specs.declared.request.Request.TheVariants as requests
use Rattle.catalogue.specs.declared.checked.Checked.{Checked}
use Rattle.backend_trait.specs.declared.answer.Answer.{Answer}
use Rattle.backend_trait.specs.declared.answer.Answer.TheVariants as answers
use Rattle.backend_trait.specs.Rows.{with_at}
use Rattle.backend_trait.specs.Effect.{Given, Fails, Gives, table_in, IsPositive}
use Rattle.backend_trait.specs.Store.{Live, Transaction, Absent, Alive, Dead, Pending, Store, WhereLive, IsDead, idle_line, no_locks, line_of, line_acted, line_answered, is_refusal, drawn, answered, refused}
use Rattle.backend_trait.specs.Acts.{MayRefuse, IsCrossed, IsOutOfMemory, IsPromptAnswer, IsDeadlock, IsInCycle, IsOf, WhereSome, MustWait, given_of}
use Rattle.schema.specs.declared.catalogue.TableDef.{TableDef}
use Rattle.outcomes.specs.declared.change.ChangeSet.{ChangeSet}
use Rattle.model_store.specs.declared.phase.Work.{Work}
use Rattle.model_store.specs.declared.phase.Phase.{Phase}
use Rattle.model_store.specs.declared.phase.Phase.TheVariants as phases
use Rattle.model_store.specs.declared.phase.Waiting.{Waiting}
use Rattle.model_store.specs.declared.phase.Waiting.TheVariants as waits
use Rattle.model_store.specs.declared.seat.Seat.{Seat}
use Rattle.model_store.specs.declared.verdict.Verdict.{Verdict}
use Rattle.model_store.specs.declared.verdict.Verdict.TheVariants as verdicts
use Rattle.model_store.specs.Phases.{transaction_of, request_of, pending_of, fits, answer_to, logged, numbered, number_told, IsGranted}
use Rattle.model_store.specs.Seats.{transaction_in, pending_in, store_of, mark_in, AreGiven}
use Rattle.model_store.specs.Conflicts.{AreApart}
use Rattle.model_store.specs.Verdicts.{Fits, FitsRun, IsDecided}
use Rattle.model_store.specs.Acting.{IsActed}
use Rattle.model_store.proofs.VerdictLaws.{wants_live, live_there}
use Rattle.model_store.proofs.FormLaws.{granted_lines, settled_lines}
use Rattle.model_store.proofs.CycleLaws.{cycle_refused, apart_there}
use Rattle.model_store.proofs.GivenLaws.{refusal_given}
use Rattle.model_store.proofs.StoreLaws.{granted_answers, granted_leaves, settled_as, not_refused, where_map, IsFormedIn}

-- the request that waits in a seat, and what becomes of it
pub waiting_there : (seats : List Seat) (at : ℕ) (seat : Seat) (P : Request → Type 0) → slice_get seats at ≡ Some seat → WhereSome (pending_in (slice_get seats at)) (λ p. P p.request)
    → (waiting : Waiting) × (seat.waiting ≡ Some waiting) × P (request_of waiting)
waiting_there seats at seat P there h =
    go seat.waiting refl (subst (λ (x : Option Seat). WhereSome (pending_in x) (λ p. P p.request)) there h)
  where
    go : (w : Option Waiting) → seat.waiting ≡ w → WhereSome (pending_of w) (λ p. P p.request) → (waiting : Waiting) × (seat.waiting ≡ Some waiting) × P (request_of waiting)
    go None e f = absurd f
    go (Some waiting) e f = (waiting, e, f)

no_refusal_prompt : (answer : Answer) → is_refusal answer ≡ false → IsPromptAnswer answer × ¬ (IsDeadlock answer)
no_refusal_prompt answers.Began e = (tt, λ d. d)
no_refusal_prompt (answers.Rows rows) e = (tt, λ d. d)
no_refusal_prompt (answers.Count n) e = (tt, λ d. d)
no_refusal_prompt answers.Locked e = (tt, λ d. d)
no_refusal_prompt answers.Done e = (tt, λ d. d)
no_refusal_prompt (answers.Serial n) e = (tt, λ d. d)
no_refusal_prompt (answers.Refused code) e = absurd (let f : true ≡ false = e in cc)

told_form : (x : Option ℤ) → is_some x ≡ true → IsPositive x → (n : ℤ) × (pos 1 ≤ℤ n) × (number_told x ≡ answers.Serial n)
told_form None is positive = absurd (let f : false ≡ true = is in cc)
told_form (Some n) is positive = (n, positive n refl, refl)

-- the answer to a request that is granted has its form
granted_form : (numbers : ℕ → Option ℤ) (tables : List TableDef) (log : List ChangeSet) (phase : Phase) (waiting : Waiting) → (wants_live waiting ≡ true → (work : Work) × (phase ≡ phases.Open work)) → IsFormedIn numbers tables log phase waiting
    → ((t : ℕ) → IsPositive (numbers t)) → IsOf (request_of waiting) (answer_to numbers waiting)
granted_form numbers tables log phase waits.Snapshot live given positive = inl refl
granted_form numbers tables log phase (waits.Run run) live given positive = let (work, open_is) = live refl in (given.runs work run open_is refl).1
granted_form numbers tables log phase (waits.Lock table) live given positive = inl refl
granted_form numbers tables log phase waits.Commit live given positive = refl
granted_form numbers tables log phase waits.Rollback live given positive = refl
granted_form numbers tables log phase (waits.ReadSerial table) live given positive = told_form (numbers table) (given.reads table refl) (positive table)
granted_form numbers tables log phase (waits.SetSerial table n) live given positive = refl

live_at : (log : List ChangeSet) (seats : List Seat) (at : ℕ) (seat : Seat) (waiting : Waiting) → slice_get seats at ≡ Some seat → seat.waiting ≡ Some waiting → wants_live waiting ≡ true → WhereLive (transaction_in log (slice_get seats at)) (λ t. Unit {0})
live_at log seats at seat waiting there waits_is w =
    let (work, open_is) = live_there seat.phase waiting w (ap (fits seat.phase) (sym waits_is) ∙ seat.fitting) in
    subst (λ (x : Transaction). WhereLive x (λ t. Unit {0})) (sym (ap (transaction_in log) there ∙ ap (transaction_of log) open_is)) tt

-- a request that goes is granted
pub granted_acted : (numbers : ℕ → Option ℤ) (tables : List TableDef) (log later : List ChangeSet) (seats : List Seat) (at : ℕ) (seat new : Seat) (answer : Answer) (moved : ℕ → Option ℤ) → ((t : ℕ) → IsPositive (numbers t)) → ((waiting : Waiting) → seat.waiting ≡ Some waiting → moved ≡ numbered tables numbers waiting) → at < length seats → slice_get seats at ≡ Some seat → ((o : ℕ) → mark_in (slice_get seats o) ≤ length log)
    → WhereSome (pending_in (slice_get seats at)) (λ p. Fits (store_of numbers tables log seats false) at p.request verdicts.Goes)
    → ((waiting : Waiting) → seat.waiting ≡ Some waiting → IsFormedIn numbers tables log seat.phase waiting)
    → ((waiting : Waiting) → seat.waiting ≡ Some waiting → IsGranted numbers log seat.phase waiting answer later new.phase) → new.waiting ≡ None
    → IsActed (store_of numbers tables log seats false) at answer (store_of moved tables later (slice_set seats at new) false)
granted_acted numbers tables log later seats at seat new answer moved positive moved_is below there marked goes formed granted none =
    let (waiting, waits_is, fit) = waiting_there seats at seat (λ r. Fits (store_of numbers tables log seats false) at r verdicts.Goes) there goes in
    let is : IsGranted numbers log seat.phase waiting answer later new.phase = granted waiting waits_is in
    let live : wants_live waiting ≡ true → (work : Work) × (seat.phase ≡ phases.Open work) = λ w. live_there seat.phase waiting w (ap (fits seat.phase) (sym waits_is) ∙ seat.fitting) in
    let calm = no_refusal_prompt (answer_to numbers waiting) (not_refused numbers tables log seat.phase waiting live (formed waiting waits_is)) in
    let leaves : store_of moved tables later (slice_set seats at new) false ≡ answered (store_of numbers tables log seats false) at (request_of waiting) =
    ap (λ (l : List ChangeSet). store_of moved tables l (slice_set seats at new) false) is.log_is
    ∙ ap (λ (m : ℕ → Option ℤ). store_of m tables (logged log seat.phase waiting) (slice_set seats at new) false) (moved_is waiting waits_is)
    ∙ granted_leaves numbers tables log seats at seat new waiting below there marked live (formed waiting waits_is) fit is.next_is none in
    record {
      pending = record { request = request_of waiting; crossed = false };
      was = ap pending_in there ∙ ap pending_of waits_is;
      answers = granted_answers numbers tables log later seats at seat new waiting answer moved (moved_is waiting waits_is) is.log_is below there waits_is marked (formed waiting waits_is) fit is.next_is none is.answer_is;
      form = subst (IsOf (request_of waiting)) (sym is.answer_is) (granted_form numbers tables log seat.phase waiting live (formed waiting waits_is) positive);
      promptly = (subst IsPromptAnswer (sym is.answer_is) calm.0, λ d. absurd (calm.1 (subst IsDeadlock is.answer_is d)));
      tables = refl;
      lines = λ o. ap (λ (st : Store). line_of st o) leaves ∙ granted_lines (store_of numbers tables log seats false) at waiting (live_at log seats at seat waiting there waits_is) o
          ∙ sym (ap (λ (a : Answer). with_at (line_of (store_of numbers tables log seats false)) at (line_acted (line_of (store_of numbers tables log seats false) at) (request_of waiting) a) o) is.answer_is
          ∙ ap (λ b. with_at (line_of (store_of numbers tables log seats false)) at (if b then idle_line IsDead no_locks else line_answered (line_of (store_of numbers tables log seats false) at) (request_of waiting)) o) (not_refused numbers tables log seat.phase waiting live (formed waiting waits_is)));
    }

where_any : (x : Transaction) (P : Live → Type 0) (Q : Type 0) → ((t : Live) → P t → Q) → WhereLive x P → Q
where_any Absent P Q f h = absurd h
where_any (Alive t) P Q f h = f t h
where_any Dead P Q f h = absurd h

-- a refusal that nobody has crossed is one that others may have crossed
refuse_more : (crossed : Type 0) (t : Live) (table : Option ℕ) (code : Code) (given : Given) → MayRefuse ⊥ t table code given → MayRefuse crossed t table code given
refuse_more crossed t table code (Fails bytes) may = may
refuse_more crossed t table code (Gives result changes places) (inl stale) = inl stale
refuse_more crossed t table code (Gives result changes places) (inr (inl cycle)) = absurd cycle.1
refuse_more crossed t table code (Gives result changes places) (inr (inr out)) = inr (inr out)

-- who waits has a run or a lock
refusal_form : (st : Store) (s : ℕ) (waiting : Waiting) (code : Code) → Fits st s (request_of waiting) verdicts.Waits → IsOf (request_of waiting) (answers.Refused code)
refusal_form st s waits.Snapshot code fit = inr (code, refl)
refusal_form st s (waits.Run run) code fit = refusal_given run.statement.body run.statement.columns (answers.Refused code) refl
refusal_form st s (waits.Lock table) code fit = inr (code, refl)
refusal_form st s waits.Commit code fit = absurd (let e : verdicts.Waits ≡ verdicts.Goes = fit in cc)
refusal_form st s waits.Rollback code fit = absurd (let e : verdicts.Waits ≡ verdicts.Goes = fit in cc)
refusal_form st s (waits.ReadSerial table) code fit = absurd (let e : verdicts.Waits ≡ verdicts.Goes = fit in cc)
refusal_form st s (waits.SetSerial table n) code fit = absurd (let e : verdicts.Waits ≡ verdicts.Goes = fit in cc)

not_out_of_memory : (code : Code) → code.bytes ≡ codes "40P01" → ¬ (IsOutOfMemory code)
not_out_of_memory code bytes oom = let t : codes "40P01" ≡ codes "53200" = sym bytes ∙ oom in let n : 52 ≡ 53 = ap (λ (l : List ℕ). get_or l 0 0) t in absurd (omega (arith, n))

module _ (numbers : ℕ → Option ℤ) (tables : List TableDef) (log : List ChangeSet) (seats : List Seat) (at : ℕ) (seat new : Seat) (code : Code) where
  -- a request that waits in a cycle is refused for it
  refused_in_cycle : (waiting : Waiting) → at < length seats → slice_get seats at ≡ Some seat → seat.waiting ≡ Some waiting → AreApart seats → code.bytes ≡ codes "40P01"
      → Fits (store_of numbers tables log seats false) at (request_of waiting) verdicts.Waits → IsInCycle (store_of numbers tables log seats false) at → new.phase ≡ phases.Dead → new.waiting ≡ None
      → IsActed (store_of numbers tables log seats false) at (answers.Refused code) (store_of (drawn tables numbers (request_of waiting)) tables log (slice_set seats at new) false)
  refused_in_cycle waiting below there waits_is apart bytes fit cycle dead none =
      let was : pending_in (slice_get seats at) ≡ Some (record { request = request_of waiting; crossed = false }) = ap pending_in there ∙ ap pending_of waits_is in
      let leaves : store_of (drawn tables numbers (request_of waiting)) tables log (slice_set seats at new) false ≡ refused (store_of numbers tables log seats false) at (request_of waiting) =
      settled_as (drawn tables numbers (request_of waiting)) tables log seats at new Dead below (ap (transaction_of log) dead) none in
      record {
        pending = record { request = request_of waiting; crossed = false };
        was = was;
        answers = record {
          pending = record { request = request_of waiting; crossed = false };
          was = was;
          not_lost = refl;
          may = cycle_refused (store_of numbers tables log seats false) (apart_there numbers tables log seats false apart) at (request_of waiting) code bytes was cycle;
          leaves = leaves;
        };
        form = refusal_form (store_of numbers tables log seats false) at waiting code fit;
        promptly = (not_out_of_memory code bytes, λ d. cycle);
        tables = refl;
        lines = λ o. ap (λ (st : Store). line_of st o) leaves ∙ settled_lines (store_of numbers tables log seats false) at Dead (idle_line IsDead no_locks) refl o;
      }

  refused_run : (waiting : Waiting) (statement : Checked) → request_of waiting ≡ requests.Run statement → at < length seats → slice_get seats at ≡ Some seat → seat.waiting ≡ Some waiting
      → WhereLive (transaction_in log (slice_get seats at)) (λ t. FitsRun (store_of numbers tables log seats false) at t (table_in statement) (given_of (store_of numbers tables log seats false) statement t) (verdicts.Refused code))
      → new.phase ≡ phases.Dead → new.waiting ≡ None → IsOf (requests.Run statement) (answers.Refused code)
      → IsActed (store_of numbers tables log seats false) at (answers.Refused code) (store_of (drawn tables numbers (requests.Run statement)) tables log (slice_set seats at new) false)
  refused_run waiting statement run below there waits_is fit dead none form =
      let was : pending_in (slice_get seats at) ≡ Some (record { request = requests.Run statement; crossed = false }) =
      ap pending_in there ∙ ap pending_of waits_is ∙ ap (λ (r : Request). Some (record { request = r; crossed = false })) run in
      let leaves : store_of (drawn tables numbers (requests.Run statement)) tables log (slice_set seats at new) false ≡ refused (store_of numbers tables log seats false) at (requests.Run statement) =
      settled_as (drawn tables numbers (requests.Run statement)) tables log seats at new Dead below (ap (transaction_of log) dead) none in
      record {
        pending = record { request = requests.Run statement; crossed = false };
        was = was;
        answers = record {
          pending = record { request = requests.Run statement; crossed = false };
          was = was;
          not_lost = refl;
          may = where_map (transaction_in log (slice_get seats at)) (λ t. FitsRun (store_of numbers tables log seats false) at t (table_in statement) (given_of (store_of numbers tables log seats false) statement t) (verdicts.Refused code))
              (λ t. MayRefuse (IsCrossed (store_of numbers tables log seats false) at (record { request = requests.Run statement; crossed = false })) t (table_in statement) code (given_of (store_of numbers tables log seats false) statement t))
              (λ t h. refuse_more (IsCrossed (store_of numbers tables log seats false) at (record { request = requests.Run statement; crossed = false })) t (table_in statement) code (given_of (store_of numbers tables log seats false) statement t) h.0) fit;
          leaves = leaves;
        };
        form = form;
        promptly = (
          where_any (transaction_in log (slice_get seats at)) (λ t. FitsRun (store_of numbers tables log seats false) at t (table_in statement) (given_of (store_of numbers tables log seats false) statement t) (verdicts.Refused code)) (¬ (IsOutOfMemory code))
              (λ t h. h.1) fit,
          λ d. absurd (where_any (transaction_in log (slice_get seats at)) (λ t. FitsRun (store_of numbers tables log seats false) at t (table_in statement) (given_of (store_of numbers tables log seats false) statement t) (verdicts.Refused code)) (¬ (code.bytes ≡ codes "40P01"))
              (λ t h. h.2) fit d),
        );
        tables = refl;
        lines = λ o. ap (λ (st : Store). line_of st o) leaves ∙ settled_lines (store_of numbers tables log seats false) at Dead (idle_line IsDead no_locks) refl o;
      }

  -- a request that is refused leaves a dead transaction
  pub refused_acted : (moved : ℕ → Option ℤ) → ((waiting : Waiting) → seat.waiting ≡ Some waiting → moved ≡ drawn tables numbers (request_of waiting)) → at < length seats → slice_get seats at ≡ Some seat → AreApart seats
      → WhereSome (pending_in (slice_get seats at)) (λ p. IsDecided (store_of numbers tables log seats false) at p.request (verdicts.Refused code)) → new.phase ≡ phases.Dead → new.waiting ≡ None
      → IsActed (store_of numbers tables log seats false) at (answers.Refused code) (store_of moved tables log (slice_set seats at new) false)
  refused_acted moved moved_is below there apart h dead none =
      let (waiting, waits_is, decided) = waiting_there seats at seat (λ r. IsDecided (store_of numbers tables log seats false) at r (verdicts.Refused code)) there h in
      subst (λ (m : ℕ → Option ℤ). IsActed (store_of numbers tables log seats false) at (answers.Refused code) (store_of m tables log (slice_set seats at new) false)) (sym (moved_is waiting waits_is))
      (elim decided [
        | inl fit ↦ go waiting waits_is fit
        | inr cycle ↦ refused_in_cycle waiting below there waits_is apart cycle.0 cycle.1 cycle.2 dead none
      ])
    where
      go : (waiting : Waiting) → seat.waiting ≡ Some waiting → Fits (store_of numbers tables log seats false) at (request_of waiting) (verdicts.Refused code) → IsActed (store_of numbers tables log seats false) at (answers.Refused code) (store_of (drawn tables numbers (request_of waiting)) tables log (slice_set seats at new) false)
      go waits.Snapshot w fit = absurd (cc)
      go (waits.Run run) w fit = refused_run (waits.Run run) run.statement refl below there w fit dead none (refusal_given run.statement.body run.statement.columns (answers.Refused code) refl)
      go (waits.Lock table) w fit = absurd (where_any (transaction_in log (slice_get seats at)) (λ t. ⊥) ⊥ (λ t b. b) fit)
      go waits.Commit w fit = absurd (cc)
      go waits.Rollback w fit = absurd (cc)
      go (waits.ReadSerial table) w fit = absurd (cc)
      go (waits.SetSerial table n) w fit = absurd (cc)

-- the same with what the code reads of the loss
pub granted_not_lost : (lost : Bool) → lost ≡ false → (numbers : ℕ → Option ℤ) (tables : List TableDef) (log later : List ChangeSet) (seats : List Seat) (at : ℕ) (seat new : Seat) (answer : Answer) (moved : ℕ → Option ℤ) → ((t : ℕ) → IsPositive (numbers t)) → ((waiting : Waiting) → seat.waiting ≡ Some waiting → moved ≡ numbered tables numbers waiting) → at < length seats → slice_get seats at ≡ Some seat
    → ((o : ℕ) → mark_in (slice_get seats o) ≤ length log) → WhereSome (pending_in (slice_get seats at)) (λ p. Fits (store_of numbers tables log seats false) at p.request verdicts.Goes)
    → ((waiting : Waiting) → seat.waiting ≡ Some waiting → IsFormedIn numbers tables log seat.phase waiting)
    → ((waiting : Waiting) → seat.waiting ≡ Some waiting → IsGranted numbers log seat.phase waiting answer later new.phase) → new.waiting ≡ None
    → IsActed (store_of numbers tables log seats lost) at answer (store_of moved tables later (slice_set seats at new) lost)
granted_not_lost lost is numbers tables log later seats at seat new answer moved positive moved_is below there marked goes formed granted none =
    subst (λ (b : Bool). IsActed (store_of numbers tables log seats b) at answer (store_of moved tables later (slice_set seats at new) b)) (sym is) (granted_acted numbers tables log later seats at seat new answer moved positive moved_is below there marked goes formed granted none)

pub refused_not_lost : (lost : Bool) → lost ≡ false → (numbers : ℕ → Option ℤ) (tables : List TableDef) (log : List ChangeSet) (seats : List Seat) (at : ℕ) (seat new : Seat) (code : Code) (moved : ℕ → Option ℤ) → ((waiting : Waiting) → seat.waiting ≡ Some waiting → moved ≡ drawn tables numbers (request_of waiting)) → at < length seats → slice_get seats at ≡ Some seat → AreApart seats
    → WhereSome (pending_in (slice_get seats at)) (λ p. IsDecided (store_of numbers tables log seats false) at p.request (verdicts.Refused code)) → new.phase ≡ phases.Dead → new.waiting ≡ None
    → IsActed (store_of numbers tables log seats lost) at (answers.Refused code) (store_of moved tables log (slice_set seats at new) lost)
refused_not_lost lost is numbers tables log seats at seat new code moved moved_is below there apart decided dead none =
    subst (λ (b : Bool). IsActed (store_of numbers tables log seats b) at (answers.Refused code) (store_of moved tables log (slice_set seats at new) b)) (sym is) (refused_acted numbers tables log seats at seat new code moved moved_is below there apart decided dead none)

must_wait : (st : Store) (s : ℕ) (request : Request) → Fits st s request verdicts.Waits → MustWait st s request
must_wait st s requests.TakeSnapshot fit = absurd (let e : verdicts.Waits ≡ verdicts.Goes = fit in cc)
must_wait st s (requests.Run statement) fit = fit
must_wait st s (requests.Lock table) fit = fit
must_wait st s requests.Commit fit = absurd (let e : verdicts.Waits ≡ verdicts.Goes = fit in cc)
must_wait st s requests.Rollback fit = absurd (let e : verdicts.Waits ≡ verdicts.Goes = fit in cc)
must_wait st s (requests.ReadSerial table) fit = absurd (let e : verdicts.Waits ≡ verdicts.Goes = fit in cc)
must_wait st s (requests.SetSerial table n) fit = absurd (let e : verdicts.Waits ≡ verdicts.Goes = fit in cc)

-- what is decided over what the code reads of the log and the seats
pub decided_here : (numbers : ℕ → Option ℤ) (tables : List TableDef) (log read_log : List ChangeSet) (seats read_seats : List Seat) (at : ℕ) (verdict known : Verdict) → read_log ≡ log → read_seats ≡ seats → verdict ≡ known
    → AreGiven numbers tables log seats → (AreGiven numbers tables read_log read_seats → WhereSome (pending_in (slice_get read_seats at)) (λ p. IsDecided (store_of numbers tables read_log read_seats false) at p.request verdict))
    → WhereSome (pending_in (slice_get seats at)) (λ p. IsDecided (store_of numbers tables log seats false) at p.request known)
decided_here numbers tables log read_log seats read_seats at verdict known log_is seats_is is all decided =
    let fit = decided (subst (λ (l : List Seat). AreGiven numbers tables read_log l) (sym seats_is) (subst (λ (l : List ChangeSet). AreGiven numbers tables l seats) (sym log_is) all)) in
    let here = subst (λ (l : List ChangeSet). WhereSome (pending_in (slice_get read_seats at)) (λ p. IsDecided (store_of numbers tables l read_seats false) at p.request verdict)) log_is fit in
    let there = subst (λ (l : List Seat). WhereSome (pending_in (slice_get l at)) (λ p. IsDecided (store_of numbers tables log l false) at p.request verdict)) seats_is here in
    subst (λ (v : Verdict). WhereSome (pending_in (slice_get seats at)) (λ p. IsDecided (store_of numbers tables log seats false) at p.request v)) is there

-- a request that waits has to, and closes no cycle
pub waits_promptly : (lost : Bool) → lost ≡ false → (numbers : ℕ → Option ℤ) (tables : List TableDef) (log : List ChangeSet) (seats : List Seat) (at : ℕ)
    → WhereSome (pending_in (slice_get seats at)) (λ p. IsDecided (store_of numbers tables log seats false) at p.request verdicts.Waits)
    → WhereSome (pending_in (slice_get seats at)) (λ p. MustWait (store_of numbers tables log seats lost) at p.request) × ¬ (IsInCycle (store_of numbers tables log seats lost) at)
waits_promptly lost is numbers tables log seats at waits =
    subst (λ (b : Bool). WhereSome (pending_in (slice_get seats at)) (λ p. MustWait (store_of numbers tables log seats b) at p.request) × ¬ (IsInCycle (store_of numbers tables log seats b) at)) (sym is) (go (pending_in (slice_get seats at)) waits)
  where
    go : (x : Option Pending) → WhereSome x (λ p. IsDecided (store_of numbers tables log seats false) at p.request verdicts.Waits) → WhereSome x (λ p. MustWait (store_of numbers tables log seats false) at p.request) × ¬ (IsInCycle (store_of numbers tables log seats false) at)
    go None h = absurd h
    go (Some p) h = (must_wait (store_of numbers tables log seats false) at p.request h.0, h.1)

logged_longer : (log : List ChangeSet) (phase : Phase) (waiting : Waiting) → length log ≤ length (logged log phase waiting)
logged_longer log phase waits.Snapshot = omega arith
logged_longer log phase (waits.Run run) = omega arith
logged_longer log phase (waits.Lock table) = omega arith
logged_longer log phases.Absent waits.Commit = omega arith
logged_longer log (phases.Open work) waits.Commit = omega (arith, length-append log (work.own ∷ []))
logged_longer log phases.Dead waits.Commit = omega arith
logged_longer log phase waits.Rollback = omega arith
logged_longer log phase (waits.ReadSerial table) = omega arith
logged_longer log phase (waits.SetSerial table n) = omega arith

-- the log only grows
pub longer : (numbers : ℕ → Option ℤ) (tables : List TableDef) (n : ℕ) (log later : List ChangeSet) (seats : List Seat) (at : ℕ) (seat : Seat) (answer : Answer) (next : Phase) → n ≡ length log → slice_get seats at ≡ Some seat
    → WhereSome (pending_in (slice_get seats at)) (λ p. Fits (store_of numbers tables log seats false) at p.request verdicts.Goes)
    → ((waiting : Waiting) → seat.waiting ≡ Some waiting → IsGranted numbers log seat.phase waiting answer later next) → n ≤ length later
longer numbers tables n log later seats at seat answer next is there goes granted =
    let (waiting, waits_is, fit) = waiting_there seats at seat (λ r. Fits (store_of numbers tables log seats false) at r verdicts.Goes) there goes in
    let grown : length later ≡ length (logged log seat.phase waiting) = ap (λ (l : List ChangeSet). length l) (granted waiting waits_is).log_is in
    omega (arith, logged_longer log seat.phase waiting, is, grown)
