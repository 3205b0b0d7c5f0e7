-- What granting and refusing leave of the store that a log and seats mean.
use Rattle.std.proofs.Common.{◌≡◌, ◌≢◌, ℕ, zero, suc, ◌+◌, ◌<◌, ◌≤◌, Bool, true, false, not, ◌||◌, if◌then◌else◌, List, [], ◌∷◌, ◌++◌, length, take, drop, refl, sym, ap, ◌∙◌, subst, arith, inl, inr}
use Rattle.std.specs.Prelude.{ℤ, is_some, Option, Some, None, slice_get, slice_set}
use Rattle.std.proofs.lemmas.Bool.Decides.{eqb_tells}
use Rattle.std.proofs.lemmas.List.{take-append-le, drop-append-le}
use Rattle.backend_trait.specs.declared.request.Request.{Request}
use Rattle.backend_trait.specs.declared.request.Request.TheVariants as requests
use Rattle.backend_trait.specs.declared.request.Posted.{Posted}
use Rattle.backend_trait.specs.declared.request.Posted.TheVariants as posts
use Rattle.backend_trait.specs.declared.answer.Answer.{Answer}
use Rattle.backend_trait.specs.declared.answer.Answer.TheVariants as answers
use Rattle.catalogue.specs.declared.checked.Checked.{Checked}
use Rattle.backend_trait.specs.Keys.{Place}
use Rattle.backend_trait.specs.Rows.{no_rows, with_at}
use Rattle.backend_trait.specs.Effect.{Given, changes_of}
use Rattle.backend_trait.specs.Store.{Live, Transaction, Absent, Alive, Dead, Store, WhereLive, is_refusal, settled, drawn_by, given_to, made_stale, where_live, committed_by, answered, refused, acted, posted_by, request_in}
use Rattle.backend_trait.specs.Acts.{MayAnswer, MayGive, Answers, IsCrossed, given_of}
use Rattle.backend_trait.specs.Runnable.{is_of_run}
use Rattle.outcomes.specs.declared.outcome.Outcome.{Outcome}
use Rattle.outcomes.specs.declared.outcome.Outcome.TheVariants as outcomes
use Rattle.schema.specs.declared.catalogue.TableDef.{TableDef}
use Rattle.outcomes.specs.declared.change.ChangeSet.{ChangeSet}
use Rattle.model_store.specs.declared.phase.Work.{Work}
use Rattle.model_store.specs.declared.phase.Phase.{Phase}
use Rattle.model_store.specs.declared.phase.Phase.TheVariants as phases
use Rattle.model_store.specs.declared.phase.Waiting.{Waiting}
use Rattle.model_store.specs.declared.phase.Waiting.TheVariants as waits
use Rattle.model_store.specs.declared.seat.Seat.{Seat}
use Rattle.model_store.specs.declared.verdict.Verdict.TheVariants as verdicts
use Rattle.outcomes.specs.Log.{rows_of, has_changed}
use Rattle.outcomes.specs.Given.{given_in}
use Rattle.model_store.specs.declared.phase.Run.{Run}
use Rattle.model_store.specs.Phases.{live_of, transaction_of, request_of, pending_of, fits, mark_of, is_open, begins, owed, with_lock, granted, with_set, logged, numbered, number_told, answer_to, answer_of, is_result, has_room_for, has_room_in, IsGivenIn}
use Rattle.model_store.specs.Seats.{transaction_in, pending_in, store_of, mark_in, all_owed}
use Rattle.model_store.specs.Verdicts.{MayGo, Fits}
use Rattle.model_store.specs.Acting.{WaitsFor}
use Rattle.outcomes.proofs.LogLaws.{rows_on-snoc, has_changed-snoc}
use Rattle.model_store.proofs.VerdictLaws.{wants_live, live_there}
use Rattle.model_store.proofs.GivenLaws.{IsFormed, may_answer_run}

pub set_same : {A : Type 0} (xs : List A) (b : ℕ) (x : A) → b < length xs → slice_get (slice_set xs b x) b ≡ Some x
set_same [] b x below = absurd (omega arith)
set_same (z ∷ xs) zero x below = refl
set_same (z ∷ xs) (suc b) x below = set_same xs b x (omega arith)

pub set_other : {A : Type 0} (xs : List A) (b j : ℕ) (x : A) → j ≢ b → slice_get (slice_set xs b x) j ≡ slice_get xs j
set_other [] b j x other = refl
set_other (z ∷ xs) zero zero x other = absurd (other refl)
set_other (z ∷ xs) zero (suc j) x other = refl
set_other (z ∷ xs) (suc b) zero x other = refl
set_other (z ∷ xs) (suc b) (suc j) x other = set_other xs b j x (λ e. other (ap suc e))

-- what is read of the seats, one of which is new
at_set : {A : Type 0} (f : Option Seat → A) (g : ℕ → A) (seats : List Seat) (at : ℕ) (seat : Seat) (x : A) → at < length seats → f (Some seat) ≡ x → ((o : ℕ) → o ≢ at → f (slice_get seats o) ≡ g o)
    → (o : ℕ) → f (slice_get (slice_set seats at seat) o) ≡ with_at g at x o
at_set f g seats at seat x below is same o = elim (eqb_tells o at) [
  | inl p ↦ ap (λ k. f (slice_get (slice_set seats at seat) k)) p.1 ∙ ap f (set_same seats at seat below) ∙ is ∙ sym (ap (λ b. if b then x else g o) p.0)
  | inr p ↦ ap f (set_other seats at o seat p.1) ∙ same o p.1 ∙ sym (ap (λ b. if b then x else g o) p.0)
]

pub settled_as : (numbers : ℕ → Option ℤ) (tables : List TableDef) (log : List ChangeSet) (seats : List Seat) (at : ℕ) (seat : Seat) (x : Transaction) → at < length seats → transaction_of log seat.phase ≡ x → seat.waiting ≡ None
    → store_of numbers tables log (slice_set seats at seat) false ≡ settled (store_of numbers tables log seats false) at x
settled_as numbers tables log seats at seat x below is none = λ i. record {
  tables = tables;
  rows = rows_of log;
  next = numbers;
  transaction = λ o. at_set (transaction_in log) (λ k. transaction_in log (slice_get seats k)) seats at seat x below is (λ k other. refl) o i;
  pending = λ o. at_set pending_in (λ k. pending_in (slice_get seats k)) seats at seat None below (ap pending_of none) (λ k other. refl) o i;
  lost = false;
}

-- the others see one set more behind their marks
stale_live : (log : List ChangeSet) (set : ChangeSet) (work : Work) → work.mark ≤ length log → live_of (log ++ set ∷ []) work ≡ made_stale (changes_of set.changes.items) (live_of log work)
stale_live log set work within =
    let base : take work.mark (log ++ set ∷ []) ≡ take work.mark log = take-append-le work.mark log (set ∷ []) within in
    let rest : drop work.mark (log ++ set ∷ []) ≡ drop work.mark log ++ set ∷ [] = drop-append-le work.mark log (set ∷ []) within in
    let stale : (p : Place) → has_changed (drop work.mark (log ++ set ∷ [])) p ≡ _ = λ p. ap (λ (l : List ChangeSet). has_changed l p) rest ∙ has_changed-snoc (drop work.mark log) set p in
    λ i. record { base = rows_of (base i); changes = changes_of work.own.changes.items; held = (live_of log work).held; stale = λ p. stale p i }

stale_phase : (log : List ChangeSet) (set : ChangeSet) (phase : Phase) → mark_of phase ≤ length log → transaction_of (log ++ set ∷ []) phase ≡ where_live (made_stale (changes_of set.changes.items)) (transaction_of log phase)
stale_phase log set phases.Absent within = refl
stale_phase log set (phases.Open work) within = ap Alive (stale_live log set work within)
stale_phase log set phases.Dead within = refl

stale_in : (log : List ChangeSet) (set : ChangeSet) (x : Option Seat) → mark_in x ≤ length log → transaction_in (log ++ set ∷ []) x ≡ where_live (made_stale (changes_of set.changes.items)) (transaction_in log x)
stale_in log set None within = refl
stale_in log set (Some seat) within = stale_phase log set seat.phase within

absent_later : (log later : List ChangeSet) (phase : Phase) → transaction_of log phase ≡ Absent → transaction_of later phase ≡ Absent
absent_later log later phases.Absent is = refl
absent_later log later (phases.Open work) is = absurd (cc)
absent_later log later phases.Dead is = absurd (cc)

committed_as : (numbers : ℕ → Option ℤ) (tables : List TableDef) (log : List ChangeSet) (seats : List Seat) (at : ℕ) (seat : Seat) (work : Work) → at < length seats → ((o : ℕ) → mark_in (slice_get seats o) ≤ length log) → transaction_of log seat.phase ≡ Absent → seat.waiting ≡ None
    → store_of numbers tables (log ++ work.own ∷ []) (slice_set seats at seat) false ≡ committed_by (store_of numbers tables log seats false) at (Alive (live_of log work))
committed_as numbers tables log seats at seat work below marked is none = λ i. record {
  tables = tables;
  rows = rows_on-snoc no_rows log work.own i;
  next = numbers;
  transaction =
      λ o. at_set (transaction_in (log ++ work.own ∷ [])) (λ k. where_live (made_stale (changes_of work.own.changes.items)) (transaction_in log (slice_get seats k))) seats at seat Absent below
      (absent_later log (log ++ work.own ∷ []) seat.phase is) (λ k other. stale_in log work.own (slice_get seats k) (marked k)) o i;
  pending = λ o. at_set pending_in (λ k. pending_in (slice_get seats k)) seats at seat None below (ap pending_of none) (λ k other. refl) o i;
  lost = false;
}

-- of the request that waits: what it gives in a live transaction is its effect, and its answer is of its form and no refusal; a
-- number that is read is there
pub record IsFormedIn (numbers : ℕ → Option ℤ) (tables : List TableDef) (log : List ChangeSet) (phase : Phase) (waiting : Waiting) : Type 0 where
  pub runs : (work : Work) (run : Run) → phase ≡ phases.Open work → waiting ≡ waits.Run run
      → IsGivenIn numbers tables (live_of log work) run × (is_of_run run.statement (answer_of run.outcome) ≡ true) × (is_refusal (answer_of run.outcome) ≡ false)
  pub reads : (table : ℕ) → waiting ≡ waits.ReadSerial table → is_some (numbers table) ≡ true

-- a statement gives its transaction what its effect gives
run_same : (f g : Live → Live) (x : Transaction) (t : Live) → x ≡ Alive t → f t ≡ g t → where_live f x ≡ where_live g x
run_same f g x t is same = ap (where_live f) is ∙ ap Alive same ∙ sym (ap (where_live g) is)

pub granted_leaves : (numbers : ℕ → Option ℤ) (tables : List TableDef) (log : List ChangeSet) (seats : List Seat) (at : ℕ) (seat new : Seat) (waiting : Waiting) → at < length seats → slice_get seats at ≡ Some seat → ((o : ℕ) → mark_in (slice_get seats o) ≤ length log)
    → (wants_live waiting ≡ true → (work : Work) × (seat.phase ≡ phases.Open work))
    → IsFormedIn numbers tables log seat.phase waiting
    → Fits (store_of numbers tables log seats false) at (request_of waiting) verdicts.Goes → transaction_of log new.phase ≡ granted log seat.phase waiting → new.waiting ≡ None
    → store_of (numbered tables numbers waiting) tables (logged log seat.phase waiting) (slice_set seats at new) false ≡ answered (store_of numbers tables log seats false) at (request_of waiting)
granted_leaves numbers tables log seats at seat new waits.Snapshot below there marked live given fit is none = settled_as numbers tables log seats at new _ below is none
granted_leaves numbers tables log seats at seat new (waits.Run run) below there marked live given fit is none =
    let (work, open_is) = live refl in
    let own : transaction_in log (slice_get seats at) ≡ Alive (live_of log work) = ap (transaction_in log) there ∙ ap (transaction_of log) open_is in
    settled_as (drawn_by tables run.statement numbers) tables log seats at new _ below (
    is ∙ ap (where_live (given_to (given_in run.outcome))) (sym (ap (transaction_in log) there))
    ∙ run_same (given_to (given_in run.outcome)) (λ t. given_to (given_of (store_of numbers tables log seats false) run.statement t) t) (transaction_in log (slice_get seats at)) (live_of log work) own
    (ap (λ (g : Given). given_to g (live_of log work)) ((given.runs work run open_is refl).0.effect))
    ) none
granted_leaves numbers tables log seats at seat new (waits.Lock table) below there marked live given fit is none =
    settled_as numbers tables log seats at new _ below (is ∙ ap (where_live (with_lock table)) (sym (ap (transaction_in log) there))) none
granted_leaves numbers tables log seats at seat new waits.Commit below there marked live given fit is none =
    let (work, open_is) = live refl in
    ap (λ (l : List ChangeSet). store_of numbers tables l (slice_set seats at new) false) (ap (with_set log) open_is) ∙ committed_as numbers tables log seats at new work below marked is none
    ∙ sym (ap (committed_by (store_of numbers tables log seats false) at) (ap (transaction_in log) there ∙ ap (transaction_of log) open_is))
granted_leaves numbers tables log seats at seat new waits.Rollback below there marked live given fit is none = settled_as numbers tables log seats at new Absent below is none
granted_leaves numbers tables log seats at seat new (waits.ReadSerial table) below there marked live given fit is none =
    settled_as numbers tables log seats at new _ below (is ∙ sym (ap (transaction_in log) there)) none
granted_leaves numbers tables log seats at seat new (waits.SetSerial table n) below there marked live given fit is none =
    settled_as (with_at numbers table (Some n)) tables log seats at new _ below (is ∙ sym (ap (transaction_in log) there)) none

pub where_map : (x : Transaction) (P Q : Live → Type 0) → ((t : Live) → P t → Q t) → WhereLive x P → WhereLive x Q
where_map Absent P Q f h = h
where_map (Alive t) P Q f h = f t h
where_map Dead P Q f h = h

given_may : (st : Store) (s : ℕ) (t : Live) (outcome : Outcome) (given : Given) → given_in outcome ≡ given → MayGo st s t given → MayGive st s t (answer_of outcome) given
given_may st s t (outcomes.Fails code) given is may = absurd (subst (MayGo st s t) (sym is) may)
given_may st s t (outcomes.Gives answer changes places) given is may =
    subst (λ (g : Given). MayGive st s t answer g) is (let here = subst (MayGo st s t) (sym is) may in (refl, here.0, here.1))

-- the answer of an outcome that gives one has the form of its statement
pub outcome_formed : (statement : Checked) (outcome : Outcome) (given : Given) → given_in outcome ≡ given → IsFormed statement given → is_result outcome ≡ true
    → (is_of_run statement (answer_of outcome) ≡ true) × (is_refusal (answer_of outcome) ≡ false)
outcome_formed statement (outcomes.Fails code) given is formed result = absurd (let f : false ≡ true = result in cc)
outcome_formed statement (outcomes.Gives answer changes places) given is formed result = subst (IsFormed statement) (sym is) formed

-- a number that is there is told
told_is : (x : Option ℤ) → is_some x ≡ true → (n : ℤ) × (x ≡ Some n) × (number_told x ≡ answers.Serial n)
told_is None is = absurd (let f : false ≡ true = is in cc)
told_is (Some n) is = (n, refl, refl)

told_calm : (x : Option ℤ) → is_refusal (number_told x) ≡ false
told_calm None = refl
told_calm (Some n) = refl

pub granted_may : (numbers : ℕ → Option ℤ) (tables : List TableDef) (log : List ChangeSet) (seats : List Seat) (at : ℕ) (seat : Seat) (waiting : Waiting) → slice_get seats at ≡ Some seat → (wants_live waiting ≡ true → (work : Work) × (seat.phase ≡ phases.Open work)) → IsFormedIn numbers tables log seat.phase waiting
    → Fits (store_of numbers tables log seats false) at (request_of waiting) verdicts.Goes → MayAnswer (store_of numbers tables log seats false) at (record { request = request_of waiting; crossed = false }) (answer_to numbers waiting)
granted_may numbers tables log seats at seat waits.Snapshot there live given fit = tt
granted_may numbers tables log seats at seat (waits.Run run) there live given fit =
    let (work, open_is) = live refl in
    let st = store_of numbers tables log seats false in
    let own : transaction_in log (slice_get seats at) ≡ Alive (live_of log work) = ap (transaction_in log) there ∙ ap (transaction_of log) open_is in
    let own_given = given.runs work run open_is refl in
    let same : given_in run.outcome ≡ given_of st run.statement (live_of log work) = own_given.0.effect in
    let may = subst (λ (x : Transaction). WhereLive x (λ t. MayGo st at t (given_of st run.statement t))) own fit in
    may_answer_run st at (IsCrossed st at (record { request = requests.Run run.statement; crossed = false })) run.statement (answer_of run.outcome) own_given.1 own_given.2
    (subst (λ (x : Transaction). WhereLive x (λ t. MayGive st at t (answer_of run.outcome) (given_of st run.statement t))) (sym own) (given_may st at (live_of log work) run.outcome (given_of st run.statement (live_of log work)) same may))
granted_may numbers tables log seats at seat (waits.Lock table) there live given fit = fit
granted_may numbers tables log seats at seat waits.Commit there live given fit =
    let (work, open_is) = live refl in
    subst (λ (x : Transaction). WhereLive x (λ t. answers.Done ≡ answers.Done)) (sym (ap (transaction_in log) there ∙ ap (transaction_of log) open_is)) refl
granted_may numbers tables log seats at seat waits.Rollback there live given fit = refl
granted_may numbers tables log seats at seat (waits.ReadSerial table) there live given fit = told_is (numbers table) (given.reads table refl)
granted_may numbers tables log seats at seat (waits.SetSerial table n) there live given fit = refl

pub not_refused : (numbers : ℕ → Option ℤ) (tables : List TableDef) (log : List ChangeSet) (phase : Phase) (waiting : Waiting) → (wants_live waiting ≡ true → (work : Work) × (phase ≡ phases.Open work)) → IsFormedIn numbers tables log phase waiting
    → is_refusal (answer_to numbers waiting) ≡ false
not_refused numbers tables log phase waits.Snapshot live given = refl
not_refused numbers tables log phase (waits.Run run) live given = let (work, open_is) = live refl in (given.runs work run open_is refl).2
not_refused numbers tables log phase (waits.Lock table) live given = refl
not_refused numbers tables log phase waits.Commit live given = refl
not_refused numbers tables log phase waits.Rollback live given = refl
not_refused numbers tables log phase (waits.ReadSerial table) live given = told_calm (numbers table)
not_refused numbers tables log phase (waits.SetSerial table n) live given = refl

-- a request that is granted is answered as the table of answers says
pub granted_answers : (numbers : ℕ → Option ℤ) (tables : List TableDef) (log later : List ChangeSet) (seats : List Seat) (at : ℕ) (seat new : Seat) (waiting : Waiting) (answer : Answer) (moved : ℕ → Option ℤ) → moved ≡ numbered tables numbers waiting → later ≡ logged log seat.phase waiting → at < length seats → slice_get seats at ≡ Some seat → seat.waiting ≡ Some waiting
    → ((o : ℕ) → mark_in (slice_get seats o) ≤ length log) → IsFormedIn numbers tables log seat.phase waiting
    → Fits (store_of numbers tables log seats false) at (request_of waiting) verdicts.Goes → transaction_of log new.phase ≡ granted log seat.phase waiting → new.waiting ≡ None → answer ≡ answer_to numbers waiting
    → Answers (store_of numbers tables log seats false) at answer (store_of moved tables later (slice_set seats at new) false)
granted_answers numbers tables log later seats at seat new waiting answer moved moved_is log_is below there waits_is marked given fit is none answer_is =
    let live : wants_live waiting ≡ true → (work : Work) × (seat.phase ≡ phases.Open work) = λ w. live_there seat.phase waiting w (ap (fits seat.phase) (sym waits_is) ∙ seat.fitting) in
    record {
      pending = record { request = request_of waiting; crossed = false };
      was = ap pending_in there ∙ ap pending_of waits_is;
      not_lost = refl;
      may = subst (λ (a : Answer). MayAnswer (store_of numbers tables log seats false) at (record { request = request_of waiting; crossed = false }) a) (sym answer_is) (granted_may numbers tables log seats at seat waiting there live given fit);
      leaves = ap (λ (l : List ChangeSet). store_of moved tables l (slice_set seats at new) false) log_is
          ∙ ap (λ (m : ℕ → Option ℤ). store_of m tables (logged log seat.phase waiting) (slice_set seats at new) false) moved_is ∙ granted_leaves numbers tables log seats at seat new waiting below there marked live given fit is none
          ∙ sym (ap (acted (store_of numbers tables log seats false) at (request_of waiting)) answer_is
          ∙ ap (λ b. if b then refused (store_of numbers tables log seats false) at (request_of waiting) else answered (store_of numbers tables log seats false) at (request_of waiting)) (not_refused numbers tables log seat.phase waiting live given));
    }

set_length : (seats : List Seat) (at : ℕ) (new : Seat) → length (slice_set seats at new) ≡ length seats
set_length [] at new = refl
set_length (x ∷ xs) zero new = refl
set_length (x ∷ xs) (suc at) new = ap suc (set_length xs at new)

-- of all that is owed, what one seat owes
pub owed_set : (seats : List Seat) (at : ℕ) (seat new : Seat) → slice_get seats at ≡ Some seat → all_owed (slice_set seats at new) + owed seat.phase seat.waiting ≡ all_owed seats + owed new.phase new.waiting
owed_set [] at seat new there = absurd (cc)
owed_set (x ∷ xs) zero seat new there =
    let same : x ≡ seat = cc in
    let e = ap (λ (y : Seat). owed y.phase y.waiting) same in
    omega (arith, e)
owed_set (x ∷ xs) (suc at) seat new there = omega (arith, owed_set xs at seat new there)

owed_one : (phase : Phase) (waiting : Option Waiting) → owed phase waiting ≤ 1
owed_one phase waiting = go (is_open phase || begins waiting)
  where
    go : (b : Bool) → (if b then 1 else 0) ≤ 1
    go true = omega arith
    go false = omega arith

-- no more than one a seat
pub owed_all : (seats : List Seat) → all_owed seats ≤ length seats
owed_all [] = omega arith
owed_all (x ∷ xs) = omega (arith, owed_one x.phase x.waiting, owed_all xs)

pub marked_set : (seats : List Seat) (at : ℕ) (new : Seat) (n m : ℕ) → at < length seats → ((o : ℕ) → mark_in (slice_get seats o) ≤ n) → n ≤ m → mark_of new.phase ≤ m → (o : ℕ) → mark_in (slice_get (slice_set seats at new) o) ≤ m
marked_set seats at new n m below marked more own o = elim (eqb_tells o at) [
  | inl p ↦ subst (λ (x : Option Seat). mark_in x ≤ m) (sym (ap (slice_get (slice_set seats at new)) p.1 ∙ set_same seats at new below)) own
  | inr p ↦ subst (λ (x : Option Seat). mark_in x ≤ m) (sym (set_other seats at o new p.1)) (omega (arith, marked o, more))
]

-- a seat owes no more than all do
pub owed_part : (seats : List Seat) (at : ℕ) (seat : Seat) → slice_get seats at ≡ Some seat → owed seat.phase seat.waiting ≤ all_owed seats
owed_part [] at seat there = absurd (cc)
owed_part (x ∷ xs) zero seat there =
    let same : x ≡ seat = cc in
    let e = ap (λ (y : Seat). owed y.phase y.waiting) same in
    omega (arith, e)
owed_part (x ∷ xs) (suc at) seat there = omega (arith, owed_part xs at seat there)

-- a live transaction once its statement has been granted
pub granted_run : (log : List ChangeSet) (phase : Phase) (waiting : Waiting) (work after : Work) (run : Run) → phase ≡ phases.Open work → waiting ≡ waits.Run run → live_of log after ≡ given_to (given_in run.outcome) (live_of log work)
    → transaction_of log (phases.Open after) ≡ granted log phase waiting
granted_run log phase waiting work after run open_is run_is live =
    ap Alive live ∙ (sym (ap (λ (p : Phase). granted log p (waits.Run run)) open_is) ∙ sym (ap (granted log phase) run_is))

-- a live transaction has room for what its statement gives
pub room_in_run : (phase : Phase) (waiting : Waiting) (work : Work) (run : Run) → phase ≡ phases.Open work → waiting ≡ waits.Run run → has_room_in phase (Some waiting) → has_room_for work run.outcome
room_in_run phase waiting work run open_is run_is room =
    subst (λ (p : Phase). has_room_in p (Some (waits.Run run))) open_is (subst (λ (w : Waiting). has_room_in phase (Some w)) run_is room)

-- the log keeps room where a seat owes no more than before
pub room_kept : (n m before after : ℕ) (seats : List Seat) (at : ℕ) (seat new : Seat) → slice_get seats at ≡ Some seat → m + owed new.phase new.waiting ≤ n + owed seat.phase seat.waiting → before ≤ after → n + all_owed seats ≤ before
    → m + all_owed (slice_set seats at new) ≤ after
room_kept n m before after seats at seat new there less more room = omega (arith, owed_set seats at seat new there, owed_part seats at seat there)

-- a post changes the pending request alone
pub same_set : {A : Type 0} (f : Option Seat → A) (seats : List Seat) (at : ℕ) (seat new : Seat) → at < length seats → slice_get seats at ≡ Some seat → f (Some new) ≡ f (Some seat) → (o : ℕ) → f (slice_get (slice_set seats at new) o) ≡ f (slice_get seats o)
same_set f seats at seat new below there is o = elim (eqb_tells o at) [
  | inl p ↦ ap (λ k. f (slice_get (slice_set seats at new) k)) p.1 ∙ ap f (set_same seats at new below) ∙ is ∙ sym (ap f there) ∙ sym (ap (λ k. f (slice_get seats k)) p.1)
  | inr p ↦ ap f (set_other seats at o new p.1)
]

pub posted_ok : (numbers : ℕ → Option ℤ) (tables : List TableDef) (log : List ChangeSet) (later : List ChangeSet) (seats : List Seat) (lost : Bool) (at : ℕ) (seat new : Seat) (request : Request) (result : Posted) → later ≡ log → at < length seats → slice_get seats at ≡ Some seat
    → transaction_of log new.phase ≡ transaction_of log seat.phase → seat.waiting ≡ None → WaitsFor request result new.waiting → posted_by (store_of numbers tables log seats lost) at request result (store_of numbers tables later (slice_set seats at new) lost)
posted_ok numbers tables log later seats lost at seat new request posts.Accepted log_is below there same idle waits_is = λ i. record {
  tables = tables;
  rows = rows_of (log_is i);
  next = numbers;
  transaction = λ o. (ap (λ (l : List ChangeSet). transaction_in l (slice_get (slice_set seats at new) o)) log_is ∙ same_set (transaction_in log) seats at seat new below there same o) i;
  pending = λ o. at_set pending_in (λ k. pending_in (slice_get seats k)) seats at new (Some (record { request = request; crossed = false })) below waits_is (λ k other. refl) o i;
  lost = lost;
}
posted_ok numbers tables log later seats lost at seat new request (posts.NoMemory back) log_is below there same idle waits_is = (
  waits_is.0,
  λ i. record {
    tables = tables;
    rows = rows_of (log_is i);
    next = numbers;
    transaction = λ o. (ap (λ (l : List ChangeSet). transaction_in l (slice_get (slice_set seats at new) o)) log_is ∙ same_set (transaction_in log) seats at seat new below there same o) i;
    pending = λ o. same_set pending_in seats at seat new below there (ap pending_of waits_is.1 ∙ sym (ap pending_of idle)) o i;
    lost = lost;
  },
)

begins_snapshot : (request : Request) (result : Posted) (w : Option Waiting) → WaitsFor request result w → begins w ≡ true → request ≡ requests.TakeSnapshot
begins_snapshot request posts.Accepted None h b = absurd (cc)
begins_snapshot request posts.Accepted (Some waits.Snapshot) h b = let e : Some requests.TakeSnapshot ≡ Some request = ap request_in h in cc
begins_snapshot request posts.Accepted (Some (waits.Run run)) h b = absurd (cc)
begins_snapshot request posts.Accepted (Some (waits.Lock table)) h b = absurd (cc)
begins_snapshot request posts.Accepted (Some waits.Commit) h b = absurd (cc)
begins_snapshot request posts.Accepted (Some waits.Rollback) h b = absurd (cc)
begins_snapshot request posts.Accepted (Some (waits.ReadSerial table)) h b = absurd (cc)
begins_snapshot request posts.Accepted (Some (waits.SetSerial table n)) h b = absurd (cc)
begins_snapshot request (posts.NoMemory back) w h b = absurd (let e : false ≡ true = sym (ap begins h.1) ∙ b in cc)

-- and the log keeps room after it
pub posted_room : (n m before after : ℕ) (seats : List Seat) (at : ℕ) (seat new : Seat) (request : Request) (result : Posted) → slice_get seats at ≡ Some seat → length seats ≡ 65 → at < length seats
    → is_open new.phase ≡ is_open seat.phase → seat.waiting ≡ None → WaitsFor request result new.waiting → (request ≡ requests.TakeSnapshot → m + 65 ≤ after) → m ≡ n → before ≤ after → n + all_owed seats ≤ before
    → m + all_owed (slice_set seats at new) ≤ after
posted_room n m before after seats at seat new request result there all below open_too idle waits_is for_all same more room = go (begins new.waiting) refl
  where
    go : (b : Bool) → begins new.waiting ≡ b → m + all_owed (slice_set seats at new) ≤ after
    go true e = omega (arith, for_all (begins_snapshot request result new.waiting waits_is e), owed_all (slice_set seats at new), set_length seats at new, all)
    go false e =
        let own : owed new.phase new.waiting ≡ owed seat.phase seat.waiting =
        ap (λ b. if is_open new.phase || b then 1 else 0) e ∙ ap (λ b. if b || false then 1 else 0) open_too ∙ sym (ap (λ (w : Option Waiting). owed seat.phase w) idle) in
        room_kept n m before after seats at seat new there (omega (arith, own, same)) more room

pub mark_there : (seats : List Seat) (at : ℕ) (seat : Seat) (n : ℕ) → slice_get seats at ≡ Some seat → ((o : ℕ) → mark_in (slice_get seats o) ≤ n) → mark_of seat.phase ≤ n
mark_there seats at seat n there marked = subst (λ (x : Option Seat). mark_in x ≤ n) there (marked at)

none_pending : (w : Option Waiting) → pending_of w ≡ None → w ≡ None
none_pending None is = refl
none_pending (Some waiting) is = absurd (cc)

-- a session with nothing pending has a seat where nothing waits
pub idle_seat : (seats : List Seat) (at : ℕ) (seat : Seat) → slice_get seats at ≡ Some seat → pending_in (slice_get seats at) ≡ None → seat.waiting ≡ None
idle_seat seats at seat there idle = none_pending seat.waiting (sym (ap pending_in there) ∙ idle)

pub not_false : (b : Bool) → not b ≡ false → b ≡ true
not_false true e = refl
not_false false e = absurd (cc)
