-- The program tells exactly which answers a store may give.
use Rattle.std.proofs.Common.{◌≡◌, ◌≢◌, ℕ, ℤ, Bool, true, false, ◌||◌, ◌==◌, List, refl, sym, ap, ◌∙◌, subst, inl, inr, codes, eqb-true, eq-eqb}
use Rattle.std.specs.Prelude.{◌⊎◌, ◌&&◌, not, Option, Some, None, slice_get}
use Rattle.std.specs.Cmp.{signed_Decides}
use Rattle.std.specs.Cmp.Lexicographic.{pointwise_decides, bytes_decides}
use Rattle.pool_base.specs.declared.code.Code.{Code}
use Rattle.pg_values.specs.declared.value.Value.{Value}
use Rattle.pg_values.specs.declared.value.Value.TheVariants as values
use Rattle.pg_values.specs.contracts.value.ValuePartialEq.TheImpl as value_eq
use Rattle.sql_eval.specs.declared.row.Row.{Row}
use Rattle.sql_eval.specs.contracts.row.RowPartialEq.TheImpl as row_eq
use Rattle.catalogue.specs.declared.checked.Checked.{Checked}
use Rattle.backend_trait.specs.declared.request.Request.{Request}
use Rattle.backend_trait.specs.declared.request.Request.TheVariants as requests
use Rattle.backend_trait.specs.declared.answer.Answer.{Answer}
use Rattle.backend_trait.specs.declared.answer.Answer.TheVariants as answers
use Rattle.backend_trait.specs.Keys.{Place}
use Rattle.backend_trait.specs.Rows.{Changes}
use Rattle.backend_trait.specs.Effect.{these_places, has_lock_of, Given, Fails, Gives, table_in}
use Rattle.backend_trait.specs.Store.{Live, Transaction, Absent, Alive, Dead, Pending, Store, WhereLive, table_lock}
use Rattle.backend_trait.specs.Acts.{IsFree, IsFresh, IsStale, IsOutOfMemory, MayGive, MayRefuse, MaySnapshot, MayRun, MayLock, IsDone, MayAnswer, IsCrossed, WhereSome, given_of}
use Rattle.outcomes.specs.Log.{has_changed}
use Rattle.outcomes.specs.Next.{next_of}
use Rattle.plain_store.specs.declared.data.Work.{Work}
use Rattle.plain_store.specs.declared.data.Phase.{Phase}
use Rattle.plain_store.specs.declared.data.Phase.TheVariants as phases
use Rattle.plain_store.specs.declared.data.Database.{Database}
use Rattle.plain_store.specs.Phases.{Places, Lock, live_of, transaction_of, transaction_in, request_at, mark_in, pending_of}
use Rattle.plain_store.specs.Meaning.{store_of}
use Rattle.plain_store.specs.Giving.{given_run, given_by}
use Rattle.backend_trait.specs.Acting.{MayAct}
use Rattle.plain_store.specs.States.{States, states_in, phase_in, phase_at}
use Rattle.plain_store.specs.Deciding.{taken_from, is_code, same_answer, refuses, may_give, may_fail, are_stale, may_work, has_lock, ran_given, ran, may_run, may_snapshot, is_live, may_lock, is_done, may_answer, crosses, may_asked, may_pending, tells}
use Rattle.backend_trait.proofs.Telling.{Tells, both_told, either_told, told_as, itself, never, is_false}
use Rattle.plain_store.proofs.PlaceLaws.{one_told, none_told}
use Rattle.plain_store.proofs.HeldLaws.{free_told}
use Rattle.plain_store.proofs.SessionLaws.{phase_same}
use Rattle.plain_store.proofs.CrossLaws.{lock_same, crosses_told}

pub code_told : (code : Code) (bytes : List ℕ) → Tells (is_code bytes code) (code.bytes ≡ bytes)
code_told code bytes = bytes_decides code.bytes bytes

-- equal rows, and equal answers to statements

value_told : (x y : Value) → Tells ((value_eq.ghosts).eq x y) (x ≡ y)
value_told values.Null values.Null = (λ e. refl, λ e. refl)
value_told (values.Bool true) (values.Bool true) = (λ e. refl, λ e. refl)
value_told (values.Bool false) (values.Bool false) = (λ e. refl, λ e. refl)
value_told (values.Int4 a) (values.Int4 b) = (λ e. ap values.Int4 ((signed_Decides a b).0 e), λ e. (signed_Decides a b).1 (let same : a ≡ b = cc in same))
value_told (values.Int8 a) (values.Int8 b) = (λ e. ap values.Int8 ((signed_Decides a b).0 e), λ e. (signed_Decides a b).1 (let same : a ≡ b = cc in same))
value_told (values.Text a) (values.Text b) = (λ e. ap values.Text ((bytes_decides a b).0 e), λ e. (bytes_decides a b).1 (let same : a ≡ b = cc in same))
value_told (values.Moment a) (values.Moment b) = (λ e. ap values.Moment ((signed_Decides a b).0 e), λ e. (signed_Decides a b).1 (let same : a ≡ b = cc in same))
value_told x y = (λ e. absurd (cc), λ e. absurd (cc))

same_row : (x y : Row) → x.cells ≡ y.cells → x ≡ y
same_row x y e = λ i. record { cells = e i }

row_told : (x y : Row) → Tells ((row_eq.ghosts).eq x y) (x ≡ y)
row_told x y = (
  λ e. same_row x y ((pointwise_decides value_told x.cells y.cells).0 e),
  λ e. (pointwise_decides value_told x.cells y.cells).1 (ap (λ (r : Row). r.cells) e),
)

rows_told : (given : Answer) (rows : List Row) → Tells (same_answer given (answers.Rows rows)) (answers.Rows rows ≡ given)
rows_told answers.Began rows = (λ e. absurd (cc), λ e. absurd (cc))
rows_told (answers.Rows a) rows =
    (λ e. ap answers.Rows (sym ((pointwise_decides row_told a rows).0 e)), λ e. (pointwise_decides row_told a rows).1 (let same : rows ≡ a = cc in sym same))
rows_told (answers.Count n) rows = (λ e. absurd (cc), λ e. absurd (cc))
rows_told answers.Locked rows = (λ e. absurd (cc), λ e. absurd (cc))
rows_told answers.Done rows = (λ e. absurd (cc), λ e. absurd (cc))
rows_told (answers.Serial n) rows = (λ e. absurd (cc), λ e. absurd (cc))
rows_told (answers.Refused code) rows = (λ e. absurd (cc), λ e. absurd (cc))

count_told : (given : Answer) (n : ℕ) → Tells (same_answer given (answers.Count n)) (answers.Count n ≡ given)
count_told answers.Began n = (λ e. absurd (cc), λ e. absurd (cc))
count_told (answers.Rows rows) n = (λ e. absurd (cc), λ e. absurd (cc))
count_told (answers.Count m) n = (λ e. ap answers.Count (sym (eqb-true m n e)), λ e. eq-eqb m n (let same : n ≡ m = cc in sym same))
count_told answers.Locked n = (λ e. absurd (cc), λ e. absurd (cc))
count_told answers.Done n = (λ e. absurd (cc), λ e. absurd (cc))
count_told (answers.Serial m) n = (λ e. absurd (cc), λ e. absurd (cc))
count_told (answers.Refused code) n = (λ e. absurd (cc), λ e. absurd (cc))

-- stale places, and fresh ones
pub fresh_told : (work : Work) (places : List Place) → Tells (not (are_stale work places)) (IsFresh (these_places places) (live_of work))
fresh_told work places = none_told (has_changed work.stale.items) places

stale_told : (work : Work) (places : List Place) → Tells (are_stale work places) (IsStale (these_places places) (live_of work))
stale_told work places = one_told (has_changed work.stale.items) places

-- a deadlock: crossed, and the lock of the table is not held
dead_told : (work : Work) (table : Option ℕ) (crossed : Bool) (Crossed : Type 0) → Tells crossed Crossed
    → Tells (crossed && not (has_lock (phases.Alive work) table)) (Crossed × (has_lock_of (live_of work).held table ≡ false))
dead_told work table crossed Crossed told =
    let same = lock_same (Some (phases.Alive work)) table in
    both_told crossed (not (has_lock (phases.Alive work) table)) Crossed (has_lock_of (live_of work).held table ≡ false) told
    (told_as _ _ _ (is_false (has_lock (phases.Alive work) table)) (λ e. same ∙ e) (λ e. sym same ∙ e))

-- the answer to a run

module _ (d : Database) (s : ℕ) (crossed : Bool) (Crossed : Type 0) (told : Tells crossed Crossed) where
  abbrev here : Store
  here = store_of d

  abbrev seen : States
  seen = states_in d

  abbrev x_here : Option Phase
  x_here = slice_get d.phases.items s

  -- what a live transaction may be answered, by what its statement gives
  abbrev MayOf : Live → Option ℕ → Given → Answer → Type 0
  MayOf t table given answers.Began = ⊥
  MayOf t table given (answers.Rows rows) = MayGive here s t (answers.Rows rows) given
  MayOf t table given (answers.Count n) = MayGive here s t (answers.Count n) given
  MayOf t table given answers.Locked = ⊥
  MayOf t table given answers.Done = ⊥
  MayOf t table given (answers.Serial n) = ⊥
  MayOf t table given (answers.Refused code) = MayRefuse Crossed t table code given

  fails : (t : Live) (table : Option ℕ) (bytes : List ℕ) (answer : Answer) → Tells (may_fail bytes answer) (MayOf t table (Fails bytes) answer)
  fails t table bytes answers.Began = never _ (λ h. h)
  fails t table bytes (answers.Rows rows) = never _ (λ h. h)
  fails t table bytes (answers.Count n) = never _ (λ h. h)
  fails t table bytes answers.Locked = never _ (λ h. h)
  fails t table bytes answers.Done = never _ (λ h. h)
  fails t table bytes (answers.Serial n) = never _ (λ h. h)
  fails t table bytes (answers.Refused code) = either_told _ _ _ _ (code_told code bytes) (code_told code (codes "53200"))

  -- fresh places that nobody else holds
  open_told : (work : Work) (places : List Place)
      → Tells (not (are_stale work places) && not (taken_from 0 s (Places places) d.phases.items)) (IsFresh (these_places places) (live_of work) × IsFree here s (these_places places))
  open_told work places = both_told _ _ _ _ (fresh_told work places) (free_told s (Places places) d.phases.items)

  gives : (work : Work) (table : Option ℕ) (result : Answer) (changes : Changes) (places : List Place) (answer : Answer)
      → Tells (may_give result (are_stale work places) (taken_from 0 s (Places places) d.phases.items) (crossed && not (has_lock (phases.Alive work) table)) answer)
      (MayOf (live_of work) table (Gives result changes places) answer)
  gives work table result changes places answers.Began = never _ (λ h. h)
  gives work table result changes places (answers.Rows rows) =
      told_as _ _ _ (both_told _ _ _ _ (rows_told result rows) (open_told work places)) (λ h. (h.0, h.1.0, h.1.1)) (λ h. (h.0, (h.1, h.2)))
  gives work table result changes places (answers.Count n) =
      told_as _ _ _ (both_told _ _ _ _ (count_told result n) (open_told work places)) (λ h. (h.0, h.1.0, h.1.1)) (λ h. (h.0, (h.1, h.2)))
  gives work table result changes places answers.Locked = never _ (λ h. h)
  gives work table result changes places answers.Done = never _ (λ h. h)
  gives work table result changes places (answers.Serial n) = never _ (λ h. h)
  gives work table result changes places (answers.Refused code) =
      either_told _ _ _ _
      (both_told _ _ _ _ (code_told code (codes "40001")) (stale_told work places))
      (either_told _ _ _ _
      (told_as _ _ _ (both_told _ _ _ _ (code_told code (codes "40P01")) (dead_told work table crossed Crossed told)) (λ h. (h.0, h.1.0, h.1.1)) (λ h. (h.0, (h.1, h.2))))
      (code_told code (codes "53200")))

  works : (work : Work) (table : Option ℕ) (given : Given) (answer : Answer)
      → Tells (may_work seen s (crossed && not (has_lock (phases.Alive work) table)) work given answer) (MayOf (live_of work) table given answer)
  works work table (Fails bytes) answer = fails (live_of work) table bytes answer
  works work table (Gives result changes places) answer = gives work table result changes places answer

  -- what the table of answers says of a run, where that is the transaction
  abbrev RunIn : Checked → Answer → Transaction → Type 0
  RunIn checked answers.Began x = ⊥
  RunIn checked (answers.Rows rows) x = WhereLive x (λ t. MayGive here s t (answers.Rows rows) (given_of here checked t))
  RunIn checked (answers.Count n) x = WhereLive x (λ t. MayGive here s t (answers.Count n) (given_of here checked t))
  RunIn checked answers.Locked x = ⊥
  RunIn checked answers.Done x = ⊥
  RunIn checked (answers.Serial n) x = ⊥
  RunIn checked (answers.Refused code) x = WhereLive x (λ t. MayRefuse Crossed t (table_in checked) code (given_of here checked t))

  none_runs : (checked : Checked) (answer : Answer) → RunIn checked answer Absent → ⊥
  none_runs checked answers.Began h = h
  none_runs checked (answers.Rows rows) h = h
  none_runs checked (answers.Count n) h = h
  none_runs checked answers.Locked h = h
  none_runs checked answers.Done h = h
  none_runs checked (answers.Serial n) h = h
  none_runs checked (answers.Refused code) h = h

  dead_runs : (checked : Checked) (answer : Answer) → RunIn checked answer Dead → ⊥
  dead_runs checked answers.Began h = h
  dead_runs checked (answers.Rows rows) h = h
  dead_runs checked (answers.Count n) h = h
  dead_runs checked answers.Locked h = h
  dead_runs checked answers.Done h = h
  dead_runs checked (answers.Serial n) h = h
  dead_runs checked (answers.Refused code) h = h

  live_runs : (checked : Checked) (work : Work) (answer : Answer)
      → Tells (may_work seen s (crossed && not (has_lock (phases.Alive work) (table_in checked))) work (given_of here checked (live_of work)) answer) (RunIn checked answer (Alive (live_of work)))
  live_runs checked work answers.Began = works work (table_in checked) (given_of here checked (live_of work)) answers.Began
  live_runs checked work (answers.Rows rows) = works work (table_in checked) (given_of here checked (live_of work)) (answers.Rows rows)
  live_runs checked work (answers.Count n) = works work (table_in checked) (given_of here checked (live_of work)) (answers.Count n)
  live_runs checked work answers.Locked = works work (table_in checked) (given_of here checked (live_of work)) answers.Locked
  live_runs checked work answers.Done = works work (table_in checked) (given_of here checked (live_of work)) answers.Done
  live_runs checked work (answers.Serial n) = works work (table_in checked) (given_of here checked (live_of work)) (answers.Serial n)
  live_runs checked work (answers.Refused code) = works work (table_in checked) (given_of here checked (live_of work)) (answers.Refused code)

  runs_in : (checked : Checked) (answer : Answer) (x : Option Phase)
      → Tells (ran seen s (crossed && not (has_lock (phase_in x) (table_in checked))) (phase_in x) (given_run here checked (transaction_in x)) answer) (RunIn checked answer (transaction_in x))
  runs_in checked answer None = never _ (none_runs checked answer)
  runs_in checked answer (Some phases.Absent) = never _ (none_runs checked answer)
  runs_in checked answer (Some (phases.Alive work)) = live_runs checked work answer
  runs_in checked answer (Some phases.Dead) = never _ (dead_runs checked answer)

  run_same : (checked : Checked) (answer : Answer) → RunIn checked answer (transaction_in x_here) ≡ MayRun here s Crossed checked answer
  run_same checked answers.Began = refl
  run_same checked (answers.Rows rows) = refl
  run_same checked (answers.Count n) = refl
  run_same checked answers.Locked = refl
  run_same checked answers.Done = refl
  run_same checked (answers.Serial n) = refl
  run_same checked (answers.Refused code) = refl

  run_told : (checked : Checked) (answer : Answer) → request_at (slice_get d.requests.items s) ≡ Some (requests.Run checked)
      → Tells (may_run seen s crossed (table_in checked) answer) (MayRun here s Crossed checked answer)
  run_told checked answer waits =
      let given : given_run here checked (transaction_in x_here) ≡ seen.given s = sym (ap (given_by here (transaction_in x_here)) waits) in
      let at : Tells (may_run seen s crossed (table_in checked) answer) (RunIn checked answer (transaction_in x_here)) =
      subst (λ (g : Option Given). Tells (ran seen s (crossed && not (has_lock (phase_in x_here) (table_in checked))) (phase_in x_here) g answer) (RunIn checked answer (transaction_in x_here))) given
      (runs_in checked answer x_here) in
      told_as _ _ _ at (λ h. subst (λ (X : Type 0). X) (run_same checked answer) h) (λ h. subst (λ (X : Type 0). X) (sym (run_same checked answer)) h)

  -- the other requests
  live_told : (P : Type 0) (t : Bool) → Tells t P → (x : Option Phase) → Tells (is_live (phase_in x) && t) (WhereLive (transaction_in x) (λ u. P))
  live_told P t f None = never _ (λ h. h)
  live_told P t f (Some phases.Absent) = never _ (λ h. h)
  live_told P t f (Some (phases.Alive work)) = f
  live_told P t f (Some phases.Dead) = never _ (λ h. h)

  lock_told : (table : ℕ) (answer : Answer) → Tells (may_lock (is_live (phase_at seen s)) (taken_from 0 s (Lock table) d.phases.items) crossed answer) (MayLock here s Crossed table answer)
  lock_told table answers.Began = never _ (λ h. h)
  lock_told table (answers.Rows rows) = never _ (λ h. h)
  lock_told table (answers.Count n) = never _ (λ h. h)
  lock_told table answers.Locked = live_told (IsFree here s (table_lock table)) _ (free_told s (Lock table) d.phases.items) x_here
  lock_told table answers.Done = never _ (λ h. h)
  lock_told table (answers.Serial n) = never _ (λ h. h)
  lock_told table (answers.Refused code) = both_told _ _ _ _ (code_told code (codes "40P01")) told

snapshot_told : (answer : Answer) → Tells (may_snapshot answer) (MaySnapshot answer)
snapshot_told answers.Began = (λ e. tt, λ h. refl)
snapshot_told (answers.Rows rows) = never _ (λ h. h)
snapshot_told (answers.Count n) = never _ (λ h. h)
snapshot_told answers.Locked = never _ (λ h. h)
snapshot_told answers.Done = never _ (λ h. h)
snapshot_told (answers.Serial n) = never _ (λ h. h)
snapshot_told (answers.Refused code) = code_told code (codes "53200")

done_told : (answer : Answer) → Tells (is_done answer) (IsDone answer)
done_told answers.Began = (λ e. absurd (cc), λ h. absurd (cc))
done_told (answers.Rows rows) = (λ e. absurd (cc), λ h. absurd (cc))
done_told (answers.Count n) = (λ e. absurd (cc), λ h. absurd (cc))
done_told answers.Locked = (λ e. absurd (cc), λ h. absurd (cc))
done_told answers.Done = (λ e. refl, λ h. refl)
done_told (answers.Serial n) = (λ e. absurd (cc), λ h. absurd (cc))
done_told (answers.Refused code) = (λ e. absurd (cc), λ h. absurd (cc))

-- the next number
serial_told : (answer : Answer) (n : ℤ) → Tells (same_answer answer (answers.Serial n)) (answer ≡ answers.Serial n)
serial_told answers.Began n = (λ e. absurd (cc), λ e. absurd (cc))
serial_told (answers.Rows rows) n = (λ e. absurd (cc), λ e. absurd (cc))
serial_told (answers.Count m) n = (λ e. absurd (cc), λ e. absurd (cc))
serial_told answers.Locked n = (λ e. absurd (cc), λ e. absurd (cc))
serial_told answers.Done n = (λ e. absurd (cc), λ e. absurd (cc))
serial_told (answers.Serial m) n = (λ e. ap answers.Serial ((signed_Decides m n).0 e), λ e. (signed_Decides m n).1 (let same : m ≡ n = cc in same))
serial_told (answers.Refused code) n = (λ e. absurd (cc), λ e. absurd (cc))

abbrev IsNext : Option ℤ → Answer → Type 0
IsNext next answer = (n : ℤ) × (next ≡ Some n) × (answer ≡ answers.Serial n)

no_next : (answer : Answer) → IsNext None answer → ⊥
no_next answer (n, is, serial) = cc

next_is : (m : ℤ) (answer : Answer) → IsNext (Some m) answer → answer ≡ answers.Serial m
next_is m answer (n, is, serial) = let same : n ≡ m = cc in serial ∙ ap answers.Serial same

next_told : (next : Option ℤ) (answer : Answer) → Tells (tells next answer) (IsNext next answer)
next_told None answer = never _ (no_next answer)
next_told (Some m) answer = (λ e. (m, refl, (serial_told answer m).0 e), λ h. (serial_told answer m).1 (next_is m answer h))

module _ (d : Database) (s : ℕ) where
  abbrev there : Store
  there = store_of d

  abbrev states : States
  states = states_in d

  abbrev waiting : Request → Bool → Pending
  waiting request mark = record { request = request; crossed = mark }

  abbrev WaitsHere : Option Request → Type 0
  WaitsHere waits = request_at (slice_get d.requests.items s) ≡ waits

  mark_told : (request : Request) (mark : Bool) → WaitsHere (Some request) → Tells (mark || crosses states s request) (IsCrossed there s (waiting request mark))
  mark_told request mark waits = either_told _ _ _ _ (itself mark) (crosses_told d s request waits)

  answer_told : (request : Request) (mark : Bool) (answer : Answer) → WaitsHere (Some request)
      → Tells (may_answer states s (mark || crosses states s request) request answer) (MayAnswer there s (waiting request mark) answer)
  answer_told requests.TakeSnapshot mark answer waits = snapshot_told answer
  answer_told (requests.Run checked) mark answer waits =
      run_told d s (mark || crosses states s (requests.Run checked)) (IsCrossed there s (waiting (requests.Run checked) mark)) (mark_told (requests.Run checked) mark waits) checked answer waits
  answer_told (requests.Lock table) mark answer waits =
      lock_told d s (mark || crosses states s (requests.Lock table)) (IsCrossed there s (waiting (requests.Lock table) mark)) (mark_told (requests.Lock table) mark waits) table answer
  answer_told requests.Commit mark answer waits = live_told d s false ⊥ (never ⊥ (λ h. h)) (IsDone answer) (is_done answer) (done_told answer) (slice_get d.phases.items s)
  answer_told requests.Rollback mark answer waits = done_told answer
  answer_told (requests.ReadSerial table) mark answer waits = next_told (next_of d.numbers table) answer
  answer_told (requests.SetSerial table n) mark answer waits = done_told answer

  asked_told : (waits : Option Request) (mark : Bool) (answer : Answer) → WaitsHere waits → Tells (may_asked states s mark waits answer) (WhereSome (pending_of waits mark) (λ p. MayAnswer there s p answer))
  asked_told None mark answer is = never _ (λ h. h)
  asked_told (Some request) mark answer is = answer_told request mark answer is

  pub act_told : (answer : Answer) → d.is_lost ≡ false → Tells (may_pending states s (mark_in (slice_get d.crossed.items s)) answer) (MayAct there s answer)
  act_told answer open_still =
      let told = asked_told (request_at (slice_get d.requests.items s)) (mark_in (slice_get d.crossed.items s)) answer refl in
      (λ e. (open_still, told.0 e), λ h. told.1 h.1)

-- a lost store answers nothing
pub lost_told : (d : Database) (s : ℕ) (answer : Answer) → d.is_lost ≡ true → Tells false (MayAct (store_of d) s answer)
lost_told d s answer lost = never _ (λ h. let f : false ≡ true = sym h.0 ∙ lost in cc)

-- with the sessions as the program has them
pub act_as : (d : Database) (s : ℕ) (answer : Answer) (all : States) (mark may : Bool) → d.is_lost ≡ false → all ≡ states_in d → slice_get d.crossed.items s ≡ Some mark → may ≡ may_pending all s mark answer
    → Tells may (MayAct (store_of d) s answer)
act_as d s answer all mark may open_still same mark_is is =
    subst (λ (t : Bool). Tells t (MayAct (store_of d) s answer))
    (sym (is ∙ (ap (λ (a : States). may_pending a s mark answer) same ∙ ap (λ (x : Option Bool). may_pending (states_in d) s (mark_in x) answer) (sym mark_is))))
    (act_told d s answer open_still)
