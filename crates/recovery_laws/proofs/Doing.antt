-- What deeds leave in the single run: what transactions have changed, what waits, and the rows.
use Rattle.std.proofs.Common.{◌≡◌, ◌≢◌, ℕ, zero, suc, Bool, true, false, ◌||◌, List, [], ◌∷◌, refl, sym, ap, ◌∙◌, subst, inl, inr}
use Rattle.std.specs.Prelude.{is_some, if◌then◌else◌, not, ◌&&◌, ◌==◌, Option, Some, None}
use Rattle.std.specs.FinMap as fin
use Rattle.std.proofs.lemmas.Bool.Decides.{eqb_tells}
use Rattle.pool_base.specs.declared.code.Code.{Code}
use Rattle.schema.specs.declared.catalogue.TableDef.{TableDef}
use Rattle.backend_trait.specs.declared.request.Request.{Request}
use Rattle.backend_trait.specs.declared.request.Request.TheVariants as requests
use Rattle.backend_trait.specs.declared.answer.Answer.{Answer}
use Rattle.backend_trait.specs.declared.answer.Answer.TheVariants as answers
use Rattle.backend_trait.specs.Keys.{Place, place_order}
use Rattle.backend_trait.specs.Rows.{Changes, no_changes, with_at}
use Rattle.backend_trait.specs.Effect.{both_wants}
use Rattle.backend_trait.proofs.RowLaws.{row_over, get-laid_over}
use Rattle.sql_eval.specs.declared.row.Row.{Row}
use Rattle.backend_trait.specs.Store.{Live, Transaction, Absent, Alive, Dead, Pending, Store, begun, posted, where_live, made_stale, table_lock, committed_by, answered, refused, is_refusal}
use Rattle.backend_trait.specs.Acting.{acted_by, died}
use Rattle.session_machine.specs.declared.work.Work.{Work}
use Rattle.session_machine.specs.declared.machine.Stage.{Stage}
use Rattle.session_machine.specs.declared.machine.Stage.TheVariants.{Inserting}
use Rattle.session_machine.specs.Rules.{is_run}
use Rattle.one_copy_model.specs.declared.deed.Deed.{Deed}
use Rattle.one_copy_model.specs.declared.deed.Deed.TheVariants.{Asks, Gets, Falls}
use Rattle.one_copy_model.specs.declared.deed.Entry.{Entry}
use Rattle.one_copy_model.specs.Marks.{is_crossed, with_mark}
use Rattle.one_copy_model.specs.SingleRun.{after_answer, done_by, store_after, IsRun, is_fall, amended, amended_at}
use Rattle.one_copy_model.specs.World.{World}
use Rattle.one_copy_model.specs.Deaths.{is_live, is_alive, stage_at, code_of_lowest, death_of, death_in, recorded, fell, fallen}
use Rattle.one_copy_model.specs.Tracking.{with_code}
use Rattle.one_copy_model.specs.Standing.{asks_commit}
use Rattle.session_machine.specs.Answers.{lowest}
use Rattle.one_copy_model.proofs.Places.{same_or_other, with_at-same, with_at-other}
use Rattle.one_copy_model.proofs.Deeds.{entry, gets_is, asked_waits}
use Rattle.one_copy_model.proofs.Livings.{and_true}
use Rattle.recovery_laws.specs.Masks.{IsWithin}

-- Changes within a mask.

pub alive_is : (a b : Live) → Alive a ≡ Alive b → a ≡ b
alive_is a b e = cc

pub within_absent : (mask : ℕ) → IsWithin mask Absent
within_absent mask u q e some = absurd (let z : Absent ≡ Alive u = e in cc)

pub within_dead : (mask : ℕ) → IsWithin mask Dead
within_dead mask u q e some = absurd (let z : Dead ≡ Alive u = e in cc)

-- who has changed the same, and who has changed nothing
pub within_alike : (mask : ℕ) (k l : Live) → l.changes ≡ k.changes → IsWithin mask (Alive k) → IsWithin mask (Alive l)
within_alike mask k l same h u q e some =
    h k q refl (ap (λ (c : Changes). is_some (fin.get c q)) (sym same ∙ ap (λ (x : Live). x.changes) (alive_is l u e)) ∙ some)

pub within_empty : (mask : ℕ) (l : Live) → l.changes ≡ no_changes → IsWithin mask (Alive l)
within_empty mask l none u q e some =
    absurd (let z : false ≡ true = sym (ap is_some (fin.get-empty place_order q)) ∙ ap (λ (c : Changes). is_some (fin.get c q)) (sym none ∙ ap (λ (x : Live). x.changes) (alive_is l u e)) ∙ some in cc)

stale_within : (mask : ℕ) (changes : Changes) (x : Transaction) → IsWithin mask x → IsWithin mask (where_live (made_stale changes) x)
stale_within mask changes Absent h = h
stale_within mask changes (Alive k) h = within_alike mask k (made_stale changes k) refl h
stale_within mask changes Dead h = h

-- Of another session a deed changes nothing.

module _ (mask s o : ℕ) (other : o ≢ s) where
  at_other : (f : ℕ → Transaction) (x : Transaction) → IsWithin mask (f o) → IsWithin mask (with_at f s x o)
  at_other f x h = subst (IsWithin mask) (sym (with_at-other f s x o other)) h

  committed_other : (st : Store) (x : Transaction) → IsWithin mask (st.transaction o) → IsWithin mask ((committed_by st s x).transaction o)
  committed_other st Absent h = at_other st.transaction Absent h
  committed_other st (Alive k) h = at_other (λ j. where_live (made_stale k.changes) (st.transaction j)) Absent (stale_within mask k.changes (st.transaction o) h)
  committed_other st Dead h = at_other st.transaction Absent h

  answered_other : (st : Store) (request : Request) → IsWithin mask (st.transaction o) → IsWithin mask ((answered st s request).transaction o)
  answered_other st requests.TakeSnapshot h = at_other st.transaction _ h
  answered_other st (requests.Run checked) h = at_other st.transaction _ h
  answered_other st (requests.Lock table) h = at_other st.transaction _ h
  answered_other st requests.Commit h = committed_other st (st.transaction s) h
  answered_other st requests.Rollback h = at_other st.transaction _ h
  answered_other st (requests.ReadSerial table) h = at_other st.transaction _ h
  answered_other st (requests.SetSerial table n) h = at_other st.transaction _ h

  either_other : (refuses : Bool) (st : Store) (request : Request) → IsWithin mask (st.transaction o)
      → IsWithin mask ((if refuses then refused st s request else answered st s request).transaction o)
  either_other true st request h = at_other st.transaction Dead h
  either_other false st request h = answered_other st request h

  acted_other : (st : Store) (answer : Answer) (waits : Option Pending) → IsWithin mask (st.transaction o) → IsWithin mask ((acted_by st s answer waits).transaction o)
  acted_other st answer None h = h
  acted_other st answer (Some p) h = either_other (is_refusal answer) st p.request h

  pub deed_other : (st : Store) (deed : Deed) → IsWithin mask (st.transaction o) → IsWithin mask ((done_by st s deed).transaction o)
  deed_other st (Asks request) h = h
  deed_other st (Gets answer) h = acted_other st answer (st.pending s) h
  deed_other st (Falls code) h = at_other st.transaction Absent h

  pub recorded_other : (tables : List TableDef) (deeds : List Deed) (h : List Entry) → IsWithin mask ((store_after tables h).transaction o)
      → IsWithin mask ((store_after tables (recorded s deeds h)).transaction o)
  recorded_other tables [] h w = w
  recorded_other tables (deed ∷ deeds) h w = recorded_other tables deeds (entry s deed ∷ h) (deed_other (store_after tables h) deed w)

-- What waits is of a kind.

abbrev pub OnlyAsks : (Request → Type 0) → Option Pending → Type 0
OnlyAsks P waits = (q : Pending) → waits ≡ Some q → P q.request

pub some_is : (a b : Pending) → Some a ≡ Some b → a ≡ b
some_is a b e = cc

pub only_none : (P : Request → Type 0) (waits : Option Pending) → waits ≡ None → OnlyAsks P waits
only_none P waits none q e = absurd (let z : None ≡ Some q = sym none ∙ e in cc)

pub only_one : (P : Request → Type 0) (p : Pending) → P p.request → OnlyAsks P (Some p)
only_one P p h q e = subst P (ap (λ (x : Pending). x.request) (some_is p q e)) h

marked_only : (P : Request → Type 0) (st : Store) (o : ℕ) (waits : Option Pending) → OnlyAsks P waits → OnlyAsks P (with_mark st o waits)
marked_only P st o None h = h
marked_only P st o (Some p) h = only_one P (record { request = p.request; crossed = p.crossed || is_crossed st o p.request }) (h p refl)

-- behind its answer and its death a session asks nothing
committed_clear : (st : Store) (s : ℕ) (x : Transaction) → (committed_by st s x).pending s ≡ None
committed_clear st s Absent = with_at-same st.pending s None
committed_clear st s (Alive k) = with_at-same st.pending s None
committed_clear st s Dead = with_at-same st.pending s None

answered_clear : (st : Store) (s : ℕ) (request : Request) → (answered st s request).pending s ≡ None
answered_clear st s requests.TakeSnapshot = with_at-same st.pending s None
answered_clear st s (requests.Run checked) = with_at-same st.pending s None
answered_clear st s (requests.Lock table) = with_at-same st.pending s None
answered_clear st s requests.Commit = committed_clear st s (st.transaction s)
answered_clear st s requests.Rollback = with_at-same st.pending s None
answered_clear st s (requests.ReadSerial table) = with_at-same st.pending s None
answered_clear st s (requests.SetSerial table n) = with_at-same st.pending s None

either_clear : (refuses : Bool) (st : Store) (s : ℕ) (request : Request) → (if refuses then refused st s request else answered st s request).pending s ≡ None
either_clear true st s request = with_at-same st.pending s None
either_clear false st s request = answered_clear st s request

acted_clear : (st : Store) (s : ℕ) (answer : Answer) (waits : Option Pending) → st.pending s ≡ waits → (acted_by st s answer waits).pending s ≡ None
acted_clear st s answer None e = e
acted_clear st s answer (Some p) e = either_clear (is_refusal answer) st s p.request

pub gets_clear : (st : Store) (s : ℕ) (answer : Answer) → (done_by st s (Gets answer)).pending s ≡ None
gets_clear st s answer = ap (with_mark (after_answer st s answer) s) (acted_clear st s answer (st.pending s) refl)

pub falls_clear : (st : Store) (s : ℕ) (code : Option Code) → (done_by st s (Falls code)).pending s ≡ None
falls_clear st s code = ap (with_mark (died st s) s) (with_at-same st.pending s None)

-- and of another a deed sets marks alone
module _ (P : Request → Type 0) (s o : ℕ) (other : o ≢ s) where
  pending_other : (f : ℕ → Option Pending) (x : Option Pending) → OnlyAsks P (f o) → OnlyAsks P (with_at f s x o)
  pending_other f x h = subst (OnlyAsks P) (sym (with_at-other f s x o other)) h

  committed_only : (st : Store) (x : Transaction) → OnlyAsks P (st.pending o) → OnlyAsks P ((committed_by st s x).pending o)
  committed_only st Absent h = pending_other st.pending None h
  committed_only st (Alive k) h = pending_other st.pending None h
  committed_only st Dead h = pending_other st.pending None h

  answered_only : (st : Store) (request : Request) → OnlyAsks P (st.pending o) → OnlyAsks P ((answered st s request).pending o)
  answered_only st requests.TakeSnapshot h = pending_other st.pending None h
  answered_only st (requests.Run checked) h = pending_other st.pending None h
  answered_only st (requests.Lock table) h = pending_other st.pending None h
  answered_only st requests.Commit h = committed_only st (st.transaction s) h
  answered_only st requests.Rollback h = pending_other st.pending None h
  answered_only st (requests.ReadSerial table) h = pending_other st.pending None h
  answered_only st (requests.SetSerial table n) h = pending_other st.pending None h

  either_only : (refuses : Bool) (st : Store) (request : Request) → OnlyAsks P (st.pending o)
      → OnlyAsks P ((if refuses then refused st s request else answered st s request).pending o)
  either_only true st request h = pending_other st.pending None h
  either_only false st request h = answered_only st request h

  acted_only : (st : Store) (answer : Answer) (waits : Option Pending) → OnlyAsks P (st.pending o) → OnlyAsks P ((acted_by st s answer waits).pending o)
  acted_only st answer None h = h
  acted_only st answer (Some p) h = either_only (is_refusal answer) st p.request h

  pub deed_only : (st : Store) (deed : Deed) → OnlyAsks P (st.pending o) → OnlyAsks P ((done_by st s deed).pending o)
  deed_only st (Asks request) h =
      marked_only P (posted st s request) o ((posted st s request).pending o) (pending_other st.pending (Some (record { request = request; crossed = false })) h)
  deed_only st (Gets answer) h =
      marked_only P (after_answer st s answer) o ((after_answer st s answer).pending o) (acted_only st answer (st.pending s) h)
  deed_only st (Falls code) h = marked_only P (died st s) o ((died st s).pending o) (pending_other st.pending None h)

  pub recorded_only : (tables : List TableDef) (deeds : List Deed) (h : List Entry) → OnlyAsks P ((store_after tables h).pending o)
      → OnlyAsks P ((store_after tables (recorded s deeds h)).pending o)
  recorded_only tables [] h w = w
  recorded_only tables (deed ∷ deeds) h w = recorded_only tables deeds (entry s deed ∷ h) (deed_only (store_after tables h) deed w)

-- what is asked waits
pub asked_only : (P : Request → Type 0) (st : Store) (s : ℕ) (request : Request) → P request → OnlyAsks P ((done_by st s (Asks request)).pending s)
asked_only P st s request h =
    marked_only P (posted st s request) s ((posted st s request).pending s)
    (subst (OnlyAsks P) (sym (with_at-same st.pending s (Some (record { request = request; crossed = false })))) (only_one P (record { request = request; crossed = false }) h))

-- Of the session itself an answer adds no changes, but one to a run.

abbrev pub IsNoRun : Request → Type 0
IsNoRun request = is_run request ≡ false

locks_within : (mask : ℕ) (f : Live → Live) → ((k : Live) → (f k).changes ≡ k.changes) → (x : Transaction) → IsWithin mask x → IsWithin mask (where_live f x)
locks_within mask f same Absent h = h
locks_within mask f same (Alive k) h = within_alike mask k (f k) (same k) h
locks_within mask f same Dead h = h

module _ (mask : ℕ) (st : Store) (s : ℕ) where
  at_own : (f : ℕ → Transaction) (x : Transaction) → IsWithin mask x → IsWithin mask (with_at f s x s)
  at_own f x h = subst (IsWithin mask) (sym (with_at-same f s x)) h

  committed_own : (x : Transaction) → IsWithin mask ((committed_by st s x).transaction s)
  committed_own Absent = at_own st.transaction Absent (within_absent mask)
  committed_own (Alive k) = at_own (λ j. where_live (made_stale k.changes) (st.transaction j)) Absent (within_absent mask)
  committed_own Dead = at_own st.transaction Absent (within_absent mask)

  answered_own : (request : Request) → IsNoRun request → IsWithin mask (st.transaction s) → IsWithin mask ((answered st s request).transaction s)
  answered_own requests.TakeSnapshot e h = at_own st.transaction (Alive (begun st.rows)) (within_empty mask (begun st.rows) refl)
  answered_own (requests.Run checked) e h = absurd (let z : true ≡ false = e in cc)
  answered_own (requests.Lock table) e h =
      at_own st.transaction (where_live (λ t. record t { held = both_wants (table_lock table) t.held }) (st.transaction s))
      (locks_within mask (λ t. record t { held = both_wants (table_lock table) t.held }) (λ k. refl) (st.transaction s) h)
  answered_own requests.Commit e h = committed_own (st.transaction s)
  answered_own requests.Rollback e h = at_own st.transaction Absent (within_absent mask)
  answered_own (requests.ReadSerial table) e h = at_own st.transaction (st.transaction s) h
  answered_own (requests.SetSerial table n) e h = at_own st.transaction (st.transaction s) h

  either_own : (refuses : Bool) (request : Request) → IsNoRun request → IsWithin mask (st.transaction s)
      → IsWithin mask ((if refuses then refused st s request else answered st s request).transaction s)
  either_own true request e h = at_own st.transaction Dead (within_dead mask)
  either_own false request e h = answered_own request e h

  acted_own : (answer : Answer) (waits : Option Pending) → OnlyAsks IsNoRun waits → IsWithin mask (st.transaction s) → IsWithin mask ((acted_by st s answer waits).transaction s)
  acted_own answer None only h = h
  acted_own answer (Some p) only h = either_own (is_refusal answer) p.request (only p refl) h

  pub plain_within : (answer : Answer) → OnlyAsks IsNoRun (st.pending s) → IsWithin mask (st.transaction s) → IsWithin mask ((done_by st s (Gets answer)).transaction s)
  plain_within answer only h = acted_own answer (st.pending s) only h

  pub falls_within : (code : Option Code) → IsWithin mask ((done_by st s (Falls code)).transaction s)
  falls_within code = at_own st.transaction Absent (within_absent mask)

-- behind a COMMIT and a ROLLBACK it has no transaction, so any mask will do
abbrev IsEnding : Request → Type 0
IsEnding requests.Commit = Unit {0}
IsEnding requests.Rollback = Unit {0}
IsEnding request = ⊥

ending_within : (mask : ℕ) (st : Store) (s : ℕ) (request : Request) → IsEnding request → IsWithin mask ((answered st s request).transaction s)
ending_within mask st s requests.Commit e = committed_own mask st s (st.transaction s)
ending_within mask st s requests.Rollback e = at_own mask st s st.transaction Absent (within_absent mask)
ending_within mask st s request e = absurd e

ends_by : (mask : ℕ) (st : Store) (s : ℕ) (request : Request) → IsEnding request → IsWithin mask ((done_by (done_by st s (Asks request)) s (Gets answers.Done)).transaction s)
ends_by mask st s request e =
    let mid : Store = done_by st s (Asks request) in
    let its : Pending = record { request = request; crossed = is_crossed (posted st s request) s request } in
    subst (λ (y : Store). IsWithin mask (y.transaction s)) (sym (gets_is mid s answers.Done its (asked_waits st s request))) (ending_within mask mid s request e)

pub commit_within : (mask : ℕ) (st : Store) (s : ℕ) → IsWithin mask ((done_by (done_by st s (Asks requests.Commit)) s (Gets answers.Done)).transaction s)
commit_within mask st s = ends_by mask st s requests.Commit tt

pub rollback_within : (mask : ℕ) (st : Store) (s : ℕ) → IsWithin mask ((done_by (done_by st s (Asks requests.Rollback)) s (Gets answers.Done)).transaction s)
rollback_within mask st s = ends_by mask st s requests.Rollback tt

-- A COMMIT leaves the row of a place that the transaction has not changed.

row_kept : (change : Option (Option Row)) (row : Option Row) → is_some change ≡ false → row_over change row ≡ row
row_kept None row e = refl
row_kept (Some changed) row e = absurd (let z : true ≡ false = e in cc)

committed_row : (st : Store) (s : ℕ) (q : Place) (x : Transaction) → ((u : Live) → x ≡ Alive u → is_some (fin.get u.changes q) ≡ false) → fin.get (committed_by st s x).rows q ≡ fin.get st.rows q
committed_row st s q Absent h = refl
committed_row st s q (Alive k) h = get-laid_over k.changes st.rows q ∙ row_kept (fin.get k.changes q) (fin.get st.rows q) (h k refl)
committed_row st s q Dead h = refl

pub commit_row : (st : Store) (s : ℕ) (q : Place) → ((u : Live) → st.transaction s ≡ Alive u → is_some (fin.get u.changes q) ≡ false)
    → fin.get (done_by (done_by st s (Asks requests.Commit)) s (Gets answers.Done)).rows q ≡ fin.get st.rows q
commit_row st s q h =
    let mid : Store = done_by st s (Asks requests.Commit) in
    let its : Pending = record { request = requests.Commit; crossed = is_crossed (posted st s requests.Commit) s requests.Commit } in
    ap (λ (y : Store). fin.get y.rows q) (gets_is mid s answers.Done its (asked_waits st s requests.Commit)) ∙ committed_row mid s q (st.transaction s) h

-- Where nobody waits for a commit no deed but a COMMIT's changes the rows.

abbrev pub IsNoCommit : Request → Type 0
IsNoCommit request = asks_commit (Asks request) ≡ false

abbrev pub IsCalm : Store → Type 0
IsCalm st = (o : ℕ) → OnlyAsks IsNoCommit (st.pending o)

answered_rows : (st : Store) (s : ℕ) (request : Request) → IsNoCommit request → (answered st s request).rows ≡ st.rows
answered_rows st s requests.TakeSnapshot e = refl
answered_rows st s (requests.Run checked) e = refl
answered_rows st s (requests.Lock table) e = refl
answered_rows st s requests.Commit e = absurd (let z : true ≡ false = e in cc)
answered_rows st s requests.Rollback e = refl
answered_rows st s (requests.ReadSerial table) e = refl
answered_rows st s (requests.SetSerial table n) e = refl

either_rows : (refuses : Bool) (st : Store) (s : ℕ) (request : Request) → IsNoCommit request → (if refuses then refused st s request else answered st s request).rows ≡ st.rows
either_rows true st s request e = refl
either_rows false st s request e = answered_rows st s request e

acted_rows : (st : Store) (s : ℕ) (answer : Answer) (waits : Option Pending) → OnlyAsks IsNoCommit waits → (acted_by st s answer waits).rows ≡ st.rows
acted_rows st s answer None h = refl
acted_rows st s answer (Some p) h = either_rows (is_refusal answer) st s p.request (h p refl)

pub deed_rows : (st : Store) (s : ℕ) (deed : Deed) → IsCalm st → (done_by st s deed).rows ≡ st.rows
deed_rows st s (Asks request) calm = refl
deed_rows st s (Gets answer) calm = acted_rows st s answer (st.pending s) (calm s)
deed_rows st s (Falls code) calm = refl

-- of its own session
own_only : (P : Request → Type 0) (st : Store) (s : ℕ) (deed : Deed) → ((request : Request) → deed ≡ Asks request → P request) → OnlyAsks P ((done_by st s deed).pending s)
own_only P st s (Asks request) h = asked_only P st s request (h request refl)
own_only P st s (Gets answer) h = only_none P ((done_by st s (Gets answer)).pending s) (gets_clear st s answer)
own_only P st s (Falls code) h = only_none P ((done_by st s (Falls code)).pending s) (falls_clear st s code)

pub deed_calm : (st : Store) (s : ℕ) (deed : Deed) → asks_commit deed ≡ false → IsCalm st → IsCalm (done_by st s deed)
deed_calm st s deed plain calm o = elim (same_or_other o s) [
  | inl e ↦ subst (λ (j : ℕ). OnlyAsks IsNoCommit ((done_by st s deed).pending j)) (sym e)
      (own_only IsNoCommit st s deed (λ request is. sym (ap asks_commit is) ∙ plain))
  | inr other ↦ deed_only IsNoCommit s o other st deed (calm o)
]

abbrev pub ArePlain : List Deed → Type 0
ArePlain [] = Unit {0}
ArePlain (deed ∷ deeds) = (asks_commit deed ≡ false) × ArePlain deeds

abbrev pub Stays : List TableDef → List Entry → List Entry → Type 0
Stays tables h g = IsCalm (store_after tables g) × ((store_after tables g).rows ≡ (store_after tables h).rows)

pub recorded_stays : (tables : List TableDef) (s : ℕ) (deeds : List Deed) (h : List Entry) → ArePlain deeds → IsCalm (store_after tables h) → Stays tables h (recorded s deeds h)
recorded_stays tables s [] h plain calm = (calm, refl)
recorded_stays tables s (deed ∷ deeds) h plain calm =
    let next = recorded_stays tables s deeds (entry s deed ∷ h) plain.1 (deed_calm (store_after tables h) s deed plain.0 calm) in
    (next.0, next.1 ∙ deed_rows (store_after tables h) s deed calm)

-- A death leaves no transaction.

death_absent : (tables : List TableDef) (s : ℕ) (work : Work) (code : Option Code) (h : List Entry)
    → ((store_after tables (recorded s (death_of work code) h)).transaction s ≡ Absent) × ((store_after tables (recorded s (death_of work code) h)).pending s ≡ None)
death_absent tables s work None h = (with_at-same (store_after tables h).transaction s Absent, falls_clear (store_after tables h) s None)
death_absent tables s work (Some code) h =
    let before : List Entry = entry s (Asks (requests.Run work.statement)) ∷ entry s (Gets answers.Locked) ∷ h in
    (with_at-same (store_after tables before).transaction s Absent, falls_clear (store_after tables before) s (Some code))

dies_absent : (tables : List TableDef) (w : World) (s : ℕ) (found : Option Stage) (h : List Entry)
    → ((store_after tables (recorded s (death_in w s found) h)).transaction s ≡ Absent) × ((store_after tables (recorded s (death_in w s found) h)).pending s ≡ None)
dies_absent tables w s (Some (Inserting work posted)) h = death_absent tables s work (code_of_lowest w s (lowest w.gate.attached.bits)) h
dies_absent tables w s found h = (with_at-same (store_after tables h).transaction s Absent, falls_clear (store_after tables h) s None)

death_plain : (work : Work) (code : Option Code) → ArePlain (death_of work code)
death_plain work None = (refl, tt)
death_plain work (Some code) = (refl, (refl, (refl, tt)))

dies_plain : (w : World) (s : ℕ) (found : Option Stage) → ArePlain (death_in w s found)
dies_plain w s (Some (Inserting work posted)) = death_plain work (code_of_lowest w s (lowest w.gate.attached.bits))
dies_plain w s found = (refl, tt)

-- what was a run before more deeds
recorded_run : (tables : List TableDef) (s : ℕ) (deeds : List Deed) (h : List Entry) → IsRun tables (recorded s deeds h) → IsRun tables h
recorded_run tables s [] h run = run
recorded_run tables s (deed ∷ deeds) h run = (recorded_run tables s deeds (entry s deed ∷ h) run).1

module _ (w : World) where
  abbrev dead : ℕ → List Entry → List Entry
  dead s h = recorded s (death_in w s (stage_at (w.machine s).point)) h

  fell_within : (mask o s : ℕ) (h : List Entry) → IsWithin mask ((store_after w.tables h).transaction o) → IsWithin mask ((store_after w.tables (fell w s h)).transaction o)
  fell_within mask o s h old = by (is_live ((store_after w.tables h).transaction s) && not (is_alive w s))
    where
      by : (v : Bool) → IsWithin mask ((store_after w.tables (if v then dead s h else h)).transaction o)
      by false = old
      by true = elim (same_or_other o s) [
        | inl e ↦ subst (λ (j : ℕ). IsWithin mask ((store_after w.tables (dead s h)).transaction j)) (sym e)
            (subst (IsWithin mask) (sym (dies_absent w.tables w s (stage_at (w.machine s).point) h).0) (within_absent mask))
        | inr other ↦ recorded_other mask s o other w.tables (death_in w s (stage_at (w.machine s).point)) h old
      ]

  pub fallen_within : (mask o : ℕ) (h : List Entry) (n : ℕ) → IsWithin mask ((store_after w.tables h).transaction o) → IsWithin mask ((store_after w.tables (fallen w h n)).transaction o)
  unfolding fallen
  fallen_within mask o h zero old = old
  fallen_within mask o h (suc n) old = fell_within mask o n (fallen w h n) (fallen_within mask o h n old)

  fell_only : (P : Request → Type 0) (o s : ℕ) (h : List Entry) → OnlyAsks P ((store_after w.tables h).pending o) → OnlyAsks P ((store_after w.tables (fell w s h)).pending o)
  fell_only P o s h old = by (is_live ((store_after w.tables h).transaction s) && not (is_alive w s))
    where
      by : (v : Bool) → OnlyAsks P ((store_after w.tables (if v then dead s h else h)).pending o)
      by false = old
      by true = elim (same_or_other o s) [
        | inl e ↦ subst (λ (j : ℕ). OnlyAsks P ((store_after w.tables (dead s h)).pending j)) (sym e)
            (only_none P ((store_after w.tables (dead s h)).pending s) (dies_absent w.tables w s (stage_at (w.machine s).point) h).1)
        | inr other ↦ recorded_only P s o other w.tables (death_in w s (stage_at (w.machine s).point)) h old
      ]

  pub fallen_only : (P : Request → Type 0) (o : ℕ) (h : List Entry) (n : ℕ) → OnlyAsks P ((store_after w.tables h).pending o) → OnlyAsks P ((store_after w.tables (fallen w h n)).pending o)
  unfolding fallen
  fallen_only P o h zero old = old
  fallen_only P o h (suc n) old = fell_only P o n (fallen w h n) (fallen_only P o h n old)

  fell_stays : (s : ℕ) (h : List Entry) → IsCalm (store_after w.tables h) → Stays w.tables h (fell w s h)
  fell_stays s h calm = by (is_live ((store_after w.tables h).transaction s) && not (is_alive w s))
    where
      by : (v : Bool) → Stays w.tables h (if v then dead s h else h)
      by false = (calm, refl)
      by true = recorded_stays w.tables s (death_in w s (stage_at (w.machine s).point)) h (dies_plain w s (stage_at (w.machine s).point)) calm

  pub fallen_stays : (h : List Entry) (n : ℕ) → IsCalm (store_after w.tables h) → Stays w.tables h (fallen w h n)
  unfolding fallen
  fallen_stays h zero calm = (calm, refl)
  fallen_stays h (suc n) calm =
      let before = fallen_stays h n calm in
      let next = fell_stays n (fallen w h n) before.0 in
      (next.0, next.1 ∙ before.1)

  fell_run : (s : ℕ) (h : List Entry) → IsRun w.tables (fell w s h) → IsRun w.tables h
  fell_run s h run = by (is_live ((store_after w.tables h).transaction s) && not (is_alive w s)) run
    where
      by : (v : Bool) → IsRun w.tables (if v then dead s h else h) → IsRun w.tables h
      by false run = run
      by true run = recorded_run w.tables s (death_in w s (stage_at (w.machine s).point)) h run

  pub fallen_run : (h : List Entry) (n : ℕ) → IsRun w.tables (fallen w h n) → IsRun w.tables h
  unfolding fallen
  fallen_run h zero run = run
  fallen_run h (suc n) run = fallen_run h n (fell_run n (fallen w h n) run)

-- The reason of a death is no part of what it leaves.

number_is : (a s : ℕ) → (a == s) ≡ true → a ≡ s
number_is a s e = elim (eqb_tells a s) [ inl p ↦ p.1 | inr p ↦ absurd (let z : false ≡ true = sym p.0 ∙ e in cc) ]

module _ (tables : List TableDef) (s : ℕ) (code : Code) where
  fall_same : (st : Store) (a : ℕ) (deed : Deed) → is_fall deed ≡ true → done_by st a (Falls (Some code)) ≡ done_by st a deed
  fall_same st a (Falls other) e = refl
  fall_same st a (Asks request) e = absurd (let z : false ≡ true = e in cc)
  fall_same st a (Gets answer) e = absurd (let z : false ≡ true = e in cc)

  amended_store : (h : List Entry) → store_after tables (amended s code h) ≡ store_after tables h
  amended_store [] = refl
  amended_store (e ∷ es) = by ((e.session == s) && is_fall e.deed) refl (amended_store es)
    where
      by : (v : Bool) → ((e.session == s) && is_fall e.deed) ≡ v → store_after tables (amended s code es) ≡ store_after tables es
          → store_after tables (amended_at v s code e es (amended s code es)) ≡ done_by (store_after tables es) e.session e.deed
      by true is rest =
          let both = and_true (e.session == s) (is_fall e.deed) is in
          ap (λ (a : ℕ). done_by (store_after tables es) a (Falls (Some code))) (sym (number_is e.session s both.0)) ∙ fall_same (store_after tables es) e.session e.deed both.1
      by false is rest = ap (λ (st : Store). done_by st e.session e.deed) rest

pub coded_store : (tables : List TableDef) (s : ℕ) (code : Option Code) (h : List Entry) → store_after tables (with_code s code h) ≡ store_after tables h
coded_store tables s None h = refl
coded_store tables s (Some code) h = amended_store tables s code h
