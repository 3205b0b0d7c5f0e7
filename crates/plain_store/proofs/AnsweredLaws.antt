-- What an answer leaves of a session: its new transaction stands in the tables, and is what the table of answers says.
use Rattle.std.proofs.Common.{◌≡◌, ℕ, ℤ, Bool, true, false, List, [], ◌∷◌, ◌++◌, length, map, refl, sym, ap, ◌∙◌, subst}
use Rattle.std.specs.Prelude.{◌≤ℤ◌, pos, Option, Some, None, Result, Ok, Err, OnOk, slice_get, if◌then◌else◌}
use Rattle.pool_base.specs.declared.no_memory.NoMemory.{NoMemory}
use Rattle.std.proofs.lemmas.List.{length-map}
use Rattle.schema.specs.declared.catalogue.TableDef.{TableDef}
use Rattle.catalogue.specs.declared.checked.Checked.{Checked}
use Rattle.sql_eval.specs.Effects.{DrawsFew}
use Rattle.backend_trait.specs.Typed.{AreAllStored}
use Rattle.backend_trait.specs.declared.request.Request.{Request}
use Rattle.backend_trait.specs.declared.request.Request.TheVariants as requests
use Rattle.backend_trait.specs.declared.answer.Answer.{Answer}
use Rattle.backend_trait.specs.Rows.{no_rows, laid_over, with_at}
use Rattle.backend_trait.specs.Effect.{Given, changes_of, IsPositive}
use Rattle.backend_trait.specs.Store.{Live, Transaction, Absent, Alive, Dead, Store, begun, given_to, made_stale, where_live, settled, committed_by, drawn_by, drawn, request_in, answered, refused, acted, is_refusal}
use Rattle.backend_trait.specs.Acts.{given_of}
use Rattle.outcomes.specs.declared.change.ChangeSet.{ChangeSet}
use Rattle.outcomes.specs.declared.serials.NextNumbers.{NextNumbers}
use Rattle.outcomes.specs.Log.{rows_of}
use Rattle.outcomes.specs.Next.{next_of}
use Rattle.outcomes.proofs.LogLaws.{rows_on-snoc}
use Rattle.plain_store.specs.declared.data.Work.{Work}
use Rattle.plain_store.specs.declared.data.Phase.{Phase}
use Rattle.plain_store.specs.declared.data.Phase.TheVariants as phases
use Rattle.plain_store.specs.declared.data.Database.{Database}
use Rattle.plain_store.specs.Phases.{live_of, transaction_of, transaction_in, request_at, mark_in, pending_of}
use Rattle.plain_store.specs.Meaning.{store_in, store_of}
use Rattle.backend_trait.specs.Acting.{acted_by, acted_at, drawn_waiting, died}
use Rattle.plain_store.specs.Giving.{given_run, given_by, given_to as session_given}
use Rattle.plain_store.specs.Kept.{IsKept, IsStoredIn, AreSeenIn}
use Rattle.plain_store.specs.Steps.{gave, locked, IsSetIn}
use Rattle.plain_store.proofs.StepLaws.{committed_is, committed_some}
use Rattle.plain_store.proofs.KeptLaws.{all_stale_stored, begun_stored, locked_stored, gave_stored, stored_here, commit_stored}

-- what waits can be run, and a number that is to be set is 1 at least
pub kept_as : (d : Database) (s : ℕ) (request same : Request) → request_at (slice_get d.requests.items s) ≡ Some request → request ≡ same → IsKept d.catalogue (Some same)
kept_as d s request same waits is = subst (IsKept d.catalogue) (waits ∙ ap Some is) (d.kept s)

pub few_of : (tables : List TableDef) (request : Request) (checked : Checked) → request ≡ requests.Run checked → IsKept tables (Some request) → DrawsFew checked.body
few_of tables request checked is kept = (let run : IsKept tables (Some (requests.Run checked)) = subst (λ (q : Request). IsKept tables (Some q)) is kept in run.few)

pub one_positive : (n : ℤ) → pos 1 ≤ℤ n → IsPositive (Some n)
one_positive n positive m is = subst (λ (k : ℤ). pos 1 ≤ℤ k) (let same : n ≡ m = cc in same) positive

pub few_as : (d : Database) (s : ℕ) (request : Request) (checked : Checked) → request_at (slice_get d.requests.items s) ≡ Some request → request ≡ requests.Run checked → DrawsFew checked.body
few_as d s request checked waits is = (kept_as d s request (requests.Run checked) waits is).few

-- the store with other numbers
abbrev pub store_with : Database → NextNumbers → Store
store_with d numbers = record (store_of d) { next = next_of numbers }

request_same : (waits : Option Request) (mark : Bool) → request_in (pending_of waits mark) ≡ waits
request_same None mark = refl
request_same (Some request) mark = refl

module _ (d : Database) (s : ℕ) where
  abbrev here : Store
  here = store_of d

  -- a transaction begins
  pub begun_settles : (work : Work) → live_of work ≡ begun (rows_of d.log.items) → IsStoredIn d.catalogue (transaction_of (phases.Alive work))
  begun_settles work is = subst (λ (t : Live). IsStoredIn d.catalogue (Alive t)) (sym is) (begun_stored d.catalogue (rows_of d.log.items) d.committed)

  pub begun_is : (new : Store) (work : Work) → live_of work ≡ begun (rows_of d.log.items) → new ≡ settled here s (transaction_of (phases.Alive work)) → new ≡ answered here s requests.TakeSnapshot
  begun_is new work is h = h ∙ ap (λ (t : Live). settled here s (Alive t)) is

  -- a statement runs
  pub run_settles : (phase later : Phase) (given : Option Given) → slice_get d.phases.items s ≡ Some phase → given ≡ session_given d s
      → transaction_of later ≡ where_live (gave given) (transaction_of phase) → IsStoredIn d.catalogue (transaction_of later)
  run_settles phase later given there given_is is =
      subst (IsStoredIn d.catalogue)
      (sym (is ∙ (ap (λ (g : Option Given). where_live (gave g) (transaction_of phase)) given_is
      ∙ sym (ap (λ (x : Option Phase). where_live (gave (session_given d s)) (transaction_in x)) there))))
      (gave_stored d s)

  run_live : (checked : Checked) (x : Transaction) → where_live (gave (given_run here checked x)) x ≡ where_live (λ t. given_to (given_of here checked t) t) x
  run_live checked Absent = refl
  run_live checked (Alive t) = refl
  run_live checked Dead = refl

  pub run_is : (new : Store) (phase later : Phase) (given : Option Given) (checked : Checked) → slice_get d.phases.items s ≡ Some phase → given ≡ session_given d s
      → transaction_of later ≡ where_live (gave given) (transaction_of phase) → request_at (slice_get d.requests.items s) ≡ Some (requests.Run checked)
      → (next : ℕ → Option ℤ) (mid : Store) → mid ≡ settled here s (transaction_of later) → next ≡ drawn_by mid.tables checked mid.next → new ≡ record mid { next = next } → new ≡ answered here s (requests.Run checked)
  run_is new phase later given checked there given_is is waits next mid h numbers last =
      last
      ∙ (ap (λ (n : ℕ → Option ℤ). record mid { next = n }) numbers
      ∙ ap (λ (st : Store). record st { next = drawn_by st.tables checked st.next }) h)
      ∙ ap (λ (x : Transaction). record (settled here s x) { next = drawn_by here.tables checked here.next })
      (is ∙ (ap (λ (g : Option Given). where_live (gave g) (transaction_of phase)) given_is
      ∙ (sym (ap (λ (x : Option Phase). where_live (gave (session_given d s)) (transaction_in x)) there)
      ∙ (ap (λ (w : Option Request). where_live (gave (given_by here (here.transaction s) w)) (here.transaction s)) waits ∙ run_live checked (here.transaction s)))))

  -- the lock of a table is taken
  pub lock_settles : (phase later : Phase) (table : ℕ) → slice_get d.phases.items s ≡ Some phase → transaction_of later ≡ where_live (locked table) (transaction_of phase) → IsStoredIn d.catalogue (transaction_of later)
  lock_settles phase later table there is =
      subst (IsStoredIn d.catalogue) (sym is) (locked_stored d.catalogue table (transaction_of phase) (stored_here d s phase there))

  pub lock_is : (new : Store) (phase later : Phase) (table : ℕ) → slice_get d.phases.items s ≡ Some phase → transaction_of later ≡ where_live (locked table) (transaction_of phase)
      → new ≡ settled here s (transaction_of later) → new ≡ answered here s (requests.Lock table)
  lock_is new phase later table there is h =
      h ∙ ap (settled here s) (is ∙ sym (ap (λ (x : Option Phase). where_live (locked table) (transaction_in x)) there))

  -- what a session commits stands in the tables
  pub set_settles : (phase : Phase) (set : ChangeSet) → slice_get d.phases.items s ≡ Some phase → IsSetIn phase (Some set) → AreAllStored d.catalogue (laid_over (changes_of set.changes.items) (rows_of d.log.items))
  set_settles phases.Absent set there some = absurd (cc)
  set_settles (phases.Alive work) set there some =
      commit_stored d.catalogue (changes_of set.changes.items) (live_of work) (rows_of d.log.items) (ap changes_of (sym some)) (stored_here d s (phases.Alive work) there) d.committed
  set_settles phases.Dead set there some = absurd (cc)

  -- what is behind a commit
  abbrev StaleTo : ChangeSet → Phase → Transaction
  StaleTo set phase = where_live (made_stale (changes_of set.changes.items)) (transaction_of phase)

  pub commit_is : (set : ChangeSet) (log : List ChangeSet) (later seen : List Phase) (new : Store) → seen ≡ d.phases.items → log ≡ d.log.items ++ set ∷ [] → map transaction_of later ≡ map (StaleTo set) seen
      → new ≡ settled (store_in (next_of d.numbers) d.catalogue log later d.requests.items d.crossed.items d.is_lost) s Absent → (t : Live) → t.changes ≡ changes_of set.changes.items → new ≡ committed_by here s (Alive t)
  commit_is set log later seen new seen_is log_is stale h t is =
      h
      ∙ (ap (λ (sets : List ChangeSet). settled (store_in (next_of d.numbers) d.catalogue sets later d.requests.items d.crossed.items d.is_lost) s Absent) log_is
      ∙ committed_is (next_of d.numbers) d.catalogue d.log.items d.phases.items later d.requests.items d.crossed.items d.is_lost s set t (stale ∙ ap (map (StaleTo set)) seen_is) is)

  pub commit_committed : (set : ChangeSet) (log : List ChangeSet) → log ≡ d.log.items ++ set ∷ [] → AreAllStored d.catalogue (laid_over (changes_of set.changes.items) (rows_of d.log.items)) → AreAllStored d.catalogue (rows_of log)
  commit_committed set log log_is stored =
      subst (λ (sets : List ChangeSet). AreAllStored d.catalogue (rows_of sets)) (sym log_is)
      (subst (AreAllStored d.catalogue) (sym (rows_on-snoc no_rows d.log.items set)) stored)

  pub commit_stays : (set : ChangeSet) (later seen : List Phase) → seen ≡ d.phases.items → map transaction_of later ≡ map (StaleTo set) seen → AreSeenIn d.catalogue later
  commit_stays set later seen seen_is stale =
      all_stale_stored d.catalogue (changes_of set.changes.items) d.phases.items later (stale ∙ ap (map (StaleTo set)) seen_is) d.stored

  pub commit_phased : (set : ChangeSet) (later seen : List Phase) → seen ≡ d.phases.items → map transaction_of later ≡ map (StaleTo set) seen → length later ≡ 65
  commit_phased set later seen seen_is stale =
      sym (length-map later transaction_of) ∙ (ap (λ (xs : List Transaction). length xs) stale ∙ (length-map seen (StaleTo set) ∙ (ap (λ (xs : List Phase). length xs) seen_is ∙ d.phased)))

  pub commit_done : (phase : Phase) (set : ChangeSet) (new : Store) (r : Result (Unit {0}) NoMemory) → slice_get d.phases.items s ≡ Some phase → IsSetIn phase (Some set)
      → OnOk r ((t : Live) → t.changes ≡ changes_of set.changes.items → new ≡ committed_by here s (Alive t)) → OnOk r (new ≡ committed_by here s (here.transaction s))
  commit_done phase set new (Ok u) there some h = committed_some here new s phase set (ap transaction_in there) some h
  commit_done phase set new (Err e) there some h = tt

  -- the request that waits is that
  pub answered_as : (new : Store) (request same : Request) (r : Result (Unit {0}) NoMemory) → request ≡ same → OnOk r (new ≡ answered here s same) → OnOk r (new ≡ answered here s request)
  answered_as new request same r is h = subst (λ (q : Request). OnOk r (new ≡ answered here s q)) (sym is) h

  -- a number is set
  pub set_is : (new mid : Store) (table : ℕ) (n : ℤ) (next : ℕ → Option ℤ) → mid ≡ settled here s (here.transaction s) → next ≡ with_at mid.next table (Some n) → new ≡ record mid { next = next } → new ≡ answered here s (requests.SetSerial table n)
  set_is new mid table n next h numbers last =
      last
      ∙ (ap (λ (k : ℕ → Option ℤ). record mid { next = k }) numbers
      ∙ ap (λ (st : Store). record st { next = with_at st.next table (Some n) }) h)

  -- an answer to the request that waits
  pub refuse_is : (new mid : Store) (request : Request) (next : ℕ → Option ℤ) → next ≡ drawn here.tables here.next request → mid ≡ record here { next = next } → new ≡ settled mid s Dead → new ≡ refused here s request
  refuse_is new mid request next numbers first h =
      h
      ∙ (ap (λ (st : Store). settled st s Dead) first
      ∙ ap (λ (n : ℕ → Option ℤ). settled (record here { next = n }) s Dead) numbers)

  pub fall_is : (new mid : Store) (waits : Option Request) (next : ℕ → Option ℤ) → slice_get d.requests.items s ≡ Some waits → next ≡ drawn_waiting here.tables here.next waits → mid ≡ record here { next = next } → new ≡ settled mid s Absent → new ≡ died here s
  fall_is new mid waits next there numbers first h =
      h
      ∙ (ap (λ (st : Store). settled st s Absent) first
      ∙ (ap (λ (n : ℕ → Option ℤ). settled (record here { next = n }) s Absent) numbers
      ∙ ap (λ (w : Option Request). settled (record here { next = drawn_waiting here.tables here.next w }) s Absent)
      (sym (ap request_at there) ∙ sym (request_same (request_at (slice_get d.requests.items s)) (mark_in (slice_get d.crossed.items s))))))

  pub refused_is : (new : Store) (request : Request) (told : Answer) (b : Bool) → b ≡ is_refusal told → b ≡ true → new ≡ refused here s request → new ≡ acted here s request told
  refused_is new request told b is e h = h ∙ sym (ap (λ (r : Bool). if r then refused here s request else answered here s request) (sym is ∙ e))

  pub answered_is : (new : Store) (request : Request) (told : Answer) (b : Bool) (r : Result (Unit {0}) NoMemory) → b ≡ is_refusal told → b ≡ false → OnOk r (new ≡ answered here s request)
      → OnOk r (new ≡ acted here s request told)
  answered_is new request told b (Ok u) is e h = h ∙ sym (ap (λ (r : Bool). if r then refused here s request else answered here s request) (sym is ∙ e))
  answered_is new request told b (Err x) is e h = tt

  pub waits_here : (waits copy : Option Request) (request : Request) → slice_get d.requests.items s ≡ Some waits → copy ≡ waits → copy ≡ Some request → request_at (slice_get d.requests.items s) ≡ Some request
  waits_here waits copy request there same is = ap request_at there ∙ (sym same ∙ is)

  acted_with : (told : Answer) (w : Option Request) → request_at (slice_get d.requests.items s) ≡ w → acted_at here s told ≡ acted_by here s told (pending_of w (mark_in (slice_get d.crossed.items s)))
  acted_with told w is = ap (λ (x : Option Request). acted_by here s told (pending_of x (mark_in (slice_get d.crossed.items s)))) is

  pub acted_here : (new : Store) (request : Request) (told : Answer) (r : Result (Unit {0}) NoMemory) → request_at (slice_get d.requests.items s) ≡ Some request → OnOk r (new ≡ acted here s request told)
      → OnOk r (new ≡ acted_at here s told)
  acted_here new request told (Ok u) waits h = h ∙ sym (acted_with told (Some request) waits)
  acted_here new request told (Err e) waits h = tt

  pub idle_acted : (told : Answer) (waits copy : Option Request) → slice_get d.requests.items s ≡ Some waits → copy ≡ waits → copy ≡ None → here ≡ acted_at here s told
  idle_acted told waits copy there same none = sym (acted_with told None (ap request_at there ∙ (sym same ∙ none)))
