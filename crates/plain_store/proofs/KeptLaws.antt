-- What the program keeps: requests that can be run, and rows that stand in their tables, whatever is posted and answered.
use Rattle.std.proofs.Common.{◌≡◌, ℕ, zero, suc, List, [], ◌∷◌, refl, sym, ap, ◌∙◌, subst}
use Rattle.std.specs.Prelude.{◌≤ℤ◌, ℤ, pos, true, false, map, Option, Some, None, slice_get, slice_set}
use Rattle.std.specs.FinMap as fin
use Rattle.schema.specs.declared.catalogue.TableDef.{TableDef}
use Rattle.catalogue.specs.declared.checked.Checked.{Checked}
use Rattle.sql_eval.specs.declared.row.Row.{Row}
use Rattle.backend_trait.specs.Typed.{AreAllStored, IsStored}
use Rattle.backend_trait.specs.declared.request.Request.{Request}
use Rattle.backend_trait.specs.declared.request.Request.TheVariants as requests
use Rattle.backend_trait.specs.declared.answer.Answer.{Answer}
use Rattle.backend_trait.specs.Keys.{Place, place_order}
use Rattle.backend_trait.specs.Rows.{Rows, Changes, no_rows, laid_over, joined_changes}
use Rattle.backend_trait.specs.Effect.{Given, Fails, Gives, table_in}
use Rattle.backend_trait.specs.Runnable.{IsRunnable}
use Rattle.backend_trait.specs.Store.{Live, Transaction, Absent, Alive, Dead, Store, begun, given_to, made_stale, where_live, next_for, view_of, WhereLive, MayRunIn, MaySetIn, MayPost}
use Rattle.backend_trait.specs.Acts.{given_of}
use Rattle.backend_trait.proofs.RowLaws.{row_over, change_over, get-laid_over, get-joined_changes, same_rows, laid_over-none}
use Rattle.plain_store.specs.declared.data.Phase.{Phase}
use Rattle.plain_store.specs.declared.data.Database.{Database}
use Rattle.plain_store.specs.Phases.{transaction_of, transaction_in, request_at}
use Rattle.plain_store.specs.Meaning.{store_of}
use Rattle.plain_store.specs.Giving.{given_run, given_by, given_to as session_given}
use Rattle.plain_store.specs.Kept.{IsKept, AreKept, IsStoredIn, AreSeenIn, KeepsRows}
use Rattle.plain_store.specs.Steps.{gave, locked}
use Rattle.plain_store.proofs.StepLaws.{stale_at}

-- what holds at each number of a list holds there still where one is new
all_set : {A : Type 0} (P : Option A → Type 0) (xs : List A) (s : ℕ) (x : A) → ((o : ℕ) → P (slice_get xs o)) → P (Some x) → (o : ℕ) → P (slice_get (slice_set xs s x) o)
all_set P [] s x all here o = all o
all_set P (y ∷ ys) zero x all here zero = here
all_set P (y ∷ ys) zero x all here (suc o) = all (suc o)
all_set P (y ∷ ys) (suc s) x all here zero = all zero
all_set P (y ∷ ys) (suc s) x all here (suc o) = all_set P ys s x (λ n. all (suc n)) here o

-- requests
pub kept_set : (tables : List TableDef) (asked : List (Option Request)) (s : ℕ) (x : Option Request) → AreKept tables asked → IsKept tables x → AreKept tables (slice_set asked s x)
kept_set tables asked s x kept here = all_set (λ w. IsKept tables (request_at w)) asked s x kept here

pub kept_here : (d : Database) (s : ℕ) (waits : Option Request) → slice_get d.requests.items s ≡ Some waits → IsKept d.catalogue waits
kept_here d s waits is = subst (λ (w : Option (Option Request)). IsKept d.catalogue (request_at w)) is (d.kept s)

run_kept : (st : Store) (checked : Checked) (x : Transaction) → WhereLive x (MayRunIn st checked) → IsRunnable st.tables checked
run_kept st checked Absent may = absurd may
run_kept st checked (Alive t) may = may.0
run_kept st checked Dead may = absurd may

set_kept : (st : Store) (table : ℕ) (n : ℤ) (x : Transaction) → WhereLive x (MaySetIn st table n) → pos 1 ≤ℤ n
set_kept st table n Absent may = absurd may
set_kept st table n (Alive t) may = may.positive
set_kept st table n Dead may = absurd may

-- what may be posted is kept
pub post_kept : (d : Database) (s : ℕ) (request : Request) → MayPost (store_of d) s request → IsKept d.catalogue (Some request)
post_kept d s requests.TakeSnapshot may = tt
post_kept d s (requests.Run checked) may = run_kept (store_of d) checked ((store_of d).transaction s) may
post_kept d s (requests.Lock table) may = tt
post_kept d s requests.Commit may = tt
post_kept d s requests.Rollback may = tt
post_kept d s (requests.ReadSerial table) may = tt
post_kept d s (requests.SetSerial table n) may = set_kept (store_of d) table n ((store_of d).transaction s) may

-- rows
pub stored_set : (tables : List TableDef) (all : List Phase) (s : ℕ) (x : Phase) → AreSeenIn tables all → IsStoredIn tables (transaction_of x) → AreSeenIn tables (slice_set all s x)
stored_set tables all s x stored here = all_set (λ p. IsStoredIn tables (transaction_in p)) all s x stored here

pub stored_here : (d : Database) (s : ℕ) (phase : Phase) → slice_get d.phases.items s ≡ Some phase → IsStoredIn d.catalogue (transaction_of phase)
stored_here d s phase is = subst (λ (p : Option Phase). IsStoredIn d.catalogue (transaction_in p)) is (d.stored s)

-- no rows, and those of a transaction that has just begun
pub none_stored : (tables : List TableDef) → AreAllStored tables no_rows
none_stored tables p row there = absurd (let f : None ≡ Some row = sym (fin.get-empty place_order p) ∙ there in cc)

pub begun_stored : (tables : List TableDef) (rows : Rows) → AreAllStored tables rows → IsStoredIn tables (Alive (begun rows))
begun_stored tables rows stored = subst (AreAllStored tables) (sym (laid_over-none rows)) stored

-- another's commit, and a lock, change nothing that is seen
pub stale_stored : (tables : List TableDef) (changes : Changes) (x : Transaction) → IsStoredIn tables x → IsStoredIn tables (where_live (made_stale changes) x)
stale_stored tables changes Absent stored = tt
stale_stored tables changes (Alive t) stored = stored
stale_stored tables changes Dead stored = tt

pub all_stale_stored : (tables : List TableDef) (changes : Changes) (xs ys : List Phase) → map transaction_of ys ≡ map (λ (phase : Phase). where_live (made_stale changes) (transaction_of phase)) xs
    → AreSeenIn tables xs → AreSeenIn tables ys
all_stale_stored tables changes xs ys stale stored o =
    subst (IsStoredIn tables) (sym (stale_at changes xs ys stale o)) (stale_stored tables changes (transaction_in (slice_get xs o)) (stored o))

pub locked_stored : (tables : List TableDef) (table : ℕ) (x : Transaction) → IsStoredIn tables x → IsStoredIn tables (where_live (locked table) x)
locked_stored tables table Absent stored = tt
locked_stored tables table (Alive t) stored = stored
locked_stored tables table Dead stored = tt

-- a statement that ran
over_over : (a b : Option (Option Row)) (row : Option Row) → row_over (change_over a b) row ≡ row_over a (row_over b row)
over_over None b row = refl
over_over (Some changed) b row = refl

joined_view : (new old : Changes) (rows : Rows) → laid_over (joined_changes new old) rows ≡ laid_over new (laid_over old rows)
joined_view new old rows = same_rows _ _ (λ q.
    get-laid_over (joined_changes new old) rows q
    ∙ (ap (λ (c : Option (Option Row)). row_over c (fin.get rows q)) (get-joined_changes new old q)
    ∙ (over_over (fin.get new q) (fin.get old q) (fin.get rows q)
    ∙ (ap (row_over (fin.get new q)) (sym (get-laid_over old rows q))
    ∙ sym (get-laid_over new (laid_over old rows) q)))))

gave_live : (tables : List TableDef) (given : Given) (t : Live) → ((answer : Answer) (changes : Changes) (places : List Place) → given ≡ Gives answer changes places → AreAllStored tables (laid_over changes (view_of t)))
    → AreAllStored tables (view_of t) → AreAllStored tables (view_of (given_to given t))
gave_live tables (Fails code) t keeps stored = stored
gave_live tables (Gives answer changes places) t keeps stored = subst (AreAllStored tables) (sym (joined_view changes t.changes t.base)) (keeps answer changes places refl)

ran_stored : (d : Database) (checked : Checked) (x : Transaction) → IsRunnable d.catalogue checked → IsStoredIn d.catalogue x → IsStoredIn d.catalogue (where_live (gave (given_run (store_of d) checked x)) x)
ran_stored d checked Absent runnable stored = tt
ran_stored d checked (Alive t) runnable stored =
    gave_live d.catalogue (given_of (store_of d) checked t) t (λ answer changes places gives. d.keeping checked (view_of t) (next_for (store_of d).next (table_in checked)) answer changes places runnable stored gives) stored
ran_stored d checked Dead runnable stored = tt

gave_none : (tables : List TableDef) (x : Transaction) → IsStoredIn tables x → IsStoredIn tables (where_live (gave None) x)
gave_none tables Absent stored = tt
gave_none tables (Alive t) stored = stored
gave_none tables Dead stored = tt

by_stored : (d : Database) (x : Transaction) (waits : Option Request) → IsKept d.catalogue waits → IsStoredIn d.catalogue x → IsStoredIn d.catalogue (where_live (gave (given_by (store_of d) x waits)) x)
by_stored d x None kept stored = gave_none d.catalogue x stored
by_stored d x (Some requests.TakeSnapshot) kept stored = gave_none d.catalogue x stored
by_stored d x (Some (requests.Run checked)) kept stored = ran_stored d checked x kept stored
by_stored d x (Some (requests.Lock table)) kept stored = gave_none d.catalogue x stored
by_stored d x (Some requests.Commit) kept stored = gave_none d.catalogue x stored
by_stored d x (Some requests.Rollback) kept stored = gave_none d.catalogue x stored
by_stored d x (Some (requests.ReadSerial table)) kept stored = gave_none d.catalogue x stored
by_stored d x (Some (requests.SetSerial table n)) kept stored = gave_none d.catalogue x stored

pub gave_stored : (d : Database) (s : ℕ) → IsStoredIn d.catalogue (where_live (gave (session_given d s)) (transaction_in (slice_get d.phases.items s)))
gave_stored d s = by_stored d (transaction_in (slice_get d.phases.items s)) (request_at (slice_get d.requests.items s)) (d.kept s) (d.stored s)

-- what is committed: the changes of a transaction that sees rows in their tables, over rows in their tables
over_stored : (tables : List TableDef) (changes : Changes) (base rows : Rows) → AreAllStored tables (laid_over changes base) → AreAllStored tables rows → AreAllStored tables (laid_over changes rows)
over_stored tables changes base rows seen stored p row there = go (fin.get changes p) refl
  where
    go : (c : Option (Option Row)) → fin.get changes p ≡ c → IsStored (slice_get tables p.table) p.key row
    go None is = stored p row (sym (get-laid_over changes rows p ∙ ap (λ (o : Option (Option Row)). row_over o (fin.get rows p)) is) ∙ there)
    go (Some changed) is =
        seen p row
        (get-laid_over changes base p ∙ (ap (λ (o : Option (Option Row)). row_over o (fin.get base p)) is
        ∙ (sym (get-laid_over changes rows p ∙ ap (λ (o : Option (Option Row)). row_over o (fin.get rows p)) is) ∙ there)))

pub commit_stored : (tables : List TableDef) (changes : Changes) (t : Live) (rows : Rows) → t.changes ≡ changes → AreAllStored tables (view_of t) → AreAllStored tables rows → AreAllStored tables (laid_over changes rows)
commit_stored tables changes t rows is seen stored =
    subst (λ (c : Changes). AreAllStored tables (laid_over c rows)) is (over_stored tables t.changes t.base rows seen stored)
