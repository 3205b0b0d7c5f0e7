-- No deed changes the tables of the single run's store.
use Rattle.std.proofs.Common.{◌≡◌, ℕ, Bool, true, false, List, [], ◌∷◌, refl, sym, ◌∙◌}
use Rattle.std.specs.Prelude.{if◌then◌else◌, Option, Some, None}
use Rattle.schema.specs.declared.catalogue.TableDef.{TableDef}
use Rattle.backend_trait.specs.declared.request.Request.{Request}
use Rattle.backend_trait.specs.declared.request.Request.TheVariants as requests
use Rattle.backend_trait.specs.declared.answer.Answer.{Answer}
use Rattle.backend_trait.specs.Store.{Transaction, Absent, Alive, Dead, Pending, Store, is_refusal, committed_by, answered, refused}
use Rattle.backend_trait.specs.Acting.{acted_by}
use Rattle.one_copy_model.specs.declared.deed.Deed.{Deed}
use Rattle.one_copy_model.specs.declared.deed.Deed.TheVariants.{Asks, Gets, Falls}
use Rattle.one_copy_model.specs.declared.deed.Entry.{Entry}
use Rattle.one_copy_model.specs.SingleRun.{done_by, store_after}

committed_tables : (st : Store) (s : ℕ) (x : Transaction) → (committed_by st s x).tables ≡ st.tables
committed_tables st s Absent = refl
committed_tables st s (Alive t) = refl
committed_tables st s Dead = refl

answered_tables : (st : Store) (s : ℕ) (request : Request) → (answered st s request).tables ≡ st.tables
answered_tables st s requests.TakeSnapshot = refl
answered_tables st s (requests.Run checked) = refl
answered_tables st s (requests.Lock table) = refl
answered_tables st s requests.Commit = committed_tables st s (st.transaction s)
answered_tables st s requests.Rollback = refl
answered_tables st s (requests.ReadSerial table) = refl
answered_tables st s (requests.SetSerial table n) = refl

either_tables : (refuses : Bool) (st : Store) (s : ℕ) (request : Request) → (if refuses then refused st s request else answered st s request).tables ≡ st.tables
either_tables true st s request = refl
either_tables false st s request = answered_tables st s request

pub acted_tables : (st : Store) (s : ℕ) (answer : Answer) (p : Option Pending) → (acted_by st s answer p).tables ≡ st.tables
acted_tables st s answer None = refl
acted_tables st s answer (Some p) = either_tables (is_refusal answer) st s p.request

deed_tables : (st : Store) (s : ℕ) (deed : Deed) → (done_by st s deed).tables ≡ st.tables
deed_tables st s (Asks request) = refl
deed_tables st s (Gets answer) = acted_tables st s answer (st.pending s)
deed_tables st s (Falls code) = refl

pub tables_there : (tables : List TableDef) (history : List Entry) → (store_after tables history).tables ≡ tables
tables_there tables [] = refl
tables_there tables (e ∷ es) = deed_tables (store_after tables es) e.session e.deed ∙ tables_there tables es

pub tables_same : (tables : List TableDef) (new old : List Entry) → (store_after tables new).tables ≡ (store_after tables old).tables
tables_same tables new old = tables_there tables new ∙ sym (tables_there tables old)
