-- A store on which one session alone works, and one request at it.
use Rattle.std.specs.Prelude.{◌≡◌, ◌≢◌, ℕ, false, List, None}
use Rattle.schema.specs.declared.catalogue.TableDef.{TableDef}
use Rattle.backend_trait.specs.declared.request.Request.{Request}
use Rattle.backend_trait.specs.declared.answer.Answer.{Answer}
use Rattle.backend_trait.specs.Rows.{Rows}
use Rattle.backend_trait.specs.Store.{Store, Transaction, Absent, Pending, posted, acted}
use Rattle.backend_trait.specs.Acts.{MayAnswer, IsPromptAnswer, IsOf}

-- no other session has a transaction, and nothing is pending
pub record IsAlone (s : ℕ) (st : Store) : Type 0 where
  pub others : (o : ℕ) → o ≢ s → st.transaction o ≡ Absent
  pub idle : (o : ℕ) → st.pending o ≡ None
  pub not_lost : st.lost ≡ false

-- these tables and rows, and this transaction of the session
pub record Stands (s : ℕ) (tables : List TableDef) (rows : Rows) (transaction : Transaction) (st : Store) : Type 0 where
  pub tables_are : st.tables ≡ tables
  pub rows_are : st.rows ≡ rows
  pub own : st.transaction s ≡ transaction
  pub alone : IsAlone s st

-- a request was posted and answered
pub record IsAsked (old : Store) (s : ℕ) (request : Request) (answer : Answer) (new : Store) : Type 0 where
  pub may : MayAnswer (posted old s request) s (record { request = request; crossed = false }) answer
  pub promptly : IsPromptAnswer answer
  pub form : IsOf request answer
  pub leaves : new ≡ acted (posted old s request) s request answer
