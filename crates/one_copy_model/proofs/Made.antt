-- What requests make of a transaction is read off the committed rows, the serial numbers and the transaction.
use Rattle.std.proofs.Common.{◌≡◌, ℕ, List, [], ◌∷◌, ℤ, refl, sym, ap, ◌∙◌, subst, inl, inr}
use Rattle.std.specs.Prelude.{Option, if◌then◌else◌}
use Rattle.std.proofs.lemmas.Bool.Decides.{eqb_tells}
use Rattle.schema.specs.declared.catalogue.TableDef.{TableDef}
use Rattle.backend_trait.specs.declared.request.Request.{Request}
use Rattle.backend_trait.specs.declared.request.Request.TheVariants as requests
use Rattle.backend_trait.specs.Rows.{Rows}
use Rattle.backend_trait.specs.Effect.{effect_of, table_in, both_wants}
use Rattle.backend_trait.specs.Store.{Transaction, Absent, Alive, Dead, Store, view_of, next_for, begun, given_to, table_lock, where_live, made_stale, committed_by, answered}
use Rattle.one_copy_model.specs.Standing.{Standing, Nowhere, Fresh, Ahead, Leaving, Fallen, Ending, in_store, ahead_by, Alike, Stands}
use Rattle.one_copy_model.proofs.Places.{with_at-same}

abbrev pub made_by : List TableDef → Rows → (ℕ → Option ℤ) → Request → Transaction → Transaction
made_by tables rows next requests.TakeSnapshot x = Alive (begun rows)
made_by tables rows next (requests.Run checked) x = where_live (λ t. given_to (effect_of tables checked (view_of t) (next_for next (table_in checked))).given t) x
made_by tables rows next (requests.Lock table) x = where_live (λ t. record t { held = both_wants (table_lock table) t.held }) x
made_by tables rows next requests.Commit x = Absent
made_by tables rows next requests.Rollback x = Absent
made_by tables rows next (requests.ReadSerial table) x = x
made_by tables rows next (requests.SetSerial table n) x = x

abbrev pub made_all : List TableDef → Rows → (ℕ → Option ℤ) → List Request → Transaction → Transaction
made_all tables rows next [] x = x
made_all tables rows next (request ∷ before) x = made_by tables rows next request (made_all tables rows next before x)

pub in_at : (st : Store) (s : ℕ) (x : Transaction) → (in_store st s x).transaction s ≡ x
in_at st s x = elim (eqb_tells s s) [
  | inl p ↦ (λ k. if p.0 k then x else st.transaction s)
  | inr p ↦ absurd (p.1 refl)
]

commit_at : (st : Store) (s : ℕ) (x : Transaction) → (committed_by st s x).transaction s ≡ Absent
commit_at st s Absent = with_at-same st.transaction s Absent
commit_at st s (Alive t) = with_at-same (λ o. where_live (made_stale t.changes) (st.transaction o)) s Absent
commit_at st s Dead = with_at-same st.transaction s Absent

-- an answer that is no refusal leaves this of the session's own transaction
pub answered_at : (st : Store) (s : ℕ) (request : Request) → (answered st s request).transaction s ≡ made_by st.tables st.rows st.next request (st.transaction s)
answered_at st s requests.TakeSnapshot = with_at-same st.transaction s _
answered_at st s (requests.Run checked) = with_at-same st.transaction s _
answered_at st s (requests.Lock table) = with_at-same st.transaction s _
answered_at st s requests.Commit = commit_at st s (st.transaction s)
answered_at st s requests.Rollback = with_at-same st.transaction s Absent
answered_at st s (requests.ReadSerial table) = with_at-same st.transaction s _
answered_at st s (requests.SetSerial table n) = with_at-same st.transaction s _

pub ahead_made : (st : Store) (s : ℕ) (asked : List Request) (x : Transaction) → ahead_by st s asked x ≡ made_all st.tables st.rows st.next asked x
ahead_made st s [] x = refl
ahead_made st s (request ∷ before) x =
    answered_at (in_store st s (ahead_by st s before x)) s request
    ∙ ap (made_by st.tables st.rows st.next request) (in_at st s (ahead_by st s before x) ∙ ahead_made st s before x)

-- how it stands here, where what is read there is the same
module _ (old new : Store) (s : ℕ) (tables : new.tables ≡ old.tables) (rows : new.rows ≡ old.rows) (next : new.next ≡ old.next) where
  pub ahead_same : (asked : List Request) (x : Transaction) → ahead_by new s asked x ≡ ahead_by old s asked x
  ahead_same asked x =
      ahead_made new s asked x
      ∙ ap (λ (ts : List TableDef). made_all ts new.rows new.next asked x) tables
      ∙ ap (λ (r : Rows). made_all old.tables r new.next asked x) rows
      ∙ ap (λ (f : ℕ → Option ℤ). made_all old.tables old.rows f asked x) next
      ∙ sym (ahead_made old s asked x)

  stands_with : (last : Transaction) (standing : Standing) (here there : Transaction) → Stands old s last standing here there → Stands new s last standing here there
  stands_with last Nowhere here there h = h
  stands_with last Fresh here there h = (h.0 ∙ ap (λ (r : Rows). Alive (begun r)) (sym rows), h.1)
  stands_with last (Ahead asked) here there h = subst (Alike here) (sym (ahead_same asked there)) h
  stands_with last Leaving here there h = h
  stands_with last Fallen here there h = h
  stands_with last Ending here there h = h

  pub stands_same : (last before : Transaction) (standing : Standing) (here there was : Transaction) → last ≡ before → there ≡ was
      → Stands old s before standing here was → Stands new s last standing here there
  stands_same last before standing here there was same is h =
      subst (λ (x : Transaction). Stands new s last standing here x) (sym is)
      (subst (λ (x : Transaction). Stands new s x standing here was) (sym same) (stands_with before standing here was h))
