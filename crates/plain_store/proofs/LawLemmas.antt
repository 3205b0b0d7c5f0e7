-- The laws of a store.
use Rattle.std.proofs.Common.{◌≡◌, ℕ, Bool, true, false, List, get_or, refl, sym, ap, ◌∙◌, inl, inr, codes, eq-eqb}
use Rattle.std.specs.Prelude.{Option, Some, None}
use Rattle.std.specs.FinMap as fin
use Rattle.pool_base.specs.declared.code.Code.{Code}
use Rattle.sql_eval.specs.declared.row.Row.{Row}
use Rattle.catalogue.specs.declared.checked.Checked.{Checked}
use Rattle.backend_trait.specs.declared.request.Request.TheVariants as requests
use Rattle.backend_trait.specs.declared.answer.Answer.{Answer}
use Rattle.backend_trait.specs.declared.answer.Answer.TheVariants as answers
use Rattle.backend_trait.specs.Keys.{Place}
use Rattle.backend_trait.specs.Effect.{Given, Fails, Gives, table_in}
use Rattle.backend_trait.specs.Store.{Store, Live, Transaction, Absent, Alive, Dead, WhereLive, committed_by, acted, is_refusal}
use Rattle.backend_trait.specs.Acts.{MayGive, MayRefuse, MayRun, given_of}
use Rattle.backend_trait.proofs.RowLaws.{row_over, get-laid_over}

not_deadlock : codes "40001" ≡ codes "40P01" → ⊥
not_deadlock e = let f : false ≡ true = eq-eqb 48 80 (ap (λ (l : List ℕ). get_or l 2 0) e) in cc

not_memory : codes "40001" ≡ codes "53200" → ⊥
not_memory e = let f : false ≡ true = eq-eqb 52 53 (ap (λ (l : List ℕ). get_or l 0 0) e) in cc

given_clash : (st : Store) (s : ℕ) (crossed : Type 0) (t : Live) (table : Option ℕ) (answer : Answer) (code : Code) (g : Given) → code.bytes ≡ codes "40001" → MayGive st s t answer g → MayRefuse crossed t table code g → ⊥
given_clash st s crossed t table answer code (Fails bytes) is may refused = may
given_clash st s crossed t table answer code (Gives result changes wants) is may refused = elim refused [
  | inl h ↦ let f : true ≡ false = sym h.1.2 ∙ may.1 h.1.0 h.1.1 in absurd (cc)
  | inr more ↦ elim more [
    | inl h ↦ not_deadlock (sym is ∙ h.0)
    | inr h ↦ not_memory (sym is ∙ h)
  ]
]

live_clash : (st : Store) (s : ℕ) (crossed : Type 0) (checked : Checked) (answer : Answer) (code : Code) (x : Transaction) → code.bytes ≡ codes "40001"
    → WhereLive x (λ t. MayGive st s t answer (given_of st checked t)) → WhereLive x (λ t. MayRefuse crossed t (table_in checked) code (given_of st checked t)) → ⊥
live_clash st s crossed checked answer code Absent is may refused = may
live_clash st s crossed checked answer code (Alive t) is may refused = given_clash st s crossed t (table_in checked) answer code (given_of st checked t) is may refused
live_clash st s crossed checked answer code Dead is may refused = may

pub no_choice : (st : Store) (s : ℕ) (crossed : Type 0) (checked : Checked) (answer : Answer) (code : Code) → is_refusal answer ≡ false → MayRun st s crossed checked answer → code.bytes ≡ codes "40001" → MayRun st s crossed checked (answers.Refused code) → ⊥
no_choice st s crossed checked answers.Began code r may is refused = may
no_choice st s crossed checked (answers.Rows rows) code r may is refused = live_clash st s crossed checked (answers.Rows rows) code (st.transaction s) is may refused
no_choice st s crossed checked (answers.Count n) code r may is refused = live_clash st s crossed checked (answers.Count n) code (st.transaction s) is may refused
no_choice st s crossed checked answers.Locked code r may is refused = may
no_choice st s crossed checked answers.Done code r may is refused = may
no_choice st s crossed checked (answers.Serial n) code r may is refused = may
no_choice st s crossed checked (answers.Refused other) code r may is refused = absurd (let f : true ≡ false = r in cc)

pub keeps_rows : (st : Store) (s : ℕ) (t : Live) (place : Place) → st.transaction s ≡ Alive t → fin.get t.changes place ≡ None → fin.get (acted st s requests.Commit answers.Done).rows place ≡ fin.get st.rows place
keeps_rows st s t place is none =
    ap (λ (x : Transaction). fin.get (committed_by st s x).rows place) is
    ∙ get-laid_over t.changes st.rows place
    ∙ ap (λ (c : Option (Option Row)). row_over c (fin.get st.rows place)) none
