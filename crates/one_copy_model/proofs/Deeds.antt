-- What one deed leaves in the single run: of the others, and of its own session.
use Rattle.std.proofs.Common.{◌≡◌, ◌≢◌, ℕ, suc, ◌-◌, ◌≤◌, Bool, true, false, ◌||◌, List, ◌∷◌, length, take, refl, sym, ap, ◌∙◌, subst, arith, inl, inr}
use Rattle.std.specs.Prelude.{◌==◌, ◌&&◌, Option, Some, None, if◌then◌else◌}
use Rattle.std.proofs.lemmas.Bool.Decides.{eqb_tells}
use Rattle.pool_base.specs.declared.code.Code.{Code}
use Rattle.schema.specs.declared.catalogue.TableDef.{TableDef}
use Rattle.backend_trait.specs.declared.request.Request.{Request}
use Rattle.backend_trait.specs.declared.answer.Answer.{Answer}
use Rattle.backend_trait.specs.Store.{Pending, Store, posted, acted}
use Rattle.backend_trait.specs.Acting.{acted_by}
use Rattle.one_copy_model.specs.declared.deed.Deed.{Deed}
use Rattle.one_copy_model.specs.declared.deed.Entry.{Entry}
use Rattle.one_copy_model.specs.Marks.{is_crossed, with_mark, marked}
use Rattle.one_copy_model.specs.SingleRun.{after_answer, done_by, store_after, deeds_of, deeds_since, of_session}
use Rattle.one_copy_model.specs.Standing.{leaving_of, asks_commit}
use Rattle.one_copy_model.specs.Invariant.{AtDeath, AtDeathIf}
use Rattle.one_copy_model.proofs.Places.{with_at-same}
use Rattle.one_copy_model.proofs.Passing.{WaitsOn, Passes}

abbrev pub entry : ℕ → Deed → Entry
entry s deed = record { session = s; deed = deed }

unequal : (a b : ℕ) → a ≢ b → (a == b) ≡ false
unequal a b other = elim (eqb_tells a b) [ inl p ↦ absurd (other p.1) | inr p ↦ p.0 ]

or_left : (a b : Bool) → a ≡ true → (a || b) ≡ true
or_left true b e = e
or_left false b e = absurd (cc)

marked_waits : (st : Store) (o : ℕ) (p : Option Pending) → WaitsOn p (with_mark st o p)
marked_waits st o None = refl
marked_waits st o (Some p) = (record { request = p.request; crossed = p.crossed || is_crossed st o p.request }, refl, refl, or_left p.crossed (is_crossed st o p.request))

-- a deed of another session, behind which only marks are set
module _ (tables : List TableDef) (s o : ℕ) (other : o ≢ s) (deed : Deed) (es : List Entry) where
  not_same : (s == o) ≡ false
  not_same = unequal s o (λ e. other (sym e))

  deeds_pass : (n : ℕ) → n ≤ length es → deeds_since o n (entry s deed ∷ es) ≡ deeds_since o n es
  deeds_pass n most =
      let more : suc (length es) - n ≡ suc (length es - n) = omega (arith, most) in
      ap (λ k. deeds_of o (take k (entry s deed ∷ es))) more ∙ ap (λ b. of_session b deed (deeds_of o (take (length es - n) es))) not_same

  deaths_pass : (code : Code) (since : ℕ) → AtDeath tables o code since es → AtDeath tables o code since (entry s deed ∷ es)
  deaths_pass code since d = subst (λ b. AtDeathIf tables b o code since (entry s deed) es (AtDeath tables o code since es)) (sym not_same) d

  leaving_passes : leaving_of tables o (entry s deed ∷ es) ≡ leaving_of tables o es
  leaving_passes = ap (λ b. if b && asks_commit deed then (store_after tables es).transaction o else leaving_of tables o es) not_same

  pub deed_passes : (x : Store) → done_by (store_after tables es) s deed ≡ marked x
      → x.rows ≡ (store_after tables es).rows → x.next ≡ (store_after tables es).next → x.transaction o ≡ (store_after tables es).transaction o → x.pending o ≡ (store_after tables es).pending o
      → Passes tables o es (entry s deed ∷ es)
  deed_passes x is rows next transaction pending = record {
    rows = ap (λ (y : Store). y.rows) is ∙ rows;
    next = ap (λ (y : Store). y.next) is ∙ next;
    transaction = ap (λ (y : Store). y.transaction o) is ∙ transaction;
    waits = subst (λ (y : Option Pending). WaitsOn ((store_after tables es).pending o) y) (sym (ap (λ (y : Store). y.pending o) is)) (subst (λ (y : Option Pending). WaitsOn y (with_mark x o (x.pending o))) pending (marked_waits x o (x.pending o)));
    leaving = leaving_passes;
    longer = (let z : length es ≤ suc (length es) = omega arith in z);
    deeds = deeds_pass;
    deaths = deaths_pass;
  }

-- an answer is of the request that waits
pub gets_is : (st : Store) (s : ℕ) (answer : Answer) (p : Pending) → st.pending s ≡ Some p → after_answer st s answer ≡ acted st s p.request answer
gets_is st s answer p e = ap (acted_by st s answer) e

-- what was asked waits there
pub asked_waits : (st : Store) (s : ℕ) (request : Request) → (marked (posted st s request)).pending s ≡ Some (record { request = request; crossed = is_crossed (posted st s request) s request })
asked_waits st s request = ap (with_mark (posted st s request) s) (with_at-same st.pending s (Some (record { request = request; crossed = false })))
