-- A run has its result in the single run: where that is allowed, and what it leaves.
use Rattle.std.proofs.Common.{◌≡◌, ◌≢◌, ℕ, suc, ◌-◌, ◌≤◌, Bool, false, List, ◌∷◌, length, take, refl, sym, ap, ◌∙◌, subst, arith}
use Rattle.std.specs.Prelude.{Option, Some, None, if◌then◌else◌}
use Rattle.schema.specs.declared.catalogue.TableDef.{TableDef}
use Rattle.catalogue.specs.declared.checked.Checked.{Checked}
use Rattle.backend_trait.specs.declared.request.Request.{Request}
use Rattle.backend_trait.specs.declared.request.Request.TheVariants as requests
use Rattle.backend_trait.specs.declared.answer.Answer.{Answer}
use Rattle.backend_trait.specs.declared.answer.Answer.TheVariants as answers
use Rattle.backend_trait.specs.Keys.{Place}
use Rattle.backend_trait.specs.Rows.{Changes}
use Rattle.backend_trait.specs.Effect.{Given, Gives, these_places}
use Rattle.backend_trait.specs.Store.{Live, Transaction, Alive, Pending, Store, WhereLive, acted, answered, refused, is_refusal, given_to, drawn, where_live}
use Rattle.backend_trait.specs.Acts.{MayAnswer, MayRun, MayGive, IsFree, IsFresh, WhereSome, IsCrossed, given_of}
use Rattle.one_copy_model.specs.declared.deed.Deed.TheVariants.{Gets}
use Rattle.one_copy_model.specs.declared.deed.Entry.{Entry}
use Rattle.one_copy_model.specs.Marks.{with_mark, marked}
use Rattle.one_copy_model.specs.SingleRun.{store_after, after_answer, IsRun, deeds_of, deeds_since, of_session, answer_in}
use Rattle.one_copy_model.proofs.Passing.{Passes}
use Rattle.one_copy_model.proofs.Places.{with_at-same, with_at-other}
use Rattle.one_copy_model.proofs.Deeds.{entry, deed_passes, gets_is}
use Rattle.one_copy_laws.proofs.LooksEndings.{same_test}
use Rattle.one_copy_laws.proofs.RunsGiving.{IsResultWith, gives_rows, gives_count}

-- the table of answers allows it: it is what the statement gives, nothing that it wants is stale, and nobody else holds it
module _ (st : Store) (s : ℕ) (checked : Checked) (u : Live) (answer : Answer) (changes : Changes) (places : List Place)
    (is : st.transaction s ≡ Alive u) (gives : given_of st checked u ≡ Gives answer changes places) (form : IsResultWith answer changes)
    (fresh : IsFresh (these_places places) u) (free : IsFree st s (these_places places)) where
  gives_so : (a : Answer) → a ≡ answer → WhereLive (st.transaction s) (λ t. MayGive st s t a (given_of st checked t))
  gives_so a same =
      subst (λ (x : Transaction). WhereLive x (λ t. MayGive st s t a (given_of st checked t))) (sym is)
      (subst (MayGive st s u a) (sym gives) (same, fresh, free))

  run_allowed : (crossed : Type 0) → IsResultWith answer changes → MayRun st s crossed checked answer
  run_allowed crossed (gives_rows rows e none) = subst (MayRun st s crossed checked) (sym e) (gives_so (answers.Rows rows) (sym e))
  run_allowed crossed (gives_count n e) = subst (MayRun st s crossed checked) (sym e) (gives_so (answers.Count n) (sym e))

  pub may_give : (q : Pending) → q.request ≡ requests.Run checked → MayAnswer st s q answer
  may_give q request = by q.request q.crossed request
    where
      by : (r : Request) (crossed : Bool) → r ≡ requests.Run checked → MayAnswer st s (record { request = r; crossed = crossed }) answer
      by r crossed e =
          subst (λ (x : Request). MayAnswer st s (record { request = x; crossed = crossed }) answer) (sym e)
          (run_allowed (IsCrossed st s (record { request = requests.Run checked; crossed = crossed })) form)

-- it is the answer to the order
pub ran_since : (s n : ℕ) (h : List Entry) (answer : Answer) → n ≤ length h → answer_in (deeds_since s n (entry s (Gets answer) ∷ h)) ≡ Some answer
ran_since s n h answer most =
    let more : suc (length h) - n ≡ suc (length h - n) = omega (arith, most) in
    ap (λ k. answer_in (deeds_of s (take k (entry s (Gets answer) ∷ h)))) more
    ∙ ap (λ b. answer_in (of_session b (Gets answer) (deeds_of s (take (length h - n) h)))) (same_test s)

-- what it leaves: the session's transaction has more changes and holds more; nothing waits; the rows, the numbers and the others stay
module _ (tables : List TableDef) (s : ℕ) (h : List Entry) (checked : Checked) (u : Live) (answer : Answer) (changes : Changes) (places : List Place) (q : Pending)
    (is : (store_after tables h).transaction s ≡ Alive u) (waits : (store_after tables h).pending s ≡ Some q) (request : q.request ≡ requests.Run checked)
    (gives : given_of (store_after tables h) checked u ≡ Gives answer changes places) (plain : is_refusal answer ≡ false)
    (draws : drawn (store_after tables h).tables (store_after tables h).next (requests.Run checked) ≡ (store_after tables h).next) where
  abbrev old : Store
  old = store_after tables h

  abbrev x : Store
  x = answered old s (requests.Run checked)

  abbrev pub behind : Live
  behind = given_to (Gives answer changes places) u

  abbrev pub ran_to : List Entry
  ran_to = entry s (Gets answer) ∷ h

  abbrev new : Store
  new = store_after tables ran_to

  gets : after_answer old s answer ≡ x
  gets =
      gets_is old s answer q waits ∙ ap (λ (r : Request). acted old s r answer) request
      ∙ ap (λ (v : Bool). if v then refused old s (requests.Run checked) else answered old s (requests.Run checked)) plain

  abbrev runs : Live → Live
  runs t = given_to (given_of old checked t) t

  pub ran_there : new.transaction s ≡ Alive behind
  ran_there =
      ap (λ (y : Store). y.transaction s) gets ∙ with_at-same old.transaction s (where_live runs (old.transaction s))
      ∙ ap (where_live runs) is ∙ ap (λ (g : Given). Alive (given_to g u)) gives

  pub ran_others : (o : ℕ) → o ≢ s → new.transaction o ≡ old.transaction o
  ran_others o other = ap (λ (y : Store). y.transaction o) gets ∙ with_at-other old.transaction s (where_live runs (old.transaction s)) o other

  pub ran_next : new.next ≡ old.next
  ran_next = ap (λ (y : Store). y.next) gets ∙ draws

  pub ran_rows : new.rows ≡ old.rows
  ran_rows = ap (λ (y : Store). y.rows) gets

  pub ran_clear : new.pending s ≡ None
  ran_clear = ap (λ (y : Store). with_mark y s (y.pending s)) gets ∙ ap (with_mark x s) (with_at-same old.pending s None)

  pub ran_passes : (o : ℕ) → o ≢ s → Passes tables o h ran_to
  ran_passes o other =
      deed_passes tables s o other (Gets answer) h x (ap marked gets) refl draws
      (with_at-other old.transaction s (where_live runs (old.transaction s)) o other) (with_at-other old.pending s None o other)

  pub ran_run : MayAnswer old s q answer → IsRun tables h → IsRun tables ran_to
  ran_run may run = (subst (λ (p : Option Pending). WhereSome p (λ k. MayAnswer old s k answer)) (sym waits) may, run)
