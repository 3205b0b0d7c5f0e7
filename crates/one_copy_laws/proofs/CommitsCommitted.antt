-- What the COMMIT of a transaction with changes leaves in the single run.
use Rattle.std.proofs.Common.{◌≡◌, ◌≢◌, ℕ, suc, ◌-◌, ◌≤◌, Bool, true, false, ◌||◌, List, ◌∷◌, length, take, refl, sym, ap, ◌∙◌, subst, arith, inl, inr}
use Rattle.std.specs.Prelude.{◌==◌, ◌&&◌, Option, Some, None, if◌then◌else◌}
use Rattle.std.proofs.lemmas.Bool.Decides.{eqb_tells}
use Rattle.pool_base.specs.declared.code.Code.{Code}
use Rattle.schema.specs.declared.catalogue.TableDef.{TableDef}
use Rattle.backend_trait.specs.declared.request.Request.TheVariants as requests
use Rattle.backend_trait.specs.declared.answer.Answer.TheVariants as answers
use Rattle.backend_trait.specs.Rows.{laid_over}
use Rattle.backend_trait.specs.Store.{Live, Transaction, Absent, Alive, Pending, Store, WhereLive, where_live, made_stale, committed_by}
use Rattle.backend_trait.specs.Acts.{MayAnswer, WhereSome}
use Rattle.one_copy_model.specs.declared.deed.Deed.TheVariants.{Asks, Gets}
use Rattle.one_copy_model.specs.declared.deed.Entry.{Entry}
use Rattle.one_copy_model.specs.Marks.{is_crossed, with_mark}
use Rattle.one_copy_model.specs.SingleRun.{after_answer, store_after, IsRun, deeds_of, deeds_since, of_session}
use Rattle.one_copy_model.specs.Places.{commits}
use Rattle.one_copy_model.specs.Deaths.{recorded}
use Rattle.one_copy_model.specs.Standing.{leaving_of, asks_commit}
use Rattle.one_copy_model.specs.Invariant.{AtDeath, AtDeathIf}
use Rattle.one_copy_model.proofs.Places.{with_at-same, with_at-other}
use Rattle.one_copy_model.proofs.Passing.{WaitsOn, Passes}
use Rattle.one_copy_model.proofs.Deeds.{entry, gets_is}
use Rattle.one_copy_model.proofs.Endings.{asked, asked_passes, its, waits}
use Rattle.one_copy_laws.proofs.CommitsGrowing.{Grows}
use Rattle.one_copy_laws.proofs.CommitsSteady.{grown}

unequal : (a b : ℕ) → a ≢ b → (a == b) ≡ false
unequal a b other = elim (eqb_tells a b) [ inl p ↦ absurd (other p.1) | inr p ↦ p.0 ]

itself : (a : ℕ) → (a == a) ≡ true
itself a = elim (eqb_tells a a) [ inl p ↦ p.0 | inr p ↦ absurd (p.1 refl) ]

or_left : (a b : Bool) → a ≡ true → (a || b) ≡ true
or_left true b e = e
or_left false b e = absurd (let z : false ≡ true = e in cc)

marked_waits : (st : Store) (o : ℕ) (p : Option Pending) → WaitsOn p (with_mark st o p)
marked_waits st o None = refl
marked_waits st o (Some p) = (record { request = p.request; crossed = p.crossed || is_crossed st o p.request }, refl, refl, or_left p.crossed (is_crossed st o p.request))

waits_trans : (x y z : Option Pending) → WaitsOn x y → WaitsOn y z → WaitsOn x z
waits_trans None y z a b = subst (λ (v : Option Pending). WaitsOn v z) a b
waits_trans (Some p) y z a b =
    let c = subst (λ (v : Option Pending). WaitsOn v z) a.1 b in
    (c.0, c.1, c.2 ∙ a.2, λ e. c.3 (a.3 e))

module _ (tables : List TableDef) (s : ℕ) (h : List Entry) (u : Live) (is : (store_after tables h).transaction s ≡ Alive u) where
  abbrev old : Store
  old = store_after tables h

  abbrev es : List Entry
  es = asked tables s h requests.Commit

  abbrev st : Store
  st = store_after tables es

  abbrev left : Store
  left = committed_by st s (Alive u)

  abbrev last : Entry
  last = entry s (Gets answers.Done)

  abbrev pub committed_to : List Entry
  committed_to = last ∷ es

  abbrev new : Store
  new = store_after tables committed_to

  pub committed_is : recorded s commits h ≡ committed_to
  committed_is = refl

  gets : after_answer st s answers.Done ≡ left
  gets = gets_is st s answers.Done (its tables s h requests.Commit) (waits tables s h requests.Commit) ∙ ap (committed_by st s) is

  pub committed_rows : new.rows ≡ laid_over u.changes old.rows
  committed_rows = ap (λ (y : Store). y.rows) gets

  pub committed_next : new.next ≡ old.next
  committed_next = ap (λ (y : Store). y.next) gets

  pub committed_none : new.transaction s ≡ Absent
  committed_none = ap (λ (y : Store). y.transaction s) gets ∙ with_at-same (λ o. where_live (made_stale u.changes) (old.transaction o)) s Absent

  pub committed_others : (o : ℕ) → o ≢ s → new.transaction o ≡ grown u.changes (old.transaction o)
  committed_others o other = ap (λ (y : Store). y.transaction o) gets ∙ with_at-other (λ o. where_live (made_stale u.changes) (old.transaction o)) s Absent o other

  pub committed_clear : new.pending s ≡ None
  committed_clear = ap (λ (y : Store). with_mark y s (y.pending s)) gets ∙ ap (with_mark left s) (with_at-same st.pending s None)

  pub committed_run : old.pending s ≡ None → IsRun tables h → IsRun tables committed_to
  committed_run clear run = (
    subst (λ (x : Option Pending). WhereSome x (λ p. MayAnswer st s p answers.Done)) (sym (waits tables s h requests.Commit))
        (subst (λ (x : Transaction). WhereLive x (λ t. answers.Done ≡ answers.Done)) (sym is) refl),
    ((subst (λ (x : Transaction). WhereLive x (λ t. Unit {0})) (sym is) tt, clear), run),
  )

  -- the transaction with which it commits is that before
  pub committed_leaves : leaving_of tables s committed_to ≡ Alive u
  committed_leaves =
      ap (λ (b : Bool). if b && asks_commit last.deed then st.transaction s else leaving_of tables s es) (itself s)
      ∙ ap (λ (b : Bool). if b && asks_commit (Asks requests.Commit) then old.transaction s else leaving_of tables s h) (itself s)
      ∙ is

  -- its own deeds
  pub committed_deeds : (n : ℕ) → n ≤ length h → deeds_since s n committed_to ≡ Gets answers.Done ∷ Asks requests.Commit ∷ deeds_since s n h
  committed_deeds n most =
      let two : suc (suc (length h)) - n ≡ suc (suc (length h - n)) = omega (arith, most) in
      ap (λ k. deeds_of s (take k committed_to)) two
      ∙ ap (λ (b : Bool). of_session b (Gets answers.Done) (of_session b (Asks requests.Commit) (deeds_of s (take (length h - n) h)))) (itself s)

  -- the others
  module _ (o : ℕ) (other : o ≢ s) where
    not_same : (s == o) ≡ false
    not_same = unequal s o (λ e. other (sym e))

    asks : Passes tables o h es
    asks = asked_passes tables s h requests.Commit o other

    waits_on : WaitsOn (st.pending o) (new.pending o)
    waits_on =
        subst (λ (y : Option Pending). WaitsOn (st.pending o) y) (sym (ap (λ (y : Store). with_mark y o (y.pending o)) gets))
        (subst (λ (y : Option Pending). WaitsOn y (with_mark left o (left.pending o))) (with_at-other st.pending s None o other) (marked_waits left o (left.pending o)))

    leaving_on : leaving_of tables o committed_to ≡ leaving_of tables o es
    leaving_on = ap (λ (b : Bool). if b && asks_commit last.deed then st.transaction o else leaving_of tables o es) not_same

    deeds_on : (n : ℕ) → n ≤ length es → deeds_since o n committed_to ≡ deeds_since o n es
    deeds_on n most =
        let more : suc (length es) - n ≡ suc (length es - n) = omega (arith, most) in
        ap (λ k. deeds_of o (take k committed_to)) more ∙ ap (λ (b : Bool). of_session b (Gets answers.Done) (deeds_of o (take (length es - n) es))) not_same

    deaths_on : (code : Code) (since : ℕ) → AtDeath tables o code since es → AtDeath tables o code since committed_to
    deaths_on code since d = subst (λ (b : Bool). AtDeathIf tables b o code since last es (AtDeath tables o code since es)) (sym not_same) d

    pub committed_grows : Grows tables u.changes o h committed_to
    committed_grows = record {
      next = committed_next;
      transaction = committed_others o other;
      waits = waits_trans (old.pending o) (st.pending o) (new.pending o) asks.waits waits_on;
      leaving = leaving_on ∙ asks.leaving;
      longer = (let z : length h ≤ length committed_to = omega arith in z);
      deeds = λ n most. deeds_on n (let z : n ≤ length es = omega (arith, most) in z) ∙ asks.deeds n most;
      deaths = λ code since d. deaths_on code since (asks.deaths code since d);
    }
