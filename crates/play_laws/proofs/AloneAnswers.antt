-- Where one session alone works, each request has the answer that suits it, or is refused for want of memory.
use Rattle.std.proofs.Common.{◌≡◌, ℕ, Bool, true, false, List, [], ◌∷◌, refl, sym, ap, ◌∙◌, subst, inl, inr}
use Rattle.std.specs.Prelude.{◌⊎◌, Option, Some, None}
use Rattle.pool_base.specs.declared.code.Code.{Code}
use Rattle.schema.specs.declared.catalogue.TableDef.{TableDef}
use Rattle.catalogue.specs.declared.checked.Checked.{Checked}
use Rattle.backend_trait.specs.declared.request.Request.{Request}
use Rattle.backend_trait.specs.declared.request.Request.TheVariants as requests
use Rattle.backend_trait.specs.declared.answer.Answer.{Answer}
use Rattle.backend_trait.specs.declared.answer.Answer.TheVariants as answers
use Rattle.backend_trait.specs.Keys.{Place}
use Rattle.backend_trait.specs.Rows.{Rows, laid_over}
use Rattle.backend_trait.specs.Effect.{Given, Fails, Gives, effect_of, table_in}
use Rattle.backend_trait.specs.Alone.{IsEffect}
use Rattle.backend_trait.specs.Store.{Live, Transaction, Absent, Alive, Dead, Pending, Store, WhereLive, next_for}
use Rattle.backend_trait.specs.Acts.{MayAnswer, MayGive, MayRefuse, MayRun, MayLock, MaySnapshot, IsCrossed, WhereSome, given_of}
use Rattle.one_copy_model.specs.declared.deed.Deed.{Deed}
use Rattle.one_copy_model.specs.declared.deed.Deed.TheVariants.{Asks, Gets, Falls}
use Rattle.one_copy_model.specs.declared.deed.Entry.{Entry}
use Rattle.one_copy_model.specs.SingleRun.{store_after, IsRun, MayDo}
use Rattle.play_laws.specs.Alone.{AreOf, AreAnswered, IsDone, WantsMemory, Suits, given_alone}
use Rattle.play_laws.proofs.AloneStores.{Own, Lone, lone_after}

same_given : (st : Store) (checked : Checked) (t : Live) → t.base ≡ st.rows → given_of st checked t ≡ given_alone st checked t
same_given st checked t base = ap (λ (rows : Rows). (effect_of st.tables checked (laid_over t.changes rows) (next_for st.next (table_in checked))).given) base

module _ (st : Store) (s : ℕ) (t : Live) (answer : Answer) where
  gives : (g : Given) → MayGive st s t answer g → IsEffect g answer
  gives (Fails code) may = absurd may
  gives (Gives result changes places) may = may.0

true_not_false : (b : Bool) → b ≡ false → b ≡ true → ⊥
true_not_false b is_false is_true = let z : false ≡ true = sym is_false ∙ is_true in cc

refuses : (crossed : Type 0) (t : Live) (table : Option ℕ) (code : Code) → (crossed → ⊥) → ((p : Place) → t.stale p ≡ false) → (g : Given) → MayRefuse crossed t table code g
    → IsEffect g (answers.Refused code) ⊎ WantsMemory (answers.Refused code)
refuses crossed t table code alone fresh (Fails bytes) (inl e) = inl (code, refl, e)
refuses crossed t table code alone fresh (Fails bytes) (inr memory) = inr (record { code = code; is = refl; memory = memory })
refuses crossed t table code alone fresh (Gives result changes places) (inl h) = absurd (true_not_false (t.stale h.1.0) (fresh h.1.0) h.1.2)
refuses crossed t table code alone fresh (Gives result changes places) (inr (inl h)) = absurd (alone h.1)
refuses crossed t table code alone fresh (Gives result changes places) (inr (inr memory)) = inr (record { code = code; is = refl; memory = memory })

where_live_done : (x : Transaction) (answer : Answer) → WhereLive x (λ t. answer ≡ answers.Done) → answer ≡ answers.Done
where_live_done Absent answer h = absurd h
where_live_done (Alive t) answer h = h
where_live_done Dead answer h = absurd h

module _ (s : ℕ) (st : Store) (h : Lone s st) where
  uncrossed : (p : Pending) → p.crossed ≡ false → IsCrossed st s p → ⊥
  uncrossed p not (inl e) = true_not_false p.crossed not e
  uncrossed p not (inr c) = let z : None ≡ Some c.its = sym (h.idle c.other c.another) ∙ c.waits in cc

  module _ (checked : Checked) where
    abbrev Effects : Answer → Transaction → Type 0
    Effects answer x = WhereLive x (λ (t : Live). IsEffect (given_alone st checked t) answer) ⊎ WantsMemory answer

    results : (answer : Answer) (x : Transaction) → Own st.rows x → WhereLive x (λ (t : Live). MayGive st s t answer (given_of st checked t)) → Effects answer x
    results answer Absent own may = absurd may
    results answer (Alive t) own may = inl (subst (λ (g : Given). IsEffect g answer) (same_given st checked t (own.base t refl)) (gives st s t answer (given_of st checked t) may))
    results answer Dead own may = absurd may

    refusals : (code : Code) (crossed : Type 0) → (crossed → ⊥) → (x : Transaction) → Own st.rows x → WhereLive x (λ (t : Live). MayRefuse crossed t (table_in checked) code (given_of st checked t)) → Effects (answers.Refused code) x
    refusals code crossed alone Absent own may = absurd may
    refusals code crossed alone (Alive t) own may = elim (refuses crossed t (table_in checked) code alone (own.fresh t refl) (given_of st checked t) may) [
      | inl e ↦ inl (subst (λ (g : Given). IsEffect g (answers.Refused code)) (same_given st checked t (own.base t refl)) e)
      | inr m ↦ inr m
    ]
    refusals code crossed alone Dead own may = absurd may

    runs : (crossed : Type 0) → (crossed → ⊥) → (answer : Answer) → MayRun st s crossed checked answer → Effects answer (st.transaction s)
    runs crossed alone answers.Began may = absurd may
    runs crossed alone (answers.Rows rows) may = results (answers.Rows rows) (st.transaction s) h.own may
    runs crossed alone (answers.Count n) may = results (answers.Count n) (st.transaction s) h.own may
    runs crossed alone answers.Locked may = absurd may
    runs crossed alone answers.Done may = absurd may
    runs crossed alone (answers.Serial n) may = absurd may
    runs crossed alone (answers.Refused code) may = refusals code crossed alone (st.transaction s) h.own may

  locks : (crossed : Type 0) → (crossed → ⊥) → (table : ℕ) (answer : Answer) → MayLock st s crossed table answer → answer ≡ answers.Locked
  locks crossed alone table answers.Began may = absurd may
  locks crossed alone table (answers.Rows rows) may = absurd may
  locks crossed alone table (answers.Count n) may = absurd may
  locks crossed alone table answers.Locked may = refl
  locks crossed alone table answers.Done may = absurd may
  locks crossed alone table (answers.Serial n) may = absurd may
  locks crossed alone table (answers.Refused code) may = absurd (alone may.1)

  begins : (answer : Answer) → MaySnapshot answer → (answer ≡ answers.Began) ⊎ WantsMemory answer
  begins answers.Began may = inl refl
  begins (answers.Rows rows) may = absurd may
  begins (answers.Count n) may = absurd may
  begins answers.Locked may = absurd may
  begins answers.Done may = absurd may
  begins (answers.Serial n) may = absurd may
  begins (answers.Refused code) may = inr (record { code = code; is = refl; memory = may })

  suits : (request : Request) (crossed : Bool) → crossed ≡ false → (answer : Answer) → MayAnswer st s (record { request = request; crossed = crossed }) answer → Suits st s request answer ⊎ WantsMemory answer
  suits requests.TakeSnapshot crossed not answer may = begins answer may
  suits (requests.Run checked) crossed not answer may = runs checked (IsCrossed st s (record { request = requests.Run checked; crossed = crossed })) (uncrossed (record { request = requests.Run checked; crossed = crossed }) not) answer may
  suits (requests.Lock table) crossed not answer may =
      inl (locks (IsCrossed st s (record { request = requests.Lock table; crossed = crossed })) (uncrossed (record { request = requests.Lock table; crossed = crossed }) not) table answer may)
  suits requests.Commit crossed not answer may = inl (where_live_done (st.transaction s) answer may)
  suits requests.Rollback crossed not answer may = inl may
  suits (requests.ReadSerial table) crossed not answer may = inl may
  suits (requests.SetSerial table n) crossed not answer may = inl may

  waiting : (answer : Answer) (x : Option Pending) → st.pending s ≡ x → WhereSome x (λ (p : Pending). MayAnswer st s p answer) → WhereSome x (λ (p : Pending). Suits st s p.request answer) ⊎ WantsMemory answer
  waiting answer None at may = absurd may
  waiting answer (Some p) at may = suits p.request p.crossed (h.uncrossed p at) answer may

  does : (deed : Deed) → MayDo st s deed → IsDone st s deed
  does (Asks request) may = tt
  does (Gets answer) may = waiting answer (st.pending s) refl may
  does (Falls None) may = tt
  does (Falls (Some code)) may = waiting (answers.Refused code) (st.pending s) refl may

pub alone_answered : (tables : List TableDef) (s : ℕ) (history : List Entry) → IsRun tables history → AreOf s history → AreAnswered tables s history
alone_answered tables s [] run all = tt
alone_answered tables s (e ∷ es) run all =
    (does s (store_after tables es) (lone_after tables s es all.1) e.deed (subst (λ (k : ℕ). MayDo (store_after tables es) k e.deed) all.0 run.0), alone_answered tables s es run.1 all.1)
