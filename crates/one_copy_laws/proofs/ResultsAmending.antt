-- A death is amended: the transaction has died before, and a closing Look takes the code that was its reason.
use Rattle.std.proofs.Common.{◌≡◌, ◌≢◌, ℕ, zero, suc, ◌-◌, ◌≤◌, Bool, true, false, List, [], ◌∷◌, length, take, refl, sym, ap, ◌∙◌, subst, arith, inl, inr}
use Rattle.std.specs.Prelude.{◌==◌, ◌&&◌, Option, Some, None, if◌then◌else◌}
use Rattle.std.proofs.lemmas.Bool.Decides.{eqb_tells}
use Rattle.pool_base.specs.declared.code.Code.{Code}
use Rattle.schema.specs.declared.catalogue.TableDef.{TableDef}
use Rattle.backend_trait.specs.declared.request.Request.{Request}
use Rattle.backend_trait.specs.declared.request.Request.TheVariants as requests
use Rattle.backend_trait.specs.declared.answer.Answer.TheVariants as answers
use Rattle.backend_trait.specs.Store.{Transaction, Absent, Pending, Store}
use Rattle.backend_trait.specs.Acts.{MayAnswer, IsCrossed, WhereSome}
use Rattle.one_copy_model.specs.declared.deed.Deed.{Deed}
use Rattle.one_copy_model.specs.declared.deed.Deed.TheVariants.{Asks, Gets, Falls}
use Rattle.one_copy_model.specs.declared.deed.Entry.{Entry}
use Rattle.one_copy_model.specs.SingleRun.{store_after, done_by, IsRun, MayDo, is_fall, amended, amended_at, deeds_of, deeds_since, of_session, answer_in}
use Rattle.one_copy_model.specs.Standing.{leaving_of, asks_commit}
use Rattle.one_copy_model.specs.Invariant.{AtDeath, AtDeathIf, MayRefuseTo, MayCode}
use Rattle.one_copy_model.proofs.Passing.{WaitsOn, Passes, refuses_same}
use Rattle.one_copy_model.proofs.Deeds.{entry}
use Rattle.one_copy_model.proofs.Endings.{Ends}
use Rattle.one_copy_model.proofs.Livings.{and_true}
use Rattle.one_copy_laws.proofs.LooksEndings.{same_test}

-- a code that the single run may give is an answer to what waits there
code_answers : (st : Store) (s : ℕ) (request : Request) (crossed : Bool) (code : Code) → MayRefuseTo st s (IsCrossed st s (record { request = request; crossed = crossed })) request code
    → MayAnswer st s (record { request = request; crossed = crossed }) (answers.Refused code)
code_answers st s (requests.Run checked) crossed code h = h
code_answers st s (requests.Lock table) crossed code h = h
code_answers st s requests.TakeSnapshot crossed code h = absurd h
code_answers st s requests.Commit crossed code h = absurd h
code_answers st s requests.Rollback crossed code h = absurd h
code_answers st s (requests.ReadSerial table) crossed code h = absurd h
code_answers st s (requests.SetSerial table n) crossed code h = absurd h

pub may_fall : (tables : List TableDef) (h : List Entry) (s : ℕ) (code : Code) → MayCode tables h s code → MayDo (store_after tables h) s (Falls (Some code))
may_fall tables h s code m =
    let st : Store = store_after tables h in
    subst (λ (x : Option Pending). WhereSome x (λ p. MayAnswer st s p (answers.Refused code))) (sym m.1)
    (code_answers st s m.0.request m.0.crossed code
    (refuses_same st st s refl refl refl (m.0.crossed ≡ true) (IsCrossed st s m.0) m.0.request code (λ e. inl e) m.2))

-- it dies by the code
abbrev pub dies_to : ℕ → List Entry → Code → List Entry
dies_to s h code = entry s (Falls (Some code)) ∷ h

pub code_since : (s n : ℕ) (h : List Entry) (code : Code) → n ≤ length h → answer_in (deeds_since s n (dies_to s h code)) ≡ Some (answers.Refused code)
code_since s n h code most =
    let more : suc (length h) - n ≡ suc (length h - n) = omega (arith, most) in
    ap (λ k. answer_in (deeds_of s (take k (dies_to s h code)))) more
    ∙ ap (λ b. answer_in (of_session b (Falls (Some code)) (deeds_of s (take (length h - n) h)))) (same_test s)

number : (a s : ℕ) → (a == s) ≡ true → a ≡ s
number a s e = elim (eqb_tells a s) [ inl p ↦ p.1 | inr p ↦ absurd (let z : false ≡ true = sym p.0 ∙ e in cc) ]

unequal : (a b : ℕ) → a ≢ b → (a == b) ≡ false
unequal a b other = elim (eqb_tells a b) [ inl p ↦ absurd (other p.1) | inr p ↦ p.0 ]

and_none : (x : Bool) → (x && false) ≡ false
and_none true = refl
and_none false = refl

waits_same : (x : Option Pending) → WaitsOn x x
waits_same None = refl
waits_same (Some p) = (p, refl, refl, λ e. e)

fall_asks : (deed : Deed) → is_fall deed ≡ true → asks_commit deed ≡ false
fall_asks (Falls code) e = refl
fall_asks (Asks request) e = absurd (let z : false ≡ true = e in cc)
fall_asks (Gets answer) e = absurd (let z : false ≡ true = e in cc)

module _ (tables : List TableDef) (s : ℕ) (code : Code) where
  fall_same : (st : Store) (a : ℕ) (deed : Deed) → is_fall deed ≡ true → done_by st a (Falls (Some code)) ≡ done_by st a deed
  fall_same st a (Falls other) e = refl
  fall_same st a (Asks request) e = absurd (let z : false ≡ true = e in cc)
  fall_same st a (Gets answer) e = absurd (let z : false ≡ true = e in cc)

  amended_store : (h : List Entry) → store_after tables (amended s code h) ≡ store_after tables h
  amended_store [] = refl
  amended_store (e ∷ es) = by ((e.session == s) && is_fall e.deed) refl (amended_store es)
    where
      by : (v : Bool) → ((e.session == s) && is_fall e.deed) ≡ v → store_after tables (amended s code es) ≡ store_after tables es
          → store_after tables (amended_at v s code e es (amended s code es)) ≡ done_by (store_after tables es) e.session e.deed
      by true is rest =
          let both = and_true (e.session == s) (is_fall e.deed) is in
          ap (λ (a : ℕ). done_by (store_after tables es) a (Falls (Some code))) (sym (number e.session s both.0)) ∙ fall_same (store_after tables es) e.session e.deed both.1
      by false is rest = ap (λ (st : Store). done_by st e.session e.deed) rest

  amended_length : (h : List Entry) → length (amended s code h) ≡ length h
  amended_length [] = refl
  amended_length (e ∷ es) = by ((e.session == s) && is_fall e.deed) (amended_length es)
    where
      by : (v : Bool) → length (amended s code es) ≡ length es → length (amended_at v s code e es (amended s code es)) ≡ suc (length es)
      by true rest = refl
      by false rest = ap suc rest

  amended_leaving : (o : ℕ) (h : List Entry) → leaving_of tables o (amended s code h) ≡ leaving_of tables o h
  amended_leaving o [] = refl
  amended_leaving o (e ∷ es) = by ((e.session == s) && is_fall e.deed) refl (amended_leaving o es)
    where
      by : (v : Bool) → ((e.session == s) && is_fall e.deed) ≡ v → leaving_of tables o (amended s code es) ≡ leaving_of tables o es
          → leaving_of tables o (amended_at v s code e es (amended s code es)) ≡ (if (e.session == o) && asks_commit e.deed then (store_after tables es).transaction o else leaving_of tables o es)
      by true is rest =
          let both = and_true (e.session == s) (is_fall e.deed) is in
          ap (λ (x : Bool). if x then (store_after tables es).transaction o else leaving_of tables o es) (and_none (s == o))
          ∙ sym (ap (λ (x : Bool). if (e.session == o) && x then (store_after tables es).transaction o else leaving_of tables o es) (fall_asks e.deed both.1)
          ∙ ap (λ (x : Bool). if x then (store_after tables es).transaction o else leaving_of tables o es) (and_none (e.session == o)))
      by false is rest =
          ap (λ (st : Store). if (e.session == o) && asks_commit e.deed then st.transaction o else leaving_of tables o (amended s code es)) (amended_store es)
          ∙ ap (λ (x : Transaction). if (e.session == o) && asks_commit e.deed then (store_after tables es).transaction o else x) rest

  may_same : (a : Store) (b : Store) (o : ℕ) (other : Code) → a ≡ b → ((p : Pending) × (b.pending o ≡ Some p) × MayRefuseTo b o (p.crossed ≡ true) p.request other)
      → (p : Pending) × (a.pending o ≡ Some p) × MayRefuseTo a o (p.crossed ≡ true) p.request other
  may_same a b o other same m = subst (λ (st : Store). (p : Pending) × (st.pending o ≡ Some p) × MayRefuseTo st o (p.crossed ≡ true) p.request other) (sym same) m

  -- the latest deed of the session is a death, with that reason
  death_since : (since : ℕ) (h : List Entry) → AtDeath tables s code since h → since ≤ length h
  death_since since [] d = absurd d
  death_since since (e ∷ es) d = by (e.session == s) (death_since since es) d
    where
      by : (v : Bool) → (AtDeath tables s code since es → since ≤ length es) → AtDeathIf tables v s code since e es (AtDeath tables s code since es) → since ≤ suc (length es)
      by true rest f = let most = f.1 in omega (arith, most)
      by false rest f = let most = rest f in omega (arith, most)

  amended_run : (since : ℕ) (h : List Entry) → AtDeath tables s code since h → IsRun tables h → IsRun tables (amended s code h)
  amended_run since [] d run = absurd d
  amended_run since (e ∷ es) d run = by (e.session == s) (amended_run since es) d run
    where
      by : (v : Bool) → (AtDeath tables s code since es → IsRun tables es → IsRun tables (amended s code es))
          → AtDeathIf tables v s code since e es (AtDeath tables s code since es) → IsRun tables (e ∷ es) → IsRun tables (amended_at (v && is_fall e.deed) s code e es (amended s code es))
      by true rest f run = subst (λ (x : Bool). IsRun tables (amended_at x s code e es (amended s code es))) (sym f.0) (may_fall tables es s code f.2, run.1)
      by false rest f run = (subst (λ (st : Store). MayDo st e.session e.deed) (sym (amended_store es)) run.0, rest f run.1)

  pub amended_says : (since : ℕ) (h : List Entry) → AtDeath tables s code since h → answer_in (deeds_since s since (amended s code h)) ≡ Some (answers.Refused code)
  amended_says since [] d = absurd d
  amended_says since (e ∷ es) d = by (e.session == s) refl (amended_says since es) d
    where
      later : List Entry
      later = amended s code es

      by : (v : Bool) → (e.session == s) ≡ v → (AtDeath tables s code since es → answer_in (deeds_since s since (amended s code es)) ≡ Some (answers.Refused code))
          → AtDeathIf tables v s code since e es (AtDeath tables s code since es) → answer_in (deeds_since s since (amended_at (v && is_fall e.deed) s code e es (amended s code es))) ≡ Some (answers.Refused code)
      by true is rest f = ap (λ (x : Bool). answer_in (deeds_since s since (amended_at x s code e es (amended s code es)))) f.0 ∙ code_since s since es code f.1
      by false is rest f =
          let most : since ≤ length es = death_since since es f in
          let long : length (amended s code es) ≡ length es = amended_length es in
          let more : suc (length (amended s code es)) - since ≡ suc (length (amended s code es) - since) = omega (arith, most, long) in
          ap (λ k. answer_in (deeds_of s (take k (e ∷ amended s code es)))) more
          ∙ ap (λ b. answer_in (of_session b e.deed (deeds_of s (take (length (amended s code es) - since) (amended s code es))))) is
          ∙ rest f

  -- the others
  module _ (o : ℕ) (other : o ≢ s) where
    deeds_kept : (k : ℕ) (h : List Entry) → deeds_of o (take k (amended s code h)) ≡ deeds_of o (take k h)
    deeds_kept zero h = refl
    deeds_kept (suc k) [] = refl
    deeds_kept (suc k) (e ∷ es) = by ((e.session == s) && is_fall e.deed) refl (deeds_kept k es)
      where
        by : (v : Bool) → ((e.session == s) && is_fall e.deed) ≡ v → deeds_of o (take k (amended s code es)) ≡ deeds_of o (take k es)
            → deeds_of o (take (suc k) (amended_at v s code e es (amended s code es))) ≡ of_session (e.session == o) e.deed (deeds_of o (take k es))
        by true is rest =
            let both = and_true (e.session == s) (is_fall e.deed) is in
            ap (λ b. of_session b (Falls (Some code)) (deeds_of o (take k es))) (unequal s o (λ same. other (sym same)))
            ∙ sym (ap (λ b. of_session b e.deed (deeds_of o (take k es))) (unequal e.session o (λ same. other (sym same ∙ number e.session s both.0))))
        by false is rest = ap (of_session (e.session == o) e.deed) rest

    amended_deeds : (n : ℕ) (h : List Entry) → deeds_since o n (amended s code h) ≡ deeds_since o n h
    amended_deeds n h = ap (λ k. deeds_of o (take (k - n) (amended s code h))) (amended_length h) ∙ deeds_kept (length h - n) h

    deaths_kept : (of : Code) (since : ℕ) (h : List Entry) → AtDeath tables o of since h → AtDeath tables o of since (amended s code h)
    deaths_kept of since [] d = d
    deaths_kept of since (e ∷ es) d = by ((e.session == s) && is_fall e.deed) refl (deaths_kept of since es) d
      where
        inner : (w : Bool) → (AtDeath tables o of since es → AtDeath tables o of since (amended s code es)) → AtDeathIf tables w o of since e es (AtDeath tables o of since es)
            → AtDeathIf tables w o of since e (amended s code es) (AtDeath tables o of since (amended s code es))
        inner true rest f = (f.0, subst (λ k. since ≤ k) (sym (amended_length es)) f.1, may_same (store_after tables (amended s code es)) (store_after tables es) o of (amended_store es) f.2)
        inner false rest f = rest f

        by : (v : Bool) → ((e.session == s) && is_fall e.deed) ≡ v → (AtDeath tables o of since es → AtDeath tables o of since (amended s code es))
            → AtDeathIf tables (e.session == o) o of since e es (AtDeath tables o of since es) → AtDeath tables o of since (amended_at v s code e es (amended s code es))
        by true is rest f =
            let both = and_true (e.session == s) (is_fall e.deed) is in
            subst (λ b. AtDeathIf tables b o of since (entry s (Falls (Some code))) es (AtDeath tables o of since es)) (sym (unequal s o (λ same. other (sym same))))
            (subst (λ b. AtDeathIf tables b o of since e es (AtDeath tables o of since es)) (unequal e.session o (λ same. other (sym same ∙ number e.session s both.0))) f)
        by false is rest f = inner (e.session == o) rest f

    amended_passes : (h : List Entry) → Passes tables o h (amended s code h)
    amended_passes h = record {
      rows = ap (λ (st : Store). st.rows) (amended_store h);
      next = ap (λ (st : Store). st.next) (amended_store h);
      transaction = ap (λ (st : Store). st.transaction o) (amended_store h);
      waits = subst (λ (st : Store). WaitsOn ((store_after tables h).pending o) (st.pending o)) (sym (amended_store h)) (waits_same ((store_after tables h).pending o));
      leaving = amended_leaving o h;
      longer = subst (λ k. length h ≤ k) (sym (amended_length h)) (omega arith);
      deeds = λ n most. amended_deeds n h;
      deaths = λ of since d. deaths_kept of since h d;
    }

  -- a session that is not live ends so
  pub amends : (since : ℕ) (h : List Entry) → AtDeath tables s code since h → (store_after tables h).transaction s ≡ Absent → (store_after tables h).pending s ≡ None → IsRun tables h
      → Ends tables s h (amended s code h)
  amends since h d none clear run = record {
    passes = λ o other. amended_passes o other h;
    rows = ap (λ (st : Store). st.rows) (amended_store h);
    next = ap (λ (st : Store). st.next) (amended_store h);
    none = ap (λ (st : Store). st.transaction s) (amended_store h) ∙ none;
    clear = ap (λ (st : Store). st.pending s) (amended_store h) ∙ clear;
    run = amended_run since h d run;
    longer = subst (λ k. length h ≤ k) (sym (amended_length h)) (omega arith);
  }
