-- A transaction begins in the single run, and asks for its statement.
use Rattle.std.proofs.Common.{◌≡◌, ◌≢◌, ℕ, Bool, true, false, List, ◌∷◌, refl, sym, ap, ◌∙◌, subst, inl, inr}
use Rattle.std.specs.Prelude.{if◌then◌else◌, is_some, Option, Some, None}
use Rattle.std.specs.FinMap as fin
use Rattle.schema.specs.declared.catalogue.TableDef.{TableDef}
use Rattle.backend_trait.specs.declared.request.Request.TheVariants as requests
use Rattle.backend_trait.specs.declared.answer.Answer.TheVariants as answers
use Rattle.backend_trait.specs.Keys.{Place, place_order}
use Rattle.backend_trait.specs.Store.{Live, Transaction, Absent, Alive, Pending, Store, WhereLive, settled}
use Rattle.backend_trait.specs.Acts.{MayAnswer, WhereSome}
use Rattle.one_copy_model.specs.declared.deed.Deed.TheVariants.{Asks, Gets}
use Rattle.one_copy_model.specs.declared.deed.Entry.{Entry}
use Rattle.one_copy_model.specs.Marks.{with_mark, marked}
use Rattle.one_copy_model.specs.SingleRun.{after_answer, store_after, IsRun, MayDo}
use Rattle.one_copy_model.specs.Deaths.{recorded}
use Rattle.one_copy_model.proofs.Places.{with_at-same, with_at-other}
use Rattle.one_copy_model.proofs.Passing.{Passes, passes_trans}
use Rattle.one_copy_model.proofs.Deeds.{entry, deed_passes, gets_is}
use Rattle.catalogue.specs.declared.checked.CheckedBody.{CheckedBody}
use Rattle.catalogue.specs.declared.checked.CheckedBody.TheVariants as body
use Rattle.classifier.specs.declared.class.Class.{Class as BodyClass}
use Rattle.classifier.specs.declared.class.Class.TheVariants as class
use Rattle.classifier.specs.Classes.{has_serial, class_of, locked, lock_of}
use Rattle.backend_trait.specs.Effect.{has_place, Conflicts}
use Rattle.backend_trait.specs.Store.{IsLocked, MayRunIn, begun, held_by}
use Rattle.session_machine.specs.declared.work.Class.{Class}
use Rattle.session_machine.specs.declared.work.Class.TheVariants as classes
use Rattle.session_machine.specs.declared.work.Verb.TheVariants as verbs
use Rattle.session_machine.specs.declared.work.Work.{Work}
use Rattle.session_machine.specs.Classes.{class_in}
use Rattle.one_copy_model.specs.Places.{asks_as, asks_of, opens}
use Rattle.one_copy_model.specs.Orders.{IsClassed}
use Rattle.one_copy_model.specs.Invariant.{IsSound, is_dead}
use Rattle.one_copy_model.proofs.Places.{same_or_other}
use Rattle.one_copy_model.proofs.Tables.{tables_there}
use Rattle.one_copy_model.proofs.Locks.{no_right}
use Rattle.one_copy_model.proofs.Turns.{no_left}
use Rattle.one_copy_model.proofs.Endings.{asked, asked_passes, its, waits}

-- a statement that is no serial insert takes no lock first
abbrev is_serial_class : Class → Bool
is_serial_class classes.Read = false
is_serial_class classes.LockingRead = false
is_serial_class (classes.Write verb) = false
is_serial_class (classes.SerialInsert table) = true

locked_none : (c : BodyClass) → locked c None ≡ None
locked_none class.Read = refl
locked_none class.LockingRead = refl
locked_none class.Write = refl
locked_none class.SerialInsert = refl

insert_unlocked : (table : ℕ) (v : Bool) → is_serial_class (if v then classes.SerialInsert table else classes.Write verbs.Insert) ≡ false
    → locked (if v then class.SerialInsert else class.Write) (Some table) ≡ None
insert_unlocked table true e = absurd (let z : true ≡ false = e in cc)
insert_unlocked table false e = refl

unlocked : (b : CheckedBody) → is_serial_class (class_in b) ≡ false → lock_of b ≡ None
unlocked (body.Read read) e = locked_none (class_of (body.Read read))
unlocked (body.Insert insert) e = insert_unlocked insert.table (has_serial insert.rows) e
unlocked (body.Change change) e = refl
unlocked (body.Remove remove) e = refl

where_all : (P : Live → Type 0) (x : Transaction) → WhereLive x (λ t. Unit {0}) → ((t : Live) → P t) → WhereLive x P
where_all P (Alive t) live h = h t
where_all P x live h = live

may_run : (st : Store) (s : ℕ) (work : Work) (class : Class) → work.class ≡ class → is_serial_class class ≡ false → IsClassed st.tables work
    → WhereLive (st.transaction s) (λ t. Unit {0}) → WhereLive (st.transaction s) (MayRunIn st work.statement)
may_run st s work class is plain c live =
    let lock : lock_of work.statement.body ≡ None = unlocked work.statement.body (ap is_serial_class (sym c.class ∙ is) ∙ plain) in
    where_all (MayRunIn st work.statement) (st.transaction s) live (λ t. (c.runnable, subst (IsLocked t.held) (sym lock) tt))

-- a live transaction that asks for nothing may ask for a statement
may_ask_as : (st : Store) (s : ℕ) (work : Work) (class : Class) → work.class ≡ class → IsClassed st.tables work
    → WhereLive (st.transaction s) (λ t. Unit {0}) → st.pending s ≡ None → MayDo st s (Asks (asks_as work.statement class))
may_ask_as st s work classes.Read is c live none = (may_run st s work classes.Read is refl c live, none)
may_ask_as st s work classes.LockingRead is c live none = (may_run st s work classes.LockingRead is refl c live, none)
may_ask_as st s work (classes.Write verb) is c live none = (may_run st s work (classes.Write verb) is refl c live, none)
may_ask_as st s work (classes.SerialInsert table) is c live none = (live, none)

pub may_ask : (st : Store) (s : ℕ) (work : Work) → IsClassed st.tables work → WhereLive (st.transaction s) (λ t. Unit {0}) → st.pending s ≡ None → MayDo st s (Asks (asks_of work))
may_ask st s work c live none = may_ask_as st s work work.class refl c live none

module _ (tables : List TableDef) (s : ℕ) (h : List Entry) (work : Work) where
  abbrev first : List Entry
  first = asked tables s h requests.TakeSnapshot

  abbrev opened : List Entry
  opened = entry s (Gets answers.Began) ∷ first

  abbrev pub begins_to : List Entry
  begins_to = asked tables s opened (asks_of work)

  abbrev begins_with : Store
  begins_with = settled (store_after tables first) s (Alive (begun (store_after tables h).rows))

  began : after_answer (store_after tables first) s answers.Began ≡ begins_with
  began = gets_is (store_after tables first) s answers.Began (its tables s h requests.TakeSnapshot) (waits tables s h requests.TakeSnapshot)

  pub begins_is : recorded s (opens work) h ≡ begins_to
  begins_is = refl

  opened_passes : (o : ℕ) → o ≢ s → Passes tables o first opened
  opened_passes o other =
      deed_passes tables s o other (Gets answers.Began) first begins_with (ap marked began) refl refl
      (with_at-other (store_after tables h).transaction s (Alive (begun (store_after tables h).rows)) o other)
      (with_at-other (store_after tables first).pending s None o other)

  pub begins_pass : (o : ℕ) → o ≢ s → Passes tables o h begins_to
  begins_pass o other =
      passes_trans tables o h first begins_to (asked_passes tables s h requests.TakeSnapshot o other)
      (passes_trans tables o first opened begins_to (opened_passes o other) (asked_passes tables s opened (asks_of work) o other))

  pub begins_rows : (store_after tables begins_to).rows ≡ (store_after tables h).rows
  begins_rows = ap (λ (y : Store). y.rows) began

  pub begins_next : (store_after tables begins_to).next ≡ (store_after tables h).next
  begins_next = ap (λ (y : Store). y.next) began

  pub begins_live : (store_after tables begins_to).transaction s ≡ Alive (begun (store_after tables h).rows)
  begins_live = ap (λ (y : Store). y.transaction s) began ∙ with_at-same (store_after tables h).transaction s (Alive (begun (store_after tables h).rows))

  opened_clear : (store_after tables opened).pending s ≡ None
  opened_clear = ap (λ (y : Store). with_mark y s (y.pending s)) began ∙ ap (with_mark begins_with s) (with_at-same (store_after tables first).pending s None)

  pub begins_wait : (store_after tables begins_to).pending s ≡ Some (its tables s opened (asks_of work))
  begins_wait = waits tables s opened (asks_of work)

  pub begins_run : IsClassed tables work → IsRun tables h → (store_after tables h).transaction s ≡ Absent → (store_after tables h).pending s ≡ None → IsRun tables begins_to
  begins_run classed run absent clear = (
    may_ask (store_after tables opened) s work (subst (λ (ts : List TableDef). IsClassed ts work) (sym (tables_there tables opened)) classed) (subst (λ (x : Transaction). WhereLive x (λ t. Unit {0})) (sym begins_live) tt) opened_clear,
    (
      subst (λ (x : Option Pending). WhereSome x (λ p. MayAnswer (store_after tables first) s p answers.Began)) (sym (waits tables s h requests.TakeSnapshot)) tt,
      ((absent, clear), run),
    ),
  )

  -- what begins holds nothing, has changed nothing, and nothing is stale to it
  fresh_changed : (t : Live) (p : Place) → Alive (begun (store_after tables h).rows) ≡ Alive t → is_some (fin.get t.changes p) ≡ true → ⊥
  fresh_changed t p e is =
      let same : begun (store_after tables h).rows ≡ t = cc in
      let none : is_some (fin.get t.changes p) ≡ false = ap (λ (x : Live). is_some (fin.get x.changes p)) (sym same) ∙ ap is_some (fin.get-empty place_order p) in
      let z : false ≡ true = sym none ∙ is in cc

  pub fresh_held : (t : Live) (p : Place) → Alive (begun (store_after tables h).rows) ≡ Alive t → has_place t.held p ≡ true → ⊥
  fresh_held t p e is =
      let same : begun (store_after tables h).rows ≡ t = cc in
      let z : false ≡ true = ap (λ (x : Live). has_place x.held p) same ∙ is in cc

  pub fresh_stale : (t : Live) (p : Place) → Alive (begun (store_after tables h).rows) ≡ Alive t → t.stale p ≡ true → ⊥
  fresh_stale t p e is =
      let same : begun (store_after tables h).rows ≡ t = cc in
      let z : false ≡ true = ap (λ (x : Live). x.stale p) same ∙ is in cc

  others : (o : ℕ) → o ≢ s → (store_after tables begins_to).transaction o ≡ (store_after tables h).transaction o
  others o other = (begins_pass o other).transaction

  begins_apart : IsSound (store_after tables h) → (a o : ℕ) → a ≢ o → ¬ (Conflicts (held_by ((store_after tables begins_to).transaction a)) (held_by ((store_after tables begins_to).transaction o)))
  begins_apart sound a o differ c = elim (same_or_other a s) [
    | inl is ↦ no_left (held_by ((store_after tables begins_to).transaction o)) (subst (λ (x : Transaction). Conflicts (held_by x) (held_by ((store_after tables begins_to).transaction o))) (ap (store_after tables begins_to).transaction is ∙ begins_live) c)
    | inr not_a ↦ elim (same_or_other o s) [
      | inl is ↦ no_right (held_by ((store_after tables begins_to).transaction a)) (subst (λ (x : Transaction). Conflicts (held_by ((store_after tables begins_to).transaction a)) (held_by x)) (ap (store_after tables begins_to).transaction is ∙ begins_live) c)
      | inr not_o ↦ sound.apart a o differ (subst (λ (x : Transaction). Conflicts (held_by x) (held_by ((store_after tables h).transaction o))) (others a not_a) (subst (λ (x : Transaction). Conflicts (held_by ((store_after tables begins_to).transaction a)) (held_by x)) (others o not_o) c))
    ]
  ]

  pub begins_sound : IsSound (store_after tables h) → IsSound (store_after tables begins_to)
  begins_sound sound = record {
    apart = begins_apart sound;
    changed = λ o t p is there. elim (same_or_other o s) [
      | inl same ↦ absurd (fresh_changed t p (sym (ap (store_after tables begins_to).transaction same ∙ begins_live) ∙ is) there)
      | inr other ↦ sound.changed o t p (sym (others o other) ∙ is) there
    ];
    fresh = λ o t p is there. elim (same_or_other o s) [
      | inl same ↦ absurd (fresh_held t p (sym (ap (store_after tables begins_to).transaction same ∙ begins_live) ∙ is) there)
      | inr other ↦ sound.fresh o t p (sym (others o other) ∙ is) there
    ];
  }

  pub begins_undead : ((o : ℕ) → is_dead ((store_after tables h).transaction o) ≡ false) → (o : ℕ) → is_dead ((store_after tables begins_to).transaction o) ≡ false
  begins_undead old o = elim (same_or_other o s) [
    | inl same ↦ ap is_dead (ap (store_after tables begins_to).transaction same ∙ begins_live)
    | inr other ↦ ap is_dead (others o other) ∙ old o
  ]
