-- What a store of a play may answer, the stores of the world beside it may answer too.
use Rattle.std.proofs.Common.{◌≡◌, ◌≢◌, ℕ, true, false, List, [], refl, sym, ap, ◌∙◌, subst, inl, inr}
use Rattle.std.specs.Prelude.{◌⊎◌, Option, Some, None}
use Rattle.schema.specs.declared.catalogue.TableDef.{TableDef}
use Rattle.catalogue.specs.declared.checked.Checked.{Checked}
use Rattle.backend_trait.specs.declared.request.Request.{Request}
use Rattle.backend_trait.specs.declared.request.Request.TheVariants as requests
use Rattle.backend_trait.specs.declared.answer.Answer.{Answer}
use Rattle.backend_trait.specs.Keys.{Place}
use Rattle.backend_trait.specs.Rows.{Changes}
use Rattle.backend_trait.specs.Effect.{Wants, these_places, Conflicts, Given, Fails, Gives, table_in}
use Rattle.backend_trait.specs.Store.{Live, Transaction, Absent, Alive, Dead, Pending, Store, held_by, view_of, next_for}
use Rattle.backend_trait.specs.Acts.{IsStale, MayAnswer, Answers, WhereSome, given_of, wants_in, wants_of_run, asked_by}
use Rattle.backend_trait.specs.Acting.{MayAct}
use Rattle.online_recovery.specs.Copies.{all_rows_in}
use Rattle.one_copy_model.proofs.Turns.{no_left}
use Rattle.one_copy_laws.proofs.ActsEffects.{reads_nothing}
use Rattle.play_laws.proofs.Answers.{marked_as}
use Rattle.recovery_laws.specs.Pool.{either_transaction}
use Rattle.recovery_laws.proofs.Copying.{ReadsOnly}
use Rattle.play_laws.specs.Joined.{SameOwn, IsJoined, IsPosed, IsWhole}
use Rattle.play_laws.proofs.Acts.{is_same}
use Rattle.play_laws.proofs.Joining.{is_own}
use Rattle.play_laws.proofs.Transfers.{HeldLess, WaitsToo, AreWaiting, StaysStaleAt, answer_to}

pub held_own : (x own z : Transaction) → IsJoined x own z → HeldLess z own
held_own Absent own z j = inl (ap held_by (sym j))
held_own (Alive u) own z j = inr (ap held_by j.0)
held_own Dead own z j = inr (ap held_by j.0)

pub held_either : (x own z : Transaction) → IsJoined x own z → HeldLess z (either_transaction x own)
held_either Absent own z j = inl (ap held_by (sym j))
held_either (Alive u) own z j = inl (j.1.2.held ∙ sym (ap held_by j.1.1))
held_either Dead own z j = inl (ap held_by (sym j.1))

pub either_own : (x own : Transaction) → x ≡ Absent → either_transaction x own ≡ own
either_own x own none = ap (λ (y : Transaction). either_transaction y own) none

alive_is : (t u : Live) → Alive t ≡ Alive u → t ≡ u
alive_is t u e = cc

pub some_is : (p q : Pending) → Some p ≡ Some q → p ≡ q
some_is p q e = cc

-- A request that only reads asks for nothing, and no stale place keeps it.

all_rows_read : (tables : List TableDef) (table : ℕ) (st : Store) (t : Live) (result : Answer) (changes : Changes) (places : List Place)
    → given_of st (all_rows_in tables table) t ≡ Gives result changes places → places ≡ []
all_rows_read tables table st t result changes places e =
    (reads_nothing st.tables (all_rows_in tables table) (view_of t) (next_for st.next (table_in (all_rows_in tables table))) result changes places refl e).1

given_silent : (tables : List TableDef) (table : ℕ) (st : Store) (t : Live) (x : Wants) (g : Given) → given_of st (all_rows_in tables table) t ≡ g → Conflicts (wants_in g) x → ⊥
given_silent tables table st t x (Fails code) e c = no_left x c
given_silent tables table st t x (Gives result changes places) e c =
    no_left x (subst (λ (ps : List Place). Conflicts (these_places ps) x) (all_rows_read tables table st t result changes places e) c)

run_silent : (tables : List TableDef) (table : ℕ) (st : Store) (x : Wants) (y : Transaction) → Conflicts (wants_of_run st (all_rows_in tables table) y) x → ⊥
run_silent tables table st x Absent c = no_left x c
run_silent tables table st x (Alive t) c = given_silent tables table st t x (given_of st (all_rows_in tables table) t) refl c
run_silent tables table st x Dead c = no_left x c

pub reads_silent : (tables : List TableDef) (st : Store) (o : ℕ) (request : Request) → ReadsOnly tables request → (x : Wants) → Conflicts (asked_by st o request) x → ⊥
reads_silent tables st o requests.TakeSnapshot reads x c = no_left x c
reads_silent tables st o (requests.Run checked) reads x c =
    run_silent tables reads.0 st x (st.transaction o) (subst (λ (k : Checked). Conflicts (wants_of_run st k (st.transaction o)) x) reads.1 c)
reads_silent tables st o (requests.Lock table) reads x c = absurd reads
reads_silent tables st o requests.Commit reads x c = absurd reads
reads_silent tables st o requests.Rollback reads x c = no_left x c
reads_silent tables st o (requests.ReadSerial table) reads x c = no_left x c
reads_silent tables st o (requests.SetSerial table n) reads x c = absurd reads

none_stale : (places : List Place) (t u : Live) → places ≡ [] → IsStale (these_places places) t → IsStale (these_places places) u
none_stale places t u none stale =
    absurd ((subst (λ (ps : List Place). IsStale (these_places ps) t → ⊥) (sym none) (λ s. let z : false ≡ true = s.1 in cc)) stale)

module _ (own st : Store) (T : ℕ → Transaction) (A : ℕ → Option Request) (w : IsWhole own T A st) (s : ℕ) (up : own.lost ≡ false)
    (waits : (o : ℕ) (its : Pending) → own.pending o ≡ Some its → T o ≡ Absent) where
  abbrev seen : Store
  seen = record own { transaction = st.transaction; pending = st.pending }

  -- the requests of other recoveries ask for nothing
  abbrev pub AreSilent : Type 0
  AreSilent = (o : ℕ) (request : Request) → o ≢ s → A o ≡ Some request → (x : Wants) → Conflicts (asked_by seen o request) x → ⊥

  module _ (silent : AreSilent) (U : ℕ → Transaction) (mine : (o : ℕ) → o ≢ s → T o ≡ Absent → U o ≡ own.transaction o)
      (less : (o : ℕ) → o ≢ s → HeldLess (st.transaction o) (U o)) where
    all_wait : AreWaiting own st.transaction U st.pending own.pending s
    all_wait o its other e = by (A o) refl (w.posed o)
      where
        by : (asked : Option Request) → A o ≡ asked → IsPosed own.lost asked (own.pending o) (st.pending o)
            → WaitsToo own st.transaction U st.pending own.pending s o its.request ⊎ ((x : Wants) → Conflicts (asked_by seen o its.request) x → ⊥)
        by None is (inl p) =
            let m = marked_as (own.pending o) its (sym p ∙ e) in
            let none = waits o m.own m.waits in
            inl (record {
              its = m.own;
              waits = m.waits;
              same = ap (λ (q : Pending). q.request) m.same;
              transaction = mine o other none ∙ sym (is_own (T o) (own.transaction o) (st.transaction o) (w.transactions o) none);
            })
        by None is (inr p) = absurd (let z : true ≡ false = sym p.0 ∙ up in cc)
        by (Some request) is p =
            let same : its ≡ record { request = request; crossed = false } = some_is its _ (sym e ∙ p.1) in
            inr (λ x c. silent o request other is x (subst (λ (q : Pending). Conflicts (asked_by seen o q.request) x) same c))

    -- the store that is looked at
    abbrev to : Store
    to = record own { transaction = U }

    pub exact_stays : (same : SameOwn (st.transaction s) (U s)) (request : Request) → st.transaction s ≡ U s → StaysStaleAt own st.transaction U st.pending own.pending s same less request
    exact_stays same requests.TakeSnapshot e = tt
    exact_stays same (requests.Run checked) e = λ t u is own_is result changes places given stale.
        subst (IsStale (these_places places)) (alive_is t u (sym is ∙ (e ∙ own_is))) stale
    exact_stays same (requests.Lock table) e = tt
    exact_stays same requests.Commit e = tt
    exact_stays same requests.Rollback e = tt
    exact_stays same (requests.ReadSerial table) e = tt
    exact_stays same (requests.SetSerial table n) e = tt

    pub reads_stay : (same : SameOwn (st.transaction s) (U s)) (tables : List TableDef) (request : Request) → ReadsOnly tables request → StaysStaleAt own st.transaction U st.pending own.pending s same less request
    reads_stay same tables requests.TakeSnapshot reads = tt
    reads_stay same tables (requests.Run checked) reads = λ t u is own_is result changes places given stale.
        none_stale places t u (all_rows_read tables reads.0 seen t result changes places (ap (λ (k : Checked). given_of seen k t) (sym reads.1) ∙ given)) stale
    reads_stay same tables (requests.Lock table) reads = absurd reads
    reads_stay same tables requests.Commit reads = absurd reads
    reads_stay same tables requests.Rollback reads = tt
    reads_stay same tables (requests.ReadSerial table) reads = tt
    reads_stay same tables (requests.SetSerial table n) reads = absurd reads

    -- of a session
    module _ (answer : Answer) (new : Store) (h : Answers st s answer new) where
      pub session_acts : A s ≡ None → st.transaction s ≡ U s → MayAct to s answer
      session_acts unasked same = by (subst (λ (x : Option Request). IsPosed own.lost x (own.pending s) (st.pending s)) unasked (w.posed s))
        where
          by : IsPosed own.lost None (own.pending s) (st.pending s) → MayAct to s answer
          by (inl p) =
              let m = marked_as (own.pending s) h.pending (sym p ∙ h.was) in
              let may : MayAnswer seen s (record { request = m.own.request; crossed = false }) answer =
              subst (λ (q : Pending). MayAnswer seen s q answer) (sym m.same) (subst (λ (x : Store). MayAnswer x s h.pending answer) w.same h.may) in (
                up,
                subst (λ (x : Option Pending). WhereSome x (λ q. MayAnswer to s q answer)) (sym m.waits)
                    (answer_to own st.transaction U st.pending own.pending s (is_same (st.transaction s) (U s) same) less all_wait m.own.request m.own.crossed answer
                    (exact_stays (is_same (st.transaction s) (U s) same) m.own.request same) may),
              )
          by (inr p) = absurd (let z : true ≡ false = sym p.0 ∙ up in cc)

      -- and of a recovery
      pub recovery_tells : (request : Request) (same : SameOwn (st.transaction s) (U s)) → A s ≡ Some request
          → StaysStaleAt own st.transaction U st.pending own.pending s same less request → MayAnswer to s (record { request = request; crossed = false }) answer
      recovery_tells request same is stays =
          let posed = subst (λ (x : Option Request). IsPosed own.lost x (own.pending s) (st.pending s)) is (w.posed s) in
          let asks : h.pending ≡ record { request = request; crossed = false } = some_is h.pending _ (sym h.was ∙ posed.1) in
          answer_to own st.transaction U st.pending own.pending s same less all_wait request false answer stays
          (subst (λ (q : Pending). MayAnswer seen s q answer) asks (subst (λ (x : Store). MayAnswer x s h.pending answer) w.same h.may))

-- what waits of a session in the play waits in the world
pub record WaitsOwn (own : Store) (s : ℕ) (request : Request) : Type 0 where
  pub its : Pending
  pub waits : own.pending s ≡ Some its
  pub same : its.request ≡ request

pub waits_own : (own st : Store) (T : ℕ → Transaction) (A : ℕ → Option Request) → IsWhole own T A st → (s : ℕ) → own.lost ≡ false → A s ≡ None → (its : Pending) → st.pending s ≡ Some its
    → WaitsOwn own s its.request
waits_own own st T A w s up unasked its was = by (subst (λ (x : Option Request). IsPosed own.lost x (own.pending s) (st.pending s)) unasked (w.posed s))
  where
    by : IsPosed own.lost None (own.pending s) (st.pending s) → WaitsOwn own s its.request
    by (inl p) = let m = marked_as (own.pending s) its (sym p ∙ was) in record { its = m.own; waits = m.waits; same = ap (λ (q : Pending). q.request) m.same }
    by (inr p) = absurd (let z : true ≡ false = sym p.0 ∙ up in cc)
