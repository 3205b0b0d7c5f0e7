-- The steps of the program lead where the definitions say.
use Rattle.std.proofs.Common.{◌≡◌, ◌≢◌, ◌<◌, ◌==◌, ℕ, zero, suc, Bool, true, false, List, [], ◌∷◌, length, refl, sym, ap, ◌∙◌, subst, arith, inl, inr}
use Rattle.std.specs.Prelude.{Option, Some, Result, Ok, Err, IfOk, slice_get, slice_set, if◌then◌else◌}
use Rattle.std.proofs.lemmas.Bool.Decides.{eqb_tells}
use Rattle.pool_base.specs.declared.session_id.SessionId.{SessionId}
use Rattle.schema.specs.declared.catalogue.TableDef.{TableDef}
use Rattle.backend_trait.specs.declared.answer.Answer.{Answer}
use Rattle.backend_trait.specs.Rows.{with_at}
use Rattle.backend_trait.specs.Store.{Store}
use Rattle.plain_store.specs.Meaning.{store_of}
use Rattle.session_machine.specs.declared.action.SessionEvent.{SessionEvent}
use Rattle.session_machine.specs.declared.action.SessionEvent.TheVariants as events
use Rattle.session_machine.specs.declared.machine.ReadPolicy.{ReadPolicy}
use Rattle.session_machine.specs.declared.machine.Machine.{Machine}
use Rattle.session_engine.specs.declared.session.Core.{Core}
use Rattle.session_engine.specs.Cores.{machine_in}
use Rattle.session_engine.specs.Tidying.{tidied}
use Rattle.session_machine.specs.Rules.{after as machine_after}
use Rattle.session_machine.specs.Allowed.{MayHappen as MachineMay}
use Rattle.snapshot_gate.specs.declared.state.GateState.{GateState}
use Rattle.one_copy_model.specs.declared.event.Event.TheVariants.{Of}
use Rattle.one_copy_model.specs.World.{World, gate_after, after, with_mail, Lets}
use Rattle.world_program.specs.declared.data.Replica.{Replica}
use Rattle.world_program.specs.Alike.{tidy, AreAlike}
use Rattle.world_program.specs.declared.data.Replicas.{Replicas}
use Rattle.world_program.specs.UnderWay.{IsPostKept}
use Rattle.world_program.specs.Meaning.{machine_at, store_in, answer_at, mail_in, world_in, world_of}
use Rattle.world_program.specs.Steps.{with_gate, with_machine, with_store, with_answer, with_backends, MayMove, IsOfSession}

-- an item that is set, and another
pub set_same : {A : Type 0} (xs : List A) (b : ℕ) (x : A) → b < length xs → slice_get (slice_set xs b x) b ≡ Some x
set_same [] b x below = absurd (omega arith)
set_same (z ∷ xs) zero x below = refl
set_same (z ∷ xs) (suc b) x below = set_same xs b x (omega arith)

pub set_other : {A : Type 0} (xs : List A) (b j : ℕ) (x : A) → j ≢ b → slice_get (slice_set xs b x) j ≡ slice_get xs j
set_other [] b j x other = refl
set_other (z ∷ xs) zero zero x other = absurd (other refl)
set_other (z ∷ xs) zero (suc j) x other = refl
set_other (z ∷ xs) (suc b) zero x other = refl
set_other (z ∷ xs) (suc b) (suc j) x other = set_other xs b j x (λ e. other (ap suc e))

-- what is read at each number, where one is new
each_set : {A B : Type 0} (f : ℕ → Option A → B) (xs : List A) (at : ℕ) (x : A) (y : B) → at < length xs → f at (Some x) ≡ y
    → (o : ℕ) → f o (slice_get (slice_set xs at x) o) ≡ with_at (λ k. f k (slice_get xs k)) at y o
each_set f xs at x y below is o = elim (eqb_tells o at) [
  | inl p ↦ ap (λ k. f k (slice_get (slice_set xs at x) k)) p.1 ∙ ap (f at) (set_same xs at x below) ∙ is ∙ sym (ap (λ b. if b then y else f o (slice_get xs o)) p.0)
  | inr p ↦ ap (f o) (set_other xs at o x p.1) ∙ sym (ap (λ b. if b then y else f o (slice_get xs o)) p.0)
]

-- what is read at each number, where the one that is new reads the same
each_same : {A B : Type 0} (f : Option A → B) (xs : List A) (at : ℕ) (old new : A) → at < length xs → slice_get xs at ≡ Some old → f (Some new) ≡ f (Some old)
    → (o : ℕ) → f (slice_get (slice_set xs at new) o) ≡ f (slice_get xs o)
each_same f xs at old new below there is o = elim (eqb_tells o at) [
  | inl p ↦ ap (λ k. f (slice_get (slice_set xs at new) k)) p.1 ∙ ap f (set_same xs at new below) ∙ is ∙ ap f (sym there) ∙ ap (λ k. f (slice_get xs k)) (sym p.1)
  | inr p ↦ ap f (set_other xs at o new p.1)
]

-- the machine of one session, tidied with the others
tidied_at : (t : Bool) (m n : Machine) → (if t then tidied m else tidied n) ≡ tidied (if t then m else n)
tidied_at true m n = refl
tidied_at false m n = refl

tidied_with : (machine : ℕ → Machine) (s : ℕ) (m : Machine) (o : ℕ) → with_at (λ k. tidied (machine k)) s (tidied m) o ≡ tidied (with_at machine s m o)
tidied_with machine s m o = tidied_at (o == s) m (machine o)

module _ (tables : List TableDef) (policy : ReadPolicy) (gate : GateState) (cores : List Core) (backends : List Replica) where
  abbrev here : World
  here = world_in tables policy gate cores backends

  -- a machine moves
  pub machine_is : (s : ℕ) (old new : Core) (m : Machine) → s < length cores → slice_get cores s ≡ Some old → tidied (machine_in new) ≡ tidied m
      → AreAlike (world_in tables policy gate (slice_set cores s new) backends) (with_machine here s m)
  machine_is s old new m below there is = λ i. record {
    tables = tables;
    gate = gate;
    machine = λ o. (each_set (λ k x. tidied (machine_at policy k x)) cores s new (tidied m) below is o ∙ tidied_with here.machine s m o) i;
    store = here.store;
    mail = here.mail;
  }

  -- a store changes
  pub stored_is : (b : ℕ) (old new : Replica) (st : Store) → b < length backends → slice_get backends b ≡ Some old → store_of new.store ≡ st → new.mail.items ≡ old.mail.items
      → world_in tables policy gate cores (slice_set backends b new) ≡ with_store here b st
  stored_is b old new st below there is mail = λ i. record {
    tables = tables;
    gate = gate;
    machine = here.machine;
    store = λ o. each_set (λ k. store_in tables) backends b new st below is o i;
    mail = λ s o. each_same (λ x. mail_in x s) backends b old new below there (ap (λ (all : List (Option Answer)). answer_at (slice_get all s)) mail) o i;
  }

  -- an answer is put into the mail, or taken
  mail_at : (s b : ℕ) (old new : Replica) (answer : Option Answer) → b < length backends → slice_get backends b ≡ Some old → s < length old.mail.items
      → new.mail.items ≡ slice_set old.mail.items s answer → (k o : ℕ) → mail_in (slice_get (slice_set backends b new) o) k ≡ with_mail here.mail s b answer k o
  mail_at s b old new answer below there within is k o = elim (eqb_tells o b) [
    | inl p ↦
        ap (λ n. mail_in (slice_get (slice_set backends b new) n) k) p.1
        ∙ ap (λ x. mail_in x k) (set_same backends b new below)
        ∙ ap (λ (all : List (Option Answer)). answer_at (slice_get all k)) is
        ∙ elim (eqb_tells k s) [
          | inl q ↦
              ap (λ n. answer_at (slice_get (slice_set old.mail.items s answer) n)) q.1
              ∙ ap answer_at (set_same old.mail.items s answer within)
              ∙ sym (ap (λ t. if t then answer else here.mail s o) p.0)
              ∙ sym (ap (λ t. (if t then with_at (here.mail s) b answer else here.mail k) o) q.0)
          | inr q ↦
              ap answer_at (set_other old.mail.items s k answer q.1)
              ∙ ap (λ x. mail_in x k) (sym there)
              ∙ ap (λ n. mail_in (slice_get backends n) k) (sym p.1)
              ∙ sym (ap (λ t. (if t then with_at (here.mail s) b answer else here.mail k) o) q.0)
        ]
    | inr p ↦
        ap (λ x. mail_in x k) (set_other backends b o new p.1)
        ∙ elim (eqb_tells k s) [
          | inl q ↦
              ap (λ n. here.mail n o) q.1
              ∙ sym (ap (λ t. if t then answer else here.mail s o) p.0)
              ∙ sym (ap (λ t. (if t then with_at (here.mail s) b answer else here.mail k) o) q.0)
          | inr q ↦ sym (ap (λ t. (if t then with_at (here.mail s) b answer else here.mail k) o) q.0)
        ]
  ]

  pub mailed_is : (s b : ℕ) (old new : Replica) (answer : Option Answer) → b < length backends → slice_get backends b ≡ Some old → s < length old.mail.items
      → new.mail.items ≡ slice_set old.mail.items s answer → store_of new.store ≡ store_of old.store
      → world_in tables policy gate cores (slice_set backends b new) ≡ with_answer here s b answer
  mailed_is s b old new answer below there within mail is = λ i. record {
    tables = tables;
    gate = gate;
    machine = here.machine;
    store = λ o. each_same (store_in tables) backends b old new below there is o i;
    mail = λ k o. mail_at s b old new answer below there within mail k o i;
  }

-- a call that the gate answers meets its condition
pub lets_move : (w : World) (s : ℕ) (event : SessionEvent) → Lets w s event → MayMove w.gate event
lets_move w s (events.Ordered order) lets = tt
lets_move w s (events.Called call answer) lets = lets.0
lets_move w s (events.Posted b request) lets = tt
lets_move w s (events.Taken b answer) lets = tt
lets_move w s (events.Faulted b before more) lets = tt
lets_move w s (events.Detached b cause answer) lets = lets.0
lets_move w s (events.Swapped b) lets = tt
lets_move w s (events.Replied outcome status) lets = tt
lets_move w s events.Ended lets = tt

-- an event of a session, in its three parts
pub session_is : (w gated moved new : World) (s : SessionId) (event : SessionEvent) → gated ≡ with_gate w (gate_after w.gate event) → moved ≡ with_backends gated s.number event
    → AreAlike new (with_machine moved s.number (machine_after (moved.machine s.number) event)) → AreAlike new (after w (Of s event))
session_is w gated moved new s event a b c =
    c ∙ ap (λ (x : World). tidy (with_machine x s.number (machine_after (x.machine s.number) event))) (b ∙ ap (λ (x : World). with_backends x s.number event) a)

-- no session makes a Swap
pub of_session : (m : Machine) (event : SessionEvent) → MachineMay m event → IsOfSession event
of_session m (events.Ordered order) may = tt
of_session m (events.Called call answer) may = tt
of_session m (events.Posted b request) may = tt
of_session m (events.Taken b answer) may = tt
of_session m (events.Faulted b before more) may = tt
of_session m (events.Detached b cause answer) may = tt
of_session m (events.Swapped b) may = may
of_session m (events.Replied outcome status) may = tt
of_session m events.Ended may = tt

-- what the gate's step leaves of the stores is kept
pub kept_behind : (w gated : World) (event : SessionEvent) → gated ≡ with_gate w (gate_after w.gate event) → IsPostKept w event → IsPostKept gated event
kept_behind w gated event is kept = subst (λ (x : World). IsPostKept x event) (sym is) (by_event event kept)
  where
    by_event : (e : SessionEvent) → IsPostKept w e → IsPostKept (with_gate w (gate_after w.gate event)) e
    by_event (events.Ordered order) h = h
    by_event (events.Called call answer) h = h
    by_event (events.Posted b request) h = h
    by_event (events.Taken b answer) h = h
    by_event (events.Faulted b before more) h = h
    by_event (events.Detached b cause answer) h = h
    by_event (events.Swapped b) h = h
    by_event (events.Replied outcome status) h = h
    by_event events.Ended h = h

-- the world behind all three parts, if there is one
pub stepped_is : {F : Type 0} (w gated moved : World) (result : Result Replicas F) (s : SessionId) (event : SessionEvent) → gated ≡ with_gate w (gate_after w.gate event) → moved ≡ with_backends gated s.number event
    → IfOk result (λ (new : Replicas). AreAlike (world_of new) (with_machine moved s.number (machine_after (moved.machine s.number) event)))
    → IfOk result (λ (new : Replicas). AreAlike (world_of new) (after w (Of s event)))
stepped_is w gated moved (Ok new) s event a b c = session_is w gated moved (world_of new) s event a b c
stepped_is w gated moved (Err fault) s event a b c = tt
