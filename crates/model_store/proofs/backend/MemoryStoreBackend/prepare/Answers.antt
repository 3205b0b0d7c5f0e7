use Rattle.std.proofs.Common.{List, ap, arith, sym, subst}
use Rattle.schema.specs.declared.catalogue.TableDef.{TableDef}
use Rattle.schema.specs.Allowed.{AreAllowed}
use Rattle.backend_trait.specs.Store.{Store}
use Rattle.outcomes.specs.Next.{next_of}
use Rattle.model_store.proofs.KeptLaws.{prepared_committed, prepared_given, prepared_is, prepared_stored}
use Rattle.model_store.proofs.backend.MemoryStoreBackend.prepare.Goals as goal

pub invariant_of-self-clause-allowed : goal.invariant_of-self-clause-allowed
invariant_of-self-clause-allowed c = subst (λ (tables : List TableDef). ∥ AreAllowed tables ∥₁) (sym c.in_ok-copy.ensures) ∣ c.requires.allowed ∣₁

pub invariant_of-self-clause-committed : goal.invariant_of-self-clause-committed
invariant_of-self-clause-committed c =
    let store = c.args.self.now in
    prepared_committed store.catalogue c.in_ok-copy.copy store.log.items (ap (λ (st : Store). st.tables) c.requires.blank) store.committed

pub invariant_of-self-clause-stored : goal.invariant_of-self-clause-stored
invariant_of-self-clause-stored c = λ s.
    let store = c.args.self.now in
    prepared_stored store.catalogue c.in_ok-copy.copy _ (ap (λ (st : Store). st.tables) c.requires.blank) (store.stored s)

pub invariant_of-self-clause-given : goal.invariant_of-self-clause-given
invariant_of-self-clause-given c = λ s. prepared_given (next_of c.new-self.result) c.in_ok-copy.copy c.args.self.now.log.items _ (ap (λ (st : Store). st.pending s) c.requires.blank)

pub returns-clause-prepared : goal.returns-clause-prepared
returns-clause-prepared c =
    let store = c.args.self.now in
    prepared_is (next_of store.numbers) (next_of c.new-self.result) store.catalogue c.in_ok-copy.copy c.args.catalogue.now store.log.items store.seats.items store.is_lost c.requires.blank c.in_ok-copy.ensures c.new-self.ensures

pub new-self-requires : goal.new-self-requires
new-self-requires c = omega (arith, c.requires.allowed.0)
