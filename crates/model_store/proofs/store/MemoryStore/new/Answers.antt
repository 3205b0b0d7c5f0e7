use Rattle.std.proofs.Common.{List, length, refl, ap, arith, length-append, sym, subst}
use Rattle.schema.specs.declared.catalogue.TableDef.{TableDef}
use Rattle.schema.specs.Allowed.{AreAllowed}
use Rattle.outcomes.specs.declared.change.ChangeSet.{ChangeSet}
use Rattle.outcomes.specs.Next.{next_of}
use Rattle.outcomes.specs.Stored.{AreAllStored}
use Rattle.model_store.proofs.NewLaws.{absent_snoc, absent_owed, absent_mark, absent_blank, absent_stored, absent_given, none_allowed}
use Rattle.model_store.proofs.ApartLaws.{apart_absent}
use Rattle.model_store.proofs.store.MemoryStore.new.Goals as goal

pub loop-init : goal.loop-init
loop-init c = rw c.in_ok-seats.ensures.items (record { len = refl; absent = tt })

pub loop-preserved : goal.loop-preserved
loop-preserved c = rw c.in_ok-push.ensures.items (record {
  len = simp length-append (omega (arith, c.loop.invariant.len));
  absent = absent_snoc _ _ c.loop.invariant.absent refl refl;
})

pub invariant_of-result-clause-marked : goal.invariant_of-result-clause-marked
invariant_of-result-clause-marked c = absent_mark c.loop.seats.items _ c.loop.invariant.absent

pub invariant_of-result-clause-apart : goal.invariant_of-result-clause-apart
invariant_of-result-clause-apart c = apart_absent c.loop.seats.items c.loop.invariant.absent

pub invariant_of-result-clause-roomy : goal.invariant_of-result-clause-roomy
invariant_of-result-clause-roomy c = omega (arith, absent_owed c.loop.seats.items c.loop.invariant.absent, c.new.ensures.len)

pub invariant_of-result-clause-stored : goal.invariant_of-result-clause-stored
invariant_of-result-clause-stored c = absent_stored c.in_ok-catalogue.catalogue c.loop.seats.items c.loop.invariant.absent

pub invariant_of-result-clause-given : goal.invariant_of-result-clause-given
invariant_of-result-clause-given c = absent_given (next_of c.new-numbers.result) c.in_ok-catalogue.catalogue c.new.result.items c.loop.seats.items c.loop.invariant.absent

pub invariant_of-result-clause-allowed : goal.invariant_of-result-clause-allowed
invariant_of-result-clause-allowed c = subst (λ (tables : List TableDef). ∥ AreAllowed tables ∥₁) (sym c.in_ok-catalogue.ensures) ∣ none_allowed ∣₁

pub invariant_of-result-clause-committed : goal.invariant_of-result-clause-committed
invariant_of-result-clause-committed c =
    subst (λ (sets : List ChangeSet). AreAllStored c.in_ok-catalogue.catalogue sets) (sym c.new.ensures.items) (λ k d below. absurd (omega (arith, below)))

pub returns : goal.returns
returns c = absent_blank (next_of c.new-numbers.result) c.in_ok-catalogue.catalogue c.new.result.items c.loop.seats.items c.new-numbers.ensures c.in_ok-catalogue.ensures c.new.ensures.items c.loop.invariant.absent

pub new-numbers-requires : goal.new-numbers-requires
new-numbers-requires c = omega (arith, ap (λ (tables : List TableDef). length tables) c.in_ok-catalogue.ensures)
