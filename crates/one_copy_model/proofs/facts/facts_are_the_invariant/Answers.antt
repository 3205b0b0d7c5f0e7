use Rattle.one_copy_model.proofs.Turning.{facts_of, invariant_of}
use Rattle.one_copy_model.proofs.facts.facts_are_the_invariant.Goals as goal

pub returns : goal.returns
returns c = record { parts = facts_of; whole = invariant_of }
