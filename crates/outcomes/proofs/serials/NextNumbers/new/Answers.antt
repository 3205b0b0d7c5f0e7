use Rattle.outcomes.proofs.NextLaws.{firsts_positive}
use Rattle.outcomes.proofs.serials.NextNumbers.new.Goals as goal

pub invariant_of-result : goal.invariant_of-result
invariant_of-result c = record { positive = firsts_positive c.args.catalogue.now c.first_numbers-all.result c.first_numbers-all.ensures }

pub returns : goal.returns
returns c = λ i t. c.first_numbers-all.ensures t i
