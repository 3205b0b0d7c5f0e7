use Rattle.std.proofs.Common.{◌≡◌}
use Rattle.scram.specs.Mac.{chained, chained_up_to, IsKeyed}
use Rattle.scram.proofs.salting.salted.Given as goal

abbrev pub invariant-rounds : goal.invariant-rounds
invariant-rounds l = record {
  keyed : IsKeyed l.key l.password;
  last : l.last ≡ chained l.password l.salt l.done;
  all : l.all ≡ chained_up_to l.password l.salt l.done;
}
