use Rattle.std.proofs.Common.{◌≡◌, drop}
use Rattle.catalogue.specs.Statements.{kinds_listed}
use Rattle.catalogue.proofs.Lists.{listed_behind}
use Rattle.catalogue.proofs.parameters.kinds_listed.Given as goal

abbrev pub invariant-loop-number : goal.invariant-loop-number
invariant-loop-number l = kinds_listed l.numbers ≡ listed_behind l.known (kinds_listed (drop l.number-index l.numbers))
