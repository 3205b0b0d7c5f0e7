use Rattle.std.proofs.Common.{◌≡◌}
use Rattle.sql_reader.specs.Text.{tokens_of, places_of}
use Rattle.sql_reader.proofs.reader.apart.Given as goal

-- those that were passed are apart
abbrev pub invariant-loop-one : goal.invariant-loop-one
invariant-loop-one l = record {
  tokens : l.tokens ≡ tokens_of l.yielded;
  places : l.places ≡ places_of l.yielded;
}
