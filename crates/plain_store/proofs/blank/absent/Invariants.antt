use Rattle.std.proofs.Common.{◌≡◌, length}
use Rattle.plain_store.specs.declared.data.Phase.TheVariants as phases
use Rattle.plain_store.specs.Blanks.{AllAre}
use Rattle.plain_store.proofs.blank.absent.Given as goal

abbrev pub invariant-loop : goal.invariant-loop
invariant-loop l = record {
  len : length l.all.items ≡ l.counter;
  all : AllAre phases.Absent l.all.items;
}
