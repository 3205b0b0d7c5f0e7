use Rattle.std.proofs.Common.{◌≡◌, take}
use Rattle.std.specs.Prelude.{true}
use Rattle.std.specs.List.{list_all}
use Rattle.checked_sql.specs.Sound.{names_of}
use Rattle.checked_sql.specs.OfCatalogue.{is_set}
use Rattle.checked_sql.proofs.write.are_set.Given as goal

abbrev pub invariant-loop-set : goal.invariant-loop-set
invariant-loop-set l = list_all (is_set (names_of l.names) l.table) (take l.set-index l.sets) ≡ true
