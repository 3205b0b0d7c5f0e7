use Rattle.std.proofs.Common.{◌≡◌, take}
use Rattle.std.specs.Prelude.{false, ◌==◌}
use Rattle.std.specs.List.{list_any}
use Rattle.checked_sql.proofs.write.is_among.Given as goal

abbrev pub invariant-loop-set : goal.invariant-loop-set
invariant-loop-set l = list_any (λ s. s.column == l.column) (take l.set-index l.sets) ≡ false
