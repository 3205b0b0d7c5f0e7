use Rattle.std.proofs.Common.{◌≡◌, take}
use Rattle.std.specs.Prelude.{true}
use Rattle.std.specs.List.{list_all}
use Rattle.checked_sql.specs.Sound.{is_sound, names_of}
use Rattle.checked_sql.proofs.read.are_sound.Given as goal

abbrev pub invariant-loop-expr : goal.invariant-loop-expr
invariant-loop-expr l = list_all (is_sound (names_of l.names)) (take l.expr-index l.list) ≡ true
