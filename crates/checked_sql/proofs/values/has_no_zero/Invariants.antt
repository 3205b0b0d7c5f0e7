use Rattle.std.proofs.Common.{◌≡◌, take}
use Rattle.std.specs.Prelude.{true}
use Rattle.std.specs.List.{list_all}
use Rattle.checked_sql.specs.Sound.{is_some_byte}
use Rattle.checked_sql.proofs.values.has_no_zero.Given as goal

abbrev pub invariant-loop-byte : goal.invariant-loop-byte
invariant-loop-byte l = list_all is_some_byte (take l.byte-index l.text) ≡ true
