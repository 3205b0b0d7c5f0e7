use Rattle.std.proofs.Common.{◌≡◌, ◌-◌, ◌^◌, ◌<◌, min, length}
use Rattle.sql_tokens.specs.declared.bytes.Class.TheVariants.{Digit}
use Rattle.sql_tokens.specs.Bytes.{front}
use Rattle.sql_tokens.specs.Pieces.{value_after, value_of}
use Rattle.sql_tokens.proofs.number.value.Given as goal

-- the digits that are left go on to the number of all
abbrev pub invariant-loop-left : goal.invariant-loop-left
invariant-loop-left l = record {
  small : l.value < 2 ^ 64;
  same : min (value_after l.value (front Digit l.left)) (2 ^ 64 - 1) ≡ min (value_of (front Digit l.bytes)) (2 ^ 64 - 1);
}

abbrev pub decreases-loop-left : goal.decreases-loop-left
decreases-loop-left l = length l.left
