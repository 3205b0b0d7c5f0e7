use Rattle.std.proofs.Common.{◌≤◌, length}
use Rattle.pgproto.proofs.words.digits.Given as goal

-- a number is read from here on; what is kept is that number, or above all others
abbrev pub invariant-loop-rest : goal.invariant-loop-rest
invariant-loop-rest l = record {
  small : l.number ≤ 4294967296;
  going : Rattle.pgproto.proofs.Digits.Going l.number l.rest l.bytes;
}

abbrev pub decreases-loop-rest : goal.decreases-loop-rest
decreases-loop-rest l = length l.rest
