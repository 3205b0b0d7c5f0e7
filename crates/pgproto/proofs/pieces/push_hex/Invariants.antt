use Rattle.std.proofs.Common.{◌≡◌, ◌++◌, flat_map, take}
use Rattle.pgproto.specs.Spelling.{two_digits}
use Rattle.pgproto.proofs.pieces.push_hex.Given as goal

abbrev pub invariant-loop-byte : goal.invariant-loop-byte
invariant-loop-byte l = l.onto ≡ l.initial.onto ++ flat_map two_digits (take l.byte-index l.bytes)
