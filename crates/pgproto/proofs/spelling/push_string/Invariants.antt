use Rattle.std.proofs.Common.{◌≡◌, ◌++◌, flat_map, take}
use Rattle.pgproto.specs.Words.{escaped}
use Rattle.pgproto.proofs.spelling.push_string.Given as goal

abbrev pub invariant-loop-byte : goal.invariant-loop-byte
invariant-loop-byte l = l.onto ≡ l.initial.onto ++ flat_map escaped (take l.byte-index l.bytes)
