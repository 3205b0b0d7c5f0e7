use Rattle.std.proofs.Common.{◌≡◌, ◌++◌, map, take}
use Rattle.schema.specs.Reading.{plain_byte}
use Rattle.schema.proofs.text.push_plain.Given as goal

abbrev pub invariant-loop-byte : goal.invariant-loop-byte
invariant-loop-byte l = l.onto.items ≡ l.initial.onto.items ++ map plain_byte (take l.byte-index l.rest)
