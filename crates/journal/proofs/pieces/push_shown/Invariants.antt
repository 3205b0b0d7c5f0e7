use Rattle.std.proofs.Common.{◌≡◌, ◌++◌, string_bytes, take}
use Rattle.pgproto.specs.Rendering.{shown}
use Rattle.journal.proofs.pieces.push_shown.Given as goal

abbrev pub invariant-loop-byte : goal.invariant-loop-byte
invariant-loop-byte l = string_bytes l.onto ≡ string_bytes l.initial.onto ++ shown (take l.byte-index l.text)
