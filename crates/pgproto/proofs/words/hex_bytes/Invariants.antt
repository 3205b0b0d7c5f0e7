use Rattle.std.proofs.Common.{◌≤◌, length, suc}
use Rattle.pgproto.specs.Reading.{bytes_at, hex_byte}
use Rattle.pgproto.proofs.Loop.{Going}
use Rattle.pgproto.proofs.words.hex_bytes.Given as goal

-- what was read and what is still read are what is read of all bytes
abbrev pub invariant-loop-found : goal.invariant-loop-found
invariant-loop-found l = record {
  going : Going hex_byte l.found.items l.rest (bytes_at hex_byte (suc (length l.bytes)) l.bytes);
  shorter : length l.rest ≤ length l.bytes;
}

abbrev pub decreases-loop-found : goal.decreases-loop-found
decreases-loop-found l = length l.rest
