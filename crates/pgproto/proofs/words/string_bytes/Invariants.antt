use Rattle.std.proofs.Common.{◌≤◌, length, suc}
use Rattle.pgproto.specs.Reading.{bytes_at, string_byte}
use Rattle.pgproto.proofs.Loop.{Going}
use Rattle.pgproto.proofs.words.string_bytes.Given as goal

-- what was read and what is still read are what is read of all bytes
abbrev pub invariant-loop-text : goal.invariant-loop-text
invariant-loop-text l = record {
  going : Going string_byte l.text.items l.rest (bytes_at string_byte (suc (length l.bytes)) l.bytes);
  shorter : length l.rest ≤ length l.bytes;
}

abbrev pub decreases-loop-text : goal.decreases-loop-text
decreases-loop-text l = length l.rest
