use Rattle.std.proofs.Common.{◌≡◌, ◌++◌, length}
use Rattle.std.specs.Prelude.{IsUtf8, string_bytes}
use Rattle.sql_tokens.specs.Pieces.{doubled}
use Rattle.sql_tokens.proofs.quoted.quoted.Given as goal

-- what was read, doubled, and what is left are the bytes
abbrev pub invariant-loop-part : goal.invariant-loop-part
invariant-loop-part l = record {
  utf8 : IsUtf8 l.left;
  parts : l.bytes ≡ doubled l.quote (string_bytes l.text) ++ l.left;
}

abbrev pub decreases-loop-part : goal.decreases-loop-part
decreases-loop-part l = length l.left
