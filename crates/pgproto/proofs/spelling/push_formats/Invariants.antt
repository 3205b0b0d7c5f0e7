use Rattle.std.proofs.Common.{◌≡◌, ◌++◌, take}
use Rattle.pgproto.specs.Spelling.{each_spelled}
use Rattle.std.specs.Fmt.{decimal}
use Rattle.pgproto.proofs.spelling.push_formats.Given as goal

abbrev pub invariant-loop-format : goal.invariant-loop-format
invariant-loop-format l = l.onto ≡ l.initial.onto ++ each_spelled decimal (take l.format-index l.formats)
