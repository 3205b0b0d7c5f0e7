use Rattle.std.proofs.Common.{◌≡◌, ◌++◌, take}
use Rattle.pgproto.specs.Spelling.{each_spelled}
use Rattle.std.specs.Fmt.{decimal}
use Rattle.pgproto.proofs.spelling.push_kinds.Given as goal

abbrev pub invariant-loop-kind : goal.invariant-loop-kind
invariant-loop-kind l = l.onto ≡ l.initial.onto ++ each_spelled decimal (take l.kind-index l.kinds)
