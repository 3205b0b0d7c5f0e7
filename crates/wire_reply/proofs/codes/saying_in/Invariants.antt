use Rattle.std.proofs.Common.{◌≡◌, drop}
use Rattle.wire_reply.specs.Codes.{saying_in}
use Rattle.wire_reply.proofs.codes.saying_in.Given as goal

abbrev pub invariant-loop-row : goal.invariant-loop-row
invariant-loop-row l = saying_in l.code.bytes l.table ≡ saying_in l.code.bytes (drop l.row-index l.table)
