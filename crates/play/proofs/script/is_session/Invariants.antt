use Rattle.std.proofs.Common.{drop, map}
use Rattle.pgproto.specs.Line.{line_of}
use Rattle.play.specs.Parts.{part_of}
use Rattle.play.proofs.Sessions.{Reached}
use Rattle.play.proofs.script.is_session.Given as goal

abbrev pub invariant-loop-line : goal.invariant-loop-line
invariant-loop-line l = Reached (part_of l.part) (map line_of l.script) (map line_of (drop l.line-index l.script))
