use Rattle.std.proofs.Common.{map}
use Rattle.std.proofs.lemmas.Bool.{false≢true}
use Rattle.pgproto.specs.Line.{line_of}
use Rattle.play.specs.Parts.{part_of}
use Rattle.play.proofs.Sessions.{reached_first, session_not, session_on}
use Rattle.play.proofs.script.is_session.Goals as goal

pub loop-line-init : goal.loop-line-init
loop-line-init c = reached_first (map line_of c.args.script.now)

pub loop-line-preserved : goal.loop-line-preserved
loop-line-preserved c =
    session_on line_of c.args.script.now c.loop-line.line-index (part_of c.loop-line.part) c.loop-line.invariant c.line-item.result (part_of c.in-Some.next) c.loop-line-test.true c.line-item.is c.in-Some.ensures

pub returns-in-None : goal.returns-in-None
returns-in-None c = (
  λ never. absurd (false≢true never),
  λ is. absurd (session_not line_of c.args.script.now c.loop-line.line-index (part_of c.loop-line.part) c.loop-line.invariant c.line-item.result c.loop-line-test.true c.line-item.is c.in-None.ensures is),
)
