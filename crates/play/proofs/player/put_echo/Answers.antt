use Rattle.pgproto.specs.Line.{line_of}
use Rattle.pgproto.specs.Spelling.{echoed}
use Rattle.play.specs.Transcript.{ended}
use Rattle.play.proofs.Asking.{whatever}
use Rattle.play.proofs.Replying.{front_nothing}
use Rattle.play.proofs.player.put_echo.Goals as goal

pub returns-in_err-text-clause-front : goal.returns-in_err-text-clause-front
returns-in_err-text-clause-front g c = whatever c.from_residual.result (front_nothing (g.O.Sink.taken c.args.out.now) (ended (echoed (line_of c.args.line.now))))
