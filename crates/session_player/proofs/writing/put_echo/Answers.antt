use Rattle.pgproto.specs.Line.{line_of}
use Rattle.pool_base.proofs.Sinking.{front_nothing}
use Rattle.session_player.specs.Written.{echo_of}
use Rattle.session_player.proofs.Breaking.{on_err_always}
use Rattle.session_player.proofs.writing.put_echo.Goals as goal

pub returns-in_err-text-clause-front : goal.returns-in_err-text-clause-front
returns-in_err-text-clause-front g c = on_err_always c.from_residual.result (front_nothing (g.O.Sink.taken c.args.out.now) (echo_of (line_of c.args.line.now)))
