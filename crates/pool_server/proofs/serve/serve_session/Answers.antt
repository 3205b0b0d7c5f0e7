use Rattle.pool_server.proofs.serve.serve_session.Goals as goal

pub returns-clause-served : goal.returns-clause-served
returns-clause-served g c = record { calls = g.G.GatePass.calls c.run-cause.new.around.gate; stand = g.G.GatePass.stand c.run-cause.new.around.gate; serves = c.run-cause.ensures.serves; out = c.come_out.ensures.calls }
