use Rattle.session_wire.proofs.wire.Wire.statement.Goals as goal

pub returns-in_ok-put_error-in-Error-clause-says : goal.returns-in_ok-put_error-in-Error-clause-says
returns-in_ok-put_error-in-Error-clause-says c = rw c.in-Error.is (rw c.of_backend.ensures at c.in_ok-put_error-in-Error.ensures.ok)
