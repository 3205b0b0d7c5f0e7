use Rattle.session_wire.proofs.wire.Wire.refused.Goals as goal

pub returns-in_ok-put_error-in-Error-clause-says : goal.returns-in_ok-put_error-in-Error-clause-says
returns-in_ok-put_error-in-Error-clause-says c =
    rw c.in-Error.is (rw c.saying_of-saying.ensures at (rw c.as_bytes.ensures at c.in_ok-put_error-in-Error.ensures.ok))
