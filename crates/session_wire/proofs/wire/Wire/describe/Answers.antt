use Rattle.session_wire.proofs.wire.Wire.describe.Goals as goal

pub returns-clause-describes : goal.returns-clause-describes
returns-clause-describes c = record { reply = c.in_ok-replied.replied; tells = c.in_ok-replied.ensures; replies = c.in_ok-body.ensures.replies }
