use Rattle.session_wire.proofs.wire.Wire.bind.Goals as goal

pub returns-clause-binds : goal.returns-clause-binds
returns-clause-binds c = record {
  session = c.bind_portal.new.session;
  reply = c.in_ok-replied.replied;
  tells = c.in_ok-replied.ensures.tells;
  leaves = c.in_ok-replied.ensures.leaves;
  replies = c.in_ok-body.ensures.replies;
}
