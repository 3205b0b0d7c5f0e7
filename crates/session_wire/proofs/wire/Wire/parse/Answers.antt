use Rattle.session_wire.proofs.wire.Wire.parse.Goals as goal

pub returns-clause-parses : goal.returns-clause-parses
returns-clause-parses c = record {
  session = c.parse.new.session;
  reply = c.in_ok-replied.replied;
  tells = c.in_ok-replied.ensures.tells;
  leaves = c.in_ok-replied.ensures.leaves;
  replies = c.in_ok-body.ensures.replies;
}
