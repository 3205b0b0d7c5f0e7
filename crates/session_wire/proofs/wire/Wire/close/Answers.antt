use Rattle.std.proofs.Common.{ℕ, List, ◌++◌, refl, ap, ◌∙◌}
use Rattle.session_wire.specs.Hears.{with_session}
use Rattle.session_wire.specs.Shown.{shown}
use Rattle.session_wire.proofs.wire.Wire.close.Goals as goal

pub returns-clause-closes : goal.returns-clause-closes
returns-clause-closes c = record {
  session = c.drop_name.new.self.session;
  drops = c.drop_name.ensures.drops;
  bytes = c.in_ok-reply.reply;
  is_reply = c.in_ok-reply.ensures;
  done = (refl, c.drop_name.ensures.names ∙ ap (λ (bytes : List ℕ). record (with_session c.drop_name.new.self.session (shown c.args.self.now)) { output = bytes }) (c.in_ok-extend_from_slice.ensures.items ∙ ap (λ (bytes : List ℕ). (shown c.args.self.now).output ++ bytes) c.as_slice.ensures));
}
