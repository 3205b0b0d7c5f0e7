use Rattle.std.proofs.Common.{◌∙◌}
use Rattle.std.proofs.Math.Logic.{∥∥₁_map}
use Rattle.session_engine.specs.Meaning.{session_of, machine_of}
use Rattle.session_engine.proofs.Events.{posted_sound}
use Rattle.session_engine.proofs.Calls.{posted_is, posting, led}
use Rattle.session_engine.proofs.Classes.{posted_keeps, carried}
use Rattle.session_engine.proofs.session.Core.posted.Goals as goal

pub posted-requires : goal.posted-requires
posted-requires c = posting (session_of c.args.self.now.standing) c.args.self.now.standing.due c.requires

pub invariant_of-self : goal.invariant_of-self
invariant_of-self c =
    let m = machine_of c.args.self.now.standing in
    record {
      sound = ∥∥₁_map c.args.self.now.sound (λ sound. led _ _ c.posted.ensures (posted_sound m.session m.point sound));
      classed = carried _ _ c.posted.ensures (posted_keeps m.session m.point c.args.self.now.classed);
    }

pub returns : goal.returns
returns c = λ b request. c.posted.ensures ∙ posted_is (machine_of c.args.self.now.standing) b request
