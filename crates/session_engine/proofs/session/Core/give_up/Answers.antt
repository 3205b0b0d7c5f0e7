use Rattle.std.proofs.Common.{◌∙◌}
use Rattle.std.proofs.Math.Logic.{∥∥₁_map}
use Rattle.session_engine.specs.Meaning.{machine_of}
use Rattle.session_engine.proofs.Soundness.{left_sound}
use Rattle.session_engine.proofs.Classes.{left_keeps, carried}
use Rattle.session_engine.proofs.Calls.{leave_is, led}
use Rattle.session_engine.proofs.session.Core.give_up.Goals as goal

pub invariant_of-self : goal.invariant_of-self
invariant_of-self c =
    let m = machine_of c.args.self.now.standing in
    record {
      sound = ∥∥₁_map c.args.self.now.sound (λ sound. led _ _ c.left.ensures (left_sound m.session m.point sound));
      classed = carried _ _ c.left.ensures (left_keeps m.session m.point);
    }

pub returns : goal.returns
returns c = λ moment. c.left.ensures ∙ leave_is (machine_of c.args.self.now.standing) moment
