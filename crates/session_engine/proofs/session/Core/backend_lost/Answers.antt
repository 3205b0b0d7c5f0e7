use Rattle.std.proofs.Common.{◌∙◌}
use Rattle.std.proofs.Math.Logic.{∥∥₁_map}
use Rattle.session_engine.specs.Meaning.{session_of, machine_of}
use Rattle.session_engine.proofs.Events.{faulted_sound}
use Rattle.session_engine.proofs.Classes.{faulted_keeps, carried}
use Rattle.session_engine.proofs.Calls.{faulted_is, waiting, led}
use Rattle.session_engine.proofs.session.Core.backend_lost.Goals as goal

pub faulted-requires : goal.faulted-requires
faulted-requires c = waiting (session_of c.args.self.now.standing) c.args.self.now.standing.due c.args.b c.requires.0

pub invariant_of-self : goal.invariant_of-self
invariant_of-self c =
    let m = machine_of c.args.self.now.standing in
    record {
      sound =
          ∥∥₁_map c.args.self.now.sound
          (λ sound. led _ _ c.faulted.ensures (faulted_sound m.session c.args.before c.args.after m.point sound));
      classed = carried _ _ c.faulted.ensures (faulted_keeps m.session c.args.before c.args.after m.point c.args.self.now.classed);
    }

pub returns : goal.returns
returns c = c.faulted.ensures ∙ faulted_is (machine_of c.args.self.now.standing) c.args.b c.args.before c.args.after
