use Rattle.std.proofs.Math.Logic.{∥∥₁_map}
use Rattle.session_engine.specs.Meaning.{session_of, machine_of}
use Rattle.session_engine.proofs.Events.{handed_too}
use Rattle.session_engine.proofs.Classes.{carried, handed_own}
use Rattle.session_engine.proofs.Calls.{is_ending, led}
use Rattle.session_engine.proofs.session.Core.end.Goals as goal

pub end_here-requires : goal.end_here-requires
end_here-requires c = is_ending (session_of c.args.self.now.standing) c.args.self.now.standing.due c.requires

pub invariant_of-self : goal.invariant_of-self
invariant_of-self c =
    let m = machine_of c.args.self.now.standing in
    record {
      sound = ∥∥₁_map c.args.self.now.sound (λ sound. led _ _ c.end_here.ensures (handed_too m sound));
      classed = carried _ _ c.end_here.ensures (handed_own m c.args.self.now.classed);
    }
