use Rattle.std.proofs.Common.{◌∙◌}
use Rattle.std.proofs.Math.Logic.{∥∥₁_map}
use Rattle.session_engine.specs.Meaning.{session_of, machine_of}
use Rattle.session_engine.proofs.Events.{taken_sound}
use Rattle.session_engine.proofs.Classes.{taken_keeps, carried}
use Rattle.session_engine.proofs.Calls.{taken_is, waiting, room, led}
use Rattle.session_engine.proofs.session.Core.backend_answer.Goals as goal

pub taken-requires-clause-due : goal.taken-requires-clause-due
taken-requires-clause-due c = waiting (session_of c.args.self.now.standing) c.args.self.now.standing.due c.args.b c.requires.0

pub taken-requires-clause-room : goal.taken-requires-clause-room
taken-requires-clause-room c =
    room (session_of c.args.self.now.standing) c.args.self.now.standing.due c.args.b c.args.self.now.sound c.requires.0

pub invariant_of-self : goal.invariant_of-self
invariant_of-self c =
    let m = machine_of c.args.self.now.standing in
    record {
      sound =
          ∥∥₁_map c.args.self.now.sound
          (λ sound. led _ _ c.taken.ensures (taken_sound m.session c.args.b c.args.answer m.point sound c.requires.0 c.requires.1));
      classed = carried _ _ c.taken.ensures (taken_keeps m.session c.args.b c.args.answer m.point c.args.self.now.classed);
    }

pub returns : goal.returns
returns c = c.taken.ensures ∙ taken_is (machine_of c.args.self.now.standing) c.args.b c.args.answer
