use Rattle.std.proofs.Math.Logic.{∥∥₁_map}
use Rattle.session_machine.specs.Rules.{next_action}
use Rattle.session_engine.specs.Meaning.{machine_of}
use Rattle.session_engine.proofs.Calls.{gate_event_sound, led}
use Rattle.session_engine.proofs.Classes.{gate_event_keeps, carried}
use Rattle.session_engine.proofs.session.Core.gate_answer.Goals as goal

pub invariant_of-self : goal.invariant_of-self
invariant_of-self c =
    let m = machine_of c.args.self.now.standing in
    record {
      sound = ∥∥₁_map c.args.self.now.sound (λ sound. led _ _ c.gate_answered.ensures (gate_event_sound m (next_action m) c.args.answer sound));
      classed = carried _ _ c.gate_answered.ensures (gate_event_keeps m (next_action m) c.args.answer c.args.self.now.classed);
    }
