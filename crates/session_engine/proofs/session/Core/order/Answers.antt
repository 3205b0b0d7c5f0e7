use Rattle.std.proofs.Common.{◌≡◌, OnOk, true, subst}
use Rattle.std.proofs.Math.Logic.{∥∥₁_map}
use Rattle.session_machine.specs.declared.machine.Machine.{Machine}
use Rattle.session_machine.specs.Rules.{ordered}
use Rattle.session_engine.specs.Meaning.{machine_of}
use Rattle.session_engine.specs.Sound.{IsSound, is_classed_in}
use Rattle.session_engine.proofs.Soundness.{ordered_sound}
use Rattle.session_engine.proofs.Classes.{ordered_keeps}
use Rattle.session_engine.proofs.Calls.{order_is, led_or_kept}
use Rattle.session_engine.proofs.session.Core.order.Goals as goal

pub ordered-requires : goal.ordered-requires
ordered-requires c = c.requires.1

pub invariant_of-self : goal.invariant_of-self
invariant_of-self c =
    let m = machine_of c.args.self.now.standing in
    let next = ordered m.session m.point c.args.order.moment c.args.order.body in
    let n = machine_of c.ordered.new.self in
    record {
      sound =
          ∥∥₁_map c.args.self.now.sound
          (λ sound. led_or_kept IsSound c.ordered.result m next n c.ordered.ensures.led c.ordered.ensures.as_before
          (ordered_sound m.session m.point c.args.order.moment c.args.order.body sound) sound);
      classed =
          led_or_kept (λ (n : Machine). is_classed_in n.point ≡ true) c.ordered.result m next n c.ordered.ensures.led c.ordered.ensures.as_before
          (ordered_keeps m.session m.point c.args.order.moment c.args.order.body) c.args.self.now.classed;
    }

pub returns-clause-state : goal.returns-clause-state
returns-clause-state c =
    let m = machine_of c.args.self.now.standing in
    subst (λ (n : Machine). OnOk c.ordered.result (machine_of c.ordered.new.self ≡ n)) (order_is m c.args.order) c.ordered.ensures.led
